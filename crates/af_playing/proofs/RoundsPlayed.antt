-- What is so between two rounds of a play: before the first of them, after one more, and at the end.
use Rattle.std.proofs.Common.{◌≡◌, ◌+◌, ◌-◌, ◌<◌, ◌++◌, ◌∷◌, ℕ, Option, List, [], false, true, length, append_assoc, refl, sym, ap, subst, ◌∙◌, arith}
use Rattle.af_playing.proofs.Common.{All, AreNoted, AreTogether, CarriesOn, FastState, Given, HasPlacesAt, HasRanges, IsFrame, IsNewSession, IsReady, IsReadyOn, IsTally, KeepsSound, LoggingState, LogsPlay, MixerState, NotesFrames, Rig, Room, RoundNoted, RoundsNoted, Roomy, ScriptData, SessionState, SharedState, Stage, Tallied, TrackSpec, all_noted, empty_first, frames_first, given_of, journal_of, length-append, noted_none, nothing_shown, pcm_of, places_first, ready_first, shown_at, tally_first}
use Rattle.af_playing.proofs.ExitSeen.{Knowing, round_knows}
use Rattle.af_playing.proofs.GoingOn.{few_so_far, goes_further}
use Rattle.af_playing.proofs.RoundsLeft.{IsGoing, going_first}
use Rattle.af_playing.proofs.RoundsOfAll.{noted_of_all, tally_of_all}
use Rattle.af_playing.proofs.RunOfAll.{knowing_first, plays, run_of_more, run_of_none}
use Rattle.af_playing.specs.PlayedRuns.{GoesOn, IsRunOfAll, Plays, RunsOfAll, all_ended, is_full}
use Rattle.af_playing.specs.PlayedStages.{HasPlayed, HasPlayedRounds, NotesNone, NotesRound}
use Rattle.af_playing.specs.declared.noted.Noted.{Noted}
use Rattle.af_rendering.proofs.StagesRun.{is_noted}
use Rattle.af_rendering.specs.Rendered.{HaveFiles}
use Rattle.af_side_by_side.specs.TurnsInRoom.{PlaysRound}

-- ## How long a run goes on

-- a run of parties that know how it stands: after each round all have ended, or the log has one entry more
run_goes : (g : Given) (i : ℕ) (s : SessionState) (rounds : List RoundNoted) (bytes : List ℕ) (t : SessionState) → IsRunOfAll g s rounds bytes t → Knowing s → IsGoing i s → Knowing t × IsGoing (i + length rounds) t
run_goes g i s [] bytes t run knows going = subst (λ (x : ℕ × SessionState). Knowing x.1 × IsGoing x.0 x.1) (λ k. ((let e : i ≡ i + 0 = omega arith in e) k, sym run.1 k)) (knows, going)
run_goes g i s (r ∷ rs) bytes t (front, back, m, goes, is, round, rest) knows going =
    let fast = round.together.0.fast.0 in
    subst (λ (n : ℕ). Knowing t × IsGoing n t) (let e : (i + 1) + length rs ≡ i + length (r ∷ rs) = omega arith in e)
    (run_goes g (i + 1) m rs back t rest (round_knows g s m r front knows round) (goes_further g i s m r front knows fast.keeps.exited_is fast.room.entries.0 goes going round))

module _ (script : ScriptData) (rig : Rig) where
  abbrev given : Given
  given = given_of rig

  abbrev tracks : ℕ
  tracks = length rig.tracks.now

  -- ## Before the first

  pub played_none : (kept : Option ℕ) → rig.tracks.now ≡ script.tracks → (shared : SharedState) (s : SessionState) → IsNewSession script shared s → HaveFiles (record { tracks = script.tracks; files = rig.files.now }) → AreTogether rig.links s
      → (tally : Tallied) → IsTally (nothing_shown script.frames (length script.tracks)) tally → (noted : Noted) → NotesNone (length script.tracks) noted → LogsPlay kept s.fast [] noted.logging → HasPlayedRounds script kept rig noted s tally
  played_none kept here shared s new have together tally none noted are log =
      let files = rig.files.now in
      let empty = empty_first script shared s new files in
      let ready : IsReadyOn rig 0 s = subst (λ (ts : List TrackSpec). IsReady rig.links (record { tracks = ts; files = files }) 0 s) (sym here) (ready_first script shared s new files rig.links have together) in
      let is : IsTally (nothing_shown s.fast.frames tracks) tally =
      subst (λ (x : ℕ × List TrackSpec). IsTally (nothing_shown x.0 (length x.1)) tally) (λ k. (sym (frames_first script shared s new files) k, sym here k)) none in
      let nothing : noted.rounds ≡ record { tracks = tracks; rounds = [] } = are ∙ ap (λ (ts : List TrackSpec). record { tracks = length ts; rounds = [] }) (sym here) in
      subst (λ (x : RoundsNoted). HasPlayedRounds script kept rig (record { rounds = x; logging = noted.logging }) s tally) (sym nothing) (record {
        here = here;
        shared = shared;
        start = s;
        new = new;
        run = run_of_none given s;
        few = omega arith;
        ready = ready;
        tally_is = tally_first tracks s.fast tally empty.0 is;
        places = places_first s.fast.frames tracks (length s.clients) (length s.fast.log.entries) tally (sym ready.given.0) is;
        form = noted_none tracks s.fast.log empty.0 empty.1;
        sizes = (refl, refl);
        log = log;
      })

  module _ (kept : Option ℕ) (noted : Noted) (t : SessionState) (tally : Tallied) (so : HasPlayedRounds script kept rig noted t tally) where
    abbrev i : ℕ
    i = length noted.rounds.rounds

    -- the rounds noted are those of a play of the script
    come_of : (rounds : List RoundNoted) (x : SessionState) → RunsOfAll given so.start rounds x → Plays script rig.files.now rounds x
    come_of rounds x runs =
        plays script so.shared so.start so.new rig.files.now rounds x (subst (λ (ts : List TrackSpec). RunsOfAll (record { tracks = ts; files = rig.files.now }) so.start rounds x) so.here runs)

    pub come : Plays script rig.files.now noted.rounds.rounds t
    come = come_of noted.rounds.rounds t so.run

    cycles : t.fast.cycles ≡ script.cycles
    cycles = so.sizes.1 ∙ ap (λ (m : MixerState). m.cycles) so.new.fast

    -- the log may have as many entries as the script has cycles
    pub cycles_are : script.cycles ≡ t.fast.cycles
    cycles_are = sym cycles

    -- ## A round more

    module _ (goes : GoesOn t) where
      few_rounds : i < t.fast.cycles
      few_rounds =
          let going = run_goes given 0 so.start noted.rounds.rounds so.run.bytes t so.run.run (knowing_first script so.shared so.start so.new) (going_first so.start) in
          few_so_far i t so.ready.together.fast.0.room.entries.0 goes (subst (λ (n : ℕ). IsGoing n t) (let e : 0 + i ≡ i = omega arith in e) going.1)

      few_more : i < 100000
      few_more = let few = few_rounds in let most = so.ready.together.fast.0.room.sized.2 in omega arith

      -- it is ready for the next, which has its places
      pub ready_for : (n : ℕ) × (n < 131072) × IsReadyOn rig n t
      ready_for = (i, (let few = few_more in omega (arith, few)), so.ready)

      pub places_for : (n : ℕ) × (n < 100000) × HasPlacesAt n t tally
      places_for = (i, few_more, so.places)

      module _ (t' : SessionState) (room room' : Room) (same : room.tally ≡ tally) (on : CarriesOn rig (all_noted t t') t t' room room') (round : PlaysRound given t t' room room') (keeps : KeepsSound t.fast t'.fast room.bytes.items room'.bytes.items)
          (ends : (front : List ℕ) × (front ++ room.bytes.items ≡ pcm_of t.fast.frames t.fast.log)) where
        abbrev r : RoundNoted
        r = all_noted t t'

        abbrev added : List ℕ
        added = round.0

        -- its bytes are the sound that came
        more : pcm_of t.fast.frames t.fast.log ++ added ≡ pcm_of t.fast.frames t'.fast.log
        more =
            ap (λ (xs : List ℕ). xs ++ added) (sym ends.1)
            ∙ append_assoc ends.0 room.bytes.items added
            ∙ ap (λ (xs : List ℕ). ends.0 ++ xs) (sym (ap (λ (b : Roomy ℕ). b.items) round.1))
            ∙ keeps ends.0 ends.1

        runs_more : RunsOfAll given so.start (noted.rounds.rounds ++ r ∷ []) t'
        runs_more = run_of_more given so.start t t' noted.rounds.rounds so.run goes r added round.2 (subst (λ (n : ℕ). pcm_of n t.fast.log ++ added ≡ pcm_of n t'.fast.log) so.sizes.0 more)

        -- whether it was noted or not, the rounds are those of a play
        pub come_more : (rounds : List RoundNoted) × Plays script rig.files.now rounds t'
        come_more = (noted.rounds.rounds ++ r ∷ [], come_of (noted.rounds.rounds ++ r ∷ []) t' runs_more)

        module _ (rounds' : RoundsNoted) (notes : NotesRound r noted.rounds rounds') where
          one_more : length rounds'.rounds ≡ i + 1
          one_more = ap (λ (x : RoundsNoted). length x.rounds) notes ∙ length-append noted.rounds.rounds (r ∷ [])

          -- fewer are left
          pub fewer_left : script.cycles - length rounds'.rounds < script.cycles - length noted.rounds.rounds
          fewer_left = (let few = few_rounds in omega (arith, one_more, few, cycles))

          pub played_more : (logging : LoggingState) → NotesFrames r → LogsPlay kept t'.fast (noted.rounds.rounds ++ r ∷ []) logging → HasPlayedRounds script kept rig (record { rounds = rounds'; logging = logging }) t' room'.tally
          played_more logging frames log = record {
            here = so.here;
            shared = so.shared;
            start = so.start;
            new = so.new;
            run = subst (λ (x : RoundsNoted). RunsOfAll given so.start x.rounds t') (sym notes) runs_more;
            few = (let few = few_rounds in omega (arith, one_more, few, cycles));
            ready = subst (λ (n : ℕ). IsReadyOn rig n t') (sym one_more) (on.ready i so.ready);
            tally_is = subst (λ (x : RoundsNoted). (state : FastState) → IsTally (shown_at state tracks x.rounds t'.fast) room'.tally) (sym notes)
                (λ state. on.tally state tracks noted.rounds.rounds (subst (λ (y : Tallied). IsTally (shown_at state tracks noted.rounds.rounds t.fast) y) (sym same) (so.tally_is state)));
            places = subst (λ (n : ℕ). HasPlacesAt n t' room'.tally) (sym one_more) (on.places i (subst (HasPlacesAt i t) (sym same) so.places));
            form = subst (λ (x : RoundsNoted). AreNoted tracks x t'.fast.log) (sym notes) (noted_of_all rig.links given i t so.ready r added t' round.2 frames noted.rounds so.form);
            sizes = (on.sizes.0 ∙ so.sizes.0, on.sizes.1 ∙ so.sizes.1);
            log = subst (λ (x : RoundsNoted). LogsPlay kept t'.fast x.rounds logging) (sym notes) log;
          }

-- ## At the end

pub has_played : (script : ScriptData) (rig : Rig) (kept : Option ℕ) (noted : Noted) (s : Stage) → s.room.released ≡ record { items = []; room = length script.tracks } → HasPlayedRounds script kept rig noted s.parties s.room.tally → (all_ended s.parties ≡ false → is_full s.parties ≡ true)
    → All IsFrame s.parties.fast.log.frames → HasRanges (journal_of noted.rounds s.parties.fast.log) → HasPlayed script rig.files.now noted.rounds s
has_played script rig kept noted s room so over samples numbers =
    let n : ℕ = length noted.rounds.rounds in
    record {
      all = come script rig kept noted s.parties s.room.tally so;
      over = over;
      few = so.few;
      noted = is_noted script rig so.here s room n so.ready noted.rounds so.form samples numbers
          (tally_of_all script so.shared so.start so.new rig.links (given_of rig) n noted.rounds s.parties s.room.tally so.ready so.run so.form.tracks_are so.sizes.0 so.tally_is);
      frames = so.sizes.0 ∙ frames_first script so.shared so.start so.new rig.files.now;
      entries = so.ready.together.fast.0.room.entries.0;
    }
