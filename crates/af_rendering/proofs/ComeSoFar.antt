-- How far a render has come: before its first turn, after one more, and at the end.
use Rattle.std.proofs.Common.{◌≡◌, ◌+◌, ◌-◌, ◌<◌, ◌++◌, ℕ, List, [], ◌∷◌, length, take, get_or, append_assoc, Result, Ok, Err, OnOk, refl, sym, ap, subst, ◌∙◌, arith}
use Rattle.std.proofs.lemmas.List.Elements.{All-get_or}
use Rattle.af_rendering.proofs.Common.{All, AreTogether, CarriesOn, FollowsRound, Given, HasPlacesAt, HasRoundRoom, IsNewSession, IsReady, IsReadyOn, IsRound, IsTally, IsTurn, KeepsSound, NotesFrames, NotesNumbers, Rig, Room, RoundNoted, ScriptData, SessionState, SharedState, Tallied, TrackSpec, TurnSpec, given_of, nothing_shown, pcm_of, round_told}
use Rattle.af_rendering.specs.Rendered.{HaveFiles, Rendered, Runs}
use Rattle.af_base.specs.declared.want.Memory.{Memory}
use Rattle.std.specs.Prelude.{IsOk}
use Rattle.af_rendering.specs.Rounds.{RoundPlayed}
use Rattle.af_rendering.specs.SoFar.{HasPlayedTo, SoFar, TurnPlayed}
use Rattle.af_rendering.specs.Stages.{HasRoomToWait}
use Rattle.af_rendering.proofs.FirstRound.{empty_first, frames_first, ready_first, rendered}
use Rattle.af_rendering.proofs.NotedRounds.{round_noted, turn_stays}
use Rattle.af_rendering.proofs.RoundSounds.{round_sounds}
use Rattle.af_rendering.proofs.ShownWhole.{places_first}
use Rattle.af_rendering.proofs.TurnsPlayed.{so_far_more, so_far_none}

-- the bytes of a round have room behind those that wait
pub room_behind : (s : SessionState) (room : Room) → HasRoomToWait s room → (n : ℕ) × (n < 100000) × HasPlacesAt n s room.tally → HasRoundRoom s room
room_behind s room has places = record { buffer = has.buffer; bytes = omega (arith, has.waits, has.bytes); places = places }

-- no turn was played by the parties that were made of the script
pub played_none : (script : ScriptData) (rig : Rig) → rig.tracks.now ≡ script.tracks → (shared : SharedState) (s : SessionState) → IsNewSession script shared s → HaveFiles (record { tracks = script.tracks; files = rig.files.now }) → AreTogether rig.links s
    → (tally : Tallied) → IsTally (nothing_shown script.frames (length script.tracks)) tally → HasPlayedTo script rig 0 s tally
played_none script rig here shared s new have together tally none =
    let files = rig.files.now in
    let tracks : ℕ = length rig.tracks.now in
    let log = empty_first script shared s new files in
    let ready : IsReadyOn rig 0 s = subst (λ (ts : List TrackSpec). IsReady rig.links (record { tracks = ts; files = files }) 0 s) (sym here) (ready_first script shared s new files rig.links have together) in
    let is : IsTally (nothing_shown s.fast.frames tracks) tally =
    subst (λ (x : ℕ × List TrackSpec). IsTally (nothing_shown x.0 (length x.1)) tally) (λ k. (sym (frames_first script shared s new files) k, sym here k)) none in
    record {
      here = here;
      shared = shared;
      start = s;
      new = new;
      rounds = [];
      far = so_far_none (given_of rig) s tally log.0 log.1 is;
      few = omega arith;
      ready = ready;
      places = places_first s.fast.frames tracks (length s.clients) (length s.fast.log.entries) tally (sym ready.given.0) is;
      frames = refl;
    }

module _ (script : ScriptData) (rig : Rig) (n : ℕ) (s : SessionState) (tally : Tallied) (far : HasPlayedTo script rig n s tally) where
  abbrev given : Given
  given = given_of rig

  -- these turns were rendered
  pub come : Rendered script rig.files.now (take n script.turns) s
  come = (
    far.rounds,
    rendered script far.shared far.start far.new rig.files.now (take n script.turns) far.rounds s
        (subst (λ (ts : List TrackSpec). Runs (record { tracks = ts; files = rig.files.now }) (take n script.turns) far.start far.rounds s) far.here far.far.run),
  )

  -- one more turn was played
  module _ (turns : List TurnSpec) (are : turns ≡ script.turns) (d : TurnSpec) (lt : n < length script.turns) where
    abbrev turn : TurnSpec
    turn = get_or turns n d

    here : n < length turns
    here = let long = ap (λ (ts : List TurnSpec). length ts) are in omega (arith, lt, long)

    -- a turn of the script is one of these clients
    pub is_turn : All (IsTurn (length script.tracks)) script.turns → IsTurn (length s.clients) turn
    is_turn all =
        let each : All (IsTurn (length script.tracks)) turns = subst (λ (ts : List TurnSpec). All (IsTurn (length script.tracks)) ts) (sym are) all in
        subst (λ (k : ℕ). IsTurn k turn) (ap (λ (ts : List TrackSpec). length ts) (sym far.here) ∙ far.ready.given.0) (All-get_or (IsTurn (length script.tracks)) turns n d here each)

    module _ (t : SessionState) (room room' : Room) (same : room.tally ≡ tally) (on : CarriesOn rig (round_told turn s t) s t room room') where
      next : IsReadyOn rig (n + 1) t
      next = on.ready n far.ready

      -- and one of the clients after it
      pub still_turn : All (IsTurn (length script.tracks)) script.turns → IsTurn (length t.clients) turn
      still_turn all = turn_stays rig.links given n (n + 1) s t far.ready next turn (is_turn all)

      module _ (r : RoundNoted) (added : List ℕ) (round : IsRound given turn s r added t) where
        told : IsRound given turn s (round_told turn s t) added t
        told = round_noted rig.links given n (n + 1) s t far.ready next turn r added round

        more : pcm_of s.fast.frames s.fast.log ++ added ≡ pcm_of s.fast.frames t.fast.log
        more = round_sounds given turn s r added t far.ready.whole round

        -- its bytes are the sound that came
        pub keeps_sound : (bytes bytes' : List ℕ) → bytes' ≡ bytes ++ added → KeepsSound s.fast t.fast bytes bytes'
        keeps_sound bytes bytes' is = λ before whole. ap (λ (xs : List ℕ). before ++ xs) is ∙ sym (append_assoc before bytes added) ∙ ap (λ (xs : List ℕ). xs ++ added) whole ∙ more

        pub played_more : NotesFrames (round_told turn s t) → NotesNumbers (round_told turn s t) → HasPlayedTo script rig (n + 1) t room'.tally
        played_more frames numbers =
            let rounds = far.rounds ++ round_told turn s t ∷ [] in
            let so_far : SoFar given (take n turns) far.start far.rounds s tally = subst (λ (ts : List TurnSpec). SoFar given (take n ts) far.start far.rounds s tally) (sym are) far.far in
            record {
              here = far.here;
              shared = far.shared;
              start = far.start;
              new = far.new;
              rounds = rounds;
              far = subst (λ (ts : List TurnSpec). SoFar given (take (n + 1) ts) far.start rounds t room'.tally) are
                  (so_far_more rig.links d given turns n far.start s t far.rounds tally room'.tally here far.ready so_far added told
                  (subst (λ (k : ℕ). pcm_of k s.fast.log ++ added ≡ pcm_of k t.fast.log) far.frames more) frames numbers
                  (subst (λ (y : Tallied). FollowsRound (round_told turn s t) s.fast t.fast y room'.tally) same on.tally));
              few = omega (arith, lt);
              ready = next;
              places = on.places n (subst (HasPlacesAt n s) (sym same) far.places);
              frames = on.sizes.0 ∙ far.frames;
            }

-- a turn that was played is a round of a render
pub round_of_turn : (script : ScriptData) (rig : Rig) (n n' : ℕ) (s s' : SessionState) (r r' : Room) (answer : Result (Unit {0}) Memory) → n < length script.turns → OnOk answer (TurnPlayed script rig n n' s s' r r') × IsOk answer
    → RoundPlayed (HasPlayedTo script rig n' s') ((m : ℕ) × Rendered script rig.files.now (take m script.turns) s') (length script.turns - n' < length script.turns - n) s s' r r' answer
round_of_turn script rig n n' s s' r r' (Ok x) more (turn, ok) = record {
  between = turn.far;
  fewer = (let one = turn.one in omega (arith, one, more));
  came = (n', come script rig n' s' r'.tally turn.far);
  sizes = turn.sizes;
  room = turn.room;
  sound = turn.sound;
}
round_of_turn script rig n n' s s' r r' (Err e) more (turn, ok) = absurd (let e : ⊥ = cc in e)
