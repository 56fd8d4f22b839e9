-- The run that a legal journal records follows the parties that made it: their normal mixer in all that entries record of it, with the states that it pushed, and each client in the words that it released.
use Rattle.std.proofs.Common.{◌≡◌, ℕ, zero, suc, ◌+◌, ◌<◌, ◌==◌, Bool, true, false, if◌then◌else◌, MatchBool, List, [], ◌∷◌, ◌++◌, length, map, append-nil, drop, take, Option, Some, None, slice_get, true≢false, refl, sym, ap, subst, ◌∙◌, arith}
use Rattle.af_parties_law.proofs.Common.{Busy, Clean, ClientCall, ClientPart, ClientPlayed, ClientState, EntrySeen, FastState, Frame, Given, HandSide, IsNewSession, IsRoundOfAll, IsTrackAt, LegalRounds, LegalTurn, Made, Marks, MeetsAway, MeetsStream, NormalKept, NormalState, Outside, PartyState, Push, Pushed, RoundNoted, RoundSeen, Run, ScriptData, ServerState, Session, SessionState, Setup, SharedState, Spot, SpotMet, Track, Turn, TurnPlayed, Words, after_edits, called_at, called_long, calls_in, client_knows, client_made, clients_ended, clients_met, ends_keep, file_at, file_words, kept_of, learnt, length-map, length-range_with_len, mutator_list, new_run, new_told_track, number_seen, ops_at, push_list, pushed_by, pushed_states, range_with_len, round_words, rounds_seen, run_from, run_words, same_Some, script_setup, session_of, setup_of, slice_get_within, slice_index_or, track_count, track_of, track_words, tracks_of, turn_after, turn_of, turn_words, words_after, zip_at}
use Rattle.std.proofs.lemmas.Simd.{map-map}
use Rattle.af_entry_law.proofs.NormalRuns.{IsFollowed, rest_followed, turn_followed}
use Rattle.af_entry_law.specs.Told.{mixer_told}
use Rattle.af_model.specs.declared.states.MutatorEvent.TheVariants as mutator
use Rattle.af_runs.specs.Rounds.{LegalNormalTurn, after_round}
use Rattle.af_runs.specs.Told.{is_pushed}
use Rattle.af_playing.specs.PlayedRuns.{IsRunOfAll}
use Rattle.af_playing.proofs.PushedRuns.{pushed_append}
use Rattle.af_parties_law.proofs.RunSpelled.{calls_noted}

-- ## The states that a turn pushes

module _ {P : Type 0} (c : Setup) (o : Outside) (m : NormalKept) (e : Turn) (back again sent : List (Option P)) (going : m.ended ≡ false) (legal : LegalTurn c o m e) where
  one_pushed : (first : Bool) (number : ℕ) (x : NormalKept) → pushed_states ((if first then [] else mutator.SawAck x.pushed again ∷ []) ++ mutator.Push number x.draft sent ∷ []) ≡ x.draft ∷ []
  one_pushed true number x = refl
  one_pushed false number x = refl

  by_push : (push : Push) (x : NormalKept) → pushed_states (push_list x push again sent) ≡ (if is_pushed push then x.draft ∷ [] else [])
  by_push (Pushed number) x = one_pushed (x.pushed == 0) number x
  by_push Clean x = refl
  by_push (Busy seen expected) x = refl

  by_end : (b : Bool) → e.ended ≡ b → pushed_states (if b then [] else push_list (after_edits c (learnt o) e m) e.push again sent) ≡ (if is_pushed e.push then (after_edits c (learnt o) e m).draft ∷ [] else [])
  by_end true is = λ j. if sym (ap (λ (x : Turn). is_pushed x.push) (legal.still is)) j then (after_edits c (learnt o) e m).draft ∷ [] else []
  by_end false is = by_push e.push (after_edits c (learnt o) e m)

  by_going : (b : Bool) → m.ended ≡ b → b ≡ false → pushed_states (if b then [] else mutator.SawAck (number_seen m e.ack) back ∷ (if e.ended then [] else push_list (after_edits c (learnt o) e m) e.push again sent))
      ≡ (if is_pushed e.push then (after_edits c (learnt o) e m).draft ∷ [] else [])
  by_going true is off = absurd (true≢false off)
  by_going false is off = by_end e.ended refl

  -- the mutator's list grows by the draft if the turn pushes it
  turn_pushed : pushed_states (mutator_list c (learnt o) m e back again sent) ≡ pushed_by c o m e
  turn_pushed = by_going m.ended refl going

-- ## A client through the meetings

known_words : (c d : ClientState) (s : ServerState) → d ≡ client_knows c s → d.pass.part.frames ≡ c.pass.part.frames
known_words c d s is = ap (λ (x : ClientState). x.pass.part.frames) is

by_home : (block : Made) (s : ServerState) (h : Option HandSide) (c d : ClientState) (t : Option ServerState) (g : Option HandSide) → MeetsStream block (Some s) h c t g d → d.pass.part.frames ≡ c.pass.part.frames
by_home block s None c d t g m = known_words c d s m.3.client
by_home block s (Some h) c d t g m = known_words c d s m.4.client

by_away : (block : Made) (s : Option ServerState) (h g : HandSide) (c d : ClientState) (t : Option ServerState) → MeetsAway block s h c t g d → d.pass.part.frames ≡ c.pass.part.frames
by_away block None h g c d t m = ap (λ (x : ClientState). x.pass.part.frames) m.1.client
by_away block (Some s) h g c d t m = known_words c d s m.2.client

by_spot : (block : Made) (o : Option ServerState) (a b : Spot) (c d : ClientState) → SpotMet block o a c b d → d.pass.part.frames ≡ c.pass.part.frames
by_spot block None a b c d m = by_away block a.held m.hand m.hand' c d b.held m.met
by_spot block (Some s) a b c d m = by_home block s a.hand c d b.stream b.hand m.0

-- ## Who is followed

range_at : {X : Type 0} (f : ℕ → X) (a n i : ℕ) → i < n → slice_get (map f (range_with_len a n)) i ≡ Some (f (a + i))
range_at f a zero i lt = absurd (omega (arith, lt))
range_at f a (suc n) zero lt = let here : a ≡ a + 0 = omega arith in ap (λ (k : ℕ). Some (f k)) here
range_at f a (suc n) (suc i) lt = let here : (a + 1) + i ≡ a + suc i = omega arith in range_at f (a + 1) n i (omega (arith, lt)) ∙ ap (λ (k : ℕ). Some (f k)) here

module _ (script : ScriptData) (files : List (List Frame)) where
  abbrev s : Session
  s = session_of script files

  abbrev g : Given
  g = record { tracks = script.tracks; files = files }

  -- the words of a client's file and those that it released
  abbrev pub client_words : ℕ → PartyState → Words
  client_words i p = (file_words s i, p.stream.pass.part.frames)

  pub record Follows (x : SessionState) (run : Run) : Type 0 where
    pub normal : IsFollowed (kept_of x.normal) (pushed_states x.normal.mutator.past.events) run
    pub setup : setup_of x.normal ≡ script_setup script
    pub long : length (run_words run) ≡ length script.tracks
    pub clients : (i : ℕ) (p : PartyState) → slice_get x.clients i ≡ Some p → slice_get (run_words run) i ≡ Some (client_words i p)

  -- what holds before the first round
  module _ (shared : SharedState) (x : SessionState) (new : IsNewSession script shared x) where
    abbrev first_words : ℕ → Words
    first_words i = (file_words s i, [])

    new_words : map track_words (map (new_told_track s) (range_with_len 0 (track_count s))) ≡ map first_words (range_with_len 0 (track_count s))
    new_words = map-map track_words (new_told_track s) (range_with_len 0 (track_count s))

    new_client : (i : ℕ) (p : PartyState) → slice_get x.clients i ≡ Some p → slice_get (run_words (new_run s)) i ≡ Some (client_words i p)
    new_client i p at =
        let low : i < length script.tracks = omega (arith, slice_get_within x.clients i p at, new.tracks.parties) in
        let one : IsTrackAt script.version i script.tracks shared.streams shared.commands x.clients (tracks_of script x.normal) = new.tracks.each i low in
        let none : one.party.stream.pass.part.frames ≡ [] = ap (λ (y : ClientPart). y.frames) one.new.stream_line.client_new.part in
        let is : p.stream.pass.part.frames ≡ [] = subst (λ (q : PartyState). q.stream.pass.part.frames ≡ []) (same_Some one.party p (sym one.party_at ∙ at)) none in
        ap (λ (l : List Words). slice_get l i) new_words
        ∙ range_at first_words 0 (track_count s) i low
        ∙ (let here : 0 + i ≡ i = omega arith in λ j. Some (file_words s (here j), sym is j))

    pub new_follows : Follows x (new_run s)
    new_follows = record {
      normal = record { kept = ap mixer_told new.kept; pushed = ap pushed_states new.ends.mutator.silent.2 };
      setup = new.setup;
      long = ap (λ (l : List Words). length l) new_words ∙ length-map (range_with_len 0 (track_count s)) first_words ∙ length-range_with_len 0 (track_count s);
      clients = new_client;
    }

  -- ## A round

  module _ (x : SessionState) (r : RoundNoted) (bytes : List ℕ) (t : SessionState) (round : IsRoundOfAll g x r bytes t) (marks : Marks) (run : Run) (seen : RoundSeen) (calls : seen.calls ≡ r.calls) (turn : seen.turn ≡ r.turn)
      (follows : Follows x run) (legal : LegalNormalTurn s marks run seen) where
    abbrev u : SessionState
    u = round.turned

    abbrev states : List FastState
    states = pushed_states x.normal.mutator.past.events

    abbrev after : Run
    after = after_round s run seen

    abbrev MixerFollows : NormalState → Type 0
    MixerFollows m = IsFollowed (kept_of m) (pushed_states m.mutator.past.events) after × (setup_of m ≡ script_setup script)

    played_follows : x.normal.ended ≡ false → TurnPlayed x.normal u.normal → MixerFollows u.normal
    played_follows on (o, is, made) =
        let e : Turn = turn_of u.normal.entry in
        let told : seen.turn ≡ Some e = turn ∙ ap (λ (y : RoundNoted). y.turn) round.told ∙ (λ j. if on j then None else Some e) in
        let mine : LegalTurn (script_setup script) o (kept_of x.normal) e = subst (λ (c : Setup). LegalTurn c o (kept_of x.normal) e) follows.setup is.legal in
        let kept : kept_of u.normal ≡ turn_after (script_setup script) (learnt o) (kept_of x.normal) e = is.leaves ∙ ap (λ (c : Setup). turn_after c (learnt o) (kept_of x.normal) e) follows.setup in
        let pushed : pushed_states u.normal.mutator.past.events ≡ states ++ pushed_by (script_setup script) o (kept_of x.normal) e =
        ap pushed_states is.lists.mutator
        ∙ pushed_append x.normal.mutator.past.events (mutator_list (setup_of x.normal) (learnt o) (kept_of x.normal) e is.lists.back is.lists.again is.lists.sent)
        ∙ ap (λ (l : List FastState). states ++ l) (turn_pushed (setup_of x.normal) o (kept_of x.normal) e is.lists.back is.lists.again is.lists.sent on is.legal ∙ ap (λ (c : Setup). pushed_by c o (kept_of x.normal) e) follows.setup) in (
          subst (λ (y : NormalKept × List FastState). IsFollowed y.0 y.1 after) (λ j. (sym kept j, sym pushed j)) (turn_followed s marks run seen (kept_of x.normal) states follows.normal legal o e on told mine),
          is.setup ∙ follows.setup,
        )

    turned_follows : MixerFollows u.normal
    turned_follows = by_end x.normal.ended refl round.plays.normal
      where
        by_end : (b : Bool) → x.normal.ended ≡ b → MatchBool b (u.normal ≡ x.normal) (TurnPlayed x.normal u.normal) → MixerFollows u.normal
        by_end true off still = subst MixerFollows (sym still) (rest_followed s marks run seen (kept_of x.normal) states follows.normal legal off, follows.setup)
        by_end false on played = played_follows on played

    -- the meetings and the ends leave what the normal mixer keeps, and the states that it pushed
    mixer_follows : MixerFollows t.normal
    mixer_follows =
        let end : t.normal ≡ round.met.normal = ap (λ (y : SessionState). y.normal) round.ends ∙ (ends_keep round.met).normal in
        let met = round.meets.ends.normal in
        let pushed : pushed_states round.met.normal.mutator.past.events ≡ pushed_states u.normal.mutator.past.events =
        ap (λ (m : NormalState). pushed_states m.mutator.past.events) met ∙ pushed_append u.normal.mutator.past.events _ ∙ append-nil (pushed_states u.normal.mutator.past.events) in
        subst MixerFollows (sym end) (
          subst (λ (y : NormalKept × List FastState). IsFollowed y.0 y.1 after) (λ j. (ap kept_of (sym met) j, sym pushed j)) turned_follows.0,
          ap setup_of met ∙ turned_follows.1,
        )

    client_follows : (i : ℕ) (q : PartyState) → slice_get t.clients i ≡ Some q → slice_get (run_words after) i ≡ Some (client_words i q)
    client_follows i q at =
        let last = clients_ended round.met i q (ap (λ (y : SessionState). slice_get y.clients i) (sym round.ends) ∙ at) in
        let met = clients_met u round.met round.meets i last.0 last.1 in
        let first = zip_at (ClientPlayed g) x.clients u.clients i met.0 round.plays.clients met.1 in
        let track : first.0.track ≡ i = round.together.0.tracks i first.0 first.1 in
        let noted : calls_in seen i ≡ met.0.calls.items = ap (λ (l : List (List ClientCall)). slice_index_or l i []) calls ∙ calls_noted g x r bytes t round i met.0 met.1 in
        let turned : met.0.stream.pass.part.frames ≡ words_after (file_words s i) first.0.stream.pass.part.frames (calls_in seen i) =
        ap (λ (y : Track). y.stream.released) first.2.turned
        ∙ turn_words met.0.calls.items (track_of (ops_at g first.0.track) (file_at g first.0.track) first.0)
        ∙ (λ j. words_after (file_words s (track j)) first.0.stream.pass.part.frames (sym noted j)) in
        let is : q.stream.pass.part.frames ≡ words_after (file_words s i) first.0.stream.pass.part.frames (calls_in seen i) =
        ap (λ (c : ClientState). c.pass.part.frames) last.2
        ∙ by_spot (client_made met.0.stream.pass) _ _ _ met.0.stream last.0.stream met.2.streamed
        ∙ turned in
        let here : 0 + i ≡ i = omega arith in
        ap (λ (l : List Words). slice_get l i) (round_words s run seen)
        ∙ called_at seen 0 (run_words run) i (client_words i first.0) (follows.clients i first.0 first.1)
        ∙ (λ j. Some (file_words s i, words_after (file_words s i) first.0.stream.pass.part.frames (calls_in seen (here j))))
        ∙ (λ j. Some (file_words s i, sym is j))

    round_follows : Follows t after
    round_follows = record {
      normal = mixer_follows.0;
      setup = mixer_follows.1;
      long = ap (λ (l : List Words). length l) (round_words s run seen) ∙ called_long seen 0 (run_words run) ∙ follows.long;
      clients = client_follows;
    }

  -- ## A run

  pub run_follows : (cut : Bool) (marks : Marks) (x : SessionState) (rounds : List RoundNoted) (bytes : List ℕ) (t : SessionState) → IsRunOfAll g x rounds bytes t → (entries : List EntrySeen) (run : Run) → Follows x run
      → LegalRounds cut s marks run (rounds_seen entries rounds) → Follows t (run_from s run (rounds_seen entries rounds))
  run_follows cut marks x [] bytes t played entries run follows legal = subst (λ (y : SessionState). Follows y run) (sym played.1) follows
  run_follows cut marks x (r ∷ rs) bytes t played entries run follows legal =
      let seen : RoundSeen = record { calls = r.calls; turn = r.turn; entries = take r.cycles entries } in
      run_follows cut marks played.2 rs played.1 t played.6 (drop r.cycles entries) (after_round s run seen)
      (round_follows x r played.0 played.2 played.5 marks run seen refl refl follows legal.0.turns.normal) legal.1
