-- In a turn run: which commands a track's client sent, and which of them its mixer took.
use Rattle.std.proofs.Common.{◌≡◌, ◌⊎◌, inl, inr, ℕ, ◌<◌, ◌==◌, Bool, true, false, if◌then◌else◌, List, ◌++◌, length, Option, Some, None, refl, sym, ap, ◌∙◌, subst, eqb-true, append-nil, arith}
use Rattle.af_journal_laws.proofs.Common.{BlockTold, ClientCall, EntrySeen, FastState, IsMadeBy, LegalClientTurn, LegalTurnBy, LifeStep, Marks, MatchBool, MatchOption, OnlyCalls, RoundSeen, Run, Sent, SentSo, Session, TrackTold, Turn, TurnFound, TurnSpec, [], called_in_turn, calls_alone, calls_in, commands_at, cycle_frames, each_at, each_long, each_track, ends, found_before, going, learnt, loaded, made_alone, met, met_alone, met_at, met_many, mixed_track, nat_tests, no, no_track, outside_of, played, sent_by_all, sent_in, setup_of, sides_of, slot_playing, state_for, told_at, told_each, track_in, track_legal, turned, turned_track, with_ends, with_load, with_mix, with_poll, with_turn, words_taken}
use Rattle.af_script.specs.declared.op.TurnSpec.TheVariants as makes
use Rattle.af_audit.proofs.Sending.{right_join, turn_right, turn_sends, words_join, words_sent}
use Rattle.af_audit.proofs.StepsTaken.{turn_told}
use Rattle.af_journal_laws.specs.Drained.{steps_alone}
use Rattle.af_journal_laws.proofs.Own.{changed, legal_own}
use Rattle.af_journal_laws.proofs.Rounds.{turn_legal}
use Rattle.af_journal_laws.proofs.Turns.{none_called}
use Rattle.af_journal_laws.proofs.Walk.{IsKeptQuietly, ends_keep, fast_keeps}

-- ## A block

-- a block keeps what was sent, if as much was released on it and taken of it
sent_same : (a b : BlockTold) (steps : List LifeStep) (sent : List Sent) → b.released ≡ a.released → b.taken ≡ a.taken → SentSo a steps sent → SentSo b steps sent
sent_same a b steps sent released taken h = record { released = released ∙ h.released; right = h.right; taken = taken ∙ h.taken }

sent_called : (calls : List ClientCall) (t : TrackTold) (steps : List LifeStep) (sent : List Sent) → LegalClientTurn (sides_of t) calls → SentSo t.commands steps sent → SentSo (called_in_turn calls t).commands steps (sent ++ sent_by_all (sides_of t) calls)
sent_called calls t steps sent legal h =
    let more : List Sent = sent_by_all (sides_of t) calls in
    record {
      released = turn_sends (sides_of t) calls ∙ ap (λ (l : List ℕ). l ++ words_sent more) h.released ∙ sym (words_join sent more);
      right = right_join sent more h.right (turn_right (sides_of t) calls legal);
      taken = h.taken;
    }

-- ## A run

-- the track is there, and its command block has what its client sent and its mixer took
pub record SentAt (n : ℕ) (steps : List LifeStep) (sent : List Sent) (run : Run) : Type 0 where
  pub there : n < length run.tracks
  pub so : SentSo (commands_at n run) steps sent

module _ (s : Session) (marks : Marks) (n : ℕ) (steps : List LifeStep) (sent : List Sent) where
  sent_by : (run : Run) (u : TrackTold) → n < length run.tracks → told_at run n ≡ u → SentSo u.commands steps sent → SentAt n steps sent run
  sent_by run u low is h = record { there = low; so = subst (λ (t : TrackTold). SentSo t.commands steps sent) (sym is) h }

  sent_polled : (k : ℕ) (run : Run) → SentAt n steps sent run → SentAt n steps sent (with_poll s k run)
  unfolding with_poll
  sent_polled k run h = record { there = h.there; so = h.so }

  sent_mixed : (e : EntrySeen) (run : Run) → SentAt n steps sent run → SentAt n steps sent (with_mix s e run)
  unfolding with_mix
  sent_mixed e run h =
      let x : FastState = state_for s run e.entry.state in
      sent_by (with_mix s e run) (mixed_track s x e n (told_at run n)) (let m = each_long (mixed_track s x e) 0 run.tracks in let t = h.there in omega (arith, m, t)) (told_each (mixed_track s x e) run n h.there) (by_slot (slot_playing x e.entry n))
    where
      by_slot : (o : Option ℕ) → (let t : TrackTold = elim o as (λ o. TrackTold) [ None ↦ told_at run n | Some i ↦ record (told_at run n) { stream = played (cycle_frames s) e i (told_at run n).stream } ] in SentSo t.commands steps sent)
      by_slot None = h.so
      by_slot (Some i) = h.so

  sent_loaded : (e : Turn) (run : Run) → SentAt n steps sent run → SentAt n steps sent (with_load e run)
  unfolding with_load
  sent_loaded e run h = record { there = h.there; so = h.so }

  sent_met : (run : Run) → SentAt n steps sent run → SentAt n steps sent (met s run)
  sent_met run h = record {
    there = (let m = met_many s run in let t = h.there in omega (arith, m, t));
    so = sent_same (commands_at n run) (commands_at n (met s run)) steps sent (ap (λ (t : TrackTold). t.commands.released) (met_at s run n h.there)) (ap (λ (t : TrackTold). t.commands.taken) (met_at s run n h.there)) h.so;
  }

  sent_ended : (run : Run) → SentAt n steps sent run → SentAt n steps sent (with_ends run)
  unfolding with_ends
  sent_ended run h = by_end run.normal.ended
    where
      by_end : (b : Bool) → SentAt n steps sent (if b then each_track (λ track t. record t { client = ends t.client }) run else run)
      by_end true =
          sent_by (each_track (λ track t. record t { client = ends t.client }) run) (record (told_at run n) { client = ends (told_at run n).client })
          (let m = each_long (λ track t. record t { client = ends t.client }) 0 run.tracks in let t = h.there in omega (arith, m, t)) (told_each (λ track t. record t { client = ends t.client }) run n h.there) h.so
      by_end false = h

  pub sent_quiet : IsKeptQuietly s marks (SentAt n steps sent)
  sent_quiet = record { polled = sent_polled; mixed = λ e run legal h. sent_mixed e run h; loads = sent_loaded; meets = sent_met; ended = sent_ended }

  -- a round in which the client makes no call sends no command
  none_sent : (round : RoundSeen) (run after : Run) → calls_in round n ≡ [] → SentAt n steps sent after → SentAt n steps (sent ++ sent_in run round n) after
  none_sent round run after none = subst (λ (l : List Sent). SentAt n steps l after) (sym (ap (λ (calls : List ClientCall). sent ++ sent_by_all (sides_of (told_at run n)) calls) none ∙ append-nil sent))

  -- ## The calls of one client

  sent_calls : (track : ℕ) (round : RoundSeen) (run : Run) → OnlyCalls (λ t. t ≡ track) round → LegalClientTurn (sides_of (told_at run track)) (calls_in round track) → SentAt n steps sent run → SentAt n steps (sent ++ sent_in run round n) (calls_alone track round run)
  sent_calls track round run only legal h = by_number (n == track) refl
    where
      there : n < length (calls_alone track round run).tracks
      there = let m = each_long (changed track round) 0 run.tracks in let t = h.there in omega (arith, m, t)

      told : (b : Bool) → (n == track) ≡ b → told_at (calls_alone track round run) n ≡ (if b then called_in_turn (calls_in round track) (told_at run n) else told_at run n)
      told b is = told_each (changed track round) run n h.there ∙ ap (λ (b : Bool). if b then called_in_turn (calls_in round track) (told_at run n) else told_at run n) is

      by_only : (n == track) ≡ false → (n ≡ track) ⊎ (calls_in round n ≡ []) → calls_in round n ≡ []
      by_only is (inl same) = no (sym is ∙ grind (arith, nat_tests, same))
      by_only is (inr none) = none

      by_number : (b : Bool) → (n == track) ≡ b → SentAt n steps (sent ++ sent_in run round n) (calls_alone track round run)
      by_number true is = record {
        there = there;
        so = subst (λ (t : TrackTold). SentSo t.commands steps (sent ++ sent_in run round n)) (sym (told true is))
            (subst (λ (calls : List ClientCall). SentSo (called_in_turn (calls_in round track) (told_at run n)).commands steps (sent ++ sent_by_all (sides_of (told_at run n)) calls)) (ap (calls_in round) (sym (eqb-true n track is)))
            (sent_called (calls_in round track) (told_at run n) steps sent (legal_own track n round run is legal) h.so));
      }
      by_number false is = none_sent round run (calls_alone track round run) (by_only is (only n)) (sent_by (calls_alone track round run) (told_at run n) there (told false is) h.so)

  -- ## The turn

  sent_turn : (e : Turn) (run : Run) → LegalTurnBy (setup_of s) marks (found_before s run [] e) run.normal e → SentAt n steps sent run → SentAt n (steps_alone s run (Some e) n steps) sent (with_turn s (found_before s run [] e) e run)
  unfolding with_turn
  sent_turn e run legal h =
      let c = setup_of s in
      let f : TurnFound = found_before s run [] e in
      let o = outside_of c f e in
      let words : List ℕ = going e (words_taken (track_in e n).looks) in
      let told : told_at (with_turn s f e run) n ≡ turned_track c o run.normal e n (told_at run n) = each_at (turned_track c o run.normal e) 0 run.tracks n n no_track h.there (omega arith) in
      record {
        there = (let m = each_long (turned_track c o run.normal e) 0 run.tracks in let t = h.there in omega (arith, m, t));
        so = subst (λ (t : TrackTold). SentSo t.commands (steps_alone s run (Some e) n steps) sent) (sym told) (record {
          released = h.so.released;
          right = h.so.right;
          taken = ap (λ (l : List ℕ). l ++ words) h.so.taken ∙ sym (turn_told c (learnt o) run.normal e n steps (track_legal c f run.normal e legal.outside n legal.found legal.legal));
        });
      }

  sent_own : (o : Option Turn) (run : Run) → MatchBool run.normal.ended (o ≡ None) (MatchOption o ⊥ (λ e. LegalTurnBy (setup_of s) marks (found_before s run [] e) run.normal e))
      → SentAt n steps sent run → SentAt n (steps_alone s run o n steps) sent (turned s (found_before s run []) o run)
  sent_own None run legal h = h
  sent_own (Some e) run legal h = sent_turn e run (turn_legal run.normal.ended (λ e. LegalTurnBy (setup_of s) marks (found_before s run [] e) run.normal e) (Some e) e legal refl) h

module _ (s : Session) (marks : Marks) (n : ℕ) (steps : List LifeStep) (sent : List Sent) where
  sent_load : (o : Option Turn) (now : List LifeStep) (run : Run) → SentAt n now sent run → SentAt n now sent (loaded o run)
  sent_load None now run h = h
  sent_load (Some e) now run h = (sent_quiet s marks n now sent).loads e run h

  -- a round without a turn of the normal mixer adds no step
  none_made : (round : RoundSeen) (run after : Run) (all : List Sent) → round.turn ≡ None → SentAt n steps all after → SentAt n (steps_alone s run round.turn n steps) all after
  none_made round run after all none = subst (λ (o : Option Turn). SentAt n (steps_alone s run o n steps) all after) (sym none)

  -- the turn of one party adds the commands that its client sent and the steps of its mixer
  sent_made : (turn : TurnSpec) (round : RoundSeen) (run : Run) → IsMadeBy s marks run turn round → SentAt n steps sent run → SentAt n (steps_alone s run round.turn n steps) (sent ++ sent_in run round n) (made_alone s run turn round)
  sent_made (makes.Client track) round run made h = none_made round run (calls_alone track round run) (sent ++ sent_in run round n) made.1 (sent_calls s marks n steps sent track round run made.0 made.3 h)
  sent_made makes.Normal round run made h =
      let now : List LifeStep = steps_alone s run round.turn n steps in
      let after : Run = turned s (found_before s run []) round.turn run in
      none_sent s marks n now sent round run (loaded round.turn after) (none_called false s marks n round made.0) (sent_load round.turn now after (sent_own s marks n steps sent round.turn run made.2 h))
  sent_made (makes.Fast cycles) round run made h =
      let after : Run = made_alone s run (makes.Fast cycles) round in
      none_made round run after (sent ++ sent_in run round n) made.1
      (none_sent s marks n steps sent round run after (none_called false s marks n round made.0) (fast_keeps s marks (SentAt n steps sent) (sent_quiet s marks n steps sent) n cycles round run made h))

  pub sent_round_alone : (turn : TurnSpec) (round : RoundSeen) (run : Run) → IsMadeBy s marks run turn round → SentAt n steps sent run → SentAt n (steps_alone s run round.turn n steps) (sent ++ sent_in run round n) (with_ends (met_alone s run turn round))
  sent_round_alone turn round run made h =
      let now : List LifeStep = steps_alone s run round.turn n steps in
      let all : List Sent = sent ++ sent_in run round n in
      ends_keep s marks (SentAt n now all) (sent_quiet s marks n now all) (made_alone s run turn round) (sent_made turn round run made h)
