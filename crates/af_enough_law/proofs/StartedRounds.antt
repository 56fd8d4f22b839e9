-- A round in which the START of a track was settled before leaves its client past its start.
use Rattle.std.proofs.Common.{◌≡◌, inl, ℕ, ◌+◌, ◌*◌, ◌%◌, ◌/◌, ◌≤◌, ◌==◌, Bool, true, false, true≢false, MatchBool, List, [], ◌∷◌, length, fold, refl, sym, ap, ◌∙◌, subst, arith, if◌then◌else◌}
use Rattle.af_enough_law.proofs.Common.{AreCalls, Client, ClientCall, LegalRound, Marks, Mode, Op, RoundSeen, Run, ServerEvent, Session, Track, TrackKept, Want, after_call, after_round, at_next_turn, begins_ended, begun, calls_in, settled_in, sides_of, state_code, status_word, told_at, track_at}
use Rattle.af_base.specs.declared.event.ClientCall.TheVariants as call
use Rattle.af_enough_law.proofs.NearWords.{IsPast}
use Rattle.af_enough_law.proofs.NormalRounds.{TurnMade}
use Rattle.af_enough_law.proofs.Playing.{AreFair, Doing, opening, starting, settling, setting, writing, clearing, clearing_more, stopping, draining, removing}
use Rattle.af_enough_law.proofs.ClientGoesOn.{client_after, mixer_goes}
use Rattle.af_enough_law.proofs.CommandsGo.{CalmCommands, OpenTurn}
use Rattle.af_enough_law.proofs.CourseGoes.{OnCourse, CourseGone}
use Rattle.af_enough_law.proofs.Doing.{at, codes_sent}
use Rattle.af_enough_law.proofs.FairTurns.{codes_long}
use Rattle.af_enough_law.proofs.Started.{turn_past, turn_starts}
use Rattle.af_enough_law.proofs.StatusSaid.{look_says}
use Rattle.af_enough_law.proofs.TakesAll.{CommandsMet}
use Rattle.af_enough_law.proofs.Turning.{Stands, on, gone_for_good, next_ended, turn_whole}

-- the status word says how many commands are settled, if they are few
settled_least : (s : TrackKept) → s.settled ≤ 4 → s.settled ≤ settled_in (status_word false s)
unfolding status_word
settled_least s few = by (state_code false s.life + (if s.life.drained then 16 else 0)) s.settled few
  where
    by : (x n : ℕ) → n ≤ 4 → n ≤ (x + 256 * (n % 16777216)) / 256
    by x n few = omega (arith, few)

module _ (cut : Bool) (s : Session) (marks : Marks) (run : Run) (round : RoundSeen) (i : ℕ) (t : TurnMade s marks run round) (legal : LegalRound cut s marks run round) (known : List ServerEvent) (calm : CalmCommands run i known) (turn : OpenTurn s marks run round i t)
    (met : CommandsMet run i) (on_it : OnCourse run i) (gone : CourseGone s marks run round i t on_it.told) (settled : 2 ≤ (track_at run.normal.tracks i).settled) (fair : AreFair (calls_in round i)) where
  abbrev v : Track
  v = sides_of (told_at run i)

  abbrev calls : List ClientCall
  calls = calls_in round i

  -- a first look of the client at the status sees this
  sees : (word : ℕ) (rest : List ClientCall) → calls_in round i ≡ call.Status word ∷ rest → 2 ≤ settled_in word
  sees =
      let before : TrackKept = track_at run.normal.tracks i in
      let after : TrackKept = track_at (after_round s run round).normal.tracks i in
      let sent = on_it.within in
      let sent_few = on_it.few in
      let sent_then = gone.after.within in
      let few_then = gone.after.few in
      let a = settled_least before (let now = on_it.follows.settled in omega (arith, now, sent, sent_few)) in
      let b = settled_least after (let now = gone.after.follows.settled in omega (arith, now, sent_then, few_then)) in
      let same = ap settled_in on_it.follows.status in
      let same_then = ap settled_in gone.after.follows.status in
      let c = on_it.follows.settled in
      let d = gone.after.follows.settled in
      let e = gone.next in
      look_says (λ (word : ℕ). 2 ≤ settled_in word) cut s marks run round i t legal known calm turn met on_it.status (omega (arith, a, same, settled)) (omega (arith, b, same_then, c, d, e, settled))

  client_is : (told_at (after_round s run round) i).client ≡ at_next_turn (length calls == 64) (fold after_call v calls).client
  client_is = client_after s run round i turn.low (mixer_goes s marks run round t turn.runs)

  made : (due : List Want) (ops : List Op) (m : Mode) → begun (told_at run i).client ≡ at due ops m → AreCalls 64 v calls
  made due ops m is = subst (λ (b : Bool). MatchBool b (calls ≡ []) (AreCalls 64 v calls)) (sym (begins_ended v.client v.client.due v.client.ops) ∙ ap (λ (c : Client). c.ended) is) (legal.turns.clients i turn.named)

  ended_past : (b : Bool) → b ≡ true → MatchBool b (calls ≡ []) (AreCalls 64 v calls) → (told_at run i).client.ended ≡ true → IsPast (at_next_turn (length calls == 64) (fold after_call v calls).client)
  ended_past true e none ended = subst (λ (cs : List ClientCall). IsPast (at_next_turn (length cs == 64) (fold after_call v cs).client)) (sym none) (inl (next_ended v.client v.client.waiting v.client.ended (0 == 64) ended ended))
  ended_past false e m ended = absurd (true≢false (sym e))

  -- If OPEN and START were sent before, the client is past its start after the round
  pub past_round : (most total : ℕ) → Stands v most total → 4 ≤ length (told_at run i).commands.released → IsPast (told_at (after_round s run round) i).client
  past_round most total stands some = subst IsPast (sym client_is) (of_stands stands)
    where
      by : (due : List Want) (ops : List Op) (m : Mode) → Doing due ops m → begun (told_at run i).client ≡ at due ops m → length (told_at run i).commands.released ≡ 2 * length (codes_sent due m) → IsPast (at_next_turn (length calls == 64) (fold after_call v calls).client)
      by _ _ _ (opening ops way) is long = absurd (let z : ⊥ = omega (arith, long, some) in z)
      by _ _ _ (starting ops way) is long = absurd (let z : ⊥ = omega (arith, long, some) in z)
      by due ops m (settling ops' way) is long = turn_starts v calls ops' is way long (made due ops m is) fair sees (turn_whole 64 v calls (made due ops m is))
      by due ops m (setting l r gains ops' way) is long = turn_past v calls due ops m is (setting l r gains ops' way) refl (made due ops m is) fair (turn_whole 64 v calls (made due ops m is))
      by due ops m (writing count ops' one way) is long = turn_past v calls due ops m is (writing count ops' one way) refl (made due ops m is) fair (turn_whole 64 v calls (made due ops m is))
      by due ops m (clearing ops' way) is long = turn_past v calls due ops m is (clearing ops' way) refl (made due ops m is) fair (turn_whole 64 v calls (made due ops m is))
      by due ops m (clearing_more count ops' one way) is long = turn_past v calls due ops m is (clearing_more count ops' one way) refl (made due ops m is) fair (turn_whole 64 v calls (made due ops m is))
      by due ops m stopping is long = turn_past v calls due ops m is stopping refl (made due ops m is) fair (turn_whole 64 v calls (made due ops m is))
      by due ops m draining is long = turn_past v calls due ops m is draining refl (made due ops m is) fair (turn_whole 64 v calls (made due ops m is))
      by due ops m removing is long = turn_past v calls due ops m is removing refl (made due ops m is) fair (turn_whole 64 v calls (made due ops m is))

      of_stands : Stands v most total → IsPast (at_next_turn (length calls == 64) (fold after_call v calls).client)
      of_stands (gone_for_good ended given words codes) = ended_past (told_at run i).client.ended ended (legal.turns.clients i turn.named) ended
      of_stands (on due ops m is left) = by due ops m left.doing is (ap (λ (ws : List ℕ). length ws) left.words ∙ codes_long left.sent (codes_sent due m) left.codes)
