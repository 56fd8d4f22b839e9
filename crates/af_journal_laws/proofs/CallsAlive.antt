-- If a client's lists of its blocks show neither INVALID nor 15 after its calls, none of these showed it that its track was shut.
use Rattle.std.proofs.Common.{◌≡◌, ℕ, ◌-◌, ◌==◌, not, Bool, true, false, if◌then◌else◌, is_some, fold, MatchBool, List, [], ◌∷◌, refl, ap, subst, eqb-true}
use Rattle.af_journal_laws.proofs.Common.{AnswersOn, AreCalls, ClientAnswers, ClientCall, ClientEvent, IsMade, LegalClientTurn, Side, Track, after_call, after_calls, asked_by, bit_and, both_first, both_true, client_call_events, client_kept, is_of_commands, list_all, most_calls, not_true, released_by, state_in}
use Rattle.af_base.specs.declared.event.ClientCall.TheVariants as call
use Rattle.af_runs.specs.ClientTurns.{called}
use Rattle.af_runs.specs.declared.want.Want.{Want}
use Rattle.af_journal_laws.specs.Alive.{is_dead, none_dead}
use Rattle.af_journal_laws.proofs.FlagsCalm.{all_left, all_right, is_valid}

-- the client's lists of its two blocks show neither INVALID nor 15
abbrev pub IsValid : Track → Type 0
IsValid t = (list_all is_valid t.stream.events ≡ true) × (list_all is_valid t.commands.events ≡ true)

-- ## One call

-- a call that shows that the track was shut saw INVALID or 15
shows_dead : (frames cells base : ℕ) (es : List ClientEvent) (asked : ℕ) (was : Bool) (answer : ClientCall) → ClientAnswers frames cells base es asked answer → list_all is_valid (client_call_events was answer) ≡ true → is_dead answer ≡ false
shows_dead frames cells base es asked was (call.Dead flags) a fine = absurd (a.1 (eqb-true (bit_and flags 4) 0 (both_first (bit_and flags 4 == 0) true fine)))
shows_dead frames cells base es asked was (call.SendDead flags) a fine = absurd (a.1 (eqb-true (bit_and flags 4) 0 (both_first (bit_and flags 4 == 0) true fine)))
shows_dead frames cells base es asked was (call.Status word) a fine = not_true (state_in word == 15) (both_first (not (state_in word == 15)) true fine)
shows_dead frames cells base es asked was _ a fine = refl

module _ (t : Track) (wanted : Want) (answer : ClientCall) where
  -- the side on which the call was made shows INVALID or 15 if the call shows that the track was shut
  shown_on : (b : Side) → AnswersOn b (asked_by wanted) answer → list_all is_valid (called answer (released_by t answer) b).events ≡ true → (list_all is_valid b.events ≡ true) × (is_dead answer ≡ false)
  shown_on b a fine =
      let was = is_some (client_kept b.shape.frames b.shape.base b.events).shut in (
        all_left is_valid b.events (client_call_events was answer) fine,
        shows_dead b.shape.frames b.shape.cells b.shape.base b.events (asked_by wanted) was answer a (all_right is_valid b.events (client_call_events was answer) fine),
      )

  by_side : (b : Bool) → AnswersOn (if b then t.commands else t.stream) (asked_by wanted) answer
      → IsValid (if b then record t { commands = called answer (released_by t answer) t.commands } else record t { stream = called answer (released_by t answer) t.stream }) → IsValid t × (is_dead answer ≡ false)
  by_side true a fine = let one = shown_on t.commands a fine.1 in ((fine.0, one.0), one.1)
  by_side false a fine = let one = shown_on t.stream a fine.0 in ((one.0, fine.1), one.1)

  alive_made : IsMade t wanted answer → IsValid (after_call t answer) → IsValid t × (is_dead answer ≡ false)
  alive_made made fine = by_side (is_of_commands answer) made.1 fine

-- ## A turn

alive_calls : (left : ℕ) (t : Track) (calls : List ClientCall) → AreCalls left t calls → IsValid (fold after_call t calls) → IsValid t × (none_dead calls ≡ true)
alive_calls left t [] are fine = (fine, refl)
alive_calls left t (answer ∷ calls) are fine =
    let rest = alive_calls (left - 1) (after_call t answer) calls are.4 fine in
    let one = alive_made t are.1 answer are.3 rest.0 in
    (one.0, both_true (not (is_dead answer)) (none_dead calls) (ap not one.1) rest.1)

pub alive_turn : (t : Track) (calls : List ClientCall) → LegalClientTurn t calls → IsValid (after_calls t calls) → IsValid t × (none_dead calls ≡ true)
alive_turn t calls legal fine = by_ended t.client.ended legal
  where
    by_ended : (ended : Bool) → MatchBool ended (calls ≡ []) (AreCalls most_calls t calls) → IsValid t × (none_dead calls ≡ true)
    by_ended true none = (subst (λ (cs : List ClientCall). IsValid (fold after_call t cs)) none fine, ap none_dead none)
    by_ended false are = alive_calls most_calls t calls are fine
