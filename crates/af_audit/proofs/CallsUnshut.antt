-- If a client's proxy of a block isn't shut after its calls, none of these found that block's words not to fit.
use Rattle.std.proofs.Common.{◌≡◌, ℕ, ◌-◌, ◌<◌, not, Bool, true, false, true≢false, if◌then◌else◌, is_some, fold, MatchBool, MatchOption, List, [], ◌∷◌, Option, Some, None, refl, sym, ap, ◌∙◌, subst}
use Rattle.af_audit.proofs.Common.{AnswersOn, AreCalls, ClientAnswers, ClientCall, ClientEvent, ClientKept, IsMade, LegalClientTurn, Side, Track, Want, after_call, after_calls, asked_by, both_true, client_begins, client_call_events, client_keeps, client_kept, filled_by, fold-append, is_of_commands, most_calls, none-some, outside-some, released_by, with_call, wrapped}
use Rattle.af_base.specs.declared.event.ClientCall.TheVariants as call
use Rattle.af_runs.specs.ClientTurns.{called}
use Rattle.af_audit.specs.Spared.{is_corrupt_on, none_corrupt_on}

-- what a side's list says of its client
abbrev pub kept_of : Side → ClientKept
kept_of b = client_kept b.shape.frames b.shape.base b.events

-- one of a track's two sides: that of the commands, or of the stream
abbrev pub side_on : Bool → Track → Side
side_on true t = t.commands
side_on false t = t.stream

-- the client's proxy on that side isn't shut
abbrev pub IsOpen : Bool → Track → Type 0
IsOpen commands t = (kept_of (side_on commands t)).shut ≡ None

-- ## One call

module _ (frames : ℕ) (k : ClientKept) where
  -- what the list says after a call
  abbrev then_kept : Option (ℕ × ℕ) → ClientCall → ClientKept
  then_kept o answer = fold (client_keeps frames) k (client_call_events (is_some o) answer)

  -- words that don't fit shut the proxy, or have shut it
  shuts : (o : Option (ℕ × ℕ)) (front rear : ℕ) (answer : ClientCall) → ((was : Bool) → client_call_events was answer ≡ client_call_events was (call.Corrupt front rear)) → k.shut ≡ o
      → MatchOption o ((rear ≡ wrapped k.position) × (frames < filled_by k front)) (λ words. words ≡ (front, rear)) → (then_kept o answer).shut ≡ None → ⊥
  shuts None front rear answer same is found fine =
      none-some (front, wrapped k.position) (sym fine ∙ ap (λ es. (fold (client_keeps frames) k es).shut) (same false) ∙ outside-some frames front (wrapped k.position) found.1)
  shuts (Some words) front rear answer same is found fine =
      none-some words (sym fine ∙ ap (λ es. (fold (client_keeps frames) k es).shut) (same true) ∙ is)

module _ (frames cells base : ℕ) (es : List ClientEvent) (asked : ℕ) where
  abbrev before : ClientKept
  before = client_kept frames base es

  -- if the proxy isn't shut after a call it wasn't before it, and the call wasn't Corrupt
  unshut_call : (commands : Bool) (answer : ClientCall) → ClientAnswers frames cells base es asked answer → (then_kept frames before before.shut answer).shut ≡ None → (before.shut ≡ None) × (is_corrupt_on commands answer ≡ false)
  unshut_call commands (call.Put front count) a fine = (a.0.0, refl)
  unshut_call commands (call.Corrupt front rear) a fine = absurd (shuts frames before before.shut front rear (call.Corrupt front rear) (λ was. refl) refl a fine)
  unshut_call commands (call.Cleared flags) a fine = (fine, refl)
  unshut_call commands (call.Flush count) a fine = (fine, refl)
  unshut_call commands (call.Gain word) a fine = (fine, refl)
  unshut_call commands (call.SendCorrupt front rear) a fine = absurd (shuts frames before before.shut front rear (call.SendCorrupt front rear) (λ was. refl) refl a fine)
  unshut_call commands (call.Status word) a fine = (fine, refl)
  unshut_call commands (call.Poke command word value) a fine = (fine, refl)
  unshut_call commands _ a fine = (a.0, refl)

-- if the proxy of a side isn't shut after a call it wasn't before it, and the call wasn't Corrupt
unshut_side : (commands : Bool) (b : Side) (asked : ℕ) (answer : ClientCall) (words : List ℕ) → AnswersOn b asked answer → (kept_of (called answer words b)).shut ≡ None → ((kept_of b).shut ≡ None) × (is_corrupt_on commands answer ≡ false)
unshut_side commands b asked answer words a fine =
    unshut_call b.shape.frames b.shape.cells b.shape.base b.events asked commands answer a
    (sym (ap (λ (x : ClientKept). x.shut) (fold-append (client_keeps b.shape.frames) (client_begins b.shape.base) b.events (client_call_events (is_some (kept_of b).shut) answer))) ∙ fine)

-- a call on the other block is no Corrupt of this one
elsewhere : (commands : Bool) (answer : ClientCall) → is_of_commands answer ≡ not commands → is_corrupt_on commands answer ≡ false
elsewhere true (call.SendCorrupt front rear) other = absurd (true≢false other)
elsewhere false (call.SendCorrupt front rear) other = refl
elsewhere true (call.Corrupt front rear) other = refl
elsewhere false (call.Corrupt front rear) other = absurd (true≢false (sym other))
elsewhere commands (call.Put front count) other = refl
elsewhere commands (call.Full front) other = refl
elsewhere commands (call.Dead flags) other = refl
elsewhere commands (call.Cleared flags) other = refl
elsewhere commands (call.Flush count) other = refl
elsewhere commands (call.Gain word) other = refl
elsewhere commands (call.Sent front code argument) other = refl
elsewhere commands (call.SendFull front) other = refl
elsewhere commands (call.SendDead flags) other = refl
elsewhere commands (call.Status word) other = refl
elsewhere commands (call.Poke command word value) other = refl

-- if a proxy of a track isn't shut after a call it wasn't before it, and the call wasn't Corrupt on its block
module _ (t : Track) (wanted : Want) (answer : ClientCall) where
  by_side : (commands b : Bool) → is_of_commands answer ≡ b → AnswersOn (if b then t.commands else t.stream) (asked_by wanted) answer
      → IsOpen commands (if b then record t { commands = called answer (released_by t answer) t.commands } else record t { stream = called answer (released_by t answer) t.stream }) → IsOpen commands t × (is_corrupt_on commands answer ≡ false)
  by_side true true on a fine = unshut_side true t.commands (asked_by wanted) answer (released_by t answer) a fine
  by_side true false on a fine = (fine, elsewhere true answer on)
  by_side false true on a fine = (fine, elsewhere false answer on)
  by_side false false on a fine = unshut_side false t.stream (asked_by wanted) answer (released_by t answer) a fine

  unshut_made : (commands : Bool) → IsMade t wanted answer → IsOpen commands (with_call t answer) → IsOpen commands t × (is_corrupt_on commands answer ≡ false)
  unshut_made commands made fine = by_side commands (is_of_commands answer) refl made.1 fine

-- ## A turn

-- a proxy that isn't shut after a call and what follows it isn't shut after the call
same_sides : (commands : Bool) (t : Track) (answer : ClientCall) → IsOpen commands (after_call t answer) → IsOpen commands (with_call t answer)
same_sides true t answer h = h
same_sides false t answer h = h

unshut_calls : (commands : Bool) (left : ℕ) (t : Track) (calls : List ClientCall) → AreCalls left t calls → IsOpen commands (fold after_call t calls) → IsOpen commands t × (none_corrupt_on commands calls ≡ true)
unshut_calls commands left t [] are fine = (fine, refl)
unshut_calls commands left t (answer ∷ calls) are fine =
    let rest = unshut_calls commands (left - 1) (after_call t answer) calls are.4 fine in
    let one = unshut_made t are.1 answer commands are.3 (same_sides commands t answer rest.0) in
    (one.0, both_true (not (is_corrupt_on commands answer)) (none_corrupt_on commands calls) (ap not one.1) rest.1)

all_sides : (commands : Bool) (t : Track) (calls : List ClientCall) → IsOpen commands (after_calls t calls) → IsOpen commands (fold after_call t calls)
all_sides true t calls h = h
all_sides false t calls h = h

-- if a proxy isn't shut after a legal turn, it wasn't before it, and no call on its block was Corrupt
pub unshut_turn : (commands : Bool) (t : Track) (calls : List ClientCall) → LegalClientTurn t calls → IsOpen commands (after_calls t calls) → IsOpen commands t × (none_corrupt_on commands calls ≡ true)
unshut_turn commands t calls legal fine = by_ended t.client.ended legal
  where
    all : IsOpen commands (fold after_call t calls)
    all = all_sides commands t calls fine

    by_ended : (ended : Bool) → MatchBool ended (calls ≡ []) (AreCalls most_calls t calls) → IsOpen commands t × (none_corrupt_on commands calls ≡ true)
    by_ended true none = (subst (λ cs. IsOpen commands (fold after_call t cs)) none all, ap (none_corrupt_on commands) none)
    by_ended false are = unshut_calls commands most_calls t calls are all
