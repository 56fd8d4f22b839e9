-- What a client's calls leave of its side of the command block: the list and the words grow.
use Rattle.std.proofs.Common.{◌≡◌, ℕ, ◌+◌, ◌*◌, ◌<◌, Bool, true, false, if◌then◌else◌, fold, List, [], ◌∷◌, ◌++◌, Some, refl, sym, ap, ◌∙◌, subst, append-nil, append_assoc}
use Rattle.af_audit.proofs.Common.{ClientCall, ClientEvent, START, Side, Track, after_call, after_calls, client_events_of, fold-append, get_front, is_of_commands, released_by, settled_in, slice_get}
use Rattle.af_base.specs.declared.event.ClientCall.TheVariants as call
use Rattle.af_base.specs.declared.event.ClientEvent.TheVariants as client
use Rattle.af_runs.specs.ClientTurns.{called}
use Rattle.af_audit.specs.Settled.{IsStart, SeesSettled}

-- a side with more events and more words
record Longer (a b : Side) : Type 0 where
  events : List ClientEvent
  events_are : b.events ≡ a.events ++ events
  words : List ℕ
  words_are : b.released ≡ a.released ++ words

longer_none : (a : Side) → Longer a a
longer_none a = record { events = []; events_are = sym (append-nil a.events); words = []; words_are = sym (append-nil a.released) }

longer_twice : (a b c : Side) → Longer a b → Longer b c → Longer a c
longer_twice a b c f g = record {
  events = f.events ++ g.events;
  events_are = g.events_are ∙ ap (λ l. l ++ g.events) f.events_are ∙ append_assoc a.events f.events g.events;
  words = f.words ++ g.words;
  words_are = g.words_are ∙ ap (λ l. l ++ g.words) f.words_are ∙ append_assoc a.released f.words g.words;
}

call_longer : (t : Track) (answer : ClientCall) → Longer t.commands (after_call t answer).commands
call_longer t answer = by_side (is_of_commands answer)
  where
    by_side : (b : Bool) → Longer t.commands (let u : Track = if b then record t { commands = called answer (released_by t answer) t.commands } else record t { stream = called answer (released_by t answer) t.stream } in u.commands)
    by_side true = record { events = client_events_of t.commands.shape.frames t.commands.shape.base t.commands.events answer; events_are = refl; words = released_by t answer; words_are = refl }
    by_side false = longer_none t.commands

calls_longer : (t : Track) (calls : List ClientCall) → Longer t.commands (fold after_call t calls).commands
calls_longer t [] = longer_none t.commands
calls_longer t (answer ∷ calls) = longer_twice t.commands (after_call t answer).commands (fold after_call (after_call t answer) calls).commands (call_longer t answer) (calls_longer (after_call t answer) calls)

-- After a turn in which a client saw a START settled, the status stands in its list, and the START among the words that it sent
pub record HasSeenSettled (c : Side) (count : ℕ) : Type 0 where
  pub word : ℕ
  pub before : List ClientEvent
  pub later : List ClientEvent
  pub events_are : c.events ≡ before ++ client.SawStatus word ∷ later
  pub number : ℕ
  pub start : IsStart c.released number count
  pub settled : number < settled_in word

pub turn-sees : (t : Track) (calls : List ClientCall) (count : ℕ) → SeesSettled t calls count → HasSeenSettled (after_calls t calls).commands count
turn-sees t calls count s =
    let u : Track = fold after_call t s.before in
    let v : Track = after_call u (call.Status s.word) in
    let all : fold after_call t calls ≡ fold after_call v s.later = ap (fold after_call t) s.calls_are ∙ fold-append after_call t s.before (call.Status s.word ∷ s.later) in
    let more = calls_longer v s.later in
    let whole = longer_twice u.commands v.commands (fold after_call v s.later).commands (call_longer u (call.Status s.word)) more in
    let sent : (at value : ℕ) → slice_get u.commands.released at ≡ Some value → slice_get (fold after_call v s.later).commands.released at ≡ Some value =
    λ at value is. subst (λ (l : List ℕ). slice_get l at ≡ Some value) (sym whole.words_are) (get_front u.commands.released whole.words at value is) in
    subst (λ (x : Track). HasSeenSettled x.commands count) (sym all) (record {
      word = s.word;
      before = u.commands.events;
      later = more.events;
      events_are = more.events_are ∙ append_assoc u.commands.events (client.SawStatus s.word ∷ []) more.events;
      number = s.number;
      start = record { code = sent (2 * s.number) START s.start.code; argument = sent (2 * s.number + 1) count s.start.argument };
      settled = s.settled;
    })
