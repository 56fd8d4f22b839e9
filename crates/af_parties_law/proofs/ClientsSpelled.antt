-- The lists of each client are spelled by just the calls that the journal records of it.
use Rattle.std.proofs.Common.{◌≡◌, ℕ, Bool, true, false, not, if◌then◌else◌, is_some, fold, List, [], ◌∷◌, ◌++◌, refl, sym, ap, subst, ◌∙◌, append-nil, append_assoc}
use Rattle.af_parties_law.proofs.Common.{ClientCall, ClientEvent, ClientKept, ClientStep, Kind, Side, Track, after_call, after_calls, called, client_begins, client_call_events, client_kept, client_spells, client_step_events, commands, is_of_commands, is_on, met_server, stream}
use Rattle.af_base.specs.declared.event.ClientCall.TheVariants as call
use Rattle.af_base.specs.declared.event.ClientEvent.TheVariants as client
use Rattle.af_runs.specs.ClientTurns.{released_by}
use Rattle.af_model.specs.Spelled as step
use Rattle.af_model.proofs.Spelled.{client_spells-append}
use Rattle.af_parties_law.specs.Spelled.{IsSpelled, calls_among}

-- ## One list

calls_among_append : (xs ys : List ClientStep) → calls_among (xs ++ ys) ≡ calls_among xs ++ calls_among ys
calls_among_append [] ys = refl
calls_among_append (step.called answer ∷ xs) ys = ap (λ (l : List ClientCall). answer ∷ l) (calls_among_append xs ys)
calls_among_append (met_server count ∷ xs) ys = calls_among_append xs ys

module _ (kind : Kind) (frames base : ℕ) where
  pub spelled_none : IsSpelled kind frames base [] []
  spelled_none = record { steps = []; calls_are = refl; spelled = refl }

  -- a list with one step more is spelled by the calls among all steps
  spelled_step : (calls : List ClientCall) (events : List ClientEvent) (s : ClientStep) → IsSpelled kind frames base calls events
      → IsSpelled kind frames base (calls ++ calls_among (s ∷ [])) (events ++ client_step_events kind (client_kept frames base events) s)
  spelled_step calls events s is =
      let more : List ClientEvent = client_step_events kind (client_kept frames base events) s in
      let last : client_spells kind frames (client_kept frames base events) (s ∷ []) ≡ more = append-nil more in
      record {
        steps = is.steps ++ s ∷ [];
        calls_are = calls_among_append is.steps (s ∷ []) ∙ ap (λ (l : List ClientCall). l ++ calls_among (s ∷ [])) is.calls_are;
        spelled = sym (client_spells-append kind frames (client_begins base) is.steps (s ∷ [])
            ∙ ap (λ (l : List ClientEvent). l ++ client_spells kind frames (client_kept frames base l) (s ∷ [])) (sym is.spelled)
            ∙ ap (λ (l : List ClientEvent). events ++ l) last);
      }

  pub spelled_call : (calls : List ClientCall) (events : List ClientEvent) (answer : ClientCall) → IsSpelled kind frames base calls events
      → IsSpelled kind frames base (calls ++ answer ∷ []) (events ++ client_step_events kind (client_kept frames base events) (step.called answer))
  spelled_call calls events answer is = spelled_step calls events (step.called answer) is

  pub spelled_met : (calls : List ClientCall) (events : List ClientEvent) (count : ℕ) → IsSpelled kind frames base calls events → IsSpelled kind frames base calls (events ++ client.Learn count ∷ [])
  spelled_met calls events count is = subst (λ (l : List ClientCall). IsSpelled kind frames base l (events ++ client.Learn count ∷ [])) (append-nil calls) (spelled_step calls events (met_server count) is)

-- ## Both sides of a track

-- a side's list is spelled
abbrev SideSpells : Kind → List ClientCall → Side → Type 0
SideSpells kind calls b = IsSpelled kind b.shape.frames b.shape.base calls b.events

abbrev SidesSpell : List ClientCall → Track → Type 0
SidesSpell calls t = SideSpells stream calls t.stream × SideSpells commands calls t.commands

on_commands : (answer : ClientCall) → is_on commands answer ≡ is_of_commands answer
on_commands (call.Sent front code argument) = refl
on_commands (call.SendFull front) = refl
on_commands (call.SendDead flags) = refl
on_commands (call.SendCorrupt front rear) = refl
on_commands (call.Status word) = refl
on_commands (call.Poke true word value) = refl
on_commands (call.Poke false word value) = refl
on_commands (call.Put front count) = refl
on_commands (call.Full front) = refl
on_commands (call.Dead flags) = refl
on_commands (call.Corrupt front rear) = refl
on_commands (call.Flush count) = refl
on_commands (call.Gain word) = refl
on_commands (call.Cleared flags) = refl

on_stream : (answer : ClientCall) → is_on stream answer ≡ not (is_of_commands answer)
on_stream (call.Sent front code argument) = refl
on_stream (call.SendFull front) = refl
on_stream (call.SendDead flags) = refl
on_stream (call.SendCorrupt front rear) = refl
on_stream (call.Status word) = refl
on_stream (call.Poke true word value) = refl
on_stream (call.Poke false word value) = refl
on_stream (call.Put front count) = refl
on_stream (call.Full front) = refl
on_stream (call.Dead flags) = refl
on_stream (call.Corrupt front rear) = refl
on_stream (call.Flush count) = refl
on_stream (call.Gain word) = refl
on_stream (call.Cleared flags) = refl

-- a call on this side is spelled behind the calls before it
side_called : (kind : Kind) (calls : List ClientCall) (b : Side) (answer : ClientCall) (words : List ℕ) → is_on kind answer ≡ true → SideSpells kind calls b → SideSpells kind (calls ++ answer ∷ []) (called answer words b)
side_called kind calls b answer words on is =
    let kept : ClientKept = client_kept b.shape.frames b.shape.base b.events in
    subst (λ (x : Bool). IsSpelled kind b.shape.frames b.shape.base (calls ++ answer ∷ []) (b.events ++ (if x then client_call_events (is_some kept.shut) answer else []))) on
    (spelled_call kind b.shape.frames b.shape.base calls b.events answer is)

-- a call on the other side leaves what this side's list spells
side_passed : (kind : Kind) (calls : List ClientCall) (b : Side) (answer : ClientCall) → is_on kind answer ≡ false → SideSpells kind calls b → SideSpells kind (calls ++ answer ∷ []) b
side_passed kind calls b answer off is =
    let kept : ClientKept = client_kept b.shape.frames b.shape.base b.events in
    subst (IsSpelled kind b.shape.frames b.shape.base (calls ++ answer ∷ [])) (append-nil b.events)
    (subst (λ (x : Bool). IsSpelled kind b.shape.frames b.shape.base (calls ++ answer ∷ []) (b.events ++ (if x then client_call_events (is_some kept.shut) answer else []))) off
    (spelled_call kind b.shape.frames b.shape.base calls b.events answer is))

call_spells : (calls : List ClientCall) (t : Track) (answer : ClientCall) → SidesSpell calls t → SidesSpell (calls ++ answer ∷ []) (after_call t answer)
call_spells calls t answer is = by_side (is_of_commands answer) (on_stream answer) (on_commands answer)
  where
    words : List ℕ
    words = released_by t answer

    by_side : (b : Bool) → is_on stream answer ≡ not b → is_on commands answer ≡ b → SidesSpell (calls ++ answer ∷ []) (if b then record t { commands = called answer (released_by t answer) t.commands } else record t { stream = called answer (released_by t answer) t.stream })
    by_side true off on = (side_passed stream calls t.stream answer off is.0, side_called commands calls t.commands answer words on is.1)
    by_side false on off = (side_called stream calls t.stream answer words on is.0, side_passed commands calls t.commands answer off is.1)

calls_spell : (made calls : List ClientCall) (t : Track) → SidesSpell calls t → SidesSpell (calls ++ made) (fold after_call t made)
calls_spell [] calls t is = subst (λ (l : List ClientCall). SidesSpell l t) (sym (append-nil calls)) is
calls_spell (answer ∷ made) calls t is =
    subst (λ (l : List ClientCall). SidesSpell l (fold after_call (after_call t answer) made)) (append_assoc calls (answer ∷ []) made) (calls_spell made (calls ++ answer ∷ []) (after_call t answer) (call_spells calls t answer is))

-- the calls of a turn are spelled behind those before it
pub turn_spells : (calls made : List ClientCall) (t u : Track) → u ≡ after_calls t made → SidesSpell calls t → SidesSpell (calls ++ made) u
turn_spells calls made t u after is = subst (SidesSpell (calls ++ made)) (sym after) (calls_spell made calls t is)
