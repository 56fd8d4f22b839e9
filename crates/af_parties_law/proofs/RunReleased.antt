-- In a run of all parties each client has released as many frames as the calls that the journal records put.
use Rattle.std.proofs.Common.{◌≡◌, ℕ, ◌+◌, ◌<◌, Bool, true, false, if◌then◌else◌, is_some, fold, List, [], ◌∷◌, length, map, sum_by, option_map, slice_get, Some, refl, sym, ap, subst, ◌∙◌, ⊎_elim, arith}
use Rattle.af_parties_law.proofs.Common.{ClientCall, ClientEvent, ClientKept, ClientState, ClientStep, EndsState, Frame, Given, IsNewSession, IsRoundOfAll, IsTrackAt, JournalData, PartyState, RoundNoted, ScriptData, SessionState, SharedState, client_begins, client_keeps, client_kept, client_spells, client_step_events, clients_ended, fill_by_all, get_or_from_slice_get, length-map, met_server, released_by, same_Some, slice_get-map, slice_get_cases, slice_get_within, stream, tracks_of}
use Rattle.std.proofs.Math.Nat.{add-zero}
use Rattle.std.proofs.lemmas.Grind.{fold-append}
use Rattle.std.proofs.lemmas.List.Sums.{sum_by-cons}
use Rattle.af_base.specs.declared.event.ClientCall.TheVariants as call
use Rattle.af_base.specs.declared.event.ClientEvent.TheVariants as client
use Rattle.af_client.specs.Order.{IsInOrder as IsClientInOrder}
use Rattle.af_model.specs.Spelled as step
use Rattle.af_playing.specs.PlayedRuns.{HandsBackRun, IsRunOfAll}
use Rattle.af_parties_law.specs.Spelled.{ReleasedAsTold, Spells, calls_among, calls_told, frames_put}
use Rattle.af_parties_law.proofs.RunSpelled.{calls_stand_once}

-- ## One list

module _ (frames : ℕ) where
  -- a look that doesn't shut moves no position, and a proxy that was shut before doesn't look
  position_shut : (kept : ClientKept) (front : ℕ) (shut : Bool) → (fold (client_keeps frames) kept (if shut then [] else client.SawFlags 0 ∷ client.SawFront front ∷ [])).position ≡ kept.position + 0
  position_shut kept front true = sym (add-zero kept.position)
  position_shut kept front false = sym (add-zero kept.position)

  -- a call on a stream moves the position by the frames that it put
  position_called : (kept : ClientKept) (answer : ClientCall) → (fold (client_keeps frames) kept (client_step_events stream kept (step.called answer))).position ≡ kept.position + frames_put answer
  position_called kept (call.Put front count) = refl
  position_called kept (call.Corrupt front rear) = position_shut kept front (is_some kept.shut)
  position_called kept (call.Full front) = sym (add-zero kept.position)
  position_called kept (call.Dead flags) = sym (add-zero kept.position)
  position_called kept (call.Cleared flags) = sym (add-zero kept.position)
  position_called kept (call.Flush count) = sym (add-zero kept.position)
  position_called kept (call.Gain word) = sym (add-zero kept.position)
  position_called kept (call.Sent front code argument) = sym (add-zero kept.position)
  position_called kept (call.SendFull front) = sym (add-zero kept.position)
  position_called kept (call.SendDead flags) = sym (add-zero kept.position)
  position_called kept (call.SendCorrupt front rear) = sym (add-zero kept.position)
  position_called kept (call.Status word) = sym (add-zero kept.position)
  position_called kept (call.Poke true word value) = sym (add-zero kept.position)
  position_called kept (call.Poke false word value) = sym (add-zero kept.position)

  -- all calls among some steps move the position by the frames that they put
  position_spelled : (kept : ClientKept) (steps : List ClientStep) → (fold (client_keeps frames) kept (client_spells stream frames kept steps)).position ≡ kept.position + sum_by frames_put (calls_among steps)
  position_spelled kept [] = sym (add-zero kept.position)
  position_spelled kept (met_server count ∷ steps) = position_spelled kept steps
  position_spelled kept (step.called answer ∷ steps) =
      let events : List ClientEvent = client_step_events stream kept (step.called answer) in
      let next : ClientKept = fold (client_keeps frames) kept events in
      let calls : List ClientCall = calls_among steps in
      let here : next.position ≡ kept.position + frames_put answer = position_called kept answer in
      let sum : next.position + sum_by frames_put calls ≡ kept.position + sum_by frames_put (answer ∷ calls) = omega (arith, here, sum_by-cons frames_put answer calls) in
      ap (λ (k : ClientKept). k.position) (fold-append (client_keeps frames) kept events (client_spells stream frames next steps)) ∙ position_spelled next steps ∙ sum

-- a stream's proxy in order, whose list these calls spell, has released the frames that they put
released_by_calls : (calls : List ClientCall) (c : ClientState) → Spells stream calls c → IsClientInOrder c → c.released ≡ sum_by frames_put calls
released_by_calls calls c spells order =
    let frames : ℕ = c.pass.part.shape.frames in
    let base : ℕ = c.pass.part.shape.base in
    let position : base + length c.pass.part.frames ≡ base + sum_by frames_put calls =
    sym order.position_is
    ∙ ap (λ (events : List ClientEvent). (client_kept frames base events).position) spells.spelled
    ∙ position_spelled frames (client_begins base) spells.steps
    ∙ ap (λ (l : List ClientCall). base + sum_by frames_put l) spells.calls_are in
    omega (arith, order.released_is, position)

-- ## A run

-- the stream's proxy of each client is in order
abbrev pub AreInOrder : SessionState → Type 0
AreInOrder s = (i : ℕ) (p : PartyState) → slice_get s.clients i ≡ Some p → IsClientInOrder p.stream

pub new_order : (script : ScriptData) (shared : SharedState) (s : SessionState) → IsNewSession script shared s → AreInOrder s
new_order script shared s new i p at =
    let one : IsTrackAt script.version i script.tracks shared.streams shared.commands s.clients (tracks_of script s.normal) = new.tracks.each i (omega (arith, slice_get_within s.clients i p at, new.tracks.parties)) in
    subst (λ (q : PartyState). IsClientInOrder q.stream) (same_Some one.party p (sym one.party_at ∙ at)) one.new.stream_line.client_is.1

round_order : (g : Given) (s : SessionState) (r : RoundNoted) (bytes : List ℕ) (t : SessionState) → IsRoundOfAll g s r bytes t → AreInOrder t
round_order g s r bytes t round i q at =
    let last = clients_ended round.met i q (ap (λ (y : SessionState). slice_get y.clients i) (sym round.ends) ∙ at) in
    subst IsClientInOrder (sym last.2) (round.together.2.clients i last.0 last.1).in_order.0

pub run_order : (g : Given) (s : SessionState) (rounds : List RoundNoted) (bytes : List ℕ) (t : SessionState) → IsRunOfAll g s rounds bytes t → AreInOrder s → AreInOrder t
run_order g s [] bytes t run order = subst AreInOrder (sym run.1) order
run_order g s (r ∷ rs) bytes t run order = run_order g run.2 rs run.1 t run.6 (round_order g s r run.0 run.2 run.5)

-- ## The journal

module _ (ended : Bool) (script : ScriptData) (files : List (List Frame)) (j : JournalData) (e : EndsState) (h : HandsBackRun ended script files j e) where
  -- the client of one track has released the frames that its calls in the journal put
  one_released : (i : ℕ) (p : PartyState) → slice_get e.clients i ≡ Some p → p.stream.released ≡ sum_by frames_put (calls_told j i)
  one_released i p at =
      let played = h.played in
      let order = run_order (record { tracks = script.tracks; files = files }) played.start h.rounds played.bytes h.parties played.run (new_order script played.shared played.start played.new) in
      released_by_calls (calls_told j i) p.stream (calls_stand_once ended script files j e h i p at).0 (order i p (ap (λ (x : EndsState). slice_get x.clients i) (sym h.ends_are) ∙ at))

  long : length (released_by e.clients) ≡ j.tracks
  long = length-map e.clients (λ (p : PartyState). p.stream.released) ∙ h.count ∙ sym (ap (λ (x : JournalData). x.tracks) h.journal_is)

  -- the client of each track has released the frames that its calls in the journal put
  pub released_as_told : ReleasedAsTold j e
  released_as_told = fill_by_all (λ (i : ℕ). sum_by frames_put (calls_told j i)) (released_by e.clients) j.tracks 0 long (λ k lt.
      let f : PartyState → ℕ = λ (p : PartyState). p.stream.released in
      let many : k < length e.clients = omega (arith, lt, long, length-map e.clients f) in
      ⊎_elim
      (λ x. get_or_from_slice_get (map f e.clients) k (f x.0) 0 (slice_get-map f e.clients k ∙ ap (option_map f) x.2) ∙ one_released k x.0 x.2)
      (λ x. absurd (omega (arith, many, x.0)))
      (slice_get_cases e.clients k).1)
