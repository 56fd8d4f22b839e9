-- One step of a turn.
use Rattle.std.proofs.Common.{◌≡◌, ℕ, ◌+◌, ◌/◌, Bool, List, [], ◌∷◌, ◌++◌, length, Some, refl, ap, sym, ◌∙◌, subst, arith}
use Rattle.af_party.proofs.Common.{Client, ClientCall, ClientKept, ClientState, Frame, IsMade, Made, Op, Roomy, Track, Want, after_answer, at_next_turn, begun, client_made, client_of, rest_of, with_call}
use Rattle.af_party.specs.Asking.{HasBlocks, Makes, flushed_by, track_with, written_by}
use Rattle.af_party.specs.Parties.{PartyState, track_of}
use Rattle.af_party.specs.Turning.{Calls, IsMadeBy, WantsNext}
use Rattle.af_party.specs.Works.{CanWork}
use Rattle.af_party.proofs.CanWorkOn.{first_wanted, work_on}
use Rattle.af_party.proofs.Legal.{call_noted, few_flushed, few_put}
use Rattle.af_party.proofs.WorkLeft.{LeftBy, answer_left, begun_left, ended_left, left_then}

-- ## The client alone

-- the work that a change of the client leaves
pub work_client : (ops : List Op) (frames : ℕ) (p q : PartyState) (c : Client) → q ≡ (record p { client = q.client }) → client_of ops q.client ≡ c
    → LeftBy p.stream.pass.part.shape.cells p.command.pass.part.shape.cells 0 0 (client_of ops p.client) c → CanWork ops frames p → CanWork ops frames q
work_client ops frames p q c same is left can =
    let s = p.stream.pass.part.shape.cells in let k = p.command.pass.part.shape.cells in
    let left' : LeftBy s k 0 0 (client_of ops p.client) (client_of ops q.client) = (let P : Client → Type 0 = λ x. LeftBy s k 0 0 (client_of ops p.client) x in subst P (sym is) left) in
    subst (CanWork ops frames) (sym same) (work_on ops frames 0 0 p (record p { client = q.client }) can left' (omega arith) (omega arith) refl refl refl)

-- the work once the next op is begun
pub work_begun : (ops : List Op) (frames : ℕ) (p q : PartyState) → q ≡ (record p { client = q.client }) → client_of ops q.client ≡ begun (client_of ops p.client) → CanWork ops frames p → CanWork ops frames q
work_begun ops frames p q same is can =
    work_client ops frames p q (begun (client_of ops p.client)) same is (begun_left p.stream.pass.part.shape.cells p.command.pass.part.shape.cells (client_of ops p.client)) can

-- the work after a turn's end
pub work_ended : (ops : List Op) (frames : ℕ) (cut : Bool) (p q : PartyState) → q ≡ (record p { client = q.client }) → client_of ops q.client ≡ at_next_turn cut (client_of ops p.client) → CanWork ops frames p → CanWork ops frames q
work_ended ops frames cut p q same is can =
    work_client ops frames p q (at_next_turn cut (client_of ops p.client)) same is (ended_left p.stream.pass.part.shape.cells p.command.pass.part.shape.cells cut (client_of ops p.client)) can

-- the track if the client alone changed
pub track_client : (ops : List Op) (file : List Frame) (p q : PartyState) (c : Client) → q ≡ (record p { client = q.client }) → client_of ops q.client ≡ c
    → track_of ops file q ≡ (let t = track_of ops file p in record t { client = c })
track_client ops file p q c same is = ap (track_of ops file) same ∙ ap (λ (x : Client). track_with x file p) is

-- two changes of the client are one
pub client_twice : (p q r : PartyState) → q ≡ (record p { client = q.client }) → r ≡ (record q { client = r.client }) → r ≡ (record p { client = r.client })
client_twice p q r first second = second ∙ ap (λ (x : PartyState). let y : PartyState = record x { client = r.client } in y) first

-- ## A call

-- the frames and flushes due when a call is made
due-now : (ops : List Op) (p p1 p2 : PartyState) (wanted : Want) → WantsNext (client_of ops p.client) (Some wanted) (client_of ops p1.client) → p2.client ≡ p1.client
    → p2.client.due ≡ wanted ∷ rest_of (begun (client_of ops p.client)).due
due-now ops p p1 p2 wanted wants kept =
    ap (λ (k : ClientKept). k.due) kept ∙ ap (λ (c : Client). c.due) wants.1 ∙ (first_wanted (begun (client_of ops p.client)) wanted wants.0).0

-- the client after the answer
noted-now : (ops : List Op) (p p1 p2 p3 : PartyState) (wanted : Want) (answer : ClientCall) → WantsNext (client_of ops p.client) (Some wanted) (client_of ops p1.client) → p2.client ≡ p1.client
    → ((first : Want) (wants : List Want) → p2.client.due ≡ first ∷ wants → client_of ops p3.client ≡ after_answer (p2.command.released / 2) first wants (client_of ops p2.client) answer)
    → client_of ops p3.client ≡ after_answer (p2.command.released / 2) wanted (rest_of (begun (client_of ops p.client)).due) (begun (client_of ops p.client)) answer
noted-now ops p p1 p2 p3 wanted answer wants kept noted =
    let rest = rest_of (begun (client_of ops p.client)).due in
    noted wanted rest (due-now ops p p1 p2 wanted wants kept) ∙ ap (λ (c : Client). after_answer (p2.command.released / 2) wanted rest c answer) (ap (client_of ops) kept ∙ wants.1)

-- a step of the turn made one call
pub step_calls : (ops : List Op) (file : List Frame) (p p1 p2 p3 : PartyState) (wanted : Want) (answer : ClientCall) → p1 ≡ (record p { client = p1.client })
    → WantsNext (client_of ops p.client) (Some wanted) (client_of ops p1.client) → Makes file answer p1 p2 → IsMadeBy file p1 wanted answer
    → p3 ≡ (record p2 { client = p3.client; calls = p3.calls }) → p3.calls ≡ (record p2.calls { items = p2.calls.items ++ answer ∷ [] })
    → ((first : Want) (wants : List Want) → p2.client.due ≡ first ∷ wants → client_of ops p3.client ≡ after_answer (p2.command.released / 2) first wants (client_of ops p2.client) answer)
    → p2.command.released ≡ length p2.command.pass.part.frames → Calls ops file p p3
step_calls ops file p p1 p2 p3 wanted answer same1 wants makes made same3 pushed noted order =
    let c = client_of ops p.client in
    let kept : p2.client ≡ p1.client = ap (λ (x : PartyState). x.client) makes.same in
    let begins : track_with c file p1 ≡ track_with c file p = ap (track_with c file) same1 in
    let P : Track → Type 0 = λ t. IsMade t wanted answer in record {
      wanted = wanted;
      is = wants.0;
      answer = answer;
      made = subst P begins (made c);
      track = ap (track_with (client_of ops p3.client) file) same3
          ∙ call_noted (track_of ops file p) (track_with c file p2) answer wanted (p2.command.released / 2) (client_of ops p3.client) wants.0 (makes.sides c ∙ ap (λ (t : Track). with_call t answer) begins)
          (ap (λ (n : ℕ). n / 2) order) (noted-now ops p p1 p2 p3 wanted answer wants kept noted);
      calls = pushed ∙ ap (λ (x : Roomy ClientCall). let y : Roomy ClientCall = record x { items = x.items ++ answer ∷ [] } in y) (ap (λ (x : PartyState). x.calls) makes.same ∙ ap (λ (x : PartyState). x.calls) same1);
    }

-- a proxy's block, before and after
shape_kept : (b : Made) (c d : ClientState) → client_made c.pass ≡ b → client_made d.pass ≡ b → d.pass.part.shape ≡ c.pass.part.shape
shape_kept b c d old new = ap (λ (m : Made). m.shape) (new ∙ sym old)

-- the work after a call
pub work_called : (ops : List Op) (file : List Frame) (stream command : Made) (p p1 p2 p3 : PartyState) (wanted : Want) (answer : ClientCall) → HasBlocks stream command p → HasBlocks stream command p2
    → p1 ≡ (record p { client = p1.client }) → WantsNext (client_of ops p.client) (Some wanted) (client_of ops p1.client) → Makes file answer p1 p2 → IsMadeBy file p1 wanted answer
    → p3 ≡ (record p2 { client = p3.client; calls = p3.calls }) → p3.calls ≡ (record p2.calls { items = p2.calls.items ++ answer ∷ [] })
    → ((first : Want) (wants : List Want) → p2.client.due ≡ first ∷ wants → client_of ops p3.client ≡ after_answer (p2.command.released / 2) first wants (client_of ops p2.client) answer)
    → CanWork ops (length file) p → CanWork ops (length file) p3
work_called ops file stream command p p1 p2 p3 wanted answer old new same1 wants makes made same3 pushed noted can =
    let c = client_of ops p.client in
    let s = p.stream.pass.part.shape.cells in let k = p.command.pass.part.shape.cells in
    let rest = rest_of (begun c).due in
    let kept : p2.client ≡ p1.client = ap (λ (x : PartyState). x.client) makes.same in
    let t : Track = track_with c file p1 in
    let after = answer_left s k (p2.command.released / 2) wanted rest (begun c) answer (first_wanted (begun c) wanted wants.0).0 (few_put t wanted answer (made c)) (few_flushed t wanted answer (made c).0) in
    let P : Client → Type 0 = λ x. LeftBy s k (written_by answer) (flushed_by answer) c x in
    let left : P (client_of ops p3.client) = subst P (sym (noted-now ops p p1 p2 p3 wanted answer wants kept noted)) (left_then s k (written_by answer) (flushed_by answer) c (begun c) (after_answer (p2.command.released / 2) wanted rest (begun c) answer) (begun_left s k c) after) in
    let stream_is : p3.stream ≡ p2.stream = ap (λ (x : PartyState). x.stream) same3 in
    let command_is : p3.command ≡ p2.command = ap (λ (x : PartyState). x.command) same3 in
    let began : p1.stream ≡ p.stream = ap (λ (x : PartyState). x.stream) same1 in
    work_on ops (length file) (written_by answer) (flushed_by answer) p p3 can left
    (ap (λ (x : ClientState). x.released) stream_is ∙ makes.written ∙ ap (λ (x : ClientState). x.released + written_by answer) began)
    (ap (λ (x : ClientState). x.flushes) stream_is ∙ makes.flushes ∙ ap (λ (x : ClientState). x.flushes + flushed_by answer) began)
    (ap (λ (x : ClientState). x.pass.part.shape) stream_is ∙ shape_kept stream p.stream p2.stream old.0.0 new.0.0)
    (ap (λ (x : ClientState). x.pass.part.shape) command_is ∙ shape_kept command p.command p2.command old.1.0 new.1.0)
    (ap (λ (x : Roomy ClientCall). x.room) pushed ∙ ap (λ (x : PartyState). x.calls.room) makes.same ∙ ap (λ (x : PartyState). x.calls.room) same1)
