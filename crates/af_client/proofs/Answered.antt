-- What follows from the clauses of a write and a send.
use Rattle.std.proofs.Common.{◌≡◌, ℕ, ◌-◌, ◌%◌, ◌<◌, ◌≤◌, arith}
use Rattle.af_client.proofs.Common.{IsShape}
use Rattle.af_base.specs.declared.event.ClientCall.TheVariants as call
use Rattle.af_client.specs.Order.{ClientState, client_kept_of}
use Rattle.af_client.specs.Calls.{Answers}
use Rattle.af_client.proofs.Opened.{before_end}

-- a write puts no more frames than it was given
pub puts_few : (c : ClientState) (asked front count : ℕ) → Answers c asked (call.Put front count) → count ≤ asked
puts_few c asked front count a = let e = a.2 in omega arith

-- a write that puts frames puts at least one
pub puts_some : (c : ClientState) (asked front count : ℕ) → IsShape c.pass.part.shape → Answers c asked (call.Put front count) → 1 ≤ count
puts_some c asked front count shape a =
    let e = a.2 in
    let some = a.1 in
    let room = a.0.1 in
    let end : 1 ≤ c.pass.part.shape.cells - (client_kept_of c.pass.part).position % c.pass.part.shape.cells = before_end c.pass.part.shape (client_kept_of c.pass.part).position shape in
    omega arith
