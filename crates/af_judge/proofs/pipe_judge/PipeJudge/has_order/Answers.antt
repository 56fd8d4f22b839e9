use Rattle.std.proofs.Common.{arith, ◌≡◌, ◌+◌, ◌≤◌, length, ap, ◌∙◌, sym, length-append}
use Rattle.af_judge.proofs.Common.{Merged}
use Rattle.af_judge.specs.PipeKept.{pipe_begins}
use Rattle.af_judge.specs.Meetings.{AreMeetings}
use Rattle.af_judge.proofs.OnlyMeetings.{answered_pieces, pieces_few, pieces_meet}
use Rattle.af_judge.proofs.pipe_judge.PipeJudge.has_order.Goals as goal

begins : (c : goal.After-clear-2) → c.extend.new.self.from ≡ pipe_begins
begins c = ap (λ (m : Merged). m.from) c.in_ok-legal.ensures.joined ∙ c.self.invariant.0

puts_long : (c : goal.After-clear-2) → c.self.inside.met_puts + c.len.result + 1 ≡ length c.self.inside.merge.client + length c.deref.result.now
puts_long c = search arith

takes_long : (c : goal.After-clear-2) → c.self.inside.met_takes + c.len-2.result + 1 ≡ length c.self.inside.merge.server + length c.deref-2.result.now
takes_long c = search arith

some_put : (c : goal.After-clear-2) → 1 ≤ length c.deref.result.now
some_put c = search arith

meets : (c : goal.After-clear-2) → AreMeetings 0 (length c.extend.new.self.client) c.extend.new.self.hand
meets c =
    pieces_meet c.self.inside.merge c.extend.new.self c.deref.result.now c.deref-2.result.now (c.self.inside.met_puts + c.len.result + 1) (puts_long c) c.in_ok-legal.ensures.joined
    c.self.invariant.1

pub invariant_of-self-2 : goal.invariant_of-self-2
invariant_of-self-2 c =
    let i = c.self.invariant in
    let old = c.self.inside.merge in
    let joined = c.in_ok-legal.ensures.joined in (
      begins c,
      meets c,
      pieces_few old c.extend.new.self c.deref.result.now c.deref-2.result.now (c.self.inside.met_puts + c.len.result + 1) (some_put c) joined i.2,
      puts_long c ∙ sym (ap (λ (m : Merged). length m.client) joined ∙ length-append old.client c.deref.result.now),
      takes_long c ∙ sym (ap (λ (m : Merged). length m.server) joined ∙ length-append old.server c.deref-2.result.now),
      search arith,
      search arith,
      i.7,
      i.8,
      i.9,
      i.10,
    )

pub returns-clause-right : goal.returns-clause-right
returns-clause-right c =
    let new = c.extend.new.self in
    answered_pieces c.in_ok-legal.legal new.from pipe_begins new.client c.clear.new.self.items new.server c.clear-2.new.self.items new.hand (begins c) c.clear.ensures.items c.clear-2.ensures.items (meets c)
    c.in_ok-legal.ensures.answer
