use Rattle.std.proofs.Common.{◌∙◌, Option, Some, None, false, length, ap, subst}
use Rattle.af_party.proofs.Common.{Want, client_of, next_want}
use Rattle.af_party.specs.Turning.{WantsNext}
use Rattle.af_party.proofs.CanWorkOn.{can_next}
use Rattle.af_party.proofs.StepMade.{client_twice, step_calls, work_begun, work_called, work_ended}
use Rattle.af_party.proofs.party.Party.step.Goals as goal

pub returns-in_default-clause-work : goal.returns-in_default-clause-work
returns-in_default-clause-work g c =
    let ops = c.args.ops.now in let p = c.args.self.now in let q = c.wanted.new.self in let r = c.rest.new.self in
    let W : Option Want → Type 0 = λ o. WantsNext (client_of ops p.client) o (client_of ops q.client) in
    let wants : W None = subst W c.in_default.is c.wanted.ensures.wants in
    work_ended ops (length c.args.file.now) false p r (client_twice p q r c.wanted.ensures.same c.rest.ensures.same) (c.rest.ensures.client ∙ wants.1) c.requires.work

pub make-call-requires-clause-can : goal.make-call-requires-clause-can
make-call-requires-clause-can g c =
    let ops = c.args.ops.now in let p = c.args.self.now in let q = c.wanted.new.self in let w = c.in-Some.wanted in
    let W : Option Want → Type 0 = λ o. WantsNext (client_of ops p.client) o (client_of ops q.client) in
    let wants : W (Some w) = subst W c.in-Some.is c.wanted.ensures.wants in
    can_next ops (length c.args.file.now) q w (work_begun ops (length c.args.file.now) p q c.wanted.ensures.same wants.1 c.requires.work) (ap next_want wants.1 ∙ wants.0)

pub returns-clause-work : goal.returns-clause-work
returns-clause-work g c =
    let ops = c.args.ops.now in let p = c.args.self.now in let q = c.wanted.new.self in let w = c.in-Some.wanted in
    let W : Option Want → Type 0 = λ o. WantsNext (client_of ops p.client) o (client_of ops q.client) in
    let wants : W (Some w) = subst W c.in-Some.is c.wanted.ensures.wants in
    work_called ops c.args.file.now c.args.stream.now c.args.command.now p q c.make-call.new.self c.note.new.self w c.make-call.result c.requires.blocks c.make-call.ensures.blocks c.wanted.ensures.same wants
    c.make-call.ensures.makes c.make-call.ensures.made c.note.ensures.same c.note.ensures.calls c.note.ensures.noted c.requires.work

pub returns-clause-stepped : goal.returns-clause-stepped
returns-clause-stepped g c =
    let ops = c.args.ops.now in let p = c.args.self.now in let q = c.wanted.new.self in let w = c.in-Some.wanted in
    let W : Option Want → Type 0 = λ o. WantsNext (client_of ops p.client) o (client_of ops q.client) in
    let wants : W (Some w) = subst W c.in-Some.is c.wanted.ensures.wants in
    step_calls ops c.args.file.now p q c.make-call.new.self c.note.new.self w c.make-call.result c.wanted.ensures.same wants c.make-call.ensures.makes c.make-call.ensures.made c.note.ensures.same c.note.ensures.calls
    c.note.ensures.noted c.make-call.ensures.blocks.1.1.released_is
