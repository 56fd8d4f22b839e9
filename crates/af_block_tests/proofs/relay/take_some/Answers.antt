use Rattle.std.proofs.Common.{◌≡◌, true, inl, inr, List, length, refl, sym, subst}
use Rattle.af_base.specs.declared.event.ServerEvent.{ServerEvent}
use Rattle.af_base.specs.declared.event.ServerEvent.TheVariants as server
use Rattle.af_model.specs.Fates.{drops_none}
use Rattle.af_model.proofs.Fates.{drops_more}
use Rattle.af_block_tests.specs.Relay.{IsFlushed}
use Rattle.af_block_tests.proofs.Relayed.{looks_clean}
use Rattle.af_block_tests.proofs.relay.take_some.Goals as goal

pub returns-in-Frames-clause-clean : goal.returns-in-Frames-clause-clean
returns-in-Frames-clause-clean g c = λ clean.
    let look = c.look-seen in
    elim (looks_clean c.args.server.now 4 look.result look.new.self look.ensures.looks clean) [
      | inl flushed ↦ absurd (subst IsFlushed c.in-Frames.is flushed)
      | inr none ↦ inr (subst (λ (es : List ServerEvent). drops_none es ≡ true) (sym c.take.ensures.takes.0) (drops_more look.new.self.pass.part.events (server.Take (length c.take.new.into)) refl none))
    ]

pub returns-in-Empty-clause-clean : goal.returns-in-Empty-clause-clean
returns-in-Empty-clause-clean g c = λ clean. looks_clean c.args.server.now 4 c.look-seen.result c.look-seen.new.self c.look-seen.ensures.looks clean

pub returns-in-Shut-clause-clean : goal.returns-in-Shut-clause-clean
returns-in-Shut-clause-clean g c = λ clean. looks_clean c.args.server.now 4 c.look-seen.result c.look-seen.new.self c.look-seen.ensures.looks clean
