use Rattle.std.proofs.Common.{◌≡◌, sym, subst}
use Rattle.af_stateq.specs.declared.mutator.Mutator.TheInside.{Inside}
use Rattle.af_stateq.specs.Shelved.{nothing}
use Rattle.af_stateq.specs.Mutates.{InDraft}
use Rattle.af_stateq.proofs.Edits.{command_keeps}
use Rattle.af_stateq.proofs.mutator.Mutator.set_command.Goals.{then-after-cold+then-before-cold, else-after-cold}
use Rattle.af_stateq.proofs.mutator.Mutator.set_command.Goals as goal

pub invariant_of-self : goal.invariant_of-self
invariant_of-self g c =
    let i = c.self.invariant in
    let kept = λ (s : Inside g.row.P.Denot g.row.N.Denot g.row.N-Key.Denot). (s.spare.items ≡ nothing) × InDraft g.N.Fits.fits record {
      past = s.end;
      draft = record s.draft { command = c.args.command };
      dirty = s.dirty;
      editing = s.editing;
      edited = c.if-self.self;
      pending = s.pending.items;
      returned = s.returned.items;
      out = s.out;
    } in
    elim c.if-after-cold.branch [
      | then-after-cold+then-before-cold w ↦ subst kept (sym w.self-inside-is) (i.0, command_keeps g.N.Fits.fits _ i.1 _ _ _)
      | else-after-cold w ↦ subst kept (sym w.self-inside-is) (i.0, command_keeps g.N.Fits.fits _ i.1 _ _ _)
    ]
