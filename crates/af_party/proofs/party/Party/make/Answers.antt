use Rattle.std.proofs.Common.{inl, inr, sym, subst}
use Rattle.af_party.proofs.Common.{Want}
use Rattle.af_runs.specs.declared.want.Want.TheVariants as want
use Rattle.af_party.specs.Turning.{IsMadeBy}
use Rattle.af_party.proofs.MadeCalls.{blocks_command, blocks_stream}
use Rattle.af_party.proofs.party.Party.make.Goals as goal

pub returns-in-Send-clause-makes : goal.returns-in-Send-clause-makes
returns-in-Send-clause-makes g c = c.send.ensures.makes c.args.file.now

pub returns-in-Send-clause-made : goal.returns-in-Send-clause-made
returns-in-Send-clause-made g c = let P : Want → Type 0 = λ w. IsMadeBy c.args.file.now c.args.self.now w c.send.result in subst P (sym c.in-Send.is) (c.send.ensures.made c.args.file.now)

pub returns-in-Settled-clause-makes : goal.returns-in-Settled-clause-makes
returns-in-Settled-clause-makes g c = c.status.ensures.makes c.args.file.now

pub returns-in-Settled-clause-made : goal.returns-in-Settled-clause-made
returns-in-Settled-clause-made g c =
    let P : Want → Type 0 = λ w. IsMadeBy c.args.file.now c.args.self.now w c.status.result in
    let made : P want.Settled = c.status.ensures.made c.args.file.now in
    elim c.in-Settled.is [ inl e ↦ subst P (sym e) made | inr e ↦ subst P (sym e) (λ k. made k) ]

pub returns-in-Flush-clause-makes : goal.returns-in-Flush-clause-makes
returns-in-Flush-clause-makes g c = c.flush.ensures.makes c.args.file.now

pub returns-in-Flush-clause-made : goal.returns-in-Flush-clause-made
returns-in-Flush-clause-made g c = let P : Want → Type 0 = λ w. IsMadeBy c.args.file.now c.args.self.now w c.flush.result in subst P (sym c.in-Flush.is) (c.flush.ensures.made c.args.file.now)

pub returns-in-Gain-clause-makes : goal.returns-in-Gain-clause-makes
returns-in-Gain-clause-makes g c = c.gain.ensures.makes c.args.file.now

pub returns-in-Gain-clause-made : goal.returns-in-Gain-clause-made
returns-in-Gain-clause-made g c = let P : Want → Type 0 = λ w. IsMadeBy c.args.file.now c.args.self.now w c.gain.result in subst P (sym c.in-Gain.is) (c.gain.ensures.made c.args.file.now)

pub returns-in-Clear-clause-makes : goal.returns-in-Clear-clause-makes
returns-in-Clear-clause-makes g c = c.clear.ensures.makes c.args.file.now

pub returns-in-Clear-clause-made : goal.returns-in-Clear-clause-made
returns-in-Clear-clause-made g c = let P : Want → Type 0 = λ w. IsMadeBy c.args.file.now c.args.self.now w c.clear.result in subst P (sym c.in-Clear.is) (c.clear.ensures.made c.args.file.now)

pub returns-in-Leave-clause-makes : goal.returns-in-Leave-clause-makes
returns-in-Leave-clause-makes g c = c.send-in-Leave.ensures.makes c.args.file.now

pub returns-in-Leave-clause-made : goal.returns-in-Leave-clause-made
returns-in-Leave-clause-made g c = let P : Want → Type 0 = λ w. IsMadeBy c.args.file.now c.args.self.now w c.send-in-Leave.result in subst P (sym c.in-Leave.is) (c.send-in-Leave.ensures.made c.args.file.now)

pub returns-in-Write-clause-made : goal.returns-in-Write-clause-made
returns-in-Write-clause-made g c = let P : Want → Type 0 = λ w. IsMadeBy c.args.file.now c.args.self.now w c.write.result in subst P (sym c.in-Write.is) c.write.ensures.made

pub returns-in-Send-clause-blocks : goal.returns-in-Send-clause-blocks
returns-in-Send-clause-blocks g c = blocks_command c.args.stream.now c.args.command.now c.args.self.now c.send.new.self c.send.ensures.same c.requires.blocks c.send.ensures.ready

pub returns-in-Settled-clause-blocks : goal.returns-in-Settled-clause-blocks
returns-in-Settled-clause-blocks g c = blocks_command c.args.stream.now c.args.command.now c.args.self.now c.status.new.self c.status.ensures.same c.requires.blocks c.status.ensures.ready

pub returns-in-Flush-clause-blocks : goal.returns-in-Flush-clause-blocks
returns-in-Flush-clause-blocks g c = blocks_stream c.args.stream.now c.args.command.now c.args.self.now c.flush.new.self c.flush.ensures.same c.requires.blocks c.flush.ensures.ready

pub returns-in-Gain-clause-blocks : goal.returns-in-Gain-clause-blocks
returns-in-Gain-clause-blocks g c = blocks_stream c.args.stream.now c.args.command.now c.args.self.now c.gain.new.self c.gain.ensures.same c.requires.blocks c.gain.ensures.ready

pub returns-in-Write-clause-blocks : goal.returns-in-Write-clause-blocks
returns-in-Write-clause-blocks g c = blocks_stream c.args.stream.now c.args.command.now c.args.self.now c.write.new.self c.write.ensures.same c.requires.blocks c.write.ensures.ready

pub returns-in-Clear-clause-blocks : goal.returns-in-Clear-clause-blocks
returns-in-Clear-clause-blocks g c = blocks_stream c.args.stream.now c.args.command.now c.args.self.now c.clear.new.self c.clear.ensures.same c.requires.blocks c.clear.ensures.ready

pub returns-in-Leave-clause-blocks : goal.returns-in-Leave-clause-blocks
returns-in-Leave-clause-blocks g c = blocks_command c.args.stream.now c.args.command.now c.args.self.now c.send-in-Leave.new.self c.send-in-Leave.ensures.same c.requires.blocks c.send-in-Leave.ensures.ready

pub returns-in-Poke-clause-makes : goal.returns-in-Poke-clause-makes
returns-in-Poke-clause-makes g c = c.poke.ensures.makes c.args.file.now

pub returns-in-Poke-clause-made : goal.returns-in-Poke-clause-made
returns-in-Poke-clause-made g c = let P : Want → Type 0 = λ w. IsMadeBy c.args.file.now c.args.self.now w c.poke.result in subst P (sym c.in-Poke.is) (c.poke.ensures.made c.args.file.now)
