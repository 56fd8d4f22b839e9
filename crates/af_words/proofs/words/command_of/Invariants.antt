use Rattle.std.proofs.Common.{◌≡◌, false, map, take}
use Rattle.clap.specs.Words.{shape_of}
use Rattle.clap.specs.declared.builder.command.Command.TheViews.{out-Command}
use Rattle.af_words.specs.Words.{command_words}
use Rattle.af_words.proofs.words.command_of.Given as goal

abbrev pub invariant-loop-id : goal.invariant-loop-id
invariant-loop-id l = record {
  shape : shape_of l.command ≡ command_words l.name (map (λ id. id.now) (take l.id-index l.ids));
  local : (out-Command l.command).has_globals ≡ false;
}
