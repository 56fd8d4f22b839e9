use Rattle.std.proofs.Common.{◌++◌, ℕ, List, map, ap, ◌∙◌}
use Rattle.af_server.proofs.Common.{packed_word}
use Rattle.af_server.proofs.take.load_frames.Goals as goal

pub returns-clause-loaded : goal.returns-clause-loaded
returns-clause-loaded g c =
    c.load_cells.ensures.saw ∙ ap (λ (l : List ℕ). record c.args.pass.now { part = record c.args.pass.now.part { loaded = l ++ map packed_word c.load_cells.new.into } }) c.requires.none
