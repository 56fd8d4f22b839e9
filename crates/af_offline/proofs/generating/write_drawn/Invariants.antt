use Rattle.std.proofs.Common.{◌≡◌, ◌<◌, ◌^◌}
use Rattle.af_offline.proofs.Common.{SetsFiles}
use Rattle.af_offline.specs.Generated.{drawn, drawn_files}
use Rattle.af_offline.proofs.generating.write_drawn.Given as goal
use Rattle.std.specs.Prelude.{◌/◌, ◌+◌, ◌*◌}

abbrev pub invariant-loop-track : goal.invariant-loop-track
invariant-loop-track g l = record {
  written : g.S.Store.told l.fn.store → SetsFiles (g.S.Store.files l.fn.store) (drawn_files l.number l.track) (g.S.Store.files l.store);
  tells : g.S.Store.told l.fn.store → g.S.Store.told l.store;
  stays : g.S.Store.faults l.store ≡ g.S.Store.faults l.fn.store;
  state : l.state ≡ drawn l.number (100000 * (l.track + l.track / 2));
  bound : l.state < 2 ^ 31;
}
