use Rattle.std.proofs.Common.{◌≡◌, ◌≤◌, drop, take}
use Rattle.af_offline.proofs.Common.{SameFiles}
use Rattle.af_offline.specs.Asked.{tracks_in}
use Rattle.af_offline.proofs.Chains.{behind}
use Rattle.af_offline.specs.Loading.{AreServed}
use Rattle.af_offline.proofs.load.load_tracks.Given as goal
use Rattle.std.specs.Prelude.{◌^◌}

abbrev pub invariant-loop-number : goal.invariant-loop-number
invariant-loop-number g l = record {
  told : g.S.Store.told l.fn.store → tracks_in (g.S.Store.files l.fn.store) 0 0 l.tracks ≡ behind l.files.items (tracks_in (g.S.Store.files l.fn.store) l.number l.total (drop l.number l.tracks));
  same : g.S.Store.told l.fn.store → SameFiles (g.S.Store.files l.fn.store) (g.S.Store.files l.store);
  tells : g.S.Store.told l.fn.store → g.S.Store.told l.store;
  stays : g.S.Store.faults l.store ≡ g.S.Store.faults l.fn.store;
  total : l.total ≤ 2 ^ 24;
  have : AreServed (take l.number l.tracks) l.files.items;
}
