use Rattle.std.proofs.Common.{◌≡◌}
use Rattle.af_rendering.proofs.Common.{KeepsRoom, pcm_of}
use Rattle.af_rendering.specs.Rendered.{HoldsBut}
use Rattle.af_rendering.specs.Stages.{HasRoomToWait}
use Rattle.af_rendering.proofs.rounds.play_rounds.Given as goal

abbrev pub invariant-loop-kept : goal.invariant-loop-kept
invariant-loop-kept g l = record {
  between : g.W.Playing.between l.kept l.parties l.room.tally;
  came : g.W.Playing.came l.parties;
  room : HasRoomToWait l.parties l.room;
  frames : l.parties.fast.frames ≡ l.fn.parties.fast.frames;
  kept : KeepsRoom l.fn.room l.room;
  tells : g.S.Store.told l.fn.store → g.S.Store.told l.store;
  stays : g.S.Store.faults l.store ≡ g.S.Store.faults l.fn.store;
  written : g.S.Store.told l.fn.store → HoldsBut l.room.bytes.items (g.S.Store.files l.fn.store) l.target.name.now (pcm_of l.fn.parties.fast.frames l.parties.fast.log) (g.S.Store.files l.store);
}

abbrev pub decreases-loop-kept : goal.decreases-loop-kept
decreases-loop-kept g l = g.W.Playing.left l.kept l.parties
