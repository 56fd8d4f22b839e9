use Rattle.std.proofs.Common.{◌≡◌, ◌<◌, ◌^◌}
use Rattle.af_offline.specs.Generated.{drawn, drawn_bytes}
use Rattle.af_offline.proofs.generating.draw.Given as goal

abbrev pub invariant-loop-draw : goal.invariant-loop-draw
invariant-loop-draw l = record {
  bytes : l.bytes.items ≡ drawn_bytes l.from l._draw;
  state : l.state ≡ drawn l.from l._draw;
  bound : l.state < 2 ^ 31;
}
