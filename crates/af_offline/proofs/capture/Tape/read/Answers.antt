use Rattle.std.proofs.Common.{◌≡◌, ◌+◌, ◌++◌, length, drop, ap, ◌∙◌, arith, length-append, length-drop, length-take}
use Rattle.af_offline.proofs.Common.{HandState}
use Rattle.af_offline.proofs.Taped.{read_count}
use Rattle.af_offline.proofs.capture.Tape.read.Goals as goal

pub returns-clause-tape : goal.returns-clause-tape
returns-clause-tape c =
    let a = c.in_ok-count.ensures.hand in
    let b = c.in_ok-count.ensures.bytes in
    let d = c.deref_mut.ensures.value in
    let t = c.requires.tape in
    let e = read_count c.args.self.now.hand.read c.args.self.now.hand.queued (length c.deref_mut.result.now) in
    let f : length c.read_once.new.hand.read + length c.read_once.new.hand.queued ≡ length c.args.self.now.hand.read + length c.args.self.now.hand.queued =
    ap (λ (h : HandState). length h.read + length h.queued) a ∙ e in
    let g = ap (λ (h : HandState). h.supplied) a in
    let h = ap (λ (h : HandState). h.size) a in
    record {
      sound = t.sound;
      size = h ∙ t.size;
      places =
          (let np = c.read_once.new.places in
          let items = c.args.self.now.places.items in
          let x1 = length-take c.args.self.now.places.len (np ++ drop (length np) items) in
          let x2 = length-append np (drop (length np) items) in
          let x3 = length-drop (length np) items in
          let x4 = ap length c.deref_mut.ensures.value in
          let x5 = c.read_once.auto.places in
          let x6 = c.deref_mut.ensures.len in
          let x7 = t.places in
          omega arith);
      bytes = b t.bytes;
      counted = (let i = t.counted in omega arith);
      few = (let i = t.few in omega arith);
    }
