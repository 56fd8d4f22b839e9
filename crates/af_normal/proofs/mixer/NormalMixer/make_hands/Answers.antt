use Rattle.std.proofs.Common.{◌==◌, ◌≡◌, ◌≢◌, ℕ, ◌+◌, ◌<◌, suc, length, sym, ap, ◌∙◌, subst, arith}
use Rattle.af_normal.specs.State.{NormalState}
use Rattle.af_normal.specs.Turning.{Hands, HandsTo, HasWhole}
use Rattle.af_normal.proofs.Beginning.{hands_long, hands_other}
use Rattle.af_normal.proofs.Cases.{none_of_zero, on_true}
use Rattle.af_normal.proofs.mixer.NormalMixer.make_hands.Goals as goal

pub loop-i-preserved : goal.loop-i-preserved
loop-i-preserved g c =
    let i : ℕ = c.loop-i.i in
    let x : NormalState = c.loop-i.self in
    let y : NormalState = c.split_hand.new.self in
    let v = c.loop-i.invariant in
    let one : Hands i x y = c.split_hand.ensures.hands in
    let long = hands_long i x y one in
    let next : suc i ≡ i + 1 = omega arith in
    record {
      made = subst (λ (n : ℕ). HandsTo n c.args.self.now y) next (x, v.made, one);
      tracks = long.0 ∙ v.tracks;
      streams = long.1 ∙ v.streams;
      count = (let l = long.2 in let k = v.count in omega arith);
      later = λ k le. let ne : k ≢ i = omega arith in hands_other i x y one k ne ∙ v.later k (omega arith);
    }

pub split_hand-requires : goal.split_hand-requires
split_hand-requires g c =
    let first = ap (λ (m : NormalState). length m.tracks) c.self.view_is in
    let hands = ap (λ (m : NormalState). m.hands) c.self.view_is in
    let count = c.len-i-end.ensures in
    let on = c.loop-i-test.true in
    let v = c.loop-i.invariant in
    let lt : c.loop-i.i < length c.args.self.now.tracks = omega arith in
    let w : HasWhole c.args.links.now.streams.now c.loop-i.i c.args.self.now.streams = c.requires.whole (none_of_zero c.args.self.now.hands (ap (λ (m : NormalState). length m.hands == 0) (sym c.self.view_is) ∙ ap (λ (n : ℕ). n == 0) (sym c.self.inside.hands.ok.0) ∙ sym c.if-not-is_empty.ensures)) c.loop-i.i lt in
    let tracks = v.tracks in
    let streams = v.streams in
    let sizes = c.requires.sizes in
    record {
      track = ((let f = c.requires.few in omega arith), (let s = sizes.0 in omega arith), omega arith, (let s = sizes.1 in omega arith));
      next = v.count;
      whole = record { stream = w.stream; is_home = v.later c.loop-i.i (omega arith) ∙ w.is_home; fits = w.fits; has_hand = w.has_hand };
    }

pub returns : goal.returns
returns g c =
    let first = ap (λ (m : NormalState). length m.tracks) c.self.view_is in
    let count = c.len-i-end.ensures in
    let off = c.loop-i-test.false in
    let end = c.loop-i.auto.i-end in
    let all : c.loop-i.i ≡ length c.args.self.now.tracks = omega arith in
    record {
      hands = on_true (length c.args.self.now.hands == 0) (HandsTo (length c.args.self.now.tracks) c.args.self.now c.loop-i.self) (c.loop-i.self ≡ c.args.self.now)
          (ap (λ (m : NormalState). length m.hands == 0) (sym c.self.view_is) ∙ ap (λ (n : ℕ). n == 0) (sym c.self.inside.hands.ok.0) ∙ sym c.if-not-is_empty.ensures)
          (subst (λ (n : ℕ). HandsTo n c.args.self.now c.loop-i.self) all c.loop-i.invariant.made);
    }
