use Rattle.std.proofs.Common.{Bool, ◌≡◌, ℕ, ◌+◌, ◌^◌, ◌<◌, ◌||◌, suc, length, refl, sym, ap, ◌∙◌, subst, arith}
use Rattle.af_normal.specs.Mutating.{EditsTo, EditsTrack}
use Rattle.af_normal.specs.Order.{IsOpen}
use Rattle.af_normal.specs.State.{NormalState}
use Rattle.af_normal.proofs.Edited.{edited_long}
use Rattle.af_normal.proofs.OrderOpen.{edit_keeps, editable}
use Rattle.af_normal.proofs.mixer.NormalMixer.edit_all.Goals as goal

pub loop-i-init : goal.loop-i-init
loop-i-init c = record {
  edits = refl;
  may = (c.requires.may.0, (let h = c.requires.may.1 in omega arith), c.requires.may.2);
  long = refl;
  edited = sym c.requires.none;
}

pub edit-here-requires : goal.edit-here-requires
edit-here-requires c =
    let first = ap (λ (m : NormalState). length m.tracks) c.self.view_is in
    let count = c.len-i-end.ensures in
    let on = c.loop-i-test.true in
    let v = c.loop-i.invariant in
    let open_now : IsOpen c.args.links.now v.may.0 c.loop-i.self = v.may.2 in
    let sizes = open_now.tied.sizes in
    let lt : c.loop-i.i < length c.loop-i.self.tracks = (let l = v.long in omega arith) in
    let few : c.loop-i.i < 32 = (let f = sizes.few in omega arith) in
    let room : v.may.0 < 2 ^ 62 = (let r = v.may.1 in omega arith) in
    record {
      editing = open_now.editing;
      track = (lt, (let s = sizes.streams_are in omega arith), (let s = sizes.settings in omega arith), omega arith);
      may = editable c.args.links.now v.may.0 c.loop-i.i c.loop-i.self open_now lt room;
    }

pub loop-i-preserved : goal.loop-i-preserved
loop-i-preserved c =
    let i : ℕ = c.loop-i.i in
    let x : NormalState = c.loop-i.self in
    let y : NormalState = c.edit-here.new.self in
    let v = c.loop-i.invariant in
    let one : EditsTrack i x y = c.edit-here.ensures.edits in
    let next : suc i ≡ i + 1 = omega arith in
    record {
      edits = subst (λ (n : ℕ). EditsTo n c.args.self.now y) next (x, v.edits, one);
      may = (v.may.0 + 1, (let r = v.may.1 in omega arith), edit_keeps c.args.links.now v.may.0 i x v.may.2 y one);
      long = edited_long i x y one ∙ v.long;
      edited = ap (λ (b : Bool). b || c.edit-here.result) v.edited ∙ sym c.edit-here.ensures.edited;
    }
