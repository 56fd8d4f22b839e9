use Rattle.std.proofs.Common.{◌≡◌, ℕ, suc, Bool, true, false, if◌then◌else◌, true≢false, List, ◌∷◌, refl, sym, ap, ◌∙◌, Option, drop, add-one, slice_index_or, arith}
use Rattle.af_life.proofs.Common.{CommandLook}
use Rattle.std.proofs.Math.Seq.{drop-cons}
use Rattle.af_life.specs.declared.kept.TrackKept.{TrackKept}
use Rattle.af_life.specs.Obeys.{after_look, goes_on, after_looks}
use Rattle.af_life.proofs.Settles.{settles_one}
use Rattle.af_life.proofs.kept.TrackKept.after_looks.Goals as goal

taken : (b : Bool) (s t : TrackKept) → b ≡ true → s ≡ (if b then s else t)
taken true s t e = refl
taken false s t e = absurd (true≢false (sym e))

-- after a look that goes on come the others
goes : (given : Option ℕ) (flush_seen : ℕ) (look : CommandLook) (looks : List CommandLook) (s t : TrackKept) → t ≡ after_look given flush_seen look s → goes_on look t ≡ true
    → after_looks given flush_seen looks t ≡ after_looks given flush_seen (look ∷ looks) s
goes given flush_seen look looks s t is on = ap (after_looks given flush_seen looks) is
    ∙ taken (goes_on look (after_look given flush_seen look s)) _ (after_look given flush_seen look s) (ap (goes_on look) (sym is) ∙ on)

pub loop-look-preserved : goal.loop-look-preserved
loop-look-preserved c =
    let xs : List CommandLook = c.args.looks.now in
    let i : ℕ = c.loop-look.look-index in
    let look : CommandLook = slice_index_or xs i _ in
    let on = sym c.goes_on.ensures ∙ c.if-not-goes_on.false in
    let one = settles_one c.args.given c.args.flush_seen look c.loop-look.track in
    let is = ap (λ (t : TrackKept). t.settled) c.after_look-track.ensures in
    let few = c.loop-look.invariant.few in
    record {
      rest = ap (λ (n : ℕ). after_looks c.args.given c.args.flush_seen (drop n xs) c.after_look-track.result) (add-one i)
          ∙ goes c.args.given c.args.flush_seen look (drop (suc i) xs) c.loop-look.track c.after_look-track.result c.after_look-track.ensures on
          ∙ ap (λ (ls : List CommandLook). after_looks c.args.given c.args.flush_seen ls c.loop-look.track) (sym (drop-cons xs i _ c.loop-look-test.true))
          ∙ c.loop-look.invariant.rest;
      few = omega arith;
    }
