use Rattle.std.proofs.Common.{◌≡◌, List, [], ◌∷◌, ◌++◌, length, map, slice_get, Some, sym, ap, ◌∙◌, subst, append_assoc}
use Rattle.std.specs.Arc.{arc_value}
use Rattle.std.specs.Vec.Iter.{into_iter_items}
use Rattle.af_base.proofs.Basics.{map_last}
use Rattle.af_engine.specs.declared.ends.TrackEnds.{TrackEnds}
use Rattle.af_mixer_ends.specs.Opening.{end_of}
use Rattle.af_mixer_ends.specs.Tracks.{TrackState}
use Rattle.af_mixer_ends.proofs.Opened.{at_middle}
use Rattle.af_mixer_ends.proofs.opening.track_ends.Goals as goal

pub track_end-requires : goal.track_end-requires
track_end-requires c =
    let l = c.loop-one in
    let one = c.in-Some.one in
    let rest = into_iter_items c.next.new.self in
    let there : c.args.tracks.items ≡ l.yielded ++ one ∷ rest = l.invariant.1 ∙ ap (λ (xs : List TrackEnds). l.yielded ++ xs) c.in-Some.ensures.steps.0 in
    c.requires (length l.yielded) one (subst (λ (xs : List TrackEnds). slice_get xs (length l.yielded) ≡ Some one) (sym there) (at_middle l.yielded rest one))

pub loop-one-preserved : goal.loop-one-preserved
loop-one-preserved c =
    let l = c.loop-one in
    let one = c.in-Some.one in
    let end = c.in_ok-end.end in
    let f = end_of (arc_value c.args.shared.now) in (
      c.in_ok-push.ensures.items ∙ ap (λ (xs : List TrackState). xs ++ end ∷ []) l.invariant.0 ∙ ap (λ (x : TrackState). map f l.yielded ++ x ∷ []) c.in_ok-end.ensures ∙ sym (map_last f l.yielded one),
      l.invariant.1 ∙ ap (λ (xs : List TrackEnds). l.yielded ++ xs) c.in-Some.ensures.steps.0 ∙ sym (append_assoc l.yielded (one ∷ []) (into_iter_items c.next.new.self)),
    )
