use Rattle.std.proofs.Common.{◌≡◌, ◌^◌, ◌<◌, ℕ, List, length, ap, subst, sym, ◌∙◌, arith}
use Rattle.std.specs.Prelude.{slice_index}
use Rattle.std.proofs.lemmas.List.{get_or_read}
use Rattle.std.proofs.lemmas.List.Elements.{All-get_or}
use Rattle.af_tally.specs.declared.tally.TrackTally.{TrackTally}
use Rattle.af_tally.specs.Summaries.{in_all}
use Rattle.af_tally.specs.Tallies.{Tallied, IsWithin, untouched, track_at, mixed_by, discarded_by, queued_by}
use Rattle.af_tally.proofs.Tallying.{mixed_at, discarded_at, queued_at, in_all_more, mixed_is, discarded_is, queued_is, mixed_small, discarded_small, queued_small, added}
use Rattle.af_tally.proofs.tally.Tally.summary.Goals as goal

pub loop-track-preserved : goal.loop-track-preserved
loop-track-preserved c =
    let l = c.loop-track in
    let k = l.track in
    let items = c.self.inside.tracks.items in
    let tracks = c.args.self.now.tracks in
    let released = c.args.released.now in
    let tally : TrackTally = c.index-tally.result.now in
    let same : items ≡ tracks = ap (λ (t : Tallied). t.tracks) c.self.view_is in
    let lt : k < length items = omega arith in
    let read : tally ≡ track_at tracks k = get_or_read items k tally lt c.index-tally.ensures untouched ∙ ap (λ (ts : List TrackTally). track_at ts k) same in
    let within : IsWithin c.self.inside.looks tally =
    subst (IsWithin c.self.inside.looks) (sym c.index-tally.ensures) (All-get_or (IsWithin c.self.inside.looks) items k tally lt c.self.invariant.within) in
    let few = c.self.invariant.looks_few in
    let small : slice_index released k < 2 ^ 58 = All-get_or (λ (n : ℕ). n < 2 ^ 58) released k 0 (omega (arith, ap length same)) c.requires.small in
    let mixed = mixed_small tally c.self.inside.looks few within in
    let discarded = discarded_small tally c.self.inside.looks few within in
    let queued = queued_small tally (slice_index released k) small in
    record {
      mixed = added l.mixed c.mixed-mixed.result (in_all k (mixed_at tracks)) (mixed_at tracks k) l.invariant.mixed (c.mixed-mixed.ensures ∙ ap mixed_by read) ∙ sym (in_all_more (mixed_at tracks) k);
      dropped = added l.dropped c.discarded-dropped.result (in_all k (discarded_at tracks)) (discarded_at tracks k) l.invariant.dropped (c.discarded-dropped.ensures ∙ ap discarded_by read) ∙ sym (in_all_more (discarded_at tracks) k);
      queued = added l.queued c.queued-queued.result (in_all k (queued_at tracks released)) (queued_at tracks released k) l.invariant.queued
          (c.queued-queued.ensures ∙ ap (λ (t : TrackTally). queued_by t (slice_index released k)) read) ∙ sym (in_all_more (queued_at tracks released) k);
      mixed_fits = omega (arith, l.invariant.mixed_fits, c.mixed-mixed.ensures);
      dropped_fits = omega (arith, l.invariant.dropped_fits, c.discarded-dropped.ensures);
      queued_fits = omega (arith, l.invariant.queued_fits, c.queued-queued.ensures);
    }

pub returns : goal.returns
returns c = λ run is.
    let l = c.loop-track in
    let now = c.args.self.now in
    let released = c.args.released.now in
    let view = c.self.view_is in
    let same : c.self.inside.tracks.items ≡ now.tracks = ap (λ (t : Tallied). t.tracks) view in
    let all : l.track ≡ length now.tracks = omega (arith, ap length same) in
    let cycles = ap (λ (t : Tallied). t.cycles) view ∙ is.cycles in
    let mixed = l.invariant.mixed ∙ ap (λ (n : ℕ). in_all n (mixed_at now.tracks)) all ∙ mixed_is run now is in
    let dropped = l.invariant.dropped ∙ ap (λ (n : ℕ). in_all n (discarded_at now.tracks)) all ∙ discarded_is run now is in
    let queued = l.invariant.queued ∙ ap (λ (n : ℕ). in_all n (queued_at now.tracks released)) all ∙ queued_is run now released is in
    let peak = ap (λ (t : Tallied). t.peak) view ∙ is.peak in
    λ i. record { cycles = cycles i; mixed = mixed i; dropped = dropped i; queued = queued i; peak = peak i }
