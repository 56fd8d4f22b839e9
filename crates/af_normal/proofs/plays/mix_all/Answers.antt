use Rattle.std.proofs.Common.{◌≡◌, ℕ, suc, ◌+◌, ◌^◌, ◌<◌, ◌≢◌, List, [], length, slice_index_or, MatchOption, refl, sym, ap, subst, ◌∙◌, arith}
use Rattle.af_normal.proofs.Common.{All-get_or, AreUpTo, IsServerOf, Made, TrackKept, get_or_default, new_track}
use Rattle.af_normal.specs.Mixing.{Mixing, MixesTrack, MixesTo, stream_at}
use Rattle.af_normal.specs.AllMixed.{HasTakes}
use Rattle.af_normal.proofs.DueTracks.{mixing, other_track, same_there, still_home, still_servers}
use Rattle.af_normal.proofs.plays.mix_all.Goals as goal

pub loop-i-init : goal.loop-i-init
loop-i-init g c = record {
  mixes = ap (mixing c.args.tracks.now c.args.streams.now) c.requires.none;
  there = refl;
  home = c.requires.home;
  ready = c.requires.ready;
  later = λ k le. refl;
  takes = c.requires.takes;
  few = omega (arith, ap length c.requires.none);
}

pub mix_due-requires-clause-home : goal.mix_due-requires-clause-home
mix_due-requires-clause-home g c = c.loop-i.invariant.home

pub mix_due-requires-clause-ready : goal.mix_due-requires-clause-ready
mix_due-requires-clause-ready g c =
    let lt : c.loop-i.i < length c.loop-i.streams = (let long = c.requires.streams in let on = c.loop-i-test.true in omega arith) in
    c.loop-i.invariant.ready c.loop-i.i c.index-links-i.result lt

pub mix_due-requires-clause-few : goal.mix_due-requires-clause-few
mix_due-requires-clause-few g c =
    let lt : c.loop-i.i < length c.args.tracks.now = (let on = c.loop-i-test.true in omega arith) in
    subst (λ (t : TrackKept). AreUpTo (2 ^ 31) t.own) (sym (c.loop-i.invariant.later c.loop-i.i (omega arith)))
    (All-get_or (λ (t : TrackKept). AreUpTo (2 ^ 31) t.own) c.args.tracks.now c.loop-i.i new_track lt c.requires.few)

pub mix_due-requires-clause-takes : goal.mix_due-requires-clause-takes
mix_due-requires-clause-takes g c =
    let wide : length c.args.buffer.now ≡ length c.loop-i.buffer = omega arith in
    let many : length c.args.tracks.now ≡ length c.loop-i.tracks = omega arith in
    subst (λ (n : ℕ). HasTakes n (length c.loop-i.tracks) c.loop-i.mixes c.loop-i.spare) wide
    (subst (λ (n : ℕ). HasTakes (length c.args.buffer.now) n c.loop-i.mixes c.loop-i.spare) many c.loop-i.invariant.takes)

pub mix_due-requires-clause-spare : goal.mix_due-requires-clause-spare
mix_due-requires-clause-spare g c = c.loop-i.invariant.few

pub loop-i-preserved : goal.loop-i-preserved
loop-i-preserved g c =
    let i : ℕ = c.loop-i.i in
    let asked : ℕ = length c.args.buffer.now in
    let blocks : List Made = c.args.links.now.streams.now in
    let x : Mixing = mixing c.loop-i.tracks c.loop-i.streams c.loop-i.mixes.items in
    let y : Mixing = mixing c.mix_due.new.tracks c.mix_due.new.streams c.mix_due.new.mixes.items in
    let wide : length c.loop-i.buffer ≡ asked = omega arith in
    let many : length c.loop-i.tracks ≡ length c.args.tracks.now = omega arith in
    let long : length c.loop-i.streams ≡ length c.loop-i.tracks = (let h = c.requires.streams in omega arith) in
    let same : length c.mix_due.new.tracks ≡ length c.loop-i.tracks = omega arith in
    let lt : i < length blocks = (let h = c.requires.blocks in let on = c.loop-i-test.true in omega arith) in
    let m : MixesTrack asked i x y = subst (λ (n : ℕ). MixesTrack n i x y) wide c.mix_due.ensures.mixes in
    let one : (block : Made) → slice_index_or blocks i c.index-links-i.result ≡ slice_index_or blocks i block = (λ block. get_or_default blocks i c.index-links-i.result block lt) in
    let next : suc i ≡ i + 1 = omega arith in
    record {
      mixes = subst (λ (n : ℕ). MixesTo asked n (mixing c.args.tracks.now c.args.streams.now []) y) next (x, c.loop-i.invariant.mixes, m);
      there = same_there asked i x y m ∙ c.loop-i.invariant.there;
      home = still_home asked i x y long same c.loop-i.invariant.home m;
      ready = still_servers asked i x y blocks c.loop-i.invariant.ready
          (λ block. subst (λ (b : Made). MatchOption (stream_at c.mix_due.new.streams i) (Unit {0}) (IsServerOf b)) (one block) c.mix_due.ensures.ready) m;
      later = λ k le. let ne : k ≢ i = omega arith in other_track asked i x y k ne m ∙ c.loop-i.invariant.later k (omega arith);
      takes = subst (λ (n : ℕ). HasTakes n (length c.args.tracks.now) c.mix_due.new.mixes c.mix_due.new.spare) wide
          (subst (λ (n : ℕ). HasTakes (length c.loop-i.buffer) n c.mix_due.new.mixes c.mix_due.new.spare) many c.mix_due.ensures.takes);
      few = c.mix_due.ensures.spare;
    }

pub returns-clause-mixes : goal.returns-clause-mixes
returns-clause-mixes g c =
    let all : c.loop-i.i ≡ length c.args.tracks.now = (let off = c.loop-i-test.false in omega arith) in
    subst (λ (n : ℕ). MixesTo (length c.args.buffer.now) n (mixing c.args.tracks.now c.args.streams.now []) (mixing c.loop-i.tracks c.loop-i.streams c.loop-i.mixes.items)) all c.loop-i.invariant.mixes

pub returns-clause-there : goal.returns-clause-there
returns-clause-there g c = c.loop-i.invariant.there

pub returns-clause-ready : goal.returns-clause-ready
returns-clause-ready g c = c.loop-i.invariant.ready

pub returns-clause-takes : goal.returns-clause-takes
returns-clause-takes g c = c.loop-i.invariant.takes
