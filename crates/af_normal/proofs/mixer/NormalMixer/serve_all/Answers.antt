use Rattle.std.proofs.Common.{◌≡◌, ◌≢◌, ℕ, ◌+◌, ◌<◌, suc, length, [], ◌∷◌, Option, refl, sym, ap, ◌∙◌, subst, arith, ⊎_elim, length-append}
use Rattle.af_normal.proofs.Common.{Learnt, Roomy, ServerState, Setup, TrackKept, TrackTurn, TurnEntry, cases_eq, known_by, slot_number, track_at}
use Rattle.af_normal.specs.Mixing.{stream_at}
use Rattle.af_normal.specs.Ready.{AreOwn, serving_of}
use Rattle.af_normal.specs.Serving.{ServesTrack, ServesTo, known_at}
use Rattle.af_normal.specs.State.{NormalState, setup_of}
use Rattle.af_normal.specs.TurnMade.{IsServable}
use Rattle.af_normal.specs.Turning.{learnt_by, listed_at}
use Rattle.af_normal.proofs.Served.{OnlyAt, known_here, only_at, other_own, turns_more}
use Rattle.af_normal.proofs.mixer.NormalMixer.serve_all.Goals as goal

pub loop-i-init : goal.loop-i-init
loop-i-init g c = record {
  serves = refl;
  same = refl;
  entry = refl;
  long = (refl, refl);
  later = λ k le. (refl, refl);
  own = λ k lt. (c.requires.tracks k lt).own;
  turns = c.requires.turns;
  count = ap length c.requires.none;
}

pub serve-requires : goal.serve-requires
serve-requires g c =
    let first = ap (λ (m : NormalState). length m.tracks) c.self.view_is in
    let count = c.len-i-end.ensures in
    let on = c.loop-i-test.true in
    let lt : c.loop-i.i < length c.args.self.now.tracks = omega arith in
    let v = c.loop-i.invariant in
    let may : IsServable c.args.links.now c.loop-i.i c.args.self.now = c.requires.tracks c.loop-i.i lt in
    let is : track_at c.loop-i.self.tracks c.loop-i.i ≡ track_at c.args.self.now.tracks c.loop-i.i = (v.later c.loop-i.i (omega arith)).0 in
    let settings = ap (λ (m : NormalState). length m.settings) v.same in
    let sizes = c.requires.sizes in
    let turns = v.turns in
    let number = ap slot_number is in
    let settled = ap (λ (t : TrackKept). t.settled) is in
    let slot = may.slot in
    let few = may.few in
    record {
      track = (omega (arith, v.long.0), omega (arith, v.long.1, sizes.0), omega (arith, settings, sizes.1));
      slot = omega arith;
      few = omega arith;
      own = v.own c.loop-i.i lt;
      spare = (omega (arith, turns.together, v.count), turns.left);
      room = omega (arith, turns.turns_room, v.count);
    }

pub loop-i-preserved : goal.loop-i-preserved
loop-i-preserved g c =
    let i : ℕ = c.loop-i.i in
    let x : NormalState = c.loop-i.self in
    let y : NormalState = c.serve.new.self in
    let z : NormalState = c.args.self.now in
    let v = c.loop-i.invariant in
    let e = c.serve.ensures in
    let k : Learnt = learnt_by c.args.report.now z.streams in
    let own : k.own i ≡ known_at (stream_at x.streams i) = ap (λ (o : Option ServerState). known_by (listed_at o)) (sym (v.later i (omega arith)).1) ∙ known_here (stream_at x.streams i) in
    let setup : setup_of x ≡ setup_of z = ap setup_of v.same in
    let one : ServesTrack (setup_of z) k i (serving_of x) (serving_of y) = subst (λ (s : Setup). ServesTrack s k i (serving_of x) (serving_of y)) setup (e.serves k refl own) in
    let only : OnlyAt i (serving_of x) (serving_of y) = only_at (setup_of z) k i (serving_of x) (serving_of y) one in
    let next : suc i ≡ i + 1 = omega arith in
    record {
      serves = subst (λ (n : ℕ). ServesTo (setup_of z) k n (serving_of z) (serving_of y)) next (serving_of x, v.serves, one);
      same = e.same ∙ ap (λ (m : NormalState). record m { tracks = y.tracks; streams = y.streams; commands = y.commands; hands = y.hands; entry = y.entry; spare_turns = y.spare_turns }) v.same;
      entry = e.entry ∙ ap (λ (t : TurnEntry). record t { tracks = y.entry.tracks }) v.entry;
      long = (only.tracks_long ∙ v.long.0, only.streams_long ∙ v.long.1);
      later = λ n le. let ne : n ≢ i = omega arith in (only.tracks n ne ∙ (v.later n (omega arith)).0, only.streams n ne ∙ (v.later n (omega arith)).1);
      own = λ n lt. ⊎_elim
          (λ (same : n ≡ i). subst (λ (m : ℕ). AreOwn c.args.links.now y.streams y.commands y.hands m) (sym same) e.own)
          (λ (ne : n ≢ i). other_own c.args.links.now i n (serving_of x) (serving_of y) only ne (v.own n lt))
          (cases_eq n i);
      turns = turns_more (length z.tracks) x.entry.tracks x.spare_turns y.entry.tracks y.spare_turns e.turns.0 v.turns e.turns.1 e.turns.2 e.spare.0 e.spare.1 e.spare.2;
      count = (let l : length y.entry.tracks.items ≡ length x.entry.tracks.items + 1 = ap (λ (r : Roomy TrackTurn). length r.items) e.turns.1 ∙ length-append x.entry.tracks.items (e.turns.0 ∷ []) in omega (arith, v.count));
    }

pub returns : goal.returns
returns g c =
    let v = c.loop-i.invariant in
    let first = ap (λ (m : NormalState). length m.tracks) c.self.view_is in
    let count = c.len-i-end.ensures in
    let off = c.loop-i-test.false in
    let all : c.loop-i.i ≡ length c.args.self.now.tracks = omega arith in
    record {
      serves = record {
        tracks = subst (λ (n : ℕ). ServesTo (setup_of c.args.self.now) (learnt_by c.args.report.now c.args.self.now.streams) n (serving_of c.args.self.now) (serving_of c.loop-i.self)) all v.serves;
        same = v.same;
        mixes = ap (λ (t : TurnEntry). t.mixes) v.entry;
      };
      own = λ i lt. v.own i (let l = v.long.0 in omega arith);
      turns = v.turns;
      entry = v.entry;
    }
