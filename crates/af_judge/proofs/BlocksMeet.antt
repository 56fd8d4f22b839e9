-- The blocks of a run meet: what is kept of each track follows, and the judge's answers are those of the run.
use Rattle.std.specs.Prelude.{◌↔◌}
use Rattle.std.proofs.Common.{◌≡◌, ℕ, zero, suc, ◌+◌, ◌^◌, ◌<◌, ◌≤◌, ◌||◌, Bool, true, false, List, [], ◌∷◌, ◌++◌, length, get_or, refl, sym, ap, ◌∙◌, subst, arith}
use Rattle.af_judge.proofs.Common.{BlockTold, ClientEvent, KeepsHistory, Marks, Op, Run, Session, Side, TrackHistories, TrackTold, client_begins, client_keeps, changed_from, flush_in, flushes_of, fold-append, get_or_default, meets, met, no_track, server_list, client_side, sides_of, spec_of, stream_met, takes_part, told_at, track_met}
use Rattle.af_base.specs.declared.event.ClientEvent.TheVariants as client
use Rattle.af_judge.proofs.Basics.{met_many, shape_met}
use Rattle.af_judge.specs.declared.track_judge.TrackJudge.{TrackJudge}
use Rattle.af_judge.specs.Blocks.{BlockJudged, parties_met}
use Rattle.af_judge.specs.BlocksMet.{AreShort, BothKeep, blocks_met}
use Rattle.af_judge.specs.Judging.{side_kept}
use Rattle.af_judge.specs.NormalTold.{IsTrackAt}
use Rattle.af_judge.specs.RunTold.{IsServedTrack, KeepsTracks}
use Rattle.af_judge.specs.Tracks.{AreSpelled, IsTrackOf}
use Rattle.af_judge.proofs.BlocksTold.{history_judged}
use Rattle.af_judge.proofs.ServedSteps.{served_of}
use Rattle.af_judge.proofs.Spelled.{spelled_met}
use Rattle.af_judge.proofs.StepsTold.{stream_kept}

-- ## Tracks changed by their numbers

each-at : (change : ℕ → TrackTold → TrackTold) (number i : ℕ) (ts : List TrackTold) (d e : TrackTold) → i < length ts → get_or (changed_from change number ts) i d ≡ change (number + i) (get_or ts i e)
each-at change number i [] d e low = absurd (omega (arith, low))
each-at change number zero (t ∷ ts) d e low = ap (λ n. change n t) (let z : number ≡ number + 0 = omega arith in z)
each-at change number (suc i) (t ∷ ts) d e low = each-at change (number + 1) i ts d e (omega (arith, low)) ∙ ap (λ n. change n (get_or ts i e)) (let z : number + 1 + i ≡ number + suc i = omega arith in z)

-- a track after the meetings
pub met_at : (s : Session) (run : Run) (n : ℕ) → n < length run.tracks → told_at (met s run) n ≡ track_met s run n (told_at run n)
unfolding met
met_at s run n low = each-at (track_met s run) 0 n run.tracks no_track no_track low ∙ ap (λ i. track_met s run i (told_at run n)) (let z : 0 + n ≡ n = omega arith in z)

-- ## A track

-- what is kept of a client's side doesn't change by a meeting
learns : (b : Side) (count : ℕ) → side_kept (record b { events = b.events ++ client.Learn count ∷ [] }) ≡ side_kept b
learns b count =
    let kept = fold-append (client_keeps b.shape.frames) (client_begins b.shape.base) b.events (client.Learn count ∷ []) in
    let flushes = flushes_stay b.events in
    λ j. record { shape = b.shape; kept = kept j; flushes = flushes j; words = length b.released }
  where
    flushes_stay : (es : List ClientEvent) → flushes_of (es ++ client.Learn count ∷ []) ≡ flushes_of es
    flushes_stay [] = refl
    flushes_stay (e ∷ es) = ap (λ n. flush_in e + n) (flushes_stay es)

learns-stream : (there hands : Bool) (b : BlockTold) → side_kept (client_side (stream_met there hands b)) ≡ side_kept (client_side b)
learns-stream true true b = learns (client_side b) (length (server_list b))
learns-stream true false b = learns (client_side b) (length (server_list b))
learns-stream false true b = refl
learns-stream false false b = refl

track_meets : (ops : List Op) (there hands : Bool) (t : TrackJudge) (b : TrackTold) → IsTrackOf ops t b → IsTrackOf ops (blocks_met there hands t) (record b { stream = stream_met there hands b.stream; commands = meets b.commands })
track_meets ops there hands t b h = record {
  client = record {
    client = h.client.client;
    sides = h.client.sides ∙ sym (λ j. record { stream = learns-stream there hands b.stream j; commands = learns (client_side b.commands) (length (server_list b.commands)) j });
  };
  stream = stream_kept there hands t.stream b.stream h.stream;
  commands = stream_kept true false t.commands b.commands h.commands;
}

-- a track that is kept whole
pub track_kept : (s : Session) (run : Run) (n : ℕ) (ops : List Op) (t : TrackJudge) → n < length run.tracks → IsTrackOf ops t (told_at run n) → IsTrackOf ops (blocks_met (takes_part s run n) run.handed t) (told_at (met s run) n)
track_kept s run n ops t low h = subst (IsTrackOf ops (blocks_met (takes_part s run n) run.handed t)) (sym (met_at s run n low)) (track_meets ops (takes_part s run n) run.handed t (told_at run n) h)

spelled-track : (there hands : Bool) (b : TrackTold) → AreSpelled (sides_of b) → AreSpelled (sides_of (record b { stream = stream_met there hands b.stream; commands = meets b.commands }))
spelled-track true true b h = record { stream = spelled_met true true b.stream h.stream; commands = spelled_met true false b.commands h.commands }
spelled-track true false b h = record { stream = spelled_met true false b.stream h.stream; commands = spelled_met true false b.commands h.commands }
spelled-track false true b h = record { stream = spelled_met false true b.stream h.stream; commands = spelled_met true false b.commands h.commands }
spelled-track false false b h = record { stream = spelled_met false false b.stream h.stream; commands = spelled_met true false b.commands h.commands }

-- the lists of a client that made legal calls stay those of one
pub track_spelled : (s : Session) (run : Run) (n : ℕ) → n < length run.tracks → AreSpelled (sides_of (told_at run n)) → AreSpelled (sides_of (told_at (met s run) n))
track_spelled s run n low h = subst (λ b. AreSpelled (sides_of b)) (sym (met_at s run n low)) (spelled-track (takes_part s run n) run.handed (told_at run n) h)

-- the answers for both blocks of a track are those of the run
pub track_judged : (s : Session) (run : Run) (n : ℕ) (ops : List Op) (t : TrackJudge) → n < length run.tracks → IsTrackOf ops t (told_at run n) → AreSpelled (sides_of (told_at run n))
    → (told_at run n).stream.shape.frames ≤ 65536 → (told_at run n).commands.shape.frames ≤ 65536
    → (let k = blocks_met (takes_part s run n) run.handed t in AreShort (takes_part s run n) k → BothKeep (takes_part s run n) k ↔ TrackHistories s (met s run) n)
unfolding met
track_judged s run n ops t low h spelled few also short =
    let there = takes_part s run n in
    let k = blocks_met there run.handed t in
    let b = told_at run n in
    let c : TrackTold = record b { stream = stream_met there run.handed b.stream; commands = meets b.commands } in
    let now = track_meets ops there run.handed t b h in
    let spells = spelled-track there run.handed b spelled in
    let one = history_judged there k.stream c.stream now.stream (subst (λ x. x.frames ≤ 65536) (sym (shape_met there run.handed b.stream)) few) spells.stream short.0 in
    let two = history_judged true k.commands c.commands now.commands also spells.commands short.1 in
    let at : told_at (met s run) n ≡ c = met_at s run n low in (
      (λ a. record { stream = subst (λ x. KeepsHistory there x.stream) (sym at) (one.0 a.0); commands = subst (λ x. KeepsHistory true x.commands) (sym at) (two.0 a.1) }),
      (λ a. (one.1 (subst (λ x. KeepsHistory there x.stream) at a.stream), two.1 (subst (λ x. KeepsHistory true x.commands) at a.commands))),
    )

-- ## All tracks

lawful-same : (there hands : Bool) (j : BlockJudged) → (parties_met there hands j).lawful ≡ j.lawful
lawful-same true true j = refl
lawful-same true false j = refl
lawful-same false true j = refl
lawful-same false false j = refl

served-track : (s : Session) (marks : Marks) (n : ℕ) (ops : List Op) (there hands : Bool) (t : TrackJudge) (b : TrackTold) → IsServedTrack marks n t b → IsTrackOf ops (blocks_met there hands t) (record b { stream = stream_met there hands b.stream; commands = meets b.commands })
    → IsServedTrack marks n (blocks_met there hands t) (record b { stream = stream_met there hands b.stream; commands = meets b.commands })
served-track s marks n ops there hands t b h w = record {
  stream = served_of (parties_met there hands t.stream) (stream_met there hands b.stream) w.stream;
  commands = served_of (parties_met true false t.commands) (meets b.commands) w.commands;
  lawful_stream = h.lawful_stream ∙ sym (lawful-same there hands t.stream);
  lawful_commands = h.lawful_commands;
  wrap_stream = subst (λ x. x.wrap ≤ 2 ^ 31) (sym (shape_met there hands b.stream)) h.wrap_stream;
  wrap_commands = h.wrap_commands;
}

-- If each track was kept whole, each is after the meetings. One whose client's turn was illegal isn't kept: its parties learn another count of its client's events than the run's
pub tracks_met : (s : Session) (marks : Marks) (Whole : ℕ → Type 0) (tracks after : List TrackJudge) (run : Run) → KeepsTracks s marks Whole tracks run → ((n : ℕ) → n < length tracks → Whole n) → length after ≡ length tracks
    → ((n : ℕ) (t k : TrackJudge) → IsTrackAt tracks n t → IsTrackAt after n k → k ≡ blocks_met (takes_part s run n) run.handed t) → KeepsTracks s marks Whole after (met s run)
tracks_met s marks Whole tracks after run h all many are = record {
  many = many ∙ (h.many ∙ sym (met_many s run));
  all = many ∙ h.all;
  served = λ n k at.
      (let t = before n k at in
      let low : n < length run.tracks = (let a = at.0 in let m = h.many in omega (arith, a, m, many)) in
      let w = all n (let a = at.0 in omega (arith, a, many)) in
      let there = takes_part s run n in
      let now = track_meets (spec_of s n).ops there run.handed t.0 (told_at run n) (h.whole n t.0 t.1 w) in
      subst (IsServedTrack marks n k) (sym (met_at s run n low))
      (subst (λ x. IsServedTrack marks n x (track_met s run n (told_at run n))) (sym (are n t.0 k t.1 at)) (served-track s marks n (spec_of s n).ops there run.handed t.0 (told_at run n) (h.served n t.0 t.1) now)));
  whole = λ n k at w.
      (let t = before n k at in
      let low : n < length run.tracks = (let a = at.0 in let m = h.many in omega (arith, a, m, many)) in
      subst (λ x. IsTrackOf (spec_of s n).ops x (told_at (met s run) n)) (sym (are n t.0 k t.1 at)) (track_kept s run n (spec_of s n).ops t.0 low (h.whole n t.0 t.1 w)));
}
  where
    before : (n : ℕ) (k : TrackJudge) → IsTrackAt after n k → (t : TrackJudge) × IsTrackAt tracks n t
    before n k at = let low : n < length tracks = (let a = at.0 in omega (arith, a, many)) in (get_or tracks n k, (low, get_or_default tracks n k (get_or tracks n k) low))
