-- What is kept of a run after its meetings is kept of it once the clients have ended, if the normal mixer has.
use Rattle.std.proofs.Common.{◌≡◌, ℕ, ◌<◌, Bool, true, false, if◌then◌else◌, List, length, map, arith, sym, ap, subst, ◌∙◌}
use Rattle.af_audit.proofs.Common.{Client, IsServedTrack, IsTrackAt, IsTrackOf, KeepsTracks, Marks, NormalJudged, NormalOf, Op, Run, Session, TrackJudge, TrackTold, each_long, each_track, ends, get_or-map, length-map, met, slice_index_or, spec_of, there_is, told_at, told_each, with_ends}
use Rattle.af_audit.specs.RoundTold.{ended_track, tracks_ended}

-- a track whose client has ended is kept
end_track : (ops : List Op) (t : TrackJudge) (b : TrackTold) → IsTrackOf ops t b → IsTrackOf ops (ended_track t) (record b { client = ends b.client })
end_track ops t b h = record {
  client = record { client = ap (λ (c : Client). ends c) h.client.client; sides = h.client.sides };
  stream = h.stream;
  commands = h.commands;
}

end_served : (marks : Marks) (n : ℕ) (t : TrackJudge) (b : TrackTold) → IsServedTrack marks n t b → IsServedTrack marks n (ended_track t) (record b { client = ends b.client })
end_served marks n t b h = record { stream = h.stream; commands = h.commands; lawful_stream = h.lawful_stream; lawful_commands = h.lawful_commands; wrap_stream = h.wrap_stream; wrap_commands = h.wrap_commands }

all-ended : (s : Session) (marks : Marks) (W : ℕ → Type 0) (tracks : List TrackJudge) (run : Run) → KeepsTracks s marks W tracks run → KeepsTracks s marks W (map ended_track tracks) (each_track (λ track t. record t { client = ends t.client }) run)
all-ended s marks W tracks run h =
    let change : ℕ → TrackTold → TrackTold = λ track t. record t { client = ends t.client } in
    let many : length (map ended_track tracks) ≡ length tracks = length-map tracks ended_track in
    let low : (n : ℕ) (k : TrackJudge) → IsTrackAt (map ended_track tracks) n k → n < length tracks = λ n k at. (let a = at.0 in omega (arith, a, many)) in
    let run-low : (n : ℕ) → n < length tracks → n < length run.tracks = λ n lt. (let m = h.many in omega (arith, lt, m)) in
    let is : (n : ℕ) (k : TrackJudge) (at : IsTrackAt (map ended_track tracks) n k) → k ≡ ended_track (slice_index_or tracks n k) = λ n k at. at.1 ∙ same_ended n k (low n k at) in
    record {
      many = many ∙ (h.many ∙ sym (each_long change 0 run.tracks));
      all = many ∙ h.all;
      served = λ n k at. let lt = low n k at in
          subst (IsServedTrack marks n k) (sym (told_each change run n (run-low n lt))) (subst (λ (x : TrackJudge). IsServedTrack marks n x (change n (told_at run n))) (sym (is n k at)) (end_served marks n (slice_index_or tracks n k) (told_at run n) (h.served n (slice_index_or tracks n k) (there_is tracks n k lt))));
      whole = λ n k at w. let lt = low n k at in
          subst (IsTrackOf (spec_of s n).ops k) (sym (told_each change run n (run-low n lt))) (subst (λ (x : TrackJudge). IsTrackOf (spec_of s n).ops x (change n (told_at run n))) (sym (is n k at)) (end_track (spec_of s n).ops (slice_index_or tracks n k) (told_at run n) (h.whole n (slice_index_or tracks n k) (there_is tracks n k lt) w)));
    }
  where
    same_ended : (n : ℕ) (k : TrackJudge) → n < length tracks → slice_index_or (map ended_track tracks) n k ≡ ended_track (slice_index_or tracks n k)
    same_ended n k lt = get_or-map ended_track tracks n k k lt

-- each track is kept once the clients have ended
pub ends_keep : (s : Session) (marks : Marks) (W : ℕ → Type 0) (tracks : List TrackJudge) (run : Run) (ended : Bool) → ended ≡ run.normal.ended → KeepsTracks s marks W tracks run → KeepsTracks s marks W (tracks_ended ended tracks) (with_ends run)
unfolding with_ends
ends_keep s marks W tracks run ended is h = subst (λ (b : Bool). KeepsTracks s marks W (tracks_ended ended tracks) (if b then each_track (λ track t. record t { client = ends t.client }) run else run)) is (by_case ended)
  where
    by_case : (b : Bool) → KeepsTracks s marks W (tracks_ended b tracks) (if b then each_track (λ track t. record t { client = ends t.client }) run else run)
    by_case true = all-ended s marks W tracks run h
    by_case false = h

-- the normal mixer is kept once the clients have ended
pub ends_normal : (s : Session) (run : Run) (j : NormalJudged) → NormalOf s run j → NormalOf s (with_ends run) j
unfolding with_ends
ends_normal s run j h = by_case run.normal.ended
  where
    by_case : (b : Bool) → NormalOf s (if b then each_track (λ track t. record t { client = ends t.client }) run else run) j
    by_case true = record { judged = h.judged; setup = h.setup; kept = h.kept; states = h.states; handed = h.handed }
    by_case false = h

pub met_normal : (s : Session) (run : Run) (j : NormalJudged) → NormalOf s run j → NormalOf s (met s run) j
unfolding met
met_normal s run j h = record { judged = h.judged; setup = h.setup; kept = h.kept; states = h.states; handed = h.handed }
