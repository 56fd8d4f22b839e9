-- Once both mixers have ended, all clients have.
use Rattle.std.proofs.Common.{◌≡◌, ℕ, zero, suc, ◌+◌, ◌<◌, ◌≤◌, ◌==◌, ◌&&◌, nat_lt, if◌then◌else◌, Bool, true, false, List, [], ◌∷◌, length, refl, sym, ap, ◌∙◌, arith}
use Rattle.af_enough_law.proofs.Common.{NormalKept, RoundSeen, Run, Session, TrackTold, after_round, all_ended, each_track, ends, ends_same, fast_ended, fast_party, has_ended, list_all, met_after, nat_tests, normal_party, range_with_len, run_from, told_at, told_each, track_count, with_ends}
use Rattle.af_enough_law.proofs.EndWords.{BothEnded}
use Rattle.af_enough_law.proofs.RunTracks.{ends_long, round_long}

-- ## The parties

client_ends : (run : Run) (track : ℕ) → track < length run.tracks → run.normal.ended ≡ true → (told_at (with_ends run) track).client.ended ≡ true
unfolding with_ends
client_ends run track lt is =
    ap (λ (b : Bool). (told_at (if b then each_track (λ track t. record t { client = ends t.client }) run else run) track).client.ended) is
    ∙ ap (λ (t : TrackTold). t.client.ended) (told_each (λ track t. record t { client = ends t.client }) run track lt)

party_ends : (s : Session) (run : Run) → ((track : ℕ) → track < track_count s → (told_at run track).client.ended ≡ true) → BothEnded run → (party : ℕ) → has_ended s run party ≡ true
party_ends s run clients both party = by (nat_lt party (normal_party s)) refl
  where
    either : (b : Bool) → (if b then true else true) ≡ true
    either true = refl
    either false = refl

    by : (b : Bool) → nat_lt party (normal_party s) ≡ b → has_ended s run party ≡ true
    by true is = ap (λ (b : Bool). if b then (told_at run party).client.ended else if party == normal_party s then run.normal.ended else fast_ended run) is ∙ clients party (grind (arith, nat_tests, is))
    by false is =
        ap (λ (b : Bool). if b then (told_at run party).client.ended else if party == normal_party s then run.normal.ended else fast_ended run) is
        ∙ (λ i. if party == normal_party s then both.normal i else both.fast i) ∙ either (party == normal_party s)

each_one : (test : ℕ → Bool) (from count : ℕ) → ((i : ℕ) → test i ≡ true) → list_all test (range_with_len from count) ≡ true
each_one test from zero h = refl
each_one test from (suc count) h = ap (λ (b : Bool). b && list_all test (range_with_len (from + 1) count)) (h from) ∙ each_one test (from + 1) count h

-- after a round that leaves both mixers ended, all parties have
pub all_end : (s : Session) (run : Run) (round : RoundSeen) → track_count s ≤ length run.tracks → BothEnded (after_round s run round) → all_ended s (after_round s run round) ≡ true
all_end s run round many both = each_one (has_ended s (after_round s run round)) 0 (fast_party s + 1) (party_ends s (after_round s run round) clients both)
  where
    met_run : Run
    met_run = met_after s run round

    ended : met_run.normal.ended ≡ true
    ended = ap (λ (m : NormalKept). m.ended) (sym (ends_same met_run).normal) ∙ both.normal

    clients : (track : ℕ) → track < track_count s → (told_at (after_round s run round) track).client.ended ≡ true
    clients track lt = client_ends met_run track (let long = round_long s run round in let same = ends_long met_run in omega (arith, lt, many, long, same)) ended

-- after some rounds that leave both mixers ended, all parties have
pub rounds_end : (s : Session) (run : Run) (rounds : List RoundSeen) → 1 ≤ length rounds → track_count s ≤ length run.tracks → BothEnded (run_from s run rounds) → all_ended s (run_from s run rounds) ≡ true
rounds_end s run [] some many both = absurd (let z : ⊥ = omega (arith, some) in z)
rounds_end s run (round ∷ []) some many both = all_end s run round many both
rounds_end s run (round ∷ next ∷ rounds) some many both = rounds_end s (after_round s run round) (next ∷ rounds) (omega arith) (let long = round_long s run round in omega (arith, many, long)) both
