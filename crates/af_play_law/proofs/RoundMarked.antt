-- A round of all parties that pokes no lawful block leaves the lawful blocks of its run unpoked.
use Rattle.std.proofs.Common.{◌≡◌, ℕ, ◌<◌, ◌≤◌, ◌==◌, Bool, true, false, if◌then◌else◌, List, length, Some, slice_get, refl, sym, ap, subst, ◌∙◌, arith}
use Rattle.af_play_law.proofs.Common.{BlockTold, Deeds, IsMarkedRun, IsRoundMarked, IsSmallRun, IsTrackMarked, Marks, PartyState, RoundSeen, Run, Session, SessionState, Tells, Track, TrackTold, called_in_turn, calls_alone, calls_in, each_long, each_track, ends, eq-eqb, is_lawful, is_tame, met, met_at, met_many, met_marked, round_marked, sides_of, some_at, stream_met, takes_part, tame_met, told_at, told_each, track_count, with_calls, with_ends}
use Rattle.af_script.specs.declared.op.TurnSpec.TheVariants as makes

-- the calls of all clients are those of each
calls_at : (round : RoundSeen) (run : Run) (i : ℕ) → i < length run.tracks → told_at (with_calls round run) i ≡ called_in_turn (calls_in round i) (told_at run i)
unfolding with_calls
calls_at round run i low = told_each (λ n t. called_in_turn (calls_in round n) t) run i low

call_at : (round : RoundSeen) (run : Run) (i : ℕ) → i < length run.tracks → told_at (calls_alone i round run) i ≡ called_in_turn (calls_in round i) (told_at run i)
call_at round run i low = told_each (λ n t. if n == i then called_in_turn (calls_in round i) t else t) run i low ∙ ap (λ (b : Bool). if b then called_in_turn (calls_in round i) (told_at run i) else told_at run i) (eq-eqb i i refl)

-- the clients' ends leave the blocks
pub ends_at : (run : Run) (i : ℕ) → i < length run.tracks → ((told_at (with_ends run) i).stream ≡ (told_at run i).stream) × ((told_at (with_ends run) i).commands ≡ (told_at run i).commands)
unfolding with_ends
ends_at run i low = by_end run.normal.ended
  where
    by_end : (b : Bool) → ((told_at (if b then each_track (λ track t. record t { client = ends t.client }) run else run) i).stream ≡ (told_at run i).stream) × ((told_at (if b then each_track (λ track t. record t { client = ends t.client }) run else run) i).commands ≡ (told_at run i).commands)
    by_end true = (ap (λ (t : TrackTold). t.stream) (told_each (λ track t. record t { client = ends t.client }) run i low), ap (λ (t : TrackTold). t.commands) (told_each (λ track t. record t { client = ends t.client }) run i low))
    by_end false = (refl, refl)

calls_many : (i : ℕ) (round : RoundSeen) (run : Run) → length (calls_alone i round run).tracks ≡ length run.tracks
calls_many i round run = each_long (λ n t. if n == i then called_in_turn (calls_in round i) t else t) 0 run.tracks

ends_many : (run : Run) → length (with_ends run).tracks ≡ length run.tracks
unfolding with_ends
ends_many run = by_end run.normal.ended
  where
    by_end : (b : Bool) → length (if b then each_track (λ track t. record t { client = ends t.client }) run else run).tracks ≡ length run.tracks
    by_end true = each_long (λ track t. record t { client = ends t.client }) 0 run.tracks
    by_end false = refl

-- ## The calls

module _ (marks : Marks) (s : Session) (run : Run) (round : RoundSeen) (free : IsRoundMarked marks round.calls) (marked : IsMarkedRun marks run) (i : ℕ) (low : i < length run.tracks) where
  -- the run after this client's calls alone
  abbrev one : Run
  one = calls_alone i round run

  one_low : i < length one.tracks
  one_low = let same = calls_many i round run in omega (arith, same, low)

  after_one : IsTrackMarked marks i (told_at (with_ends (met s one)) i)
  after_one = round_marked marks s run (makes.Client i) round free marked i (let same = ends_many (met s one) in let m = met_many s one in let l = one_low in omega (arith, same, m, l))

  met_low : i < length (met s one).tracks
  met_low = let m = met_many s one in let l = one_low in omega (arith, m, l)

  stream_called : marks.streams i ≡ true → is_tame (called_in_turn (calls_in round i) (told_at run i)).stream ≡ true
  stream_called on =
      let last : is_tame (told_at (met s one) i).stream ≡ true = ap is_tame (sym (ends_at (met s one) i met_low).0) ∙ after_one.stream on in
      let before : is_tame (stream_met (takes_part s one i) one.handed (told_at one i).stream) ≡ true = ap (λ (t : TrackTold). is_tame t.stream) (sym (met_at s one i one_low)) ∙ last in
      ap (λ (t : TrackTold). is_tame t.stream) (sym (call_at round run i low)) ∙ tame_met (takes_part s one i) one.handed (told_at one i).stream before

  commands_called : marks.commands i ≡ true → is_tame (called_in_turn (calls_in round i) (told_at run i)).commands ≡ true
  commands_called on =
      let last : is_tame (told_at (met s one) i).commands ≡ true = ap is_tame (sym (ends_at (met s one) i met_low).1) ∙ after_one.commands on in
      let before : is_tame (stream_met true false (told_at one i).commands) ≡ true = ap (λ (t : TrackTold). is_tame t.commands) (sym (met_at s one i one_low)) ∙ last in
      ap (λ (t : TrackTold). is_tame t.commands) (sym (call_at round run i low)) ∙ tame_met true false (told_at one i).commands before

-- ## The round

-- two runs that tell sessions with the same clients have the same blocks unpoked
module _ (marks : Marks) (s : Session) (run : Run) (round : RoundSeen) (free : IsRoundMarked marks round.calls) (marked : IsMarkedRun marks run) (many : length run.tracks ≡ track_count s) (played : Run) (d e : Deeds) (x u : SessionState) (clients : x.clients ≡ u.clients)
    (told_calls : Tells s (with_calls round run) d x) (told : Tells s played e u) (small : IsSmallRun played) where
  sides : (i : ℕ) → (low : i < track_count s) → sides_of (told_at played i) ≡ sides_of (called_in_turn (calls_in round i) (told_at run i))
  sides i low =
      let p = some_at u.clients i (let c = told.count.1 in omega (arith, low, c)) in
      let is : slice_get x.clients i ≡ Some p.0 = ap (λ (l : List PartyState). slice_get l i) clients ∙ p.1 in
      (told.tracks i p.0 p.1).client ∙ sym (told_calls.tracks i p.0 is).client ∙ ap sides_of (calls_at round run i (omega (arith, low, many)))

  pub marked_played : IsMarkedRun marks played
  marked_played i low =
      let here : i < track_count s = (let c = told.count.0 in omega (arith, low, c)) in
      let there : i < length run.tracks = omega (arith, here, many) in
      record {
        stream = (λ on. ap (λ (t : Track). is_lawful t.stream.events) (sides i here) ∙ stream_called marks s run round free marked i there on);
        commands = (λ on. ap (λ (t : Track). is_lawful t.commands.events) (sides i here) ∙ commands_called marks s run round free marked i there on);
        few = small i low;
      }

  pub marked_after : IsMarkedRun marks (with_ends (met s played))
  marked_after i low =
      let m = ends_many (met s played) in
      let before : i < length (met s played).tracks = omega (arith, low, m) in
      let h : IsTrackMarked marks i (told_at (met s played) i) = met_marked marks s played marked_played i before in
      let same = ends_at (met s played) i before in
      record {
        stream = (λ on. ap is_tame same.0 ∙ h.stream on);
        commands = (λ on. ap is_tame same.1 ∙ h.commands on);
        few = subst (λ (b : BlockTold × BlockTold). (b.0.shape.frames ≤ 65536) × (b.1.shape.frames ≤ 65536)) (λ j. (sym same.0 j, sym same.1 j)) h.few;
      }
