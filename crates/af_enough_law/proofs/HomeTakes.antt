-- What a round takes of a track that the normal mixer mixes: if the pipe has room for a buffer, a buffer, or all that was in its block before the round.
use Rattle.std.proofs.Common.{◌≡◌, ◌⊎◌, inl, inr, ℕ, suc, ◌+◌, ◌≤◌, ◌<◌, ◌==◌, ◌&&◌, ◌||◌, nat_le, if◌then◌else◌, Bool, true, false, true≢false, Option, List, [], ◌∷◌, ◌++◌, length, map, filter, take, refl, sym, ap, ◌∙◌, subst, arith, append_assoc, append-nil, eq-eqb}
use Rattle.af_enough_law.proofs.Common.{BlockTold, ClientEvent, GoesOn, Learnt, LegalRound, LegalTake, Listed, LooksBy, Marks, NormalKept, Outside, RoundSeen, Run, ServerEvent, Session, Setup, Shape, TakeSeen, TrackKept, TrackTold, Turn, TurnFound, after_edits, after_push, after_round, after_takes, after_turn, asked as buffer, before_turn, both_true, client_list, count_seen, cycle_events, early_of, flat_map, found_in, front_of, hand_does, invalid, is_home, is_mixed_here, late_of, learnt, list_any, listed, mix_events, mixed_here, outside_of, push_tracks, range_with_len, server_list, setup_of, stream_list, stream_turned, take-append-le, take_front, takes_from, takes_len, told_at, track_at, track_in, tracks_at, turn_after, turn_len, turned, with_calls, with_cycles}
use Rattle.af_enough_law.proofs.Basics.{before_normal, taken-append}
use Rattle.af_life.specs.TurnEvents.{hand_events_of}
use Rattle.af_enough_law.proofs.Courses.{none_shut}
use Rattle.af_enough_law.proofs.FastWords.{KnowsReleased, IsShown}
use Rattle.af_enough_law.proofs.NearWords.{RoundFlows}
use Rattle.af_enough_law.proofs.NormalRounds.{TurnMade}
use Rattle.af_enough_law.specs.Seen.{Stands, frames_put, frames_taken}
use Rattle.af_enough_law.proofs.BlockNumbers.{stream_setting}
use Rattle.af_enough_law.proofs.CalmTracks.{CalmTrack, CalmTurn}
use Rattle.af_enough_law.proofs.Fair.{calm_drops}
use Rattle.af_enough_law.proofs.FastFlows.{Later, later_both}
use Rattle.af_enough_law.proofs.FastRounds.{over}
use Rattle.af_enough_law.proofs.RunTracks.{calls_long as calls_length, turn_track, cycles_long}
use Rattle.af_enough_law.proofs.FastShows.{Setting, Look, slot_look, stands-more}
use Rattle.af_enough_law.proofs.FastSteps.{server_does-server, hand_does-server}
use Rattle.af_enough_law.proofs.Foreseen.{Foreseen, part_seen, early_quiet}
use Rattle.af_enough_law.proofs.HomeRounds.{keeps_of}
use Rattle.af_enough_law.proofs.NearHears.{early_taken}
use Rattle.af_enough_law.proofs.RoundCalm.{OnlyTake, track_takes, never_invalid, home_open, known_open}
use Rattle.af_enough_law.proofs.Served.{own_all}
use Rattle.af_enough_law.proofs.StreamCalm.{IsQuiet}
use Rattle.af_enough_law.proofs.LentRounds.{any_from as any_at}

-- ## A take of the track is due

any_filter : (q p : ℕ → Bool) (xs : List ℕ) → list_any q (filter p xs) ≡ list_any (λ j. p j && q j) xs
any_filter q p [] = refl
any_filter q p (x ∷ xs) = by (p x) (any_filter q p xs)
  where
    by : (b : Bool) → list_any q (filter p xs) ≡ list_any (λ j. p j && q j) xs → list_any q (if b then x ∷ filter p xs else filter p xs) ≡ ((b && q x) || list_any (λ j. p j && q j) xs)
    by true rest = ap (λ (d : Bool). q x || d) rest
    by false rest = rest

any_map : (q : ℕ → Bool) (takes : List TakeSeen) → list_any q (map (λ take. take.track) takes) ≡ list_any (λ take. q take.track) takes
any_map q [] = refl
any_map q (t ∷ takes) = ap (λ (d : Bool). q t.track || d) (any_map q takes)

none_filter : (q : TakeSeen → Bool) (takes : List TakeSeen) → filter q takes ≡ [] → list_any q takes ≡ false
none_filter q [] is = refl
none_filter q (t ∷ takes) is = by (q t) is (none_filter q takes)
  where
    by : (b : Bool) → (if b then t ∷ filter q takes else filter q takes) ≡ [] → (filter q takes ≡ [] → list_any q takes ≡ false) → (b || list_any q takes) ≡ false
    by true e rest = absurd (let z : suc (length (filter q takes)) ≡ 0 = ap length e in omega (arith, z))
    by false e rest = rest e

any_below : (p : ℕ → Bool) (n i : ℕ) → i < n → p i ≡ true → list_any p (range_with_len 0 n) ≡ true
any_below p n i low is = any_at p 0 n i (omega arith) (omega (arith, low)) is

due_some : (c : Setup) (o : Outside) (m : NormalKept) (e : Turn) (i : ℕ) → GoesOn c o m e → nat_le (buffer c) e.room ≡ true → i < length (after_edits c (learnt o) e m).tracks → is_mixed_here (track_at (after_edits c (learnt o) e m).tracks i) ≡ true → takes_from e.mixes i ≡ [] → ⊥
due_some c o m e i goes room low here none =
    let tracks : List TrackKept = (after_edits c (learnt o) e m).tracks in
    let p : ℕ → Bool = λ j. is_mixed_here (track_at tracks j) in
    let due : map (λ take. take.track) e.mixes ≡ filter p (range_with_len 0 (length tracks)) = goes.due ∙ ap (λ (b : Bool). if b then mixed_here tracks else []) room in
    let nothing : list_any (λ take. take.track == i) e.mixes ≡ false = none_filter (λ take. take.track == i) e.mixes none in
    let some : list_any (λ j. p j && (j == i)) (range_with_len 0 (length tracks)) ≡ true = any_below (λ j. p j && (j == i)) (length tracks) i low (both_true (p i) (i == i) here (eq-eqb i i refl)) in
    true≢false (sym some ∙ sym (any_filter (λ j. j == i) p (range_with_len 0 (length tracks))) ∙ ap (list_any (λ j. j == i)) (sym due) ∙ any_map (λ j. j == i) e.mixes ∙ nothing)

-- the mix changes nothing of which tracks are mixed here
mixed_same : (c : Setup) (k : Learnt) (m : NormalKept) (e : Turn) (i : ℕ) → e.ended ≡ false → i < length m.tracks → (i < length (after_edits c k e m).tracks) × (is_mixed_here (track_at (turn_after c k m e).tracks i) ≡ is_mixed_here (track_at (after_edits c k e m).tracks i))
unfolding turn_after
mixed_same c k m e i runs low =
    let x : NormalKept = after_edits c k e m in
    let pushed = push_tracks e.push x in
    let after = ap (λ (b : Bool). length (if b then record m { ended = true } else after_takes c e.mixes (after_push e.push x)).tracks) runs in
    let whole = turn_len c k m e in
    let mixed = takes_len (buffer c) e.mixes (after_push e.push x).tracks in
    let same = ap (λ (ts : List TrackKept). length ts) pushed in
    let there : i < length x.tracks = omega (arith, low, after, whole, mixed, same) in (
      there,
      ap (λ (b : Bool). is_mixed_here (track_at (if b then record m { ended = true } else after_takes c e.mixes (after_push e.push x)).tracks i)) runs
          ∙ ap is_mixed_here (own_all (buffer c) e.mixes (after_push e.push x).tracks i (omega (arith, there, same)))
          ∙ ap (λ (ts : List TrackKept). is_mixed_here (track_at ts i)) pushed,
    )

-- ## The round

module _ (cut : Bool) (s : Session) (marks : Marks) (run : Run) (round : RoundSeen) (i : ℕ) (t : TurnMade s marks run round) (turn : CalmTurn s marks run round i t) (legal : LegalRound cut s marks run round)
    (known_stream known_commands : List ServerEvent) (calm : CalmTrack run i known_stream known_commands) (able : (track_in t.turn i).disabled ≡ false) (open_looks : none_shut (track_in t.turn i).looks ≡ true) (knows : KnowsReleased (told_at run i).stream) where
  abbrev u : BlockTold
  u = (told_at (after_round s run round) i).stream

  abbrev c : Setup
  c = setup_of s

  abbrev f : TurnFound
  f = found_in s run round t.turn

  abbrev o : Outside
  o = outside_of (setup_of s) (found_in s run round t.turn) t.turn

  abbrev now : Run
  now = before_turn s run round

  abbrev b : BlockTold
  b = (told_at (before_turn s run round) i).stream

  abbrev k : Shape
  k = u.shape

  abbrev tracks : List TrackKept
  tracks = tracks_at (setup_of s) (learnt o) run.normal t.turn i

  setting : Setting k (client_list u) (server_list u)
  setting = stream_setting cut s marks run round i t turn legal known_stream known_commands calm able

  seen : Foreseen u
  seen = part_seen cut s marks run round t i turn.low turn.named legal (keeps_of run i known_stream known_commands calm) turn.part

  quiet : IsQuiet k (server_list b)
  quiet = early_quiet cut s marks run round i turn.low legal seen calm.stream

  shape : b.shape ≡ k
  shape = let x = over s run round i turn.low in sym (ap (λ (y : BlockTold). y.shape) x.whole ∙ x.meeting.is_later.shape ∙ x.late.shape ∙ x.turn.shape)

  -- the turn adds its mix
  turned_is : (told_at (after_turn s run round) i).stream ≡ stream_turned c o run.normal t.turn i b
  turned_is =
      let a = calls_length round run in
      let d = cycles_long s (early_of run round) (with_calls round run) in
      let low = turn.low in
      ap (λ (x : Option Turn). (told_at (turned s (found_in s run round) x now) i).stream) t.is ∙ ap (λ (x : TrackTold). x.stream) (turn_track s f t.turn now i (omega (arith, a, d, low)))
      ∙ ap (λ (m : NormalKept). stream_turned c o m t.turn i b) (before_normal s run round)

  list : server_list (told_at (after_turn s run round) i).stream ≡ server_list b ++ stream_list c o t.turn tracks i
  list = let events : List ServerEvent = stream_list c o t.turn tracks i in
      ap server_list turned_is ∙ server_does-server events (hand_does (hand_events_of t.turn i) b) ∙ ap (λ l. l ++ events) (hand_does-server (hand_events_of t.turn i) b)

  only_mix : (home : Bool) (invalids mixed : List ServerEvent) → (home ≡ true → invalids ≡ []) → (if home then invalids else []) ++ mixed ≡ mixed
  only_mix true invalids mixed none = ap (λ (es : List ServerEvent). es ++ mixed) (none refl)
  only_mix false invalids mixed none = refl

  stream_is : stream_list c o t.turn tracks i ≡ mix_events c o t.turn.mixes i
  stream_is =
      let invalids : List ServerEvent = invalid (learnt o) (track_in t.turn i) tracks i in
      let mixed : List ServerEvent = mix_events c o t.turn.mixes i in
      ap (λ (d : Bool). if d then [] else (if is_home (track_at tracks i).holder then invalids else []) ++ mixed) turn.runs
      ∙ only_mix (is_home (track_at tracks i).holder) invalids mixed
      (λ home. never_invalid (learnt o) (track_in t.turn i) tracks i (home_open (learnt o) i (track_at tracks i) home (known_open s marks i k (client_list u) (server_list u) setting b shape quiet)) open_looks)

  -- the turn's only look at the track, and what it takes
  pub record HomeLook : Type 0 where
    pub mix : TakeSeen
    pub is : takes_from t.turn.mixes i ≡ mix ∷ []
    pub shows : IsShown mix.slot.seen
    pub taken : frames_taken (server_list (told_at (after_turn s run round) i).stream) ≡ frames_taken (server_list b) + count_seen mix.slot.seen
    pub reaches : (count_seen mix.slot.seen ≡ buffer (setup_of s)) ⊎ (frames_put (client_list (told_at run i).stream) ≤ frames_taken (server_list b) + count_seen mix.slot.seen)

  looked : OnlyTake (LegalTake c t.by.outside) t.turn.mixes i → HomeLook
  looked one =
      let x : Listed = record { shape = k; events = server_list b } in
      let same : listed b ≡ x = λ j. record { shape = shape j; events = server_list b } in
      let mix : TakeSeen = one.take_seen in
      let events : List ServerEvent = cycle_events (buffer c) x mix.slot (front_of (buffer c) x mix.slot) in
      let made : mix_events c o t.turn.mixes i ≡ events =
      ap (λ (ts : List TakeSeen). flat_map (λ (mix : TakeSeen). cycle_events (buffer c) (listed (f.streams i)) mix.slot (take_front (front_of (buffer c)) (listed (f.streams i)) ts)) ts) one.is
      ∙ ap (λ (y : Listed). cycle_events (buffer c) y mix.slot (front_of (buffer c) y mix.slot) ++ []) same ∙ append-nil events in
      let at : t.by.outside.streams mix.track ≡ x = ap t.by.outside.streams one.at ∙ ap (λ (y : Outside). y.streams i) t.by.found ∙ same in
      let looks : LooksBy (buffer c) x mix.slot (t.by.outside.stream_front mix.track) = subst (λ (y : Listed). LooksBy (buffer c) y mix.slot (t.by.outside.stream_front mix.track)) at one.holds.looks in
      let v = over s run round i turn.low in
      let rest : List ServerEvent = v.late.events ++ v.meeting.is_later.events in
      let turn_list : server_list (told_at (after_turn s run round) i).stream ≡ server_list b ++ events = list ∙ ap (λ (es : List ServerEvent). server_list b ++ es) (stream_is ∙ made) in
      let whole : server_list u ≡ (server_list b ++ events) ++ rest =
      ap server_list v.whole ∙ v.meeting.is_later.server ∙ ap (λ (es : List ServerEvent). es ++ v.meeting.is_later.events) (v.late.server ∙ ap (λ (es : List ServerEvent). es ++ v.late.events) turn_list)
      ∙ append_assoc (server_list b ++ events) v.late.events v.meeting.is_later.events in
      let look : Look k (buffer c) (client_list u) (server_list b) mix.slot.seen events =
      slot_look k (client_list u) (server_list u) (server_list b) setting (calm_drops (server_list b) quiet.calm) quiet.unshut (buffer c) mix.slot (t.by.outside.stream_front mix.track) rest looks whole in
      let before : Later (told_at run i).stream b = later_both (told_at run i).stream (told_at (with_calls round run) i).stream b v.calls.is_later v.early in
      let stands : Stands _ (server_list b) = subst (Stands _) (sym before.server) (stands-more _ (server_list (told_at run i).stream) before.events knows.learnt) in
      let later : Later b u =
      later_both b (told_at (after_turn s run round) i).stream u v.turn (later_both (told_at (after_turn s run round) i).stream (told_at (with_cycles s (late_of run round) (after_turn s run round)) i).stream u v.late
      (subst (Later (told_at (with_cycles s (late_of run round) (after_turn s run round)) i).stream) (sym v.whole) v.meeting.is_later)) in
      let said : client_list u ≡ client_list (told_at run i).stream ++ (before.calls ++ later.calls) = later.client ∙ ap (λ (es : List ClientEvent). es ++ later.calls) before.client ∙ append_assoc (client_list (told_at run i).stream) before.calls later.calls in
      let put : frames_put (take knows.count (client_list u)) ≡ frames_put (client_list (told_at run i).stream) =
      ap (λ (es : List ClientEvent). frames_put (take knows.count es)) said ∙ ap frames_put (take-append-le knows.count (client_list (told_at run i).stream) (before.calls ++ later.calls) knows.within) ∙ knows.released in
      record {
        mix = mix;
        is = one.is;
        shows = look.shows;
        taken = ap frames_taken turn_list ∙ look.taken;
        reaches = elim (look.reaches knows.count stands) as (λ _. (count_seen mix.slot.seen ≡ buffer (setup_of s)) ⊎ (frames_put (client_list (told_at run i).stream) ≤ frames_taken (server_list b) + count_seen mix.slot.seen)) [
          | inl full ↦ inl full
          | inr most ↦ inr (omega (arith, most, put))
        ];
      }

  -- the look, if the pipe has room for a buffer and the track is mixed here
  pub home_look : nat_le (buffer (setup_of s)) t.turn.room ≡ true → is_mixed_here (track_at (after_round s run round).normal.tracks i) ≡ true → HomeLook
  home_look room here =
      let goes = t.by.legal.goes_on turn.runs in
      let same = mixed_same c (learnt t.by.outside) run.normal t.turn i turn.runs turn.there in
      let due = sym same.1 ∙ ap (λ (m : NormalKept). is_mixed_here (track_at m.tracks i)) (sym t.after) ∙ here in
      elim (track_takes c t.by.outside run.normal t.turn i goes) as (λ _. HomeLook) [
        | inl none ↦ absurd (due_some c t.by.outside run.normal t.turn i goes room same.0 due none)
        | inr one ↦ looked one
      ]

  -- the track flows in the round
  pub home_takes : nat_le (buffer (setup_of s)) t.turn.room ≡ true → is_mixed_here (track_at (after_round s run round).normal.tracks i) ≡ true → RoundFlows s run round i
  home_takes room here =
      let l = home_look room here in
      let v = over s run round i turn.low in
      let more = ap frames_taken (ap server_list v.whole ∙ v.meeting.is_later.server) ∙ taken-append (server_list (told_at (with_cycles s (late_of run round) (after_turn s run round)) i).stream) v.meeting.is_later.events in
      let late = ap frames_taken v.late.server ∙ taken-append (server_list (told_at (after_turn s run round) i).stream) v.late.events in
      let taken = l.taken in
      let early = early_taken s run round i turn.low in
      elim l.reaches as (λ _. RoundFlows s run round i) [
        | inl full ↦ omega (arith, full, taken, more, late, early)
        | inr most ↦ omega (arith, most, taken, more, late, early)
      ]
