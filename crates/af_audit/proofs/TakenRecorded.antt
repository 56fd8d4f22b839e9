-- The words taken of a track's stream block are those that a journal records, in the order of its rounds.
use Rattle.std.proofs.Common.{◌≡◌, ℕ, ◌<◌, Bool, true, false, if◌then◌else◌, List, [], ◌∷◌, ◌++◌, map, length, Option, Some, None, refl, sym, ap, ◌∙◌, append-nil, append_assoc, arith}
use Rattle.af_audit.proofs.Common.{BlockTold, EntrySeen, RoundSeen, Run, Session, TrackTold, Turn, TurnFound, after_round, after_turn, all_played, before_turn, cycle_beside, cycle_frames, each_at, each_long, each_track, early_of, ends, found_in, late_of, loaded, met, met_after, met_at, met_many, mixed_track, no_track, outside_of, packed_word, played, run_from, setup_of, slot_playing, slot_frames, state_for, stream_met, takes_part, told_at, told_each, turned, turned_track, with_calls, with_cycle, with_cycles, with_ends, with_load, with_mix, with_poll, with_turn}
use Rattle.af_audit.specs.Fates.{recorded, recorded_by, recorded_by_all, recorded_by_turn}
use Rattle.af_audit.proofs.CallsFollow.{calls_long, told_called}

-- the frames of a track in a round: in the entries before the turn, in the turn, and in the entries after it
abbrev pub recorded_in : Session → Run → RoundSeen → ℕ → List ℕ
recorded_in s run round track = recorded_by_all s (with_calls round run) (early_of run round) track ++ recorded_by_turn round.turn track ++ recorded_by_all s (after_turn s run round) (late_of run round) track

-- the words taken of a track
abbrev taken_at : ℕ → Run → List ℕ
taken_at n run = (told_at run n).stream.taken

-- a step by which these words were taken, of a track that is there
record Takes (n : ℕ) (run after : Run) (words : List ℕ) : Type 0 where
  there : n < length after.tracks
  taken : taken_at n after ≡ taken_at n run ++ words

takes_none : (n : ℕ) (run after : Run) → n < length after.tracks → taken_at n after ≡ taken_at n run → Takes n run after []
takes_none n run after there same = record { there = there; taken = same ∙ sym (append-nil (taken_at n run)) }

takes_both : (n : ℕ) (a b c : Run) (xs ys : List ℕ) → Takes n a b xs → Takes n b c ys → Takes n a c (xs ++ ys)
takes_both n a b c xs ys h g = record { there = g.there; taken = g.taken ∙ ap (λ l. l ++ ys) h.taken ∙ append_assoc (taken_at n a) xs ys }

-- one step after another takes the words of the second, if the first took none
takes_before : (n : ℕ) (a b c : Run) (ys : List ℕ) → Takes n a b [] → Takes n b c ys → Takes n a c ys
takes_before n a b c ys h g = takes_both n a b c [] ys h g

takes_after : (n : ℕ) (a b c : Run) (xs : List ℕ) → Takes n a b xs → Takes n b c [] → Takes n a c xs
takes_after n a b c xs h g = let t = takes_both n a b c xs [] h g in record { there = t.there; taken = t.taken ∙ ap (λ l. taken_at n a ++ l) (append-nil xs) }

-- ## The steps of a round

module _ (s : Session) (n : ℕ) where
  takes_cycle : (run : Run) (e : EntrySeen) → n < length run.tracks → Takes n run (with_cycle s run e) (recorded_by s (with_poll s e.entry.state run) e n)
  unfolding with_mix with_poll
  takes_cycle run e low =
      let r : Run = with_poll s e.entry.state run in
      let x = state_for s r e.entry.state in
      record {
        there = (let b = cycle_beside s run e in let m = b.many in omega (arith, m, low));
        taken = ap (λ (t : TrackTold). t.stream.taken) (told_each (mixed_track s x e) r n low) ∙ by_slot (slot_playing x e.entry n);
      }
    where
      by_slot : (o : Option ℕ) → (let t = told_at run n in (elim o as (λ o. TrackTold) [ None ↦ t | Some i ↦ record t { stream = played (cycle_frames s) e i t.stream } ]).stream.taken
          ≡ t.stream.taken ++ (elim o as (λ o. List ℕ) [ None ↦ [] | Some i ↦ map packed_word (slot_frames e i) ]))
      by_slot None = sym (append-nil (told_at run n).stream.taken)
      by_slot (Some i) = refl

  takes_cycles : (es : List EntrySeen) (run : Run) → n < length run.tracks → Takes n run (with_cycles s es run) (recorded_by_all s run es n)
  takes_cycles [] run low = takes_none n run run low refl
  takes_cycles (e ∷ es) run low =
      let one = takes_cycle run e low in
      takes_both n run (with_cycle s run e) (with_cycles s es (with_cycle s run e)) (recorded_by s (with_poll s e.entry.state run) e n) (recorded_by_all s (with_cycle s run e) es n) one (takes_cycles es (with_cycle s run e) one.there)

  takes_turn : (found : Turn → TurnFound) (o : Option Turn) (run : Run) → n < length run.tracks → Takes n run (turned s found o run) (recorded_by_turn o n)
  unfolding with_turn
  takes_turn found None run low = takes_none n run run low refl
  takes_turn found (Some e) run low =
      let c = setup_of s in
      let change = turned_track c (outside_of c (found e) e) run.normal e in
      record {
        there = (let m = each_long change 0 run.tracks in omega (arith, m, low));
        taken = ap (λ (t : TrackTold). t.stream.taken) (each_at change 0 run.tracks n n no_track low (omega arith));
      }

  takes_loaded : (o : Option Turn) (run : Run) → n < length run.tracks → Takes n run (loaded o run) []
  unfolding with_load
  takes_loaded None run low = takes_none n run run low refl
  takes_loaded (Some e) run low = takes_none n run (with_load e run) low refl

  pub taken_met : (there hands : Bool) (b : BlockTold) → (stream_met there hands b).taken ≡ b.taken
  taken_met true true b = refl
  taken_met true false b = refl
  taken_met false true b = refl
  taken_met false false b = refl

  takes_met : (run : Run) → n < length run.tracks → Takes n run (met s run) []
  takes_met run low = takes_none n run (met s run) (let m = met_many s run in omega (arith, m, low))
      (ap (λ (t : TrackTold). t.stream.taken) (met_at s run n low) ∙ taken_met (takes_part s run n) run.handed (told_at run n).stream)

  takes_ends : (run : Run) → n < length run.tracks → Takes n run (with_ends run) []
  unfolding with_ends
  takes_ends run low = by_end run.normal.ended
    where
      by_end : (b : Bool) → Takes n run (if b then each_track (λ track t. record t { client = ends t.client }) run else run) []
      by_end true = takes_none n run _ (let m = each_long (λ track t. record t { client = ends t.client }) 0 run.tracks in omega (arith, m, low))
          (ap (λ (t : TrackTold). t.stream.taken) (told_each (λ track t. record t { client = ends t.client }) run n low))
      by_end false = takes_none n run run low refl

  takes_calls : (round : RoundSeen) (run : Run) → n < length run.tracks → Takes n run (with_calls round run) []
  takes_calls round run low = takes_none n run (with_calls round run) (let m = calls_long round run in omega (arith, m, low)) (ap (λ (t : TrackTold). t.stream.taken) (told_called round run n low))

  -- ## Rounds

  takes_round : (run : Run) (round : RoundSeen) → n < length run.tracks → Takes n run (after_round s run round) (recorded_in s run round n)
  takes_round run round low =
      let start = with_calls round run in
      let before = before_turn s run round in
      let after = after_turn s run round in
      let late = with_cycles s (late_of run round) after in
      let played_all = all_played s run round in
      let early_words = recorded_by_all s start (early_of run round) n in
      let turn_words = recorded_by_turn round.turn n in
      let late_words = recorded_by_all s after (late_of run round) n in
      let a = takes_calls round run low in
      let b = takes_before n run start before early_words a (takes_cycles (early_of run round) start a.there) in
      let c = takes_turn (found_in s run round) round.turn before b.there in
      let d = takes_both n run before after early_words turn_words b c in
      let e = takes_both n run after late (early_words ++ turn_words) late_words d (takes_cycles (late_of run round) after d.there) in
      let f = takes_after n run late played_all (recorded_in s run round n) e (takes_loaded round.turn late e.there) in
      let g = takes_after n run played_all (met_after s run round) (recorded_in s run round n) f (takes_met played_all f.there) in
      takes_after n run (met_after s run round) (after_round s run round) (recorded_in s run round n) g (takes_ends (met_after s run round) g.there)

  takes_rounds : (rounds : List RoundSeen) (run : Run) → n < length run.tracks → Takes n run (run_from s run rounds) (recorded s run rounds n)
  takes_rounds [] run low = takes_none n run run low refl
  takes_rounds (round ∷ rounds) run low =
      let one = takes_round run round low in
      takes_both n run (after_round s run round) (run_from s (after_round s run round) rounds) (recorded_in s run round n) (recorded s (after_round s run round) rounds n) one (takes_rounds rounds (after_round s run round) one.there)

-- the words taken are those before, and then those that the rounds record
pub taken_recorded : (s : Session) (run : Run) (rounds : List RoundSeen) (track : ℕ) → track < length run.tracks → (told_at (run_from s run rounds) track).stream.taken ≡ (told_at run track).stream.taken ++ recorded s run rounds track
taken_recorded s run rounds track low = (takes_rounds s track rounds run low).taken
