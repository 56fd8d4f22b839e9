-- A round of a turn run is determined by what is told at its end.
use Rattle.std.proofs.Common.{◌≡◌, ◌⊎◌, inl, inr, ℕ, ◌*◌, ◌^◌, ◌<◌, ◌≤◌, ◌==◌, Bool, true, false, true≢false, MatchBool, MatchOption, if◌then◌else◌, fold, List, [], ◌∷◌, length, take, Option, Some, None, refl, sym, ap, ◌∙◌, subst, arith, eq-eqb}
use Rattle.af_one_turn_run.proofs.Common.{BlockTold, EntrySeen, IsFastTurn, IsHistoryAsTold, IsMadeBy, IsOpenTurn, IsScript, IsTurn, LegalAlone, LegalTurn, LegalTurnBy, Marks, OnlyCalls, RoundSeen, Run, Session, TrackTold, Turn, TurnFound, TurnSpec, called_in_turn, calls_alone, calls_in, cases_eq, commands_turned, cycle_alone, cycle_frames, each_at, each_long, ext_get_or, fast_ended, found_before, initial, lawful_front, loaded, meets, met, met_alone, no_report, no_track, outside_of, outside_with, pipe_size, setup_of, stream_met, stream_turned, takes_part, told_at, track_met, turned, turned_track, with_load, with_turn}
use Rattle.std.proofs.lemmas.Nat.{mul-le}
use Rattle.af_model.specs.NewestValue as newest
use Rattle.af_model.specs.PipeHistory as piped
use Rattle.af_model.specs.StateQueue as queued
use Rattle.af_script.specs.declared.op.TurnSpec.TheVariants as makes
use Rattle.af_one_turn_run.proofs.Taking.{IsTakenOf}
use Rattle.af_one_turn_run.proofs.Told.{IsToldLegally, IsTrackLegal}
use Rattle.af_one_turn_run.proofs.Growing.{grows_met, legal_before, told_before}
use Rattle.af_one_turn_run.proofs.OneClientTurn.{one_client_turn}
use Rattle.af_one_turn_run.proofs.OneFast.{CyclesTold, one_fast, told_earlier, cycles_follow, cycle_put}
use Rattle.af_one_turn_run.proofs.OneTurn.{IsBlockTold, IsTurnTold, IsBeforeTurn, one_turn}
use Rattle.af_one_turn_run.proofs.Parts.{legal_parts}
use Rattle.af_one_turn_run.proofs.RoundFollows.{told_legally, told_taken_of, told_frames, pipe_legal, RoundReady, RoundTold, RoundForm}
use Rattle.af_one_turn_run.proofs.RunFollows.{met_follows, turn_follows}
use Rattle.af_judge.proofs.BlocksMeet.{met_at as met_track}

-- a block that met was told legally before
met_legal : (b : BlockTold) → IsHistoryAsTold (meets b) → IsToldLegally b
met_legal b h = (told_legally (meets b) h).1.1

met_taken : (b : BlockTold) → IsHistoryAsTold (meets b) → IsTakenOf b.released b
met_taken b h = told_taken_of (meets b) h

-- the calls of all clients are the same, if each client's are
one_calls : (many : ℕ) (a b : RoundSeen) → length a.calls ≡ many → length b.calls ≡ many → ((n : ℕ) → n < many → calls_in a n ≡ calls_in b n) → a.calls ≡ b.calls
one_calls many a b long long_b each = ext_get_or [] a.calls b.calls (long ∙ sym long_b) (λ n low. each n (omega (arith, long, low)))

no_calls : (a : RoundSeen) → OnlyCalls (λ t. ⊥) a → (n : ℕ) → calls_in a n ≡ []
no_calls a only n = elim (only n) [ inl never ↦ absurd never | inr none ↦ none ]

-- rounds are the same by their parts
same_round : (a b : RoundSeen) → a.calls ≡ b.calls → a.turn ≡ b.turn → a.entries ≡ b.entries → a ≡ b
same_round a b calls turn entries = λ i. let r : RoundSeen = record { calls = calls i; turn = turn i; entries = entries i } in r

module _ (s : Session) (form : IsScript s.script) (marks : Marks) (lawful : (n : ℕ) → marks.streams n ≡ true) (lawful_commands : (n : ℕ) → marks.commands n ≡ true) (many : ℕ) (frames : ℕ → List ℕ) (run : Run) (h : RoundReady s many run) where
  small : pipe_size (setup_of s) < 2 ^ 32
  small = let product : s.script.normal * s.script.frames ≤ 16 * 1024 = mul-le s.script.normal s.script.frames 16 1024 form.normal.1 form.frames.1 in omega (arith, product)

  -- ## A client's turn

  client_legal : (track : ℕ) (round : RoundSeen) → track < many → RoundTold s many frames (met s (calls_alone track round run)) → IsTrackLegal (called_in_turn (calls_in round track) (told_at run track))
  client_legal track round low told =
      let made = calls_alone track round run in
      let t = called_in_turn (calls_in round track) (told_at run track) in
      let few : track < length run.tracks = (let l = h.tracks in omega (arith, l, low)) in
      let long : length made.tracks ≡ length run.tracks = each_long _ 0 run.tracks in
      let here : told_at made track ≡ t = each_at (λ number t. if number == track then called_in_turn (calls_in round track) t else t) 0 run.tracks track track no_track few (omega arith)
      ∙ ap (λ (b : Bool). if b then called_in_turn (calls_in round track) (told_at run track) else told_at run track) (eq-eqb track track refl) in
      let last : told_at (met s made) track ≡ track_met s made track t = met_track s made track (omega (arith, few, long)) ∙ ap (track_met s made track) here in
      record {
        stream = legal_before t.stream (stream_met (takes_part s made track) made.handed t.stream) (grows_met (takes_part s made track) made.handed t.stream) (subst (λ (z : TrackTold). IsToldLegally z.stream) last (told.streams track low).legal);
        commands = met_legal t.commands (subst (λ (z : TrackTold). IsHistoryAsTold z.commands) last (told.commands track low));
      }

  one_client : (track : ℕ) (a b : RoundSeen) → RoundForm many a → RoundForm many b → IsMadeBy s marks run (makes.Client track) a → IsMadeBy s marks run (makes.Client track) b
      → RoundTold s many frames (met_alone s run (makes.Client track) a) → RoundTold s many frames (met_alone s run (makes.Client track) b) → a ≡ b
  one_client track a b is is_b made made_b told told_b =
      same_round a b (one_calls many a b is.form.calls is_b.form.calls each) (made.1 ∙ sym made_b.1) (made.2 ∙ sym made_b.2)
    where
      each : (n : ℕ) → n < many → calls_in a n ≡ calls_in b n
      each n low = by_track (cases_eq n track)
        where
          none_of : (c : RoundSeen) → (n ≡ track → ⊥) → (n ≡ track) ⊎ (calls_in c n ≡ []) → calls_in c n ≡ []
          none_of c other (inl same) = absurd (other same)
          none_of c other (inr none) = none

          by_track : (n ≡ track) ⊎ (n ≡ track → ⊥) → calls_in a n ≡ calls_in b n
          by_track (inl same) =
              let few : track < many = subst (λ k. k < many) same low in
              subst (λ k. calls_in a k ≡ calls_in b k) (sym same)
              (one_client_turn (told_at run track) (calls_in a track) (calls_in b track) made.3 (client_legal track a few told) made_b.3 (client_legal track b few told_b))
          by_track (inr other) = none_of a other (made.0 n) ∙ sym (none_of b other (made_b.0 n))

  -- ## The fast mixer's turn

  cycles_put : (entries : List EntrySeen) (run : Run) → (fold (cycle_alone s) run entries).pipe.put ≡ run.pipe.put
  cycles_put [] run = refl
  cycles_put (e ∷ entries) run = cycles_put entries (cycle_alone s run e) ∙ cycle_put s run e

  met_put : (r : Run) → (met s r).pipe.put ≡ r.pipe.put
  unfolding met
  met_put r = refl

  cycles_told : (round : RoundSeen) → RoundForm many round → RoundTold s many frames (met s (fold (cycle_alone s) run round.entries)) → CyclesTold s many frames run.pipe.put (fold (cycle_alone s) run round.entries)
  cycles_told round is told =
      let made = fold (cycle_alone s) run round.entries in
      let f = cycles_follow s run round.entries is.entries in
      told_earlier s many frames run.pipe.put made (met s made) (f.long ∙ h.tracks) (λ n low. f.counted n (let t = h.tracks in omega (arith, t, low)) (h.counted n low)) (met_follows s made)
      (record {
        streams = told.streams;
        queue = told.queue;
        pipe = pipe_legal (pipe_size (setup_of s)) (met s made).pipe told.pipe;
        taken = told.pipe.0.begins ∙ ap (take (length (met s made).pipe.taken)) (met_put made ∙ cycles_put round.entries run);
      })

  one_fast_round : (cycles : ℕ) (a b : RoundSeen) → RoundForm many a → RoundForm many b → IsMadeBy s marks run (makes.Fast cycles) a → IsMadeBy s marks run (makes.Fast cycles) b
      → RoundTold s many frames (met_alone s run (makes.Fast cycles) a) → RoundTold s many frames (met_alone s run (makes.Fast cycles) b) → a ≡ b
  one_fast_round cycles a b is is_b made made_b told told_b =
      same_round a b (one_calls many a b is.form.calls is_b.form.calls (λ n low. no_calls a made.0 n ∙ sym (no_calls b made_b.0 n))) (made.1 ∙ sym made_b.1) (by_end (fast_ended run) made.2 made_b.2)
    where
      by_end : (x : Bool) → MatchBool x (a.entries ≡ []) (IsFastTurn cycles false a.entries × LegalAlone s marks run a.entries) → MatchBool x (b.entries ≡ []) (IsFastTurn cycles false b.entries × LegalAlone s marks run b.entries) → a.entries ≡ b.entries
      by_end true none none_b = none ∙ sym none_b
      by_end false fast fast_b =
          one_fast s marks lawful many frames run.pipe.put cycles run a.entries b.entries fast.0 fast_b.0 is.entries is_b.entries
          (record { tracks = h.tracks; count = h.count; kept = h.kept; counted = h.counted; put_is = refl }) fast.1 fast_b.1 (cycles_told a is told) (cycles_told b is_b told_b)

  -- ## The normal mixer's turn

  module _ (e : Turn) (is : IsTurn many e) (legal : LegalTurnBy (setup_of s) marks (found_before s run [] e) run.normal e) (told : RoundTold s many frames (met s (with_load e (with_turn s (found_before s run [] e) e run)))) where
    abbrev found : TurnFound
    found = found_before s run [] e

    abbrev made : Run
    made = with_load e (with_turn s found e run)

    -- the turn is legal by the fronts of lawful blocks
    legal_lawful : LegalTurn (setup_of s) (outside_with lawful_front (setup_of s) found e) run.normal e
    legal_lawful = subst (λ o. LegalTurn (setup_of s) o run.normal e)
        (legal.found ∙ (λ i. record (outside_of (setup_of s) found e) { stream_front = λ n. legal.streams n (lawful n) i; command_fronts = λ n. legal.commands n (lawful_commands n) i })) legal.legal

    open_form : IsTurn many e → e.ended ≡ false → IsOpenTurn many e
    open_form (inl ended) goes = absurd (true≢false (sym (ap (λ (t : Turn). t.ended) ended) ∙ goes))
    open_form (inr open_is) goes = open_is

    made_long : length made.tracks ≡ length run.tracks
    unfolding with_load with_turn
    made_long = each_long (turned_track (setup_of s) (outside_of (setup_of s) found e) run.normal e) 0 run.tracks

    made_track : (n : ℕ) → n < length run.tracks → told_at made n ≡ turned_track (setup_of s) (outside_of (setup_of s) found e) run.normal e n (told_at run n)
    unfolding with_load with_turn
    made_track n low = each_at (turned_track (setup_of s) (outside_of (setup_of s) found e) run.normal e) 0 run.tracks n n no_track low (omega arith)

    stream_told : (n : ℕ) → n < many → IsBlockTold (frames n) (stream_turned (setup_of s) (outside_of (setup_of s) found e) run.normal e n (told_at run n).stream)
    stream_told n low =
        let few : n < length run.tracks = (let t = h.tracks in omega (arith, t, low)) in
        let f = turn_follows s found e many run is in
        let g = met_follows s made in
        let few_made : n < length made.tracks = (let l = f.long in omega (arith, l, few)) in
        let counted = f.counted n few (h.counted n low) in
        subst (λ (t : TrackTold). IsBlockTold (frames n) t.stream) (made_track n few) (told_before (frames n) (told_at made n).stream (told_at (met s made) n).stream (g.streams n few_made) counted (g.counted n few_made counted) (told.streams n low))

    commands_told : (n : ℕ) → n < many → IsBlockTold (told_at run n).commands.released (commands_turned (setup_of s) (outside_of (setup_of s) found e) run.normal e n (told_at run n).commands)
    commands_told n low =
        let few : n < length run.tracks = (let t = h.tracks in omega (arith, t, low)) in
        let last : told_at (met s made) n ≡ track_met s made n (turned_track (setup_of s) (outside_of (setup_of s) found e) run.normal e n (told_at run n)) =
        met_track s made n (omega (arith, few, made_long)) ∙ ap (track_met s made n) (made_track n few) in
        let b = commands_turned (setup_of s) (outside_of (setup_of s) found e) run.normal e n (told_at run n).commands in
        let history : IsHistoryAsTold (meets b) = subst (λ (t : TrackTold). IsHistoryAsTold t.commands) last (told.commands n low) in
        record { legal = met_legal b history; taken = met_taken b history }

    turn_told : IsTurnTold s run many frames e
    unfolding with_load with_turn met
    turn_told = record {
      legal = legal_lawful;
      form = open_form is;
      streams = stream_told;
      commands = commands_told;
      queue = (legal_parts queued.legal queued.next (queued.start_of_queue (initial (cycle_frames s))) made.queue _ told.queue).0;
      report = (legal_parts newest.legal_value newest.next_value (newest.start_value no_report) made.report _ told.report).0;
      pipe = (legal_parts (piped.legal_in_pipe (pipe_size (setup_of s))) piped.next_in_pipe piped.start_of_pipe made.pipe.told _ (pipe_legal (pipe_size (setup_of s)) (met s made).pipe told.pipe)).0;
    }

    -- how all is told before the turn
    turn_before : run.normal.ended ≡ false → IsBeforeTurn s run many frames
    turn_before runs = record {
      runs = runs;
      tracks = h.kept.many ∙ sym h.count;
      small = small;
      streams = λ n low.
          let few : n < length run.tracks = (let t = h.tracks in omega (arith, t, low)) in
          let f = turn_follows s found e many run is in
          let counted = f.counted n few (h.counted n low) in
          (told_before (frames n) (told_at run n).stream (told_at made n).stream (f.streams n few) (h.counted n low) counted (subst (λ (t : TrackTold). IsBlockTold (frames n) t.stream) (sym (made_track n few)) (stream_told n low))).taken;
      commands = λ n low. (told_taken_of (told_at run n).commands (h.commands n low), told_frames (told_at run n).commands (h.commands n low));
    }

  one_normal : (a b : RoundSeen) → RoundForm many a → RoundForm many b → IsMadeBy s marks run makes.Normal a → IsMadeBy s marks run makes.Normal b
      → RoundTold s many frames (met_alone s run makes.Normal a) → RoundTold s many frames (met_alone s run makes.Normal b) → a ≡ b
  one_normal a b is is_b made made_b told told_b =
      same_round a b (one_calls many a b is.form.calls is_b.form.calls (λ n low. no_calls a made.0 n ∙ sym (no_calls b made_b.0 n)))
      (by_end run.normal.ended refl a.turn b.turn is.form.turn is_b.form.turn made.2 made_b.2 told told_b) (made.1 ∙ sym made_b.1)
    where
      by_end : (x : Bool) → run.normal.ended ≡ x → (o p : Option Turn) → MatchOption o (Unit {0}) (IsTurn many) → MatchOption p (Unit {0}) (IsTurn many)
          → MatchBool x (o ≡ None) (MatchOption o ⊥ (λ e. LegalTurnBy (setup_of s) marks (found_before s run [] e) run.normal e)) → MatchBool x (p ≡ None) (MatchOption p ⊥ (λ e. LegalTurnBy (setup_of s) marks (found_before s run [] e) run.normal e))
          → RoundTold s many frames (met s (loaded o (turned s (found_before s run []) o run))) → RoundTold s many frames (met s (loaded p (turned s (found_before s run []) p run))) → o ≡ p
      by_end true runs o p form_o form_p none none_p told_o told_p = none ∙ sym none_p
      by_end false runs None p form_o form_p legal legal_p told_o told_p = absurd legal
      by_end false runs (Some e) None form_o form_p legal legal_p told_o told_p = absurd legal_p
      by_end false runs (Some e) (Some f) form_o form_p legal legal_p told_o told_p =
          ap Some (one_turn s run many frames (turn_before e form_o legal told_o runs) e f (turn_told e form_o legal told_o) (turn_told f form_p legal_p told_p))

  -- two rounds of one party that are told are the same
  pub one_round : (turn : TurnSpec) (a b : RoundSeen) → RoundForm many a → RoundForm many b → IsMadeBy s marks run turn a → IsMadeBy s marks run turn b → RoundTold s many frames (met_alone s run turn a) → RoundTold s many frames (met_alone s run turn b) → a ≡ b
  one_round (makes.Client track) a b is is_b made made_b told told_b = one_client track a b is is_b made made_b told told_b
  one_round makes.Normal a b is is_b made made_b told told_b = one_normal a b is is_b made made_b told told_b
  one_round (makes.Fast cycles) a b is is_b made made_b told told_b = one_fast_round cycles a b is is_b made made_b told told_b
