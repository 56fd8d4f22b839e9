-- All tracks of a turn run stay calm: what each step leaves of them.
use Rattle.std.proofs.Common.{◌≡◌, ℕ, ◌<◌, ◌==◌, Bool, true, false, if◌then◌else◌, fold, List, [], ◌∷◌, length, refl, sym, ap, ◌∙◌, subst, arith, eqb-true, ◌≤◌}
use Rattle.af_render_law.proofs.Common.{ActsWhereMet, AllFind, EntrySeen, LegalAlone, LegalClientTurn, LegalTurnBy, Marks, RoundSeen, Run, Session, TrackTold, TracksRise, Turn, called_in_turn, calls_alone, calls_in, cycle_alone, changed_from, each_long, each_track, ends, found_before, learnt, met, mixed_track, no_track, outside_of, same_current, setup_of, sides_of, slice_index_or, state_for, stream_list, takes_part, told_at, told_each, track_count, track_met, tracks_at, turned_track, with_ends, with_load, with_mix, with_poll, with_turn}
use Rattle.af_turn_law.proofs.RunBlocks.{part_at, PlaysParts, alone_pushed, holds_played}
use Rattle.af_turn_law.proofs.RunTurns.{none_after}
use Rattle.af_render_law.proofs.TrackCalm.{TrackCalm, IsOpenStream, calm_called, calm_mixed, calm_turned, calm_met, calm_ended, calm_first}

pub record RunCalm (s : Session) (run : Run) : Type 0 where
  pub many : length run.tracks ≡ track_count s
  pub tracks : (n : ℕ) → n < length run.tracks → TrackCalm (takes_part s run n) (told_at run n)

-- no server of a stream block that is tame so far is shut
abbrev pub AllOpen : Run → Type 0
AllOpen run = (n : ℕ) → n < length run.tracks → IsOpenStream (told_at run n)

-- the run stays calm if each of its tracks is changed by its number
calm_each : (s : Session) (run after : Run) (change : ℕ → TrackTold → TrackTold) → after.tracks ≡ changed_from change 0 run.tracks → length run.tracks ≡ track_count s
    → ((n : ℕ) → n < length run.tracks → TrackCalm (takes_part s after n) (change n (told_at run n))) → RunCalm s after
calm_each s run after change is many each = record {
  many = long ∙ many;
  tracks = λ n low. (let below : n < length run.tracks = (let l = long in omega (arith, low, l)) in
      subst (TrackCalm (takes_part s after n)) (sym (ap (λ ts. slice_index_or ts n no_track) is ∙ told_each change run n below)) (each n below));
}
  where
    long : length after.tracks ≡ length run.tracks
    long = ap length is ∙ each_long change 0 run.tracks

pub run_calm_met : (s : Session) (run : Run) → RunCalm s run → RunCalm s (met s run)
unfolding met
run_calm_met s run h = calm_each s run (met s run) (track_met s run) refl h.many (λ n low. calm_met (takes_part s run n) run.handed (told_at run n) (h.tracks n low))

pub run_calm_ends : (s : Session) (run : Run) → RunCalm s run → RunCalm s (with_ends run)
unfolding with_ends
run_calm_ends s run h = by_end run.normal.ended
  where
    by_end : (b : Bool) → RunCalm s (if b then each_track (λ track t. record t { client = ends t.client }) run else run)
    by_end true = calm_each s run (each_track (λ track t. record t { client = ends t.client }) run) (λ track t. record t { client = ends t.client }) refl h.many (λ n low. calm_ended (takes_part s run n) (told_at run n) (h.tracks n low))
    by_end false = h

pub open_ends : (run : Run) → AllOpen run → AllOpen (with_ends run)
unfolding with_ends
open_ends run h = by_end run.normal.ended
  where
    by_end : (b : Bool) → AllOpen (if b then each_track (λ track t. record t { client = ends t.client }) run else run)
    by_end true = λ n low. (let below : n < length run.tracks = (let l = each_long (λ track t. record t { client = ends t.client }) 0 run.tracks in omega (arith, low, l)) in
        subst IsOpenStream (sym (told_each (λ track t. record t { client = ends t.client }) run n below)) (h n below))
    by_end false = h

-- ## A client's turn

pub run_calm_calls : (s : Session) (track : ℕ) (round : RoundSeen) (run : Run) → LegalClientTurn (sides_of (told_at run track)) (calls_in round track) → RunCalm s run → RunCalm s (calls_alone track round run)
run_calm_calls s track round run legal h =
    calm_each s run (calls_alone track round run) (λ number t. if number == track then called_in_turn (calls_in round track) t else t) refl h.many (λ n low. by_number n (n == track) refl (h.tracks n low))
  where
    by_number : (n : ℕ) (b : Bool) → (n == track) ≡ b → TrackCalm (takes_part s run n) (told_at run n) → TrackCalm (takes_part s run n) (if b then called_in_turn (calls_in round track) (told_at run n) else told_at run n)
    by_number n true is c = calm_called (takes_part s run n) (calls_in round track) (told_at run n) (subst (λ j. LegalClientTurn (sides_of (told_at run j)) (calls_in round track)) (sym (eqb-true n track is)) legal) c
    by_number n false is c = c

-- ## Fast cycles

calm_poll_first : (s : Session) (k : ℕ) (run : Run) → AllOpen run → RunCalm s run → RunCalm s (with_poll s k run)
unfolding with_poll
calm_poll_first s k run is h = record { many = h.many; tracks = λ n low. calm_first (takes_part s run n) (takes_part s (with_poll s k run) n) (told_at run n) (is n low) (h.tracks n low) }

calm_poll_again : (s : Session) (k : ℕ) (run : Run) → (with_poll s k run).current ≡ run.current → RunCalm s run → RunCalm s (with_poll s k run)
unfolding with_poll
calm_poll_again s k run same h = record { many = h.many; tracks = λ n low. subst (λ part. TrackCalm part (told_at run n)) (sym (ap (part_at s run n) same)) (h.tracks n low) }

calm_mix : (s : Session) (e : EntrySeen) (run : Run) → PlaysParts s e run → RunCalm s run → RunCalm s (with_mix s e run)
unfolding with_mix
calm_mix s e run parts h = calm_each s run (with_mix s e run) (mixed_track s (state_for s run e.entry.state) e) refl h.many
    (λ n low. calm_mixed (takes_part s run n) s (state_for s run e.entry.state) e n (told_at run n) (parts n) (h.tracks n low))

calm_cycle : (s : Session) (run : Run) (e : EntrySeen) → e.entry.state ≤ length run.states → RunCalm s (with_poll s e.entry.state run) → RunCalm s (cycle_alone s run e)
calm_cycle s run e low h = calm_mix s e (met s (with_poll s e.entry.state run)) (holds_played s e run low) (run_calm_met s (with_poll s e.entry.state run) h)

calm_later : (s : Session) (marks : Marks) (entries : List EntrySeen) (run : Run) (m : ℕ) → (with_poll s m run).current ≡ run.current → AllFind s m entries → LegalAlone s marks run entries → RunCalm s run → RunCalm s (fold (cycle_alone s) run entries)
calm_later s marks [] run m same find legal h = h
calm_later s marks (e ∷ entries) run m same find legal h =
    calm_later s marks entries (cycle_alone s run e) m (same_current s run e m find.0) find.1 legal.1 (calm_cycle s run e (alone_pushed s marks run e legal.0) (calm_poll_again s e.entry.state run (ap (λ k. (with_poll s k run).current) find.0 ∙ same) h))

pub run_calm_cycles : (s : Session) (marks : Marks) (entries : List EntrySeen) (run : Run) (m : ℕ) → AllFind s m entries → LegalAlone s marks run entries → AllOpen run → RunCalm s run → RunCalm s (fold (cycle_alone s) run entries)
run_calm_cycles s marks [] run m find legal is h = h
run_calm_cycles s marks (e ∷ entries) run m find legal is h = calm_later s marks entries (cycle_alone s run e) m (same_current s run e m find.0) find.1 legal.1 (calm_cycle s run e (alone_pushed s marks run e legal.0) (calm_poll_first s e.entry.state run is h))

-- ## The normal mixer's turn

pub run_calm_turned : (s : Session) (marks : Marks) (e : Turn) (run : Run) → TracksRise 0 e.mixes → LegalTurnBy (setup_of s) marks (found_before s run [] e) run.normal e → ActsWhereMet s run (found_before s run [] e) e → AllOpen run → RunCalm s run
    → RunCalm s (with_load e (with_turn s (found_before s run [] e) e run))
unfolding with_load with_turn
run_calm_turned s marks e run rise t acts is h =
    calm_each s run (with_load e (with_turn s (found_before s run [] e) e run)) (turned_track (setup_of s) (outside_of (setup_of s) (found_before s run [] e) e) run.normal e) refl h.many
    (λ n low. (let f = found_before s run [] e in let after = takes_part s (with_turn s f e run) n in
    calm_turned (takes_part s run n) after (setup_of s) f run.normal e t.outside n (told_at run n) t.found rise t.legal refl refl
    (λ off tame. none_after s f e run n (stream_list (setup_of s) (outside_of (setup_of s) f e) e (tracks_at (setup_of s) (learnt (outside_of (setup_of s) f e)) run.normal e n) n) (acts.streams n low tame) off) (is n low) (h.tracks n low)))
