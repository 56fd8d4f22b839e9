-- In a run no INVALID is set on the stream block of a track that hasn't ended and has a slot, while the block's server isn't shut: what each step keeps of that.
use Rattle.std.proofs.Common.{◌≡◌, ◌⊎◌, inl, inr, ℕ, zero, suc, ◌<◌, ◌≤◌, ◌==◌, Bool, true, false, MatchBool, MatchOption, if◌then◌else◌, fold, map, List, [], ◌∷◌, ◌++◌, length, Option, Some, None, refl, sym, ap, ◌∙◌, subst, arith}
use Rattle.af_render_law.proofs.Common.{EntrySeen, GoesOn, IsMadeBy, Learnt, LegalAlone, LegalEntry, LegalTrack, LegalTurnBy, LegalTurnIn, Marks, NormalKept, Outside, RoundSeen, Run, Session, Setup, Sound, TakeSeen, TrackKept, TrackTold, Turn, TurnFound, TurnSpec, after_ack, after_calls, after_edits, asked, called_in_turn, calls_alone, calls_in, cycle_alone, cycle_events, changed_from, each_long, each_track, ends, fast_ended, flat_map, found_before, invalid, is_home, kept, learnt, listed, loaded, made_alone, met, met_alone, mix_events, mixed_track, new_run, new_told_track, no_track, outside_of, range_with_len, served_to, server_list, setup_of, sides_of, slice_index_or, state_for, stream_list, takes_from, takes_part, told_at, told_each, track_at, track_count, track_in, track_met, tracks_at, tracks_due, turn_after, turn_alone, turned, turned_track, with_ends, with_load, with_mix, with_poll, with_turn}
use Rattle.af_life.proofs.Basics.{at_new, slot_of_away}
use Rattle.af_script.specs.declared.op.TurnSpec.TheVariants as makes
use Rattle.af_render_law.proofs.InvalidBlocks.{StreamUnset, unset_new, unset_called, unset_met, unset_mixed, unset_turned}
use Rattle.af_render_law.proofs.MixedOpen.{entry_looked}
use Rattle.af_render_law.proofs.NoInvalid.{SetNoInvalid}
use Rattle.af_render_law.proofs.Unmixed.{IsOut, Unmixed}
use Rattle.af_render_law.proofs.UnmixedTurns.{turn_out, turn_unmixed, none_found, none_taken, found_lives}

-- of each track: no life is in the mix before it is there, and no INVALID is set while the track is unmixed
pub record InvalidKept (run : Run) : Type 0 where
  pub out : (n : ℕ) → n < length run.tracks → IsOut (track_at run.normal.tracks n).life
  pub streams : (n : ℕ) → n < length run.tracks → StreamUnset (track_at run.normal.tracks n) (told_at run n).stream

-- each track is changed by its number
kept_by : (run after : Run) (change : ℕ → TrackTold → TrackTold) → after.tracks ≡ changed_from change 0 run.tracks → ((n : ℕ) → n < length run.tracks → IsOut (track_at after.normal.tracks n).life)
    → ((n : ℕ) → n < length run.tracks → StreamUnset (track_at after.normal.tracks n) (change n (told_at run n)).stream) → InvalidKept after
kept_by run after change is out each = record {
  out = λ n low. out n (below n low);
  streams = λ n low. subst (λ (t : TrackTold). StreamUnset (track_at after.normal.tracks n) t.stream) (sym (ap (λ ts. slice_index_or ts n no_track) is ∙ told_each change run n (below n low))) (each n (below n low));
}
  where
    below : (n : ℕ) → n < length after.tracks → n < length run.tracks
    below n low = let l : length after.tracks ≡ length run.tracks = ap length is ∙ each_long change 0 run.tracks in omega (arith, low, l)

-- ## Before the first round

new_told : (s : Session) (ns : List ℕ) (n : ℕ) (k : TrackKept) → StreamUnset k (slice_index_or (map (new_told_track s) ns) n no_track).stream
new_told s [] n k = unset_new k no_track.stream.shape
new_told s (m ∷ ns) (suc n) k = new_told s ns n k
new_told s (m ∷ ns) zero k = unset_new k (new_told_track s m).stream.shape

pub invalid_new : (s : Session) → InvalidKept (new_run s)
invalid_new s = record {
  out = λ n low. subst (λ (t : TrackKept). IsOut t.life) (sym (at_new (length (setup_of s).settings) n)) (λ absent. refl);
  streams = λ n low. new_told s (range_with_len 0 (track_count s)) n (track_at (new_run s).normal.tracks n);
}

-- ## Clients, and meetings

pub invalid_calls : (track : ℕ) (round : RoundSeen) (run : Run) → InvalidKept run → InvalidKept (calls_alone track round run)
invalid_calls track round run h =
    kept_by run (calls_alone track round run) (λ number t. if number == track then called_in_turn (calls_in round track) t else t) refl h.out (λ n low. by_number (track_at run.normal.tracks n) (n == track) (told_at run n) (h.streams n low))
  where
    by_number : (k : TrackKept) (b : Bool) (t : TrackTold) → StreamUnset k t.stream → StreamUnset k (if b then called_in_turn (calls_in round track) t else t).stream
    by_number k true t h = unset_called k (after_calls (sides_of t) (calls_in round track)).stream t.stream h
    by_number k false t h = h

pub invalid_met : (s : Session) (run : Run) → InvalidKept run → InvalidKept (met s run)
unfolding met
invalid_met s run h = kept_by run (met s run) (track_met s run) refl h.out (λ n low. unset_met (track_at run.normal.tracks n) (takes_part s run n) run.handed (told_at run n).stream (h.streams n low))

pub invalid_ends : (run : Run) → InvalidKept run → InvalidKept (with_ends run)
unfolding with_ends
invalid_ends run h = by_end run.normal.ended
  where
    by_end : (b : Bool) → InvalidKept (if b then each_track (λ track t. record t { client = ends t.client }) run else run)
    by_end true = kept_by run (each_track (λ track t. record t { client = ends t.client }) run) (λ track t. record t { client = ends t.client }) refl h.out h.streams
    by_end false = h

-- ## Fast cycles

pub invalid_poll : (s : Session) (k : ℕ) (run : Run) → InvalidKept run → InvalidKept (with_poll s k run)
unfolding with_poll
invalid_poll s k run h = record { out = h.out; streams = h.streams }

pub invalid_mix : (s : Session) (marks : Marks) (e : EntrySeen) (run : Run) → LegalEntry s marks run e → InvalidKept run → InvalidKept (with_mix s e run)
unfolding with_mix
invalid_mix s marks e run legal h = kept_by run (with_mix s e run) (mixed_track s (state_for s run e.entry.state) e) refl h.out
    (λ n low. unset_mixed (track_at run.normal.tracks n) s (state_for s run e.entry.state) e n (told_at run n) (entry_looked s marks run e legal n) (h.streams n low))

pub invalid_cycles : (s : Session) (marks : Marks) (entries : List EntrySeen) (run : Run) → LegalAlone s marks run entries → InvalidKept run → InvalidKept (fold (cycle_alone s) run entries)
invalid_cycles s marks [] run legal h = h
invalid_cycles s marks (e ∷ entries) run legal h =
    invalid_cycles s marks entries (cycle_alone s run e) legal.1 (invalid_mix s marks e (met s (with_poll s e.entry.state run)) legal.0 (invalid_met s (with_poll s e.entry.state run) (invalid_poll s e.entry.state run h)))

-- ## The normal mixer's turn

module _ (s : Session) (marks : Marks) (f : TurnFound) (e : Turn) (run : Run) (t : LegalTurnBy (setup_of s) marks f run.normal e) (many : length run.tracks ≤ length run.normal.tracks) (h : InvalidKept run) where
  abbrev c : Setup
  c = setup_of s

  abbrev o : Outside
  o = outside_of c f e

  abbrev m : NormalKept
  m = run.normal

  -- the track after the turn
  abbrev after : ℕ → TrackKept
  after n = track_at (turn_after c (learnt o) m e).tracks n

  -- the rule for the fronts changes nothing of what is learnt
  same_learnt : learnt t.outside ≡ learnt o
  same_learnt = ap learnt t.found

  -- the stream's server does nothing
  none_done : (n : ℕ) → n < length run.tracks → Unmixed (after n) → stream_list c o e (tracks_at c (learnt o) m e n) n ≡ []
  none_done n low u = by_end e.ended refl
    where
      within : n < length m.tracks
      within = omega (arith, low, many)

      tracks : List TrackKept
      tracks = tracks_at c (learnt o) m e n

      nothing : (home : Bool) → invalid (learnt o) (track_in e n) tracks n ≡ [] → takes_from e.mixes n ≡ [] → (if home then invalid (learnt o) (track_in e n) tracks n else []) ++ mix_events c o e.mixes n ≡ []
      nothing true none still = (λ i. none i ++ mix_events c o e.mixes n) ∙ ap (flat_map (λ (take : TakeSeen). cycle_events (asked c) (o.streams n) take.slot (o.stream_front n))) still
      nothing false none still = ap (flat_map (λ (take : TakeSeen). cycle_events (asked c) (o.streams n) take.slot (o.stream_front n))) still

      by_end : (b : Bool) → e.ended ≡ b → (if b then [] else (if is_home (track_at tracks n).holder then invalid (learnt o) (track_in e n) tracks n else []) ++ mix_events c o e.mixes n) ≡ []
      by_end true is = refl
      by_end false is =
          let g : GoesOn c t.outside m e = t.legal.goes_on is in
          let legal : LegalTrack c (learnt o) (track_in e n) tracks n = subst (λ (k : Learnt). LegalTrack c k (track_in e n) (served_to c k e.tracks (after_ack e.ack m).tracks n) n) same_learnt (g.tracks n within) in
          let due : map (λ (take : TakeSeen). take.track) e.mixes ≡ tracks_due c e.room (after_edits c (learnt o) e m).tracks = g.due ∙ ap (λ (k : Learnt). tracks_due c e.room (after_edits c k e m).tracks) same_learnt in
          nothing (is_home (track_at tracks n).holder) (none_found c (learnt o) m e n within is legal u) (none_taken c (learnt o) m e n within is due (h.out n low) u)

  pub invalid_turn : InvalidKept (with_load e (with_turn s f e run))
  unfolding with_load with_turn
  invalid_turn = kept_by run (with_load e (with_turn s f e run)) (turned_track c o m e) refl
      (λ n low. turn_out c (learnt o) m e n (omega (arith, low, many)) (h.out n low))
      (λ n low. unset_turned (track_at m.tracks n) (after n) e n (stream_list c o e (tracks_at c (learnt o) m e n) n) (told_at run n).stream.shape (told_at run n).stream.told
      (turn_unmixed c (learnt o) m e n (omega (arith, low, many))) (none_done n low) (h.streams n low))

-- ## A round of one party

turn_kept : (s : Session) (marks : Marks) (run : Run) (round : RoundSeen) → LegalTurnIn s marks (found_before s run []) run round → length run.tracks ≤ length run.normal.tracks → InvalidKept run → InvalidKept (turn_alone s run round)
turn_kept s marks run round legal many h = by_turn run.normal.ended round.turn legal
  where
    by_turn : (b : Bool) (o : Option Turn) → MatchBool b (o ≡ None) (MatchOption o ⊥ (λ e. LegalTurnBy (setup_of s) marks (found_before s run [] e) run.normal e)) → InvalidKept (loaded o (turned s (found_before s run []) o run))
    by_turn true o none = subst (λ o. InvalidKept (loaded o (turned s (found_before s run []) o run))) (sym none) h
    by_turn false None legal = absurd legal
    by_turn false (Some e) legal = invalid_turn s marks (found_before s run [] e) e run legal many h

cycles_kept : (s : Session) (marks : Marks) (run : Run) (entries : List EntrySeen) (over : Bool) (Form : Type 0) → MatchBool over (entries ≡ []) (Form × LegalAlone s marks run entries) → InvalidKept run → InvalidKept (fold (cycle_alone s) run entries)
cycles_kept s marks run entries true Form none h = subst (λ es. InvalidKept (fold (cycle_alone s) run es)) (sym none) h
cycles_kept s marks run entries false Form legal h = invalid_cycles s marks entries run legal.1 h

made_kept : (s : Session) (marks : Marks) (run : Run) (turn : TurnSpec) (round : RoundSeen) → IsMadeBy s marks run turn round → length run.tracks ≤ length run.normal.tracks → InvalidKept run → InvalidKept (made_alone s run turn round)
made_kept s marks run (makes.Client track) round made many h = invalid_calls track round run h
made_kept s marks run makes.Normal round made many h = turn_kept s marks run round made.2 many h
made_kept s marks run (makes.Fast cycles) round made many h = cycles_kept s marks run round.entries (fast_ended run) _ made.2 h

pub invalid_round : (s : Session) (marks : Marks) (run : Run) (turn : TurnSpec) (round : RoundSeen) → IsMadeBy s marks run turn round → length run.tracks ≤ length run.normal.tracks → InvalidKept run → InvalidKept (with_ends (met_alone s run turn round))
invalid_round s marks run turn round made many h = invalid_ends (met_alone s run turn round) (invalid_met s (made_alone s run turn round) (made_kept s marks run turn round made many h))

-- ## A track whose proxy is away

-- no INVALID was set on the stream block of a track whose proxy is away, if the turn finds it shut
pub away_unset : (c : Setup) (k : Learnt) (e : Turn) (run : Run) (n : ℕ) → InvalidKept run → Sound run.normal → n < length run.tracks → is_home (track_at run.normal.tracks n).holder ≡ false → (kept (listed (told_at run n).stream)).shut ≡ None
    → (invalid k (track_in e n) (tracks_at c k run.normal e n) n ≡ []) ⊎ SetNoInvalid (server_list (told_at run n).stream)
away_unset c k e run n h sound low away fine = by_life (found_lives c k run.normal e n)
  where
    by_life : (invalid k (track_in e n) (tracks_at c k run.normal e n) n ≡ []) ⊎ ((track_at run.normal.tracks n).life.ended ≡ false) → (invalid k (track_in e n) (tracks_at c k run.normal e n) n ≡ []) ⊎ SetNoInvalid (server_list (told_at run n).stream)
    by_life (inl none) = inl none
    by_life (inr lives) = inr ((h.streams n low).server (record { lives = lives; apart = inr (slot_of_away (track_at run.normal.tracks n) (sound.slotted n) away) }) fine)
