-- A legal turn has the form of a turn.
use Rattle.std.proofs.Common.{◌≡◌, ℕ, zero, suc, ◌+◌, ◌≤◌, ◌<◌, nat_le, Bool, true, false, MatchBool, if◌then◌else◌, cond, List, [], ◌∷◌, length, map, refl, sym, ap, subst, ◌∙◌, inl, inr, ◌⊎◌, eqb-true, arith}
use Rattle.af_life.proofs.Common.{All, All-from_get_or, All-from_recursion, AllByRecursion, CommandLook, Listed, TakeSeen, TrackSeen, Turn, count_seen, filter, range_with_len, recursion_from_All}
use Rattle.af_base.specs.declared.seen.Seen.{Seen}
use Rattle.af_base.specs.declared.seen.Seen.TheVariants as seen
use Rattle.af_base.specs.Sample.{IsFrame}
use Rattle.af_model.specs.JournalForm.{IsCommandLook, IsTake, TracksRise, IsOpenTurn, IsTurn}
use Rattle.af_life.specs.declared.kept.TrackKept.{TrackKept}
use Rattle.af_life.specs.Heard.{learnt}
use Rattle.af_life.specs.Kept.{Setup, asked as buffer, NormalKept, Outside, track_at, track_in, nothing_seen}
use Rattle.af_life.specs.Looks.{command_events, did, LegalLooks}
use Rattle.af_life.specs.Obeys.{shows_command}
use Rattle.af_life.specs.Edits.{after_ack}
use Rattle.af_life.specs.Plays.{is_mixed_here, mixed_here, tracks_due, LegalTake}
use Rattle.af_life.specs.Turn.{after_tracks, after_edits, GoesOn, LegalTurn}
use Rattle.af_life.proofs.Lives.{served_len, acked_len, mutation_len}

-- ## The looks

two_frames : (answer : Seen) → count_seen answer ≡ 2 → answer ≡ seen.Frames 2
two_frames (seen.Frames count) two = ap seen.Frames two
two_frames _ two = absurd (omega arith)

by_command : (look : CommandLook) (b : Bool) → shows_command look.seen ≡ b → MatchBool b (Unit {0}) ((look.code ≡ 0) × (look.argument ≡ 0))
    → (look.seen ≡ seen.Frames 2) ⊎ ((look.code ≡ 0) × (look.argument ≡ 0))
by_command look true shows words = inl (two_frames look.seen (eqb-true (count_seen look.seen) 2 shows))
by_command look false shows words = inr words

looks_form : (s : Listed) (looks : List CommandLook) (fronts : List ℕ) → LegalLooks s looks fronts → AllByRecursion IsCommandLook looks
looks_form s [] [] legal = tt
looks_form s [] (front ∷ fronts) legal = absurd legal
looks_form s (look ∷ looks) [] legal = absurd legal
looks_form s (look ∷ looks) (front ∷ fronts) legal =
    ((legal.0.0, by_command look (shows_command look.seen) refl legal.1), looks_form (did s (command_events s look front)) looks fronts legal.2)

-- ## The tracks of takes

-- numbers rise, from `low` on
abbrev Rise : ℕ → List ℕ → Type 0
Rise low [] = Unit {0}
Rise low (n ∷ ns) = (low ≤ n) × Rise (n + 1) ns

rise_sooner : (low from : ℕ) (ns : List ℕ) → low ≤ from → Rise from ns → Rise low ns
rise_sooner low from [] le rise = tt
rise_sooner low from (n ∷ ns) le rise = ((let first = rise.0 in omega arith), rise.1)

range_rises : (from count : ℕ) → Rise from (range_with_len from count)
range_rises from zero = tt
range_rises from (suc count) = (omega arith, range_rises (from + 1) count)

range_below : (from count end : ℕ) → from + count ≤ end → AllByRecursion (λ n. n < end) (range_with_len from count)
range_below from zero end le = tt
range_below from (suc count) end le = (omega arith, range_below (from + 1) count end (omega arith))

-- what is left of such numbers by a test is such as well
module _ (test : ℕ → Bool) where
  kept_rise : (low n : ℕ) (ns : List ℕ) (b : Bool) → low ≤ n → Rise (n + 1) ns → Rise low (cond b (n ∷ ns) ns)
  kept_rise low n ns true le rise = (le, rise)
  kept_rise low n ns false le rise = rise_sooner low (n + 1) ns (omega arith) rise

  filter_rises : (low : ℕ) (ns : List ℕ) → Rise low ns → Rise low (filter test ns)
  filter_rises low [] rise = tt
  filter_rises low (n ∷ ns) rise = kept_rise low n (filter test ns) (test n) rise.0 (filter_rises (n + 1) ns rise.1)

  kept_below : (end n : ℕ) (ns : List ℕ) (b : Bool) → n < end → AllByRecursion (λ k. k < end) ns → AllByRecursion (λ k. k < end) (cond b (n ∷ ns) ns)
  kept_below end n ns true lt below = (lt, below)
  kept_below end n ns false lt below = below

  filter_below : (end : ℕ) (ns : List ℕ) → AllByRecursion (λ k. k < end) ns → AllByRecursion (λ k. k < end) (filter test ns)
  filter_below end [] below = tt
  filter_below end (n ∷ ns) below = kept_below end n (filter test ns) (test n) below.0 (filter_below end ns below.1)

-- the numbers of tracks that rise, each one of so many
abbrev AreTracks : ℕ → List ℕ → Type 0
AreTracks tracks ns = Rise 0 ns × AllByRecursion (λ n. n < tracks) ns

either_way : (tracks : ℕ) (ns : List ℕ) (b : Bool) → AreTracks tracks ns → AreTracks tracks (if b then ns else [])
either_way tracks ns true are = are
either_way tracks ns false are = (tt, tt)

due_are : (c : Setup) (room : ℕ) (tracks : List TrackKept) → AreTracks (length tracks) (tracks_due c room tracks)
due_are c room tracks = either_way (length tracks) (mixed_here tracks) (nat_le (buffer c) room) (
  filter_rises (λ i. is_mixed_here (track_at tracks i)) 0 (range_with_len 0 (length tracks)) (range_rises 0 (length tracks)),
  filter_below (λ i. is_mixed_here (track_at tracks i)) (length tracks) (range_with_len 0 (length tracks)) (range_below 0 (length tracks) (length tracks) (omega arith)),
)

takes_rise : (low : ℕ) (takes : List TakeSeen) → Rise low (map (λ (t : TakeSeen). t.track) takes) → TracksRise low takes
takes_rise low [] rise = tt
takes_rise low (t ∷ takes) rise = (rise.0, takes_rise (t.track + 1) takes rise.1)

takes_form : (c : Setup) (o : Outside) (tracks : ℕ) (takes : List TakeSeen) → AllByRecursion (LegalTake c o) takes → AllByRecursion (λ n. n < tracks) (map (λ (t : TakeSeen). t.track) takes)
    → AllByRecursion (λ (t : TakeSeen). All IsFrame t.frames) takes → AllByRecursion (IsTake tracks) takes
takes_form c o tracks [] legal below samples = tt
takes_form c o tracks (t ∷ takes) legal below samples = (
  record {
    track = below.0;
    look = legal.0.looks.0;
    first = legal.0.place;
    frames = legal.0.frames;
    samples = samples.0;
  },
  takes_form c o tracks takes legal.1 below.1 samples.1,
)

-- ## The turn

module _ (c : Setup) (o : Outside) (m : NormalKept) (e : Turn) (tracks : ℕ) (whole : length m.tracks ≡ tracks) (samples : All (λ (t : TakeSeen). All IsFrame t.frames) e.mixes) where
  edits_whole : length (after_edits c (learnt o) e m).tracks ≡ tracks
  edits_whole = mutation_len c (learnt o) e.room (after_tracks c (learnt o) e (after_ack e.ack m))
      ∙ served_len c (learnt o) e.tracks (after_ack e.ack m).tracks (length (after_ack e.ack m).tracks) ∙ acked_len e.ack m ∙ whole

  open_form : e.ended ≡ false → GoesOn c o m e → IsOpenTurn tracks e
  open_form open_is goes =
      let due : AreTracks tracks (map (λ (t : TakeSeen). t.track) e.mixes) =
      subst (AreTracks tracks) (sym goes.due) (subst (λ (n : ℕ). AreTracks n (tracks_due c e.room (after_edits c (learnt o) e m).tracks)) edits_whole (due_are c e.room (after_edits c (learnt o) e m).tracks)) in
      let takes : AllByRecursion (IsTake tracks) e.mixes =
      takes_form c o tracks e.mixes goes.takes due.1 (recursion_from_All (λ (t : TakeSeen). All IsFrame t.frames) e.mixes samples) in
      record {
        open_is = open_is;
        each = goes.whole ∙ whole;
        looks = All-from_get_or (λ (t : TrackSeen). All IsCommandLook t.looks) e.tracks nothing_seen
            (λ i lt. All-from_recursion IsCommandLook (track_in e i).looks (looks_form (o.commands i) (track_in e i).looks (o.command_fronts i) (goes.looks i (let n = goes.whole in omega arith))));
        takes = All-from_recursion (IsTake tracks) e.mixes takes;
        rise = takes_rise 0 e.mixes due.0;
      }

  by_end : (ended : Bool) → e.ended ≡ ended → LegalTurn c o m e → IsTurn tracks e
  by_end true ended legal = inl (legal.still ended)
  by_end false runs legal = inr (open_form runs (legal.goes_on runs))

  -- a legal turn of a mixer with so many tracks, whose takes have frames of two samples
  pub turn_form : LegalTurn c o m e → IsTurn tracks e
  turn_form legal = by_end e.ended refl legal
