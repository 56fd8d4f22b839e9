-- What is kept of a run follows an entry, and the entry is right exactly if it is legal.
use Rattle.std.proofs.Common.{◌≡◌, ◌↔◌, ℕ, zero, suc, ◌+◌, ◌==◌, if◌then◌else◌, unwrap_or, refl, sym, ◌∙◌, subst, List, [], ◌∷◌, length, Option, Some, None}
use Rattle.af_judge.proofs.Common.{BlockTold, EntrySeen, FastState, Frame, IsEntry, LegalEntry, Marks, NormalKept, Report, Run, Session, TrackTold, cycle_frames, changed_from, frames_before, mixed_track, no_track, played, slice_index_or, slots, state_among, state_at, state_for, state_of, told_at, track_count, with_cycle, with_looks, with_mix, with_poll}
use Rattle.af_runs.specs.Runs.{slot_playing}
use Rattle.af_judge.specs.declared.track_judge.TrackJudge.{TrackJudge}
use Rattle.af_judge.specs.Entries.{CarriesApart, CarriesWithin, FastOf}
use Rattle.af_judge.proofs.Words.{StandsIn}
use Rattle.af_judge.specs.FastKept.{FastKept, IsEntryRight, entry_told, entry_tracks, fast_polled, slots_played}
use Rattle.af_judge.specs.Reporting.{state_in}
use Rattle.af_judge.specs.RunTold.{KeepsTracks}
use Rattle.af_judge.proofs.Words.{CarriesFit, StatesFit}
use Rattle.af_judge.proofs.EntryFollows.{fast_mixed}
use Rattle.af_judge.proofs.EntryLegal.{fast_of_polled, right_legal_entry}
use Rattle.af_judge.proofs.EntryStreams.{looks_long, streams_of, tracks_mixed}

-- ## What an entry leaves as it was

each-kept : {A : Type 0} (part : TrackTold → A) (change : ℕ → TrackTold → TrackTold) → ((n : ℕ) (t : TrackTold) → part (change n t) ≡ part t) → (m : ℕ) (ts : List TrackTold) (n : ℕ) (d : TrackTold)
    → part (slice_index_or (changed_from change m ts) n d) ≡ part (slice_index_or ts n d)
each-kept part change same m [] n d = refl
each-kept part change same m (t ∷ ts) zero d = same m t
each-kept part change same m (t ∷ ts) (suc n) d = each-kept part change same (m + 1) ts n d

-- beside the stream blocks nothing of the tracks or of the normal mixer is another one
pub record SameBeside (run after : Run) : Type 0 where
  pub normal : after.normal ≡ run.normal
  pub states : after.states ≡ run.states
  pub handed : after.handed ≡ run.handed
  pub many : length after.tracks ≡ length run.tracks
  pub client : (n : ℕ) → (told_at after n).client ≡ (told_at run n).client
  pub file : (n : ℕ) → (told_at after n).file ≡ (told_at run n).file
  pub commands : (n : ℕ) → (told_at after n).commands ≡ (told_at run n).commands

pub same_beside : (run : Run) → SameBeside run run
same_beside run = record { normal = refl; states = refl; handed = refl; many = refl; client = λ n. refl; file = λ n. refl; commands = λ n. refl }

pub beside_both : (a b c : Run) → SameBeside a b → SameBeside b c → SameBeside a c
beside_both a b c x y = record {
  normal = y.normal ∙ x.normal;
  states = y.states ∙ x.states;
  handed = y.handed ∙ x.handed;
  many = y.many ∙ x.many;
  client = λ n. y.client n ∙ x.client n;
  file = λ n. y.file n ∙ x.file n;
  commands = λ n. y.commands n ∙ x.commands n;
}

mixed-part : {A : Type 0} (part : TrackTold → A) → ((t : TrackTold) (b : BlockTold) → part (record t { stream = b }) ≡ part t) → (s : Session) (x : FastState) (e : EntrySeen) (n : ℕ) (t : TrackTold) → part (mixed_track s x e n t) ≡ part t
mixed-part part same s x e n t = by_slot (slot_playing x e.entry n)
  where
    by_slot : (o : Option ℕ) → part (elim o as (λ o. TrackTold) [ None ↦ t | Some i ↦ record t { stream = played (cycle_frames s) e i t.stream } ]) ≡ part t
    by_slot None = refl
    by_slot (Some i) = same t (played (cycle_frames s) e i t.stream)

pub cycle_beside : (s : Session) (run : Run) (e : EntrySeen) → SameBeside run (with_cycle s run e)
unfolding with_mix with_poll
cycle_beside s run e =
    let r : Run = with_poll s e.entry.state run in
    let x : FastState = state_for s r e.entry.state in
    record {
      normal = refl;
      states = refl;
      handed = refl;
      many = looks_long s r e;
      client = λ n. each-kept (λ t. t.client) (mixed_track s x e) (mixed-part (λ t. t.client) (λ t b. refl) s x e) 0 r.tracks n no_track;
      file = λ n. each-kept (λ t. t.file) (mixed_track s x e) (mixed-part (λ t. t.file) (λ t b. refl) s x e) 0 r.tracks n no_track;
      commands = λ n. each-kept (λ t. t.commands) (mixed_track s x e) (mixed-part (λ t. t.commands) (λ t b. refl) s x e) 0 r.tracks n no_track;
    }

-- ## The states

-- the states fit a run in which they are the same
pub fits_same : (s : Session) (run after : Run) → after.states ≡ run.states → after.normal ≡ run.normal → StatesFit s run → StatesFit s after
fits_same s run after states normal fits = record {
  pushed = subst (λ (xs : List FastState). (k : ℕ) → CarriesFit s (state_at (cycle_frames s) xs k)) (sym states) fits.pushed;
  draft = subst (λ (m : NormalKept). CarriesFit s m.draft) (sym normal) fits.draft;
}

module _ (s : Session) (marks : Marks) (W : ℕ → Type 0) (earlier : List Report) (run : Run) (e : EntrySeen) (f : FastKept) (frames : List Frame) (tracks : List TrackJudge)
    (fits : StatesFit s run) (stands : StandsIn frames e) (fast : FastOf s earlier run f) (drafts : f.told.draft ≡ run.normal.draft) (keeps : KeepsTracks s marks W tracks run) where
  -- the run once the mixer has polled, and what is kept then
  abbrev polled : Run
  polled = with_poll s e.entry.state run

  abbrev g : FastKept
  g = fast_polled run.states e.entry.state f

  -- the state of the entry
  abbrev x : FastState
  x = state_for s polled e.entry.state

  fast-polled : FastOf s earlier polled g
  fast-polled = fast_of_polled s marks run e f frames tracks earlier fast

  drafts-polled : g.told.draft ≡ polled.normal.draft
  unfolding with_poll
  drafts-polled = drafts

  fitting : CarriesFit s x
  unfolding with_poll
  fitting = state_among s (CarriesFit s) polled e.entry.state fits.pushed fits.draft

  apart : CarriesApart x
  apart = let fit = fitting in fit.apart

  within : CarriesWithin (track_count s) x
  within = let fit = fitting in fit.within

  state-same : state_in g.told run.states e.entry.state ≡ x
  unfolding with_poll
  state-same = let p = fast-polled in λ i. unwrap_or (state_of run.states e.entry.state) (if e.entry.state == 0 then state_at (p.asked i) run.states (p.current i) else drafts i)

  keeps-polled : KeepsTracks s marks W tracks polled
  unfolding with_poll
  keeps-polled = record { many = keeps.many; all = keeps.all; served = keeps.served; whole = keeps.whole }

  keeps-mixed : KeepsTracks s marks W (slots_played (cycle_frames s) x frames e.entry slots tracks) (with_looks s e polled)
  keeps-mixed = tracks_mixed s marks W polled e frames tracks apart stands keeps-polled

  tracks-same : entry_tracks run.states frames e.entry f tracks ≡ slots_played (cycle_frames s) x frames e.entry slots tracks
  tracks-same = let p = fast-polled in λ i. slots_played (p.asked i) (state-same i) frames e.entry slots tracks

  keeps-looks : KeepsTracks s marks W (entry_tracks run.states frames e.entry f tracks) (with_looks s e polled)
  keeps-looks = subst (λ (ts : List TrackJudge). KeepsTracks s marks W ts (with_looks s e polled)) (sym tracks-same) keeps-mixed

  -- the tracks follow it
  pub tracks_follow : KeepsTracks s marks W (entry_tracks run.states frames e.entry f tracks) (with_cycle s run e)
  unfolding with_mix
  tracks_follow = let k = keeps-looks in record { many = k.many; all = k.all; served = k.served; whole = k.whole }

  -- the fast mixer follows it
  pub fast_follows : FastOf s earlier (with_cycle s run e) (entry_told run.states frames e.entry tracks f)
  unfolding with_poll
  fast_follows = fast_mixed s marks polled e g frames (entry_tracks run.states frames e.entry f tracks) earlier fast-polled drafts-polled stands (streams_of s marks W (entry_tracks run.states frames e.entry f tracks) (with_looks s e polled) keeps-looks)

  -- the entry is right exactly if it is legal
  pub entry_exact : IsEntry (frames_before run) e.entry → IsEntryRight run.states frames e.entry f tracks ↔ LegalEntry s marks polled e
  entry_exact form = right_legal_entry s marks run e f frames tracks earlier fast drafts (streams_of s marks W tracks run keeps) form apart (subst (λ (n : ℕ). CarriesWithin n x) (sym keeps.all) within)

  -- the states fit as before
  pub fits_follow : StatesFit s (with_cycle s run e)
  fits_follow = let b = cycle_beside s run e in fits_same s run (with_cycle s run e) b.states b.normal fits
