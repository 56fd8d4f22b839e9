-- The summary of a render is that of its journal alone.
use Rattle.std.proofs.Common.{◌≡◌, ℕ, suc, List, [], ◌∷◌, length, map, slice_get, Some, refl, sym, ap, ◌∙◌, arith}
use Rattle.af_render_law.proofs.Common.{Deeds, EndsState, Frame, JournalData, PartyState, Run, ScriptData, Session, SessionState, Tells, Track, TrackTold, ends_from, entries_of, frames_of, get_or_from_slice_get, released_by, session_of, shown_by, shown_from, shows, summary_by, summary_told, told_at}
use Rattle.af_tally.specs.Summaries.{summary_of}
use Rattle.af_render_law.proofs.Chain.{AreCounted}
use Rattle.af_render_law.specs.RenderLaws.{run_told}

-- two lists give the same if each place does
same_maps : (xs : List PartyState) (ts : List TrackTold) → length ts ≡ length xs → ((i : ℕ) (p : PartyState) (t : TrackTold) → slice_get xs i ≡ Some p → slice_get ts i ≡ Some t → p.stream.released ≡ length t.stream.released)
    → map (λ (p : PartyState). p.stream.released) xs ≡ map (λ (t : TrackTold). length t.stream.released) ts
same_maps [] [] long each = refl
same_maps [] (t ∷ ts) long each = absurd (omega arith)
same_maps (p ∷ xs) [] long each = absurd (omega arith)
same_maps (p ∷ xs) (t ∷ ts) long each = λ i. each 0 p t refl refl i ∷ same_maps xs ts (omega arith) (λ j q u is at. each (suc j) q u is at) i

module _ (s : Session) (run : Run) {d : Deeds} (x : SessionState) (told : Tells s run d x) (counted : AreCounted x) where
  released_told : released_by x.clients ≡ map (λ (t : TrackTold). length t.stream.released) run.tracks
  released_told = same_maps x.clients run.tracks (told.count.0 ∙ sym told.count.1) (λ i p t is at.
      let here : told_at run i ≡ t = get_or_from_slice_get run.tracks i t _ at in
      let client = (told.tracks i p is).client in
      counted i p is ∙ ap (λ (q : Track). length q.stream.released) (sym client) ∙ ap (λ (q : TrackTold). length q.stream.released) here)

-- what the parties show is what the run shows
pub shown_is : (script : ScriptData) (files : List (List Frame)) (j : JournalData) (ends : EndsState) (x : SessionState) {d : Deeds} → ends ≡ ends_from x → Tells (session_of script files) (run_told script files j) d x → shown_by script.frames j ends.normal.mutator.past.events ≡ shown_from script j (run_told script files j)
shown_is script files j ends x is told =
    ap (λ (e : EndsState). shown_by script.frames j e.normal.mutator.past.events) is
    ∙ (λ i. let seen = entries_of j.rounds in shows (told.normal.states i) script.frames j.tracks (map (λ r. r.calls) j.rounds) (map (λ r. r.turn) j.rounds) (frames_of seen) (map (λ e. e.entry) seen))

-- the summary by the parties is that by the run
pub summary_is : (script : ScriptData) (files : List (List Frame)) (j : JournalData) (ends : EndsState) (x : SessionState) {d : Deeds} → ends ≡ ends_from x → Tells (session_of script files) (run_told script files j) d x → AreCounted x → summary_told script.frames j ends ≡ summary_by script j (run_told script files j)
summary_is script files j ends x is told counted =
    ap (summary_told script.frames j) is
    ∙ (λ i. let seen = entries_of j.rounds in summary_of (shows (told.normal.states i) script.frames j.tracks (map (λ r. r.calls) j.rounds) (map (λ r. r.turn) j.rounds) (frames_of seen) (map (λ e. e.entry) seen)) (released_told (session_of script files) (run_told script files j) x told counted i))
