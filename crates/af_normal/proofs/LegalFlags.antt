-- Flags that a server sets say nothing of it: its looks answer by the list before them as well.
use Rattle.std.proofs.Common.{◌≡◌, ℕ, ◌&&◌, not, min, Bool, true, false, if◌then◌else◌, is_some, MatchOption, ap, subst, ◌∙◌, List, [], ◌∷◌, ◌++◌, append-nil}
use Rattle.af_normal.proofs.Common.{Learnt, Listed, LooksBy, ServerEvent, ServerKept, ServerState, Shape, SlotEntry, TrackKept, TrackSeen, cycle_events, flushes_by, fold-append, heard, heard_with, invalid, is_found_shut, kept, known_by, listed, look_at, look_events, no_counts, server_begins, server_keeps, server_kept, track_at}
use Rattle.af_base.specs.declared.event.ServerEvent.TheVariants as server
use Rattle.af_base.specs.declared.seen.Seen.TheVariants as seen
use Rattle.af_model.specs.Cycles.{events_behind_look}
use Rattle.af_normal.specs.Serving.{Adds}

kept_still : (shape : Shape) (events : List ServerEvent) (b : Bool) → server_kept shape (events ++ (if b then server.SetFlags 4 ∷ [] else [])) ≡ server_kept shape events
kept_still shape events true = fold-append (server_keeps shape) (server_begins shape) events (server.SetFlags 4 ∷ [])
kept_still shape events false = ap (server_kept shape) (append-nil events)

-- the server went on by INVALID, or by nothing
pub told_still : (k : Learnt) (seen : TrackSeen) (tracks : List TrackKept) (i : ℕ) (s t : ServerState) → Adds s (invalid k seen tracks i) [] t → ((listed t).shape ≡ (listed s).shape) × (kept (listed t) ≡ kept (listed s))
told_still k seen tracks i s t a = (
  a.shape,
  ap (λ (shape : Shape). server_kept shape t.pass.part.events) a.shape ∙ ap (server_kept s.pass.part.shape) a.list
      ∙ kept_still s.pass.part.shape s.pass.part.events (not (track_at tracks i).life.ended && is_found_shut (heard k i (track_at tracks i)) seen.looks),
)

module _ (s t : Listed) (shape : t.shape ≡ s.shape) (same : kept t ≡ kept s) where
  pub known_still : known_by t ≡ known_by s
  known_still = ap (λ (x : Shape). heard_with (min 9223372036854775807 (kept t).consumed) (flushes_by x.wrap (kept t).noticed) (is_some (kept t).shut) no_counts) shape
      ∙ ap (λ (k : ServerKept). heard_with (min 9223372036854775807 k.consumed) (flushes_by s.shape.wrap k.noticed) (is_some k.shut) no_counts) same

  pub looks_still : (asked : ℕ) (slot : SlotEntry) (front : ℕ) → LooksBy asked t slot front → LooksBy asked s slot front
  looks_still asked slot front looks = (
    looks.0,
    subst (λ (k : ServerKept). MatchOption k.shut
        (slot.seen ≡ look_at s.shape k.flush asked slot.flush slot.rear front)
        (λ words. (slot.seen ≡ seen.Shut words.0 words.1) × (slot.flush ≡ k.flush) × (slot.rear ≡ words.1))) same
        (subst (λ (x : Shape). MatchOption (kept t).shut
        (slot.seen ≡ look_at x (kept t).flush asked slot.flush slot.rear front)
        (λ words. (slot.seen ≡ seen.Shut words.0 words.1) × (slot.flush ≡ (kept t).flush) × (slot.rear ≡ words.1))) shape looks.1),
  )

  pub events_still : (asked : ℕ) (slot : SlotEntry) (front : ℕ) → cycle_events asked t slot front ≡ cycle_events asked s slot front
  events_still asked slot front = ap (λ (k : ServerKept). server.SawGain slot.gains ∷ (if is_some k.shut then [] else look_events slot.seen slot.flush slot.rear front) ++ events_behind_look asked (is_some k.shut) slot.seen) same
