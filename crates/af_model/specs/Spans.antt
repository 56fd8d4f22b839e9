-- What becomes of the frames of a block in a history: mixed, discarded or still queued.
use Rattle.std.specs.Prelude.{◌≡◌, ℕ, ◌+◌, ◌-◌, ◌<◌, ◌≤◌, List, [], ◌∷◌, ◌++◌, take, drop, flat_map, slice_get, Some}
use Rattle.af_base.specs.declared.event.ClientEvent.{ClientEvent}
use Rattle.af_base.specs.declared.event.ServerEvent.{ServerEvent}
use Rattle.af_base.specs.declared.event.ServerEvent.TheVariants as server
use Rattle.af_base.specs.declared.event.HandEvent.{HandEvent}
use Rattle.af_model.specs.declared.point.TrackPoint.{TrackPoint}
use Rattle.af_model.specs.declared.shape.Shape.{Shape}
use Rattle.af_model.specs.Point.{start, drop_end}
use Rattle.af_model.specs.History.{Moment, by_client, by_server, by_hand, after, HasHistory, point}

-- a frame that was taken is mixed, and one that was dropped is discarded
pub data Fate : Type 0 where
  mixed : Fate
  discarded : Fate
  queued : Fate

-- the positions from one up to another, and what becomes of the frames there
pub record Span : Type 0 where
  pub fate : Fate
  pub from : ℕ
  pub to : ℕ

-- a take and a drop cover the positions from what was consumed before it to what was consumed after it
abbrev pub covered_by : TrackPoint → ServerEvent → List Span
covered_by p (server.Take count) = record { fate = mixed; from = p.consumed; to = p.consumed + count } ∷ []
covered_by p (server.Drop to) = record { fate = discarded; from = p.consumed; to = drop_end p } ∷ []
covered_by p _ = []

-- the takes and drops of an order, oldest first
abbrev pub spans_of : Shape → List Moment → List Span
spans_of k [] = []
spans_of k (by_client e ∷ order) = spans_of k order
spans_of k (by_server e ∷ order) = spans_of k order ++ covered_by (after (start k) order) e
spans_of k (by_hand e ∷ order) = spans_of k order

-- what becomes of all frames that were released
abbrev pub fates_of : {k : Shape} {client : List ClientEvent} {released : List ℕ} {server : List ServerEvent} {taken : List ℕ} {hand : List HandEvent} → HasHistory k client released server taken hand → List Span
fates_of {k} h = spans_of k h.order ++ record { fate = queued; from = (point h).consumed; to = (point h).released } ∷ []

-- the spans follow one another from one position to another, without gap or overlap
abbrev pub Follow : ℕ → List Span → ℕ → Type 0
Follow from [] to = from ≡ to
Follow from (s ∷ spans) to = (s.from ≡ from) × (s.from ≤ s.to) × Follow s.to spans to

-- the position lies in one span, and in no other
pub record HasOneFate (spans : List Span) (position : ℕ) : Type 0 where
  pub place : ℕ
  pub span : Span
  pub is_there : slice_get spans place ≡ Some span
  pub lies : (span.from ≤ position) × (position < span.to)
  pub only : (other : ℕ) (s : Span) → slice_get spans other ≡ Some s → (s.from ≤ position) × (position < s.to) → other ≡ place

-- some frames, if their fate is to be mixed
abbrev pub frames_by : Fate → List ℕ → List ℕ
frames_by mixed frames = frames
frames_by discarded frames = []
frames_by queued frames = []

-- the frames that all spans mix, in order
abbrev pub mixed_by : List ℕ → ℕ → List Span → List ℕ
mixed_by released base spans = flat_map (λ s. frames_by s.fate (take (s.to - s.from) (drop (s.from - base) released))) spans

-- a count, if the two fates are one, and else 0
abbrev pub count_if : Fate → Fate → ℕ → ℕ
count_if mixed mixed count = count
count_if discarded discarded count = count
count_if queued queued count = count
count_if _ _ count = 0

-- how many frames of the spans have this fate
abbrev pub count_with : Fate → List Span → ℕ
count_with fate [] = 0
count_with fate (s ∷ spans) = count_if fate s.fate (s.to - s.from) + count_with fate spans
