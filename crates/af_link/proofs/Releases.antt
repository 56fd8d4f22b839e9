-- A put is one release, or two.
use Rattle.std.proofs.Common.{◌≡◌, ℕ, ◌-◌, ◌%◌, ◌<◌, ◌≤◌, min, nat_le, Bool, if◌then◌else◌, List, [], ◌∷◌, ◌++◌, length, take, drop, map, sym, ap, ◌∙◌, arith, append_assoc, length-take-le}
use Rattle.std.proofs.lemmas.List.{length-drop, map-append, take_all, take-append-drop}
use Rattle.af_base.proofs.Basics.{is_beyond, is_within, not_zero}
use Rattle.af_base.specs.declared.frame.Frame.{Frame}
use Rattle.af_base.specs.declared.event.ClientEvent.{ClientEvent}
use Rattle.af_base.specs.declared.event.ClientEvent.TheVariants as client
use Rattle.af_base.specs.Sample.{packed_word}
use Rattle.af_model.specs.PipeHistory.{releases_of}
use Rattle.af_cblk.specs.declared.view.ClientPart.{ClientPart}
use Rattle.af_model.specs.Point.{wrapped}
use Rattle.af_model.specs.declared.shape.Shape.{Shape}
use Rattle.af_cblk.specs.Shape.{IsShape}
use Rattle.af_client.proofs.Opened.{same_end}
use Rattle.af_client.specs.Calls.{PutOn}
use Rattle.af_link.specs.PipeEnds.{HasPut}

releases-one : (cells put n : ℕ) → 1 ≤ n → n ≤ cells - put % cells → releases_of cells put n ≡ client.Release n ∷ []
releases-one cells put n some le =
    let left : ℕ = cells - put % cells in
    ap (λ (b : Bool). if b then [] else if nat_le n left then client.Release n ∷ [] else client.Release left ∷ client.Release (n - left) ∷ []) (not_zero n some)
    ∙ ap (λ (b : Bool). if b then client.Release n ∷ [] else client.Release left ∷ client.Release (n - left) ∷ []) (is_within n left le)

releases-two : (cells put n : ℕ) → cells - put % cells < n → releases_of cells put n ≡ client.Release (cells - put % cells) ∷ client.Release (n - (cells - put % cells)) ∷ []
releases-two cells put n lt =
    let left : ℕ = cells - put % cells in
    ap (λ (b : Bool). if b then [] else if nat_le n left then client.Release n ∷ [] else client.Release left ∷ client.Release (n - left) ∷ []) (not_zero n (omega arith))
    ∙ ap (λ (b : Bool). if b then client.Release n ∷ [] else client.Release left ∷ client.Release (n - left) ∷ []) (is_beyond n left lt)

-- the frames of a put, cut where the index reaches the number of cells
module _ (cells put m : ℕ) (frames before behind : List Frame) (some : 1 ≤ length frames) (m_is : m ≡ min (length frames) (cells - put % cells)) (front : before ≡ take m frames) (back : behind ≡ drop m frames) where
  rest : length behind ≡ length frames - m
  rest = ap length back ∙ length-drop m frames

  first : length before ≡ m
  first = ap length front ∙ length-take-le m frames (omega arith)

  pub put_whole : length behind ≡ 0 → (before ≡ frames) × (releases_of cells put (length frames) ≡ client.Release (length before) ∷ [])
  put_whole none =
      let e = rest in
      let all : before ≡ frames = front ∙ take_all m frames (omega arith) in
      (all, releases-one cells put (length frames) some (omega arith) ∙ ap (λ (fs : List Frame). client.Release (length fs) ∷ []) (sym all))

  pub put_parts : 1 ≤ length behind → (before ++ behind ≡ frames) × (releases_of cells put (length frames) ≡ client.Release (length before) ∷ client.Release (length behind) ∷ [])
  put_parts more =
      let e = rest in
      let f = first in
      let left : ℕ = cells - put % cells in
      let a : left ≡ length before = omega arith in
      let b : length frames - left ≡ length behind = omega arith in (
        ap (λ (x : List Frame × List Frame). x.0 ++ x.1) (λ i. (front i, back i)) ∙ take-append-drop m frames,
        releases-two cells put (length frames) (omega arith) ∙ ap (λ (x : ℕ × ℕ). client.Release x.0 ∷ client.Release x.1 ∷ []) (λ i. (a i, b i)),
      )

-- one release
pub whole_put : (p q : ClientPart) (frames before : List Frame) → before ≡ frames → releases_of p.shape.cells (length p.frames) (length frames) ≡ client.Release (length before) ∷ []
    → PutOn p (length before) (map packed_word before) q → HasPut p frames q
whole_put p q frames before is releases put =
    put
    ∙ ap (λ (es : List ClientEvent). record p { events = p.events ++ es; frames = p.frames ++ map packed_word before; stored = q.stored }) (sym releases)
    ∙ ap (λ (fs : List Frame). record p { events = p.events ++ releases_of p.shape.cells (length p.frames) (length frames); frames = p.frames ++ map packed_word fs; stored = q.stored }) is

-- two releases
pub parts_put : (p mid q : ClientPart) (frames before behind : List Frame) → before ++ behind ≡ frames → releases_of p.shape.cells (length p.frames) (length frames) ≡ client.Release (length before) ∷ client.Release (length behind) ∷ []
    → PutOn p (length before) (map packed_word before) mid → PutOn mid (length behind) (map packed_word behind) q → HasPut p frames q
parts_put p mid q frames before behind is releases one two =
    let a : ClientEvent = client.Release (length before) in
    let b : ClientEvent = client.Release (length behind) in
    let events : (p.events ++ a ∷ []) ++ b ∷ [] ≡ p.events ++ releases_of p.shape.cells (length p.frames) (length frames) = append_assoc p.events (a ∷ []) (b ∷ []) ∙ ap (λ (es : List ClientEvent). p.events ++ es) (sym releases) in
    let words : (p.frames ++ map packed_word before) ++ map packed_word behind ≡ p.frames ++ map packed_word frames =
    append_assoc p.frames (map packed_word before) (map packed_word behind) ∙ ap (λ (ws : List ℕ). p.frames ++ ws) (sym (map-append packed_word before behind)) ∙ ap (λ (fs : List Frame). p.frames ++ map packed_word fs) is in
    two
    ∙ ap (λ (x : ClientPart). record x { events = x.events ++ b ∷ []; frames = x.frames ++ map packed_word behind; stored = q.stored }) one
    ∙ ap (λ (x : List ClientEvent × List ℕ). record p { events = x.0; frames = x.1; stored = q.stored }) (λ i. (events i, words i))

-- how many frames lie before the last cell's end, by the words that the code has
pub reach : (k : Shape) (cells cells' rear put n m : ℕ) → IsShape k → cells ≡ k.cells → cells' ≡ k.cells → rear ≡ wrapped put → m ≡ min n (cells - rear % cells') → m ≡ min n (k.cells - put % k.cells)
reach k cells cells' rear put n m shape a b is m_is =
    m_is ∙ ap (λ (x : ℕ × ℕ). min n (x.0 - rear % x.1)) (λ i. (a i, b i)) ∙ ap (λ (z : ℕ). min n (k.cells - z)) (same_end k rear put shape is)
