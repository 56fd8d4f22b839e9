-- What a look at flags and front leaves in order.
use Rattle.std.proofs.Common.{◌≡◌, ℕ, ◌+◌, ◌-◌, ◌%◌, ◌^◌, ◌<◌, ◌≤◌, Bool, true, if◌then◌else◌, bit_and, MatchOption, Option, Some, None, is_some, List, [], ◌∷◌, ◌++◌, length, take, map, refl, sym, ap, ◌∙◌, arith, append_assoc, length-append, length-take-le, mod-lt, eq-eqb}
use Rattle.af_client.proofs.Common.{ClientCall, ClientEvent, ClientPart, Frame, IsShape, Shape, ahead, client_events_of, filled, is_lawful, length-map, outside, packed_word, rear_stored, recorded, released, run_of, take-map, wrapped}
use Rattle.af_base.proofs.Basics.{none_more}
use Rattle.af_base.specs.declared.event.ClientEvent.TheVariants as client
use Rattle.af_model.proofs.Logic.{outside-none, outside-some}
use Rattle.af_cblk.proofs.Sized.{sized}
use Rattle.af_cblk.proofs.Numbers.{same_cell, past}
use Rattle.af_client.specs.declared.put.Opened.TheVariants as opened
use Rattle.af_client.specs.Order.{ClientState, client_kept_of, IsInOrder}
use Rattle.af_client.specs.Calls.{Answers, Opens, saw_both, PutOn, Stored, SameBut}
use Rattle.af_client.proofs.Kept.{goes_on, did_keeps, same_keeps}
use Rattle.af_client.proofs.Stores.{run_is}

pub recorded-none : (flags : ℕ) → bit_and flags 4 ≡ 0 → recorded flags ≡ 0
recorded-none flags e = ap (λ (b : Bool). if b then 0 else flags) (eq-eqb (bit_and flags 4) 0 e)

-- ## After a look

abbrev pub SameCounts : ClientState → ClientState → Type 0
SameCounts c d = (d.rear ≡ c.rear) × (d.flushes ≡ c.flushes) × (d.released ≡ c.released)

pub dead_keeps : (c d : ClientState) (asked flags : ℕ) (answer : ClientCall) → IsInOrder c → Answers c asked answer
    → client_events_of c.pass.part.shape.frames c.pass.part.shape.base c.pass.part.events answer ≡ client.SawFlags flags ∷ []
    → Opens c.pass.part c.rear c.shut (opened.Dead flags) d.pass.part d.shut
    → SameCounts c d → IsInOrder d
dead_keeps c d asked flags answer k a spelled opens counts =
    did_keeps c d asked answer (client.SawFlags flags) k a spelled refl opens.2 (counts.0, counts.1 ∙ none_more c.flushes, counts.2, opens.3 ∙ sym opens.0)

-- the part after a look at both words
looked : (c : ClientState) (d : ClientPart) (front : ℕ) → d ≡ saw_both c.pass.part front → d.events ≡ c.pass.part.events ++ client.SawFlags 0 ∷ client.SawFront front ∷ []
looked c d front is = ap (λ (x : ClientPart). x.events) is ∙ append_assoc c.pass.part.events (client.SawFlags 0 ∷ []) (client.SawFront front ∷ [])

filled_is : (c : ClientState) (d : ClientPart) (front : ℕ) → IsInOrder c → d ≡ saw_both c.pass.part front → filled d ≡ ahead front (wrapped (client_kept_of c.pass.part).position)
filled_is c d front k is = ap filled is ∙ ap (λ (z : ℕ). ahead front (wrapped z)) (sym k.position_is)

pub full_keeps : (c d : ClientState) (asked front room : ℕ) (answer : ClientCall) → IsInOrder c → Answers c asked answer
    → client_events_of c.pass.part.shape.frames c.pass.part.shape.base c.pass.part.events answer ≡ client.SawFlags 0 ∷ client.SawFront front ∷ []
    → Opens c.pass.part c.rear c.shut (opened.Open front room) d.pass.part d.shut
    → SameCounts c d → IsInOrder d
full_keeps c d asked front room answer k a spelled opens counts =
    let p : ClientPart = c.pass.part in
    let is : d.pass.part ≡ saw_both p front = opens.1 in
    let here : released d.pass.part ≡ released p = ap released is in
    let within : ahead front (wrapped (client_kept_of p).position) ≤ p.shape.frames = (let e = filled_is c d.pass.part front k is in let r = opens.2 in omega arith) in
    goes_on c d asked answer (client.SawFlags 0 ∷ client.SawFront front ∷ []) (record (client_kept_of p) { shut = outside p.shape.frames front (wrapped (client_kept_of p).position) }) k a spelled
    (ap (λ (x : ClientPart). x.shape) is) (looked c d.pass.part front is) refl
    (k.position_is ∙ sym here)
    (counts.0 ∙ k.rear_is ∙ ap wrapped (sym here))
    (counts.1 ∙ none_more c.flushes)
    (counts.2 ∙ k.released_is ∙ ap (λ (x : ClientPart). length x.frames) (sym is))
    (opens.3 ∙ sym (outside-none p.shape.frames front (wrapped (client_kept_of p).position) within))
    (λ ok. opens.3)

-- the room was seen, and frames were put into it
pub put_keeps : (c m d : ClientState) (asked front room count : ℕ) (words : List ℕ) (answer : ClientCall) → IsInOrder c → Answers c asked answer
    → client_events_of c.pass.part.shape.frames c.pass.part.shape.base c.pass.part.events answer ≡ client.SawFlags 0 ∷ client.SawFront front ∷ client.Release count ∷ []
    → Opens c.pass.part c.rear c.shut (opened.Open front room) m.pass.part m.shut
    → SameCounts c m
    → PutOn m.pass.part count words d.pass.part
    → length words ≡ count
    → d.rear ≡ wrapped (released d.pass.part)
    → d.released ≡ m.released + count
    → (d.flushes ≡ m.flushes) × (d.shut ≡ m.shut)
    → IsInOrder d
put_keeps c m d asked front room count words answer k a spelled opens counts put size rear_is released_is rest =
    let p : ClientPart = c.pass.part in
    let is : m.pass.part ≡ saw_both p front = opens.1 in
    let within : ahead front (wrapped (client_kept_of p).position) ≤ p.shape.frames = (let e = filled_is c m.pass.part front k is in let r = opens.2 in omega arith) in
    let frames : d.pass.part.frames ≡ p.frames ++ words = ap (λ (x : ClientPart). x.frames) put ∙ ap (λ (x : ClientPart). x.frames ++ words) is in
    let many : length d.pass.part.frames ≡ length p.frames + count = ap length frames ∙ length-append p.frames words ∙ ap (λ (n : ℕ). length p.frames + n) size in
    let base : d.pass.part.shape ≡ p.shape = ap (λ (x : ClientPart). x.shape) put ∙ ap (λ (x : ClientPart). x.shape) is in
    let base_is : d.pass.part.shape.base ≡ p.shape.base = ap (λ (x : Shape). x.base) base in
    let position : (client_kept_of p).position ≡ p.shape.base + length p.frames = k.position_is in
    let events : d.pass.part.events ≡ p.events ++ client.SawFlags 0 ∷ client.SawFront front ∷ client.Release count ∷ [] =
    ap (λ (x : ClientPart). x.events) put ∙ ap (λ (l : List ClientEvent). l ++ client.Release count ∷ []) (looked c m.pass.part front is)
    ∙ append_assoc p.events (client.SawFlags 0 ∷ client.SawFront front ∷ []) (client.Release count ∷ []) in
    goes_on c d asked answer (client.SawFlags 0 ∷ client.SawFront front ∷ client.Release count ∷ [])
    (record { position = (client_kept_of p).position + count; shut = outside p.shape.frames front (wrapped (client_kept_of p).position) }) k a spelled
    base events refl
    (let e : (client_kept_of p).position + count ≡ d.pass.part.shape.base + length d.pass.part.frames = omega arith in e)
    rear_is
    (rest.0 ∙ counts.1 ∙ none_more c.flushes)
    (let e : d.released ≡ m.released + count = released_is in let f : m.released ≡ c.released = counts.2 in let h : c.released ≡ length p.frames = k.released_is in omega arith)
    (rest.1 ∙ opens.3 ∙ sym (outside-none p.shape.frames front (wrapped (client_kept_of p).position) within))
    (λ ok. rest.1 ∙ opens.3)

-- what a call's events are, by whether the proxy was shut
abbrev pub LooksUnless : Bool → ℕ → List ClientEvent
LooksUnless was_shut front = if was_shut then [] else client.SawFlags 0 ∷ client.SawFront front ∷ []

pub corrupt_keeps : (c d : ClientState) (asked front back : ℕ) (answer : ClientCall) → IsInOrder c → Answers c asked answer
    → client_events_of c.pass.part.shape.frames c.pass.part.shape.base c.pass.part.events answer ≡ LooksUnless (is_some (client_kept_of c.pass.part).shut) front
    → Opens c.pass.part c.rear c.shut (opened.Corrupt front back) d.pass.part d.shut
    → SameCounts c d → IsInOrder d
corrupt_keeps c d asked front back answer k a spelled opens counts = by c.shut refl opens.1
  where
    p : ClientPart
    p = c.pass.part

    by : (o : Option (ℕ × ℕ)) → o ≡ c.shut
        → MatchOption o ((d.pass.part ≡ saw_both p front) × (back ≡ c.rear) × (p.shape.frames < filled d.pass.part) × (is_lawful p.events ≡ true → ⊥)) (λ words. (words ≡ (front, back)) × (d.pass.part ≡ p))
        → IsInOrder d
    by None none h =
        let is : d.pass.part ≡ saw_both p front = h.0 in
        let here : released d.pass.part ≡ released p = ap released is in
        let beyond : p.shape.frames < ahead front (wrapped (client_kept_of p).position) = (let e = filled_is c d.pass.part front k is in let r = h.2 in omega arith) in
        let back_is : back ≡ wrapped (client_kept_of p).position = h.1 ∙ k.rear_is ∙ ap wrapped (sym k.position_is) in
        goes_on c d asked answer (client.SawFlags 0 ∷ client.SawFront front ∷ []) (record (client_kept_of p) { shut = outside p.shape.frames front (wrapped (client_kept_of p).position) }) k a
        (spelled ∙ ap (λ (o : Option (ℕ × ℕ)). LooksUnless (is_some o) front) (sym k.shut_is ∙ sym none))
        (ap (λ (x : ClientPart). x.shape) is) (looked c d.pass.part front is) refl
        (k.position_is ∙ sym here)
        (counts.0 ∙ k.rear_is ∙ ap wrapped (sym here))
        (counts.1 ∙ none_more c.flushes)
        (counts.2 ∙ k.released_is ∙ ap (λ (x : ClientPart). length x.frames) (sym is))
        (opens.0 ∙ ap (λ (z : ℕ). Some (front, z)) back_is ∙ sym (outside-some p.shape.frames front (wrapped (client_kept_of p).position) beyond))
        (λ ok. absurd (h.3 ok))
    by (Some words) some h = same_keeps c d k h.1 counts (opens.0 ∙ ap Some (sym h.0) ∙ some)

-- ## Putting

pub same_end : (k : Shape) (rear n : ℕ) → IsShape k → rear ≡ wrapped n → rear % k.cells ≡ n % k.cells
same_end k rear n shape is = let s = (sized k shape).3 in ap (λ (z : ℕ). z % k.cells) is ∙ same_cell n s.0 k.cells s.1

-- there is a cell before the last one's end
pub before_end : (k : Shape) (n : ℕ) → IsShape k → 1 ≤ k.cells - n % k.cells
before_end k n shape = let s = sized k shape in let low : n % k.cells < k.cells = mod-lt n (let a = s.0 in let b = s.1 in omega arith) in omega arith

pub put_is : (p s q : ClientPart) (n : ℕ) (frames : List Frame) → SameBut p s → Stored s (map packed_word frames) n → n ≤ length frames → q ≡ rear_stored s n
    → PutOn p n (map packed_word (take n frames)) q
put_is p s q n frames same stored fits is =
    let words : List ℕ = map packed_word (take n frames) in
    let small : n ≤ length (map packed_word frames) = (let e : length (map packed_word frames) ≡ length frames = length-map frames packed_word in omega arith) in
    let run : run_of s.stored (length s.frames) n ≡ words = run_is s (map packed_word frames) n small stored ∙ take-map packed_word n frames in
    is ∙ ap (λ (l : List ℕ). record s { events = s.events ++ client.Release n ∷ []; frames = s.frames ++ l }) run
    ∙ ap (λ (x : ClientPart). record x { events = x.events ++ client.Release n ∷ []; frames = x.frames ++ words }) same
    ∙ ap (λ (l : List (ℕ × ℕ)). record p { events = p.events ++ client.Release n ∷ []; frames = p.frames ++ words; stored = l }) (sym (ap (λ (x : ClientPart). x.stored) is))

pub words_are : (n : ℕ) (frames : List Frame) → n ≤ length frames → length (map packed_word (take n frames)) ≡ n
words_are n frames fits = length-map (take n frames) packed_word ∙ length-take-le n frames fits

pub put_rear : (p q : ClientPart) (rear n : ℕ) (words : List ℕ) → rear ≡ wrapped (released p) → length words ≡ n → PutOn p n words q → (rear + n) % 2 ^ 32 ≡ wrapped (released q)
put_rear p q rear n words is size put =
    let many : length (p.frames ++ words) ≡ length p.frames + length words = length-append p.frames words in
    let moved : released q ≡ released p + n = ap released put ∙ (let e : p.shape.base + length (p.frames ++ words) ≡ p.shape.base + length p.frames + n = omega arith in e) in
    ap (λ (z : ℕ). (z + n) % 2 ^ 32) is ∙ past (released p) n ∙ ap wrapped (sym moved)
