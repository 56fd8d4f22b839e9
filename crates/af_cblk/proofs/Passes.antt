-- What a client's pass keeps beside its seat.
use Rattle.std.proofs.Common.{◌≡◌, ℕ, ◌+◌, true, List, [], ◌∷◌, ◌++◌, length, refl, sym, ap, ◌∙◌, arith}
use Rattle.af_cblk.proofs.Common.{ClientEvent, Me, ServerEvent, flush_in, flushes-append, flushes_of, wrapped}
use Rattle.af_base.specs.declared.event.ClientEvent.TheVariants as client
use Rattle.af_cblk.specs.declared.view.ClientPart.{ClientPart}
use Rattle.af_cblk.specs.declared.view.View.{View}
use Rattle.af_cblk.specs.Parts.{released, rear_stored, client_met}

-- one event more
pub flushes-one : (es : List ClientEvent) (e : ClientEvent) (n : ℕ) → flush_in e ≡ n → flushes_of (es ++ e ∷ []) ≡ flushes_of es + n
flushes-one es e n is = let r = flushes-append es (e ∷ []) in omega arith

abbrev Mine : Type 0
Mine = Me (Unit {0}) View

-- the position, the count and the last flush of a pass are those of its seat
abbrev pub IsClientPass : Mine → ℕ → ℕ → ℕ → Type 0
IsClientPass m rear flushes flushed = (m.0.is_client ≡ true) × (m.1 ≡ []) × (rear ≡ wrapped (released m.0.client)) × (flushes ≡ flushes_of m.0.client.events) × (flushed ≡ wrapped m.0.client.flush_at)

-- the client goes on with another part
pub pass_on : (m m' : Mine) (rear flushes flushed rear' flushes' flushed' : ℕ) (c : ClientPart) → IsClientPass m rear flushes flushed → m' ≡ (record m.0 { client = c }, m.1)
    → rear' ≡ wrapped (released c) → flushes' ≡ flushes_of c.events → flushed' ≡ wrapped c.flush_at → IsClientPass m' rear' flushes' flushed'
pass_on m m' rear flushes flushed rear' flushes' flushed' c p now at count place = (
  ap (λ (x : Mine). x.0.is_client) now ∙ p.0,
  ap (λ (x : Mine). x.1) now ∙ p.1,
  at ∙ ap (λ (x : Mine). wrapped (released x.0.client)) (sym now),
  count ∙ ap (λ (x : Mine). flushes_of x.0.client.events) (sym now),
  place ∙ ap (λ (x : Mine). wrapped x.0.client.flush_at) (sym now),
)

-- the client has released some frames
pub pass_rear : (m m' : Mine) (rear flushes flushed rear' count : ℕ) → IsClientPass m rear flushes flushed → m' ≡ (record m.0 { client = rear_stored m.0.client count }, m.1)
    → rear' ≡ wrapped (released (rear_stored m.0.client count)) → IsClientPass m' rear' flushes flushed
pass_rear m m' rear flushes flushed rear' count p now at =
    let same : flushes_of (m.0.client.events ++ client.Release count ∷ []) ≡ flushes_of m.0.client.events + 0 = flushes-one m.0.client.events (client.Release count) 0 refl in
    pass_on m m' rear flushes flushed rear' flushes flushed (rear_stored m.0.client count) p now at (let f = p.3 in omega arith) p.4

-- the client has met the server
pub pass_met : (m m' : Mine) (rear flushes flushed : ℕ) (theirs : List ServerEvent) → IsClientPass m rear flushes flushed → m'.0.is_client ≡ true → m'.1 ≡ [] → m'.0.client ≡ client_met m.0.client theirs
    → IsClientPass m' rear flushes flushed
pass_met m m' rear flushes flushed theirs p is none now =
    let same : flushes_of (m.0.client.events ++ client.Learn (length theirs) ∷ []) ≡ flushes_of m.0.client.events + 0 = flushes-one m.0.client.events (client.Learn (length theirs)) 0 refl in
    let kept : flushes ≡ flushes_of (m.0.client.events ++ client.Learn (length theirs) ∷ []) = (let f = p.3 in omega arith) in (
      is,
      none,
      p.2 ∙ ap (λ (c : ClientPart). wrapped (released c)) (sym now),
      kept ∙ ap (λ (c : ClientPart). flushes_of c.events) (sym now),
      p.4 ∙ ap (λ (c : ClientPart). wrapped c.flush_at) (sym now),
    )

-- the client has one event more, which is no release and no flush
pub pass_did : (m m' : Mine) (rear flushes flushed : ℕ) (c : ClientPart) (e : ClientEvent) → IsClientPass m rear flushes flushed → m' ≡ (record m.0 { client = c }, m.1)
    → released c ≡ released m.0.client → c.flush_at ≡ m.0.client.flush_at → c.events ≡ m.0.client.events ++ e ∷ [] → flush_in e ≡ 0 → IsClientPass m' rear flushes flushed
pass_did m m' rear flushes flushed c e p now same place events none =
    let count : flushes_of (m.0.client.events ++ e ∷ []) ≡ flushes_of m.0.client.events + 0 = flushes-one m.0.client.events e 0 none in
    let kept : flushes ≡ flushes_of (m.0.client.events ++ e ∷ []) = (let f = p.3 in omega arith) in
    pass_on m m' rear flushes flushed rear flushes flushed c p now (p.2 ∙ ap wrapped (sym same)) (kept ∙ ap flushes_of (sym events)) (p.4 ∙ ap wrapped (sym place))
