-- The clients of a test's tracks, one by one.
use Rattle.std.proofs.Common.{◌≡◌, ℕ, zero, suc, ◌<◌, List, [], ◌∷◌, length, slice_set, slice_index_or, slice_get, Some, unwrap_or, sym, ap, arith}
use Rattle.af_cblk.specs.Sides.{Made, client_made}
use Rattle.af_client.specs.Order.{ClientState, IsInOrder}
use Rattle.af_normal_tests.specs.Testing.{AreClients}

-- a client is of the block of its place, and in order
pub client_at : (blocks : List Made) (clients : List ClientState) (i : ℕ) (c : ClientState) → AreClients blocks clients → i < length clients
    → (slice_get blocks i ≡ Some (client_made (slice_index_or clients i c).pass)) × IsInOrder (slice_index_or clients i c)
client_at [] [] i c z lt = absurd (omega arith)
client_at [] (d ∷ ds) i c z lt = elim z [ ]
client_at (b ∷ bs) [] i c z lt = absurd (omega arith)
client_at (b ∷ bs) (d ∷ ds) zero c z lt = (ap (λ (m : Made). Some m) (sym z.0.0), z.0.1)
client_at (b ∷ bs) (d ∷ ds) (suc i) c z lt = client_at bs ds i c z.1 (omega arith)

same_made : (x y : Made) → Some x ≡ Some y → x ≡ y
same_made x y e = ap (λ o. unwrap_or o x) e

-- another client of that block may stand in its place
pub client_set : (blocks : List Made) (clients : List ClientState) (i : ℕ) (d : ClientState) → AreClients blocks clients → slice_get blocks i ≡ Some (client_made d.pass) → IsInOrder d
    → AreClients blocks (slice_set clients i d)
client_set [] [] i d z is order = tt
client_set [] (e ∷ es) i d z is order = elim z [ ]
client_set (b ∷ bs) [] i d z is order = elim z [ ]
client_set (b ∷ bs) (e ∷ es) zero d z is order = ((sym (same_made b (client_made d.pass) is), order), z.1)
client_set (b ∷ bs) (e ∷ es) (suc i) d z is order = (z.0, client_set bs es i d z.1 is order)
