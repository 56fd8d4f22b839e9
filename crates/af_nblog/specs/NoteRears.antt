-- What the end that reads saw of the end that notes.
use Rattle.std.specs.Prelude.{◌≡◌, ℕ, ◌+◌, ◌≤◌, max, List, [], ◌∷◌, take}
use Rattle.af_base.specs.declared.event.ClientEvent.{ClientEvent}
use Rattle.af_base.specs.declared.event.ClientEvent.TheVariants as client
use Rattle.af_base.specs.declared.event.ServerEvent.{ServerEvent}
use Rattle.af_base.specs.declared.event.ServerEvent.TheVariants as server
use Rattle.af_model.specs.Point.{wrapped}

-- how many words these events put
abbrev pub put_in : List ClientEvent → ℕ
put_in [] = 0
put_in (client.Release count ∷ es) = count + put_in es
put_in (_ ∷ es) = put_in es

-- Each rear seen, behind so many words taken, is that of a number of words put. They are no fewer than those taken, no more than there is room for besides, no fewer than an earlier look saw, and no fewer than before a meeting that stands before it. Each front seen is that of the words taken
abbrev pub SeesPut : (size : ℕ) → List ClientEvent → (taken low : ℕ) → List ServerEvent → Type 0
SeesPut size puts taken low [] = Unit {0}
SeesPut size puts taken low (server.SawRear rear ∷ es) = (put : ℕ) × (low ≤ put) × (taken ≤ put) × (put ≤ taken + size) × (rear ≡ wrapped put) × SeesPut size puts taken put es
SeesPut size puts taken low (server.SawFront front ∷ es) = (front ≡ wrapped taken) × SeesPut size puts taken low es
SeesPut size puts taken low (server.Take count ∷ es) = SeesPut size puts (taken + count) low es
SeesPut size puts taken low (server.Learn count ∷ es) = SeesPut size puts taken (max low (put_in (take count puts))) es
SeesPut size puts taken low (_ ∷ es) = SeesPut size puts taken low es
