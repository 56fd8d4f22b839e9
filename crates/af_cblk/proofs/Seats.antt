-- A step of one seat keeps the rule if it keeps what the rule says of the parts.
use Rattle.std.proofs.Common.{◌≡◌, ℕ, zero, suc, ◌≢◌, ◌⊎◌, true, false, true≢false, List, [], ◌∷◌, ◌++◌, length, get_or, set, sym, refl, ap, ◌∙◌, subst, inl, inr, ⊎_elim, append-nil}
use Rattle.af_cblk.proofs.Common.{Allows, Joins, Me, ServerEvent, Shape, Splits, at_set, is_lawful, keeps, set_else}
use Rattle.af_cblk.proofs.Basics.{goes_on}
use mathlib.Core.Option.{some, some-injective, some-ne-none}
use lib.ListN.{get_elem?}
use Rattle.af_cblk.specs.declared.view.ClientPart.{ClientPart}
use Rattle.af_cblk.specs.declared.view.ServerPart.{ServerPart}
use Rattle.af_cblk.specs.declared.view.HandPart.{HandPart}
use Rattle.af_cblk.specs.declared.view.View.{View}
use Rattle.af_cblk.specs.Rule.{StartsWith, Stands, Parties, Sits, HandKnows, Holds, nobody, without_client, client_alone, and_client, without_hand, hand_alone, and_hand}

-- what the rule says of the words, if the client has not poked
abbrev pub Lawfully : Shape → List ℕ → ClientPart → ServerPart → HandPart → Type 0
Lawfully k words c s h = is_lawful c.events ≡ true → Stands k words c s h

abbrev Others : ℕ → Parties → Parties → Type 0
Others id a b = (by : ℕ) (v : View) → by ≢ id → Sits a by v → Sits b by v

-- one seat's view changes
sit_set : (a b : Parties) (views : List View) (id : ℕ) (w : View) → ((by : ℕ) (v : View) → get_elem? views by ≡ some v → Sits a by v)
    → Others id a b → Sits b id w → (by : ℕ) (v : View) → get_elem? (set views id w) by ≡ some v → Sits b by v
sit_set a b views id w all others mine by v e =
    ⊎_elim
    (λ (x : (by ≡ id) × (w ≡ v)). subst (λ (y : ℕ × View). Sits b y.0 y.1) (λ n. (sym x.0 n, x.1 n)) mine)
    (λ (x : (by ≢ id) × (get_elem? views by ≡ some v)). others by v x.0 (all by v x.1))
    (at_set views id by w v e)

module _ (k : Shape) (slots id i : ℕ) (me : Me (Unit {0}) View) (f : ℕ → ℕ) (then : ℕ → Me (Unit {0}) View → Type 0) where
  -- a step of any seat, whose view it may choose by what the parties have
  seat_steps : (w : Parties → ℕ → View)
      → ((words : List ℕ) (a : Parties) → Sits a id me.0 → Lawfully k words a.client a.server a.hand → HandKnows a
      → (b : Parties) × Sits b id (w a (get_or words i 0)) × Others id a b
      × Lawfully k (set words i (f (get_or words i 0))) b.client b.server b.hand × then (get_or words i 0) (w a (get_or words i 0), me.1) × HandKnows b)
      → Allows (Holds k) slots id me i f then
  seat_steps w moves t h _ at _ =
      let n = get_or t.words i 0 in
      let m = moves t.words h.parties (h.seats id me.0 at) h.stands h.knows in
      (w h.parties n, keeps, tt, record { parties = m.0; seats = sit_set h.parties m.0 t.views id (w h.parties n) h.seats m.2 m.1; stands = m.3; knows = m.5 }, m.4)

  pub client_steps : (c' : ℕ → ClientPart) → me.0.is_client ≡ true
      → ((words : List ℕ) (s : ServerPart) (h : HandPart) → Lawfully k words me.0.client s h
      → Lawfully k (set words i (f (get_or words i 0))) (c' (get_or words i 0)) s h × then (get_or words i 0) (record me.0 { client = c' (get_or words i 0) }, me.1))
      → Allows (Holds k) slots id me i f then
  client_steps c' is moves =
      seat_steps (λ _ n. record me.0 { client = c' n }) (λ words a mine stands knows.
      let n = get_or words i 0 in
      let seat = mine.client is in
      let step = moves words a.server a.hand (subst (λ (c : ClientPart). Lawfully k words c a.server a.hand) (sym seat.1) stands) in (
        record a { client = c' n },
        record { client = (λ _. (seat.0, refl)); server = mine.server; hand = mine.hand },
        (λ by v apart u. record { client = (λ hers. absurd (apart ((u.client hers).0 ∙ sym seat.0))); server = u.server; hand = u.hand }),
        step.0,
        step.1,
        knows,
      ))

  pub server_steps : (s' : ℕ → ServerPart) → me.0.is_server ≡ true → ((n : ℕ) → StartsWith (s' n).events me.0.server.events)
      → ((words : List ℕ) (c : ClientPart) (h : HandPart) → Lawfully k words c me.0.server h
      → Lawfully k (set words i (f (get_or words i 0))) c (s' (get_or words i 0)) h × then (get_or words i 0) (record me.0 { server = s' (get_or words i 0) }, me.1))
      → Allows (Holds k) slots id me i f then
  server_steps s' is grows moves =
      seat_steps (λ _ n. record me.0 { server = s' n }) (λ words a mine stands knows.
      let n = get_or words i 0 in
      let seat = mine.server is in
      let step = moves words a.client a.hand (subst (λ (s : ServerPart). Lawfully k words a.client s a.hand) (sym seat.1) stands) in (
        record a { server = s' n },
        record { client = mine.client; server = (λ _. (seat.0, refl)); hand = mine.hand },
        (λ by v apart u. record { client = u.client; server = (λ his. absurd (apart ((u.server his).0 ∙ sym seat.0))); hand = u.hand }),
        step.0,
        step.1,
        goes_on a.known me.0.server.events (s' n).events (subst (λ (s : ServerPart). StartsWith s.events a.known) (sym seat.1) knows) (grows n),
      ))

  pub hand_steps : (h' : HandPart) → me.0.is_hand ≡ true
      → ((words : List ℕ) (c : ClientPart) (s : ServerPart) → Lawfully k words c s me.0.hand
      → Lawfully k (set words i (f (get_or words i 0))) c s h' × then (get_or words i 0) (record me.0 { hand = h' }, me.1))
      → Allows (Holds k) slots id me i f then
  hand_steps h' is moves =
      seat_steps (λ _ n. record me.0 { hand = h' }) (λ words a mine stands knows.
      let seat = mine.hand is in
      let step = moves words a.client a.server (subst (λ (h : HandPart). Lawfully k words a.client a.server h) (sym seat.1) stands) in (
        record a { hand = h' },
        record { client = mine.client; server = mine.server; hand = (λ _. (seat.0, refl, seat.2)) },
        (λ by v apart u. record { client = u.client; server = u.server; hand = (λ its. absurd (apart ((u.hand its).0 ∙ sym seat.0))) }),
        step.0,
        step.1,
        knows,
      ))

  -- a step of a seat with the server's and the hand's part, which changes neither
  pub server_hand_steps : me.0.is_server ≡ true → me.0.is_hand ≡ true
      → ((words : List ℕ) (c : ClientPart) → Lawfully k words c me.0.server me.0.hand → Lawfully k (set words i (f (get_or words i 0))) c me.0.server me.0.hand)
      → (StartsWith me.0.server.events me.0.known → (n : ℕ) → then n me)
      → Allows (Holds k) slots id me i f then
  server_hand_steps is_s is_h moves told =
      seat_steps (λ _ n. me.0) (λ words a mine stands knows.
      let his = mine.server is_s in
      let its = mine.hand is_h in
      let step = moves words a.client (subst (λ (x : ServerPart × HandPart). Lawfully k words a.client x.0 x.1) (λ n. (sym his.1 n, sym its.1 n)) stands) in (
        a,
        mine,
        (λ by v apart u. u),
        subst (λ (x : ServerPart × HandPart). Lawfully k (set words i (f (get_or words i 0))) a.client x.0 x.1) (λ n. (his.1 n, its.1 n)) step,
        told (subst (λ (x : ServerPart × List ServerEvent). StartsWith x.0.events x.1) (λ n. (sym his.1 n, sym its.2 n)) knows) (get_or words i 0),
        knows,
      ))

  -- a step of a seat with the client's and the server's part
  pub pair_steps : (c' : ClientPart) (s' : ServerPart) → me.0.is_client ≡ true → me.0.is_server ≡ true → StartsWith s'.events me.0.server.events
      → ((words : List ℕ) (h : HandPart) → Lawfully k words me.0.client me.0.server h → (me.0.is_hand ≡ true → h ≡ me.0.hand)
      → Lawfully k (set words i (f (get_or words i 0))) c' s' h × then (get_or words i 0) (record me.0 { client = c'; server = s' }, me.1))
      → Allows (Holds k) slots id me i f then
  pair_steps c' s' is_c is_s grows moves =
      seat_steps (λ _ n. record me.0 { client = c'; server = s' }) (λ words a mine stands knows.
      let hers = mine.client is_c in
      let his = mine.server is_s in
      let step = moves words a.hand (subst (λ (s : ServerPart). Lawfully k words me.0.client s a.hand) (sym his.1) (subst (λ (c : ClientPart). Lawfully k words c a.server a.hand) (sym hers.1) stands)) (λ its. sym (mine.hand its).1) in (
        record a { client = c'; server = s' },
        record { client = (λ _. (hers.0, refl)); server = (λ _. (his.0, refl)); hand = mine.hand },
        (λ by v apart u. record { client = (λ x. absurd (apart ((u.client x).0 ∙ sym hers.0))); server = (λ x. absurd (apart ((u.server x).0 ∙ sym his.0))); hand = u.hand }),
        step.0,
        step.1,
        goes_on a.known me.0.server.events s'.events (subst (λ (s : ServerPart). StartsWith s.events a.known) (sym his.1) knows) grows,
      ))

  -- a step of a seat with the client's and the hand's part, which knows then what the server has done
  pub client_hand_steps : (c' : ClientPart) (h' : HandPart) → me.0.is_client ≡ true → me.0.is_hand ≡ true
      → ((words : List ℕ) (s : ServerPart) → Lawfully k words me.0.client s me.0.hand → (me.0.is_server ≡ true → s ≡ me.0.server)
      → Lawfully k (set words i (f (get_or words i 0))) c' s h' × then (get_or words i 0) (record me.0 { client = c'; hand = h'; known = s.events }, me.1))
      → Allows (Holds k) slots id me i f then
  client_hand_steps c' h' is_c is_h moves =
      seat_steps (λ a n. record me.0 { client = c'; hand = h'; known = a.server.events }) (λ words a mine stands knows.
      let hers = mine.client is_c in
      let its = mine.hand is_h in
      let step = moves words a.server (subst (λ (h : HandPart). Lawfully k words me.0.client a.server h) (sym its.1) (subst (λ (c : ClientPart). Lawfully k words c a.server a.hand) (sym hers.1) stands)) (λ x. sym (mine.server x).1) in (
        record a { client = c'; hand = h'; known = a.server.events },
        record { client = (λ _. (hers.0, refl)); server = mine.server; hand = (λ _. (its.0, refl, refl)) },
        (λ by v apart u. record { client = (λ x. absurd (apart ((u.client x).0 ∙ sym hers.0))); server = u.server; hand = (λ x. absurd (apart ((u.hand x).0 ∙ sym its.0))) }),
        step.0,
        step.1,
        ([], append-nil a.server.events),
      ))

off : false ≡ true → ⊥
off e = true≢false (sym e)

at_end : (l : List View) (a b : View) (j : ℕ) → get_elem? (l ++ a ∷ []) j ≡ some b → (get_elem? l j ≡ some b) ⊎ ((j ≡ length l) × (a ≡ b))
at_end [] a b zero e = inr (refl, some-injective a b e)
at_end [] a b (suc j) e = absurd (some-ne-none b (sym e))
at_end (x ∷ xs) a b zero e = inl e
at_end (x ∷ xs) a b (suc j) e = ⊎_elim (λ old. inl old) (λ new. inr (ap suc new.0, new.1)) (at_end xs a b j e)

-- parts of a seat go to a new one
seat_splits : (k : Shape) (id : ℕ) (v left right : View)
    → ((a : Parties) → Sits a id v → (new : ℕ) → (b : Parties) × (b.client ≡ a.client) × (b.server ≡ a.server) × (b.hand ≡ a.hand) × (b.known ≡ a.known) × Sits b id left × Sits b new right × Others id a b)
    → Splits (Holds k) id v left right
seat_splits k id v left right moves t h at =
    let new = length (set t.views id left) in
    let m = moves h.parties (h.seats id v at) new in
    record {
      parties = m.0;
      seats = (λ by u e. ⊎_elim
          (λ (old : get_elem? (set t.views id left) by ≡ some u). sit_set h.parties m.0 t.views id left h.seats m.7 m.5 by u old)
          (λ (last : (by ≡ new) × (right ≡ u)). subst (λ (y : ℕ × View). Sits m.0 y.0 y.1) (λ n. (sym last.0 n, last.1 n)) m.6)
          (at_end (set t.views id left) right u by e));
      stands = subst (λ (x : ClientPart × ServerPart × HandPart). Lawfully k t.words x.0 x.1 x.2) (λ n. (sym m.1 n, sym m.2 n, sym m.3 n)) h.stands;
      knows = subst (λ (x : ServerPart × List ServerEvent). StartsWith x.0.events x.1) (λ n. (sym m.2 n, sym m.4 n)) h.knows;
    }

pub client_leaves : (k : Shape) (id : ℕ) (v : View) → v.is_client ≡ true → Splits (Holds k) id v (without_client v) (client_alone v)
client_leaves k id v is = seat_splits k id v (without_client v) (client_alone v) (λ a mine new.
    let seat = mine.client is in (
      record a { client_seat = new },
      refl,
      refl,
      refl,
      refl,
      record { client = (λ x. absurd (off x)); server = mine.server; hand = mine.hand },
      record { client = (λ _. (refl, seat.1)); server = (λ x. absurd (off x)); hand = (λ x. absurd (off x)) },
      (λ by u apart s. record { client = (λ x. absurd (apart ((s.client x).0 ∙ sym seat.0))); server = s.server; hand = s.hand }),
    ))

pub hand_leaves : (k : Shape) (id : ℕ) (v : View) → v.is_hand ≡ true → Splits (Holds k) id v (without_hand v) (hand_alone v)
hand_leaves k id v is = seat_splits k id v (without_hand v) (hand_alone v) (λ a mine new.
    let seat = mine.hand is in (
      record a { hand_seat = new },
      refl,
      refl,
      refl,
      refl,
      record { client = mine.client; server = mine.server; hand = (λ x. absurd (off x)) },
      record { client = (λ x. absurd (off x)); server = (λ x. absurd (off x)); hand = (λ _. (refl, seat.1, seat.2)) },
      (λ by u apart s. record { client = s.client; server = s.server; hand = (λ x. absurd (apart ((s.hand x).0 ∙ sym seat.0))) }),
    ))

-- a part of one seat comes to another, and the first has no part any more
seat_joins : (k : Shape) (id : ℕ) (v : View) (other : ℕ) (w both : View)
    → ((a : Parties) → Sits a id v → Sits a other w → (b : Parties) × (b.client ≡ a.client) × (b.server ≡ a.server) × (b.hand ≡ a.hand) × (b.known ≡ a.known) × Sits b id both
    × ((by : ℕ) (u : View) → by ≢ id → by ≢ other → Sits a by u → Sits b by u))
    → Joins (Holds k) id v other w both nobody
seat_joins k id v other w both moves t h at apart there =
    let m = moves h.parties (h.seats id v at) (h.seats other w (sym (set_else t.views id other both apart) ∙ there)) in
    let gone : (b : Parties) → Sits b other nobody = λ b. record { client = (λ x. absurd (off x)); server = (λ x. absurd (off x)); hand = (λ x. absurd (off x)) } in
    record {
      parties = m.0;
      seats = (λ by u e. ⊎_elim
          (λ (x : (by ≡ other) × (nobody ≡ u)). subst (λ (y : ℕ × View). Sits m.0 y.0 y.1) (λ n. (sym x.0 n, x.1 n)) (gone m.0))
          (λ (x : (by ≢ other) × (get_elem? (set t.views id both) by ≡ some u)). ⊎_elim
          (λ (y : (by ≡ id) × (both ≡ u)). subst (λ (z : ℕ × View). Sits m.0 z.0 z.1) (λ n. (sym y.0 n, y.1 n)) m.5)
          (λ (y : (by ≢ id) × (get_elem? t.views by ≡ some u)). m.6 by u y.0 x.0 (h.seats by u y.1))
          (at_set t.views id by both u x.1))
          (at_set (set t.views id both) other by nobody u e));
      stands = subst (λ (x : ClientPart × ServerPart × HandPart). Lawfully k t.words x.0 x.1 x.2) (λ n. (sym m.1 n, sym m.2 n, sym m.3 n)) h.stands;
      knows = subst (λ (x : ServerPart × List ServerEvent). StartsWith x.0.events x.1) (λ n. (sym m.2 n, sym m.4 n)) h.knows;
    }

pub client_comes : (k : Shape) (id : ℕ) (v : View) (other : ℕ) (w : View) → w.is_client ≡ true → Joins (Holds k) id v other w (and_client v w) nobody
client_comes k id v other w is = seat_joins k id v other w (and_client v w) (λ a mine theirs.
    let seat = theirs.client is in (
      record a { client_seat = id },
      refl,
      refl,
      refl,
      refl,
      record { client = (λ _. (refl, seat.1)); server = mine.server; hand = mine.hand },
      (λ by u _ not s. record { client = (λ x. absurd (not ((s.client x).0 ∙ sym seat.0))); server = s.server; hand = s.hand }),
    ))

pub hand_comes : (k : Shape) (id : ℕ) (v : View) (other : ℕ) (w : View) → w.is_hand ≡ true → Joins (Holds k) id v other w (and_hand v w) nobody
hand_comes k id v other w is = seat_joins k id v other w (and_hand v w) (λ a mine theirs.
    let seat = theirs.hand is in (
      record a { hand_seat = id },
      refl,
      refl,
      refl,
      refl,
      record { client = mine.client; server = mine.server; hand = (λ _. (refl, seat.1, seat.2)) },
      (λ by u _ not s. record { client = s.client; server = s.server; hand = (λ x. absurd (not ((s.hand x).0 ∙ sym seat.0))) }),
    ))
