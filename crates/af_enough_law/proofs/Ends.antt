-- A turn once every life has ended: no proxy is lent, the draft carries nothing, and what is acknowledged comes home.
use Rattle.std.proofs.Common.{◌≡◌, ◌⊎◌, inl, inr, ℕ, suc, ◌<◌, ◌≤◌, ◌&&◌, not, Bool, true, false, true≢false, All, List, [], ◌∷◌, length, is_some, refl, sym, ap, ◌∙◌, arith}
use Rattle.af_enough_law.proofs.Common.{FastState, GoesOn, Holder, Home, IsSlotted, Learnt, Lent, Life, NormalKept, Outside, Returning, Setting, Setup, TrackKept, Turn, after_part, below_or_not, carries, heard, if_true, is_home, is_lent, is_over, is_returning, learnt, no, out_of, plays, ready, slot_number, slots, sound_turn, track_at, track_in, turn_after, turn_len, commands_exit, IsSound, and_false}
use Rattle.af_enough_law.proofs.Basics.{stays_home as greeted_home}
use Rattle.af_enough_law.proofs.Drafts.{next_holder, is_busy, PushMade, IsLatest, holder_turned, turn_pushes}
use Rattle.af_enough_law.proofs.Owned.{AreOwned, owned_turn}
use Rattle.af_enough_law.proofs.TrackTurns.{attended}
use Rattle.af_enough_law.proofs.Following.{greeted_in, greeted_alike, edited_alike}
use Rattle.af_enough_law.proofs.Orders.{come}
use Rattle.af_enough_law.proofs.Served.{track_turned}

-- every life has ended
abbrev pub AllOver : List TrackKept → Type 0
AllOver tracks = (i : ℕ) → i < length tracks → (track_at tracks i).life.ended ≡ true

-- no proxy is lent
abbrev pub NoneLent : List TrackKept → Type 0
NoneLent tracks = (i : ℕ) → is_lent (track_at tracks i).holder ≡ false

-- each proxy is home
abbrev pub AllHome : List TrackKept → Type 0
AllHome tracks = (i : ℕ) → i < length tracks → is_home (track_at tracks i).holder ≡ true

-- the state carries no track
abbrev pub CarriesNone : FastState → Type 0
CarriesNone x = (slot : ℕ) → slot < slots → carries x slot ≡ false

-- what holds between any two turns
pub record IsInOrder (m : NormalKept) : Type 0 where
  pub sound : IsSound m.tracks m.draft
  pub owned : AreOwned m.tracks m.draft
  pub latest : IsLatest m

-- the mixer rests: every life has ended, no proxy is lent, and the draft carries no track
pub record Rests (m : NormalKept) : Type 0 where
  pub order : IsInOrder m
  pub over : AllOver m.tracks
  pub none : NoneLent m.tracks
  pub empty : CarriesNone m.draft

-- the Exit is the last state pushed, and nothing is left to be pushed
pub record ExitSent (m : NormalKept) : Type 0 where
  pub draft : commands_exit m.draft ≡ true
  pub last : commands_exit m.last ≡ true
  pub clean : m.dirty ≡ false

-- ## The lives

-- a life that has ended stays as it is
pub over_stays : (c : Setup) (k : Learnt) (m : NormalKept) (e : Turn) (i : ℕ) → i < length m.tracks → e.ended ≡ false → (track_at m.tracks i).life.ended ≡ true → (track_at (turn_after c k m e).tracks i).life.ended ≡ true
over_stays c k m e i lt runs over =
    let t = track_turned c k m e i lt runs in
    let g : TrackKept = greeted_in m e i in
    let life : g.life ≡ (track_at m.tracks i).life = (greeted_alike e.ack m.last (track_at m.tracks i)).life in
    let ended : g.life.ended ≡ true = ap (λ (l : Life). l.ended) life ∙ over in
    let same : attended t.given k i (track_in e i).looks g ≡ g = if_true g.life.ended g (after_part t.given (heard k i g) (track_in e i).looks (ready k i g)) ended in
    ap (λ (s : TrackKept). s.life.ended) t.after ∙ ap (λ (l : Life). l.ended) (edited_alike (k.own i) (attended t.given k i (track_in e i).looks g) t.edited t.edit).life ∙ ap (λ (s : TrackKept). s.life.ended) same ∙ ended

pub over_turn : (c : Setup) (k : Learnt) (m : NormalKept) (e : Turn) → e.ended ≡ false → AllOver m.tracks → AllOver (turn_after c k m e).tracks
over_turn c k m e runs over i lt = let long = turn_len c k m e in let lt' : i < length m.tracks = omega (arith, lt, long) in over_stays c k m e i lt' runs (over i lt')

-- ## The holders

pub silent : (l : Life) → l.ended ≡ true → plays l ≡ false
silent l over = ap (λ (b : Bool). l.member && not b) over ∙ and_false l.member

unlent : (slot : Bool) (h : Holder) → is_lent (next_holder false slot h) ≡ false
unlent true Home = refl
unlent false Home = refl
unlent slot Lent = refl
unlent slot Returning = refl

stays_home : (slot : Bool) (h : Holder) → is_home h ≡ true → is_home (next_holder false slot h) ≡ true
stays_home true Home is = refl
stays_home false Home is = refl
stays_home slot Lent is = no is
stays_home slot Returning is = no is

holder_silent : (c : Setup) (k : Learnt) (m : NormalKept) (e : Turn) (i : ℕ) → i < length m.tracks → e.ended ≡ false → (track_at (turn_after c k m e).tracks i).life.ended ≡ true
    → (let t = track_at (turn_after c k m e).tracks i in t.holder ≡ next_holder false (is_some t.slot) (greeted_in m e i).holder)
holder_silent c k m e i lt runs over = let t : TrackKept = track_at (turn_after c k m e).tracks i in holder_turned c k m e i lt runs ∙ ap (λ (b : Bool). next_holder b (is_some t.slot) (greeted_in m e i).holder) (silent t.life over)

pub none_lent : (c : Setup) (k : Learnt) (m : NormalKept) (e : Turn) → e.ended ≡ false → AllOver (turn_after c k m e).tracks → NoneLent (turn_after c k m e).tracks
none_lent c k m e runs over i = by (below_or_not i (length m.tracks))
  where
    by : (i < length m.tracks) ⊎ (length m.tracks ≤ i) → is_lent (track_at (turn_after c k m e).tracks i).holder ≡ false
    by (inl lt) = let long = turn_len c k m e in ap is_lent (holder_silent c k m e i lt runs (over i (omega (arith, lt, long)))) ∙ unlent (is_some (track_at (turn_after c k m e).tracks i).slot) (greeted_in m e i).holder
    by (inr far) = let long = turn_len c k m e in ap (λ (s : TrackKept). is_lent s.holder) (out_of (turn_after c k m e).tracks i (omega (arith, far, long)))

-- a draft whose slots are those of lent tracks carries none if none is lent
pub carries_none : (tracks : List TrackKept) (draft : FastState) → AreOwned tracks draft → NoneLent tracks → CarriesNone draft
carries_none tracks draft owned none slot lt = by (carries draft slot) refl
  where
    by : (b : Bool) → carries draft slot ≡ b → carries draft slot ≡ false
    by true is = let o = owned slot lt is in absurd (true≢false (sym o.lent ∙ none o.owner))
    by false is = is

-- ## A turn

-- what holds between two turns holds after the next one
pub order_turn : (c : Setup) → All (λ (x : Setting). x.scale ≤ 4096) c.settings → (o : Outside) (m : NormalKept) (e : Turn) → length m.tracks ≤ length c.settings → e.ended ≡ false → GoesOn c o m e → IsInOrder m → IsInOrder (turn_after c (learnt o) m e)
order_turn c scales o m e few runs goes order = record {
  sound = sound_turn c scales (learnt o) m e few order.sound;
  owned = owned_turn c scales (learnt o) m e few order.sound order.owned;
  latest = (turn_pushes c o m e runs goes order.latest).latest;
}

-- once every life has ended the mixer rests after the next turn
pub rests_turn : (c : Setup) → All (λ (x : Setting). x.scale ≤ 4096) c.settings → (o : Outside) (m : NormalKept) (e : Turn) → length m.tracks ≤ length c.settings → e.ended ≡ false → GoesOn c o m e → IsInOrder m → AllOver (turn_after c (learnt o) m e).tracks → Rests (turn_after c (learnt o) m e)
rests_turn c scales o m e few runs goes order over =
    let after = order_turn c scales o m e few runs goes order in
    let none = none_lent c (learnt o) m e runs over in
    record { order = after; over = over; none = none; empty = carries_none (turn_after c (learnt o) m e).tracks (turn_after c (learnt o) m e).draft after.owned none }

-- a push of a resting mixer leaves a last state that carries nothing
pub last_empty : (m after : NormalKept) (e : Turn) → PushMade m after e.push → Rests after → is_busy e.push ≡ false → CarriesNone after.last
last_empty m after e made rests free slot lt = ap (λ (x : FastState). carries x slot) (made.done free).1 ∙ rests.empty slot lt

-- a last state that carries nothing stays so
pub stays_empty : (m after : NormalKept) (e : Turn) → PushMade m after e.push → Rests after → CarriesNone m.last → CarriesNone after.last
stays_empty m after e made rests empty slot lt = by (is_busy e.push) refl
  where
    by : (b : Bool) → is_busy e.push ≡ b → carries after.last slot ≡ false
    by true is = ap (λ (x : FastState). carries x slot) (made.busy is).3 ∙ empty slot lt
    by false is = last_empty m after e made rests is slot lt

home_or : (h : Holder) → is_lent h ≡ false → (is_home h ≡ true) ⊎ (is_returning h ≡ true)
home_or Home none = inl refl
home_or Lent none = absurd (true≢false none)
home_or Returning none = inr refl

slot_low : (s : TrackKept) → IsSlotted s → is_returning s.holder ≡ true → slot_number s < slots
slot_low s slotted returning = by (is_some s.slot) refl
  where
    away : (h : Holder) → is_returning h ≡ true → is_home h ≡ true → ⊥
    away Home r h = true≢false (sym r)
    away Lent r h = true≢false (sym h)
    away Returning r h = true≢false (sym h)

    by : (b : Bool) → is_some s.slot ≡ b → slot_number s < slots
    by true is = (slotted.slot is).1
    by false is = absurd (away s.holder returning (slotted.homely is))

-- If the last state pushed carries nothing, a turn that sees it acknowledged brings all proxies home
pub all_home : (c : Setup) (k : Learnt) (m : NormalKept) (e : Turn) → e.ended ≡ false → Rests m → CarriesNone m.last → e.ack ≡ true → AllHome (turn_after c k m e).tracks
all_home c k m e runs rests empty ack i lt =
    let long = turn_len c k m e in
    let lt' : i < length m.tracks = omega (arith, lt, long) in
    let s : TrackKept = track_at m.tracks i in
    let t : TrackKept = track_at (turn_after c k m e).tracks i in
    ap is_home (holder_silent c k m e i lt' runs (over_stays c k m e i lt' runs (rests.over i lt'))) ∙ stays_home (is_some t.slot) (greeted_in m e i).holder (by (home_or s.holder (rests.none i)))
  where
    by : (is_home (track_at m.tracks i).holder ≡ true) ⊎ (is_returning (track_at m.tracks i).holder ≡ true) → is_home (greeted_in m e i).holder ≡ true
    by (inl home) = greeted_home e.ack m.last (track_at m.tracks i) home
    by (inr returning) = ap is_home (come m.last (track_at m.tracks i) e.ack ack returning (empty (slot_number (track_at m.tracks i)) (slot_low (track_at m.tracks i) (rests.order.sound.slotted i) returning)))

-- proxies that are all home stay there
pub home_stays : (c : Setup) (k : Learnt) (m : NormalKept) (e : Turn) → e.ended ≡ false → Rests m → AllHome m.tracks → AllHome (turn_after c k m e).tracks
home_stays c k m e runs rests home i lt =
    let long = turn_len c k m e in
    let lt' : i < length m.tracks = omega (arith, lt, long) in
    let t : TrackKept = track_at (turn_after c k m e).tracks i in
    ap is_home (holder_silent c k m e i lt' runs (over_stays c k m e i lt' runs (rests.over i lt'))) ∙ stays_home (is_some t.slot) (greeted_in m e i).holder (greeted_home e.ack m.last (track_at m.tracks i) (home i lt'))

-- if every life has ended and all proxies are home, all is over
pub is_over_by : (tracks : List TrackKept) → AllOver tracks → AllHome tracks → is_over tracks ≡ true
is_over_by [] over home = refl
is_over_by (s ∷ tracks) over home =
    (λ j. ((over 0 (omega arith)) j && (home 0 (omega arith)) j) && is_over tracks) ∙ is_over_by tracks (λ i lt. over (suc i) (omega (arith, lt))) (λ i lt. home (suc i) (omega (arith, lt)))
