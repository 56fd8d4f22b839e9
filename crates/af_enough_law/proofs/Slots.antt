-- The slot of a track that was opened stays.
use Rattle.std.proofs.Common.{◌≡◌, ◌⊎◌, inl, inr, ℕ, ◌<◌, ◌==◌, ◌&&◌, not, if◌then◌else◌, is_some, Bool, true, false, true≢false, Option, None, List, [], ◌∷◌, length, refl, sym, ap, ◌∙◌, subst}
use Rattle.af_enough_law.proofs.Common.{Absent, AllByRecursion, CommandLook, Learnt, Life, NormalKept, Row, Setup, TrackKept, Turn, after_look, after_looks, after_part, and_none, by_command, commands, ended, first_effect as effect_of, free_slot, goes_on, heard, is_among, is_reached, is_shut, must_wait, noted, obeyed, opens, ready, ready_life, setting_of, settled_at, shows_command, slot_reported, told, track_at, track_in, tracks_at, turn_after}
use Rattle.af_enough_law.proofs.Courses.{Course, absent, idle, playing, stopping, drained, stopped, over}
use Rattle.af_enough_law.proofs.TrackTurns.{attended, TrackTurned}
use Rattle.af_enough_law.proofs.Following.{greeted_in, greeted_alike, edited_alike, noted_alike}
use Rattle.af_enough_law.proofs.Served.{track_turned}

-- ## A life that was opened

-- an OPEN does nothing any more
abbrev pub IsOpened : Life → Type 0
IsOpened l = (not l.ended && is_among (Absent ∷ []) l.state) ≡ false

either_opened : (b : Bool) (x y : Life) → IsOpened x → IsOpened y → IsOpened (if b then x else y)
either_opened true x y h g = h
either_opened false x y h g = g

rows_open : (rows : List Row) (code argument : ℕ) (l : Life) → AllByRecursion (λ (row : Row). (argument : ℕ) (l : Life) → IsOpened l → IsOpened (row.effect argument l)) rows → IsOpened l → IsOpened (effect_of rows code argument l)
rows_open [] code argument l h is = is
rows_open (row ∷ rows) code argument l h is = either_opened _ (row.effect argument l) (effect_of rows code argument l) (h.0 argument l is) (rows_open rows code argument l h.1 is)

still_opened : (code argument : ℕ) (l : Life) → IsOpened l → IsOpened (by_command code argument l)
unfolding by_command
still_opened code argument l is =
    let other = λ (a : ℕ) (x : Life) (h : IsOpened x). and_none (not x.ended) false refl in
    either_opened l.ended l (effect_of commands code argument l) is (rows_open commands code argument l (other, (other, (other, (other, (other, (other, (other, ((λ a x h. refl), tt)))))))) is)

-- a track on its course was opened by its first command
pub course_opened : (count told : ℕ) (l : Life) → Course count told l → (told == 0) ≡ false → IsOpened l
course_opened count told l absent some = absurd (true≢false some)
course_opened count told l idle some = refl
course_opened count told l (playing retries a b) some = refl
course_opened count told l (stopping retries) some = refl
course_opened count told l (drained retries) some = refl
course_opened count told l (stopped retries) some = refl
course_opened count told l (over life e) some = ap (λ (b : Bool). not b && is_among (Absent ∷ []) life.state) e

-- ## Looks

-- the track has this slot, and was opened, or no OPEN gives another one
record Keeps (given slot : Option ℕ) (s : TrackKept) : Type 0 where
  is : s.slot ≡ slot
  life : (given ≡ slot) ⊎ IsOpened s.life

either_keeps : (given slot : Option ℕ) (b : Bool) (s t : TrackKept) → Keeps given slot s → Keeps given slot t → Keeps given slot (if b then s else t)
either_keeps given slot true s t h g = h
either_keeps given slot false s t h g = g

told_slot : (given slot : Option ℕ) (code : ℕ) (l : Life) (before : Option ℕ) → before ≡ slot → (given ≡ slot) ⊎ IsOpened l → (if opens code l then given else before) ≡ slot
told_slot given slot code l before is (inl same) = by (opens code l)
  where
    by : (b : Bool) → (if b then given else before) ≡ slot
    by true = same
    by false = is
told_slot given slot code l before is (inr opened) = ap (λ (b : Bool). if b then given else before) (and_none (code == 1) _ opened) ∙ is

told_life : (given slot : Option ℕ) (code argument : ℕ) (l : Life) → (given ≡ slot) ⊎ IsOpened l → (given ≡ slot) ⊎ IsOpened (by_command code argument l)
told_life given slot code argument l (inl same) = inl same
told_life given slot code argument l (inr opened) = inr (still_opened code argument l opened)

ended_life : (given slot : Option ℕ) (l : Life) → (given ≡ slot) ⊎ IsOpened l → (given ≡ slot) ⊎ IsOpened (record l { ended = true; member = false })
ended_life given slot l (inl same) = inl same
ended_life given slot l (inr opened) = inr refl

look_keeps : (given slot : Option ℕ) (flush_seen : ℕ) (look : CommandLook) (s : TrackKept) → Keeps given slot s → Keeps given slot (after_look given flush_seen look s)
unfolding after_look obeyed
look_keeps given slot flush_seen look s h =
    let there = told_slot given slot look.code s.life s.slot h.is h.life in
    let life = told_life given slot look.code look.argument s.life h.life in
    either_keeps given slot (shows_command look.seen) (obeyed given flush_seen look.code look.argument s) (if is_shut look.seen then ended s else s)
    (either_keeps given slot (must_wait flush_seen look.code look.argument s.life) _ _ (record { is = there; life = life }) (record { is = there; life = life }))
    (either_keeps given slot (is_shut look.seen) (ended s) s (record { is = h.is; life = ended_life given slot s.life h.life }) h)

looks_keep : (given slot : Option ℕ) (flush_seen : ℕ) (looks : List CommandLook) (s : TrackKept) → Keeps given slot s → Keeps given slot (after_looks given flush_seen looks s)
looks_keep given slot flush_seen [] s h = h
looks_keep given slot flush_seen (look ∷ looks) s h = let t : TrackKept = after_look given flush_seen look s in
    let now = look_keeps given slot flush_seen look s h in either_keeps given slot (goes_on look t) (after_looks given flush_seen looks t) t (looks_keep given slot flush_seen looks t now) now

either_slot : (b : Bool) (s t : TrackKept) (o : Option ℕ) → s.slot ≡ o → t.slot ≡ o → (if b then s else t).slot ≡ o
either_slot true s t o e f = e
either_slot false s t o e f = f

ready_slot : (k : Learnt) (i : ℕ) (s : TrackKept) → (ready k i s).slot ≡ s.slot
unfolding settled_at
ready_slot k i s = let r : TrackKept = noted (slot_reported k s) s in let same = (noted_alike (slot_reported k s) s).slot in either_slot (is_reached (heard k i s).flush_seen r.awaits) _ r s.slot same same

attended_slot : (given : Option ℕ) (k : Learnt) (i : ℕ) (looks : List CommandLook) (s : TrackKept) → (given ≡ s.slot) ⊎ IsOpened s.life → (attended given k i looks s).slot ≡ s.slot
unfolding after_part
attended_slot given k i looks s h =
    let r : TrackKept = ready k i s in
    let slot = ready_slot k i s in
    let first : Keeps given s.slot r = record { is = slot; life = by h } in
    either_slot s.life.ended s (after_part given (heard k i s) looks r) s.slot refl
    (either_slot (is_some r.awaits) r (after_looks given (heard k i s).flush_seen looks r) s.slot slot (looks_keep given s.slot (heard k i s).flush_seen looks r first).is)
  where
    by : (given ≡ s.slot) ⊎ IsOpened s.life → (given ≡ s.slot) ⊎ IsOpened (ready k i s).life
    by (inl same) = inl same
    by (inr opened) = inr (subst IsOpened (sym (ready_life k i s)) opened)

-- ## The turn

slot_turned : (c : Setup) (k : Learnt) (m : NormalKept) (e : Turn) (i : ℕ) → i < length m.tracks → (t : TrackTurned c k m e i) → (t.given ≡ (track_at m.tracks i).slot) ⊎ IsOpened (track_at m.tracks i).life → (track_at (turn_after c k m e).tracks i).slot ≡ (track_at m.tracks i).slot
slot_turned c k m e i lt t h =
    let g : TrackKept = greeted_in m e i in
    let first = greeted_alike e.ack m.last (track_at m.tracks i) in
    let at = attended t.given k i (track_in e i).looks g in
    ap (λ (x : TrackKept). x.slot) t.after ∙ (edited_alike (k.own i) at t.edited t.edit).slot ∙ attended_slot t.given k i (track_in e i).looks g (by h) ∙ first.slot
  where
    by : (t.given ≡ (track_at m.tracks i).slot) ⊎ IsOpened (track_at m.tracks i).life → (t.given ≡ (greeted_in m e i).slot) ⊎ IsOpened (greeted_in m e i).life
    by (inl same) = inl (same ∙ sym (greeted_alike e.ack m.last (track_at m.tracks i)).slot)
    by (inr opened) = inr (subst IsOpened (sym (greeted_alike e.ack m.last (track_at m.tracks i)).life) opened)

-- a turn leaves the slot of a track that was opened
pub slot_stays : (c : Setup) (k : Learnt) (m : NormalKept) (e : Turn) (i : ℕ) → i < length m.tracks → e.ended ≡ false → IsOpened (track_at m.tracks i).life → (track_at (turn_after c k m e).tracks i).slot ≡ (track_at m.tracks i).slot
slot_stays c k m e i lt runs opened = slot_turned c k m e i lt (track_turned c k m e i lt runs) (inr opened)

-- a track that isn't fast never gets a slot
pub slotless_stays : (c : Setup) (k : Learnt) (m : NormalKept) (e : Turn) (i : ℕ) → i < length m.tracks → e.ended ≡ false → (setting_of c i).fast ≡ false → (track_at m.tracks i).slot ≡ None → (track_at (turn_after c k m e).tracks i).slot ≡ None
slotless_stays c k m e i lt runs slow none =
    let t : TrackTurned c k m e i = track_turned c k m e i lt runs in
    let given : t.given ≡ None = t.free ∙ ap (λ (b : Bool). if b then free_slot (tracks_at c k m e i) else None) slow in
    slot_turned c k m e i lt t (inl (given ∙ sym none)) ∙ none
