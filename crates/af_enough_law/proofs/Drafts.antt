-- What a turn makes of the holders, the draft and the pushes.
use Rattle.std.proofs.Common.{◌≡◌, ◌⊎◌, inl, inr, ℕ, zero, suc, ◌+◌, ◌<◌, ◌==◌, ◌&&◌, ◌||◌, not, Bool, true, false, List, [], ◌∷◌, length, fold, refl, sym, ap, ◌∙◌, subst, arith, true≢false, Option, Some, None, is_some, if◌then◌else◌}
use Rattle.af_enough_law.proofs.Common.{Busy, Clean, ColdIdle, Command, CommandLook, Exit, FastState, GoesOn, Heard, Holder, Home, Learnt, LegalPush, Lent, Life, MixWrite, NormalKept, Outside, Push, Pushed, Returning, Setup, SlotReport, TakeSeen, TrackKept, Turn, after_ack, after_edits, after_look, after_looks, after_part, after_push, after_take, after_takes, after_tracks, asked as buffer, by_test, code_of, draft_commanded as with_command, look_counted, counts_in, edited, edited_to, ended, goes_on, heard, commands_exit, is_home, is_lent, is_over, is_reached, is_reported, is_shut, learnt, lend, let_go, list_any, must_enter, must_leave, must_wait, mutated, next_command, no, no_counts, noted, obeyed, ordered, pipe_size, plays, push_draft, push_tracks, ready, settled_at, shows_command, slice_set, slot_reported, told, track_at, track_in, turn_after}
use Rattle.af_enough_law.proofs.TrackTurns.{attended, Edited, stays, leaves, enters, TrackTurned}
use Rattle.af_enough_law.proofs.Served.{track_turned, ordered_tracks}
use Rattle.af_enough_law.proofs.Following.{greeted_in}

-- who has the stream proxy of a track after the edits, by whether the track is to be heard and has a slot
abbrev pub next_holder : Bool → Bool → Holder → Holder
next_holder heard slot Home = if slot && heard then Lent else Home
next_holder heard slot Lent = if heard then Lent else Returning
next_holder heard slot Returning = Returning

-- if nothing is to be pushed, the draft is the last state pushed
abbrev pub IsLatest : NormalKept → Type 0
IsLatest m = m.dirty ≡ false → m.last ≡ m.draft

abbrev pub is_busy : Push → Bool
is_busy (Busy seen expected) = true
is_busy _ = false

-- the push that a turn made: nothing is left to be pushed, or it was busy, and the last state pushed wasn't seen acknowledged
pub record PushMade (before after : NormalKept) (push : Push) : Type 0 where
  pub done : is_busy push ≡ false → (after.dirty ≡ false) × (after.last ≡ after.draft)
  pub busy : is_busy push ≡ true → (after.dirty ≡ true) × (0 < before.pushed) × (after.pushed ≡ before.pushed) × (after.last ≡ before.last)
  pub latest : IsLatest after
  pub number : (after.pushed ≡ before.pushed) ⊎ (after.pushed ≡ before.pushed + 1)

-- ## The holders

next_is : (h : Holder) (slot heard : Bool) → (is_lent h && not heard) ≡ false → (is_home h && (slot && heard)) ≡ false → h ≡ next_holder heard slot h
next_is Home slot heard a b = ap (λ (x : Bool). if x then Lent else Home) (sym b)
next_is Lent slot true a b = refl
next_is Lent slot false a b = absurd (true≢false a)
next_is Returning slot heard a b = refl

next_gone : (h : Holder) (slot heard : Bool) → (is_lent h && not heard) ≡ true → Returning ≡ next_holder heard slot h
next_gone Home slot heard a = no a
next_gone Lent slot true a = no a
next_gone Lent slot false a = refl
next_gone Returning slot heard a = no a

next_come : (h : Holder) (slot heard : Bool) → (is_home h && (slot && heard)) ≡ true → Lent ≡ next_holder heard slot h
next_come Home slot heard a = ap (λ (x : Bool). if x then Lent else Home) (sym a)
next_come Lent slot heard a = no a
next_come Returning slot heard a = no a

edited_holder : (own : Heard) (s t : TrackKept) → Edited own s t → t.holder ≡ next_holder (plays t.life) (is_some t.slot) s.holder
edited_holder own s t (stays a b) = next_is s.holder (is_some s.slot) (plays s.life) a b
edited_holder own s t (leaves a) = next_gone s.holder (is_some s.slot) (plays s.life) a
edited_holder own s t (enters draft a) = next_come s.holder (is_some s.slot) (plays s.life) a

-- a track's part of the turn leaves it with whoever has it
either_holder : (b : Bool) (s t : TrackKept) (h : Holder) → s.holder ≡ h → t.holder ≡ h → (if b then s else t).holder ≡ h
either_holder true s t h e f = e
either_holder false s t h e f = f

look_holder : (given : Option ℕ) (flush_seen : ℕ) (look : CommandLook) (s : TrackKept) → (after_look given flush_seen look s).holder ≡ s.holder
unfolding after_look obeyed
look_holder given flush_seen look s = either_holder (shows_command look.seen) (if must_wait flush_seen look.code look.argument s.life then record (told given look.code look.argument s) { awaits = Some look.argument } else record (told given look.code look.argument s) { settled = (told given look.code look.argument s).settled + 1 }) (if is_shut look.seen then ended s else s) s.holder
    (either_holder (must_wait flush_seen look.code look.argument s.life) (record (told given look.code look.argument s) { awaits = Some look.argument }) (record (told given look.code look.argument s) { settled = (told given look.code look.argument s).settled + 1 }) s.holder refl refl)
    (either_holder (is_shut look.seen) (ended s) s s.holder refl refl)

looks_holder : (given : Option ℕ) (flush_seen : ℕ) (looks : List CommandLook) (s : TrackKept) → (after_looks given flush_seen looks s).holder ≡ s.holder
looks_holder given flush_seen [] s = refl
looks_holder given flush_seen (look ∷ looks) s = let t : TrackKept = after_look given flush_seen look s in
    either_holder (goes_on look t) (after_looks given flush_seen looks t) t s.holder (looks_holder given flush_seen looks t ∙ look_holder given flush_seen look s) (look_holder given flush_seen look s)

noted_holder : (r : SlotReport) (s : TrackKept) → (noted r s).holder ≡ s.holder
unfolding noted
noted_holder r s = either_holder (is_home s.holder) (record s { own = no_counts }) (if is_reported r s then record s { reported = counts_in r } else s) s.holder refl (either_holder (is_reported r s) (record s { reported = counts_in r }) s s.holder refl refl)

ready_holder : (k : Learnt) (i : ℕ) (s : TrackKept) → (ready k i s).holder ≡ s.holder
unfolding settled_at
ready_holder k i s = let t : TrackKept = noted (slot_reported k s) s in
    either_holder (is_reached (heard k i s).flush_seen t.awaits) (record t { awaits = None; settled = t.settled + 1 }) t s.holder (noted_holder (slot_reported k s) s) (noted_holder (slot_reported k s) s)

pub attended_holder : (given : Option ℕ) (k : Learnt) (i : ℕ) (looks : List CommandLook) (s : TrackKept) → (attended given k i looks s).holder ≡ s.holder
unfolding after_part
attended_holder given k i looks s = let r : TrackKept = ready k i s in
    either_holder s.life.ended s (after_part given (heard k i s) looks r) s.holder refl
    (either_holder (is_some r.awaits) r (after_looks given (heard k i s).flush_seen looks r) s.holder (ready_holder k i s) (looks_holder given (heard k i s).flush_seen looks r ∙ ready_holder k i s))

-- who has the stream proxy of a track after a turn, by whether it is then to be heard and has a slot
pub holder_turned : (c : Setup) (k : Learnt) (m : NormalKept) (e : Turn) (i : ℕ) → i < length m.tracks → e.ended ≡ false
    → (let t = track_at (turn_after c k m e).tracks i in t.holder ≡ next_holder (plays t.life) (is_some t.slot) (greeted_in m e i).holder)
holder_turned c k m e i lt runs =
    let t : TrackTurned c k m e i = track_turned c k m e i lt runs in
    let s : TrackKept = attended t.given k i (track_in e i).looks (greeted_in m e i) in
    let held : s.holder ≡ (greeted_in m e i).holder = attended_holder t.given k i (track_in e i).looks (greeted_in m e i) in
    subst (λ (x : TrackKept). x.holder ≡ next_holder (plays x.life) (is_some x.slot) (greeted_in m e i).holder) (sym t.after)
    (edited_holder (k.own i) s t.edited t.edit ∙ ap (next_holder (plays t.edited.life) (is_some t.edited.slot)) held)

-- ## The command

edit_command : (c : Setup) (k : Learnt) (i : ℕ) (m : NormalKept) → (edited c k i m).draft.command ≡ m.draft.command
unfolding edited let_go lend
edit_command c k i m = by_test (λ (n : NormalKept). n.draft.command ≡ m.draft.command) (must_leave (track_at m.tracks i)) (let_go i m) (if must_enter (track_at m.tracks i) then lend c i (k.own i) m else m) (λ e. refl)
    (λ e. by_test (λ (n : NormalKept). n.draft.command ≡ m.draft.command) (must_enter (track_at m.tracks i)) (lend c i (k.own i) m) m (λ f. refl) (λ f. refl))

edits_command : (c : Setup) (k : Learnt) (m : NormalKept) (n : ℕ) → (edited_to c k m n).draft.command ≡ m.draft.command
edits_command c k m zero = refl
edits_command c k m (suc n) = edit_command c k n (edited_to c k m n) ∙ edits_command c k m n

pub ordered_code : (command : Command) (m : NormalKept) → code_of (ordered command m).draft.command ≡ code_of command
unfolding ordered
ordered_code command m = by_test (λ (n : NormalKept). code_of n.draft.command ≡ code_of command) (code_of command == code_of m.draft.command) m (record m { draft = with_command command m.draft; dirty = true })
    (λ e. sym (search (arith, e))) (λ e. refl)

-- the mix changes nothing of who is to be heard, and whether all is over
take_any : (tracks : List TrackKept) (n : ℕ) (s : TrackKept) → s.life ≡ (track_at tracks n).life → s.holder ≡ (track_at tracks n).holder
    → (list_any (λ (s : TrackKept). plays s.life) (slice_set tracks n s) ≡ list_any (λ (s : TrackKept). plays s.life) tracks) × (is_over (slice_set tracks n s) ≡ is_over tracks)
take_any [] n s e f = (refl, refl)
take_any (t ∷ tracks) zero s e f = (ap (λ (l : Life). plays l || list_any (λ (s : TrackKept). plays s.life) tracks) e, (λ i. ((e i).ended && is_home (f i)) && is_over tracks))
take_any (t ∷ tracks) (suc n) s e f = let more = take_any tracks n s e f in (ap (λ (b : Bool). plays t.life || b) more.0, ap (λ (b : Bool). (t.life.ended && is_home t.holder) && b) more.1)

takes_any : (asked : ℕ) (takes : List TakeSeen) (tracks : List TrackKept)
    → (list_any (λ (s : TrackKept). plays s.life) (fold (after_take asked) tracks takes) ≡ list_any (λ (s : TrackKept). plays s.life) tracks) × (is_over (fold (after_take asked) tracks takes) ≡ is_over tracks)
takes_any asked [] tracks = (refl, refl)
takes_any asked (take ∷ takes) tracks = let more = takes_any asked takes (after_take asked tracks take) in let one = take_any tracks take.track (record (track_at tracks take.track) { own = look_counted asked take.slot.seen (track_at tracks take.track).own }) refl refl in
    (more.0 ∙ one.0, more.1 ∙ one.1)

abbrev by_facts : Bool → Bool → Bool → Bool → Command
by_facts whole exits over heard = if exits || (over && whole) then Exit else if heard || not whole then MixWrite else ColdIdle

-- The command of the draft after a turn follows from the tracks that it leaves: an Exit stays; it comes if all is over and the pipe has all its room; else a mix if a track is to be heard or the pipe isn't empty
pub command_turned : (c : Setup) (k : Learnt) (m : NormalKept) (e : Turn) → e.ended ≡ false
    → code_of (turn_after c k m e).draft.command ≡ code_of (next_command (commands_exit m.draft) (turn_after c k m e).tracks e.room (pipe_size c))
unfolding turn_after mutated next_command
command_turned c k m e runs =
    subst (λ (b : Bool). let n = if b then record m { ended = true } else after_takes c e.mixes (after_push e.push (after_edits c k e m)) in code_of n.draft.command ≡ code_of (next_command (commands_exit m.draft) n.tracks e.room (pipe_size c))) (sym runs) goes
  where
    served_m : NormalKept
    served_m = after_tracks c k e (after_ack e.ack m)

    edits_m : NormalKept
    edits_m = edited_to c k served_m (length served_m.tracks)

    ack_draft : (ack : Bool) → (after_ack ack m).draft ≡ m.draft
    ack_draft true = refl
    ack_draft false = refl

    exit_same : commands_exit edits_m.draft ≡ commands_exit m.draft
    exit_same = ap (λ (x : Command). code_of x == code_of Exit) (edits_command c k served_m (length served_m.tracks)) ∙ ap commands_exit (ack_draft e.ack)

    pushed : (after_push e.push (after_edits c k e m)).tracks ≡ edits_m.tracks
    pushed = push_tracks e.push (after_edits c k e m) ∙ ordered_tracks c k e.room served_m

    takes_same : (list_any (λ (s : TrackKept). plays s.life) (fold (after_take (buffer c)) (after_push e.push (after_edits c k e m)).tracks e.mixes) ≡ list_any (λ (s : TrackKept). plays s.life) (after_push e.push (after_edits c k e m)).tracks) × (is_over (fold (after_take (buffer c)) (after_push e.push (after_edits c k e m)).tracks e.mixes) ≡ is_over (after_push e.push (after_edits c k e m)).tracks)
    takes_same = takes_any (buffer c) e.mixes (after_push e.push (after_edits c k e m)).tracks

    heard_same : list_any (λ (s : TrackKept). plays s.life) (fold (after_take (buffer c)) (after_push e.push (after_edits c k e m)).tracks e.mixes) ≡ list_any (λ (s : TrackKept). plays s.life) edits_m.tracks
    heard_same = takes_same.0 ∙ ap (λ (xs : List TrackKept). list_any (λ (s : TrackKept). plays s.life) xs) pushed

    over_same : is_over (fold (after_take (buffer c)) (after_push e.push (after_edits c k e m)).tracks e.mixes) ≡ is_over edits_m.tracks
    over_same = takes_same.1 ∙ ap is_over pushed

    goes : code_of (after_push e.push (after_edits c k e m)).draft.command ≡ code_of (next_command (commands_exit m.draft) (after_takes c e.mixes (after_push e.push (after_edits c k e m))).tracks e.room (pipe_size c))
    goes = ap (λ (x : FastState). code_of x.command) (push_draft e.push (after_edits c k e m))
        ∙ ordered_code (next_command (commands_exit edits_m.draft) edits_m.tracks e.room (pipe_size c)) edits_m
        ∙ (λ i. code_of (by_facts (e.room == pipe_size c) (exit_same i) (sym over_same i) (sym heard_same i)))

-- ## The pushes

edit_latest : (c : Setup) (k : Learnt) (i : ℕ) (m : NormalKept) → IsLatest m → IsLatest (edited c k i m)
unfolding edited let_go lend
edit_latest c k i m h = by_test IsLatest (must_leave (track_at m.tracks i)) (let_go i m) (if must_enter (track_at m.tracks i) then lend c i (k.own i) m else m) (λ e f. absurd (true≢false f))
    (λ e. by_test IsLatest (must_enter (track_at m.tracks i)) (lend c i (k.own i) m) m (λ g f. absurd (true≢false f)) (λ f. h))

edits_latest : (c : Setup) (k : Learnt) (m : NormalKept) (n : ℕ) → IsLatest m → IsLatest (edited_to c k m n)
edits_latest c k m zero h = h
edits_latest c k m (suc n) h = edit_latest c k n (edited_to c k m n) (edits_latest c k m n h)

ordered_latest : (command : Command) (m : NormalKept) → IsLatest m → IsLatest (ordered command m)
unfolding ordered
ordered_latest command m h = by_test IsLatest (code_of command == code_of m.draft.command) m (record m { draft = with_command command m.draft; dirty = true }) (λ e. h) (λ e f. absurd (true≢false f))

edit_pushes : (c : Setup) (k : Learnt) (i : ℕ) (m : NormalKept) → ((edited c k i m).pushed ≡ m.pushed) × ((edited c k i m).last ≡ m.last)
unfolding edited let_go lend
edit_pushes c k i m = by_test (λ (n : NormalKept). (n.pushed ≡ m.pushed) × (n.last ≡ m.last)) (must_leave (track_at m.tracks i)) (let_go i m) (if must_enter (track_at m.tracks i) then lend c i (k.own i) m else m) (λ e. (refl, refl))
    (λ e. by_test (λ (n : NormalKept). (n.pushed ≡ m.pushed) × (n.last ≡ m.last)) (must_enter (track_at m.tracks i)) (lend c i (k.own i) m) m (λ f. (refl, refl)) (λ f. (refl, refl)))

edits_pushes : (c : Setup) (k : Learnt) (m : NormalKept) (n : ℕ) → ((edited_to c k m n).pushed ≡ m.pushed) × ((edited_to c k m n).last ≡ m.last)
edits_pushes c k m zero = (refl, refl)
edits_pushes c k m (suc n) = let now = edit_pushes c k n (edited_to c k m n) in let before = edits_pushes c k m n in (now.0 ∙ before.0, now.1 ∙ before.1)

ordered_pushes : (command : Command) (m : NormalKept) → ((ordered command m).pushed ≡ m.pushed) × ((ordered command m).last ≡ m.last)
unfolding ordered
ordered_pushes command m = by_test (λ (n : NormalKept). (n.pushed ≡ m.pushed) × (n.last ≡ m.last)) (code_of command == code_of m.draft.command) m (record m { draft = with_command command m.draft; dirty = true }) (λ e. (refl, refl)) (λ e. (refl, refl))

ack_latest : (ack : Bool) (m : NormalKept) → IsLatest m → IsLatest (after_ack ack m)
ack_latest true m h = h
ack_latest false m h = h

ack_pushes : (ack : Bool) (m : NormalKept) → ((after_ack ack m).pushed ≡ m.pushed) × ((after_ack ack m).last ≡ m.last)
ack_pushes true m = (refl, refl)
ack_pushes false m = (refl, refl)

after_latest : (c : Setup) (k : Learnt) (e : Turn) (m : NormalKept) → IsLatest m → IsLatest (after_edits c k e m)
unfolding mutated
after_latest c k e m h = let x : NormalKept = after_tracks c k e (after_ack e.ack m) in ordered_latest _ (edited_to c k x (length x.tracks)) (edits_latest c k x (length x.tracks) (ack_latest e.ack m h))

pub after_pushes : (c : Setup) (k : Learnt) (e : Turn) (m : NormalKept) → ((after_edits c k e m).pushed ≡ m.pushed) × ((after_edits c k e m).last ≡ m.last)
unfolding mutated
after_pushes c k e m = let x : NormalKept = after_tracks c k e (after_ack e.ack m) in
    let o = ordered_pushes (next_command (commands_exit (edited_to c k x (length x.tracks)).draft) (edited_to c k x (length x.tracks)).tracks e.room (pipe_size c)) (edited_to c k x (length x.tracks)) in
    let ed = edits_pushes c k x (length x.tracks) in
    let a = ack_pushes e.ack m in (o.0 ∙ ed.0 ∙ a.0, o.1 ∙ ed.1 ∙ a.1)

push_made : (push : Push) (x : NormalKept) → IsLatest x → LegalPush x push → PushMade x (after_push push x) push
push_made (Pushed number) x h l = record { done = (λ e. (refl, refl)); busy = no; latest = (λ e. refl); number = inr refl }
push_made Clean x h l = record { done = (λ e. (l, h l)); busy = no; latest = h; number = inl refl }
push_made (Busy seen expected) x h l = record { done = (λ e. absurd (true≢false e)); busy = (λ e. (l.0, l.1, refl, refl)); latest = h; number = inl refl }

-- What a legal turn pushes: if its push wasn't busy, nothing is left to be pushed, and the draft that it leaves is the last state pushed
pub turn_pushes : (c : Setup) (o : Outside) (m : NormalKept) (e : Turn) → e.ended ≡ false → GoesOn c o m e → IsLatest m → PushMade m (turn_after c (learnt o) m e) e.push
unfolding turn_after
turn_pushes c o m e runs goes h =
    let k : Learnt = learnt o in
    let x : NormalKept = after_edits c k e m in
    let p = push_made e.push x (after_latest c k e m h) goes.push in
    let same = after_pushes c k e m in
    subst (λ (b : Bool). PushMade m (if b then record m { ended = true } else after_takes c e.mixes (after_push e.push x)) e.push) (sym runs) (record {
      done = p.done;
      busy = (λ b. let q = p.busy b in (q.0, (let a = q.1 in let s = same.0 in omega arith), q.2 ∙ same.0, q.3 ∙ same.1));
      latest = p.latest;
      number = elim p.number as (λ q. ((after_push e.push x).pushed ≡ m.pushed) ⊎ ((after_push e.push x).pushed ≡ m.pushed + 1)) [ inl a ↦ inl (a ∙ same.0) | inr a ↦ inr (a ∙ ap (λ (n : ℕ). n + 1) same.0) ];
    })
