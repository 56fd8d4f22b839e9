-- The Exit of the normal mixer: it stays in the draft, is pushed once, and ends the mixer when it is seen acknowledged.
use Rattle.std.proofs.Common.{◌≡◌, ℕ, zero, suc, ◌<◌, ◌≤◌, ◌==◌, ◌&&◌, ◌||◌, not, Bool, true, false, true≢false, List, length, is_some, if◌then◌else◌, refl, sym, ap, ◌∙◌, arith, Option}
use Rattle.af_enough_law.proofs.Common.{Busy, Clean, ColdIdle, Command, Exit, FastState, GoesOn, Holder, Home, Learnt, LegalPush, Life, MixWrite, NormalKept, Outside, Push, Pushed, Setup, TrackKept, Turn, acked_len, after_ack, after_edits, after_part, after_push, after_takes, after_tracks, code_of, comes_home, draft_commanded as with_command, edited, edited_to, heard, if_true, commands_exit, is_home, is_lent, is_over, is_pushed, learnt, lend, let_go, list_any, must_enter, must_leave, mutated, next_command, no, ordered, pipe_size, plays, ready, rest_enters, served_len, track_at, track_in, tracks_at, turn_after, welcomed, or_true}
use Rattle.af_enough_law.proofs.Drafts.{is_busy, command_turned}
use Rattle.af_life.specs.Obeys.{slot_for}
use Rattle.af_enough_law.proofs.Ends.{Rests, silent}
use Rattle.af_enough_law.proofs.TrackTurns.{greeted}
use Rattle.af_enough_law.proofs.Following.{greeted_alike}
use Rattle.af_enough_law.proofs.Served.{served_here}

-- ## It stays

exit_by : (exits over heard whole : Bool) → exits ≡ true → (if exits || (over && whole) then Exit else if heard || not whole then MixWrite else ColdIdle) ≡ Exit
exit_by true over heard whole is = refl
exit_by false over heard whole is = no is

exit_next : (exits : Bool) (tracks : List TrackKept) (room size : ℕ) → exits ≡ true → next_command exits tracks room size ≡ Exit
unfolding next_command
exit_next exits tracks room size is = exit_by exits (is_over tracks) (list_any (λ (s : TrackKept). plays s.life) tracks) (room == size) is

pub exit_code : (x : FastState) → code_of x.command ≡ code_of Exit → commands_exit x ≡ true
exit_code x is = ap (λ (n : ℕ). n == code_of Exit) is

-- an Exit stays in the draft
pub exit_stays : (c : Setup) (k : Learnt) (m : NormalKept) (e : Turn) → e.ended ≡ false → commands_exit m.draft ≡ true → commands_exit (turn_after c k m e).draft ≡ true
exit_stays c k m e runs is = exit_code (turn_after c k m e).draft (command_turned c k m e runs ∙ ap (λ (x : Command). code_of x) (exit_next (commands_exit m.draft) (turn_after c k m e).tracks e.room (pipe_size c) is))

-- ## It is pushed once

-- tracks none of which is to be heard or lent are not edited
abbrev pub AreIdle : List TrackKept → Type 0
AreIdle tracks = (i : ℕ) → i < length tracks → (must_leave (track_at tracks i) ≡ false) × (must_enter (track_at tracks i) ≡ false)

edit_none : (c : Setup) (k : Learnt) (i : ℕ) (m : NormalKept) → must_leave (track_at m.tracks i) ≡ false → must_enter (track_at m.tracks i) ≡ false → edited c k i m ≡ m
unfolding edited
edit_none c k i m a b = ap (λ (x : Bool × Bool). if x.0 then let_go i m else if x.1 then lend c i (k.own i) m else m) (λ j. (a j, b j))

pub edits_none : (c : Setup) (k : Learnt) (m : NormalKept) (n : ℕ) → n ≤ length m.tracks → AreIdle m.tracks → edited_to c k m n ≡ m
edits_none c k m zero few idle = refl
edits_none c k m (suc n) few idle =
    let rest = edits_none c k m n (omega (arith, few)) idle in
    let here = idle n (omega (arith, few)) in
    ap (λ (x : NormalKept). edited c k n x) rest ∙ edit_none c k n m here.0 here.1

pub ordered_same : (x : Command) (m : NormalKept) → (code_of x == code_of m.draft.command) ≡ true → ordered x m ≡ m
unfolding ordered
ordered_same x m is = ap (λ (b : Bool). if b then m else record m { draft = with_command x m.draft; dirty = true }) is

-- an Exit that was ordered and pushed is not pushed again
mutated_none : (c : Setup) (k : Learnt) (room : ℕ) (m : NormalKept) → AreIdle m.tracks → commands_exit m.draft ≡ true → mutated c k room m ≡ m
unfolding mutated
mutated_none c k room m idle is =
    let rest = edits_none c k m (length m.tracks) (omega arith) idle in
    ap (λ (x : NormalKept). ordered (next_command (commands_exit x.draft) x.tracks room (pipe_size c)) x) rest
    ∙ ap (λ (x : Command). ordered x m) (exit_next (commands_exit m.draft) m.tracks room (pipe_size c) is) ∙ ordered_same Exit m (flip (code_of m.draft.command) is)
  where
    flip : (n : ℕ) → (n == code_of Exit) ≡ true → (code_of Exit == n) ≡ true
    flip n h = search (arith, h)

pub ack_kept : (ack : Bool) (m : NormalKept) → ((after_ack ack m).draft ≡ m.draft) × ((after_ack ack m).dirty ≡ m.dirty)
ack_kept true m = (refl, refl)
ack_kept false m = (refl, refl)

pub clean_by : (push : Push) (x : NormalKept) → LegalPush x push → x.dirty ≡ false → is_pushed push ≡ false
clean_by (Pushed number) x legal clean = absurd (true≢false (sym legal.0 ∙ clean))
clean_by Clean x legal clean = refl
clean_by (Busy seen expected) x legal clean = refl

pub exit_pushed_once : (c : Setup) (o : Outside) (m : NormalKept) (e : Turn) → GoesOn c o m e → AreIdle (after_tracks c (learnt o) e (after_ack e.ack m)).tracks → commands_exit m.draft ≡ true → m.dirty ≡ false → is_pushed e.push ≡ false
exit_pushed_once c o m e goes idle is clean =
    let x : NormalKept = after_tracks c (learnt o) e (after_ack e.ack m) in
    let kept = ack_kept e.ack m in
    let same : after_edits c (learnt o) e m ≡ x = mutated_none c (learnt o) e.room x idle (ap commands_exit kept.0 ∙ is) in
    clean_by e.push (after_edits c (learnt o) e m) goes.push (ap (λ (y : NormalKept). y.dirty) same ∙ kept.1 ∙ clean)

-- a resting mixer has none to be edited
rest_leaves : (h : Holder) (b : Bool) → is_lent h ≡ false → (is_lent h && b) ≡ false
rest_leaves h b is = ap (λ (x : Bool). x && b) is

greeted_unlent : (ack : Bool) (last : FastState) (s : TrackKept) → is_lent s.holder ≡ false → is_lent (greeted ack last s).holder ≡ false
unfolding welcomed
greeted_unlent false last s is = is
greeted_unlent true last s is = by (comes_home last s)
  where
    by : (b : Bool) → is_lent (if b then record s { holder = Home } else s).holder ≡ false
    by true = refl
    by false = is

pub rests_idle : (c : Setup) (k : Learnt) (m : NormalKept) (e : Turn) → Rests m → AreIdle (after_tracks c k e (after_ack e.ack m)).tracks
rests_idle c k m e rests i lt =
    let long : length (after_tracks c k e (after_ack e.ack m)).tracks ≡ length m.tracks = served_len c k e.tracks (after_ack e.ack m).tracks (length (after_ack e.ack m).tracks) ∙ acked_len e.ack m in
    let lt' : i < length m.tracks = omega (arith, lt, long) in
    let s : TrackKept = track_at m.tracks i in
    let g : TrackKept = greeted e.ack m.last s in
    let over : g.life.ended ≡ true = ap (λ (l : Life). l.ended) (greeted_alike e.ack m.last s).life ∙ rests.over i lt' in
    let given : Option ℕ = slot_for c (tracks_at c k m e i) i in
    let same : track_at (after_tracks c k e (after_ack e.ack m)).tracks i ≡ g = served_here c k e m i lt' ∙ if_true g.life.ended g (after_part given (heard k i g) (track_in e i).looks (ready k i g)) over in (
      ap must_leave same ∙ rest_leaves g.holder (not (plays g.life)) (greeted_unlent e.ack m.last s (rests.none i)),
      ap must_enter same ∙ rest_enters (is_home g.holder) (is_some g.slot) (plays g.life) (silent g.life over),
    )

-- a resting mixer whose Exit was pushed pushes no more
pub exit_still : (c : Setup) (o : Outside) (m : NormalKept) (e : Turn) → GoesOn c o m e → Rests m → commands_exit m.draft ≡ true → m.dirty ≡ false → is_pushed e.push ≡ false
exit_still c o m e goes rests is clean = exit_pushed_once c o m e goes (rests_idle c (learnt o) m e rests) is clean

pub clean_free : (push : Push) (x : NormalKept) → LegalPush x push → x.dirty ≡ false → is_busy push ≡ false
clean_free (Pushed number) x legal clean = refl
clean_free Clean x legal clean = refl
clean_free (Busy seen expected) x legal clean = absurd (true≢false (sym legal.0 ∙ clean))

-- the push of a resting mixer whose Exit was pushed isn't busy
pub exit_free : (c : Setup) (o : Outside) (m : NormalKept) (e : Turn) → GoesOn c o m e → Rests m → commands_exit m.draft ≡ true → m.dirty ≡ false → is_busy e.push ≡ false
exit_free c o m e goes rests is clean =
    let x : NormalKept = after_tracks c (learnt o) e (after_ack e.ack m) in
    let kept = ack_kept e.ack m in
    let same : after_edits c (learnt o) e m ≡ x = mutated_none c (learnt o) e.room x (rests_idle c (learnt o) m e rests) (ap commands_exit kept.0 ∙ is) in
    clean_free e.push (after_edits c (learnt o) e m) goes.push (ap (λ (y : NormalKept). y.dirty) same ∙ kept.1 ∙ clean)

-- ## It ends the mixer

-- the turn that sees an Exit acknowledged ends the mixer
pub ends_turn : (c : Setup) (k : Learnt) (m : NormalKept) (e : Turn) → e.ended ≡ (m.ended || (commands_exit m.last && e.ack)) → commands_exit m.last ≡ true → e.ack ≡ true → (turn_after c k m e).ended ≡ true
unfolding turn_after
ends_turn c k m e ends is ack = by (after_takes c e.mixes (after_push e.push (after_edits c k e m))) e.ended (ends ∙ ap (λ (x : Bool × Bool). m.ended || (x.0 && x.1)) (λ j. (is j, ack j)) ∙ or_true m.ended)
  where
    by : (y : NormalKept) (b : Bool) → b ≡ true → (if b then record m { ended = true } else y).ended ≡ true
    by y true h = refl
    by y false h = no h
