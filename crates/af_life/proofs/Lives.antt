-- The lives that some turns leave are those of the steps that they made.
use Rattle.std.proofs.Common.{◌≡◌, ℕ, zero, suc, ◌<◌, ◌≤◌, Bool, true, false, if◌then◌else◌, true≢false, sym, refl, ap, ◌∙◌, List, [], ◌∷◌, ◌++◌, length, map, fold, inl, inr, arith}
use Rattle.af_life.proofs.Common.{Busy, Clean, CommandLook, FastState, Option, Push, Pushed, TakeSeen, TrackSeen, Turn, cases_eq, get_or-set_other, is_some, length-map, length-set, slice_set}
use Rattle.std.proofs.lemmas.Grind.{get_or-set_at}
use Rattle.af_life.proofs.Basics.{either_life as either_track, ready_life, takes_len}
use Rattle.af_life.specs.declared.track.Life.{Life}
use Rattle.af_life.specs.Commands.{by_command}
use Rattle.af_life.specs.Reports.{by_report}
use Rattle.af_life.specs.declared.kept.Holder.TheVariants.{Home}
use Rattle.af_life.specs.declared.kept.Heard.{Heard}
use Rattle.af_life.specs.declared.kept.TrackKept.{TrackKept}
use Rattle.af_life.specs.Kept.{Setup, asked, NormalKept, Learnt, track_at, new_track, seen_at, track_in}
use Rattle.af_life.specs.Heard.{learnt, heard, ready}
use Rattle.af_life.specs.Obeys.{slot_for, must_wait, shows_command, is_shut, obeyed, after_look, goes_on, after_looks, commanded}
use Rattle.af_life.specs.Serves.{served, served_to, after_commands, after_report, after_part}
use Rattle.af_life.specs.Edits.{comes_home, welcomed, after_ack, must_leave, must_enter, let_go, lend, edited, edited_to, ordered, mutated, after_push}
use Rattle.af_life.specs.Plays.{after_take, after_takes}
use Rattle.af_life.specs.Turn.{after_tracks, after_edits, turn_after}
use Rattle.af_life.specs.TurnEvents.{tracks_at}
use Rattle.af_life.specs.Drained.{LifeStep, told, heard_of, cut, life_of, looks_steps, track_steps, Turned, kept_after, steps_of}

-- the step that a look makes
abbrev pub look_steps : CommandLook → List LifeStep
look_steps look = if shows_command look.seen then told look.code look.argument ∷ [] else if is_shut look.seen then cut ∷ [] else []

abbrev pub life_at : List TrackKept → ℕ → Life
life_at tracks i = (track_at tracks i).life

-- ## What keeps every life

-- of two tracks with one life either has it
either_life : (b : Bool) (s t : TrackKept) → s.life ≡ t.life → (if b then s else t).life ≡ t.life
either_life true s t e = e
either_life false s t e = refl

welcome_keeps : (last : FastState) (tracks : List TrackKept) (i : ℕ) → life_at (map (welcomed last) tracks) i ≡ life_at tracks i
unfolding welcomed
welcome_keeps last [] i = refl
welcome_keeps last (s ∷ tracks) zero = either_life (comes_home last s) (record s { holder = Home }) s refl
welcome_keeps last (s ∷ tracks) (suc i) = welcome_keeps last tracks i

pub ack_keeps : (ack : Bool) (m : NormalKept) (i : ℕ) → life_at (after_ack ack m).tracks i ≡ life_at m.tracks i
ack_keeps true m i = welcome_keeps m.last m.tracks i
ack_keeps false m i = refl

set_keeps : (tracks : List TrackKept) (k : ℕ) (s : TrackKept) (i : ℕ) → s.life ≡ life_at tracks k → life_at (slice_set tracks k s) i ≡ life_at tracks i
set_keeps [] k s i e = refl
set_keeps (x ∷ tracks) zero s zero e = e
set_keeps (x ∷ tracks) zero s (suc i) e = refl
set_keeps (x ∷ tracks) (suc k) s zero e = refl
set_keeps (x ∷ tracks) (suc k) s (suc i) e = set_keeps tracks k s i e

either_keeps : (b : Bool) (m n : NormalKept) (i : ℕ) (l : Life) → life_at m.tracks i ≡ l → life_at n.tracks i ≡ l → life_at (if b then m else n).tracks i ≡ l
either_keeps true m n i l e f = e
either_keeps false m n i l e f = f

edit_keeps : (c : Setup) (k : Learnt) (n : ℕ) (m : NormalKept) (i : ℕ) → life_at (edited c k n m).tracks i ≡ life_at m.tracks i
unfolding edited let_go lend
edit_keeps c k n m i =
    either_keeps (must_leave (track_at m.tracks n)) (let_go n m) _ i _ (set_keeps m.tracks n _ i refl)
    (either_keeps (must_enter (track_at m.tracks n)) (lend c n (k.own n) m) m i _ (set_keeps m.tracks n _ i refl) refl)

edits_keep : (c : Setup) (k : Learnt) (m : NormalKept) (n i : ℕ) → life_at (edited_to c k m n).tracks i ≡ life_at m.tracks i
edits_keep c k m zero i = refl
edits_keep c k m (suc n) i = edit_keeps c k n (edited_to c k m n) i ∙ edits_keep c k m n i

pub mutation_keeps : (c : Setup) (k : Learnt) (room : ℕ) (m : NormalKept) (i : ℕ) → life_at (mutated c k room m).tracks i ≡ life_at m.tracks i
unfolding mutated ordered
mutation_keeps c k room m i = let edits : NormalKept = edited_to c k m (length m.tracks) in
    either_keeps _ edits _ i _ (edits_keep c k m (length m.tracks) i) (edits_keep c k m (length m.tracks) i)

pub push_keeps : (push : Push) (m : NormalKept) (i : ℕ) → life_at (after_push push m).tracks i ≡ life_at m.tracks i
push_keeps (Pushed number) m i = refl
push_keeps Clean m i = refl
push_keeps (Busy seen expected) m i = refl

pub takes_keep : (asked : ℕ) (takes : List TakeSeen) (tracks : List TrackKept) (i : ℕ) → life_at (fold (after_take asked) tracks takes) i ≡ life_at tracks i
takes_keep asked [] tracks i = refl
takes_keep asked (take ∷ takes) tracks i = takes_keep asked takes (after_take asked tracks take) i ∙ set_keeps tracks take.track _ i refl

-- ## What a track's part of the turn makes of its life

-- the same way on both tracks
both_ways : (b : Bool) (s t : TrackKept) (steps more : List LifeStep) → s.life ≡ life_of steps → t.life ≡ life_of more → (if b then s else t).life ≡ life_of (if b then steps else more)
both_ways true s t steps more e f = e
both_ways false s t steps more e f = f

look_step : (given : Option ℕ) (flush_seen : ℕ) (look : CommandLook) (s : TrackKept) (before : List LifeStep) → s.life ≡ life_of before
    → (after_look given flush_seen look s).life ≡ life_of (look_steps look ++ before)
unfolding after_look obeyed by_command
look_step given flush_seen look s before e = by_case (shows_command look.seen) (is_shut look.seen)
  where
    by_case : (b d : Bool) → (if b then obeyed given flush_seen look.code look.argument s else if d then record s { life = record s.life { ended = true; member = false } } else s).life
        ≡ life_of ((if b then told look.code look.argument ∷ [] else if d then cut ∷ [] else []) ++ before)
    by_case true d = either_track (must_wait flush_seen look.code look.argument s.life) _ _ _ (ap (by_command look.code look.argument) e) (ap (by_command look.code look.argument) e)
    by_case false true = ap (λ (l : Life). record l { ended = true; member = false }) e
    by_case false false = e

looks_step : (given : Option ℕ) (flush_seen : ℕ) (looks : List CommandLook) (s : TrackKept) (before : List LifeStep) → s.life ≡ life_of before
    → (after_looks given flush_seen looks s).life ≡ life_of (looks_steps given flush_seen looks s before)
looks_step given flush_seen [] s before e = e
looks_step given flush_seen (look ∷ looks) s before e =
    let t : TrackKept = after_look given flush_seen look s in
    let steps : List LifeStep = look_steps look ++ before in
    let here : t.life ≡ life_of steps = look_step given flush_seen look s before e in
    both_ways (goes_on look t) (after_looks given flush_seen looks t) t (looks_steps given flush_seen looks t steps) steps (looks_step given flush_seen looks t steps here) here

commands_step : (given : Option ℕ) (flush_seen : ℕ) (looks : List CommandLook) (s : TrackKept) (before : List LifeStep) → s.life ≡ life_of before
    → (commanded given flush_seen looks s).life ≡ life_of (if is_some s.awaits then before else looks_steps given flush_seen looks s before)
commands_step given flush_seen looks s before e =
    both_ways (is_some s.awaits) s (after_looks given flush_seen looks s) before (looks_steps given flush_seen looks s before) e (looks_step given flush_seen looks s before e)

-- the life of the track i after its part of the turn is that of its steps
served_step : (c : Setup) (k : Learnt) (looks : List CommandLook) (tracks : List TrackKept) (i : ℕ) (before : List LifeStep) → life_at tracks i ≡ life_of before
    → (served c k looks tracks i).life ≡ life_of (let s = track_at tracks i in let h = heard k i s in let r = ready k i s in
    if s.life.ended then before else heard_of h.known ∷ (if is_some r.awaits then before else looks_steps (slot_for c tracks i) h.flush_seen looks r before))
unfolding served after_part
served_step c k looks tracks i before eq =
    let s : TrackKept = track_at tracks i in
    let r : TrackKept = ready k i s in
    let h : Heard = heard k i s in
    let commands : (after_commands (slot_for c tracks i) h looks r).life ≡ life_of (if is_some r.awaits then before else looks_steps (slot_for c tracks i) h.flush_seen looks r before) =
    commands_step (slot_for c tracks i) h.flush_seen looks r before (ready_life k i s ∙ eq) in
    both_ways s.life.ended s _ before _ eq (ap (by_report h.known) commands)

-- ## All tracks

pub served_len : (c : Setup) (k : Learnt) (turns : List TrackSeen) (tracks : List TrackKept) (n : ℕ) → length (served_to c k turns tracks n) ≡ length tracks
served_len c k turns tracks zero = refl
served_len c k turns tracks (suc n) = length-set (served_to c k turns tracks n) n _ ∙ served_len c k turns tracks n

-- a track is as it was until it is served
pub not_yet : (c : Setup) (k : Learnt) (turns : List TrackSeen) (tracks : List TrackKept) (n i : ℕ) → n ≤ i → track_at (served_to c k turns tracks n) i ≡ track_at tracks i
not_yet c k turns tracks zero i le = refl
not_yet c k turns tracks (suc n) i le = get_or-set_other (served_to c k turns tracks n) n i _ _ (λ h. absurd (omega arith)) ∙ not_yet c k turns tracks n i (omega arith)

-- and stays from then on
from_then : (c : Setup) (k : Learnt) (turns : List TrackSeen) (tracks : List TrackKept) (n i : ℕ) → i < n → n ≤ length tracks → track_at (served_to c k turns tracks n) i ≡ served c k (seen_at turns i).looks (served_to c k turns tracks i) i
from_then c k turns tracks zero i lt le = absurd (omega arith)
from_then c k turns tracks (suc n) i lt le = elim (cases_eq i n) as (λ x. track_at (slice_set (served_to c k turns tracks n) n (served c k (seen_at turns n).looks (served_to c k turns tracks n) n)) i ≡ served c k (seen_at turns i).looks (served_to c k turns tracks i) i) [
  | inl p ↦ get_or-set_at (served_to c k turns tracks n) n i (served c k (seen_at turns n).looks (served_to c k turns tracks n) n) new_track p (let l : length (served_to c k turns tracks n) ≡ length tracks = served_len c k turns tracks n in omega arith)
      ∙ ap (λ (j : ℕ). served c k (seen_at turns j).looks (served_to c k turns tracks j) j) (sym p)
  | inr other ↦ get_or-set_other (served_to c k turns tracks n) n i (served c k (seen_at turns n).looks (served_to c k turns tracks n) n) new_track other ∙ from_then c k turns tracks n i (omega arith) (omega arith)
]

-- the life of the track i after all were served, with the steps that it made before
tracks_step : (c : Setup) (k : Learnt) (turns : List TrackSeen) (tracks : List TrackKept) (i : ℕ) (before : List LifeStep) → i < length tracks → life_at tracks i ≡ life_of before
    → life_at (served_to c k turns tracks (length tracks)) i ≡ life_of (let all = served_to c k turns tracks i in let s = track_at all i in let h = heard k i s in let r = ready k i s in
    if s.life.ended then before else heard_of h.known ∷ (if is_some r.awaits then before else looks_steps (slot_for c all i) h.flush_seen (seen_at turns i).looks r before))
tracks_step c k turns tracks i before lt eq =
    ap (λ (s : TrackKept). s.life) (from_then c k turns tracks (length tracks) i lt (omega arith))
    ∙ served_step c k (seen_at turns i).looks (served_to c k turns tracks i) i before (ap (λ (s : TrackKept). s.life) (not_yet c k turns tracks i i (omega arith)) ∙ eq)

pub acked_len : (ack : Bool) (m : NormalKept) → length (after_ack ack m).tracks ≡ length m.tracks
acked_len true m = length-map m.tracks (welcomed m.last)
acked_len false m = refl

-- the life of the track i after a turn
turn_step : (c : Setup) (k : Learnt) (m : NormalKept) (e : Turn) (i : ℕ) (before : List LifeStep) → i < length m.tracks → life_at m.tracks i ≡ life_of before
    → life_at (turn_after c k m e).tracks i ≡ life_of (track_steps c k m e i before)
unfolding turn_after track_steps
turn_step c k m e i before lt eq = on e.ended
  where
    acked : NormalKept
    acked = after_ack e.ack m

    here : i < length acked.tracks
    here = let l : length (after_ack e.ack m).tracks ≡ length m.tracks = acked_len e.ack m in omega arith

    steps : List LifeStep
    steps = let all = tracks_at c k m e i in let s = track_at all i in let h = heard k i s in let r = ready k i s in
        if s.life.ended then before else heard_of h.known ∷ (if is_some r.awaits then before else looks_steps (slot_for c all i) h.flush_seen (track_in e i).looks r before)

    goes : life_at (after_takes c e.mixes (after_push e.push (after_edits c k e m))).tracks i ≡ life_of steps
    goes = takes_keep (asked c) e.mixes (after_push e.push (after_edits c k e m)).tracks i ∙ push_keeps e.push (after_edits c k e m) i
        ∙ mutation_keeps c k e.room (after_tracks c k e acked) i ∙ tracks_step c k e.tracks acked.tracks i before here (ack_keeps e.ack m i ∙ eq)

    on : (b : Bool) → life_at (if b then record m { ended = true } else after_takes c e.mixes (after_push e.push (after_edits c k e m))).tracks i ≡ life_of (if b then before else steps)
    on true = eq
    on false = goes

-- ## No turn changes the number of tracks

either_len : (b : Bool) (m n : NormalKept) (k : ℕ) → length m.tracks ≡ k → length n.tracks ≡ k → length (if b then m else n).tracks ≡ k
either_len true m n k e f = e
either_len false m n k e f = f

pub edits_len : (c : Setup) (k : Learnt) (m : NormalKept) (n : ℕ) → length (edited_to c k m n).tracks ≡ length m.tracks
unfolding edited let_go lend
edits_len c k m zero = refl
edits_len c k m (suc n) = let edits : NormalKept = edited_to c k m n in
    either_len (must_leave (track_at edits.tracks n)) (let_go n edits) _ (length m.tracks) (length-set edits.tracks n _ ∙ edits_len c k m n)
    (either_len (must_enter (track_at edits.tracks n)) (lend c n (k.own n) edits) edits (length m.tracks) (length-set edits.tracks n _ ∙ edits_len c k m n) (edits_len c k m n))

pub mutation_len : (c : Setup) (k : Learnt) (room : ℕ) (m : NormalKept) → length (mutated c k room m).tracks ≡ length m.tracks
unfolding mutated ordered
mutation_len c k room m = let edits : NormalKept = edited_to c k m (length m.tracks) in
    either_len _ edits _ (length m.tracks) (edits_len c k m (length m.tracks)) (edits_len c k m (length m.tracks))

pub push_len : (push : Push) (m : NormalKept) → length (after_push push m).tracks ≡ length m.tracks
push_len (Pushed number) m = refl
push_len Clean m = refl
push_len (Busy seen expected) m = refl

pub turn_len : (c : Setup) (k : Learnt) (m : NormalKept) (e : Turn) → length (turn_after c k m e).tracks ≡ length m.tracks
unfolding turn_after
turn_len c k m e = either_len e.ended (record m { ended = true }) _ (length m.tracks) refl
    (takes_len (asked c) e.mixes (after_push e.push (after_edits c k e m)).tracks ∙ push_len e.push (after_edits c k e m)
    ∙ mutation_len c k e.room (after_tracks c k e (after_ack e.ack m)) ∙ served_len c k e.tracks (after_ack e.ack m).tracks (length (after_ack e.ack m).tracks) ∙ acked_len e.ack m)

pub turns_len : (c : Setup) (m : NormalKept) (turns : List Turned) → length (kept_after c m turns).tracks ≡ length m.tracks
turns_len c m [] = refl
turns_len c m (t ∷ turns) = turn_len c (learnt t.0) (kept_after c m turns) t.1 ∙ turns_len c m turns

-- the life of the track i after some turns is that of the steps that it made in them
pub lives_are : (c : Setup) (m : NormalKept) (turns : List Turned) (i : ℕ) → i < length m.tracks → life_at m.tracks i ≡ life_of [] → life_at (kept_after c m turns).tracks i ≡ life_of (steps_of c m turns i)
lives_are c m [] i lt eq = eq
lives_are c m (t ∷ turns) i lt eq =
    turn_step c (learnt t.0) (kept_after c m turns) t.1 i (steps_of c m turns i) (let l : length (kept_after c m turns).tracks ≡ length m.tracks = turns_len c m turns in omega arith) (lives_are c m turns i lt eq)

-- neither way out is taken
gone_on : (b d : Bool) (steps more : List LifeStep) → b ≡ false → d ≡ false → life_of (if b then steps else if d then steps else more) ≡ life_of more
gone_on true d steps more e f = absurd (true≢false e)
gone_on false true steps more e f = absurd (true≢false f)
gone_on false false steps more e f = refl

-- the life of the track i after the report is that of its steps
pub report_step : (c : Setup) (k : Learnt) (m : NormalKept) (e : Turn) (i : ℕ) (before : List LifeStep) → let tracks = tracks_at c k m e i in let s = track_at tracks i in e.ended ≡ false → s.life.ended ≡ false
    → life_at m.tracks i ≡ life_of before → (after_report (slot_for c tracks i) (heard k i s) (track_in e i).looks (ready k i s)).life ≡ life_of (track_steps c k m e i before)
unfolding track_steps
report_step c k m e i before runs lives eq =
    let tracks : List TrackKept = tracks_at c k m e i in
    let s : TrackKept = track_at tracks i in
    let r : TrackKept = ready k i s in
    let here : s.life ≡ life_of before = ap (λ (s : TrackKept). s.life) (not_yet c k e.tracks (after_ack e.ack m).tracks i i (omega arith)) ∙ ack_keeps e.ack m i ∙ eq in
    ap (by_report (heard k i s).known) (commands_step (slot_for c tracks i) (heard k i s).flush_seen (track_in e i).looks r before (ready_life k i s ∙ here))
    ∙ sym (gone_on e.ended s.life.ended before _ runs lives)
