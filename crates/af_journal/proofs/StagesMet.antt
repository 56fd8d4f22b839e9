-- The stages that a reader meets: words that are due are some, and the submix stands before a slot's words.
use Rattle.std.proofs.Common.{◌≡◌, ℕ, ◌+◌, ◌≤◌, ◌==◌, ◌&&◌, nat_lt, length, Option, Some, None, Bool, true, false, cond, refl, subst, arith}
use Rattle.af_journal.proofs.Common.{count_seen, same_Some, some_is}
use Rattle.af_journal.specs.declared.line.Line.{Line}
use Rattle.af_journal.specs.declared.line.Line.TheVariants as line
use Rattle.af_journal.specs.declared.stage.Stage.{Stage}
use Rattle.af_journal.specs.declared.stage.Stage.TheVariants as stage
use Rattle.af_journal.specs.Lines.{Written, numbers, words}
use Rattle.af_journal.specs.Stages.{after_call, after_clients, after_entry, after_fast, after_line, after_look, after_part, after_shown, after_slot, after_take, after_taken, after_turn, after_words, after_written, comes, if_so, is_call, is_next, is_round, may_be_slot}
use Rattle.af_journal.proofs.Spelled.{guard_some}

-- ## The stages that are met

-- words that are due are some, and the submix stands before a slot's words
abbrev pub IsMet : Stage → Type 0
IsMet (stage.Take due low) = 1 ≤ due
IsMet (stage.Slot due low) = (1 ≤ due) × (1 ≤ low)
IsMet _ = Unit {0}

pub taken-by : (b : Bool) (count track : ℕ) → (count == 0) ≡ b → IsMet (cond b (stage.Takes (track + 1)) (stage.Take count (track + 1)))
taken-by true count track e = tt
taken-by false count track e = some_is count e

pub shown-by : (b : Bool) (count i : ℕ) → (count == 0) ≡ b → IsMet (cond b (stage.Mixed (i + 1)) (stage.Slot count (i + 1)))
shown-by true count i e = tt
shown-by false count i e = (some_is count e, omega arith)

pub looked-by : (b : Bool) (track : ℕ) → IsMet (cond b (stage.Look track) (stage.Turn track 0))
looked-by true track = tt
looked-by false track = tt

-- what is answered under a test is met if it is
pub so_met : (b : Bool) (at next : Stage) → if_so b at ≡ Some next → IsMet at → IsMet next
so_met b at next e met = let g = guard_some b (Some at) next e in subst IsMet (same_Some _ _ g.1) met

pub turn_met : (l : Line) (next : Stage) → after_turn l ≡ Some next → IsMet next
turn_met line.Fast next e = subst IsMet (same_Some _ _ e) tt
turn_met line.Round next e = subst IsMet (same_Some _ _ e) tt
turn_met _ next e = cc

pub clients_met : (tracks low : ℕ) (l : Line) (next : Stage) → after_clients tracks low l ≡ Some next → IsMet next
clients_met tracks low (line.Client track) next e = so_met (is_next tracks low track) (stage.Client (track + 1)) next e tt
clients_met tracks low (line.Turn room ack cycle) next e = subst IsMet (same_Some _ _ e) tt
clients_met tracks low line.Ended next e = subst IsMet (same_Some _ _ e) tt
clients_met tracks low line.Fast next e = turn_met line.Fast next e
clients_met tracks low line.Round next e = turn_met line.Round next e
clients_met tracks low _ next e = cc

pub call_met : (tracks low : ℕ) (l : Line) (next : Stage) → after_call tracks low l ≡ Some next → IsMet next
call_met tracks low (line.Call answer) next e = subst IsMet (same_Some _ _ e) tt
call_met tracks low (line.Client track) next e = clients_met tracks low (line.Client track) next e
call_met tracks low (line.Turn room ack cycle) next e = clients_met tracks low (line.Turn room ack cycle) next e
call_met tracks low line.Ended next e = clients_met tracks low line.Ended next e
call_met tracks low line.Fast next e = turn_met line.Fast next e
call_met tracks low line.Round next e = turn_met line.Round next e
call_met tracks low _ next e = cc

pub part_met : (tracks low part : ℕ) (l : Line) (next : Stage) → after_part tracks low part l ≡ Some next → IsMet next
part_met tracks low part (line.Look track flush rear answer) next e = so_met (nat_lt track tracks && comes track 0 low part) (after_look track answer) next e (looked-by (count_seen answer == 2) track)
part_met tracks low part (line.Disabled track) next e = so_met (nat_lt track tracks && comes track 1 low part) (stage.Turn track 2) next e tt
part_met tracks low part (line.Status track word) next e = so_met (nat_lt track tracks && comes track 2 low part) (stage.Turn (track + 1) 0) next e tt
part_met tracks low part (line.Pushed push) next e = subst IsMet (same_Some _ _ e) tt
part_met tracks low part _ next e = cc

pub take_met : (tracks low : ℕ) (l : Line) (next : Stage) → after_take tracks low l ≡ Some next → IsMet next
take_met tracks low (line.Take track gains flush rear answer) next e = so_met (is_next tracks low track) (after_taken track answer) next e (taken-by (count_seen answer == 0) (count_seen answer) track refl)
take_met tracks low line.Fast next e = turn_met line.Fast next e
take_met tracks low line.Round next e = turn_met line.Round next e
take_met tracks low _ next e = cc

pub entry-by : (b : Bool) → IsMet (cond b (stage.Mixed 0) stage.Entries)
entry-by true = tt
entry-by false = tt

pub fast_met : (l : Line) (next : Stage) → after_fast l ≡ Some next → IsMet next
fast_met (line.Entry state kind) next e = subst IsMet (same_Some _ _ e) (entry-by (kind == 0))
fast_met _ next e = cc

pub entry_met : (l : Line) (next : Stage) → after_entry l ≡ Some next → IsMet next
entry_met line.Round next e = subst IsMet (same_Some _ _ e) tt
entry_met (line.Entry state kind) next e = fast_met (line.Entry state kind) next e
entry_met _ next e = cc

pub not_first : {A : Type 0} (b : Bool) (r : Option A) (y : A) → cond b None r ≡ Some y → r ≡ Some y
not_first true r y e = cc
not_first false r y e = e

pub slot_met : (low : ℕ) (l : Line) (next : Stage) → after_slot low l ≡ Some next → IsMet next
slot_met low (line.Slot i scale mono gains flush rear answer) next e = so_met (may_be_slot low i scale mono gains flush answer) (after_shown i answer) next e (shown-by (count_seen answer == 0) (count_seen answer) i refl)
slot_met low line.Round next e = entry_met line.Round next (not_first (low == 0) (after_entry line.Round) next e)
slot_met low (line.Entry state kind) next e = entry_met (line.Entry state kind) next (not_first (low == 0) (after_entry (line.Entry state kind)) next e)
slot_met low line.Fast next e = entry_met line.Fast next (not_first (low == 0) (after_entry line.Fast) next e)
slot_met low (line.Client track) next e = entry_met (line.Client track) next (not_first (low == 0) (after_entry (line.Client track)) next e)
slot_met low (line.Call answer) next e = entry_met (line.Call answer) next (not_first (low == 0) (after_entry (line.Call answer)) next e)
slot_met low (line.Turn room ack cycle) next e = entry_met (line.Turn room ack cycle) next (not_first (low == 0) (after_entry (line.Turn room ack cycle)) next e)
slot_met low line.Ended next e = entry_met line.Ended next (not_first (low == 0) (after_entry line.Ended) next e)
slot_met low (line.Look track flush rear answer) next e = entry_met (line.Look track flush rear answer) next (not_first (low == 0) (after_entry (line.Look track flush rear answer)) next e)
slot_met low (line.Disabled track) next e = entry_met (line.Disabled track) next (not_first (low == 0) (after_entry (line.Disabled track)) next e)
slot_met low (line.Status track word) next e = entry_met (line.Status track word) next (not_first (low == 0) (after_entry (line.Status track word)) next e)
slot_met low (line.Pushed push) next e = entry_met (line.Pushed push) next (not_first (low == 0) (after_entry (line.Pushed push)) next e)
slot_met low (line.Take track gains flush rear answer) next e = entry_met (line.Take track gains flush rear answer) next (not_first (low == 0) (after_entry (line.Take track gains flush rear answer)) next e)

pub line_met : (tracks : ℕ) (at : Stage) (l : Line) (next : Stage) → after_line tracks at l ≡ Some next → IsMet next
line_met tracks stage.Nothing l next e = so_met (is_round l) (stage.Clients 0) next e tt
line_met tracks (stage.Clients low) l next e = clients_met tracks low l next e
line_met tracks (stage.Calls low) l next e = call_met tracks low l next e
line_met tracks (stage.Client low) l next e = so_met (is_call l) (stage.Calls low) next e tt
line_met tracks (stage.Turn low part) l next e = part_met tracks low part l next e
line_met tracks (stage.Takes low) l next e = take_met tracks low l next e
line_met tracks stage.Turned l next e = turn_met l next e
line_met tracks stage.Fast l next e = fast_met l next e
line_met tracks (stage.Mixed low) l next e = slot_met low l next e
line_met tracks stage.Entries l next e = entry_met l next e
line_met tracks _ l next e = cc

pub words_met : (at : Stage) (count : ℕ) (next : Stage) → after_words at count ≡ Some next → IsMet next
words_met (stage.Look track) count next e = so_met (count == 2) (stage.Turn track 0) next e tt
words_met (stage.Take due low) count next e = so_met (count == due) (stage.Takes low) next e tt
words_met (stage.Slot due low) count next e = so_met (count == due) (stage.Mixed low) next e tt
words_met _ count next e = cc

pub written_met : (tracks : ℕ) (at : Stage) (w : Written) (next : Stage) → after_written tracks at w ≡ Some next → IsMet next
written_met tracks at (numbers l) next e = line_met tracks at l next e
written_met tracks at (words ws) next e = words_met at (length ws) next e
