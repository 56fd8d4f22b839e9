-- A client: what it wants next, by its ops, and what each answer of its proxies makes of it.
use Rattle.std.specs.Prelude.{ℕ, ◌-◌, ◌/◌, ◌%◌, ◌==◌, ◌&&◌, ◌||◌, nat_le, not, Bool, true, false, if◌then◌else◌, List, [], ◌∷◌, drop, Option, Some, None, bit_and}
use Rattle.af_base.specs.declared.event.ClientCall.{ClientCall}
use Rattle.af_base.specs.declared.event.ClientCall.TheVariants as call
use Rattle.af_script.specs.declared.op.Op.{Op}
use Rattle.af_script.specs.declared.op.Op.TheVariants as op
use Rattle.af_life.specs.declared.command.TheConstants.{OPEN, START, PAUSE, STOP, FLUSH, REMOVE}
use Rattle.af_runs.specs.declared.want.ClientCommand.{ClientCommand}
use Rattle.af_runs.specs.declared.want.ClientCommand.TheVariants as command
use Rattle.af_runs.specs.declared.want.Mode.{Mode}
use Rattle.af_runs.specs.declared.want.Mode.TheVariants as mode
use Rattle.af_runs.specs.declared.want.Want.{Want}
use Rattle.af_runs.specs.declared.want.Want.TheVariants as want
use Rattle.af_runs.specs.declared.want.Due.{Due}
use Rattle.af_runs.specs.declared.want.Due.TheVariants as due

-- a client: what is left of the op in work, the ops after it, the mode, whether the turn waits for the other parties, and whether the client has ended
pub record Client : Type 0 where
  pub due : List Want
  pub ops : List Op
  pub mode : Mode
  pub waiting : Bool
  pub ended : Bool

-- a client that has done nothing
abbrev pub new_client : List Op → Client
new_client ops = record { due = []; ops = ops; mode = mode.Idle; waiting = false; ended = false }

-- the code of a command
abbrev pub command_code : ClientCommand → ℕ
command_code command.Open = OPEN
command_code command.Start = START
command_code command.Pause = PAUSE
command_code command.Stop = STOP
command_code command.Flush = FLUSH
command_code command.Remove = REMOVE

-- ## What an op wants

abbrev pub is_active : Mode → Bool
is_active mode.Active = true
is_active _ = false

abbrev pub is_stopped : Mode → Bool
is_stopped mode.Stopped = true
is_stopped _ = false

-- a STOP is sent of a track that plays or is paused
abbrev pub is_stoppable : Mode → Bool
is_stoppable mode.Active = true
is_stoppable mode.Paused = true
is_stoppable _ = false

-- what an op wants in a mode, in this order. An op that wants nothing is done at once
abbrev pub wants_of : Mode → Op → List Want
wants_of m op.OpenTrack = want.Send command.Open ∷ []
wants_of m op.Start = if not (is_active m) then want.Send command.Start ∷ want.Settled ∷ [] else []
wants_of m op.Pause = if is_active m then want.Send command.Pause ∷ [] else []
wants_of m op.Stop = if is_stoppable m then want.Send command.Stop ∷ [] else []
wants_of m op.Flush = if not (is_active m) then want.Flush ∷ want.Send command.Flush ∷ [] else []
wants_of m op.Drain = if is_stopped m then want.Drained ∷ [] else []
wants_of m op.Remove = want.Send command.Remove ∷ []
wants_of m op.Yield = want.Rest ∷ []
wants_of m (op.Gain left right) = want.Gain left right ∷ []
wants_of m (op.Write count) = want.Write count ∷ []
wants_of m (op.Poke in_command word value) = want.Poke in_command word value ∷ []

-- a client with these wants, if it has some; else with those of the first op that has some
abbrev pub begins : Client → List Want → List Op → Client
begins c (w ∷ wants) ops = record c { due = w ∷ wants; ops = ops }
begins c [] [] = record c { due = []; ops = [] }
begins c [] (o ∷ ops) = begins c (wants_of c.mode o) ops

-- the client with its next op begun, if nothing is left of the one in work
abbrev pub begun : Client → Client
begun c = begins c c.due c.ops

-- what the first of these wants asks of the proxies: nothing if the turn is to end
abbrev pub asked_first : List Want → Option Want
asked_first [] = None
asked_first (want.Rest ∷ wants) = None
asked_first (w ∷ wants) = Some w

-- what is wanted next, of a client whose op is begun; None if the turn ends
abbrev pub next_want : Client → Option Want
next_want c = if c.waiting || c.ended then None else asked_first c.due

-- what is wanted after the first of these wants
abbrev pub rest_of : List Want → List Want
rest_of [] = []
rest_of (w ∷ wants) = wants

-- ## What an answer makes of a client

-- a client that goes on with these wants, one that waits, and one that has ended
abbrev pub with_wants : List Want → Client → Client
with_wants wants c = record c { due = wants }

abbrev pub waits : Client → Client
waits c = record c { waiting = true }

abbrev pub ends : Client → Client
ends c = record c { ended = true }

-- the mode after a command was sent
abbrev pub mode_after : ClientCommand → Mode → Mode
mode_after command.Open m = m
mode_after command.Start m = mode.Active
mode_after command.Pause m = mode.Paused
mode_after command.Stop m = mode.Stopped
mode_after command.Flush m = mode.Idle
mode_after command.Remove m = m

-- a REMOVE ends the client
abbrev pub is_last : ClientCommand → Bool
is_last command.Remove = true
is_last _ = false

-- a command was sent
abbrev pub after_sent : ClientCommand → List Want → Client → Client
after_sent sending wants c = if is_last sending then ends (with_wants wants c) else record (with_wants wants c) { mode = mode_after sending c.mode }

-- a send that is full waits, and one that finds the block dead or corrupt ends the client
abbrev pub after_send : ClientCommand → List Want → Client → ClientCall → Client
after_send sending wants c (call.Sent front code argument) = after_sent sending wants c
after_send sending wants c (call.SendFull front) = waits c
after_send sending wants c _ = ends c

-- these wants, after a write of the frames that are left, if there are some
abbrev pub more : ℕ → List Want → List Want
more left wants = if left == 0 then wants else want.Write left ∷ wants

-- after a Put an active client looks at DISABLED first
abbrev pub after_put : ℕ → List Want → Client → Client
after_put left wants c = with_wants (if is_active c.mode then want.Clear ∷ more left wants else more left wants) c

-- a write that is full waits, and one that finds the block dead or corrupt leaves only a last REMOVE to send
abbrev pub after_write : ℕ → List Want → Client → ClientCall → Client
after_write asked wants c (call.Put front count) = after_put (asked - count) wants c
after_write asked wants c (call.Full front) = waits c
after_write asked wants c _ = record c { due = want.Leave ∷ []; ops = [] }

-- the state's code, and how many commands are settled, in a status word
abbrev pub state_in : ℕ → ℕ
state_in word = word % 16

abbrev pub settled_in : ℕ → ℕ
settled_in word = word / 256

-- a status of a track that was shut ends the client; one that is there goes on; any other waits
abbrev pub after_status : Bool → ℕ → List Want → Client → ClientCall → Client
after_status to_stop commands wants c (call.Status word) =
    if state_in word == 15 then ends c
    else if nat_le commands (settled_in word) && (not to_stop || (state_in word == 8)) then with_wants wants c
    else waits c
after_status to_stop commands wants c _ = c

-- if DISABLED was set, a START is owed before anything else
abbrev pub after_clear : List Want → Client → ClientCall → Client
after_clear wants c (call.Cleared flags) = with_wants (if bit_and flags 8 == 0 then wants else want.Send command.Start ∷ wants) c
after_clear wants c _ = c

-- the client after the answer to a want, with what is wanted after it, when so many commands were sent in all
abbrev pub after_answer : ℕ → Want → List Want → Client → ClientCall → Client
after_answer commands (want.Send sending) wants c answer = after_send sending wants c answer
after_answer commands want.Settled wants c answer = after_status false commands wants c answer
after_answer commands want.Drained wants c answer = after_status true commands wants c answer
after_answer commands (want.Write asked) wants c answer = after_write asked wants c answer
after_answer commands want.Clear wants c answer = after_clear wants c answer
after_answer commands want.Leave wants c answer = ends c
after_answer commands _ wants c answer = with_wants wants c

-- ## The end of a turn

-- an op that lets the turn end is done
abbrev pub rested : List Want → List Want
rested (want.Rest ∷ wants) = wants
rested wants = wants

-- The client at its next turn, after one that ended with it (and was cut after its 64th call or not): if a call was still possible, an op that lets the turn end is done with
abbrev pub at_next_turn : Bool → Client → Client
at_next_turn cut c = if c.waiting || c.ended || cut then record c { waiting = false } else record (begun c) { due = rested (begun c).due }

-- ## A client as the program keeps it

-- the wants that are due
abbrev pub due_of : Due → List Want
due_of due.Nothing = []
due_of (due.One first) = first ∷ []
due_of (due.Two first second) = first ∷ second ∷ []
