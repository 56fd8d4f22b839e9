-- How far a track that plays through is from the end of its life, in rounds.
use Rattle.std.proofs.Common.{◌≡◌, ℕ, ◌⊎◌, suc, ◌+◌, ◌*◌, ◌≤◌, min, Bool, true, false, List, [], ◌∷◌}
use Rattle.af_enough_law.proofs.Common.{RoundSeen, Op, server_list, Want, Client, begun, after_round, Run, told_at, Session}
use Rattle.af_script.specs.declared.op.Op.TheVariants as op
use Rattle.af_runs.specs.declared.want.ClientCommand.TheVariants as command
use Rattle.af_runs.specs.declared.want.Want.TheVariants as want
use Rattle.af_enough_law.proofs.FastWords.{frames_left_in}
use Rattle.af_enough_law.specs.Seen.{frames_taken}

-- ## The client

-- a client is past its START: it isn't at its OPEN, at its START, or at the wait for this to be settled
abbrev pub is_started : List Want → Bool
is_started (want.Send command.Open ∷ wants) = false
is_started (want.Send command.Start ∷ wants) = false
is_started (want.Settled ∷ wants) = false
is_started _ = true

-- a client that is past its start, or has ended
abbrev pub IsPast : Client → Type 0
IsPast c = (c.ended ≡ true) ⊎ (is_started (begun c).due ≡ true)

-- how many gains stand directly ahead
abbrev pub gains_ahead : List Op → ℕ
gains_ahead (op.Gain left right ∷ ops) = suc (gains_ahead ops)
gains_ahead _ = 0

-- how many calls are ahead before a write or the STOP
abbrev pub calls_ahead : List Want → List Op → ℕ
calls_ahead (want.Gain left right ∷ wants) ops = suc (gains_ahead ops)
calls_ahead (want.Clear ∷ []) ops = suc (gains_ahead ops)
calls_ahead (want.Clear ∷ w ∷ wants) ops = 1
calls_ahead _ ops = 0

abbrev pub calls_left : Client → ℕ
calls_left c = calls_ahead (begun c).due (begun c).ops

-- ## The mixers

-- the frames of a buffer of the normal mixer
abbrev pub buffer_of : Session → ℕ
buffer_of s = s.script.normal * s.script.frames

-- A round takes all that was in the track's block before it, or a buffer of the normal mixer at least
abbrev pub RoundFlows : Session → Run → RoundSeen → ℕ → Type 0
RoundFlows s run round i = frames_taken (server_list (told_at run i).stream) + min (frames_left_in (told_at run i).stream) (buffer_of s) ≤ frames_taken (server_list (told_at (after_round s run round) i).stream)
