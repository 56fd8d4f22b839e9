-- What a send comes to, by its answer.
use Rattle.std.specs.Prelude.{ℕ, if◌then◌else◌, is_some, Option, Some, None, List, [], ◌∷◌}
use Rattle.af_base.specs.declared.event.ClientCall.{ClientCall}
use Rattle.af_base.specs.declared.event.ClientCall.TheVariants as call
use Rattle.af_client.specs.declared.send.Sent.{Sent}
use Rattle.af_client.specs.declared.send.Sent.TheVariants as sent
use Rattle.af_client.specs.Order.{ClientState}

abbrev pub sent_call : ℕ → ℕ → Sent → ClientCall
sent_call code argument (sent.Sent front) = call.Sent front code argument
sent_call code argument (sent.Full front) = call.SendFull front
sent_call code argument (sent.Dead flags) = call.SendDead flags
sent_call code argument (sent.Corrupt front rear) = call.SendCorrupt front rear

-- the words of the frames that a send released: one frame's word is the code, the next one's is the argument
abbrev pub sent_by : ℕ → ℕ → Sent → List ℕ
sent_by code argument (sent.Sent front) = code ∷ argument ∷ []
sent_by code argument _ = []

-- how many frames a send released
abbrev pub sent_count : Sent → ℕ
sent_count (sent.Sent front) = 2
sent_count _ = 0

-- the words that shut the proxy, if a send found or finds it shut
abbrev pub shut_by_send : Sent → Option (ℕ × ℕ)
shut_by_send (sent.Corrupt front rear) = Some (front, rear)
shut_by_send _ = None

-- a send steps once for the flags, for front, for each of two cells and for rear
abbrev pub send_steps : ClientState → Sent → ℕ
send_steps c (sent.Sent front) = 5
send_steps c (sent.Full front) = 2
send_steps c (sent.Dead flags) = 1
send_steps c (sent.Corrupt front rear) = if is_some c.shut then 0 else 2

abbrev pub IsCorruptSend : Sent → Type 0
IsCorruptSend (sent.Corrupt front rear) = Unit {0}
IsCorruptSend _ = ⊥
