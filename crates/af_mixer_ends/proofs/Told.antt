-- What an end tells of a send.
use Rattle.std.proofs.Common.{◌≡◌, ℕ, ◌+◌}
use Rattle.af_client.specs.declared.send.Sent.{Sent}
use Rattle.af_client.specs.declared.send.Sent.TheVariants as sent
use Rattle.af_client.specs.Calls.{Does, Releases}
use Rattle.af_client.specs.Order.{ClientState}
use Rattle.af_client.specs.Sends.{sent_call, sent_by, sent_count, IsCorruptSend}
use Rattle.af_client.proofs.Kept.{IsPoke}
use Rattle.af_mixer_ends.specs.Tracks.{Sends, told_sent}

-- a send is no poke
pub calm : (code argument : ℕ) (r : Sent) → IsPoke (sent_call code argument r) → ⊥
calm code argument (sent.Sent front) e = e
calm code argument _ e = e

pub told_sends : (c : ClientState) (code argument : ℕ) (r : Sent) (d : ClientState) → Does c 2 (sent_call code argument r) d → Releases c (sent_by code argument r) d
    → (d.flushes ≡ c.flushes) × (d.released ≡ c.released + sent_count r) → (IsCorruptSend r → ⊥) → Sends c code argument (told_sent r) d
told_sends c code argument (sent.Sent front) d does releases counts whole = (front, record { does = does; releases = releases; counts = counts })
told_sends c code argument (sent.Full front) d does releases counts whole = (front, record { does = does; releases = releases; counts = counts })
told_sends c code argument (sent.Dead flags) d does releases counts whole = (flags, record { does = does; releases = releases; counts = counts })
told_sends c code argument (sent.Corrupt front rear) d does releases counts whole = absurd (whole tt)
