-- When a run of all parties goes on, and how many rounds it can have made by then.
use Rattle.std.proofs.Common.{◌≡◌, ℕ, ◌+◌, ◌<◌, ◌≤◌, ◌&&◌, Bool, true, true≢false, List, length, sym, ap, ◌∙◌, arith}
use Rattle.af_playing.proofs.Common.{Given, IsRoundOfAll, PartyState, RoundNoted, SessionState, eqb-false, has_exit, list_all}
use Rattle.af_play_law.proofs.Basics.{clients_all}
use Rattle.af_playing.specs.PlayedRuns.{GoesOn, all_ended}
use Rattle.af_playing.proofs.ExitSeen.{Knowing}
use Rattle.af_playing.proofs.RoundsLeft.{AllEnded, IsGoing, has_ended, has_entries, going_on}

-- if every party has ended, `all_ended` says so
whole_end : (s : SessionState) → AllEnded s → all_ended s ≡ true
whole_end s all =
    ap (λ (b : Bool). b && (s.fast.exited && list_all (λ (p : PartyState). p.client.ended) s.clients)) all.normal
    ∙ ap (λ (b : Bool). b && list_all (λ (p : PartyState). p.client.ended) s.clients) all.fast
    ∙ clients_all s.clients all.clients

some_goes : (s : SessionState) → GoesOn s → AllEnded s → ⊥
some_goes s goes all = true≢false (sym (whole_end s all) ∙ goes.some)

-- a log that isn't full has room
pub room_left : (s : SessionState) → length s.fast.log.entries ≤ s.fast.cycles → GoesOn s → length s.fast.log.entries < s.fast.cycles
room_left s few goes = let other = eqb-false (length s.fast.log.entries) s.fast.cycles goes.room in omega (arith, few, other)

-- if a run goes on after so many rounds, each round has added an entry
pub few_so_far : (i : ℕ) (s : SessionState) → length s.fast.log.entries ≤ s.fast.cycles → GoesOn s → IsGoing i s → i < s.fast.cycles
few_so_far i s few goes (has_ended all) = absurd (some_goes s goes all)
few_so_far i s few goes (has_entries more) = let room = room_left s few goes in omega (arith, more, room)

-- after one round more, all have ended or the log has one entry more
pub goes_further : (g : Given) (i : ℕ) (s t : SessionState) (r : RoundNoted) (bytes : List ℕ) → Knowing s → s.fast.exited ≡ has_exit s.fast.log.entries → length s.fast.log.entries ≤ s.fast.cycles → GoesOn s → IsGoing i s → IsRoundOfAll g s r bytes t
    → IsGoing (i + 1) t
goes_further g i s t r bytes knows is few goes going round = going_on g i s t r bytes knows is (some_goes s goes) (room_left s few goes) going round
