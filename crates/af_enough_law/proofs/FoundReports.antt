-- The report by which a turn hears of a track is one of those that it may find.
use Rattle.std.proofs.Common.{◌≡◌, ℕ, ◌≤◌, Some, false, length, sym, ap, ◌∙◌, subst}
use Rattle.af_enough_law.proofs.Common.{Learnt, LegalRound, Marks, RoundSeen, Run, Session, SlotReport, learnt, load_of, number_of, report_at, report_of, slot_reported, track_at, with_calls, with_cycles}
use Rattle.af_enough_law.proofs.Carried.{SessionStands}
use Rattle.af_enough_law.proofs.EntryCounts.{found_within}
use Rattle.af_enough_law.proofs.FastWords.{KnowsReports}
use Rattle.af_enough_law.proofs.Following.{greeted_in, greeted_alike}
use Rattle.af_enough_law.proofs.NormalRounds.{TurnMade}

-- what holds of each report that the turn may find holds of the one by which it hears of a track
pub found_reported : (s : Session) (marks : Marks) (run : Run) (round : RoundSeen) → LegalRound false s marks run round → SessionStands s run → KnowsReports run → (t : TurnMade s marks run round) → t.turn.ended ≡ false → (i slot : ℕ) → (track_at run.normal.tracks i).slot ≡ Some slot → (P : SlotReport → Type 0)
    → ((m : ℕ) → length run.reports ≤ m → m ≤ length (with_cycles s round.entries (with_calls round run)).reports → P (report_at (report_of (with_cycles s round.entries (with_calls round run)).reports m).slots slot)) → P (slot_reported (learnt t.by.outside) (greeted_in run.normal t.turn i))
found_reported s marks run round legal c reports t runs i slot slot_is P each =
    let within = found_within s run round marks false t.turn legal c.stored reports t.is runs c.logged in
    let m : ℕ = load_of (with_calls round run) t.turn in
    let number = ap number_of ((greeted_alike t.turn.ack run.normal.last (track_at run.normal.tracks i)).slot ∙ slot_is) in
    subst P (ap (λ (n : ℕ). report_at (report_of (with_cycles s round.entries (with_calls round run)).reports m).slots n) (sym number) ∙ ap (λ (k : Learnt). slot_reported k (greeted_in run.normal t.turn i)) (sym t.sees)) (each m within.0 within.1)
