-- Both parts of the entries of a legal round are legal, those before the turn and those behind it.
use Rattle.std.proofs.Common.{◌≡◌, Bool, true, false, [], take, drop, sym, ap, subst}
use Rattle.af_audit.proofs.Common.{IsFastTurn, LegalEntries, Marks, MatchBool, RoundSeen, Run, Session, after_turn, early_of, is_early, late_of, most_round_cycles, prefix_len, with_calls}

-- both parts of the entries are legal, also if there are no entries
pub legal_parts : (b full : Bool) (s : Session) (marks : Marks) (run : Run) (round : RoundSeen) → MatchBool b (round.entries ≡ []) (IsFastTurn most_round_cycles full round.entries × LegalEntries s marks (with_calls round run) (early_of run round) × LegalEntries s marks (after_turn s run round) (late_of run round))
    → LegalEntries s marks (with_calls round run) (early_of run round) × LegalEntries s marks (after_turn s run round) (late_of run round)
legal_parts false full s marks run round h = (h.1, h.2)
legal_parts true full s marks run round none = (subst (LegalEntries s marks (with_calls round run)) (sym (ap (λ l. take (prefix_len (is_early run) l) l) none)) tt, subst (LegalEntries s marks (after_turn s run round)) (sym (ap (λ l. drop (prefix_len (is_early run) l) l) none)) tt)
