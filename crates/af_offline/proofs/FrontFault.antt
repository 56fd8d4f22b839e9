-- The first fault of a journal is that of each one that begins with the same rounds and pokes the same blocks, if it is in one of those rounds.
use Rattle.std.proofs.Common.{◌≡◌, ℕ, zero, suc, ◌<◌, Bool, false, List, [], ◌∷◌, take, arith, ap, subst}
use Rattle.af_offline.proofs.Common.{AreClear, Frame, IsClear, IsFirstFault, IsLeastWithout, JournalData, Marks, RoundSeen, Run, ScriptData, Session, after_round, fast_party, marks_of, new_run, session_of}

-- the first fault of a journal is that of this party in this round
abbrev HasFirstFault : ScriptData → List (List Frame) → JournalData → ℕ → ℕ → Type 0
HasFirstFault script files j round party = let s = session_of script files in IsFirstFault false s (marks_of j.rounds) (new_run s) j.rounds round party

-- the first of some rounds, and the others
abbrev first_of : RoundSeen → List RoundSeen → RoundSeen
first_of d [] = d
first_of d (r ∷ rounds) = r

abbrev others_of : List RoundSeen → List RoundSeen
others_of [] = []
others_of (r ∷ rounds) = rounds

module _ (cut : Bool) (s : Session) (marks : Marks) (party : ℕ) where
  front_fault : (run : Run) (n : ℕ) (front rounds : List RoundSeen) (number : ℕ) → take n front ≡ take n rounds → number < n → IsFirstFault cut s marks run front number party → IsFirstFault cut s marks run rounds number party
  front_fault run zero front rounds number same lt fault = absurd (omega (arith, lt))
  front_fault run (suc n) [] [] number same lt fault = fault
  front_fault run (suc n) [] (r ∷ rounds) number same lt fault = absurd (let h = same in cc)
  front_fault run (suc n) (f ∷ front) [] number same lt fault = absurd (let h = same in cc)
  front_fault run (suc n) (f ∷ front) (r ∷ rounds) zero same lt fault = subst (λ x. IsLeastWithout (IsClear cut s marks run x) (fast_party s) party) (ap (first_of f) same) fault
  front_fault run (suc n) (f ∷ front) (r ∷ rounds) (suc number) same lt fault =
      let here = subst (λ x. AreClear cut s marks run x × IsFirstFault cut s marks (after_round s run x) front number party) (ap (first_of f) same) fault in
      (here.0, front_fault (after_round s run r) n front rounds number (ap others_of same) (omega (arith, lt)) here.1)

pub begins_fault : (script : ScriptData) (files : List (List Frame)) (front j : JournalData) (n round party : ℕ) → take n front.rounds ≡ take n j.rounds → marks_of front.rounds ≡ marks_of j.rounds → round < n → HasFirstFault script files front round party → HasFirstFault script files j round party
begins_fault script files front j n round party same marks lt fault =
    let s = session_of script files in
    front_fault false s (marks_of j.rounds) party (new_run s) n front.rounds j.rounds round same lt (subst (λ m. IsFirstFault false s m (new_run s) front.rounds round party) marks fault)
