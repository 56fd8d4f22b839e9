-- The files of a play that is answered.
use Rattle.std.proofs.Common.{ℕ, List, Some, Ok, Err, Result, String, inl, inr, subst, sym}
use Rattle.af_commands.proofs.Common.{Files, Global, JournalData, LeavesFront, Memory, Over, PlayFault, Played, Refused, SetsFile, Stop, Store, StoreError, Summary, stop_of, text_of}
use Rattle.af_playing.specs.declared.answering.PlayFault.TheVariants as fault
use Rattle.af_commands.specs.Told.{Tells, TellsLine, TellsText, TellsTexts, WritesText}
use Rattle.af_commands.proofs.Ended.{LeavesFront-whole}

-- the text is whole, and memory may run out at the line
pub WritesText-line : (summary : Summary) (name : List ℕ) (journal : JournalData) (result : Result (String Global) Stop) (old new : Files) → TellsLine summary result → SetsFile old name (Some (text_of journal)) new → WritesText name journal result old new
WritesText-line summary name journal (Ok line) old new told set = set
WritesText-line summary name journal (Err stop) old new is set = subst (λ (s : Stop). WritesText name journal (Err s) old new) (sym is) (LeavesFront-whole old name (text_of journal) new set)

-- ## With a log

module _ (cycles : ℕ) (name log text : List ℕ) where
  -- the command stopped before the log was written
  pub TellsTexts-stopped : (played : Result Played PlayFault) (stop : Stop) (old new : Files) → Tells cycles played (Err stop) → TellsText name played (Err stop) old new → TellsTexts name log text played (Err stop) old new
  TellsTexts-stopped (Ok p) (Refused refusal) old new none left = absurd none
  TellsTexts-stopped (Ok p) (Over over) old new none left = absurd none
  TellsTexts-stopped (Ok p) Store old new told left = inl left
  TellsTexts-stopped (Ok p) Memory old new told left = inl left
  TellsTexts-stopped (Err stopped) stop old new told left = left

  module _ (line : String Global) (old mid new : Files) where
    -- the log wasn't written, or not all of it
    pub TellsTexts-unlogged : (played : Result Played PlayFault) (e : StoreError) → Tells cycles played (Ok line) → TellsText name played (Ok line) old mid → LeavesFront mid log text new → TellsTexts name log text played (Err (stop_of e)) old new
    TellsTexts-unlogged (Ok p) e told set left = inr (mid, set, left)
    TellsTexts-unlogged (Err (fault.CycleLimit journal ends)) e none set left = absurd none
    TellsTexts-unlogged (Err fault.Store) e clash set left = let none : ⊥ = cc in absurd none
    TellsTexts-unlogged (Err fault.Memory) e clash set left = let none : ⊥ = cc in absurd none

    -- the log was written
    pub TellsTexts-logged : (played : Result Played PlayFault) → Tells cycles played (Ok line) → TellsText name played (Ok line) old mid → SetsFile mid log (Some text) new → TellsTexts name log text played (Ok line) old new
    TellsTexts-logged (Ok p) told set wrote = (mid, set, wrote)
    TellsTexts-logged (Err (fault.CycleLimit journal ends)) none set wrote = absurd none
    TellsTexts-logged (Err fault.Store) clash set wrote = let none : ⊥ = cc in absurd none
    TellsTexts-logged (Err fault.Memory) clash set wrote = let none : ⊥ = cc in absurd none
