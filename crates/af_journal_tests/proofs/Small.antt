-- The form of a small journal: two tracks, two rounds, one idle cycle.
use Rattle.std.proofs.Common.{List, [], ◌∷◌, None, Some, refl, sym, true≢false}
use Rattle.std.proofs.lemmas.List.Elements.{All-nil, All-cons}
use mathlib.Core.Logic.{inl}
use Rattle.af_base.specs.declared.event.ClientCall.{ClientCall}
use Rattle.af_base.specs.declared.log.Cycle.TheVariants.{Idle}
use Rattle.af_base.specs.Log.{Logged}
use Rattle.af_base.specs.Sample.{IsFrame}
use Rattle.af_base.specs.Turn.{ended_turn}
use Rattle.af_model.specs.Cycles.{still_entry}
use Rattle.af_model.specs.Journals.{RoundsNoted, RoundSeen, journal_of, taken_by}
use Rattle.af_model.specs.JournalForm.{IsJournal, IsRound}
use Rattle.af_model.specs.Numbers.{HasRanges}

abbrev pub two_rounds : List ClientCall → RoundsNoted
two_rounds calls = record { tracks = 2; rounds = record { calls = calls ∷ [] ∷ []; turn = None; cycles = 0 } ∷ record { calls = [] ∷ [] ∷ []; turn = Some ended_turn; cycles = 1 } ∷ [] }

abbrev pub one_still : Logged → Logged
one_still log = record log { entries = still_entry 0 Idle ∷ []; frames = [] }

abbrev first : List ClientCall → RoundSeen
first calls = record { calls = calls ∷ [] ∷ []; turn = None; entries = [] }

abbrev second : RoundSeen
second = record { calls = [] ∷ [] ∷ []; turn = Some ended_turn; entries = record { entry = still_entry 0 Idle; frames = [] } ∷ [] }

pub small-form : (calls : List ClientCall) (log : Logged) → HasRanges (journal_of (two_rounds calls) (one_still log)) → IsJournal (journal_of (two_rounds calls) (one_still log))
unfolding taken_by
small-form calls log numbers = record {
  rounds = All-cons (IsRound 2) (first calls) (second ∷ []) (record { calls = refl; turn = tt }) (All-cons (IsRound 2) second [] (record { calls = refl; turn = inl refl }) (All-nil (IsRound 2)));
  entries = (record { kept = refl; mixes = λ mixed. absurd (true≢false (sym mixed)); still = λ mixed. refl }, refl, All-nil IsFrame, tt);
  numbers = numbers;
}
