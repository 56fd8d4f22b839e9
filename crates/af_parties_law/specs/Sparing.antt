-- What the laws on pokes say.
use Rattle.std.specs.Prelude.{Bool, List}
use Rattle.af_base.specs.declared.frame.Frame.{Frame}
use Rattle.af_model.specs.Journals.{JournalData}
use Rattle.af_parties_law.specs.Hostile.{PokesSpareEntries, PokesSpareOthers}
use Rattle.af_playing.specs.PlayedRuns.{HandsBackRun}
use Rattle.af_rendering.specs.Rendered.{HandsBack}
use Rattle.af_script.specs.Data.{ScriptData}
use Rattle.af_session.specs.Ends.{EndsState}
use Rattle.af_session.specs.Shown.{shown_by}
use Rattle.af_tally.specs.Summaries.{Shown}

-- what the journal and the ends show of the run that they are handed back from
abbrev pub shown_back : ScriptData → JournalData → EndsState → Shown
shown_back script journal ends = shown_by script.frames journal ends.normal.mutator.past.events

-- what a render hands back shows that pokes spare other tracks, by the looks of either mixer
abbrev pub RendersSpareOthers : ScriptData → List (List Frame) → JournalData → EndsState → Type 0
RendersSpareOthers script files journal ends = HandsBack script files journal ends → PokesSpareOthers (shown_back script journal ends) × PokesSpareEntries (shown_back script journal ends)

-- what a play hands back, whether all parties have ended or not, shows that pokes spare other tracks, by the calls and the normal mixer's looks
abbrev pub PlaysSpareOthers : Bool → ScriptData → List (List Frame) → JournalData → EndsState → Type 0
PlaysSpareOthers ended script files journal ends = HandsBackRun ended script files journal ends → PokesSpareOthers (shown_back script journal ends)
