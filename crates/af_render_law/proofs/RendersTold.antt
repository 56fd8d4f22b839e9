-- The journal of a render is by itself a turn run, its summary is that of the journal alone, and its ends keep the lists of the run.
use Rattle.std.proofs.Common.{◌≡◌, List, sym, subst}
use Rattle.af_render_law.proofs.Common.{EndsState, Frame, HandsBack, IsScript, IsTurnRun, JournalData, Marks, ScriptData, Session, parts_told, session_of, shown_by, shown_from, summary_by, summary_told}
use Rattle.af_render_law.proofs.Chain.{FastTurnIsAStep, NormalTurnIsAStep}
use Rattle.af_render_law.proofs.OwnKept.{ToldBy}
use Rattle.af_render_law.specs.RenderLaws.{RendersAreToldAlone, run_told}
use Rattle.af_render_law.proofs.FastStep.{fast_turns_step}
use Rattle.af_render_law.proofs.NormalStep.{normal_turns_step}
use Rattle.af_told_law.specs.KeptEnds.{KeepsLists}
use Rattle.af_told_law.proofs.EndsKept.{ends_keep_lists, own_at_home}
use Rattle.af_render_law.proofs.RenderTold.{parties_counted, parties_told, turn_run}
use Rattle.af_render_law.proofs.SummaryTold.{shown_is, summary_is}

module _ (script : ScriptData) (files : List (List Frame)) (j : JournalData) (ends : EndsState) (form : IsScript script) (back : HandsBack script files j ends) where
  abbrev s : Session
  s = session_of script files

  normal : (marks : Marks) → NormalTurnIsAStep s marks
  normal marks = normal_turns_step s marks (parts_told s)

  fast : (marks : Marks) → FastTurnIsAStep s marks
  fast marks = fast_turns_step s marks

  pub render_turns : IsTurnRun script files j
  render_turns = turn_run script files form normal fast j ends back

  told : ToldBy s (run_told script files j) back.parties
  told = parties_told script files form normal fast j ends back

  pub render_summed : summary_told script.frames j ends ≡ summary_by script j (run_told script files j)
  render_summed = summary_is script files j ends back.parties back.ends_are told.told (parties_counted script files form normal fast j ends back)

  pub render_shown : shown_by script.frames j ends.normal.mutator.past.events ≡ shown_from script j (run_told script files j)
  render_shown = shown_is script files j ends back.parties back.ends_are told.told

  pub render_kept : KeepsLists (run_told script files j) ends
  render_kept =
      let run = run_told script files j in
      subst (λ (e : EndsState). KeepsLists run e) (sym back.ends_are)
      (ends_keep_lists s run told.deeds back.parties told.told (own_at_home s run told.deeds back.parties told.told told.saw))

pub render_told : (script : ScriptData) (files : List (List Frame)) (j : JournalData) (ends : EndsState) → RendersAreToldAlone script files j ends
render_told script files j ends form back = record { run = render_turns script files j ends form back; summary = render_summed script files j ends form back; shown = render_shown script files j ends form back; kept = render_kept script files j ends form back }
