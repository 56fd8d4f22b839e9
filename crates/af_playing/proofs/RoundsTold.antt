-- The rounds that the parties of a new session played are those that their journal records.
use Rattle.std.proofs.Common.{◌≡◌, List, ap, subst}
use Rattle.af_playing.proofs.Common.{EntrySeen, Frame, MixerState, PlaysOn, RoundNoted, RoundSeen, ScriptData, Session, SessionState, entries_grown, entries_seen, marks_of, rounds_seen, session_of}
use Rattle.af_told_law.proofs.MarkedRuns.{marks_free}
use Rattle.af_playing.specs.PlayedRuns.{Plays}
use Rattle.af_playing.proofs.PlayedOn.{plays_on}

module _ (script : ScriptData) (files : List (List Frame)) (noted : List RoundNoted) (t : SessionState) (p : Plays script files noted t) where
  abbrev s : Session
  s = session_of script files

  abbrev pub seen : List RoundSeen
  seen = rounds_seen (entries_seen t.fast.log.frames t.fast.log.entries) noted

  -- a new session's log has nothing, so it grew to the whole log
  all_grown : entries_grown p.start.fast.log t.fast.log ≡ entries_seen t.fast.log.frames t.fast.log.entries
  all_grown = ap (λ (m : MixerState). entries_grown m.log t.fast.log) p.new.fast

  pub rounds_told : PlaysOn s (marks_of seen) p.start seen t
  rounds_told = subst (λ (es : List EntrySeen). PlaysOn s (marks_of seen) p.start (rounds_seen es noted) t) all_grown
      (plays_on s (marks_of seen) noted p.start p.bytes t p.run (marks_free (marks_of seen) (entries_seen t.fast.log.frames t.fast.log.entries) noted (λ i. (λ on. on, λ on. on))))
