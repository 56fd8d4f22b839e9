-- A session that was played, and its line.
use Rattle.std.proofs.Common.{◌≡◌, ℕ, List, Some, Result, Ok, Err, IfOk, OnErr, String, length, string_bytes, refl, sym, ap, subst, ◌∙◌, inl, inr}
use Rattle.af_commands.proofs.Common.{ComesTo, EndsState, Files, Global, HandsBack, HoldsAtMeetingsAlone, IsScript, JournalData, LeavesFront, LeavesSound, OfTurnRuns, Outcome, Session as Loaded, SetsFile, Stop, StoreError, Summary, journal_of, journal_pcm, render_told, session_job}
use Rattle.af_one_turn_run.proofs.OneTurnRun.{one_turn_run}
use Rattle.af_render_law.proofs.TurnsSoFar.{are_turns, sounds}
use Rattle.af_session.specs.Shown.{summary_told}
use Rattle.af_commands.specs.Ends.{IsCutOff, IsMadeWith, Makes}
use Rattle.af_commands.specs.Sessions.{IsSession, IsSomeSessionLine, LeavesTurns, summary_line}
use Rattle.af_commands.specs.Told.{TellsRender}
use Rattle.af_commands.proofs.Made.{Makes-unwritten}

module _ (l : Loaded) (journal : JournalData) (ends : EndsState) (back : HandsBack l.script l.files journal ends) (summary : Summary) (summary_is : summary ≡ summary_told l.script.frames journal ends) (accepted : IsScript l.script) (follows : OfTurnRuns HoldsAtMeetingsAlone) where
  is_session : IsSession l.script l.files (journal_pcm l.script.frames journal) (summary_line summary)
  is_session = record {
    journal = journal;
    bytes_are = refl;
    told = (let told = render_told l.script l.files journal ends accepted back in record {
      run = told.run;
      line_is = ap summary_line (summary_is ∙ told.summary);
      met = follows l.script l.files journal accepted told.run;
      alone = (λ plain met other run also. one_turn_run l.script l.files other journal accepted plain run told.run also met);
    });
  }

  some_line : (line : List ℕ) → line ≡ summary_line summary → IsSomeSessionLine line
  some_line line is = (l.script, l.files, journal_pcm l.script.frames journal, subst (λ (text : List ℕ). IsSession l.script l.files (journal_pcm l.script.frames journal) text) (sym is) is_session)

  module _ (target : List ℕ) (old new : Files) (set : SetsFile old target (Some (journal_pcm l.script.frames journal)) new) where
    is_made : IsMadeWith (session_job target l) (summary_line summary) old new
    is_made = (journal_pcm l.script.frames journal, is_session, set)

    Makes-played : (line : String Global) → string_bytes line ≡ summary_line summary → Makes (Ok line) (Ok (session_job target l)) old new
    Makes-played line is = subst (λ (text : List ℕ). IsMadeWith (session_job target l) text old new) (sym is) is_made

    -- a work is cut off if the output is whole and memory ran out for the line
    cut_behind : IsCutOff (Ok (session_job target l)) old new
    cut_behind = inr (summary_line summary, is_made)

-- ## What a render leaves

-- what is left of the sound of some first turns is left of that of their journal
leaves_turns : (l : Loaded) → IsScript l.script → (target : List ℕ) (old new : Files) → LeavesSound l.script l.files target old new → LeavesTurns l.script l.files target old new
leaves_turns l accepted target old new (inl same) = inl same
leaves_turns l accepted target old new (inr (n, t, (rounds, rendered), left)) = inr (
  n,
  journal_of (record { tracks = length l.script.tracks; rounds = rounds }) t.fast.log,
  are_turns l.script l.files n rounds t rendered accepted,
  subst (λ (bytes : List ℕ). LeavesFront old target bytes new) (sym (sounds l.script l.files n rounds t rendered)) left,
)

-- ## What a render answers

module _ (l : Loaded) (accepted : IsScript l.script) (follows : OfTurnRuns HoldsAtMeetingsAlone) (target : List ℕ) (told : Type 0) (old new : Files) (steps : List (ℕ × ℕ)) where
  -- what a render into the target came to, by its journal
  abbrev Rendered : Outcome → Type 0
  Rendered o = (journal : JournalData) × ComesTo l.script l.files journal o.summary o.ends steps × (told → SetsFile old target (Some (journal_pcm l.script.frames journal)) new)

  pub some_line_told : (played : Result Outcome StoreError) (result : Result (String Global) Stop) → IfOk played Rendered → TellsRender played result → IfOk result (λ line. IsSomeSessionLine (string_bytes line))
  some_line_told (Ok o) (Ok line) came is = some_line l came.0 o.ends came.1.back o.summary came.1.summary_is accepted follows (string_bytes line) is
  some_line_told (Err e) (Ok line) came clash = let none : ⊥ = cc in absurd none
  some_line_told played (Err stop) came is = tt

  pub Makes-rendered : (played : Result Outcome StoreError) (result : Result (String Global) Stop) → told → IfOk played Rendered → OnErr played (LeavesSound l.script l.files target old new) → TellsRender played result
      → Makes result (Ok (session_job target l)) old new
  Makes-rendered (Ok o) (Ok line) tells came left is = Makes-played l came.0 o.ends came.1.back o.summary came.1.summary_is accepted follows target old new (came.2 tells) line is
  Makes-rendered (Ok o) (Err stop) tells came left is =
      subst (λ (s : Stop). Makes (Err s) (Ok (session_job target l)) old new) (sym is) (cut_behind l came.0 o.ends came.1.back o.summary came.1.summary_is accepted follows target old new (came.2 tells))
  Makes-rendered (Err e) result tells came left is =
      subst (λ (r : Result (String Global) Stop). Makes r (Ok (session_job target l)) old new) (sym is) (Makes-unwritten e (session_job target l) old new (leaves_turns l accepted target old new left))
