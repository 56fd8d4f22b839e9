-- A play whose parties have all ended is told by its journal alone.
use Rattle.std.proofs.Common.{◌≡◌, inl, ℕ, ◌≤◌, ◌&&◌, true, false, true≢false, List, [], ◌∷◌, length, refl, sym, ap, subst, ◌∙◌, arith}
use Rattle.af_play_law.proofs.Common.{EndsHome, Frame, Marks, NormalKept, PartyState, RoundSeen, Run, ServerEvent, Session, SessionState, Tells, TookCounted, and_parts, carried_new, frames_taken, kept_of, known_new, list_all, marks_of, new_ends, new_marked, new_run, new_told, no_deeds, run_from, script_setup, session_of, setup_of}
use Rattle.af_enough_law.proofs.AllEnd.{rounds_end}
use Rattle.af_enough_law.proofs.EndWords.{BothEnded}
use Rattle.af_model.specs.JournalForm.{IsJournal}
use Rattle.af_script.specs.Data.{ScriptData}
use Rattle.af_told_law.proofs.FirstSteps.{stands_first}
use Rattle.af_session.specs.NewSession.{IsNewSession}
use Rattle.af_engine.specs.Shares.{SharedState}
use Rattle.af_told_law.proofs.PipeCells.{cells_new}
use Rattle.af_told_law.proofs.SmallRuns.{new_small}
use Rattle.af_play_law.specs.PlayLaws.{EndsAsRun, PlaysAreToldAlone, journal_with}
use Rattle.af_play_law.specs.PlayRuns.{PlayHolds, PlaysOn, RunIsTold, all_over}
use Rattle.af_play_law.proofs.PlayEnds.{AllHome, all_at_home, all_legal, plays_home}
use Rattle.af_play_law.proofs.ReportsCount.{new_counts}
use Rattle.af_play_law.proofs.RunTold.{runs_told}

module _ (script : ScriptData) (files : List (List Frame)) (shared : SharedState) (x : SessionState) (new : IsNewSession script shared x) where
  abbrev s : Session
  s = session_of script files

  told : Tells s (new_run s) no_deeds x
  told = new_told script files shared x new

  took_none : TookCounted x.fast
  took_none = ap (λ (l : List ℕ). length l) told.shared.taken ∙ sym (ap (λ (l : List ServerEvent). frames_taken l) told.shared.takes)

  pub holds_first : (marks : Marks) → PlayHolds s marks (new_run s) no_deeds x
  holds_first marks = record {
    stands = record {
      told = told;
      stands = stands_first script shared x new;
      known = known_new script files shared x new;
      report = inl refl;
      took = took_none;
      cells = cells_new script files shared x new;
      small = new_small script files shared x new;
      counts = new_counts s;
      carried = carried_new (setup_of s);
    };
    marked = new_marked marks s (new_small script files shared x new);
  }

  goes_first : x.normal.ended ≡ false
  goes_first = ap (λ (k : NormalKept). k.ended) new.kept

  module _ (t : SessionState) (rounds : List RoundSeen) (plays : PlaysOn s (marks_of rounds) x rounds t) (over : all_over t ≡ true) (form : IsJournal (journal_with script rounds)) where
    run_is : RunIsTold s (marks_of rounds) (new_run s) no_deeds rounds t
    run_is = runs_told s (marks_of rounds) rounds (new_run s) no_deeds x t (holds_first (marks_of rounds)) plays

    abbrev last : Run
    last = run_from s (new_run s) rounds

    told_last : Tells s last run_is.deeds t
    told_last = run_is.holds.stands.told

    ended_parts : (t.normal.ended ≡ true) × ((t.fast.exited && list_all (λ (p : PartyState). p.client.ended) t.clients) ≡ true)
    ended_parts = and_parts t.normal.ended (t.fast.exited && list_all (λ (p : PartyState). p.client.ended) t.clients) over

    both : BothEnded last
    both = record {
      normal = sym (ap (λ (k : NormalKept). k.ended) told_last.normal.kept) ∙ ended_parts.0;
      fast = sym told_last.fast.exited ∙ (and_parts t.fast.exited (list_all (λ (p : PartyState). p.client.ended) t.clients) ended_parts.1).0;
    }

    some_round : (rs : List RoundSeen) → PlaysOn s (marks_of rounds) x rs t → 1 ≤ length rs
    some_round [] same = absurd (true≢false (sym ended_parts.0 ∙ ap (λ (q : SessionState). q.normal.ended) same ∙ goes_first))
    some_round (r ∷ rs) on = omega arith

    home : AllHome last.normal
    home = subst AllHome told_last.normal.kept (all_at_home (kept_of t.normal) (plays_home s (marks_of rounds) rounds x t plays (subst EndsHome (sym new.kept) (new_ends (script_setup script)))) ended_parts.0)

    pub ends_as_run : EndsAsRun script files (journal_with script rounds)
    ends_as_run = record {
      so_far = record { tracks = refl; form = form; rounds = all_legal s (marks_of rounds) rounds (new_run s) run_is.sure home };
      ended = rounds_end s (new_run s) rounds (some_round rounds plays) (let c = told.count.0 in omega (arith, c)) both;
    }

pub plays_told : PlaysAreToldAlone
plays_told script files shared x t rounds new plays over form = ends_as_run script files shared x new t rounds plays over form
