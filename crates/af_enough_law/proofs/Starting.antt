-- What holds after each of the first rounds, while not all is over.
use Rattle.std.proofs.Common.{◌≡◌, ◌⊎◌, inl, inr, ℕ, ◌+◌, ◌≤◌, ◌<◌, Bool, true, false, All, List, length, refl, ap, arith}
use Rattle.af_enough_law.proofs.Common.{Frame, IsScript, LegalRound, Marks, RoundSeen, Run, ScriptData, Session, Setting, TrackKept, after_round, all_play_through, at_new, is_over, new_run, scales_of, session_of, setup_of, spec_of, track_at, track_count}
use Rattle.af_enough_law.proofs.Carried.{SessionStands, SessionCarried}
use Rattle.af_enough_law.proofs.Ends.{AllOver}
use Rattle.af_enough_law.proofs.EndWords.{Underway}
use Rattle.af_enough_law.proofs.AwayKeeps.{open_of}
use Rattle.af_enough_law.proofs.CarryBegins.{begins_session, begins_track, settings_long}
use Rattle.af_enough_law.proofs.EndWithin.{still_or_over}
use Rattle.af_enough_law.proofs.MiddleEnds.{over_lives}
use Rattle.af_enough_law.proofs.NearSums.{counts_begin}
use Rattle.af_enough_law.proofs.PipeKept.{sized}
use Rattle.af_enough_law.proofs.SessionRounds.{session_carried}
use Rattle.af_enough_law.proofs.StartCounts.{Counting, counting_round}
use Rattle.af_enough_law.proofs.StartLent.{retries_round}
use Rattle.af_enough_law.proofs.StartPipe.{PipeCase, case_round}
use Rattle.af_enough_law.proofs.Underway.{new_underway}

-- the session stands and is under way, the pipe is in one of its cases, the blocks are counted, and each track has so many retries
pub record Begins (s : Session) (run : Run) (n : ℕ) : Type 0 where
  pub stands : SessionStands s run
  pub carried : 1 ≤ length run.states → SessionCarried s run
  pub under : Underway s run
  pub pipe : PipeCase s run
  pub counting : (i : ℕ) → i < track_count s → Counting run i (spec_of s i).frames (spec_of s i).base
  pub retries : (i : ℕ) → i < track_count s → n ≤ (track_at run.normal.tracks i).life.retries

-- if not every life has ended, not all is over
pub not_over : (tracks : List TrackKept) → (AllOver tracks → ⊥) → is_over tracks ≡ false
not_over tracks never = by (is_over tracks) refl
  where
    by : (b : Bool) → is_over tracks ≡ b → is_over tracks ≡ false
    by true whole = absurd (never (λ i low. over_lives tracks i low whole))
    by false going = going

-- the run before the first round begins so
pub begins_all : (script : ScriptData) (files : List (List Frame)) → IsScript script → all_play_through script ≡ true → (let s = session_of script files in Begins s (new_run s) 50)
begins_all script files is through =
    let s : Session = session_of script files in
    record {
      stands = begins_session s;
      carried = λ some. absurd (let z : ⊥ = omega (arith, some) in z);
      under = new_underway s;
      pipe = inl refl;
      counting = λ i named. let b = begins_track script files i is through named in record { opens = open_of (new_run s) i b.most b.total b.carried; block = counts_begin script files i is named };
      retries = λ i named. let a = ap (λ (x : TrackKept). x.life.retries) (at_new (length (setup_of s).settings) i) in omega (arith, a);
    }

module _ (s : Session) (marks : Marks) (is : IsScript s.script) (lawful : (i : ℕ) → i < track_count s → marks.commands i ≡ true) (run : Run) (round : RoundSeen) (legal : LegalRound false s marks run round) (n : ℕ) (few : n + 1 ≤ 50) (b : Begins s run (n + 1)) (never : AllOver (after_round s run round).normal.tracks → ⊥) where
  abbrev scales : All (λ (x : Setting). x.scale ≤ 4096) (setup_of s).settings
  scales = scales_of s is

  abbrev long : length (setup_of s).settings ≡ track_count s
  long = settings_long s

  -- the session is carried after the round
  pub session_then : SessionCarried s (after_round s run round)
  session_then = session_carried s marks scales long run round legal b.stands (not_over (after_round s run round).normal.tracks never)

  -- A round keeps a track's beginning, but for a retry
  pub begins_round : Begins s (after_round s run round) n
  begins_round = record {
    stands = session_then.stands;
    carried = λ some. session_then;
    under = under_then;
    pipe = case_round s marks scales long run round legal b.stands b.under (sized s is) b.carried under_then b.pipe;
    counting = λ i named. counting_round s marks scales long run round legal b.stands i named (lawful i named) (spec_of s i).frames (spec_of s i).base (b.counting i named);
    retries = λ i named. retries_round s marks scales long run round legal b.stands i n named few (b.retries i named);
  }
    where
      under_then : Underway s (after_round s run round)
      under_then = by (still_or_over s marks scales (sized s is).pipe (sized s is).wide run round legal b.under)
        where
          by : Underway s (after_round s run round) ⊎ AllOver (after_round s run round).normal.tracks → Underway s (after_round s run round)
          by (inl u) = u
          by (inr over) = absurd (never over)
