-- A work that is over and isn't done: a play that was cut off at its limit, whose files are both whole, or a judgement that refuses. The line of the work is printed or not.
use Rattle.std.proofs.Common.{◌≡◌, ℕ, ◌++◌, List, [], Option, Some, Result, Ok, Err, IsTrue, is_some, false, arith, inl, inr, length, refl, subst, sym}
use Rattle.af_commands.proofs.Common.{Ending, Exact, Files, Job, Judge, Judged, JudgesWords, LeavesFront, Limit, Over, Refusal, RefusesWords, Request, Rounds, SetsFile, Stop, Traced, Work, ended_status, ending_text, limit_line, with_files}
use Rattle.std.proofs.lemmas.List.{take_all}
use Rattle.af_offline.specs.declared.status.Status.TheVariants as status
use Rattle.af_offline.specs.Asked.{Session}
use Rattle.af_commands.specs.Ends.{AsksEnding, EndsAsAsked, EndsWork, IsCutOff, IsEnded, IsOver, LeavesWork, MayBeCut, Printed, Prints, PrintsFront, PrintsOwnLine, PrintsSomeLine, Renders, Works}

-- a file that was made anew with all of its bytes holds a front of these bytes
pub LeavesFront-whole : (old : Files) (name bytes : List ℕ) (new : Files) → SetsFile old name (Some bytes) new → LeavesFront old name bytes new
LeavesFront-whole old name bytes new set =
    inr (length bytes, subst (λ (held : List ℕ). SetsFile old name (Some held) new) (sym (take_all (length bytes) bytes (omega arith))) set)

leaves_ended : (ending : Ending) (work : Work) (target : List ℕ) (old new : Files) → EndsWork ending work target old new → LeavesWork work target old new
leaves_ended (Limit cycles) (Exact bytes line) target old new none = absurd none
leaves_ended (Limit cycles) (Session script files) target old new none = absurd none
leaves_ended (Limit cycles) (Judge script files pcm text) target old new none = absurd none
leaves_ended (Limit cycles) (Rounds script files journal) target old new (is, (bytes, text, play, set)) =
    inr (false, bytes, text, limit_line cycles, play, LeavesFront-whole _ journal text new set)
leaves_ended (Limit cycles) (Traced script files journal log room) target old new (is, (bytes, text, play, set)) =
    inl (inr (false, bytes, text, limit_line cycles, play, LeavesFront-whole _ journal text new set))
leaves_ended (Judged refusal) (Exact bytes line) target old new none = absurd none
leaves_ended (Judged refusal) (Session script files) target old new none = absurd none
leaves_ended (Judged refusal) (Rounds script files journal) target old new none = absurd none
leaves_ended (Judged refusal) (Traced script files journal log room) target old new none = absurd none
leaves_ended (Judged refusal) (Judge script files pcm text) target old new ended = ended.1

pub IsCutOff-ended : (ending : Ending) (asked : Result Job Refusal) (old new : Files) → IsEnded ending asked old new → IsCutOff asked old new
IsCutOff-ended ending (Ok job) old new ended = inl (inr (leaves_ended ending job.work job.target (with_files old job.first) new ended))
IsCutOff-ended ending (Err refusal) old new ended = absurd ended

pub IsOver-ended : (ending : Ending) (asked : Result Job Refusal) (old new : Files) → IsEnded ending asked old new → IsOver asked old new
IsOver-ended ending (Ok job) old new ended = (ending_text ending, inr (ending, refl, ended))
IsOver-ended ending (Err refusal) old new ended = absurd ended

-- the sink stopped in the line of an ending
pub Prints-end_cut : (ending : Ending) (asked : Result Job Refusal) (old new : Files) (before after : List ℕ) → IsEnded ending asked old new → PrintsFront (ending_text ending) before after → Prints status.StoreFault asked old new before after
Prints-end_cut ending (Ok job) old new before after ended front = inr (ending_text ending, inr (ending, refl, ended), front)
Prints-end_cut ending (Err refusal) old new before after ended front = absurd ended

may_be_cut : (cycles : ℕ) (work : Work) (target : List ℕ) (old new : Files) → EndsWork (Limit cycles) work target old new → MayBeCut cycles work
may_be_cut cycles (Exact bytes line) target old new none = absurd none
may_be_cut cycles (Session script files) target old new none = absurd none
may_be_cut cycles (Judge script files pcm text) target old new none = absurd none
may_be_cut cycles (Rounds script files journal) target old new (is, (bytes, text, play, set)) = (is, play.legal.1)
may_be_cut cycles (Traced script files journal log room) target old new (is, (bytes, text, play, set)) = (is, play.legal.1)

-- ## The status of an ending

module _ (asked : Result Job Refusal) (old new : Files) where
  pub Works-ended : (ending : Ending) → IsEnded ending asked old new → Works (ended_status ending) asked old new
  Works-ended (Limit cycles) ended = ended
  Works-ended (Judged refusal) ended = ended

  pub Prints-ended : (ending : Ending) (before after : List ℕ) → after ≡ before ++ ending_text ending → Prints (ended_status ending) asked old new before after
  Prints-ended (Limit cycles) before after printed = printed
  Prints-ended (Judged refusal) before after printed = printed

pub PrintsOwnLine-ended : (ending : Ending) (asked : Option Request) (before after : List ℕ) → AsksEnding ending asked → after ≡ before ++ ending_text ending → PrintsOwnLine (ended_status ending) asked before after
PrintsOwnLine-ended (Limit cycles) asked before after asks printed = (asks, printed)
PrintsOwnLine-ended (Judged refusal) asked before after asks printed = (asks, printed)

pub JudgesWords-ended : {X : Type 0} (ending : Ending) (names : Option X) → IsTrue (is_some names) → JudgesWords (ended_status ending) names
JudgesWords-ended (Limit cycles) names some = some
JudgesWords-ended (Judged refusal) names some = some

refuses : (work : Work) (target : List ℕ) (old new : Files) → (ending : Ending) → EndsWork ending work target old new → EndsAsAsked (ended_status ending) (Ok (record { first = []; target = target; work = work }))
refuses work target old new (Limit cycles) ended = inr (may_be_cut cycles work target old new ended)
refuses (Judge script files pcm text) target old new (Judged refusal) ended = inr ended.0
refuses (Rounds script files journal) target old new (Judged refusal) none = absurd none
refuses (Traced script files journal log room) target old new (Judged refusal) none = absurd none
refuses (Session script files) target old new (Judged refusal) none = absurd none
refuses (Exact bytes line) target old new (Judged refusal) none = absurd none

ends_as : (job : Job) (old new : Files) (ending : Ending) → EndsAsAsked (ended_status ending) (Ok (record { first = []; target = job.target; work = job.work })) → EndsAsAsked (ended_status ending) (Ok job)
ends_as job old new (Limit cycles) ends = ends
ends_as job old new (Judged refusal) ends = ends

pub EndsAsAsked-ended : (ending : Ending) (asked : Result Job Refusal) (old new : Files) → IsEnded ending asked old new → EndsAsAsked (ended_status ending) asked
EndsAsAsked-ended ending (Ok job) old new ended = ends_as job old new ending (refuses job.work job.target (with_files old job.first) new ending ended)
EndsAsAsked-ended ending (Err refusal) old new ended = absurd ended

-- ## A stop at an ending

module _ (X : Type 0) (stop : Stop) (ending : Ending) (is : stop ≡ Over ending) where
  pub end_reached : (asked : Result Job Refusal) (old new : Files) → Renders {X = X} (Err stop) asked old new → IsEnded ending asked old new
  end_reached asked old new ends = subst (λ (s : Stop). Renders {X = X} (Err s) asked old new) is ends

  -- nothing was printed by the time of the stop
  pub end_unprinted : (asked : Result Job Refusal) (old new : Files) (before after : List ℕ) → Printed {X = X} (Err stop) asked old new before after → after ≡ before
  end_unprinted asked old new before after printed = subst (λ (s : Stop). Printed {X = X} (Err s) asked old new before after) is printed

  pub end_asked : (asked : Option Request) (before after : List ℕ) → PrintsSomeLine {X = X} (Err stop) asked before after → AsksEnding ending asked × (after ≡ before)
  end_asked asked before after printed = subst (λ (s : Stop). PrintsSomeLine {X = X} (Err s) asked before after) is printed

  pub end_named : {Y : Type 0} (names : Option Y) → RefusesWords {X = X} (Err stop) names → IsTrue (is_some names)
  end_named {Y} names words = subst (λ (s : Stop). RefusesWords {X = X} (Err s) names) is words
