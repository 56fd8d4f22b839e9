-- What is left behind, and what is printed, if a command stops.
use Rattle.std.proofs.Common.{◌≡◌, ◌∙◌, ◌≤◌, ℕ, ◌++◌, List, Option, Some, is_some, IsTrue, Result, Ok, Err, IfErr, IsErrAnd, String, string_bytes, ok_or, append-nil, refl, sym, ap, subst, inl, inr, arith}
use Rattle.af_commands.proofs.Common.{Ending, File, Files, Global, StopsOutside, Job, JudgesWords, Memory, Over, Refusal, Refused, RefusesWords, Request, Rose, SameFiles, Script, Stop, Store, SuitsRequest, Usage, asked_of, job_of, refusal_text, request_of, status_of}
use Rattle.af_offline.specs.declared.status.Status.TheVariants as status
use Rattle.af_offline.specs.Asked.{◌>>=◌}
use Rattle.af_commands.specs.Ends.{Makes, Works, Prints, PrintsFront, PrintsCut, PrintsLine, Renders, Printed, WholeUnless, AsksEnding, IsDoneLine, IsAskedLine, PrintsOwnLine, PrintsSomeLine, EndsAsAsked}
use Rattle.af_commands.proofs.Made.{IsCutOff-same, IsCutOff-made, IsOver-made, Renders-made, PrintsWhole-made, PrintsCut-made}

-- what the words of a request ask for is what the request asks for
pub asked_named : (files : Files) (words : List (List ℕ)) (request : Request) → Some request ≡ request_of words → asked_of files words ≡ job_of files request
asked_named files words request named = ap (λ (asked : Option Request). ok_or asked Usage >>= job_of files) (sym named)

-- memory ran out before anything was done
pub Renders-memory : {X : Type 0} (r : Result X Stop) (asked : Result Job Refusal) (files : Files) → IsErrAnd r (λ stop. stop ≡ Memory) → Renders r asked files files
Renders-memory (Ok x) asked files memory = absurd memory
Renders-memory {X} (Err stop) asked files memory = subst (λ (s : Stop). Renders {X = X} (Err s) asked files files) (sym memory) (IsCutOff-same asked files files (λ name. refl))

-- the work stopped before its line was made
pub Renders-stopped : (X : Type 0) (e : Stop) (asked : Result Job Refusal) (old new : Files) → Makes (Err e) asked old new → Renders {X = X} (Err e) asked old new
Renders-stopped X (Refused refusal) asked old new made = made
Renders-stopped X (Over over) asked old new made = made
Renders-stopped X Store asked old new made = made
Renders-stopped X Memory asked old new made = made

pub Printed-stopped : (X : Type 0) (e : Stop) (asked : Result Job Refusal) (old new : Files) (before : List ℕ) → Printed {X = X} (Err e) asked old new before before
Printed-stopped X (Refused refusal) asked old new before = refl
Printed-stopped X (Over over) asked old new before = refl
Printed-stopped X Store asked old new before = inl refl
Printed-stopped X Memory asked old new before = refl

pub WholeUnless-stopped : (X : Type 0) (failed : Type 0) (e : Stop) (asked : Result Job Refusal) (old new : Files) → (e ≡ Store → failed) → WholeUnless {X = X} failed (Err e) asked old new
WholeUnless-stopped X failed (Refused refusal) asked old new fails = tt
WholeUnless-stopped X failed (Over over) asked old new fails = tt
WholeUnless-stopped X failed Store asked old new fails = inl (fails refl)
WholeUnless-stopped X failed Memory asked old new fails = tt

pub RefusesWords-stopped : (X Y Z : Type 0) (e : Stop) (request : Request) (names : Option Y) → SuitsRequest {X = Z} (Err e) request → IsTrue (is_some names) → RefusesWords {X = X} (Err e) names
RefusesWords-stopped X Y Z (Refused Usage) request names fits some = absurd fits
RefusesWords-stopped X Y Z (Refused (Script fault)) request names fits some = some
RefusesWords-stopped X Y Z (Refused (File fault)) request names fits some = some
RefusesWords-stopped X Y Z (Over over) request names fits some = some
RefusesWords-stopped X Y Z Store request names fits some = tt
RefusesWords-stopped X Y Z Memory request names fits some = tt

-- a line was made, and printed or not
pub Renders-printed : {X : Type 0} (r : Result X Stop) (asked : Result Job Refusal) (line : String Global) (old new : Files) → Makes (Ok line) asked old new → IfErr r StopsOutside → Renders r asked old new
Renders-printed {X} (Ok x) asked line old new made outside = Renders-made X x asked line old new made
Renders-printed (Err (Refused refusal)) asked line old new made outside = absurd outside
Renders-printed (Err (Over over)) asked line old new made outside = absurd outside
Renders-printed (Err Store) asked line old new made outside = IsCutOff-made asked line old new made
Renders-printed (Err Memory) asked line old new made outside = IsCutOff-made asked line old new made

pub Printed-printed : {X : Type 0} (r : Result X Stop) (asked : Result Job Refusal) (line : String Global) (old new : Files) (before after : List ℕ) → Makes (Ok line) asked old new → PrintsLine r (string_bytes line) before after
    → Printed r asked old new before after
Printed-printed (Ok x) asked line old new before after made printed = PrintsWhole-made asked line old new before after made printed
Printed-printed (Err (Refused refusal)) asked line old new before after made printed = printed
Printed-printed (Err (Over over)) asked line old new before after made printed = printed
Printed-printed (Err Store) asked line old new before after made printed = inr (PrintsCut-made asked line old new before after made printed)
Printed-printed (Err Memory) asked line old new before after made printed = printed

pub WholeUnless-printed : {X : Type 0} (failed : Type 0) (r : Result X Stop) (asked : Result Job Refusal) (line : String Global) (old new : Files) → Makes (Ok line) asked old new → WholeUnless failed r asked old new
WholeUnless-printed failed (Ok x) asked line old new made = tt
WholeUnless-printed failed (Err (Refused refusal)) asked line old new made = tt
WholeUnless-printed failed (Err (Over over)) asked line old new made = tt
WholeUnless-printed failed (Err Store) asked line old new made = inr (IsOver-made asked line old new made)
WholeUnless-printed failed (Err Memory) asked line old new made = tt

pub RefusesWords-written : {X Y : Type 0} (r : Result X Stop) (names : Option Y) → IfErr r StopsOutside → IsTrue (is_some names) → RefusesWords r names
RefusesWords-written (Ok x) names outside some = some
RefusesWords-written (Err (Refused refusal)) names outside some = absurd outside
RefusesWords-written (Err (Over over)) names outside some = some
RefusesWords-written (Err Store) names outside some = tt
RefusesWords-written (Err Memory) names outside some = tt

-- a count that rose later has risen before
pub Rose-later : (before mid now : ℕ) → before ≤ mid → Rose mid now → Rose before now
Rose-later before mid now later rose = omega arith

-- the work ended well
pub Works-done : (X : Type 0) (x : X) (asked : Result Job Refusal) (old new : Files) → Renders {X = X} (Ok x) asked old new → Works status.Done asked old new
Works-done X x (Ok job) old new written = (refl, written)
Works-done X x (Err refusal) old new none = absurd none

works_as : (refusal : Refusal) (old new : Files) → SameFiles old new → Works (status_of refusal) (Err refusal) old new
works_as Usage old new same = (refl, same)
works_as (Script fault) old new same = (refl, same)
works_as (File fault) old new same = (refl, same)

-- a refusal was printed, and no file has changed
pub Works-refused : (refusal : Refusal) (asked : Result Job Refusal) (old new : Files) → asked ≡ Err refusal → SameFiles old new → Works (status_of refusal) asked old new
Works-refused refusal asked old new is same = subst (λ (told : Result Job Refusal). Works (status_of refusal) told old new) (sym is) (works_as refusal old new same)

prints_as : (refusal : Refusal) (old new : Files) (before after : List ℕ) → after ≡ before ++ refusal_text refusal → Prints (status_of refusal) (Err refusal) old new before after
prints_as Usage old new before after printed = printed
prints_as (Script fault) old new before after printed = printed
prints_as (File fault) old new before after printed = printed

pub Prints-refused : (refusal : Refusal) (asked : Result Job Refusal) (old new : Files) (before after : List ℕ) → asked ≡ Err refusal → after ≡ before ++ refusal_text refusal → Prints (status_of refusal) asked old new before after
Prints-refused refusal asked old new before after is printed =
    subst (λ (told : Result Job Refusal). Prints (status_of refusal) told old new before after) (sym is) (prints_as refusal old new before after printed)

-- the sink stopped in the line of a refusal
pub Prints-refusal_cut : (refusal : Refusal) (asked : Result Job Refusal) (old new : Files) (before after : List ℕ) → asked ≡ Err refusal → PrintsFront (refusal_text refusal) before after → Prints status.StoreFault asked old new before after
Prints-refusal_cut refusal asked old new before after is front =
    inr (subst (λ (told : Result Job Refusal). PrintsCut told old new before after) (sym is) front)

pub JudgesWords-refused : (X Y : Type 0) (refusal : Refusal) (names : Option Y) → RefusesWords {X = X} (Err (Refused refusal)) names → JudgesWords (status_of refusal) names
JudgesWords-refused X Y Usage names words = words
JudgesWords-refused X Y (Script fault) names words = words
JudgesWords-refused X Y (File fault) names words = words

-- ---- the line, by the end and the words alone

-- nothing was printed yet
pub PrintsSomeLine-nothing : (X : Type 0) (e : Stop) (asked : Option Request) (before : List ℕ) → ((over : Ending) → e ≡ Over over → AsksEnding over asked) → PrintsSomeLine {X = X} (Err e) asked before before
PrintsSomeLine-nothing X (Refused refusal) asked before limited = refl
PrintsSomeLine-nothing X (Over over) asked before limited = (limited over refl, refl)
PrintsSomeLine-nothing X Store asked before limited = (refusal_text Usage, inr (inl (Usage, refl)), (0, sym (append-nil before)))
PrintsSomeLine-nothing X Memory asked before limited = refl

-- nothing was printed, as a step of a request that the words name stopped
pub PrintsSomeLine-stopped : (X Z : Type 0) (e : Stop) (request : Request) (asked : Option Request) (before : List ℕ) → Some request ≡ asked → SuitsRequest {X = Z} (Err e) request → PrintsSomeLine {X = X} (Err e) asked before before
PrintsSomeLine-stopped X Z e request asked before named suits = PrintsSomeLine-nothing X e asked before (λ over is.
    subst (AsksEnding over) named (subst (λ (stop : Stop). SuitsRequest {X = Z} (Err stop) request) is suits))

pub PrintsSomeLine-memory : {X : Type 0} (r : Result X Stop) (asked : Option Request) (before : List ℕ) → IsErrAnd r (λ stop. stop ≡ Memory) → PrintsSomeLine r asked before before
PrintsSomeLine-memory (Ok x) asked before memory = absurd memory
PrintsSomeLine-memory {X} (Err stop) asked before memory = PrintsSomeLine-nothing X stop asked before (λ over is. let clash : Memory ≡ Over over = sym memory ∙ is in cc)

-- a line of a request that the words name is a line that they ask for
pub asked_line : (asked : Option Request) (request : Request) (line : List ℕ) → Some request ≡ asked → IsDoneLine request line → IsAskedLine asked line
asked_line asked request line named is = subst (λ (a : Option Request). IsAskedLine a line) named is

-- a line of the command was printed, or a front of it, or nothing
pub PrintsSomeLine-written : {X : Type 0} (r : Result X Stop) (asked : Option Request) (line before after : List ℕ) → IfErr r StopsOutside → IsAskedLine asked line → PrintsLine r line before after → PrintsSomeLine r asked before after
PrintsSomeLine-written (Ok x) asked line before after outside is printed = (line, is, printed)
PrintsSomeLine-written (Err (Refused refusal)) asked line before after outside is printed = printed
PrintsSomeLine-written (Err (Over over)) asked line before after outside is printed = absurd outside
PrintsSomeLine-written (Err Store) asked line before after outside is printed = (line, inl is, printed)
PrintsSomeLine-written (Err Memory) asked line before after outside is printed = printed

pub PrintsOwnLine-refused : (refusal : Refusal) (asked : Option Request) (before after : List ℕ) → after ≡ before ++ refusal_text refusal → PrintsOwnLine (status_of refusal) asked before after
PrintsOwnLine-refused Usage asked before after printed = printed
PrintsOwnLine-refused (Script fault) asked before after printed = printed
PrintsOwnLine-refused (File fault) asked before after printed = printed

-- the sink stopped in the line of a refusal
pub PrintsOwnLine-refusal_cut : (refusal : Refusal) (asked : Option Request) (before after : List ℕ) → PrintsFront (refusal_text refusal) before after → PrintsOwnLine status.StoreFault asked before after
PrintsOwnLine-refusal_cut refusal asked before after front = (refusal_text refusal, inr (inl (refusal, refl)), front)

-- the work ended well, and its status is that of what was asked for
pub EndsAsAsked-done : (X : Type 0) (x : X) (asked : Result Job Refusal) (old new : Files) → Renders {X = X} (Ok x) asked old new → EndsAsAsked status.Done asked
EndsAsAsked-done X x (Ok job) old new written = inl refl
EndsAsAsked-done X x (Err refusal) old new none = absurd none
