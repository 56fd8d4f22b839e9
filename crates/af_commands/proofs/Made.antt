-- What a command makes, and what it leaves behind if it stops.
use Rattle.std.proofs.Common.{◌≡◌, ℕ, List, ◌++◌, Some, Result, Ok, Err, String, string_bytes, sym, ap, subst, inl, inr}
use Rattle.af_commands.proofs.Common.{Files, Global, Job, LeavesFront, Meets, Memory, Over, Refusal, Refused, SameFiles, SetsFile, Stop, Store, StoreError, files_are, output_job, stop_of, with_files}
use Rattle.af_io.proofs.Outputs.{LeavesFronts-none}
use Rattle.af_io.specs.declared.store.StoreError.TheVariants as outside
use Rattle.af_offline.specs.declared.outputs.Output.{Output}
use Rattle.af_offline.specs.Asked.{◌>>=◌}
use Rattle.af_commands.specs.Ends.{LeavesWork, IsOver, IsCutOff, Makes, Renders, PrintsFront, PrintsWhole, PrintsCut}

-- ## Making

pub IsCutOff-same : (asked : Result Job Refusal) (old new : Files) → SameFiles old new → IsCutOff asked old new
IsCutOff-same (Ok job) old new same = inl (inl (LeavesFronts-none old job.first new same))
IsCutOff-same (Err refusal) old new same = same

-- the work stopped before anything was done
pub Makes-stopped : {X : Type 0} (view : X → Job) (e : Stop) (asked : Result Job Refusal) (old new : Files) → Meets view (Err e) asked → SameFiles old new → Makes (Err e) asked old new
Makes-stopped view (Refused refusal) asked old new told same = (told, same)
Makes-stopped view (Over over) asked old new told same = absurd told
Makes-stopped view Store asked old new told same = IsCutOff-same asked old new same
Makes-stopped view Memory asked old new told same = IsCutOff-same asked old new same

-- the work stopped before anything was done, at a step that more steps would have followed
pub Makes-stopped_before : {X Y : Type 0} (view : X → Y) (e : Stop) (told : Result Y Refusal) (next : Y → Result Job Refusal) (old new : Files) → Meets view (Err e) told → SameFiles old new → Makes (Err e) (told >>= next) old new
Makes-stopped_before {X} {Y} view (Refused refusal) told next old new is same = (ap (λ (r : Result Y Refusal). r >>= next) is, same)
Makes-stopped_before view (Over over) told next old new is same = absurd is
Makes-stopped_before view Store told next old new is same = IsCutOff-same (told >>= next) old new same
Makes-stopped_before view Memory told next old new is same = IsCutOff-same (told >>= next) old new same

-- a work whose line was made is cut off if the line isn't printed
pub IsCutOff-made : (asked : Result Job Refusal) (line : String Global) (old new : Files) → Makes (Ok line) asked old new → IsCutOff asked old new
IsCutOff-made (Ok job) line old new made = inr (string_bytes line, made)
IsCutOff-made (Err refusal) line old new made = absurd made

pub IsOver-made : (asked : Result Job Refusal) (line : String Global) (old new : Files) → Makes (Ok line) asked old new → IsOver asked old new
IsOver-made (Ok job) line old new made = (string_bytes line, inl made)
IsOver-made (Err refusal) line old new made = absurd made

pub Renders-made : (X : Type 0) (x : X) (asked : Result Job Refusal) (line : String Global) (old new : Files) → Makes (Ok line) asked old new → Renders {X = X} (Ok x) asked old new
Renders-made X x (Ok job) line old new made = (string_bytes line, made)
Renders-made X x (Err refusal) line old new made = absurd made

pub PrintsWhole-made : (asked : Result Job Refusal) (line : String Global) (old new : Files) (before after : List ℕ) → Makes (Ok line) asked old new → after ≡ before ++ string_bytes line → PrintsWhole asked old new before after
PrintsWhole-made (Ok job) line old new before after made printed = (string_bytes line, made, printed)
PrintsWhole-made (Err refusal) line old new before after made printed = absurd made

pub PrintsCut-made : (asked : Result Job Refusal) (line : String Global) (old new : Files) (before after : List ℕ) → Makes (Ok line) asked old new → PrintsFront (string_bytes line) before after → PrintsCut asked old new before after
PrintsCut-made (Ok job) line old new before after made printed = (string_bytes line, inl made, printed)
PrintsCut-made (Err refusal) line old new before after made printed = absurd made

-- the output could not be written, or not all of it
pub Makes-unwritten : (e : StoreError) (job : Job) (old new : Files) → LeavesWork job.work job.target (with_files old job.first) new → Makes (Err (stop_of e)) (Ok job) old new
Makes-unwritten outside.Failed job old new left = inl (inr left)
Makes-unwritten outside.Memory job old new left = inl (inr left)

-- ## Outputs of one piece

-- the output was written, and the line is to be printed
pub Makes-delivered : (output : Output) (line : String Global) (asked : Result Job Refusal) (target : List ℕ) (old mid new : Files) → asked ≡ Ok (output_job target output) → SameFiles old mid → line ≡ output.line → SetsFile mid target (Some output.bytes.items) new
    → Makes (Ok line) asked old new
Makes-delivered output line asked target old mid new is same line_is set =
    let here : SetsFile old target (Some output.bytes.items) new = subst (λ (files : Files). SetsFile files target (Some output.bytes.items) new) (files_are old mid same) set in
    subst (λ (told : Result Job Refusal). Makes (Ok line) told old new) (sym is) (ap string_bytes line_is, here)

-- the output was not written, or not all of it
pub Makes-undelivered : (output : Output) (e : StoreError) (asked : Result Job Refusal) (target : List ℕ) (old mid new : Files) → asked ≡ Ok (output_job target output) → SameFiles old mid → LeavesFront mid target output.bytes.items new
    → Makes (Err (stop_of e)) asked old new
Makes-undelivered output e asked target old mid new is same left =
    let here : LeavesFront old target output.bytes.items new = subst (λ (files : Files). LeavesFront files target output.bytes.items new) (files_are old mid same) left in
    subst (λ (told : Result Job Refusal). Makes (Err (stop_of e)) told old new) (sym is) (Makes-unwritten e (output_job target output) old new here)
