-- What a judge keeps decides the answers of a client's calls, and follows them.
use Rattle.std.specs.Prelude.{◌≡◌, ◌↔◌, ◌+◌, if◌then◌else◌, ◌∷◌, ◌++◌}
use Rattle.std.proofs.Common.{ap, sym, subst, ◌∙◌, length-append, length-drop}
use Rattle.af_judge.proofs.Common.{AnswersOn, Bool, ClientCall, ClientEvent, ClientKept, IsMade, IsWanted, List, Side, Track, Want, [], argument_of, asked_by, called, client_begins, client_call_events, client_keeps, client_kept, drop, false, flushes-append, flushes_of, fold, is_of_commands, is_send, is_some, length, length-take, min, refl, released_by, true, with_call, ℕ}
use Rattle.af_base.specs.declared.event.ClientCall.TheVariants as call
use Rattle.af_runs.specs.declared.want.ClientCommand.{ClientCommand}
use Rattle.af_runs.specs.declared.want.ClientCommand.TheVariants as command
use Rattle.af_runs.specs.declared.want.Want.TheVariants as want
use Rattle.af_runs.specs.Clients.{command_code}
use Rattle.af_runs.specs.ClientTurns.{side_of}
use Rattle.af_judge.specs.Judging.{SideKept, side_kept, AnswersBy, MadeBy, WantedBy, argument_by, kept_called, kept_for, sides_called, sides_kept, words_of, flushes_asked}

-- an answer is right by the list exactly if it is by what is kept
pub answers-by : (b : Side) (asked : ℕ) (answer : ClientCall) → AnswersOn b asked answer ≡ AnswersBy (side_kept b) asked answer
answers-by b asked (call.Put front count) = refl
answers-by b asked _ = refl

fold-more : (frames : ℕ) (k : ClientKept) (xs ys : List ClientEvent) → fold (client_keeps frames) k (xs ++ ys) ≡ fold (client_keeps frames) (fold (client_keeps frames) k xs) ys
fold-more frames k [] ys = refl
fold-more frames k (x ∷ xs) ys = fold-more frames (client_keeps frames k x) xs ys

-- how many flushes and words a call adds
flushes-call : (shut : Bool) (answer : ClientCall) → flushes_of (client_call_events shut answer) ≡ flushes_asked answer
flushes-call shut (call.Put front count) = refl
flushes-call shut (call.Full front) = refl
flushes-call shut (call.Dead flags) = refl
flushes-call true (call.Corrupt front rear) = refl
flushes-call false (call.Corrupt front rear) = refl
flushes-call shut (call.Cleared flags) = refl
flushes-call shut (call.Flush count) = refl
flushes-call shut (call.Gain word) = refl
flushes-call shut (call.Sent front code argument) = refl
flushes-call shut (call.SendFull front) = refl
flushes-call shut (call.SendDead flags) = refl
flushes-call true (call.SendCorrupt front rear) = refl
flushes-call false (call.SendCorrupt front rear) = refl
flushes-call shut (call.Status word) = refl
flushes-call shut (call.Poke command word value) = refl

-- what is kept of three parts that are kept alike
kept-parts : (a b : SideKept) → a.shape ≡ b.shape → a.kept ≡ b.kept → a.flushes ≡ b.flushes → a.words ≡ b.words → a ≡ b
kept-parts a b shape kept flushes words i = record { shape = shape i; kept = kept i; flushes = flushes i; words = words i }

-- what is kept of a side after a call that released these words
pub side_kept-called : (b : Side) (answer : ClientCall) (words : List ℕ) → side_kept (called answer words b) ≡ kept_called answer (length words) (side_kept b)
side_kept-called b answer words =
    let shut : Bool = is_some (client_kept b.shape.frames b.shape.base b.events).shut in
    kept-parts _ _ refl
    (fold-more b.shape.frames (client_begins b.shape.base) b.events (client_call_events shut answer))
    (flushes-append b.events (client_call_events shut answer) ∙ ap (λ n. flushes_of b.events + n) (flushes-call shut answer))
    (length-append b.released words)

-- ## The call that is wanted

argument-by : (t : Track) (sending : ClientCommand) → argument_of t sending ≡ argument_by (side_kept t.stream) sending
argument-by t command.Open = refl
argument-by t _ = refl

wanted-by : (t : Track) (wanted : Want) (answer : ClientCall) → IsWanted t wanted answer ≡ WantedBy (side_kept t.stream) wanted answer
wanted-by t (want.Send sending) answer = ap (λ n. is_send (command_code sending) n answer ≡ true) (argument-by t sending)
wanted-by t _ answer = refl

kept-either : (b : Bool) (x y : Side) → side_kept (if b then x else y) ≡ (if b then side_kept x else side_kept y)
kept-either true x y = refl
kept-either false x y = refl

-- a call answers right by the list of its side
side-answers : (t : Track) (asked : ℕ) (answer : ClientCall) → AnswersOn (side_of t answer) asked answer ≡ AnswersBy (kept_for (sides_kept t) answer) asked answer
side-answers t asked answer = answers-by (side_of t answer) asked answer ∙ ap (λ k. AnswersBy k asked answer) (kept-either (is_of_commands answer) t.commands t.stream)

-- a call is made right exactly if it is by what is kept
pub made-by : (t : Track) (wanted : Want) (answer : ClientCall) → IsMade t wanted answer ↔ MadeBy (sides_kept t) wanted answer
made-by t wanted answer = (
  (λ h. record { is_wanted = subst (λ (A : Type 0). A) (wanted-by t wanted answer) h.0; answers = subst (λ (A : Type 0). A) (side-answers t (asked_by wanted) answer) h.1 }),
  (λ h. (subst (λ (A : Type 0). A) (sym (wanted-by t wanted answer)) h.is_wanted, subst (λ (A : Type 0). A) (sym (side-answers t (asked_by wanted) answer)) h.answers)),
)

-- ## What a call leaves

-- how many words a call releases
released-long : (t : Track) (answer : ClientCall) → length (released_by t answer) ≡ words_of (length t.file) (sides_kept t) answer
released-long t (call.Put front count) = length-take count (drop (length t.stream.released) t.file) ∙ ap (λ n. min count n) (length-drop (length t.stream.released) t.file)
released-long t _ = refl

-- what is kept of a side after a call of its track
kept-after : (t : Track) (answer : ClientCall) (b : Side) → side_kept (called answer (released_by t answer) b) ≡ kept_called answer (words_of (length t.file) (sides_kept t) answer) (side_kept b)
kept-after t answer b = side_kept-called b answer (released_by t answer) ∙ ap (λ n. kept_called answer n (side_kept b)) (released-long t answer)

-- what is kept of a track of which either side is changed
sides-by : (on : Bool) (t : Track) (commands stream : Side) (k l : SideKept) → side_kept commands ≡ k → side_kept stream ≡ l
    → sides_kept (if on then record t { commands = commands } else record t { stream = stream }) ≡ (if on then record (sides_kept t) { commands = k } else record (sides_kept t) { stream = l })
sides-by true t commands stream k l e f i = record { stream = side_kept t.stream; commands = e i }
sides-by false t commands stream k l e f i = record { stream = f i; commands = side_kept t.commands }

-- what is kept of a track after a call
pub sides_kept-called : (t : Track) (answer : ClientCall) → sides_kept (with_call t answer) ≡ sides_called (length t.file) answer (sides_kept t)
sides_kept-called t answer = sides-by (is_of_commands answer) t _ _ _ _ (kept-after t answer t.commands) (kept-after t answer t.stream)
