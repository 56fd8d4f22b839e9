-- A mixer whose draft says Exit does no more: its turns change no track, and once it pushed the Exit they push nothing.
use Rattle.std.proofs.Common.{◌≡◌, ℕ, zero, suc, ◌==◌, Bool, true, false, if◌then◌else◌, sym, refl, ap, subst, ◌∙◌, List, length}
use Rattle.af_told_law.proofs.Common.{AllByRecursion, Busy, Clean, Command, GoesOn, Learnt, LegalPush, NormalKept, Outside, Push, Pushed, Setup, TakeSeen, Turn, after_ack, after_edits, after_push, after_takes, after_tracks, asked, code_of, draft_commanded as with_command, edited, edited_to, commands_exit, learnt, lend, let_go, must_enter, must_leave, new_normal, next_command, no, ordered, pipe_size, track_at, turn_after}
use Rattle.af_base.specs.declared.state.Command.TheVariants.{Exit}
use Rattle.af_life.specs.Edits.{mutated}
use Rattle.af_audit.proofs.DoneTracks.{IsDone, exit_when_over, ordered_over, quiet_edits, takes_done}
use Rattle.af_told_law.specs.Between.{IsQuiet}

-- ## A turn keeps a mixer quiet

-- a turn keeps a mixer quiet if the draft says Exit
exit_keeps : (c : Setup) (k : Learnt) (m : NormalKept) (e : Turn) → IsQuiet m → commands_exit m.draft ≡ true → IsQuiet (after_edits c k e m)
exit_keeps c k m e quiet exit = subst IsQuiet (sym (quiet_edits c k m e exit (quiet.over exit))) quiet

-- one step changes neither whether the draft says Exit nor the last state pushed
record SaysTheSame (m x : NormalKept) : Type 0 where
  exit : commands_exit x.draft ≡ commands_exit m.draft
  last : x.last ≡ m.last

either_says : (b : Bool) (m x y : NormalKept) → SaysTheSame m x → SaysTheSame m y → SaysTheSame m (if b then x else y)
either_says true m x y h g = h
either_says false m x y h g = g

edits_say : (c : Setup) (k : Learnt) (m : NormalKept) (i : ℕ) → SaysTheSame m (edited_to c k m i)
unfolding edited let_go lend
edits_say c k m zero = record { exit = refl; last = refl }
edits_say c k m (suc i) =
    let y : NormalKept = edited_to c k m i in
    let h : SaysTheSame m y = edits_say c k m i in
    either_says (must_leave (track_at y.tracks i)) m (let_go i y) _ (record { exit = h.exit; last = h.last })
    (either_says (must_enter (track_at y.tracks i)) m (lend c i (k.own i) y) y (record { exit = h.exit; last = h.last }) h)

acked_says : (ack : Bool) (m : NormalKept) → SaysTheSame m (after_ack ack m)
acked_says true m = record { exit = refl; last = refl }
acked_says false m = record { exit = refl; last = refl }

-- a turn keeps a mixer quiet if the draft doesn't say Exit
module _ (c : Setup) (k : Learnt) (m : NormalKept) (e : Turn) (quiet : IsQuiet m) (runs : commands_exit m.draft ≡ false) where
  acked : NormalKept
  acked = after_tracks c k e (after_ack e.ack m)

  edits : NormalKept
  edits = edited_to c k acked (length acked.tracks)

  says : SaysTheSame m edits
  unfolding acked edits
  says = let a = acked_says e.ack m in let b = edits_say c k acked (length acked.tracks) in record { exit = b.exit ∙ a.exit; last = b.last ∙ a.last }

  still_runs : commands_exit edits.draft ≡ false
  still_runs = says.exit ∙ runs

  last_runs : commands_exit m.last ≡ false
  last_runs = by_last (commands_exit m.last) refl
    where
      by_last : (b : Bool) → commands_exit m.last ≡ b → commands_exit m.last ≡ false
      by_last true is = no (sym runs ∙ (quiet.rests is).1)
      by_last false is = is

  ordered_last : (command : Command) (x : NormalKept) → (ordered command x).last ≡ x.last
  unfolding ordered
  ordered_last command x = by_same (code_of command == code_of x.draft.command)
    where
      by_same : (b : Bool) → (if b then x else record x { draft = with_command command x.draft; dirty = true }).last ≡ x.last
      by_same true = refl
      by_same false = refl

  told : ℕ → Command
  told room = next_command (commands_exit edits.draft) edits.tracks room (pipe_size c)

  over_when_exit : (code_of (told e.room) == code_of Exit) ≡ true → AllByRecursion IsDone edits.tracks
  unfolding told
  over_when_exit h = exit_when_over edits.tracks e.room (pipe_size c) (sym (ap (λ (b : Bool). code_of (next_command b edits.tracks e.room (pipe_size c)) == code_of Exit) still_runs) ∙ h)

  edits_quiet : IsQuiet (ordered (told e.room) edits)
  edits_quiet = record {
    over = ordered_over (told e.room) edits still_runs over_when_exit;
    rests = λ exit. no (sym (ap commands_exit (ordered_last (told e.room) edits ∙ says.last) ∙ last_runs) ∙ exit);
  }

  runs_keeps : IsQuiet (after_edits c k e m)
  unfolding mutated acked edits told
  runs_keeps = edits_quiet

edited_quiet : (c : Setup) (k : Learnt) (m : NormalKept) (e : Turn) → IsQuiet m → IsQuiet (after_edits c k e m)
edited_quiet c k m e quiet = by_exit (commands_exit m.draft) refl
  where
    by_exit : (b : Bool) → commands_exit m.draft ≡ b → IsQuiet (after_edits c k e m)
    by_exit true exit = exit_keeps c k m e quiet exit
    by_exit false runs = runs_keeps c k m e quiet runs

push_quiet : (push : Push) (m : NormalKept) → IsQuiet m → IsQuiet (after_push push m)
push_quiet (Pushed number) m quiet = record { over = quiet.over; rests = λ exit. (refl, exit) }
push_quiet Clean m quiet = quiet
push_quiet (Busy seen expected) m quiet = quiet

takes_quiet : (c : Setup) (takes : List TakeSeen) (m : NormalKept) → IsQuiet m → IsQuiet (after_takes c takes m)
takes_quiet c takes m quiet = record { over = (λ exit. takes_done (asked c) takes m.tracks (quiet.over exit)); rests = quiet.rests }

-- a turn leaves a quiet mixer quiet
pub turn_quiet : (c : Setup) (k : Learnt) (m : NormalKept) (e : Turn) → IsQuiet m → IsQuiet (turn_after c k m e)
unfolding turn_after
turn_quiet c k m e quiet = by_end e.ended
  where
    by_end : (b : Bool) → IsQuiet (if b then record m { ended = true } else after_takes c e.mixes (after_push e.push (after_edits c k e m)))
    by_end true = record { over = quiet.over; rests = quiet.rests }
    by_end false = takes_quiet c e.mixes _ (push_quiet e.push _ (edited_quiet c k m e quiet))

-- a new mixer is quiet
pub new_quiet : (c : Setup) → IsQuiet (new_normal c)
new_quiet c = record { over = (λ exit. no exit); rests = (λ exit. no exit) }

-- ## Once the Exit was pushed

clean_push : (push : Push) (m : NormalKept) → m.dirty ≡ false → LegalPush m push → push ≡ Clean
clean_push (Pushed number) m clean legal = no (sym clean ∙ legal.0)
clean_push Clean m clean legal = refl
clean_push (Busy seen expected) m clean legal = no (sym clean ∙ legal.0)

module _ (c : Setup) (o : Outside) (m : NormalKept) (e : Turn) (quiet : IsQuiet m) (exit : commands_exit m.last ≡ true) where
  same_edits : after_edits c (learnt o) e m ≡ m
  same_edits = quiet_edits c (learnt o) m e (quiet.rests exit).1 (quiet.over (quiet.rests exit).1)

  -- the push of a turn that goes on is none
  pub push_clean : GoesOn c o m e → e.push ≡ Clean
  push_clean goes = clean_push e.push m (quiet.rests exit).0 (subst (λ (x : NormalKept). LegalPush x e.push) same_edits goes.push)
