-- A normal mixer that has ended has all stream proxies home: an Exit comes into its draft only if they are, and from then on its turns change no track.
use Rattle.std.proofs.Common.{◌≡◌, ℕ, zero, suc, ◌==◌, ◌&&◌, ◌||◌, not, Bool, true, false, if◌then◌else◌, sym, refl, ap, subst, ◌∙◌, List, [], ◌∷◌, length}
use Rattle.af_audit.proofs.Common.{AllByRecursion, Busy, Clean, Command, Exit, Learnt, LegalTurn, NormalKept, Outside, Push, Pushed, Setup, TakeSeen, TrackKept, Turn, after_ack, after_edits, after_push, after_takes, after_tracks, asked, code_of, draft_commanded as with_command, edited, edited_to, commands_exit, is_home, lend, let_go, must_enter, must_leave, mutated, new_normal, next_command, no, ordered, pipe_size, track_at, turn_after}
use Rattle.af_audit.proofs.DoneTracks.{IsDone, exit_when_empty, exit_when_over, ordered_exit, ordered_over, quiet_edits, takes_done}

-- A draft that says Exit has only tracks that are done with, and so has a mixer that pushed an Exit. A mixer that has ended pushed an Exit
pub record EndsHome (m : NormalKept) : Type 0 where
  pub over : commands_exit m.draft ≡ true → AllByRecursion IsDone m.tracks
  pub exits : commands_exit m.last ≡ true → commands_exit m.draft ≡ true
  pub ended : m.ended ≡ true → commands_exit m.last ≡ true

-- ## What a turn keeps of a mixer

-- one step changes neither whether the draft says Exit, nor the last state pushed, nor whether the mixer has ended
record SaysTheSame (m x : NormalKept) : Type 0 where
  exit : commands_exit x.draft ≡ commands_exit m.draft
  last : x.last ≡ m.last
  ended : x.ended ≡ m.ended

either_says : (b : Bool) (m x y : NormalKept) → SaysTheSame m x → SaysTheSame m y → SaysTheSame m (if b then x else y)
either_says true m x y h g = h
either_says false m x y h g = g

edits_say : (c : Setup) (k : Learnt) (m : NormalKept) (i : ℕ) → SaysTheSame m (edited_to c k m i)
unfolding edited let_go lend
edits_say c k m zero = record { exit = refl; last = refl; ended = refl }
edits_say c k m (suc i) =
    let y : NormalKept = edited_to c k m i in
    let h : SaysTheSame m y = edits_say c k m i in
    let same : SaysTheSame m (record y { tracks = y.tracks }) = record { exit = h.exit; last = h.last; ended = h.ended } in
    either_says (must_leave (track_at y.tracks i)) m (let_go i y) _ (record { exit = h.exit; last = h.last; ended = h.ended })
    (either_says (must_enter (track_at y.tracks i)) m (lend c i (k.own i) y) y (record { exit = h.exit; last = h.last; ended = h.ended }) same)

acked_says : (ack : Bool) (m : NormalKept) → SaysTheSame m (after_ack ack m)
acked_says true m = record { exit = refl; last = refl; ended = refl }
acked_says false m = record { exit = refl; last = refl; ended = refl }

-- a new command leaves the last state pushed, and whether the mixer has ended
record StaysBeside (m x : NormalKept) : Type 0 where
  last : x.last ≡ m.last
  ended : x.ended ≡ m.ended

ordered_beside : (command : Command) (m : NormalKept) → StaysBeside m (ordered command m)
unfolding ordered
ordered_beside command m = by_same (code_of command == code_of m.draft.command)
  where
    by_same : (b : Bool) → StaysBeside m (if b then m else record m { draft = with_command command m.draft; dirty = true })
    by_same true = record { last = refl; ended = refl }
    by_same false = record { last = refl; ended = refl }

module _ (c : Setup) (k : Learnt) (m : NormalKept) (e : Turn) where
  acked : NormalKept
  acked = after_tracks c k e (after_ack e.ack m)

  edits : NormalKept
  edits = edited_to c k acked (length acked.tracks)

  says : SaysTheSame m edits
  unfolding acked edits
  says = let a = acked_says e.ack m in let b = edits_say c k acked (length acked.tracks) in record { exit = b.exit ∙ a.exit; last = b.last ∙ a.last; ended = b.ended ∙ a.ended }

  told : Command
  told = next_command (commands_exit edits.draft) edits.tracks e.room (pipe_size c)

  edits_beside : StaysBeside m (ordered told edits)
  edits_beside = let b = ordered_beside told edits in record { last = b.last ∙ says.last; ended = b.ended ∙ says.ended }

  -- the edits leave the last state pushed, and whether the mixer has ended
  beside : StaysBeside m (after_edits c k e m)
  unfolding mutated acked edits told
  beside = edits_beside

  -- if the draft doesn't say Exit, the mixer runs on after the edits
  still_runs : commands_exit m.draft ≡ false → commands_exit edits.draft ≡ false
  still_runs runs = says.exit ∙ runs

  told_exit : commands_exit m.draft ≡ false → commands_exit (ordered told edits).draft ≡ true → e.room ≡ pipe_size c
  unfolding told
  told_exit runs exit = exit_when_empty edits.tracks e.room (pipe_size c) (sym (ap (λ (b : Bool). code_of (next_command b edits.tracks e.room (pipe_size c)) == code_of Exit) (still_runs runs)) ∙ ordered_exit told edits (still_runs runs) exit)

  -- an Exit comes into the draft only if the whole room of the pipe is seen
  pub exit_room : commands_exit m.draft ≡ false → commands_exit (after_edits c k e m).draft ≡ true → e.room ≡ pipe_size c
  unfolding mutated acked edits told
  exit_room = told_exit

  module _ (h : EndsHome m) where
    over_when_exit : commands_exit m.draft ≡ false → (code_of told == code_of Exit) ≡ true → AllByRecursion IsDone edits.tracks
    unfolding told
    over_when_exit runs exit = exit_when_over edits.tracks e.room (pipe_size c) (sym (ap (λ (b : Bool). code_of (next_command b edits.tracks e.room (pipe_size c)) == code_of Exit) (still_runs runs)) ∙ exit)

    last_runs : commands_exit m.draft ≡ false → (b : Bool) → commands_exit m.last ≡ b → b ≡ false
    last_runs runs true is = no (sym runs ∙ h.exits is)
    last_runs runs false is = refl

    edits_end : commands_exit m.draft ≡ false → EndsHome (ordered told edits)
    edits_end runs =
        let b = edits_beside in
        let none : commands_exit m.last ≡ false = last_runs runs (commands_exit m.last) refl in
        record {
          over = ordered_over told edits (still_runs runs) (over_when_exit runs);
          exits = λ exit. no (sym (ap commands_exit b.last ∙ none) ∙ exit);
          ended = λ ended. no (sym none ∙ h.ended (sym b.ended ∙ ended));
        }

    runs_end : commands_exit m.draft ≡ false → EndsHome (after_edits c k e m)
    unfolding mutated acked edits told
    runs_end = edits_end

    pub edited_ends : EndsHome (after_edits c k e m)
    edited_ends = by_exit (commands_exit m.draft) refl
      where
        by_exit : (b : Bool) → commands_exit m.draft ≡ b → EndsHome (after_edits c k e m)
        by_exit true exit = subst EndsHome (sym (quiet_edits c k m e exit (h.over exit))) h
        by_exit false runs = runs_end runs

takes_end : (c : Setup) (takes : List TakeSeen) (m : NormalKept) → EndsHome m → EndsHome (after_takes c takes m)
takes_end c takes m h = record { over = (λ exit. takes_done (asked c) takes m.tracks (h.over exit)); exits = h.exits; ended = h.ended }

-- a mixer that goes on has not ended
push_ends : (push : Push) (m : NormalKept) → m.ended ≡ false → EndsHome m → EndsHome (after_push push m)
push_ends (Pushed number) m runs h = record { over = h.over; exits = λ exit. exit; ended = λ ended. no (sym runs ∙ ended) }
push_ends Clean m runs h = h
push_ends (Busy seen expected) m runs h = h

-- a legal turn keeps what `EndsHome` says of a mixer
pub turn_ends : (c : Setup) (k : Learnt) (o : Outside) (m : NormalKept) (e : Turn) → LegalTurn c o m e → EndsHome m → EndsHome (turn_after c k m e)
unfolding turn_after
turn_ends c k o m e legal h = by_end e.ended refl
  where
    by_now : (b d : Bool) → m.ended ≡ b → commands_exit m.last ≡ d → (b || (d && e.ack)) ≡ true → commands_exit m.last ≡ true
    by_now true d was is now = h.ended was
    by_now false true was is now = is
    by_now false false was is now = no now

    runs : (b : Bool) → m.ended ≡ b → (b || (commands_exit m.last && e.ack)) ≡ false → m.ended ≡ false
    runs true was not = no (sym not)
    runs false was not = was

    by_end : (b : Bool) → e.ended ≡ b → EndsHome (if b then record m { ended = true } else after_takes c e.mixes (after_push e.push (after_edits c k e m)))
    by_end true is = record { over = h.over; exits = h.exits; ended = λ ended. by_now m.ended (commands_exit m.last) refl refl (sym legal.ends ∙ is) }
    by_end false is =
        let still : (after_edits c k e m).ended ≡ false = (beside c k m e).ended ∙ runs m.ended refl (sym legal.ends ∙ is) in
        takes_end c e.mixes _ (push_ends e.push _ still (edited_ends c k m e h))

-- a new mixer is as `EndsHome` says
pub new_ends : (c : Setup) → EndsHome (new_normal c)
new_ends c = record { over = (λ exit. no exit); exits = (λ exit. no exit); ended = (λ ended. no ended) }

-- once the mixer has ended, each proxy is home
pub all_home : (m : NormalKept) → EndsHome m → m.ended ≡ true → (i : ℕ) → is_home (track_at m.tracks i).holder ≡ true
all_home m h ended = home_at m.tracks (h.over (h.exits (h.ended ended)))
  where
    home_at : (tracks : List TrackKept) → AllByRecursion IsDone tracks → (i : ℕ) → is_home (track_at tracks i).holder ≡ true
    home_at [] done i = refl
    home_at (s ∷ tracks) done zero = done.0.home
    home_at (s ∷ tracks) done (suc i) = home_at tracks done.1 i
