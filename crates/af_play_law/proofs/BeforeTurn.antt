-- What the clients' calls and the early entries of a round leave of a run: the command blocks as the calls left them, and what is known of the queue.
use Rattle.std.proofs.Common.{◌≡◌, ℕ, zero, suc, ◌+◌, List, [], ◌∷◌, refl, ◌∙◌}
use Rattle.af_play_law.proofs.Common.{EntrySeen, NormalState, QueueKnown, Quiet, RoundSeen, Run, Session, TrackTold, commands_stay, changed_from, known_same, mixed_track, no_track, quiet_then, slice_index_or, state_for, told_at, with_calls, with_cycle, with_cycles, with_mix, with_poll}
use Rattle.af_told_law.proofs.KnownSteps.{quiet_mix, quiet_poll}

-- ## The command blocks

-- a change of each track that leaves the command blocks
at_commands : (change : ℕ → TrackTold → TrackTold) → ((n : ℕ) (t : TrackTold) → (change n t).commands ≡ t.commands) → (ts : List TrackTold) (n i : ℕ) → (slice_index_or (changed_from change n ts) i no_track).commands ≡ (slice_index_or ts i no_track).commands
at_commands change same [] n i = refl
at_commands change same (t ∷ ts) n zero = same n t
at_commands change same (t ∷ ts) n (suc i) = at_commands change same ts (n + 1) i

poll_commands : (s : Session) (k : ℕ) (run : Run) (i : ℕ) → (told_at (with_poll s k run) i).commands ≡ (told_at run i).commands
unfolding with_poll
poll_commands s k run i = refl

mix_commands : (s : Session) (e : EntrySeen) (run : Run) (i : ℕ) → (told_at (with_mix s e run) i).commands ≡ (told_at run i).commands
unfolding with_mix
mix_commands s e run i = at_commands (mixed_track s (state_for s run e.entry.state) e) (commands_stay s (state_for s run e.entry.state) e) run.tracks 0 i

pub cycles_commands : (s : Session) (es : List EntrySeen) (run : Run) (i : ℕ) → (told_at (with_cycles s es run) i).commands ≡ (told_at run i).commands
cycles_commands s [] run i = refl
cycles_commands s (e ∷ es) run i = cycles_commands s es (with_cycle s run e) i ∙ mix_commands s e (with_poll s e.entry.state run) i ∙ poll_commands s e.entry.state run i

-- ## The queue

pub quiet_cycles : (s : Session) (es : List EntrySeen) (run : Run) → Quiet run (with_cycles s es run)
quiet_cycles s [] run = record { states = refl; looks = (λ k. refl) }
quiet_cycles s (e ∷ es) run =
    let polled : Run = with_poll s e.entry.state run in
    quiet_then run (with_cycle s run e) (with_cycles s es (with_cycle s run e)) (quiet_then run polled (with_cycle s run e) (quiet_poll s e.entry.state run) (quiet_mix s e polled)) (quiet_cycles s es (with_cycle s run e))

pub quiet_calls : (round : RoundSeen) (run : Run) → Quiet run (with_calls round run)
unfolding with_calls
quiet_calls round run = record { states = refl; looks = (λ k. refl) }

-- the queue stays known by a step that leaves the states and the looks
pub known_quiet : (frames : ℕ) (run after : Run) (m : NormalState) → Quiet run after → QueueKnown frames run m → QueueKnown frames after m
known_quiet frames run after m quiet known = known_same frames run after m m quiet.states quiet.looks refl refl known
