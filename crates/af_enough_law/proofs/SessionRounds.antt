-- What is carried of the whole session holds before the first round and after each legal round that leaves some track a life.
use Rattle.std.proofs.Common.{◌≡◌, ◌⊎◌, inl, inr, ℕ, ◌+◌, ◌≤◌, ◌==◌, ◌&&◌, ◌||◌, not, if◌then◌else◌, Bool, true, false, true≢false, All, List, [], ◌∷◌, ◌++◌, length, length-append, refl, sym, ap, ◌∙◌, subst, arith}
use Rattle.af_enough_law.proofs.Common.{ColdIdle, Command, Exit, Learnt, LegalRound, Marks, MixWrite, NormalKept, Push, RoundSeen, Run, Session, Setting, Setup, TrackKept, Turn, after_round, before_turn, code_of, draft_after, found_in, commands_exit, is_over, is_pushed, learnt, list_any, next_command, outside_of, pipe_size, plays, setup_of, track_count, true_or_false, turn_after, turn_len}
use Rattle.af_enough_law.proofs.Carried.{SessionStands, SessionCarried}
use Rattle.af_enough_law.proofs.Drafts.{is_busy, PushMade, command_turned, turn_pushes}
use Rattle.af_enough_law.proofs.EndWords.{NoExits}
use Rattle.af_enough_law.proofs.Items.{AreItems, items_turn}
use Rattle.af_enough_law.proofs.NormalRounds.{TurnMade, turn_made}
use Rattle.af_enough_law.proofs.ClientGoesOn.{mixer_goes}
use Rattle.af_enough_law.proofs.CourseRounds.{goes_unless_exit}
use Rattle.af_enough_law.proofs.EndRounds.{order_round}
use Rattle.af_enough_law.proofs.EntryCounts.{round_reports, round_logged, round_high}
use Rattle.af_enough_law.proofs.FastLearns.{learns_states}
use Rattle.af_enough_law.proofs.FastLoads.{learns_reports}
use Rattle.af_enough_law.proofs.FastPolls.{before_states, round_states}
use Rattle.af_enough_law.proofs.LastStates.{round_last, round_going}
use Rattle.af_enough_law.proofs.QueueRounds.{queue_stands, states_turned}
use Rattle.af_enough_law.proofs.RestTurns.{no_exits_round}
use Rattle.af_enough_law.proofs.RunTracks.{round_long}

-- ## No Exit

by_facts : (exits over heard whole : Bool) → Command
by_facts exits over heard whole = if exits || (over && whole) then Exit else if heard || not whole then MixWrite else ColdIdle

goes_by : (exits over heard whole : Bool) → exits ≡ false → over ≡ false → (code_of (by_facts exits over heard whole) == code_of Exit) ≡ false
unfolding by_facts
goes_by true over heard whole a b = absurd (true≢false a)
goes_by false true heard whole a b = absurd (true≢false b)
goes_by false false true whole a b = refl
goes_by false false false true a b = refl
goes_by false false false false a b = refl

-- while a life hasn't ended the draft is no Exit
draft_on : (c : Setup) (k : Learnt) (m : NormalKept) (e : Turn) → e.ended ≡ false → commands_exit m.draft ≡ false → is_over (turn_after c k m e).tracks ≡ false → commands_exit (turn_after c k m e).draft ≡ false
unfolding next_command by_facts
draft_on c k m e runs going over =
    let tracks : List TrackKept = (turn_after c k m e).tracks in
    ap (λ (n : ℕ). n == code_of Exit) (command_turned c k m e runs) ∙ goes_by (commands_exit m.draft) (is_over tracks) (list_any (λ (s : TrackKept). plays s.life) tracks) (e.room == pipe_size c) going over

-- while the draft is no Exit the last state is none
last_on : (m after : NormalKept) (push : Push) → PushMade m after push → commands_exit m.last ≡ false → commands_exit after.draft ≡ false → commands_exit after.last ≡ false
last_on m after push made last draft = by (true_or_false (is_busy push))
  where
    by : (is_busy push ≡ true) ⊎ (is_busy push ≡ false) → commands_exit after.last ≡ false
    by (inl busy) = ap commands_exit (made.busy busy).3 ∙ last
    by (inr free) = ap commands_exit (made.done free).1 ∙ draft

-- ## A round

push_few : {X : Type 0} (b : Bool) (x : X) (xs : List X) → length (xs ++ (if b then x ∷ [] else [])) ≤ length xs + 1
push_few true x xs = let l = length-append xs (x ∷ []) in omega (arith, l)
push_few {X} false x xs = let none : List X = [] in let l = length-append xs none in omega (arith, l)

module _ (s : Session) (marks : Marks) (scales : All (λ (x : Setting). x.scale ≤ 4096) (setup_of s).settings) (long : length (setup_of s).settings ≡ track_count s) (run : Run) (round : RoundSeen) (legal : LegalRound false s marks run round) (c : SessionStands s run) where
  -- the turn that the round has
  pub turn_of : TurnMade s marks run round
  turn_of = turn_made false s marks run round legal c.runs

  pub turn_runs : turn_of.turn.ended ≡ false
  turn_runs = goes_unless_exit s marks run round turn_of c.runs c.last_goes

  few : length run.normal.tracks ≤ length (setup_of s).settings
  few = let a = c.kept in omega (arith, a, long)

  abbrev after : Run
  after = after_round s run round

  pushes : PushMade run.normal (turn_after (setup_of s) (learnt turn_of.by.outside) run.normal turn_of.turn) turn_of.turn.push
  pushes = turn_pushes (setup_of s) turn_of.by.outside run.normal turn_of.turn turn_runs (turn_of.by.legal.goes_on turn_runs) c.order.latest

  -- the push of the round's turn
  pub push_of : PushMade run.normal after.normal turn_of.turn.push
  push_of = subst (λ (m : NormalKept). PushMade run.normal m turn_of.turn.push) (sym turn_of.after) pushes

  -- the turn pushes one state at most
  pub states_few : length after.states ≤ length run.states + 1
  states_few =
      let is = ap length (round_states s run round ∙ states_turned s (found_in s run round) round.turn turn_of.turn (before_turn s run round) turn_of.is) in
      let o = outside_of (setup_of s) (found_in s run round turn_of.turn) turn_of.turn in
      let most = push_few (is_pushed turn_of.turn.push) (draft_after (setup_of s) o (before_turn s run round).normal turn_of.turn) (before_turn s run round).states in
      let same = ap length (before_states s run round) in
      omega (arith, is, most, same)

  module _ (over : is_over after.normal.tracks ≡ false) where
    draft_then : commands_exit after.normal.draft ≡ false
    draft_then = ap (λ (m : NormalKept). commands_exit m.draft) turn_of.after ∙ draft_on (setup_of s) (learnt turn_of.by.outside) run.normal turn_of.turn turn_runs c.draft_goes (ap (λ (m : NormalKept). is_over m.tracks) (sym turn_of.after) ∙ over)

    last_then : commands_exit after.normal.last ≡ false
    last_then = last_on run.normal after.normal turn_of.turn.push push_of c.last_goes draft_then

    exits_then : NoExits after.states
    exits_then = no_exits_round s run round c.exits (round_last s marks run round legal c.last) last_then states_few

    -- A legal round keeps what holds, if not all is over after it
    pub session_stands : SessionStands s after
    session_stands = record {
      runs = mixer_goes s marks run round turn_of turn_runs;
      going = round_going s marks run round legal c.exits exits_then c.going;
      tracks = round_long s run round ∙ c.tracks;
      kept = ap (λ (m : NormalKept). length m.tracks) turn_of.after ∙ turn_len (setup_of s) (learnt turn_of.by.outside) run.normal turn_of.turn ∙ c.kept;
      order = order_round s marks scales run round legal c.runs turn_of turn_runs few c.order;
      items = subst (AreItems (setup_of s)) (sym turn_of.after) (items_turn (setup_of s) scales (learnt turn_of.by.outside) run.normal turn_of.turn few c.order.sound c.items);
      queue = queue_stands s marks run round legal c.queue;
      last = round_last s marks run round legal c.last;
      counts = (learns_states false s marks run round legal c.counts).counts;
      stored = (learns_reports s run round c.stored).counts;
      logged = (let a = round_reports s run round in let b = round_logged s run round in let d = c.logged in omega (arith, a, b, d));
      adopted = round_high s run round c.adopted;
      draft_goes = draft_then;
      last_goes = last_then;
      exits = exits_then;
    }

    -- a legal round keeps what the mixers know
    pub session_carried : SessionCarried s after
    session_carried = record {
      stands = session_stands;
      states = (learns_states false s marks run round legal c.counts).knows;
      reports = (learns_reports s run round c.stored).knows;
    }
