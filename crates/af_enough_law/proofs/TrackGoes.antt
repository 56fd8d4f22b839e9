-- A client's turn in a legal round is fair, and leaves it on its way, if what it did to the stream block stands in a calm history of this round or of a later one.
use Rattle.std.proofs.Common.{◌≡◌, ℕ, ◌+◌, ◌≤◌, ◌<◌, Bool, true, false, true≢false, MatchBool, List, [], ◌∷◌, ◌++◌, length, fold, refl, sym, ap, ◌∙◌, subst, arith, ◌==◌}
use Rattle.af_enough_law.proofs.Common.{AreCalls, Client, ClientCall, ClientEvent, LegalRound, Marks, Mode, Op, RoundSeen, Run, ServerEvent, Session, Shape, Track, TrackTold, Want, after_call, after_calls, after_round, begins_ended, begun, calls_in, client_kept, client_list, hand_list, server_list, shapes_called, sides_of, told_at, track_count}
use Rattle.af_base.specs.declared.event.ClientEvent.TheVariants as client
use Rattle.af_enough_law.proofs.NormalRounds.{TurnMade}
use Rattle.af_enough_law.proofs.Playing.{AreFair, AllSeeFrom, position}
use Rattle.af_enough_law.specs.Seen.{frames_taken}
use Rattle.af_enough_law.proofs.Argued.{AreArgued, calls_argued}
use Rattle.af_enough_law.proofs.CalmRuns.{ended_calls}
use Rattle.af_enough_law.proofs.CalmTracks.{round_released}
use Rattle.af_enough_law.proofs.ClientGoesOn.{client_after, carried, learn_position, mixer_goes}
use Rattle.af_enough_law.proofs.CommandsGo.{CalmCommands, OpenTurn, MayLearn, still, learns, may_learn, commands_shape, pokeless_after, spelled_after, calm_after, hands_after, later_after}
use Rattle.af_enough_law.proofs.Doing.{at, codes_of, all_codes}
use Rattle.af_enough_law.proofs.FairTurns.{IsCalm, IsKnown, fair_turn}
use Rattle.af_enough_law.proofs.Flushless.{IsFlushlessTrack}
use Rattle.af_enough_law.proofs.RunLists.{command_lists, command_history}
use Rattle.af_enough_law.proofs.RunStreams.{round_grows}
use Rattle.af_enough_law.proofs.Turning.{Left, Stands, on, gone_for_good, next_ended, turn_stands, words_of}

-- the client's list of a stream block begins one that has a calm history, of whose server so much was known
pub record CalmStream (k : Shape) (said : List ClientEvent) (known : List ServerEvent) : Type 0 where
  pub list : List ClientEvent
  pub tail : List ClientEvent
  pub whole : list ≡ said ++ tail
  pub calm : IsCalm k list known

-- what the client said to the stream block by the end of its turn
abbrev pub said_by : Run → RoundSeen → ℕ → List ClientEvent
said_by run round i = (fold after_call (sides_of (told_at run i)) (calls_in round i)).stream.events

place_after : (k : Shape) (said after : List ClientEvent) → MayLearn said after → (client_kept k.frames k.base after).position ≡ (client_kept k.frames k.base said).position
place_after k said _ still = refl
place_after k said _ (learns n) = learn_position k said n

module _ (cut : Bool) (s : Session) (marks : Marks) (run : Run) (round : RoundSeen) (i : ℕ) (t : TurnMade s marks run round) (legal : LegalRound cut s marks run round) (known_commands : List ServerEvent) (calm : CalmCommands run i known_commands) (turn : OpenTurn s marks run round i t)
    (known_stream : List ServerEvent) (stream : CalmStream (told_at run i).stream.shape (said_by run round i) known_stream) (knew : IsKnown known_stream (client_list (told_at run i).stream)) where
  abbrev before : Track
  before = sides_of (told_at run i)

  abbrev after : TrackTold
  after = told_at (after_round s run round) i

  -- what the client does in its turn is fair, and sees no less of the stream's front than was known
  pub fair_by : (due : List Want) (ops : List Op) (m : Mode) (most total : ℕ) → begun (told_at run i).client ≡ at due ops m → Left before due ops m most total
      → AreFair (calls_in round i) × AllSeeFrom ((told_at run i).stream.shape.base + frames_taken known_stream) before (calls_in round i) × AreCalls 64 before (calls_in round i)
  fair_by due ops m most total is left =
      let v = told_at run i in
      let calls = calls_in round i in
      let going : v.client.ended ≡ false = sym (begins_ended v.client v.client.due v.client.ops) ∙ ap (λ (c : Client). c.ended) is in
      let made : AreCalls 64 before calls = subst (λ (b : Bool). MatchBool b (calls ≡ []) (AreCalls 64 before calls)) going (legal.turns.clients i turn.named) in
      let lists = later_after cut s marks run round i t legal known_commands calm turn in
      let shape = commands_shape cut s marks run round i t legal known_commands calm turn in
      let said = said_commands in
      let small = calm.few in
      let here : IsCalm after.commands.shape (client_list after.commands) known_commands = record {
        released = after.commands.released;
        server = server_list after.commands;
        taken = after.commands.taken;
        hands = hand_list after.commands;
        history = command_history cut s marks run round i legal turn.low turn.named (pokeless_after cut s marks run round i t legal known_commands calm turn).commands;
        spelled = (spelled_after cut s marks run round i t legal known_commands calm turn).commands;
        calm = calm_after cut s marks run round i t legal known_commands calm turn;
        calm_hands = hands_after cut s marks run round i t legal known_commands calm turn;
        few = subst (λ (k : Shape). k.frames ≤ 65536) (sym shape) (omega arith);
        later = lists.0;
        knows = lists.1;
      } in
      let fair = fair_turn v.stream.shape v.commands.shape stream.list (client_list after.commands) known_stream known_commands stream.calm
      (subst (λ (k : Shape). IsCalm k (client_list after.commands) known_commands) shape here) calm.few
      64 before calls due ops m most total stream.tail said.0 is left
      (record { stream_shape = refl; commands_shape = refl; words = calm.words; knows_stream = knew; knows_commands = calm.knew }) made stream.whole said.1 in
      (fair.0, fair.1, made)
    where
      said_commands : (tail : List ClientEvent) × (client_list after.commands ≡ (fold after_call before (calls_in round i)).commands.events ++ tail)
      said_commands = let lists = command_lists s run round i turn.low in (client.Learn (length lists.did) ∷ [], lists.client ∙ ap (λ (es : List ClientEvent). es ++ client.Learn (length lists.did) ∷ []) lists.said_is)

  pub all_fair : (most total : ℕ) → Stands before most total → AreFair (calls_in round i)
  all_fair most total (on due ops m is left) = (fair_by due ops m most total is left).0
  all_fair most total (gone_for_good ended sent words codes) = ended_calls before (calls_in round i) (told_at run i).client.ended ended (legal.turns.clients i turn.named)

-- ## What a fair turn leaves

module _ (cut : Bool) (s : Session) (marks : Marks) (run : Run) (round : RoundSeen) (i : ℕ) (t : TurnMade s marks run round) (legal : LegalRound cut s marks run round) (low : i < length run.tracks) (named : i < track_count s) (runs : t.turn.ended ≡ false) (fair : AreFair (calls_in round i)) where
  abbrev before_fair : Track
  before_fair = sides_of (told_at run i)

  abbrev after_fair : TrackTold
  after_fair = told_at (after_round s run round) i

  pub made_of : (due : List Want) (ops : List Op) (m : Mode) → begun (told_at run i).client ≡ at due ops m → AreCalls 64 before_fair (calls_in round i)
  made_of due ops m is =
      let v = told_at run i in
      let calls = calls_in round i in
      let going : v.client.ended ≡ false = sym (begins_ended v.client v.client.due v.client.ops) ∙ ap (λ (c : Client). c.ended) is in
      subst (λ (b : Bool). MatchBool b (calls ≡ []) (AreCalls 64 before_fair calls)) going (legal.turns.clients i named)

  pub same_position : position (sides_of after_fair).stream ≡ position (after_calls before_fair (calls_in round i)).stream
  same_position =
      let shapes = shapes_called before_fair (calls_in round i) in
      let k = (told_at run i).stream.shape in
      let shape : after_fair.stream.shape ≡ k = (round_grows s run round i low).shape in
      ap (λ (x : Shape). (client_kept x.frames x.base (client_list after_fair.stream)).position) shape ∙ place_after k (said_by run round i) (client_list after_fair.stream) (may_learn s run round i low)
      ∙ ap (λ (x : Shape). (client_kept x.frames x.base (said_by run round i)).position) (sym shapes.0)

  -- The client is on its way after the round, with no more to do than before, or gone once all was sent
  pub goes_by : (most total : ℕ) → Stands before_fair most total → Stands (sides_of after_fair) most total
  goes_by most total stands =
      carried (after_calls before_fair (calls_in round i)) (sides_of after_fair) most total (client_after s run round i low (mixer_goes s marks run round t runs)) same_position (round_released s run round i low) (calls_stand stands)
    where
      ended_stays : (v : Track) (calls : List ClientCall) (b : Bool) → b ≡ true → v.client.ended ≡ true → MatchBool b (calls ≡ []) (AreCalls 64 v calls) → (sent : List (ℕ × ℕ)) → v.commands.released ≡ words_of sent → codes_of sent ≡ all_codes → Stands (after_calls v calls) most total
      ended_stays v calls true e gone none sent words codes = subst (λ (cs : List ClientCall). Stands (after_calls v cs) most total) (sym none) (gone_for_good (next_ended v.client v.client.waiting v.client.ended (0 == 64) gone gone) sent words codes)
      ended_stays v calls false e gone made sent words codes = absurd (true≢false (sym e))

      calls_stand : Stands before_fair most total → Stands (after_calls before_fair (calls_in round i)) most total
      calls_stand (on due ops m is left) = turn_stands before_fair (calls_in round i) due ops m most total is left (made_of due ops m is) fair
      calls_stand (gone_for_good gone sent words codes) = ended_stays before_fair (calls_in round i) (told_at run i).client.ended gone gone (legal.turns.clients i named) sent words codes

  -- no command but a STOP has an argument
  pub argued_by : (most total : ℕ) → IsFlushlessTrack before_fair → Stands before_fair most total → AreArgued before_fair → AreArgued (sides_of after_fair)
  argued_by most total flushless stands argued =
      let now : AreArgued (fold after_call before_fair (calls_in round i)) = by stands in
      record { sent = now.sent; words = round_released s run round i low ∙ now.words; argued = now.argued }
    where
      none : (v : Track) (calls : List ClientCall) (b : Bool) → b ≡ true → MatchBool b (calls ≡ []) (AreCalls 64 v calls) → AreArgued v → AreArgued (fold after_call v calls)
      none v calls true e is h = subst (λ (cs : List ClientCall). AreArgued (fold after_call v cs)) (sym is) h
      none v calls false e is h = absurd (true≢false (sym e))

      by : Stands before_fair most total → AreArgued (fold after_call before_fair (calls_in round i))
      by (on due ops m is left) = calls_argued 64 before_fair (calls_in round i) flushless argued (made_of due ops m is) fair
      by (gone_for_good gone sent words codes) = none before_fair (calls_in round i) (told_at run i).client.ended gone (legal.turns.clients i named) argued
