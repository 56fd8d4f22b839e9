-- The lists of a track's command block after a round.
use Rattle.std.proofs.Common.{◌≡◌, ℕ, ◌<◌, Bool, true, List, [], ◌∷◌, ◌++◌, length, fold, drop, refl, sym, ap, ◌∙◌, subst, Option, Some, None}
use Rattle.af_enough_law.proofs.Common.{BlockTold, ClientCall, ClientEvent, HasBlockHistory, LegalRound, Marks, NormalKept, RoundSeen, Run, ServerEvent, Session, Side, TrackTold, Turn, TurnFound, after_call, after_round, append-nil, called_in_turn, calls_in, client-client, client-hand, client-server, client_list, command_list, found_in, hand_list, is_tame, learnt, outside_of, server-client, server_list, setup_of, sides_of, told_at, track_count, tracks_at, with_side}
use Rattle.af_base.specs.declared.event.ClientEvent.TheVariants as client
use Rattle.af_base.specs.declared.event.ServerEvent.TheVariants as server
use Rattle.af_enough_law.proofs.FairTurns.{commands_grow}
use Rattle.af_enough_law.proofs.RunTracks.{commands_by, round_blocks, round_commands}
use Rattle.af_enough_law.proofs.MoreTold.{server-hand, server-server}

-- ## Lists that grow

drop_front : {X : Type 0} (xs ys : List X) → drop (length xs) (xs ++ ys) ≡ ys
drop_front [] ys = refl
drop_front (x ∷ xs) ys = drop_front xs ys

-- the lists of a block whose client's side has grown
pub side_lists : (side : Side) (b : BlockTold) (more : List ClientEvent) → side.events ≡ client_list b ++ more
    → (client_list (with_side side b) ≡ side.events) × (server_list (with_side side b) ≡ server_list b) × (hand_list (with_side side b) ≡ hand_list b)
side_lists side b more is =
    let new = drop (length (client_list b)) side.events in
    let new_is : new ≡ more = ap (λ (es : List ClientEvent). drop (length (client_list b)) es) is ∙ drop_front (client_list b) more in
    (client-client b.told new ∙ ap (λ (es : List ClientEvent). client_list b ++ es) new_is ∙ sym is, client-server b.told new, client-hand b.told new)

-- ## The round

-- the client's calls, as the client's own side tells them
pub calls_commands : (t : TrackTold) (calls : List ClientCall) → let side = (fold after_call (sides_of t) calls).commands in
    (client_list (called_in_turn calls t).commands ≡ side.events) × (server_list (called_in_turn calls t).commands ≡ server_list t.commands) × (hand_list (called_in_turn calls t).commands ≡ hand_list t.commands)
calls_commands t calls = let more = commands_grow (sides_of t) calls in side_lists (fold after_call (sides_of t) calls).commands t.commands more.0 more.1

-- what the turn adds to a command block
pub turn_events : Session → (Turn → TurnFound) → Option Turn → NormalKept → ℕ → List ServerEvent
turn_events s found None m i = []
turn_events s found (Some e) m i = let o = outside_of (setup_of s) (found e) e in command_list (setup_of s) o e (tracks_at (setup_of s) (learnt o) m e i) i

pub commands_lists : (s : Session) (found : Turn → TurnFound) (o : Option Turn) (m : NormalKept) (i : ℕ) (b : BlockTold)
    → (client_list (commands_by s found o m i b) ≡ client_list b) × (server_list (commands_by s found o m i b) ≡ server_list b ++ turn_events s found o m i) × (hand_list (commands_by s found o m i b) ≡ hand_list b)
unfolding turn_events commands_by
commands_lists s found None m i b = (refl, sym (append-nil (server_list b)), refl)
commands_lists s found (Some e) m i b =
    let o = outside_of (setup_of s) (found e) e in
    let events = command_list (setup_of s) o e (tracks_at (setup_of s) (learnt o) m e i) i in
    (server-client b.told events, server-server b.told events, server-hand b.told events)

-- the lists after a round: the client's calls and the turn's events, and what each learnt of the other
pub record CommandLists (s : Session) (run : Run) (round : RoundSeen) (i : ℕ) : Type 0 where
  pub said : List ClientEvent
  pub did : List ServerEvent
  pub said_is : said ≡ (fold after_call (sides_of (told_at run i)) (calls_in round i)).commands.events
  pub did_is : did ≡ server_list (told_at run i).commands ++ turn_events s (found_in s run round) round.turn run.normal i
  pub client : client_list (told_at (after_round s run round) i).commands ≡ said ++ client.Learn (length did) ∷ []
  pub server : server_list (told_at (after_round s run round) i).commands ≡ did ++ server.Learn (length said) ∷ []
  pub hand : hand_list (told_at (after_round s run round) i).commands ≡ hand_list (told_at run i).commands

pub command_lists : (s : Session) (run : Run) (round : RoundSeen) (i : ℕ) → i < length run.tracks → CommandLists s run round i
command_lists s run round i lt =
    let t = told_at run i in
    let calls = calls_in round i in
    let c = calls_commands t calls in
    let b = (called_in_turn calls t).commands in
    let found = found_in s run round in
    let n = commands_lists s found round.turn run.normal i b in
    let turned = commands_by s found round.turn run.normal i b in
    let is = round_commands s run round i lt in
    let said = (fold after_call (sides_of t) calls).commands.events in
    let did = server_list t.commands ++ turn_events s found round.turn run.normal i in
    let said_is : client_list turned ≡ said = n.0 ∙ c.0 in
    let did_is : server_list turned ≡ did = n.1 ∙ ap (λ (es : List ServerEvent). es ++ turn_events s found round.turn run.normal i) c.1 in
    record {
      said = said;
      did = did;
      said_is = refl;
      did_is = refl;
      client = ap client_list is ∙ (λ j. said_is j ++ client.Learn (length (did_is j)) ∷ []);
      server = ap server_list is ∙ (λ j. did_is j ++ server.Learn (length (said_is j)) ∷ []);
      hand = ap hand_list is ∙ n.2 ∙ c.2;
    }

-- the command block has a history after a legal round, if its client has not poked
pub command_history : (cut : Bool) (s : Session) (marks : Marks) (run : Run) (round : RoundSeen) (i : ℕ) → LegalRound cut s marks run round → i < length run.tracks → i < track_count s
    → is_tame (told_at (after_round s run round) i).commands ≡ true → HasBlockHistory (told_at (after_round s run round) i).commands
command_history cut s marks run round i legal lt there tame =
    let same = (round_blocks s run round i lt).1 in
    subst HasBlockHistory (sym same) ((legal.histories.blocks i there).commands refl (ap is_tame (sym same) ∙ tame))
