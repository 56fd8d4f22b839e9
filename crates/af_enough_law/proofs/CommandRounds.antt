-- What a round does to a command block.
use Rattle.std.proofs.Common.{◌+◌, ◌≤◌, ◌≡◌, ℕ, ◌<◌, Option, Some, None, List, [], ◌∷◌, ◌++◌, length, take, drop, refl, sym, ap, ◌∙◌, subst, arith, append_assoc, append-nil, length-append, if◌then◌else◌, fold, Bool, true, false}
use Rattle.af_enough_law.proofs.Common.{BlockTold, ClientEvent, CommandLook, EntrySeen, IsClientList, LegalLooks, LegalRound, Listed, Marks, Outside, RoundSeen, Run, ServerEvent, ServerKept, Session, Shape, Side, TrackTold, Turn, TurnFound, after_calls, after_turn, all_command_events, all_played, before_turn, called_in_turn, calls_in, client_list, command_events_of, command_list, commands_turned, cycle_frames, drops_none, each_at, early_of, flushes_of, fold-append, found_in, front_of, fronts_by, hand_list, invalid, is_tame, kept, late_of, lawful_front, learnt, listed, meets, met, met_after, outside_of, played, server_begins, server_keeps, server_kept, server_list, setup_of, sides_of, slot_playing, state_for, status_events, take-append_seam, taken_begins, told_at, told_each, track_count, track_in, track_met, tracks_at, turned, turned_track, with_calls, with_cycle, with_cycles, with_poll, with_side, with_turn, words_taken}
use Rattle.af_enough_law.proofs.Basics.{before_normal, put-append, taken-append}
use Rattle.af_enough_law.proofs.CommandLooks.{server_of, LooksTaken}
use Rattle.af_enough_law.proofs.CommandTurns.{looks_take, taken_all}
use Rattle.af_base.specs.declared.event.ClientEvent.TheVariants as client
use Rattle.af_base.specs.declared.event.ServerEvent.TheVariants as server
use Rattle.af_enough_law.proofs.Courses.{none_shut, is_ended}
use Rattle.af_enough_law.proofs.FastWords.{KnowsReleased, IsOpen}
use Rattle.af_enough_law.proofs.NormalRounds.{TurnMade}
use Rattle.af_enough_law.specs.Seen.{frames_put, frames_taken}
use Rattle.af_enough_law.proofs.FastFlows.{Later}
use Rattle.af_enough_law.proofs.FastRounds.{loaded_told}
use Rattle.af_enough_law.proofs.RunTracks.{calls_long as calls_length, cycles_long, loaded_tracks, turned_long, cycle_long}
use Rattle.af_enough_law.proofs.FastShows.{Setting, none-append}
use Rattle.af_enough_law.proofs.FastSteps.{server_does-server, server_does-client, client_does-client, client_does-server, cycle_track}
use Rattle.af_enough_law.proofs.FastKnows.{meets_server, meets_client}

-- the lists of the block: the client's calls, and what the turn adds to the server's list before the meeting
pub record CommandsTold (s : Session) (run : Run) (round : RoundSeen) (e : Turn) (i : ℕ) (before after : BlockTold) : Type 0 where
  pub shape : after.shape ≡ before.shape
  pub calls : List ClientEvent
  pub client : client_list after ≡ client_list before ++ calls
  pub count : ℕ
  pub server : (let c = setup_of s in let o = outside_of c (found_in s run round e) e in server_list after ≡ server_list before ++ (command_list c o e (tracks_at c (learnt o) run.normal e i) i ++ server.Learn count ∷ []))

-- What a turn takes of the block: none of its looks finds it shut, the words of the commands are taken, and if the looks end with one that shows none, all but maybe one word of what was released before the round
pub record CommandsTaken (e : Turn) (i : ℕ) (before after : BlockTold) : Type 0 where
  pub open_is : none_shut (track_in e i).looks ≡ true
  pub taken : frames_taken (server_list after) ≡ frames_taken (server_list before) + length (words_taken (track_in e i).looks)
  pub reaches : is_ended (track_in e i).looks ≡ true → frames_put (client_list before) ≤ frames_taken (server_list after) + 1
  pub is_open : IsOpen after
  pub knows : KnowsReleased after

abbrev commands_of : Run → ℕ → BlockTold
commands_of run i = (told_at run i).commands

-- ## Step by step

calls_commands : (round : RoundSeen) (run : Run) (i : ℕ) → i < length run.tracks → (later : Later (commands_of run i) (commands_of (with_calls round run) i)) × (server_list (commands_of (with_calls round run) i) ≡ server_list (commands_of run i))
unfolding with_calls
calls_commands round run i low =
    subst (λ (t : TrackTold). (later : Later (commands_of run i) t.commands) × (server_list t.commands ≡ server_list (commands_of run i))) (sym (told_each (λ track t. called_in_turn (calls_in round track) t) run i low))
    (side_later (after_calls (sides_of (told_at run i)) (calls_in round i)).commands (commands_of run i))
  where
    side_later : (side : Side) (b : BlockTold) → (later : Later b (with_side side b)) × (server_list (with_side side b) ≡ server_list b)
    side_later side b = let es : List ClientEvent = drop (length (client_list b)) side.events in
        (record { shape = refl; calls = es; client = client_does-client es b; events = []; server = client_does-server es b ∙ sym (append-nil (server_list b)) }, client_does-server es b)

cycle_commands : (s : Session) (run : Run) (e : EntrySeen) (i : ℕ) → i < length run.tracks → commands_of (with_cycle s run e) i ≡ commands_of run i
cycle_commands s run e i low = ap (λ (t : TrackTold). t.commands) (cycle_track s run e i low) ∙ by_slot (slot_playing (state_for s (with_poll s e.entry.state run) e.entry.state) e.entry i)
  where
    by_slot : (o : Option ℕ) → (elim o as (λ o. TrackTold) [ None ↦ told_at run i | Some k ↦ record (told_at run i) { stream = played (cycle_frames s) e k (told_at run i).stream } ]).commands ≡ commands_of run i
    by_slot None = refl
    by_slot (Some k) = refl

cycles_commands : (s : Session) (es : List EntrySeen) (run : Run) (i : ℕ) → i < length run.tracks → commands_of (with_cycles s es run) i ≡ commands_of run i
cycles_commands s [] run i low = refl
cycles_commands s (e ∷ es) run i low = let l = cycle_long s run e in cycles_commands s es (with_cycle s run e) i (omega arith) ∙ cycle_commands s run e i low

turn_commands : (s : Session) (f : TurnFound) (e : Turn) (run : Run) (i : ℕ) → i < length run.tracks → commands_of (with_turn s f e run) i ≡ commands_turned (setup_of s) (outside_of (setup_of s) f e) run.normal e i (commands_of run i)
unfolding with_turn
turn_commands s f e run i low = ap (λ (t : TrackTold). t.commands) (each_at (turned_track (setup_of s) (outside_of (setup_of s) f e) run.normal e) 0 run.tracks i i _ low (omega arith))

met_commands : (s : Session) (run : Run) (i : ℕ) → i < length run.tracks → commands_of (met s run) i ≡ meets (commands_of run i)
unfolding met
met_commands s run i low = ap (λ (t : TrackTold). t.commands) (told_each (track_met s run) run i low)

meets_knows : (b : BlockTold) → KnowsReleased (meets b)
meets_knows b = let cs : List ClientEvent = client_list b in let m : ℕ = length (server_list b) in record {
  count = length cs;
  learnt = record { before = server_list b; behind = []; whole = meets_server b };
  within = (let a = ap length (meets_client b) in let c = length-append cs (client.Learn m ∷ []) in omega arith);
  released =
      ap (λ l. frames_put (take (length cs) l)) (meets_client b) ∙ ap frames_put (take-append_seam cs (client.Learn m ∷ []))
      ∙ (let a = put-append cs (client.Learn m ∷ []) in let e : frames_put cs ≡ frames_put (cs ++ client.Learn m ∷ []) = omega arith in e) ∙ ap frames_put (sym (meets_client b));
}

-- events that take nothing, drop nothing and shut nobody
record Tail (k : Shape) (es : List ServerEvent) : Type 0 where
  none : drops_none es ≡ true
  taken : frames_taken es ≡ 0
  unshut : (s : ServerKept) → s.shut ≡ None → (fold (server_keeps k) s es).shut ≡ None

tail_both : (k : Shape) (xs ys : List ServerEvent) → Tail k xs → Tail k ys → Tail k (xs ++ ys)
tail_both k xs ys a b = record {
  none = none-append xs ys a.none b.none;
  taken = (let e = taken-append xs ys in let f = a.taken in let g = b.taken in omega arith);
  unshut = λ s h. ap (λ (x : ServerKept). x.shut) (fold-append (server_keeps k) s xs ys) ∙ b.unshut (fold (server_keeps k) s xs) (a.unshut s h);
}

tail_if : (k : Shape) (b : Bool) → Tail k (if b then server.SetFlags 4 ∷ [] else [])
tail_if k true = record { none = refl; taken = refl; unshut = λ s h. h }
tail_if k false = record { none = refl; taken = refl; unshut = λ s h. h }

tail_status : (k : Shape) (o : Option ℕ) → Tail k (status_events o)
tail_status k None = record { none = refl; taken = refl; unshut = λ s h. h }
tail_status k (Some word) = record { none = refl; taken = refl; unshut = λ s h. h }

tail_learn : (k : Shape) (n : ℕ) → Tail k (server.Learn n ∷ [])
tail_learn k n = record { none = refl; taken = refl; unshut = λ s h. h }

-- ## The round

module _ (s : Session) (marks : Marks) (run : Run) (round : RoundSeen) (t : TurnMade s marks run round) (i : ℕ) (low : i < length run.tracks) where
  abbrev e : Turn
  e = t.turn

  abbrev o : Outside
  o = outside_of (setup_of s) (found_in s run round t.turn) t.turn

  abbrev before : BlockTold
  before = commands_of run i

  abbrev after : BlockTold
  after = commands_of (met_after s run round) i

  abbrev listed_then : List ServerEvent
  listed_then = command_list (setup_of s) o e (tracks_at (setup_of s) (learnt o) run.normal e i) i

  at_turn : commands_of (before_turn s run round) i ≡ commands_of (with_calls round run) i
  at_turn = let l = calls_length round run in cycles_commands s (early_of run round) (with_calls round run) i (omega (arith, l, low))

  played_is : commands_of (all_played s run round) i ≡ commands_turned (setup_of s) o run.normal e i (commands_of (with_calls round run) i)
  played_is =
      let a = calls_length round run in
      let b = cycles_long s (early_of run round) (with_calls round run) in
      let c = turned_long s (found_in s run round) round.turn (before_turn s run round) in
      ap (λ (x : TrackTold). x.commands) (loaded_told round.turn (with_cycles s (late_of run round) (after_turn s run round)) i)
      ∙ cycles_commands s (late_of run round) (after_turn s run round) i (omega (arith, a, b, c, low))
      ∙ ap (λ (x : Option Turn). commands_of (turned s (found_in s run round) x (before_turn s run round)) i) t.is
      ∙ turn_commands s (found_in s run round e) e (before_turn s run round) i (omega (arith, a, b, low))
      ∙ (λ j. commands_turned (setup_of s) o (before_normal s run round j) e i (at_turn j))

  after_is : after ≡ meets (commands_of (all_played s run round) i)
  after_is =
      let a = calls_length round run in
      let b = cycles_long s (early_of run round) (with_calls round run) in
      let c = turned_long s (found_in s run round) round.turn (before_turn s run round) in
      let d = cycles_long s (late_of run round) (after_turn s run round) in
      let f = ap length (loaded_tracks round.turn (with_cycles s (late_of run round) (after_turn s run round))) in
      met_commands s (all_played s run round) i (omega (arith, a, b, c, d, f, low))

  pub commands_told : CommandsTold s run round t.turn i before after
  commands_told =
      let called_in_turn = calls_commands round run i low in
      let b : BlockTold = commands_of (with_calls round run) i in
      let x : BlockTold = commands_of (all_played s run round) i in
      let turned_server : server_list x ≡ server_list before ++ listed_then = ap server_list played_is ∙ server_does-server listed_then b ∙ ap (λ l. l ++ listed_then) called_in_turn.1 in
      let turned_client : client_list x ≡ client_list before ++ called_in_turn.0.calls = ap client_list played_is ∙ server_does-client listed_then b ∙ called_in_turn.0.client in
      let n : ℕ = length (server_list x) in record {
        shape = ap (λ (y : BlockTold). y.shape) after_is ∙ ap (λ (y : BlockTold). y.shape) played_is ∙ called_in_turn.0.shape;
        calls = called_in_turn.0.calls ++ client.Learn n ∷ [];
        client = ap client_list after_is ∙ meets_client x ∙ ap (λ l. l ++ client.Learn n ∷ []) turned_client ∙ append_assoc (client_list before) called_in_turn.0.calls (client.Learn n ∷ []);
        count = length (client_list x);
        server = ap server_list after_is ∙ meets_server x ∙ ap (λ l. l ++ server.Learn (length (client_list x)) ∷ []) turned_server ∙ append_assoc (server_list before) listed_then (server.Learn (length (client_list x)) ∷ []);
      }

  pub commands_known : KnowsReleased after
  commands_known = subst KnowsReleased (sym after_is) (meets_knows (commands_of (all_played s run round) i))

  module _ (cut : Bool) (legal : LegalRound cut s marks run round) (runs : t.turn.ended ≡ false) (lawful : marks.commands i ≡ true) (here : i < track_count s) (there : i < length run.normal.tracks)
      (tame : is_tame after ≡ true) (few : after.shape.frames ≤ 65536) (spelled : IsClientList after.shape.frames after.shape.cells after.shape.base (client_list after)) (no_flush : flushes_of (client_list after) ≡ 0)
      (is_open : IsOpen before) where
    abbrev looks : List CommandLook
    looks = (track_in e i).looks

    abbrev k : Shape
    k = after.shape

    abbrev start : Listed
    start = server_of k (server_list before)

    abbrev events : List ServerEvent
    events = all_command_events start looks (fronts_by front_of start looks)

    abbrev flags : List ServerEvent
    flags = invalid (learnt o) (track_in e i) (tracks_at (setup_of s) (learnt o) run.normal e i) i

    abbrev status : List ServerEvent
    status = status_events (track_in e i).status

    abbrev rest : List ServerEvent
    rest = flags ++ (status ++ server.Learn commands_told.count ∷ [])

    found_is : listed (commands_of (with_calls round run) i) ≡ start
    found_is = let called_in_turn = calls_commands round run i low in λ j. record { shape = (called_in_turn.0.shape ∙ sym commands_told.shape) j; events = called_in_turn.1 j }

    list_is : listed_then ≡ (events ++ flags) ++ status
    list_is = ap (λ (b : Bool). if b then [] else command_events_of (setup_of s) o (track_in e i) (tracks_at (setup_of s) (learnt o) run.normal e i) i) runs
        ∙ ap (λ (x : Listed). (all_command_events x looks (fronts_by front_of x looks) ++ flags) ++ status) found_is

    whole : server_list after ≡ server_list before ++ (events ++ rest)
    whole = commands_told.server ∙ ap (λ (es : List ServerEvent). server_list before ++ (es ++ server.Learn commands_told.count ∷ [])) list_is
        ∙ ap (λ (es : List ServerEvent). server_list before ++ es) (append_assoc (events ++ flags) status (server.Learn commands_told.count ∷ []) ∙ append_assoc events flags (status ++ server.Learn commands_told.count ∷ []))

    setting : Setting k (client_list after) (server_list after)
    setting = record { few = few; spelled = spelled; no_flush = no_flush; released = after.released; taken = after.taken; hand = hand_list after; history = (legal.histories.blocks i here).commands refl tame }

    unshut_then : (kept start).shut ≡ None
    unshut_then = subst (λ (sh : Shape). (server_kept sh (server_list before)).shut ≡ None) (sym commands_told.shape) is_open.unshut

    legal_found : LegalLooks start looks (fronts_by lawful_front start looks)
    legal_found = subst (λ (x : Listed). LegalLooks x looks (fronts_by lawful_front x looks)) found_is
        (subst (λ (x : Listed × List ℕ). LegalLooks x.0 looks x.1) (λ j. ((t.by.found j).commands i, t.by.commands i lawful j)) ((t.by.legal.goes_on runs).looks i there))

    taken_then : LooksTaken k (client_list after) (server_list before) looks events
    taken_then = looks_take k (client_list after) (server_list after) setting looks (server_list before) rest whole is_open.none unshut_then legal_found

    tail : Tail k rest
    tail = tail_both k flags (status ++ server.Learn commands_told.count ∷ []) (tail_if k _) (tail_both k status (server.Learn commands_told.count ∷ []) (tail_status k (track_in e i).status) (tail_learn k commands_told.count))

    cut_at : server_list after ≡ (server_list before ++ events) ++ rest
    cut_at = whole ∙ sym (append_assoc (server_list before) events rest)

    same_taken : frames_taken (server_list after) ≡ frames_taken (server_list before ++ events)
    same_taken = ap frames_taken cut_at ∙ (let a = taken-append (server_list before ++ events) rest in let b = tail.taken in omega arith)

    -- no look of a legal turn finds a command block without pokes shut, and its server stays open
    pub commands_open : (none_shut looks ≡ true) × IsOpen after
    commands_open = (
      taken_then.open_is,
      record {
        none = ap drops_none cut_at ∙ none-append (server_list before ++ events) rest taken_then.none tail.none;
        unshut = ap (λ (es : List ServerEvent). (server_kept k es).shut) cut_at ∙ ap (λ (x : ServerKept). x.shut) (fold-append (server_keeps k) (server_begins k) (server_list before ++ events) rest) ∙ tail.unshut (server_kept k (server_list before ++ events)) taken_then.unshut;
      },
    )

    calls_taken : (commands_of (with_calls round run) i).taken ≡ before.taken
    unfolding with_calls
    calls_taken = ap (λ (x : TrackTold). x.commands.taken) (told_each (λ track x. called_in_turn (calls_in round track) x) run i low)

    -- the words that its looks took follow those taken before
    pub words_follow : after.taken ≡ before.taken ++ words_taken looks
    words_follow = ap (λ (b : BlockTold). b.taken) after_is ∙ ap (λ (b : BlockTold). b.taken) played_is
        ∙ (λ j. calls_taken j ++ (if runs j then [] else words_taken looks))

    -- all words that were taken begin those released
    pub words_begin : (n : ℕ) × (after.taken ≡ take n after.released)
    words_begin = taken_begins k (client_list after) after.released (server_list after) after.taken (hand_list after) ((legal.histories.blocks i here).commands refl tame) commands_open.1.none

    -- what the server of the command block took is counted
    pub commands_counted : frames_taken (server_list after) ≡ frames_taken (server_list before) + length (words_taken looks)
    commands_counted = same_taken ∙ taken_then.taken

    -- as many words are taken as the looks of the turn took
    pub words_counted : frames_taken (server_list after) ≡ frames_taken (server_list before) + length (words_taken looks)
    words_counted = same_taken ∙ taken_then.taken

    module _ (knows : KnowsReleased before) where
      -- What a legal turn takes of a command block without pokes
      pub commands_taken : CommandsTaken t.turn i before after
      commands_taken = record {
        open_is = taken_then.open_is;
        taken = same_taken ∙ taken_then.taken;
        reaches = λ ends. let r = taken_all k (client_list before) commands_told.calls (client_list after) (server_list before) looks events knows.count commands_told.client knows.learnt knows.within knows.released taken_then ends in
            let same = same_taken in omega arith;
        is_open = commands_open.1;
        knows = commands_known;
      }
