-- What a client sees of its track's status in a round, if the status before the round and the one after it say something.
use Rattle.std.proofs.Common.{get_or, ◌≡◌, inr, ℕ, suc, ◌≤◌, Bool, true, false, Option, Some, None, is_some, List, [], ◌∷◌, ◌++◌, length, fold, refl, sym, ap, ◌∙◌, subst, arith, append_assoc, if◌then◌else◌, drop}
use Rattle.af_enough_law.proofs.Common.{ClientCall, ClientEvent, CommandLook, LegalRound, Listed, Marks, Outside, RoundSeen, Run, Seen, ServerEvent, Session, Shape, Track, TrackKept, TrackTold, after_call, after_round, all_command_events, calls_in, client_list, command_events, command_events_of, command_list, did, drops_of, fold-append, found_in, hand_list, invalid, kept, learnt, look_events, met_after, outside_of, server_list, setup_of, shows_command, sides_of, status_events, takes_command, told_at, track_at, track_in, tracks_at}
use Rattle.af_base.specs.declared.event.ClientCall.TheVariants as call
use Rattle.af_base.specs.declared.event.ClientEvent.TheVariants as client
use Rattle.af_base.specs.declared.event.ServerEvent.TheVariants as server
use Rattle.af_base.specs.declared.seen.Seen.TheVariants as seen
use Rattle.af_enough_law.proofs.CommandRounds.{CommandsTold, commands_told}
use Rattle.af_enough_law.proofs.NormalRounds.{TurnMade}
use Rattle.af_enough_law.specs.Seen.{status_by, last_status}
use Rattle.af_enough_law.proofs.CommandsGo.{CalmCommands, OpenTurn, commands_shape, pokeless_after, spelled_after, calm_after, hands_after}
use Rattle.af_enough_law.proofs.Fair.{status_at}
use Rattle.af_enough_law.proofs.FairTurns.{commands_grow}
use Rattle.af_enough_law.proofs.RunLists.{command_lists, command_history}
use Rattle.af_enough_law.proofs.RunTracks.{round_blocks}
use Rattle.af_enough_law.proofs.StatusRounds.{status_told, status_round}
use Rattle.af_enough_law.proofs.TakesAll.{CommandsMet}

module _ (Says : ℕ → Type 0) where
  -- ## Status words

  -- each status among these events says so
  abbrev pub StatusSays : ServerEvent → Type 0
  StatusSays (server.SetStatus word) = Says word
  StatusSays _ = Unit {0}

  abbrev pub AllSay : List ServerEvent → Type 0
  AllSay [] = Unit {0}
  AllSay (e ∷ es) = StatusSays e × AllSay es

  says_next : (word : ℕ) (e : ServerEvent) → Says word → StatusSays e → Says (status_by word e)
  says_next word (server.SetStatus next) h s = s
  says_next word _ h s = h

  says_front : (word : ℕ) (es front rest : List ServerEvent) → es ≡ front ++ rest → Says word → AllSay es → Says (fold status_by word front)
  says_front word es [] rest is h all = h
  says_front word [] (y ∷ front) rest is h all = absurd (let e : 0 ≡ suc (length (front ++ rest)) = ap length is in omega (arith, e))
  says_front word (e ∷ es) (y ∷ front) rest is h all =
      let first : e ≡ y = ap (λ (l : List ServerEvent). get_or l 0 e) is in
      says_front (status_by word y) es front rest (ap (drop 1) is) (subst (λ (x : ServerEvent). Says (status_by word x)) first (says_next word e h all.0)) all.1

  -- the last status of a front that has these first events says so, if theirs does and all later ones do
  pub says_least : (word : ℕ) (xs xs' ys ys' : List ServerEvent) → xs ++ xs' ≡ ys ++ ys' → length xs ≤ length ys → Says (fold status_by word xs) → AllSay xs' → Says (fold status_by word ys)
  says_least word [] xs' ys ys' is short h all = says_front word xs' ys ys' is h all
  says_least word (x ∷ xs) xs' [] ys' is short h all = absurd (omega arith)
  says_least word (x ∷ xs) xs' (y ∷ ys) ys' is short h all =
      let first : status_by word x ≡ status_by word y = ap (λ (l : List ServerEvent). status_by word (get_or l 0 x)) is in
      says_least (status_by word y) xs xs' ys ys' (ap (drop 1) is) (omega arith) (subst (λ (w : ℕ). Says (fold status_by w xs)) first h) all

  -- ## What a turn stores

  say_both : (xs ys : List ServerEvent) → AllSay xs → AllSay ys → AllSay (xs ++ ys)
  say_both [] ys a b = b
  say_both (x ∷ xs) ys a b = (a.0, say_both xs ys a.1 b)

  say_drops : (answer : Seen) (front : ℕ) → AllSay (drops_of answer front)
  say_drops (seen.Flushed dropped) front = (tt, tt)
  say_drops _ front = tt

  say_if : (b : Bool) (xs : List ServerEvent) → AllSay xs → AllSay (if b then [] else xs)
  say_if true xs a = tt
  say_if false xs a = a

  say_then : (b : Bool) (xs : List ServerEvent) → AllSay xs → AllSay (if b then xs else [])
  say_then true xs a = a
  say_then false xs a = tt

  -- no look at the commands stores a status
  say_look : (s : Listed) (look : CommandLook) (front : ℕ) → AllSay (command_events s look front)
  say_look s look front = say_both (if is_some (kept s).shut then [] else look_events look.seen look.flush look.rear front) (takes_command look)
      (say_if (is_some (kept s).shut) (look_events look.seen look.flush look.rear front) (tt, (tt, (tt, say_drops look.seen front)))) (say_then (shows_command look.seen) (server.Take 2 ∷ []) (tt, tt))

  say_looks : (looks : List CommandLook) (fronts : List ℕ) (s : Listed) → AllSay (all_command_events s looks fronts)
  say_looks [] [] s = tt
  say_looks [] (front ∷ fronts) s = tt
  say_looks (look ∷ looks) [] s = tt
  say_looks (look ∷ looks) (front ∷ fronts) s = let now : List ServerEvent = command_events s look front in
      say_both now (all_command_events (did s now) looks fronts) (say_look s look front) (say_looks looks fronts (did s now))

  say_status : (last word : ℕ) (o : Option ℕ) → fold status_by last (status_events o) ≡ word → Says word → AllSay (status_events o)
  say_status last word None is h = tt
  say_status last word (Some w) is h = (subst Says (sym is) h, tt)

  -- ## The round

  module _ (cut : Bool) (s : Session) (marks : Marks) (run : Run) (round : RoundSeen) (i : ℕ) (t : TurnMade s marks run round) (legal : LegalRound cut s marks run round) (known : List ServerEvent) (calm : CalmCommands run i known) (turn : OpenTurn s marks run round i t)
      (met : CommandsMet run i) (status_is : last_status (server_list (told_at run i).commands) ≡ (track_at run.normal.tracks i).status) (says_before : Says (track_at run.normal.tracks i).status) (says_after : Says (track_at (after_round s run round).normal.tracks i).status) where
    abbrev b : TrackTold
    b = told_at run i

    abbrev u : TrackTold
    u = told_at (after_round s run round) i

    abbrev after : TrackKept
    after = track_at (after_round s run round).normal.tracks i

    -- what the turn adds to the server's list says so
    abbrev o : Outside
    o = outside_of (setup_of s) (found_in s run round t.turn) t.turn

    abbrev told : CommandsTold s run round t.turn i b.commands (told_at (met_after s run round) i).commands
    told = commands_told s marks run round t i turn.low

    added : List ServerEvent
    added = command_list (setup_of s) o t.turn (tracks_at (setup_of s) (learnt o) run.normal t.turn i) i ++ server.Learn told.count ∷ []

    says_added : AllSay added
    unfolding added
    says_added =
        let looks : List ServerEvent = all_command_events (o.commands i) (track_in t.turn i).looks (o.command_fronts i) in
        let flags : List ServerEvent = invalid (learnt o) (track_in t.turn i) (tracks_at (setup_of s) (learnt o) run.normal t.turn i) i in
        let status : List ServerEvent = status_events (track_in t.turn i).status in
        let list : List ServerEvent = command_list (setup_of s) o t.turn (tracks_at (setup_of s) (learnt o) run.normal t.turn i) i in
        let list_is : list ≡ (looks ++ flags) ++ status = ap (λ (d : Bool). if d then [] else command_events_of (setup_of s) o (track_in t.turn i) (tracks_at (setup_of s) (learnt o) run.normal t.turn i) i) turn.runs in
        let stored : fold status_by (last_status (server_list b.commands)) status ≡ after.status =
        sym (status_told s run round t.turn i b.commands (told_at (met_after s run round) i).commands told turn.runs (track_in t.turn i) refl) ∙ status_round s marks run round t i turn.low turn.there turn.runs status_is in
        say_both list (server.Learn told.count ∷ []) (subst AllSay (sym list_is) (say_both (looks ++ flags) status
        (say_both looks flags (say_looks (track_in t.turn i).looks (o.command_fronts i) (o.commands i)) (say_then _ (server.SetFlags 4 ∷ []) (tt, tt)))
        (say_status (last_status (server_list b.commands)) after.status (track_in t.turn i).status stored says_after))) (tt, tt)

    server_then : server_list u.commands ≡ met.did ++ (server.Learn met.count ∷ added)
    unfolding added
    server_then = ap server_list (round_blocks s run round i turn.low).1 ∙ told.server ∙ ap (λ (es : List ServerEvent). es ++ added) met.server ∙ append_assoc met.did (server.Learn met.count ∷ []) added

    says_known : Says (last_status met.did)
    says_known = let same : last_status (server_list b.commands) ≡ last_status met.did = ap last_status met.server ∙ fold-append status_by 0 met.did (server.Learn met.count ∷ []) in
        subst Says (sym status_is ∙ same) says_before

    -- a first look of the client at the status sees this
    pub look_says : (word : ℕ) (rest : List ClientCall) → calls_in round i ≡ call.Status word ∷ rest → Says word
    look_says word rest is =
        let lists = command_lists s run round i turn.low in
        let first : Track = after_call (sides_of b) (call.Status word) in
        let grown = commands_grow first rest in
        let events : List ClientEvent = client_list b.commands in
        let tail : List ClientEvent = grown.0 ++ client.Learn (length lists.did) ∷ [] in
        let said : (fold after_call (sides_of b) (calls_in round i)).commands.events ≡ (events ++ client.SawStatus word ∷ []) ++ grown.0 = ap (λ (cs : List ClientCall). (fold after_call (sides_of b) cs).commands.events) is ∙ grown.1 in
        let whole : client_list u.commands ≡ events ++ client.SawStatus word ∷ tail =
        lists.client ∙ ap (λ (es : List ClientEvent). es ++ client.Learn (length lists.did) ∷ []) (lists.said_is ∙ said)
        ∙ append_assoc (events ++ client.SawStatus word ∷ []) grown.0 (client.Learn (length lists.did) ∷ []) ∙ append_assoc events (client.SawStatus word ∷ []) tail in
        let shape = commands_shape cut s marks run round i t legal known calm turn in
        let small = calm.few in
        let size : u.commands.shape.frames ≡ 128 = ap (λ (k : Shape). k.frames) shape ∙ small in
        let sees = status_at u.commands.shape (omega (arith, size)) (client_list u.commands) u.commands.released (server_list u.commands) u.commands.taken (hand_list u.commands)
        (command_history cut s marks run round i legal turn.low turn.named (pokeless_after cut s marks run round i t legal known calm turn).commands) (spelled_after cut s marks run round i t legal known calm turn).commands
        (calm_after cut s marks run round i t legal known calm turn) (hands_after cut s marks run round i t legal known calm turn) events tail word met.did (server.Learn met.count ∷ added) whole server_then
        (inr (record { before = met.said; behind = []; whole = met.client })) in
        subst Says (sym sees.4) (says_least 0 met.did (server.Learn met.count ∷ added) sees.0 sees.1 (sym server_then ∙ sees.2) sees.3 says_known (tt, says_added))
