-- What a turn of a session's normal mixer leaves of each track's proxies is told by the run's turn.
use Rattle.std.proofs.Common.{◌≡◌, ◌⊎◌, inl, inr, ℕ, ◌<◌, Bool, true, false, true≢false, if◌then◌else◌, fold, map, List, [], ◌∷◌, ◌++◌, length, slice_get, Some, refl, sym, ap, ◌∙◌, subst, arith, append-nil}
use Rattle.af_told_law.proofs.Common.{Adds, AreTogether, BlockTold, GoesOnFrom, HandEvent, IsLegal, Links, Listed, Moment, NormalKept, NormalState, Outside, Run, ServerEvent, ServerState, Session, SessionState, Setup, TakeSeen, TrackKept, Turn, TurnFound, after_ack, asked, by_hand, commands_turned, cycle_events, flat_map, going, hand_events, hand_events_of, invalid, is_home, kept_of, learnt, listed, mix_events, not_yet, outside_of, packed_word, same_Some, server_list, setup_of as mixer_setup, stream_list, stream_turned, takes_from, told_at, track_at, track_in, tracks_at, turn_after, turn_of, words_taken}
use Rattle.af_runs.specs.Blocks.{hand_list as told_hand}
use Rattle.af_runs.specs.Sessions.{setup_of}
use Rattle.af_told_law.specs.Comers.{ComersTell}
use Rattle.af_told_law.specs.Alike.{TellAlike}
use Rattle.af_told_law.proofs.Outsides.{AreAlike, IsFound, SameFront, SawCommands, SawStream}
use Rattle.af_told_law.specs.Tells.{Tells, TellsCommands, TellsServer}
use Rattle.af_told_law.proofs.ClientTold.{did_same}
use Rattle.af_told_law.proofs.FoundLegal.{found_alike, looks_same_fronts, taken_same}
use Rattle.af_told_law.proofs.LegalAlike.{command_list_same, stream_list_same}
use Rattle.af_told_law.proofs.ListsAlike.{command_list_alike, nothing_taken, stream_list_alike}
use Rattle.af_told_law.proofs.NormalFound.{client_at, command_at, command_real, commands_found, is_found, stream_found, stream_real}
use Rattle.af_told_law.proofs.TakenHome.{taken_home}
use Rattle.af_told_law.proofs.TurnAlike.{learn_alike, turn_same}
use Rattle.af_told_law.specs.Deeds.{DeedTold, Deeds, SawOwnOf, commands_by, done_on, stream_by}
use Rattle.af_told_law.proofs.MixLooks.{real_list}
use Rattle.af_told_law.specs.NormalLaws.{FindsBlocks, HeardAlike}
use Rattle.af_enough_law.proofs.MoreTold.{hand-hand, hand-server, server-hand, server-server}

-- ## A block after some events

-- the words that a turn took from a stream
abbrev pub stream_words : Turn → ℕ → List ℕ
stream_words e i = going e (map packed_word (flat_map (λ (take : TakeSeen). take.frames) (takes_from e.mixes i)))

-- a stream block's lists after a turn
module _ (c : Setup) (p : Outside) (m : NormalKept) (e : Turn) (i : ℕ) (b : BlockTold) where
  pub stream_servers : server_list (stream_turned c p m e i b) ≡ server_list b ++ stream_list c p e (tracks_at c (learnt p) m e i) i
  stream_servers = server-server (fold (λ (sofar : List Moment) (one : Moment). one ∷ sofar) b.told (map by_hand (hand_events_of e i))) (stream_list c p e (tracks_at c (learnt p) m e i) i)
      ∙ ap (λ (es : List ServerEvent). es ++ stream_list c p e (tracks_at c (learnt p) m e i) i) (hand-server b.told (hand_events_of e i))

  stream_hands : told_hand (stream_turned c p m e i b) ≡ told_hand b ++ hand_events_of e i
  stream_hands = server-hand (fold (λ (sofar : List Moment) (one : Moment). one ∷ sofar) b.told (map by_hand (hand_events_of e i))) (stream_list c p e (tracks_at c (learnt p) m e i) i) ∙ hand-hand b.told (hand_events_of e i)

module _ (links : Links) (s : Session) (run : Run) {d : Deeds} (x : SessionState) (n : NormalState) (o : Outside) (told : Tells s run d x) (before : AreTogether links x) (legal : IsLegal o x.normal n) (runs : (turn_of n.entry).ended ≡ false) (f : TurnFound) (finds : FindsBlocks run f)
    (report : HeardAlike (after_ack (turn_of n.entry).ack (kept_of x.normal)).tracks o.report f.report) (comers : ComersTell run d x.normal (turn_of n.entry) legal.lists.back) where
  abbrev e : Turn
  e = turn_of n.entry

  abbrev c : Setup
  c = mixer_setup x.normal

  abbrev m : NormalKept
  m = kept_of x.normal

  -- what the run tells that the turn saw, over either setup
  abbrev seen_by : Setup → Outside
  seen_by c = outside_of c f e

  found_now : IsFound (mixer_setup x.normal) m e o f
  found_now = is_found links s run x n o told before legal runs f finds report comers

  alike : AreAlike m e o (seen_by (mixer_setup x.normal))
  alike = found_alike (mixer_setup x.normal) m e o f before.normal.tied.sound runs legal.legal found_now

  -- ## What is kept

  pub turned_kept : kept_of n ≡ turn_after (setup_of s) (learnt (seen_by (setup_of s))) run.normal e
  turned_kept =
      legal.leaves
      ∙ turn_same (mixer_setup x.normal) (learnt o) (learnt (seen_by (mixer_setup x.normal))) m e before.normal.tied.sound (learn_alike m e o (seen_by (mixer_setup x.normal)) alike)
      ∙ (λ j. turn_after (told.normal.setup j) (learnt (seen_by (told.normal.setup j))) (told.normal.kept j) e)

  -- ## The command blocks

  -- what the run tells of a command block
  abbrev told_commands : ℕ → List ServerEvent
  told_commands i = commands_by (setup_of s) run.normal (seen_by (setup_of s)) e i

  commands_setup : (i : ℕ) → commands_by (mixer_setup x.normal) m (seen_by (mixer_setup x.normal)) e i ≡ told_commands i
  commands_setup i = λ j. commands_by (told.normal.setup j) (told.normal.kept j) (seen_by (told.normal.setup j)) e i

  -- the list of a command block, if each front seen is the server's own
  commands_list : (i : ℕ) → i < length m.tracks → SawCommands (mixer_setup x.normal) m e o i → commands_by (mixer_setup x.normal) m o e i ≡ told_commands i
  commands_list i low saw =
      command_list_same (mixer_setup x.normal) m e o (seen_by (mixer_setup x.normal)) before.normal.tied.sound alike i low (found_now.same_commands i low saw)
      (looks_same_fronts (mixer_setup x.normal) m e o f before.normal.tied.sound runs legal.legal found_now i low saw)
      ∙ commands_setup i

  -- the command proxy after the turn
  pub turned_commands : (i : ℕ) (t : ServerState) → i < length m.tracks → slice_get n.commands i ≡ Some t → TellsCommands (commands_turned (setup_of s) (seen_by (setup_of s)) run.normal e i (told_at run i).commands) (d.commands i ++ commands_by (mixer_setup x.normal) m o e i) t
  turned_commands i t low is =
      let b : BlockTold = (told_at run i).commands in
      let here = command_at links s run x n o told before legal runs f finds report comers i low in
      let client = client_at links s run x n o told before legal runs f finds report comers i low in
      let was : TellsCommands b (d.commands i) here.0 = (told.tracks i client.0 client.1).commands here.0 here.1 in
      let turned = legal.lists.commands i here.0 here.1 in
      let same : turned.0 ≡ t = same_Some turned.0 t (sym turned.1 ∙ is) in
      let adds : Adds here.0 (commands_by c m o e i) (words_taken (track_in e i).looks) t = subst (λ (y : ServerState). Adds here.0 (commands_by c m o e i) (words_taken (track_in e i).looks) y) same turned.2 in
      let words : words_taken (track_in e i).looks ≡ going e (words_taken (track_in e i).looks) = sym (ap (λ (b : Bool). if b then [] else words_taken (track_in e i).looks) runs) in record {
        server = record {
          shape = adds.shape ∙ was.server.shape;
          events = adds.list ∙ ap (λ (es : List ServerEvent). es ++ commands_by c m o e i) was.server.events;
          taken = adds.took ∙ (λ j. was.server.taken j ++ words j);
        };
        whole = legal.lists.whole i here.0 t here.1 is ∙ was.whole;
        none = server-hand b.told (told_commands i) ∙ was.none;
      }

  -- what a command proxy did is told
  pub commands_did : (i : ℕ) → i < length m.tracks → DeedTold (commands_turned (setup_of s) (seen_by (setup_of s)) run.normal e i (told_at run i).commands) (d.commands i ++ commands_by (mixer_setup x.normal) m o e i)
  commands_did i low =
      let b : BlockTold = (told_at run i).commands in
      let real : o.commands i ≡ real_list b (d.commands i) = command_real links s run x n o told before legal runs f finds report comers i low in
      let grown : server_list (commands_turned (setup_of s) (seen_by (setup_of s)) run.normal e i b) ≡ server_list b ++ told_commands i = server-server b.told (told_commands i) in record {
        alike = subst (λ (z : List ServerEvent × List ServerEvent). TellAlike b.shape z.0 z.1)
            (λ j. ((real j).events ++ commands_by c m o e i, (ap (λ (zs : List ServerEvent). server_list b ++ zs) (commands_setup i) ∙ sym grown) j))
            (subst (λ (y : BlockTold). TellAlike y.shape ((o.commands i).events ++ commands_by c m o e i) (server_list y ++ commands_by c m (seen_by c) e i)) (finds.commands i)
            (command_list_alike c m e o (seen_by c) before.normal.tied.sound alike legal.legal runs i low refl));
        own = (λ saw.
            let seen : SawCommands c m e o i = subst (λ (l : Listed). SawOwnOf l.shape (l.events ++ commands_by c m o e i)) (sym real) saw in
            let same : real_list b (d.commands i) ≡ listed b = sym real ∙ commands_found links s run x n o told before legal runs f finds report comers i low seen in
            (λ j. (same j).events ++ commands_list i low seen j) ∙ sym grown);
      }

  -- ## The streams

  -- what the run tells of a stream
  abbrev told_stream : ℕ → List ServerEvent
  told_stream i = stream_by (setup_of s) run.normal (seen_by (setup_of s)) e i

  streams_setup : (i : ℕ) → stream_by (mixer_setup x.normal) m (seen_by (mixer_setup x.normal)) e i ≡ told_stream i
  streams_setup i = λ j. stream_by (told.normal.setup j) (told.normal.kept j) (seen_by (told.normal.setup j)) e i

  -- the list of a stream from which nothing was taken, or whose list and front are the same
  streams_list : (i : ℕ) → i < length m.tracks → (takes_from e.mixes i ≡ []) ⊎ ((o.streams i ≡ listed (f.streams i)) × SameFront (o.streams i) (o.stream_front i) ((seen_by (mixer_setup x.normal)).stream_front i)) → stream_by (mixer_setup x.normal) m o e i ≡ told_stream i
  streams_list i low taken = stream_list_same (mixer_setup x.normal) m e o (seen_by (mixer_setup x.normal)) before.normal.tied.sound alike i low taken ∙ streams_setup i

  -- if nothing was done to a stream, nothing is told
  pub streams_quiet : (i : ℕ) → i < length m.tracks → stream_by (mixer_setup x.normal) m o e i ≡ [] → stream_by (setup_of s) run.normal (seen_by (setup_of s)) e i ≡ []
  streams_quiet i low none = sym (streams_list i low (inl (nothing_taken (mixer_setup x.normal) o e (tracks_at (mixer_setup x.normal) (learnt o) m e i) i runs none))) ∙ none

  -- a proxy that was home in the turn, and took the words of its takes, whether it stays or is lent
  pub turned_stream : (i : ℕ) (t : ServerState) → i < length m.tracks → is_home (track_at (after_ack e.ack m).tracks i).holder ≡ true → GoesOnFrom (o.streams i) (stream_by (mixer_setup x.normal) m o e i) t → t.pass.part.frames ≡ (told_at run i).stream.taken ++ stream_words e i
      → TellsServer (done_on (stream_turned (setup_of s) (seen_by (setup_of s)) run.normal e i (told_at run i).stream) (d.streams i ++ stream_by (mixer_setup x.normal) m o e i)) t
  turned_stream i t low home goes took =
      let real = stream_real links s run x n o told before legal runs f finds report comers i low home in
      record { shape = goes.1 ∙ ap (λ (l : Listed). l.shape) real; events = goes.0 ∙ ap (λ (l : Listed). l.events ++ stream_by c m o e i) real; taken = took }

  -- nothing is done to the block of a proxy that is away in the turn
  away_quiet : (i : ℕ) → is_home (track_at (after_ack e.ack m).tracks i).holder ≡ false → stream_by (mixer_setup x.normal) m o e i ≡ []
  away_quiet i away =
      let gone : is_home (track_at (tracks_at c (learnt o) m e i) i).holder ≡ false = ap (λ (t : TrackKept). is_home t.holder) (not_yet c (learnt o) e.tracks (after_ack e.ack m).tracks i i (omega arith)) ∙ away in
      (λ j. if runs j then [] else ((if gone j then invalid (learnt o) (track_in e i) (tracks_at c (learnt o) m e i) i else []) ++ mixes untaken j))
    where
      untaken : takes_from e.mixes i ≡ []
      untaken = elim (taken_home (mixer_setup x.normal) (learnt o) m e i before.normal.tied.sound (legal.legal.goes_on runs).due) as (λ _. takes_from e.mixes i ≡ []) [
        | inl none ↦ none
        | inr home ↦ absurd (true≢false (sym home.1 ∙ away))
      ]

      mixes : takes_from e.mixes i ≡ [] → mix_events (mixer_setup x.normal) o e.mixes i ≡ []
      mixes none = ap (flat_map (λ (take : TakeSeen). cycle_events (asked (mixer_setup x.normal)) (o.streams i) take.slot (o.stream_front i))) none

  -- what the proxy of a track did is told, wherever it is
  pub stream_did : (i : ℕ) → i < length m.tracks → DeedTold (stream_turned (setup_of s) (seen_by (setup_of s)) run.normal e i (told_at run i).stream) (d.streams i ++ stream_by (mixer_setup x.normal) m o e i)
  stream_did i low = by_home (is_home (track_at (after_ack e.ack m).tracks i).holder) refl
    where
      b : BlockTold
      b = (told_at run i).stream

      after : BlockTold
      after = stream_turned (setup_of s) (seen_by (setup_of s)) run.normal e i b

      grown : server_list after ≡ server_list b ++ told_stream i
      grown = stream_servers (setup_of s) (seen_by (setup_of s)) run.normal e i b

      at_home : is_home (track_at (after_ack e.ack m).tracks i).holder ≡ true → DeedTold after (d.streams i ++ stream_by c m o e i)
      at_home home =
          let real : o.streams i ≡ real_list b (d.streams i) = stream_real links s run x n o told before legal runs f finds report comers i low home in record {
            alike = subst (λ (z : List ServerEvent × List ServerEvent). TellAlike b.shape z.0 z.1)
                (λ j. ((real j).events ++ stream_by c m o e i, (ap (λ (zs : List ServerEvent). server_list b ++ zs) (streams_setup i) ∙ sym grown) j))
                (subst (λ (y : BlockTold). TellAlike y.shape ((o.streams i).events ++ stream_by c m o e i) (server_list y ++ stream_by c m (seen_by c) e i)) (finds.streams i)
                (stream_list_alike c m e o (seen_by c) before.normal.tied.sound alike legal.legal runs i low (found_now.streams i low home) refl));
            own = (λ saw.
                let seen : SawStream c m e o i = subst (λ (l : Listed). SawOwnOf l.shape (l.events ++ stream_by c m o e i)) (sym real) saw in
                let same : real_list b (d.streams i) ≡ listed b = sym real ∙ stream_found links s run x n o told before legal runs f finds report comers i low home seen in
                (λ j. (same j).events ++ streams_list i low (taken_same c m e o f before.normal.tied.sound runs legal.legal found_now i seen) j) ∙ sym grown);
          }

      by_home : (h : Bool) → is_home (track_at (after_ack e.ack m).tracks i).holder ≡ h → DeedTold after (d.streams i ++ stream_by c m o e i)
      by_home true home = at_home home
      by_home false away =
          let none = away_quiet i away in
          let client = client_at links s run x n o told before legal runs f finds report comers i low in
          subst (DeedTold after) (sym (ap (λ (es : List ServerEvent). d.streams i ++ es) none ∙ append-nil (d.streams i)))
          (did_same b after (d.streams i) refl (grown ∙ ap (λ (es : List ServerEvent). server_list b ++ es) (streams_quiet i low none) ∙ append-nil (server_list b)) (told.tracks i client.0 client.1).did.stream)

  -- the hand of a track after the turn
  pub turned_hand : (i : ℕ) → i < length m.tracks → hand_events n.hands i ≡ told_hand (stream_turned (setup_of s) (seen_by (setup_of s)) run.normal e i (told_at run i).stream)
  turned_hand i low =
      let client = client_at links s run x n o told before legal runs f finds report comers i low in
      legal.lists.hands i ∙ ap (λ (hs : List HandEvent). hs ++ hand_events_of e i) (told.tracks i client.0 client.1).stream.hand ∙ sym (stream_hands (setup_of s) (seen_by (setup_of s)) run.normal e i (told_at run i).stream)
