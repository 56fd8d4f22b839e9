-- What a legal turn of a session's normal mixer saw is what its run has found.
use Rattle.std.proofs.Common.{Bool, Some, ap, arith, false, if◌then◌else◌, length, not, refl, slice_get, subst, sym, true, ℕ, ◌&&◌, ◌++◌, ◌<◌, ◌∙◌, ◌≡◌}
use Rattle.af_told_law.proofs.Common.{AreTogether, BlockTold, GoesOn, IsLegal, LegalTurnBy, Links, Listed, Marks, NormalKept, NormalState, Outside, PartyState, Run, ServerState, Session, SessionState, Setup, TrackKept, Turn, TurnFound, after_ack, carries, in_hand, is_home, is_returning, kept_of, learnt, listed as told_list, listed_at, outside_of, server_begins, setup_of as mixer_setup, slot_number, some_at, stays_out, stream_at, takes_from, told_at, track_at, track_in, tracks_at, turn_of, welcomed, welcomed_at}
use Rattle.af_runs.specs.Sessions.{setup_of}
use Rattle.af_server.specs.Slot.{listed}
use Rattle.af_told_law.specs.Comers.{ComersTell}
use Rattle.af_told_law.proofs.Outsides.{AreAlike, IsFound, ListAlike, LooksTold, SawCommands, SawStream, TakeTold}
use Rattle.af_told_law.specs.Tells.{Tells, TellsServer}
use Rattle.af_told_law.proofs.FoundLegal.{found_alike, found_legal}
use Rattle.af_told_law.proofs.TurnFronts.{commands_told, stream_told}
use Rattle.af_told_law.specs.Deeds.{Deeds, SawOwnBy, SawOwnOf, TrackDid, commands_by, deeds_turned, done_on, stream_by}
use Rattle.af_told_law.proofs.MixLooks.{listed_real, own_split, real_list}
use Rattle.af_told_law.specs.NormalLaws.{FindsBlocks, HeardAlike}
use Rattle.af_engine.proofs.Basics.{some_of}

-- a track that isn't returning, or of which no acknowledgement was seen, stays as it is
ack_stays : (ack : Bool) (m : NormalKept) (i : ℕ) → (ack && is_returning (track_at m.tracks i).holder) ≡ false → track_at (after_ack ack m).tracks i ≡ track_at m.tracks i
unfolding welcomed
ack_stays false m i stays = refl
ack_stays true m i stays = welcomed_at m.last m.tracks i ∙ stays_out m.last (track_at m.tracks i) (ap (λ (b : Bool). b && not (carries m.last (slot_number (track_at m.tracks i)))) stays)

module _ (links : Links) (s : Session) (run : Run) {d : Deeds} (x : SessionState) (n : NormalState) (o : Outside) (told : Tells s run d x) (before : AreTogether links x) (legal : IsLegal o x.normal n) (runs : (turn_of n.entry).ended ≡ false) (f : TurnFound) (finds : FindsBlocks run f) (report : HeardAlike (after_ack (turn_of n.entry).ack (kept_of x.normal)).tracks o.report f.report)
    (comers : ComersTell run d x.normal (turn_of n.entry) legal.lists.back) where
  abbrev e : Turn
  e = turn_of n.entry

  abbrev c : Setup
  c = mixer_setup x.normal

  abbrev m : NormalKept
  m = kept_of x.normal

  goes : GoesOn c o m e
  goes = legal.legal.goes_on runs

  -- the client of a track
  pub client_at : (i : ℕ) → i < length m.tracks → (p : PartyState) × (slice_get x.clients i ≡ Some p)
  client_at i low = some_at x.clients i (let count = before.count in omega (arith, low, count))

  -- what was told of the servers of a track
  did_at : (i : ℕ) → i < length m.tracks → TrackDid d i (told_at run i)
  did_at i low = let client = client_at i low in (told.tracks i client.0 client.1).did

  -- ## The streams

  -- a stream proxy that is home in the turn did what is listed of it
  served_home : (i : ℕ) → i < length m.tracks → is_home (track_at (after_ack e.ack m).tracks i).holder ≡ true → (t : ServerState) × (o.streams i ≡ listed t) × TellsServer (done_on (told_at run i).stream (d.streams i)) t
  served_home i low home = let here = by_back (e.ack && is_returning (track_at m.tracks i).holder) refl in (here.0, legal.lists.home runs i ∙ here.1, here.2)
    where
      by_back : (b : Bool) → (e.ack && is_returning (track_at m.tracks i).holder) ≡ b
          → (t : ServerState) × (listed_at (if b then in_hand legal.lists.back x.normal.mutator.returned (slot_number (track_at m.tracks i)) else stream_at x.normal.streams i) ≡ listed t) × TellsServer (done_on (told_at run i).stream (d.streams i)) t
      by_back true is = let here = comers i low is home in (here.0, ap listed_at here.1, here.2)
      by_back false is =
          let was : is_home (track_at m.tracks i).holder ≡ true = sym (ap (λ (t : TrackKept). is_home t.holder) (ack_stays e.ack m i is)) ∙ home in
          let here = some_of (stream_at x.normal.streams i) (before.normal.tied.proxies.there i low ∙ was) in
          let client = client_at i low in
          (here.0, ap listed_at here.1, (told.tracks i client.0 client.1).stream.home here.0 here.1)

  pub stream_real : (i : ℕ) → i < length m.tracks → is_home (track_at (after_ack e.ack m).tracks i).holder ≡ true → o.streams i ≡ real_list (told_at run i).stream (d.streams i)
  stream_real i low home = let here = served_home i low home in here.1 ∙ listed_real (told_at run i).stream (d.streams i) here.0 here.2

  stream_near : (i : ℕ) → i < length m.tracks → is_home (track_at (after_ack e.ack m).tracks i).holder ≡ true → ListAlike (o.streams i) (told_list (told_at run i).stream)
  stream_near i low home = subst (λ (l : Listed). ListAlike l (told_list (told_at run i).stream)) (sym (stream_real i low home)) (record { shape = refl; alike = (did_at i low).stream.alike })

  -- if each front that a stream proxy saw is its own, it has the list that is told
  pub stream_found : (i : ℕ) → i < length m.tracks → is_home (track_at (after_ack e.ack m).tracks i).holder ≡ true → SawStream c m e o i → o.streams i ≡ told_list (told_at run i).stream
  stream_found i low home saw =
      let b : BlockTold = (told_at run i).stream in
      let real = stream_real i low home in
      real ∙ ap (real_list b) ((did_at i low).stream.own (subst (λ (l : Listed). SawOwnOf l.shape l.events) real (own_split (o.streams i).shape (server_begins (o.streams i).shape) (o.streams i).events (stream_by c m o e i) saw).0))

  -- the front of a stream that was taken from is told
  takes_found : (i : ℕ) → i < length m.tracks → SawStream c m e o i → TakeTold c (o.streams i) (o.stream_front i) (takes_from e.mixes i)
  takes_found i low saw = stream_told c o e (tracks_at c (learnt o) m e i) i runs saw goes.takes

  -- ## The command blocks

  pub command_at : (i : ℕ) → i < length m.tracks → (t : ServerState) × (slice_get x.normal.commands i ≡ Some t)
  command_at i low = some_at x.normal.commands i (let same = before.normal.tied.sizes.commands_are in omega (arith, low, same))

  pub command_real : (i : ℕ) → i < length m.tracks → o.commands i ≡ real_list (told_at run i).commands (d.commands i)
  command_real i low =
      let here = command_at i low in
      let client = client_at i low in
      legal.commands i here.0 here.1 ∙ listed_real (told_at run i).commands (d.commands i) here.0 ((told.tracks i client.0 client.1).commands here.0 here.1).server

  commands_near : (i : ℕ) → i < length m.tracks → ListAlike (o.commands i) (told_list (told_at run i).commands)
  commands_near i low = subst (λ (l : Listed). ListAlike l (told_list (told_at run i).commands)) (sym (command_real i low)) (record { shape = refl; alike = (did_at i low).commands.alike })

  pub commands_found : (i : ℕ) → i < length m.tracks → SawCommands c m e o i → o.commands i ≡ told_list (told_at run i).commands
  commands_found i low saw =
      let b : BlockTold = (told_at run i).commands in
      let real = command_real i low in
      real ∙ ap (real_list b) ((did_at i low).commands.own (subst (λ (l : Listed). SawOwnOf l.shape l.events) real (own_split (o.commands i).shape (server_begins (o.commands i).shape) (o.commands i).events (commands_by c m o e i) saw).0))

  looks_found : (i : ℕ) → i < length m.tracks → SawCommands c m e o i → LooksTold (o.commands i) (track_in e i).looks (o.command_fronts i)
  looks_found i low saw = commands_told c o e (tracks_at c (learnt o) m e i) i runs saw (goes.looks i low)

  -- ## The turn

  pub is_found : IsFound c m e o f
  is_found = record {
    report = report;
    streams = (λ i low home. subst (λ (b : BlockTold). ListAlike (o.streams i) (told_list b)) (sym (finds.streams i)) (stream_near i low home));
    commands = (λ i low. subst (λ (b : BlockTold). ListAlike (o.commands i) (told_list b)) (sym (finds.commands i)) (commands_near i low));
    same_streams = (λ i low home saw. stream_found i low home saw ∙ ap told_list (sym (finds.streams i)));
    same_commands = (λ i low saw. commands_found i low saw ∙ ap told_list (sym (finds.commands i)));
    takes = takes_found;
    looks = looks_found;
  }

  -- what the turn saw is alike what the run tells
  pub turn_alike : AreAlike run.normal e o (outside_of (setup_of s) f e)
  turn_alike = subst (λ (y : Setup × NormalKept). AreAlike y.1 e o (outside_of y.0 f e)) (λ j. (told.normal.setup j, told.normal.kept j))
      (found_alike c m e o f before.normal.tied.sound runs legal.legal is_found)

  inside : (i : ℕ) → i < length m.tracks → i < length run.tracks
  inside i low = let a = told.count.0 in let b = told.count.1 in let count = before.count in omega (arith, low, a, b, count)

  -- the turn is legal by what was found, by marks on whose blocks each front seen up to its end is a server's own
  pub turn_legal : (marks : Marks) → SawOwnBy marks run (deeds_turned c m o e d) → LegalTurnBy (setup_of s) marks f run.normal e
  turn_legal marks own = subst (λ (y : Setup × NormalKept). LegalTurnBy y.0 marks f y.1 e) (λ j. (told.normal.setup j, told.normal.kept j))
      (found_legal c m e o f before.normal.tied.sound runs legal.legal is_found marks
      (λ i low home on. subst (λ (l : Listed). SawOwnOf l.shape (l.events ++ stream_by c m o e i)) (sym (stream_real i low home)) (own.streams i (inside i low) on))
      (λ i low on. subst (λ (l : Listed). SawOwnOf l.shape (l.events ++ commands_by c m o e i)) (sym (command_real i low)) (own.commands i (inside i low) on)))
