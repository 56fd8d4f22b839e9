-- After a turn of the normal mixer by which it ended the run with that turn tells each track's proxies: nothing was done to them, and each is home.
use Rattle.std.proofs.Common.{◌≡◌, ℕ, zero, suc, ◌<◌, ◌&&◌, ◌||◌, Bool, true, false, true≢false, if◌then◌else◌, List, [], ◌∷◌, ◌++◌, append-nil, length, slice_get, Some, refl, sym, ap, subst, ◌∙◌, arith}
use Rattle.af_told_law.proofs.Common.{Adds, AllByRecursion, AreTogether, BlockTold, HandEvent, IsLegal, Links, NormalKept, NormalState, Outside, Run, ServerEvent, ServerPart, ServerState, Session, SessionState, Setup, TrackKept, Turn, and_parts, command_events_of, commands_turned, ended_turn, hand_events, hand_events_of, invalid, commands_exit, is_home, kept_of, learnt, mix_events, same_Some, setup_of as mixer_setup, some_at, stream_turned, told_at, track_at, track_in, tracks_at, turn_of, turned_track, words_taken}
use Rattle.af_audit.proofs.DoneTracks.{IsDone}
use Rattle.af_runs.specs.Blocks as told_of
use Rattle.af_runs.specs.Sessions.{setup_of}
use Rattle.af_told_law.specs.Between.{IsQuiet}
use Rattle.af_told_law.proofs.Places.{StreamsStay}
use Rattle.af_told_law.specs.Tells.{Tells, TellsCommands, TellsServer, TellsStream}
use Rattle.af_told_law.proofs.ClientTold.{did_same}
use Rattle.af_told_law.specs.Deeds.{DeedTold, Deeds, ServerDone, TrackDid, commands_by, deeds_turned, done_on, stream_by}

-- if all tracks are done with, each is home
done_home : (tracks : List TrackKept) (i : ℕ) → AllByRecursion IsDone tracks → is_home (track_at tracks i).holder ≡ true
done_home [] i done = refl
done_home (s ∷ tracks) zero done = done.0.home
done_home (s ∷ tracks) (suc i) done = done_home tracks i done.1

-- ## A turn that has ended tells nothing of a block

module _ (c : Setup) (p : Outside) (m : NormalKept) (i : ℕ) (b : BlockTold) (deed : List ServerEvent) where
  stream_still : (e : Turn) → e ≡ ended_turn → (done_on b deed ≡ done_on (stream_turned c p m e i b) deed) × (told_of.server_list (stream_turned c p m e i b) ≡ told_of.server_list b) × (told_of.hand_list (stream_turned c p m e i b) ≡ told_of.hand_list b)
  stream_still e is = subst (λ (t : Turn). (done_on b deed ≡ done_on (stream_turned c p m t i b) deed) × (told_of.server_list (stream_turned c p m t i b) ≡ told_of.server_list b) × (told_of.hand_list (stream_turned c p m t i b) ≡ told_of.hand_list b)) (sym is)
      ((λ j. record { shape = b.shape; events = deed; taken = sym (append-nil b.taken) j }), refl, refl)

  commands_still : (e : Turn) → e ≡ ended_turn → (done_on b deed ≡ done_on (commands_turned c p m e i b) deed) × (told_of.server_list (commands_turned c p m e i b) ≡ told_of.server_list b) × (told_of.hand_list (commands_turned c p m e i b) ≡ told_of.hand_list b)
  commands_still e is = subst (λ (t : Turn). (done_on b deed ≡ done_on (commands_turned c p m t i b) deed) × (told_of.server_list (commands_turned c p m t i b) ≡ told_of.server_list b) × (told_of.hand_list (commands_turned c p m t i b) ≡ told_of.hand_list b)) (sym is)
      ((λ j. record { shape = b.shape; events = deed; taken = sym (append-nil b.taken) j }), refl, refl)

module _ (links : Links) (s : Session) (run : Run) {d : Deeds} (x : SessionState) (n : NormalState) (o p : Outside) (told : Tells s run d x) (before : AreTogether links x) (legal : IsLegal o x.normal n) (ends : (turn_of n.entry).ended ≡ true) (stays : StreamsStay o x.normal n (turn_of n.entry))
    (lives : x.normal.ended ≡ false) (quiet : IsQuiet (kept_of x.normal)) where
  abbrev e : Turn
  e = turn_of n.entry

  abbrev k : NormalKept
  k = kept_of x.normal

  abbrev c : Setup
  c = mixer_setup x.normal

  still : turn_of n.entry ≡ ended_turn
  still = legal.legal.still ends

  exit : commands_exit k.last ≡ true
  exit = by_end x.normal.ended lives (sym legal.legal.ends ∙ ends)
    where
      by_end : (b : Bool) → b ≡ false → (b || (commands_exit k.last && e.ack)) ≡ true → commands_exit k.last ≡ true
      by_end true off now = absurd (true≢false off)
      by_end false off now = (and_parts (commands_exit k.last) e.ack now).0

  -- each stream proxy is home
  pub all_home : (i : ℕ) → is_home (track_at n.tracks i).holder ≡ true
  all_home i = ap (λ (ts : List TrackKept). is_home (track_at ts i).holder) stays.tracks ∙ done_home x.normal.tracks i (quiet.over (quiet.rests exit).1)

  -- the servers did nothing in the turn
  stream_none : (i : ℕ) → d.streams i ++ stream_by c k o e i ≡ d.streams i
  stream_none i =
      let none : stream_by c k o e i ≡ [] = ap (λ (b : Bool). if b then [] else (if is_home (track_at (tracks_at c (learnt o) k e i) i).holder then invalid (learnt o) (track_in e i) (tracks_at c (learnt o) k e i) i else []) ++ mix_events c o e.mixes i) ends in
      ap (λ (es : List ServerEvent). d.streams i ++ es) none ∙ append-nil (d.streams i)

  commands_nothing : (i : ℕ) → commands_by c k o e i ≡ []
  commands_nothing i = ap (λ (b : Bool). if b then [] else command_events_of c o (track_in e i) (tracks_at c (learnt o) k e i) i) ends

  commands_none : (i : ℕ) → d.commands i ++ commands_by c k o e i ≡ d.commands i
  commands_none i = ap (λ (es : List ServerEvent). d.commands i ++ es) (commands_nothing i) ∙ append-nil (d.commands i)

  part_told : (did : ServerDone) (r t : ServerState) → t.pass.part ≡ r.pass.part → TellsServer did r → TellsServer did t
  part_told did r t same h = record {
    shape = ap (λ (q : ServerPart). q.shape) same ∙ h.shape;
    events = ap (λ (q : ServerPart). q.events) same ∙ h.events;
    taken = ap (λ (q : ServerPart). q.frames) same ∙ h.taken;
  }

  pub stream_ended : (i : ℕ) → i < length x.normal.tracks → TellsStream n x.fast i (turned_track (setup_of s) p run.normal e i (told_at run i)).stream (d.streams i ++ stream_by c k o e i)
  stream_ended i low =
      let client = some_at x.clients i (let count = before.count in omega (arith, low, count)) in
      let was : TellsStream x.normal x.fast i (told_at run i).stream (d.streams i) = (told.tracks i client.0 client.1).stream in
      let same = stream_still (setup_of s) p run.normal i (told_at run i).stream (d.streams i) e still in
      let none : hand_events_of e i ≡ [] = ap (λ (t : Turn). hand_events_of t i) still in
      subst (TellsStream n x.fast i (turned_track (setup_of s) p run.normal e i (told_at run i)).stream) (sym (stream_none i)) (record {
        home = (λ t is. let r = stays.home i t is in subst (λ (did : ServerDone). TellsServer did t) same.0 (part_told (done_on (told_at run i).stream (d.streams i)) r.0 t r.2 (was.home r.0 r.1)));
        away = (λ gone. absurd (true≢false (sym (all_home i) ∙ gone)));
        hand = legal.lists.hands i ∙ ap (λ (hs : List HandEvent). hand_events x.normal.hands i ++ hs) none ∙ append-nil (hand_events x.normal.hands i) ∙ was.hand ∙ sym same.2;
      })

  pub commands_ended : (i : ℕ) (t : ServerState) → i < length x.normal.tracks → slice_get n.commands i ≡ Some t → TellsCommands (turned_track (setup_of s) p run.normal e i (told_at run i)).commands (d.commands i ++ commands_by c k o e i) t
  commands_ended i t low is =
      let b : BlockTold = (told_at run i).commands in
      let client = some_at x.clients i (let count = before.count in omega (arith, low, count)) in
      let here = some_at x.normal.commands i (let same = before.normal.tied.sizes.commands_are in omega (arith, low, same)) in
      let was : TellsCommands b (d.commands i) here.0 = (told.tracks i client.0 client.1).commands here.0 here.1 in
      let turned = legal.lists.commands i here.0 here.1 in
      let one : turned.0 ≡ t = same_Some turned.0 t (sym turned.1 ∙ is) in
      let adds : Adds here.0 (commands_by c k o e i) (words_taken (track_in e i).looks) t = subst (λ (y : ServerState). Adds here.0 (commands_by c k o e i) (words_taken (track_in e i).looks) y) one turned.2 in
      let words : words_taken (track_in e i).looks ≡ [] = ap (λ (t : Turn). words_taken (track_in t i).looks) still in
      let same = commands_still (setup_of s) p run.normal i b (d.commands i) e still in
      subst (λ (es : List ServerEvent). TellsCommands (turned_track (setup_of s) p run.normal e i (told_at run i)).commands es t) (sym (commands_none i)) (record {
        server = subst (λ (did : ServerDone). TellsServer did t) same.0 (record {
          shape = adds.shape ∙ was.server.shape;
          events = adds.list ∙ ap (λ (es : List ServerEvent). here.0.pass.part.events ++ es) (commands_nothing i) ∙ append-nil here.0.pass.part.events ∙ was.server.events;
          taken = adds.took ∙ ap (λ (ws : List ℕ). here.0.pass.part.frames ++ ws) words ∙ append-nil here.0.pass.part.frames ∙ was.server.taken;
        });
        whole = legal.lists.whole i here.0 t here.1 is ∙ was.whole;
        none = same.2 ∙ was.none;
      })

  pub track_over : (i : ℕ) → i < length x.normal.tracks → TrackDid (deeds_turned c k o e d) i (turned_track (setup_of s) p run.normal e i (told_at run i))
  track_over i low =
      let client = some_at x.clients i (let count = before.count in omega (arith, low, count)) in
      let was : TrackDid d i (told_at run i) = (told.tracks i client.0 client.1).did in
      let stream = stream_still (setup_of s) p run.normal i (told_at run i).stream (d.streams i) e still in
      let commands = commands_still (setup_of s) p run.normal i (told_at run i).commands (d.commands i) e still in record {
        stream = subst (DeedTold (turned_track (setup_of s) p run.normal e i (told_at run i)).stream) (sym (stream_none i)) (did_same (told_at run i).stream (turned_track (setup_of s) p run.normal e i (told_at run i)).stream (d.streams i) refl stream.1 was.stream);
        commands = subst (DeedTold (turned_track (setup_of s) p run.normal e i (told_at run i)).commands) (sym (commands_none i)) (did_same (told_at run i).commands (turned_track (setup_of s) p run.normal e i (told_at run i)).commands (d.commands i) refl commands.1 was.commands);
      }
