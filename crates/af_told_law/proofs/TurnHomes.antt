-- The stream proxies that are home after a turn of a session's normal mixer, and those that it lends, are told by the run's turn. A turn that has ended is legal too.
use Rattle.std.proofs.Common.{Bool, Some, ap, arith, false, is_some, length, refl, subst, sym, true, ℕ, ◌++◌, ◌<◌, ◌∙◌, ◌≡◌}
use Rattle.af_told_law.proofs.Common.{AreTogether, BlockTold, IsLegal, LegalTurnBy, Links, Marks, NormalKept, NormalState, Outside, Run, ServerState, Session, SessionState, Setup, Turn, TurnFound, after_ack, is_home, kept_of, learnt, outside_of, setup_of as mixer_setup, stream_at, stream_turned, told_at, track_at, turn_after, turn_of}
use Rattle.af_runs.specs.Sessions.{setup_of}
use Rattle.af_told_law.specs.Comers.{ComersTell}
use Rattle.af_told_law.specs.Tells.{Tells, TellsServer}
use Rattle.af_told_law.proofs.FoundLegal.{ended_legal}
use Rattle.af_told_law.proofs.HomeBefore.{turned_before}
use Rattle.af_told_law.proofs.NormalFound.{turn_legal}
use Rattle.af_told_law.proofs.TurnTracks.{stream_words, turned_stream}
use Rattle.af_told_law.specs.Deeds.{Deeds, SawOwnBy, deeds_turned, done_on, stream_by}
use Rattle.af_told_law.specs.NormalLaws.{FindsBlocks, HeardAlike}

module _ (links : Links) (s : Session) (run : Run) {d : Deeds} (x : SessionState) (n : NormalState) (o : Outside) (told : Tells s run d x) (before : AreTogether links x) (after : AreTogether links (record x { normal = n })) (legal : IsLegal o x.normal n) (runs : (turn_of n.entry).ended ≡ false) (f : TurnFound)
    (finds : FindsBlocks run f) (report : HeardAlike (after_ack (turn_of n.entry).ack (kept_of x.normal)).tracks o.report f.report) (comers : ComersTell run d x.normal (turn_of n.entry) legal.lists.back) where
  abbrev e : Turn
  e = turn_of n.entry

  abbrev m : NormalKept
  m = kept_of x.normal

  -- the stream block of a track after the run's turn
  abbrev block : ℕ → BlockTold
  block i = stream_turned (setup_of s) (outside_of (setup_of s) f e) run.normal e i (told_at run i).stream

  -- a proxy that is home after the turn is told, if it took the words of its takes
  pub turned_home : (i : ℕ) (t : ServerState) → i < length m.tracks → stream_at n.streams i ≡ Some t → t.pass.part.frames ≡ (told_at run i).stream.taken ++ stream_words e i → TellsServer (done_on (block i) (d.streams i ++ stream_by (mixer_setup x.normal) m o e i)) t
  turned_home i t low is took =
      let still : i < length n.tracks = (let count = before.count in let now = after.count in omega (arith, low, count, now)) in
      let home : is_home (track_at n.tracks i).holder ≡ true = sym (after.normal.tied.proxies.there i still) ∙ ap is_some is in
      let left : is_home (track_at (turn_after (mixer_setup x.normal) (learnt o) m e).tracks i).holder ≡ true = sym (ap (λ (k : NormalKept). is_home (track_at k.tracks i).holder) legal.leaves) ∙ home in
      turned_stream links s run x n o told before legal runs f finds report comers i t low (turned_before (mixer_setup x.normal) (learnt o) m e i before.normal.tied.sound runs left) (legal.lists.streams i t is) took

-- a turn that goes on, and one that has ended, is legal by what was found, by marks on whose blocks each front seen up to its end is a server's own
pub normal_legal : (links : Links) (s : Session) (run : Run) {d : Deeds} (x : SessionState) (n : NormalState) (o : Outside) → Tells s run d x → AreTogether links x → (legal : IsLegal o x.normal n) (f : TurnFound) → FindsBlocks run f
    → ((turn_of n.entry).ended ≡ false → HeardAlike (after_ack (turn_of n.entry).ack (kept_of x.normal)).tracks o.report f.report × ComersTell run d x.normal (turn_of n.entry) legal.lists.back)
    → (marks : Marks) → SawOwnBy marks run (deeds_turned (mixer_setup x.normal) (kept_of x.normal) o (turn_of n.entry) d) → LegalTurnBy (setup_of s) marks f run.normal (turn_of n.entry)
normal_legal links s run x n o told before legal f finds shown marks own = by_end (turn_of n.entry).ended refl
  where
    by_end : (b : Bool) → (turn_of n.entry).ended ≡ b → LegalTurnBy (setup_of s) marks f run.normal (turn_of n.entry)
    by_end true ends = subst (λ (y : Setup × NormalKept). LegalTurnBy y.0 marks f y.1 (turn_of n.entry)) (λ j. (told.normal.setup j, told.normal.kept j))
        (ended_legal (mixer_setup x.normal) (kept_of x.normal) (turn_of n.entry) o f marks ends legal.legal)
    by_end false runs = let parts = shown runs in turn_legal links s run x n o told before legal runs f finds parts.0 parts.1 marks own
