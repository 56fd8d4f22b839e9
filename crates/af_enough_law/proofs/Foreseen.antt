-- What is known of a stream block after a round by a history in which its lists lie: of this round, if its proxy takes part in the meeting, or of a later one.
use Rattle.std.proofs.Common.{◌≡◌, ℕ, ◌≤◌, ◌<◌, Bool, true, false, Some, List, [], ◌++◌, length, append_assoc, refl, sym, ap, ◌∙◌, subst, append-nil}
use Rattle.af_enough_law.proofs.Common.{AreSpelled, BlockTold, ClientEvent, HasBlockHistory, Learnt, LegalRound, Marks, RoundSeen, Run, ServerEvent, Session, Shape, Turn, after_round, after_turn, before_turn, client_list, early_of, hand_list, heard, is_home, is_tame, late_of, learnt, met_after, server_list, sides_of, takes_part, told_at, track_count, track_in, with_calls, with_cycles}
use Rattle.af_enough_law.proofs.Courses.{none_shut}
use Rattle.af_enough_law.proofs.NormalRounds.{TurnMade}
use Rattle.af_enough_law.proofs.CommandsGo.{spelled_round}
use Rattle.af_enough_law.proofs.FastFlows.{Later}
use Rattle.af_enough_law.proofs.FastRounds.{over}
use Rattle.af_enough_law.proofs.FastShows.{Setting}
use Rattle.af_enough_law.proofs.Flushless.{IsFlushlessTrack, unflushed_none, round_flushless}
use Rattle.af_enough_law.proofs.Following.{greeted_in}
use Rattle.af_enough_law.proofs.Pokeless.{IsPokelessTrack, round_pokeless}
use Rattle.af_enough_law.proofs.RoundCalm.{known_open, quiet_only, home_open, legal_parts, round_quiet, lie_through}
use Rattle.af_enough_law.proofs.RunStreams.{round_grows}
use Rattle.af_enough_law.proofs.RunTracks.{round_blocks}
use Rattle.af_enough_law.proofs.StreamCalm.{IsQuiet, LiesIn, entries_quiet}

-- both lists of a stream block lie in a history, of a client that never flushes
pub record Foreseen (b : BlockTold) : Type 0 where
  pub list : List ClientEvent
  pub said : List ClientEvent
  pub says : list ≡ client_list b ++ said
  pub events : List ServerEvent
  pub setting : Setting b.shape list events
  pub lies : LiesIn b.shape list events setting b

-- what the client of a track keeps to
pub record KeepsTo (run : Run) (i : ℕ) : Type 0 where
  pub few : (told_at run i).stream.shape.frames ≤ 65536
  pub spelled : AreSpelled (sides_of (told_at run i))
  pub pokeless : IsPokelessTrack (sides_of (told_at run i))
  pub flushless : IsFlushlessTrack (sides_of (told_at run i))

-- the client keeps to this in a legal round
pub keeps_to : (cut : Bool) (s : Session) (marks : Marks) (run : Run) (round : RoundSeen) (t : TurnMade s marks run round) (i : ℕ) → i < length run.tracks → i < track_count s → LegalRound cut s marks run round → KeepsTo run i → KeepsTo (after_round s run round) i
keeps_to cut s marks run round t i low named legal k = record {
  few = subst (λ (x : Shape). x.frames ≤ 65536) (sym (round_grows s run round i low).shape) k.few;
  spelled = spelled_round cut s marks run round t i low named legal k.spelled;
  pokeless = round_pokeless s run round cut marks i low named legal k.pokeless;
  flushless = round_flushless s run round cut marks i low named legal k.flushless;
}

-- if its proxy takes part in the meeting, the lists are those of its history
pub part_seen : (cut : Bool) (s : Session) (marks : Marks) (run : Run) (round : RoundSeen) (t : TurnMade s marks run round) (i : ℕ) → i < length run.tracks → i < track_count s → LegalRound cut s marks run round → KeepsTo run i
    → takes_part s (met_after s run round) i ≡ true → Foreseen (told_at (after_round s run round) i).stream
part_seen cut s marks run round t i low named legal k part =
    let u = told_at (after_round s run round) i in
    let then = keeps_to cut s marks run round t i low named legal k in
    let same : u.stream ≡ (told_at (met_after s run round) i).stream = (round_blocks s run round i low).0 in
    let history : HasBlockHistory u.stream = subst HasBlockHistory (sym same) ((legal.histories.blocks i named).stream part (ap is_tame (sym same) ∙ then.pokeless.stream)) in
    record {
      list = client_list u.stream;
      said = [];
      says = sym (append-nil (client_list u.stream));
      events = server_list u.stream;
      setting = record {
        few = then.few;
        spelled = then.spelled.stream;
        no_flush = unflushed_none (client_list u.stream) then.flushless.stream;
        released = u.stream.released;
        taken = u.stream.taken;
        hand = hand_list u.stream;
        history = history;
      };
      lies = record { shape = refl; rest = []; whole = sym (append-nil (server_list u.stream)) };
    }

-- what lies in a history after a block has grown lay in it before
pub seen_earlier : (b later : BlockTold) → Later b later → Foreseen later → Foreseen b
seen_earlier b later f h =
    let back = λ (k : Shape) (same : later.shape ≡ k). subst (λ (x : Shape). Setting x h.list h.events) same h.setting in
    record {
      list = h.list;
      said = f.calls ++ h.said;
      says = h.says ∙ ap (λ (es : List ClientEvent). es ++ h.said) f.client ∙ append_assoc (client_list b) f.calls h.said;
      events = h.events;
      setting = back b.shape f.shape;
      lies = record { shape = refl; rest = f.events ++ h.lies.rest; whole = h.lies.whole ∙ ap (λ (es : List ServerEvent). es ++ h.lies.rest) f.server ∙ append_assoc (server_list b) f.events h.lies.rest };
    }

-- ## A round

module _ (cut : Bool) (s : Session) (marks : Marks) (run : Run) (round : RoundSeen) (i : ℕ) (low : i < length run.tracks) (legal : LegalRound cut s marks run round) (seen : Foreseen (told_at (after_round s run round) i).stream) where
  abbrev k : Shape
  k = (told_at (after_round s run round) i).stream.shape

  shape : k ≡ (told_at run i).stream.shape
  shape = (round_grows s run round i low).shape

  -- before the turn the stream's server is calm and open
  pub early_quiet : IsQuiet (told_at run i).stream.shape (server_list (told_at run i).stream) → IsQuiet k (server_list (told_at (before_turn s run round) i).stream)
  early_quiet quiet =
      let o = over s run round i low in
      let parts = legal_parts cut s marks run round legal in
      let late : Run = with_cycles s (late_of run round) (after_turn s run round) in
      let lies = lie_through s run round i low k seen.list seen.events seen.setting seen.lies in
      let called = quiet_only s marks i k seen.list seen.events seen.setting (told_at run i).stream (told_at (with_calls round run) i).stream o.calls (subst (λ (x : Shape). IsQuiet x (server_list (told_at run i).stream)) (sym shape) quiet) in
      entries_quiet s marks i k seen.list seen.events seen.setting (early_of run round) (with_calls round run) o.first parts.0 lies.early called

  -- a turn hears that the stream of a proxy at home is open
  pub home_unshut : (t : TurnMade s marks run round) → IsQuiet (told_at run i).stream.shape (server_list (told_at run i).stream) → is_home (greeted_in run.normal t.turn i).holder ≡ true → (heard (learnt t.by.outside) i (greeted_in run.normal t.turn i)).known.shut ≡ false
  home_unshut t quiet home =
      let o = over s run round i low in
      let b : BlockTold = (told_at (before_turn s run round) i).stream in
      let there : b.shape ≡ k = sym (ap (λ (x : BlockTold). x.shape) o.whole ∙ o.meeting.is_later.shape ∙ o.late.shape ∙ o.turn.shape) in
      home_open (learnt t.by.outside) i (greeted_in run.normal t.turn i) home
      (ap (λ (l : Learnt). (l.own i).known.shut) t.sees ∙ known_open s marks i k seen.list seen.events seen.setting b there (early_quiet quiet))

  -- the round leaves the server calm and open, if no look finds the command block shut
  pub quiet_after : ((e : Turn) → round.turn ≡ Some e → none_shut (track_in e i).looks ≡ true) → IsQuiet (told_at run i).stream.shape (server_list (told_at run i).stream) → IsQuiet k (server_list (told_at (after_round s run round) i).stream)
  quiet_after open_is quiet = round_quiet cut s marks run round i low legal open_is k seen.list seen.events seen.setting seen.lies (subst (λ (x : Shape). IsQuiet x (server_list (told_at run i).stream)) (sym shape) quiet)
