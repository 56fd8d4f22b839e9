-- The calm history that a stream block has if its proxy took part in the last meeting.
use Rattle.std.proofs.Common.{◌≡◌, ℕ, ◌≤◌, ◌<◌, true, Bool, List, [], ◌++◌, length, refl, sym, ap, ◌∙◌, subst, append-nil, append_assoc}
use Rattle.af_enough_law.proofs.Common.{BlockTold, ClientEvent, HasBlockHistory, IsClientList, LegalRound, Marks, RoundSeen, Run, Session, Shape, after_round, client_list, hand_list, is_tame, met_after, server_list, takes_part, told_at, track_count}
use Rattle.af_enough_law.proofs.NormalRounds.{TurnMade}
use Rattle.af_enough_law.proofs.Calm.{are_calm, are_hands_calm}
use Rattle.af_enough_law.proofs.Foreseen.{KeepsTo, keeps_to}
use Rattle.af_enough_law.proofs.RunTracks.{round_blocks}
use Rattle.af_enough_law.proofs.TrackGoes.{CalmStream}

-- a history of the block's lists, which are calm
pub calm_stream : (b : BlockTold) → HasBlockHistory b → IsClientList b.shape.frames b.shape.cells b.shape.base (client_list b) → b.shape.frames ≤ 65536 → are_calm (server_list b) ≡ true → are_hands_calm (hand_list b) ≡ true → CalmStream b.shape (client_list b) []
calm_stream b history spelled few calm hands = record {
  list = client_list b;
  tail = [];
  whole = sym (append-nil (client_list b));
  calm = record {
    released = b.released;
    server = server_list b;
    taken = b.taken;
    hands = hand_list b;
    history = history;
    spelled = spelled;
    calm = calm;
    calm_hands = hands;
    few = few;
    later = server_list b;
    knows = refl;
  };
}

-- the history of a round in which the stream's proxy takes part in the meeting
pub part_stream : (cut : Bool) (s : Session) (marks : Marks) (run : Run) (round : RoundSeen) (t : TurnMade s marks run round) (i : ℕ) → i < length run.tracks → i < track_count s → LegalRound cut s marks run round → KeepsTo run i → takes_part s (met_after s run round) i ≡ true
    → are_calm (server_list (told_at (after_round s run round) i).stream) ≡ true → are_hands_calm (hand_list (told_at (after_round s run round) i).stream) ≡ true → CalmStream (told_at (after_round s run round) i).stream.shape (client_list (told_at (after_round s run round) i).stream) []
part_stream cut s marks run round t i low named legal k part calm hands =
    let u = told_at (after_round s run round) i in
    let to = keeps_to cut s marks run round t i low named legal k in
    let same : u.stream ≡ (told_at (met_after s run round) i).stream = (round_blocks s run round i low).0 in
    let history : HasBlockHistory u.stream = subst HasBlockHistory (sym same) ((legal.histories.blocks i named).stream part (ap is_tame (sym same) ∙ to.pokeless.stream)) in
    calm_stream u.stream history to.spelled.stream to.few calm hands

-- a calm history tells what was said before
pub said_earlier : (k : Shape) (early late : List ClientEvent) (more : List ClientEvent) → late ≡ early ++ more → CalmStream k late [] → CalmStream k early []
said_earlier k early late more is h = record { list = h.list; tail = more ++ h.tail; whole = h.whole ∙ ap (λ (es : List ClientEvent). es ++ h.tail) is ∙ append_assoc early more h.tail; calm = h.calm }
