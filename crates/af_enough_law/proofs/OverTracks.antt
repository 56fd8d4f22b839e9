-- A track that is over: its life has ended.
use Rattle.std.proofs.Common.{◌≡◌, ℕ, ◌<◌, Bool, true, false, length, ap, ◌∙◌}
use Rattle.af_enough_law.proofs.Common.{Learnt, LegalRound, Life, Marks, NormalKept, RoundSeen, Run, Session, Setup, TrackKept, Turn, after_part, after_round, heard, if_true, learnt, ready, setup_of, track_at, track_count, track_in, turn_after}
use Rattle.af_enough_law.proofs.NormalRounds.{TurnMade}
use Rattle.af_enough_law.proofs.TrackTurns.{attended, TrackTurned}
use Rattle.af_enough_law.proofs.Following.{greeted_in, greeted_alike, edited_alike}
use Rattle.af_enough_law.proofs.Served.{track_turned}

-- the track is over
pub record IsOver (run : Run) (i : ℕ) : Type 0 where
  pub life : (track_at run.normal.tracks i).life.ended ≡ true

-- ## It stays so

-- a turn leaves a life that has ended
pub over_life : (c : Setup) (k : Learnt) (m : NormalKept) (e : Turn) (i : ℕ) → i < length m.tracks → e.ended ≡ false → (track_at m.tracks i).life.ended ≡ true → (track_at (turn_after c k m e).tracks i).life ≡ (track_at m.tracks i).life
over_life c k m e i lt runs gone =
    let t : TrackTurned c k m e i = track_turned c k m e i lt runs in
    let g : TrackKept = greeted_in m e i in
    let first = greeted_alike e.ack m.last (track_at m.tracks i) in
    let ended : g.life.ended ≡ true = ap (λ (l : Life). l.ended) first.life ∙ gone in
    let same : attended t.given k i (track_in e i).looks g ≡ g = if_true g.life.ended g (after_part t.given (heard k i g) (track_in e i).looks (ready k i g)) ended in
    ap (λ (x : TrackKept). x.life) t.after ∙ (edited_alike (k.own i) (attended t.given k i (track_in e i).looks g) t.edited t.edit).life ∙ ap (λ (x : TrackKept). x.life) same ∙ first.life

pub over_on : (cut : Bool) (s : Session) (marks : Marks) (run : Run) (round : RoundSeen) (t : TurnMade s marks run round) (i : ℕ) → i < length run.tracks → i < track_count s → i < length run.normal.tracks → t.turn.ended ≡ false → LegalRound cut s marks run round → IsOver run i → IsOver (after_round s run round) i
over_on cut s marks run round t i low named there runs legal h = record {
  life = ap (λ (m : NormalKept). (track_at m.tracks i).life.ended) t.after ∙ ap (λ (l : Life). l.ended) (over_life (setup_of s) (learnt t.by.outside) run.normal t.turn i there runs h.life) ∙ h.life;
}
