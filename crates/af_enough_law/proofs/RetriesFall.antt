-- A turn takes one retry of a track at most, whatever it takes and hears.
use Rattle.std.proofs.Common.{◌≡◌, ℕ, ◌+◌, ◌≤◌, ◌<◌, Bool, true, false, length, refl, sym, ap, ◌∙◌, subst, arith}
use Rattle.af_enough_law.proofs.Common.{Learnt, Life, NormalKept, Setup, TrackKept, Turn, after_part, heard, ready, ready_life, track_at, track_in, turn_after}
use Rattle.af_enough_law.proofs.TrackTurns.{attended, TrackTurned}
use Rattle.af_enough_law.proofs.Able.{commanded_keeps, report_leaves}
use Rattle.af_enough_law.proofs.Following.{greeted_in, greeted_alike, edited_alike, on_true}
use Rattle.af_enough_law.proofs.Served.{track_turned}
use Rattle.af_enough_law.proofs.TurnLives.{life_turned}

-- a track that has one more, and no more than a START gives, keeps so many
pub retries_fall : (c : Setup) (k : Learnt) (m : NormalKept) (e : Turn) (i n : ℕ) → i < length m.tracks → e.ended ≡ false → n + 1 ≤ 50 → n + 1 ≤ (track_at m.tracks i).life.retries → n ≤ (track_at (turn_after c k m e).tracks i).life.retries
retries_fall c k m e i n lt runs few some = by g.life.ended refl
  where
    g : TrackKept
    g = greeted_in m e i

    t : TrackTurned c k m e i
    t = track_turned c k m e i lt runs

    same : g.life ≡ (track_at m.tracks i).life
    same = (greeted_alike e.ack m.last (track_at m.tracks i)).life

    some_then : n + 1 ≤ g.life.retries
    some_then = let a = ap (λ (l : Life). l.retries) same in omega (arith, a, some)

    by : (b : Bool) → g.life.ended ≡ b → n ≤ (track_at (turn_after c k m e).tracks i).life.retries
    by true over =
        let at : TrackKept = attended t.given k i (track_in e i).looks g in
        let life : (track_at (turn_after c k m e).tracks i).life ≡ g.life =
        ap (λ (x : TrackKept). x.life) t.after ∙ (edited_alike (k.own i) at t.edited t.edit).life ∙ ap (λ (x : TrackKept). x.life) (on_true TrackKept g.life.ended g (after_part t.given (heard k i g) (track_in e i).looks (ready k i g)) over) in
        let r = ap (λ (l : Life). l.retries) life in
        let there = some_then in omega (arith, r, there)
    by false alive =
        let ready_some : n + 1 ≤ (ready k i g).life.retries = (let a = ap (λ (l : Life). l.retries) (ready_life k i g) in let b = some_then in omega (arith, a, b)) in
        let commanded = commanded_keeps (n + 1) few t.given (heard k i g).flush_seen (track_in e i).looks (ready k i g) ready_some in
        subst (λ (l : Life). n ≤ l.retries) (sym (life_turned c k m e i lt runs alive)) (report_leaves n (heard k i g).known _ commanded few)
