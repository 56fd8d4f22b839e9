use Rattle.std.proofs.Common.{◌≡◌, ℕ, MatchBool, [], ◌∷◌, ◌++◌, map, sym, ap, ◌∙◌, subst}
use Rattle.af_normal.proofs.Common.{Roomy, TrackSeen, TrackTurn, map-append, nothing_seen, track_at, track_seen}
use Rattle.af_normal.specs.Mixing.{stream_at}
use Rattle.af_normal.specs.Ready.{serving_of}
use Rattle.af_normal.specs.Serving.{ServesBy, known_at}
use Rattle.af_normal.specs.State.{NormalState, setup_of}
use Rattle.af_normal.proofs.Cases.{where_true}
use Rattle.af_normal.proofs.ServedBy.{serves_track}
use Rattle.af_normal.proofs.mixer.NormalMixer.serve.Goals as goal

pub returns-clause-serves : goal.returns-clause-serves
returns-clause-serves g c = λ k r o.
    let i : ℕ = c.args.i in
    let x : NormalState = c.args.self.now in
    let m : NormalState = c.attend_due.new.self in
    let seen : TrackSeen = track_seen c.attend_due.new.seen in
    let due : MatchBool (track_at x.tracks i).life.ended ((m ≡ record x { spare_turns = c.next_turn-seen.new.spare }) × (seen ≡ nothing_seen)) (ServesBy (setup_of x) k i seen (serving_of x) (serving_of m)) =
    subst (λ (v : NormalState). MatchBool (track_at v.tracks c.args.i).life.ended ((m ≡ record v { spare_turns = c.next_turn-seen.new.spare }) × (seen ≡ nothing_seen)) (ServesBy (setup_of v) k c.args.i seen (serving_of v) (serving_of m))) c.self.view_is
    (c.attend_due.ensures.serves k r (o ∙ ap (λ (v : NormalState). known_at (stream_at v.streams c.args.i)) (sym c.self.view_is))) in
    let turns = ap (λ (l : Roomy TrackTurn). map track_seen l.items) c.push.ensures ∙ map-append track_seen c.self-2.inside.entry.tracks.items (c.attend_due.new.seen ∷ [])
    ∙ ap (λ (v : NormalState). map track_seen v.entry.tracks.items ++ seen ∷ []) c.self-2.view_is in
    serves_track (setup_of x) k i (serving_of x) (serving_of m) _ seen
    (where_true (track_at x.tracks i).life.ended ((m ≡ record x { spare_turns = c.next_turn-seen.new.spare }) × (seen ≡ nothing_seen)) ((serving_of m ≡ serving_of x) × (seen ≡ nothing_seen)) (ServesBy (setup_of x) k i seen (serving_of x) (serving_of m)) (λ p. (ap serving_of p.0, p.1)) due)
    (λ j. record (serving_of (c.self-2.view_is j)) { turns = turns j })
