use Rattle.std.proofs.Common.{rules, ◌≡◌, ◌<◌, ◌∙◌, ap, sym, refl, List, ◌∷◌, [], ◌++◌, All, map, length, length-append, arith}
use Rattle.af_journal.proofs.Common.{All-nil, IsCommandLook, TrackSeen, TrackTurn, map_last, track_seen}
use Rattle.af_journal.specs.Judged.{first_looks}
use Rattle.af_journal.specs.Texts.{track_lines}
use Rattle.af_journal.proofs.Leaving.{all-more, leaves-each, leaves-none}
use Rattle.af_journal.proofs.turn_reading.read_tracks.Goals as goal

pub loop-track-init : goal.loop-track-init
loop-track-init c = let P : TrackSeen → Type 0 = λ t. All IsCommandLook t.looks in ([], search rules, refl, All-nil P, leaves-none c.args.left.now.rest.now, search rules, search rules)

pub push-requires : goal.push-requires
push-requires c =
    let inv = c.loop-track.invariant in
    let lt : c.loop-track.track < c.args.tracks = search rules in
    record { room = omega (arith, inv.5, inv.6, lt) }

pub loop-track-preserved : goal.loop-track-preserved
loop-track-preserved c =
    let turn = c.in_ok-turn.turn in
    let made = c.in_ok-turn.ensures in
    let inv = c.loop-track.invariant in
    let turns = c.loop-track.turns.items in
    let first = c.args.left.now.rest.now in
    let before = c.loop-track.left.rest.now in
    let after = c.read_track.new.left.rest.now in
    let P : TrackSeen → Type 0 = λ t. All IsCommandLook t.looks in
    let cut = first_looks c.args.most in
    let items : c.push.new.self.items ≡ turns ++ turn ∷ [] = search rules in
    let seen : map track_seen c.push.new.self.items ≡ map track_seen turns ++ track_seen turn ∷ [] = ap (λ (l : List TrackTurn). map track_seen l) items ∙ map_last track_seen turns turn in
    let kept : map track_seen c.push.new.self.items ≡ map cut (inv.0 ++ made.0 ∷ []) = seen ∙ (λ k. inv.1 k ++ made.1 k ∷ []) ∙ sym (map_last cut inv.0 made.0) in (
      inv.0 ++ made.0 ∷ [],
      kept,
      omega (arith, length-append inv.0 (made.0 ∷ []), inv.2),
      all-more P inv.0 made.0 inv.3 made.2,
      leaves-each track_lines first before after inv.0 made.0 c.loop-track.track inv.2 inv.4 made.3,
      omega (arith, ap length items, length-append turns (turn ∷ []), inv.5),
      search rules,
    )

pub returns : goal.returns
returns c =
    let inv = c.loop-track.invariant in
    let done : c.loop-track.track ≡ c.args.tracks = search rules in
    (inv.0, inv.1, inv.2 ∙ done, inv.3, inv.4)
