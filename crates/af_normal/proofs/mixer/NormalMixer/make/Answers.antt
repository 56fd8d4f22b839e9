use Rattle.std.proofs.Common.{◌≡◌, ℕ, true, is_some, length, replicate, All, Option, refl, ap, subst, ◌∙◌, arith}
use Rattle.af_normal.proofs.Common.{ServerState, new_track}
use Rattle.af_normal.specs.Making.{TrackList}
use Rattle.af_normal.proofs.Made.{made_is, made_order}
use Rattle.af_normal.proofs.mixer.NormalMixer.make.Goals as goal

pub returns-clause-made : goal.returns-clause-made
returns-clause-made c =
    let v = c.tracks.view_is in
    let inside : c.len-count.result ≡ length c.tracks.inside.settings.items = (let l = c.len-count.ensures in omega arith) in
    let many : c.len-count.result ≡ length c.args.tracks.settings = inside ∙ ap (λ (t : TrackList). length t.settings) v in
    let r = c.in_ok-reserved.ensures in
    made_is c.args.frames c.args.normal c.args.tracks c.args.mutator c.args.reader c.args.pipe _ _ _ _ _ _ _ _ _
    (ap (λ (t : TrackList). t.settings) v) (ap (λ (t : TrackList). t.streams) v) (ap (λ (t : TrackList). t.commands) v)
    (r.tracks ∙ ap (λ (n : ℕ). replicate n new_track) many) r.hands refl
    r.entry (r.room.0 ∙ many, r.room.1 ∙ many) (r.turns.0 ∙ many, r.turns.1 ∙ many, r.turns.2) (r.takes.0 ∙ many, r.takes.1 ∙ many, r.takes.2)

pub returns-clause-order : goal.returns-clause-order
returns-clause-order c = λ links new.
    let whole = subst (λ (t : TrackList). (length t.streams ≡ length t.settings) × (length t.commands ≡ length t.settings) × All (λ (s : Option ServerState). is_some s ≡ true) t.streams) c.tracks.view_is c.tracks.invariant in
    made_order links c.args.frames c.args.normal c.args.tracks c.args.mutator c.args.reader c.args.pipe _ new (returns-clause-made c) c.requires.count.0 c.requires.count.1 c.requires.sizes c.requires.scales (whole.0, whole.1) whole.2
