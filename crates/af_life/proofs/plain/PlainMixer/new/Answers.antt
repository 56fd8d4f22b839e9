use Rattle.std.proofs.Common.{◌≡◌, ℕ, false, sym, ap, ◌∙◌, subst, List, length, replicate, arith}
use Rattle.af_life.proofs.Common.{FastState}
use Rattle.af_life.specs.declared.kept.TrackKept.{TrackKept}
use Rattle.af_life.specs.Kept.{Setup, NormalKept, new_track}
use Rattle.af_life.specs.Small.{IsSmall}
use Rattle.af_life.proofs.Smalls.{new_small}
use Rattle.af_life.proofs.plain.PlainMixer.new.Goals as goal

-- a mixer that has made no turn, with these tracks and this draft
abbrev begun : List TrackKept → FastState → NormalKept
begun tracks draft = record { tracks = tracks; draft = draft; dirty = false; pushed = 0; last = draft; ended = false }

pub returns-clause-small : goal.returns-clause-small
returns-clause-small c =
    let setup : Setup = record { frames = c.args.frames; normal = c.args.normal; settings = c.args.settings.items } in
    let many : c.len.result ≡ length c.args.settings.items = (let l = c.len.ensures in omega arith) in
    let count = ap (λ (n : ℕ). replicate n c.new_track.result) many in
    let each = ap (λ (t : TrackKept). replicate (length c.args.settings.items) t) c.new_track.ensures in
    let tracks = c.in_ok-tracks.ensures.items_if_clones_equal (λ y e. e) ∙ count ∙ each in
    subst (λ (ts : List TrackKept). IsSmall 0 setup (begun ts c.first_state-first.result)) (sym tracks)
    (subst (λ (x : FastState). IsSmall 0 setup (begun (replicate (length c.args.settings.items) new_track) x)) (sym c.first_state-first.ensures)
    (new_small setup c.requires.sizes.0 c.requires.sizes.1 c.requires.sizes.2))
