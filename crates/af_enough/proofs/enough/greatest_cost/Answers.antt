use Rattle.std.proofs.Common.{◌≡◌, ◌+◌, ◌<◌, ℕ, suc, List, ◌∷◌, length, drop, get_or, max, ap, sym, ◌∙◌, arith, drop-cons}
use Rattle.af_script.specs.Data.{ScriptData}
use Rattle.af_script.specs.declared.track.TrackSpec.{TrackSpec}
use Rattle.af_enough.specs.Enough.{greatest_cost, track_cost}
use Rattle.af_enough.proofs.enough.greatest_cost.Goals as goal

-- the greatest of some costs, after one track more
one_on : (script : ScriptData) (tracks : List TrackSpec) (k : ℕ) (track : TrackSpec) (before now total : ℕ) → k < length tracks → track ≡ get_or tracks k track
    → now ≡ max (track_cost script track) before → max before (greatest_cost script (drop k tracks)) ≡ total → max now (greatest_cost script (drop (k + 1) tracks)) ≡ total
one_on script tracks k track before now total lt is larger same =
    let next : suc k ≡ k + 1 = omega arith in
    let split : drop k tracks ≡ track ∷ drop (k + 1) tracks = drop-cons tracks k track lt ∙ (λ i. sym is i ∷ drop (next i) tracks) in
    let cost : greatest_cost script (drop k tracks) ≡ max (track_cost script track) (greatest_cost script (drop (k + 1) tracks)) = ap (greatest_cost script) split in
    omega arith

pub loop-track-preserved : goal.loop-track-preserved
loop-track-preserved c =
    let script = c.args.script.now in
    let k = c.loop-track.track-index in
    let track : TrackSpec = c.track-item.result in
    let same = c.tracks-track-items.ensures.value in
    record {
      greatest = one_on script script.tracks k track c.loop-track.greatest c.max-greatest.result (greatest_cost script script.tracks) (omega (arith, ap length same, c.loop-track-test.true))
          (c.track-item.is ∙ ap (λ (tracks : List TrackSpec). get_or tracks k track) same) (c.max-greatest.ensures ∙ ap (λ (n : ℕ). max n c.loop-track.greatest) c.track_cost.ensures.cost)
          c.loop-track.invariant.greatest;
      small = omega (arith, c.max-greatest.ensures, c.track_cost.ensures.small, c.loop-track.invariant.small);
    }
