use Rattle.std.proofs.Common.{ℕ, ◌+◌, ◌*◌, ◌≤◌, sym, ap, subst, arith}
use Rattle.af_fast.proofs.Common.{FastState, ServerState, StreamNames, tracks_of}
use Rattle.af_stateq.specs.Ends.{Polls}
use Rattle.af_fast.specs.Mixer.{MixerState}
use Rattle.af_fast.proofs.Counted.{seven_so, most_so}
use Rattle.af_fast.proofs.mixer.FastMixer.cycle.Goals as goal

pub returns-clause-order : goal.returns-clause-order
returns-clause-order g c = λ earlier k. c.mix.ensures.order earlier (c.adopt.ensures.order earlier k)

pub returns-clause-cycle : goal.returns-clause-cycle
returns-clause-cycle g c = (c.adopt.new.self, c.adopt.ensures.adopts, (λ earlier k. c.mix.ensures.mixes earlier (c.adopt.ensures.order earlier k)))

pub returns-clause-steps : goal.returns-clause-steps
returns-clause-steps g c =
    let frames = ap (λ (y : MixerState). y.frames) c.adopt.ensures.adopts.same in
    let state = ap (λ (y : Polls ServerState StreamNames). y.state) c.mix.ensures.state in
    let bound : c.mix.new.steps ≤ c.adopt.new.steps + (tracks_of c.mix.new.self.observer.past.state + 1) * c.args.self.now.frames + 7 * tracks_of c.mix.new.self.observer.past.state + 4 =
    subst (λ (y : FastState × ℕ). c.mix.new.steps ≤ c.adopt.new.steps + (tracks_of y.0 + 1) * y.1 + 7 * tracks_of y.0 + 4) (λ i. (sym state i, frames i)) c.mix.ensures.steps in
    omega (arith, bound, c.adopt.ensures.steps)

pub returns-clause-seven : goal.returns-clause-seven
returns-clause-seven g c = λ few. seven_so c.mix.new.self.observer.past.state c.args.self.now.frames c.args.steps.now c.mix.new.steps few (returns-clause-steps g c)

pub returns-clause-most : goal.returns-clause-most
returns-clause-most g c = most_so c.mix.new.self.observer.past.state c.args.self.now.frames c.args.steps.now c.mix.new.steps (returns-clause-steps g c)
