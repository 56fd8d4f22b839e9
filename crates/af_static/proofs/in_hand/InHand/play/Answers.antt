use Rattle.std.proofs.Common.{◌+◌, [], ◌∷◌, ◌++◌, length, subst}
use Rattle.af_latest.specs.Laws.{last_of}
use Rattle.af_static.specs.Calls.{Call, CallsPlay, Standing, standing_in, standing_of}
use Rattle.af_static.specs.InStep.{HandState}
use Rattle.af_static.specs.Loops.{opening}
use Rattle.af_static.proofs.Calling.{plays_on}
use Rattle.af_static.proofs.in_hand.InHand.play.Goals as goal

pub returns-clause-played : goal.returns-clause-played
returns-clause-played c first calls played count =
    let hand = c.self.inside in
    let call : Call = record { setting = last_of opening hand.setter.events; gains = c.args.gains; places = length c.args.out.now } in
    let next : Standing = standing_of c.play_met.new.player in
    let met = c.play_met.ensures in
    subst (λ (x : HandState). CallsPlay x.frames first calls played count (standing_in x) → CallsPlay x.frames first (calls ++ record { setting = x.newest; gains = c.args.gains; places = length c.args.out.now } ∷ []) (played ++ c.play_met.new.out) (count + c.play_met.result.filled) next) c.self.view_is
    (plays_on hand.shared.frames first calls played count (standing_of hand.player) next call c.play_met.new.out c.play_met.result.filled met.used met.out (λ i. (met.answer i).filled) met.head)
