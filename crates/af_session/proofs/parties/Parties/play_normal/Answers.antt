use Rattle.std.proofs.Common.{◌≡◌, [], ◌<◌, length, sym, ap, subst, ◌∙◌, arith}
use Rattle.af_session.proofs.Common.{FollowsRound, Given, HasPlacesAt, IsReadyOn, IsTally, RoundNoted, SessionState, Shown, TurnEntry, TurnMade, Turns, given_of, most_turns, round_told, slots, turn_of, with_turn}
use Rattle.af_script.specs.declared.op.TurnSpec.TheVariants as spec
use Rattle.af_normal.specs.declared.turn.Turn.{Turn as Answer}
use Rattle.af_session.proofs.FollowingRounds.{follows_ended, follows_normal, places_more}
use Rattle.af_session.proofs.NormalRounds.{goes_on, stays_ended}
use Rattle.af_session.proofs.Ready.{ready_normal}
use Rattle.af_session.proofs.parties.Parties.play_normal.Goals as goal

pub returns-then-not-has_ended : goal.returns-then-not-has_ended
returns-then-not-has_ended g c =
    let given : Given = given_of c.args.rig.now in
    let was : SessionState = record { clients = c.self.inside.clients.items; normal = c.self.inside.normal; fast = c.self.inside.fast } in
    let is : was ≡ c.args.self.now = c.self.view_is in
    let few : was.normal.turns < most_turns =
    (let turns = c.requires.ready.2.turns in let same = ap (λ (s : SessionState). s.normal.turns) is in let rounds = c.requires.ready.1 in omega arith) in
    let next = c.turn.new.self in
    let legal = c.turn.ensures.legal few in
    let going = sym c.has_ended.ensures ∙ c.if-not-has_ended.true in
    let before = c.args.tally.now in
    let after = c.note_turn.new.self in
    let noted = subst (λ (e : TurnEntry). (run : Shown) → IsTally run before → IsTally (with_turn run (turn_of e)) after) c.last.ensures c.note_turn.ensures.tally in
    record {
      ready = λ n ready. ready_normal given c.args.rig.now.links n was (subst (IsReadyOn c.args.rig.now n) (sym is) ready) next c.turn.ensures.order
          (c.turn.ensures.turns few) legal.1.setup;
      same = ap (λ (s : SessionState). s.fast) is;
      turns = subst (λ (s : SessionState). (r : RoundNoted) × Turns given spec.Normal s r [] (record was { normal = next })) is
          (goes_on given was next going legal.0 legal.1 (subst (λ (a : Answer). TurnMade a was.normal next) (c.turn.ensures.answer few)
          (c.turn.ensures.made few)));
      tally = subst (λ (s : SessionState). FollowsRound (round_told spec.Normal s (record was { normal = next })) s.fast was.fast before after) is
          (follows_normal was next before after going noted);
      places = λ n has. places_more n (length was.clients) (length was.fast.log.entries) slots before after (omega arith) c.note_turn.ensures.keeps
          (subst (λ (s : SessionState). HasPlacesAt n s before) (sym is) has);
    }

pub returns-else-not-has_ended-clause-turns : goal.returns-else-not-has_ended-clause-turns
returns-else-not-has_ended-clause-turns g c =
    let was : SessionState = record { clients = c.self.inside.clients.items; normal = c.self.inside.normal; fast = c.self.inside.fast } in
    subst (λ (s : SessionState). (r : RoundNoted) × Turns (given_of c.args.rig.now) spec.Normal s r [] s) c.self.view_is
    (stays_ended (given_of c.args.rig.now) was (sym c.has_ended.ensures ∙ c.if-not-has_ended.false))

pub returns-else-not-has_ended-clause-tally : goal.returns-else-not-has_ended-clause-tally
returns-else-not-has_ended-clause-tally g c =
    let was : SessionState = record { clients = c.self.inside.clients.items; normal = c.self.inside.normal; fast = c.self.inside.fast } in
    let before = c.args.tally.now in
    subst (λ (s : SessionState). FollowsRound (round_told spec.Normal s s) s.fast s.fast before before) c.self.view_is
    (follows_ended was before (sym c.has_ended.ensures ∙ c.if-not-has_ended.false))
