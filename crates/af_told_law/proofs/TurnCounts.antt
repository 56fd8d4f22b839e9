-- A turn of the normal mixer counts one turn more, by its steps.
use Rattle.std.proofs.Common.{◌≡◌, ℕ, zero, suc, ◌+◌, ◌==◌, Bool, true, false, MatchBool, MatchOption, Option, Some, None, length, ap, ◌∙◌}
use Rattle.af_told_law.proofs.Common.{Does, EditsTo, Ended, HandsTo, Lends, LetsGo, NormalState, SeesAck, ServerState, Spent, TurnMade, Turned, WelcomesTo, at, has_back, is_returning, must_enter, must_leave, slot_number, takes_back, track_at, with_mutator}
use Rattle.af_normal.specs.declared.turn.Turn.{Turn as Answer}

welcomed : (n : ℕ) (x y : NormalState) → WelcomesTo n x y → y.turns ≡ x.turns
welcomed zero x y is = ap (λ (m : NormalState). m.turns) is
welcomed (suc i) x y (z, before, here) = one (is_returning (track_at z.tracks i).holder) (at z.mutator.returned (slot_number (track_at z.tracks i))) here ∙ welcomed i x z before
  where
    by_item : (o : Option ServerState) → MatchOption o (y ≡ record z { mutator = takes_back (slot_number (track_at z.tracks i)) z.mutator }) (λ server. y ≡ has_back i server (record z { mutator = takes_back (slot_number (track_at z.tracks i)) z.mutator })) → y.turns ≡ z.turns
    by_item None is = ap (λ (m : NormalState). m.turns) is
    by_item (Some server) is = ap (λ (m : NormalState). m.turns) is

    one : (b : Bool) (o : Option ServerState) → MatchBool b (MatchOption o (y ≡ record z { mutator = takes_back (slot_number (track_at z.tracks i)) z.mutator }) (λ server. y ≡ has_back i server (record z { mutator = takes_back (slot_number (track_at z.tracks i)) z.mutator }))) (y ≡ z) → y.turns ≡ z.turns
    one true o is = by_item o is
    one false o is = ap (λ (m : NormalState). m.turns) is

edited : (n : ℕ) (x y : NormalState) → EditsTo n x y → y.turns ≡ x.turns
edited zero x y is = ap (λ (m : NormalState). m.turns) is
edited (suc i) x y (z, before, here) = one (must_leave (track_at z.tracks i)) (must_enter (track_at z.tracks i)) here ∙ edited i x z before
  where
    one : (b d : Bool) → MatchBool b (LetsGo i z y) (MatchBool d (Lends i z y) (y ≡ z)) → y.turns ≡ z.turns
    one true d is = ap (λ (m : NormalState). m.turns) is
    one false true (server, home, is) = ap (λ (m : NormalState). m.turns) is
    one false false is = ap (λ (m : NormalState). m.turns) is

handed : (n : ℕ) (x y : NormalState) → HandsTo n x y → y.turns ≡ x.turns
handed zero x y is = ap (λ (m : NormalState). m.turns) is
handed (suc i) x y (z, before, here) = ap (λ (m : NormalState). m.turns) here.leaves ∙ handed i x z before

acked : (ack : Bool) (x y : NormalState) → SeesAck ack x y → y.turns ≡ x.turns
acked true x y sees = welcomed (length x.tracks) (with_mutator sees.mutator x) y sees.comes
acked false x y sees = ap (λ (m : NormalState). m.turns) sees.comes

done : (answer : Answer) (x y : NormalState) → Does answer x y → y.turns ≡ x.turns
done Ended x y stops = ap (λ (m : NormalState). m.turns) stops.leaves
done Spent x y none = absurd none
done (Turned mixed pushed) x y (by, is_mixed) =
    let rest = by.goes_on.rest in
    ap (λ (m : NormalState). m.turns) rest.leaves
    ∙ ap (λ (m : NormalState). m.turns) rest.plays.same
    ∙ ap (λ (m : NormalState). m.turns) rest.pushes.same
    ∙ ap (λ (m : NormalState). m.turns) rest.edits.leaves
    ∙ edited (length rest.served.tracks) _ rest.edits.edited rest.edits.tracks
    ∙ ap (λ (m : NormalState). m.turns) rest.serves.same
    ∙ ap (λ (m : NormalState). m.turns) rest.learns.same
    ∙ acked by.ack x by.goes_on.home by.goes_on.sees

-- the whole turn counts one turn more
pub turns_made : (answer : Answer) (x y : NormalState) → TurnMade answer x y → y.turns ≡ x.turns + 1
turns_made answer x y made = done answer made.handed y made.does ∙ first (length made.begun.hands == 0) made.hands ∙ ap (λ (m : NormalState). m.turns) made.begins.same
  where
    first : (b : Bool) → MatchBool b (HandsTo (length made.begun.tracks) made.begun made.handed) (made.handed ≡ made.begun) → made.handed.turns ≡ made.begun.turns
    first true is = handed (length made.begun.tracks) made.begun made.handed is
    first false is = ap (λ (m : NormalState). m.turns) is
