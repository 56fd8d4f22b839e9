use Rattle.std.proofs.Common.{◌≡◌, ℕ, ◌-◌, ◌&&◌, Bool, true, false, MatchBool, length, refl, sym, ap, ◌∙◌, subst, arith}
use Rattle.af_normal.proofs.Common.{Mutates, ServerState, StreamNames, WasAcked, and_true, both, commands_exit}
use Rattle.af_normal.specs.Coming.{HaveSlots, WelcomesTo}
use Rattle.af_normal.specs.Order.{IsGoing}
use Rattle.af_normal.specs.State.{NormalState}
use Rattle.af_normal.specs.TurnMade.{Does, Stops}
use Rattle.af_normal.specs.Turning.{with_mutator}
use Rattle.af_normal.proofs.Cases.{on_false}
use Rattle.af_normal.proofs.LegalEnds.{made_legally}
use Rattle.af_normal.proofs.LegalMade.{outside}
use Rattle.af_normal.proofs.LegalStops.{seen as seen_stopped, stopped_legally}
use Rattle.af_normal.proofs.OrderTurn.{going_acked}
use Rattle.af_normal.proofs.Servable.{slots_there}
use Rattle.af_normal.proofs.Stopped.{stopped}
use Rattle.af_normal.proofs.Turned.{seen, made, in_order, turns_by, turns_same}
use Rattle.af_normal.proofs.mixer.NormalMixer.look.Goals as goal

turned_round : (a b : Bool) → (a && b) ≡ false → (b && a) ≡ false
turned_round true b e = and_true b ∙ e
turned_round false true e = refl
turned_round false false e = refl

pub acked-ack-requires : goal.acked-ack-requires
acked-ack-requires g c = record { together = ap (λ (m : NormalState). m.mutator.past.queue) c.self.view_is ∙ c.requires.going.tied.linked.queue_is }

pub come_home-requires : goal.come_home-requires
come_home-requires g c = record {
  long = ap (λ (m : NormalState). length m.streams) c.self.view_is ∙ c.requires.going.tied.sizes.streams_are ∙ sym (ap (λ (m : NormalState). length m.tracks) c.self.view_is);
  slots = subst (λ (m : NormalState). HaveSlots m.tracks) (sym c.self.view_is) (slots_there c.args.links.now (c.args.self.now.turns - 1) c.args.self.now c.requires.going);
}

pub go_on-requires : goal.go_on-requires
go_on-requires g c =
    let x : NormalState = c.args.self.now in
    let t : ℕ = x.turns - 1 in
    let ack : Bool = c.acked-ack.result in
    let m : Mutates ServerState StreamNames = c.acked-ack.new.self in
    let home : NormalState = c.come_home.new.self in
    let acked : WasAcked x.mutator ack m = subst (λ (v : NormalState). WasAcked v.mutator c.acked-ack.result c.acked-ack.new.self) c.self.view_is c.acked-ack.ensures.answer in
    let comes : MatchBool ack (WelcomesTo (length x.tracks) (with_mutator m x) home) (home ≡ with_mutator m x) =
    subst (λ (v : NormalState). MatchBool ack (WelcomesTo (length v.tracks) (with_mutator m v) home) (home ≡ with_mutator m v)) c.self.view_is c.come_home.ensures in
    let now : IsGoing c.args.links.now t home = going_acked c.args.links.now t x c.requires.going ack home (seen c.args.links.now t x c.requires.going ack m acked c.acked-ack.ensures.holds home comes) in
    let n = now.next in let f = c.requires.few in let o = c.requires.going.next in
    record {
      going = subst (λ (k : ℕ). IsGoing c.args.links.now k home) (omega arith) now;
      few = omega arith;
    }

pub returns-then-over : goal.returns-then-over
returns-then-over g c =
    let x : NormalState = c.args.self.now in
    let t : ℕ = x.turns - 1 in
    let m : Mutates ServerState StreamNames = c.acked-ack.new.self in
    let y : NormalState = c.stop.new.self in
    let so = both c.acked-ack.result c.self.inside.exits c.if-over.true in
    let acked : WasAcked x.mutator true m = subst (λ (b : Bool). WasAcked x.mutator b m) so.0 (subst (λ (v : NormalState). WasAcked v.mutator c.acked-ack.result c.acked-ack.new.self) c.self.view_is c.acked-ack.ensures.answer) in
    let exit : commands_exit x.mutator.past.last ≡ true = ap (λ (v : NormalState). commands_exit v.mutator.past.last) (sym c.self.view_is) ∙ sym c.self.invariant.2 ∙ so.1 in
    let stops : Stops x y = record {
      mutator = m;
      looks = on_false x.ended (m ≡ x.mutator) (WasAcked x.mutator true m × (commands_exit x.mutator.past.last ≡ true)) c.requires.lives (acked, exit);
      tells = c.stop.ensures.tells;
      leaves = c.stop.ensures.leaves ∙ ap (λ (v : NormalState). record v { mutator = m; ended = true; entry = y.entry }) c.self.view_is;
    } in
    record {
      does = subst (λ r. Does r x y) (sym c.stop.ensures.ended) stops;
      legal = (seen_stopped x y stops, stopped_legally x y stops);
      order = stopped c.args.links.now t x c.requires.going y stops (c.stop.ensures.rooms.0 ∙ ap (λ (v : NormalState). v.entry.tracks.room) c.self.view_is) (c.stop.ensures.rooms.1 ∙ ap (λ (v : NormalState). v.entry.mixes.room) c.self.view_is);
      turns = ap (λ (v : NormalState). v.turns) stops.leaves;
    }

pub returns : goal.returns
returns g c =
    let links = c.args.links.now in
    let x : NormalState = c.args.self.now in
    let t : ℕ = x.turns - 1 in
    let ack : Bool = c.acked-ack.result in
    let m : Mutates ServerState StreamNames = c.acked-ack.new.self in
    let home : NormalState = c.come_home.new.self in
    let y : NormalState = c.go_on.new.self in
    let acked : WasAcked x.mutator ack m = subst (λ (v : NormalState). WasAcked v.mutator c.acked-ack.result c.acked-ack.new.self) c.self.view_is c.acked-ack.ensures.answer in
    let comes : MatchBool ack (WelcomesTo (length x.tracks) (with_mutator m x) home) (home ≡ with_mutator m x) =
    subst (λ (v : NormalState). MatchBool ack (WelcomesTo (length v.tracks) (with_mutator m v) home) (home ≡ with_mutator m v)) c.self.view_is c.come_home.ensures in
    let held = c.acked-ack.ensures.holds in
    let no_exit : (commands_exit x.mutator.past.last && ack) ≡ false = ap (λ (v : NormalState). commands_exit v.mutator.past.last && ack) (sym c.self.view_is) ∙ ap (λ (b : Bool). b && ack) (sym c.self.invariant.2) ∙ turned_round ack c.self.inside.exits c.if-over.false in
    let w = c.go_on.ensures.goes in
    let by = made links t x c.requires.going ack m acked held home comes c.requires.lives no_exit w.0 w.1 w.2 y w.3 in
    record {
      does = subst (λ r. Does r x y) (sym w.4) (turns_by links t x c.requires.going ack m acked held home comes c.requires.lives no_exit w.0 w.1 w.2 y w.3, refl);
      legal = (outside links t x ack w.0 w.1 w.2 y by, made_legally links t x ack w.0 w.1 w.2 y by c.requires.lives no_exit);
      order = in_order links t x c.requires.going ack m acked held home comes c.requires.lives no_exit w.0 w.1 w.2 y w.3;
      turns = turns_same links t x c.requires.going ack m acked held home comes c.requires.lives no_exit w.0 w.1 w.2 y w.3;
    }
