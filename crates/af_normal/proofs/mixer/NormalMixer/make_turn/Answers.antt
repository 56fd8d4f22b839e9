use Rattle.std.proofs.Common.{◌≡◌, ℕ, true, length, refl, sym, ap, ◌∙◌, subst, arith}
use Rattle.af_normal.proofs.Common.{Links, WasAcked, commands_exit}
use Rattle.af_normal.specs.Order.{IsGoing}
use Rattle.af_normal.specs.State.{NormalState}
use Rattle.af_normal.specs.TurnMade.{Does, Stops}
use Rattle.af_normal.proofs.Cases.{on_true}
use Rattle.af_normal.proofs.LegalBegins.{begun_by, begun_legally, ended_legally}
use Rattle.af_normal.proofs.Servable.{emptied, going_begun, whole_begun}
use Rattle.af_normal.proofs.Stopped.{stopped}
use Rattle.af_normal.proofs.Turned.{answer_is}
use Rattle.af_normal.proofs.mixer.NormalMixer.make_turn.Goals as goal

pub begin-requires : goal.begin-requires
begin-requires g c =
    let a = c.requires.order.turns.together in let b = c.requires.order.turns.spare_room in
    let d = c.requires.order.takes.together in let e = c.requires.order.takes.spare_room in
    let f = c.requires.few in
    record { few = omega arith; turns = omega arith; takes = omega arith }

pub make_hands-requires : goal.make_hands-requires
make_hands-requires g c =
    let same = c.begin.ensures.begins.same in
    let sizes = c.requires.order.tied.sizes in
    let tracks : length c.begin.new.self.tracks ≡ length c.args.self.now.tracks = ap (λ (v : NormalState). length v.tracks) same in
    let streams : length c.begin.new.self.streams ≡ length c.args.self.now.streams = ap (λ (v : NormalState). length v.streams) same in
    let are = sizes.streams_are in let few = sizes.few in let blocks = sizes.blocks in
    record {
      sizes = (omega arith, (let l = blocks.0 in omega arith));
      few = omega arith;
      whole = whole_begun c.args.links.now c.args.self.now c.begin.new.self c.requires.order c.begin.ensures.begins;
    }

pub look-requires : goal.look-requires
look-requires g c =
    let links : Links = c.args.links.now in
    let x : NormalState = c.args.self.now in
    let b : NormalState = c.begin.new.self in
    let h : NormalState = c.make_hands.new.self in
    let e = c.begin.ensures in
    let going : IsGoing links x.turns h = going_begun links x b c.requires.order e.begins (emptied links x b c.requires.order e.begins e.turns e.takes e.rooms.0 e.rooms.1) h c.make_hands.ensures.hands in
    let n = going.next in let f = c.requires.few in
    record {
      going = subst (λ (k : ℕ). IsGoing links k h) (omega arith) going;
      few = omega arith;
      lives = ap (λ (v : NormalState). v.ended) (sym c.self.view_is) ∙ c.if-self.false;
    }

pub returns-then-self : goal.returns-then-self
returns-then-self g c =
    let links : Links = c.args.links.now in
    let x : NormalState = c.args.self.now in
    let b : NormalState = c.begin.new.self in
    let h : NormalState = c.make_hands.new.self in
    let y : NormalState = c.stop.new.self in
    let e = c.begin.ensures in
    let going : IsGoing links x.turns h = going_begun links x b c.requires.order e.begins (emptied links x b c.requires.order e.begins e.turns e.takes e.rooms.0 e.rooms.1) h c.make_hands.ensures.hands in
    let over : h.ended ≡ true = ap (λ (v : NormalState). v.ended) (sym c.self.view_is) ∙ c.if-self.true in
    let stops : Stops h y = record {
      mutator = h.mutator;
      looks = on_true h.ended (h.mutator ≡ h.mutator) (WasAcked h.mutator true h.mutator × (commands_exit h.mutator.past.last ≡ true)) over refl;
      tells = c.stop.ensures.tells;
      leaves = c.stop.ensures.leaves;
    } in
    record {
      order = stopped links x.turns h going y stops c.stop.ensures.rooms.0 c.stop.ensures.rooms.1;
      turns = ap (λ (v : NormalState). v.turns) stops.leaves ∙ going.next;
      answer = answer_is c.stop.result h y (subst (λ r. Does r h y) (sym c.stop.ensures.ended) stops);
      made = record { begun = b; begins = e.begins; handed = h; hands = c.make_hands.ensures.hands; does = subst (λ r. Does r h y) (sym c.stop.ensures.ended) stops };
      legal = ended_legally x b h y e.begins c.make_hands.ensures.hands stops;
    }

pub returns : goal.returns
returns g c =
    let links : Links = c.args.links.now in
    let x : NormalState = c.args.self.now in
    let b : NormalState = c.begin.new.self in
    let h : NormalState = c.make_hands.new.self in
    let y : NormalState = c.look.new.self in
    let e = c.begin.ensures in
    let d = c.look.ensures in
    let going : IsGoing links x.turns h = going_begun links x b c.requires.order e.begins (emptied links x b c.requires.order e.begins e.turns e.takes e.rooms.0 e.rooms.1) h c.make_hands.ensures.hands in
    record {
      order = d.order;
      turns = d.turns ∙ going.next;
      answer = answer_is c.look.result h y d.does;
      made = record { begun = b; begins = e.begins; handed = h; hands = c.make_hands.ensures.hands; does = d.does };
      legal = (d.legal.0, begun_legally x h y d.legal.0 (begun_by x b h e.begins c.make_hands.ensures.hands) d.legal.1);
    }
