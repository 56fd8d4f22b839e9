use Rattle.std.proofs.Common.{◌≡◌, Bool, true, false, List, [], ℕ, length, append-nil, refl, sym, ap, subst, ◌∙◌}
use Rattle.af_side_by_side.proofs.Common.{CyclesOn, FastTurned, MatchBool, MixerState, Roomy, keeps_itself, most_cycles, noted_so_far}
use Rattle.af_side_by_side.proofs.AloneTurns.{sounds_on}
use Rattle.af_side_by_side.proofs.ScribeTurns.{noted_none}
use Rattle.af_side_by_side.proofs.alone.turn_alone.Goals as goal

pub returns-then-not-has_exited-clause-played : goal.returns-then-not-has_exited-clause-played
returns-then-not-has_exited-clause-played c =
    let m : MixerState = c.args.fast.now in
    let m' : MixerState = c.cycles_on.new.fast in
    let done = c.cycles_on.ensures.turned in
    let added : List ℕ = done.0 in
    let runs : m.exited ≡ false = sym c.has_exited.ensures ∙ c.if-not-has_exited.true in
    let turned : FastTurned c.args.links.now m added m' = subst (λ (b : Bool). MatchBool b ((added ≡ []) × (m' ≡ m)) (CyclesOn c.args.links.now most_cycles m added m')) (sym runs) done.2 in
    record {
      played = record {
        turned = record {
          added = added;
          written_is = done.1;
          played = turned;
          can = c.cycles_on.ensures.can;
          sizes = c.cycles_on.ensures.sizes;
          sound = (λ before same. sounds_on c.args.links.now m m' c.args.room.now.bytes c.cycles_on.new.room.bytes added before c.requires.can.whole turned done.1 same);
        };
        noted = c.cycles_on.ensures.noted;
        kept = c.cycles_on.ensures.kept;
      };
      logged = c.cycles_on.ensures.logged;
    }

pub returns-else-not-has_exited-clause-played : goal.returns-else-not-has_exited-clause-played
returns-else-not-has_exited-clause-played c =
    let m : MixerState = c.args.fast.now in
    let bytes : Roomy ℕ = c.args.room.now.bytes in
    let over : m.exited ≡ true = sym c.has_exited.ensures ∙ c.if-not-has_exited.false in
    record {
      played = record {
        turned = record {
          added = [];
          written_is = ap (λ (l : List ℕ). record bytes { items = l }) (sym (append-nil bytes.items));
          played = subst (λ (b : Bool). MatchBool b (([] ≡ []) × (m ≡ m)) (CyclesOn c.args.links.now most_cycles m [] m)) (sym over) (refl, refl);
          can = c.requires.can;
          sizes = (refl, refl);
          sound = (λ before same. same);
        };
        noted = noted_so_far m c.args.room.now.tally;
        kept = keeps_itself c.args.room.now;
      };
      logged = noted_none (length m.log.entries) m c.args.scribe.now refl;
    }
