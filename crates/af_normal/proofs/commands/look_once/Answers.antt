use Rattle.std.proofs.Common.{◌≡◌, ◌≢◌, ℕ, ◌∷◌, ◌++◌, [], false, refl, sym, ap, ◌∙◌, List, length, arith}
use Rattle.af_normal.proofs.Common.{CommandLook, Frame, Made, packed_word, slice_index_or}
use Rattle.std.specs.Prelude.{◌==◌}
use Rattle.af_base.specs.declared.event.ServerEvent.TheVariants as server
use Rattle.af_normal.proofs.Looked.{looked, missed, taken, shown_two, two_words}
use Rattle.af_normal.proofs.commands.look_once.Goals as goal

is_not : (n : ℕ) → n ≢ 2 → (n == 2) ≡ false
is_not n h = grind arith

pub take-requires-clause-shown : goal.take-requires-clause-shown
take-requires-clause-shown g c = c.look-look.ensures.kept.1 ∙ shown_two c.look-look.result.seen 1 (sym c.count.ensures ∙ c.if-count-ne2.false)

pub returns-then-count-ne2-clause-looks : goal.returns-then-count-ne2-clause-looks
returns-then-count-ne2-clause-looks g c =
    let l = looked 2 c.args.server.now c.look-look.new.self c.look-look.result c.requires.ready.1 c.look-look.ensures.looks c.look-look.ensures.within in
    let look : CommandLook = record { flush = c.look-look.result.flush; rear = c.look-look.result.rear; seen = c.look-look.result.seen; code = 0; argument = 0 } in
    missed c.args.server.now c.look-look.new.self look l.0 (ap (λ (n : ℕ). n == 2) (sym c.count.ensures) ∙ is_not c.count.result c.if-count-ne2.true) refl refl l.1 l.2 c.look-look.ensures.frames.0
    (ap (λ (m : Made). m.shape) (c.look-look.ensures.ready.0 ∙ sym c.requires.ready.0)) c.look-look.ensures.frames.1

pub returns-clause-looks : goal.returns-clause-looks
returns-clause-looks g c =
    let l = looked 2 c.args.server.now c.look-look.new.self c.look-look.result c.requires.ready.1 c.look-look.ensures.looks c.look-look.ensures.within in
    let look : CommandLook = record { flush = c.look-look.result.flush; rear = c.look-look.result.rear; seen = c.look-look.result.seen; code = c.pack.result; argument = c.pack-2.result } in
    let into : List Frame = c.take.new.into in
    let two : length into ≡ 2 = c.take.auto.into in
    taken c.args.server.now c.look-look.new.self c.take.new.self look l.0 (ap (λ (n : ℕ). n == 2) (sym c.count.ensures ∙ c.if-count-ne2.false)) l.1 l.2 c.look-look.ensures.frames.0
    (c.take.ensures.takes.0 ∙ ap (λ (n : ℕ). c.look-look.new.self.pass.part.events ++ server.Take n ∷ []) two)
    (c.take.ensures.takes.1 ∙ ap (λ (ws : List ℕ). c.look-look.new.self.pass.part.frames ++ ws)
    (two_words into _ _ two ∙ ap (λ (w : ℕ). w ∷ packed_word (slice_index_or into 1 _) ∷ []) (sym c.pack.ensures) ∙ ap (λ (w : ℕ). c.pack.result ∷ w ∷ []) (sym c.pack-2.ensures)))
    (ap (λ (m : Made). m.shape) (c.take.ensures.ready.0 ∙ sym c.requires.ready.0)) (c.take.ensures.hand ∙ c.look-look.ensures.frames.1)
