use Rattle.std.proofs.Common.{rules, ◌≡◌, ℕ, ◌+◌, true, false, not, ◌==◌, None, sym, ap, ◌∙◌, subst}
use Rattle.af_server.proofs.Common.{Made, ServerSide, Shape, dropped_by, flushes_by, front_stored, is_noticed, look_at, shown_by}
use Rattle.af_server.specs.Order.{ServerState, Keeps, counted}
use Rattle.af_server.specs.Looks.{saw_all, shut_of, stored_front}
use Rattle.af_server.proofs.Kept.{rest_keeps}
use Rattle.af_server.proofs.Looked.{discard_keeps, judge_keeps}
use Rattle.af_server.proofs.server.Server.look.Goals as goal

pub returns-in-Some-clause-ready : goal.returns-in-Some-clause-ready
returns-in-Some-clause-ready g c =
    let old : ServerState = c.args.self.now in
    (search rules, subst (λ (x : ServerState). Keeps x.pass.part x.flush x.flushes x.front None x.consumed x.shut) (sym c.self.view_is) (rest_keeps old.pass.part old.flush old.flushes old.front old.shown old.consumed old.shut c.requires.ready.1))

pub returns-then-notices-clause-ready : goal.returns-then-notices-clause-ready
returns-then-notices-clause-ready g c =
    let old : ServerState = c.args.self.now in
    let view = c.self.view_is in
    let none : old.shut ≡ None = search rules in
    let words = c.load_words-words in
    let flush : ℕ = words.result.flush in
    let rear : ℕ = words.result.rear in
    let front : ℕ = words.result.front in
    let shape : c.args.block.now.shape ≡ old.pass.part.shape = ap (λ (x : Made). x.shape) (sym c.requires.ready.0) in
    let new : is_noticed old.pass.part.shape (not (flush == old.flush)) rear front ≡ true =
    ap (λ (x : Shape × ℕ). is_noticed x.0 (not (flush == x.1)) rear front) (λ i. (sym shape i, (sym view i).flush)) ∙ sym c.notices.ensures ∙ c.if-notices.true in
    let e = c.discard-seen.ensures in
    let part : c.discard-seen.new.self.pass.part ≡ front_stored (saw_all old.pass.part flush rear front) (stored_front old.pass.part.shape.wrap flush rear front) =
    ap (λ (x : ServerSide). x.part) e.pass
    ∙ ap (λ (x : ServerSide × Shape). front_stored x.0.part (stored_front x.1.wrap flush rear front)) (λ i. (words.ensures.saw i, shape i))
    ∙ ap (λ (x : ServerState). front_stored (saw_all x.pass.part flush rear front) (stored_front old.pass.part.shape.wrap flush rear front)) view in (
      c.discard-seen.ensures.made,
      discard_keeps old c.discard-seen.new.self c.args.ask flush rear front c.requires.ready.1 none c.requires.some new part
          (ap (λ (x : ServerState). x.flush) e.kept)
          (ap (λ (x : ServerState). x.flushes) e.kept ∙ ap (λ (x : Shape). flushes_by x.wrap flush) shape)
          (ap (λ (x : ServerState). x.shown) e.kept)
          (ap (λ (x : ServerState). x.consumed) e.kept ∙ ap (λ (x : ServerState × Shape). counted (x.0.consumed + dropped_by x.1.wrap flush rear front)) (λ i. (view i, shape i)))
          (ap (λ (x : ServerState). x.shut) e.kept ∙ ap (λ (x : ServerState). x.shut) view ∙ none),
    )

pub returns-else-notices-clause-ready : goal.returns-else-notices-clause-ready
returns-else-notices-clause-ready g c =
    let old : ServerState = c.args.self.now in
    let view = c.self.view_is in
    let none : old.shut ≡ None = search rules in
    let words = c.load_words-words in
    let flush : ℕ = words.result.flush in
    let rear : ℕ = words.result.rear in
    let front : ℕ = words.result.front in
    let e = c.judge-seen.ensures.kept in
    let shape : c.args.block.now.shape ≡ old.pass.part.shape = ap (λ (x : Made). x.shape) (sym c.requires.ready.0) in
    let seen : c.judge-seen.result ≡ look_at old.pass.part.shape old.flush c.args.ask flush rear front =
    c.judge-seen.ensures.seen ∙ ap (λ (x : Shape × ℕ). look_at x.0 x.1 c.args.ask flush rear front) (λ i. (shape i, (view i).flush)) in
    let part : c.judge-seen.new.self.pass.part ≡ saw_all old.pass.part flush rear front =
    ap (λ (x : ServerState). x.pass.part) e ∙ ap (λ (x : ServerSide). x.part) words.ensures.saw ∙ ap (λ (x : ServerState). saw_all x.pass.part flush rear front) view in
    let quiet : is_noticed old.pass.part.shape (not (flush == old.flush)) rear front ≡ false =
    ap (λ (x : Shape × ℕ). is_noticed x.0 (not (flush == x.1)) rear front) (λ i. (sym shape i, (sym view i).flush)) ∙ sym c.notices.ensures ∙ c.if-notices.false in (
      search rules,
      judge_keeps old c.judge-seen.new.self c.args.ask flush rear front c.requires.ready.1 none c.requires.some quiet part
          (ap (λ (x : ServerState). x.flush) e)
          (ap (λ (x : ServerState). x.flushes) e ∙ ap (λ (x : ServerState). x.flushes) view)
          (ap (λ (x : ServerState). x.front) e)
          (ap (λ (x : ServerState). x.shown) e ∙ ap shown_by seen)
          (ap (λ (x : ServerState). x.consumed) e ∙ ap (λ (x : ServerState). x.consumed) view)
          (ap (λ (x : ServerState). x.shut) e ∙ ap shut_of seen),
    )
