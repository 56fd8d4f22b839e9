use Rattle.std.proofs.Common.{[], ◌∷◌, ◌++◌, length, refl, ap, ◌∙◌, subst, le_refl, List}
use Rattle.af_model.specs.declared.newest.WriterEvent.{WriterEvent}
use Rattle.af_model.specs.declared.newest.WriterEvent.TheVariants.{Store}
use Rattle.af_model.specs.declared.newest.WriterEvent.TheVariants as writes
use Rattle.af_model.specs.declared.newest.ReaderEvent.{ReaderEvent}
use Rattle.af_model.specs.declared.newest.ReaderEvent.TheVariants.{Load}
use Rattle.af_model.specs.NewestValue.{HasValueHistory}
use Rattle.af_latest.specs.Laws.{last_of}
use Rattle.af_latest.proofs.Exact.{exact, last_store}
use Rattle.af_latest.proofs.laws.store_and_load.Goals as goal

pub returns : goal.returns
returns g c first is =
    let named = c.meet_latest.ensures.together.1 ∙ c.store.ensures.together.1 ∙ is in
    let ws : List (WriterEvent g.row.T.Denot) = c.meet_latest.new.writer.events in
    let known : List (WriterEvent g.row.T.Denot) = c.store.new.self.events in
    let r0 : List (ReaderEvent g.row.T.Denot) = c.args.reader.now.events in
    let load = c.load-found.ensures.list in
    let read = load.1 ∙ ap (λ z. z ++ Load load.0 c.load-found.result ∷ []) c.meet_latest.ensures.reader in
    let h = subst (HasValueHistory first ws) read (c.meet_latest-2.ensures.before first named) in
    let e = exact first ws known (writes.Learn (length r0) ∷ []) r0 (length known) load.0 c.load-found.result h c.meet_latest.ensures.writer (le_refl _) refl in
    e.1 ∙ ap (last_of first) (c.meet_latest.ensures.writer ∙ ap (λ z. z ++ writes.Learn (length r0) ∷ []) c.store.ensures.list) ∙ last_store first c.args.writer.now.events c.args.value.now (length r0)
