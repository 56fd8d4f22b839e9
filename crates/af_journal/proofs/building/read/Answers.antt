use Rattle.std.proofs.Common.{◌≡◌, ◌∙◌, refl, ap, sym, subst, true, ℕ, List, length}
use Rattle.af_journal.proofs.Common.{JournalData}
use Rattle.af_journal.specs.Beginnings.{IsFrontOf}
use Rattle.af_journal.specs.Readings.{Reads}
use Rattle.af_journal.proofs.building.read.Goals as goal

-- the front that is the whole text is its one reading
whole_reads : (most tracks given : ℕ) (text : List ℕ) (front : JournalData) → tracks ≡ given → IsFrontOf most tracks text true front → Reads given text front
whole_reads most tracks given text front is f = subst (λ n. Reads n text front) is (subst (Reads tracks text) (sym ((f.same refl).0)) f.reads)

whole_only : (most tracks given : ℕ) (text : List ℕ) (front : JournalData) → tracks ≡ given → IsFrontOf most tracks text true front → (other : JournalData) → Reads given text other → other ≡ front
whole_only most tracks given text front is f other r = f.only other (subst (λ n. Reads n text other) (sym is) r) ∙ sym ((f.same refl).0)

pub returns-then-front-clause-journal : goal.returns-then-front-clause-journal
returns-then-front-clause-journal c =
    let front = c.in-Ok.front in
    let f = subst (λ whole. IsFrontOf c.reach_of_all.result.kept (length c.tracks.result.now) c.args.bytes.now whole front.journal) c.if-front.true c.in-Ok.ensures.front in
    whole_reads _ _ _ c.args.bytes.now front.journal (ap length c.tracks.ensures.value) f

pub returns-then-front-clause-only : goal.returns-then-front-clause-only
returns-then-front-clause-only c =
    let front = c.in-Ok.front in
    let f = subst (λ whole. IsFrontOf c.reach_of_all.result.kept (length c.tracks.result.now) c.args.bytes.now whole front.journal) c.if-front.true c.in-Ok.ensures.front in
    whole_only _ _ _ c.args.bytes.now front.journal (ap length c.tracks.ensures.value) f
