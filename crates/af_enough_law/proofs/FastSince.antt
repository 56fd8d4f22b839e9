-- Each report of a round, also one that is loaded before the round is over, goes on from those before it.
use Rattle.std.proofs.Common.{◌≡◌, ℕ, zero, suc, ◌+◌, ◌-◌, ◌≤◌, ◌<◌, if◌then◌else◌, Bool, List, [], ◌∷◌, ◌++◌, length, fold, refl, sym, ap, ◌∙◌, subst, arith, ne_eqb, length-append, append_assoc, append-nil}
use Rattle.af_enough_law.proofs.Common.{BlockTold, Report, Run, ServerEvent, ServerKept, Shape, fold-append, known_of, last_report, listed, no_report, report_of, server_begins, server_keeps, server_kept, server_list, slice_index_or}
use Rattle.af_base.specs.declared.event.ServerEvent.TheVariants as server
use Rattle.af_enough_law.proofs.FastFlows.{Later}

-- ## What was consumed never falls

keeps_more : (k : Shape) (s : ServerKept) (e : ServerEvent) → s.consumed ≤ (server_keeps k s e).consumed
keeps_more k s (server.SawGain word) = omega arith
keeps_more k s _ = omega arith

kept_more : (k : Shape) (s : ServerKept) (es : List ServerEvent) → s.consumed ≤ (fold (server_keeps k) s es).consumed
kept_more k s [] = omega arith
kept_more k s (e ∷ es) = let a = keeps_more k s e in let b = kept_more k (server_keeps k s e) es in omega arith

pub known_more : (b later : BlockTold) → Later b later → (known_of (listed b)).consumed ≤ (known_of (listed later)).consumed
known_more b later f =
    let a = kept_more b.shape (server_kept b.shape (server_list b)) f.events in
    let same : server_kept later.shape (server_list later) ≡ fold (server_keeps b.shape) (server_kept b.shape (server_list b)) f.events =
    ap (λ (x : Shape × List ServerEvent). server_kept x.0 x.1) (λ j. (f.shape j, f.server j)) ∙ fold-append (server_keeps b.shape) (server_begins b.shape) (server_list b) f.events in
    let c = ap (λ (x : ServerKept). x.consumed) same in
    omega (arith, a, c)

-- ## The reports of some entries

abbrev pub AllReports : (Report → Type 0) → List Report → Type 0
AllReports P [] = Unit {0}
AllReports P (r ∷ rs) = P r × AllReports P rs

-- reports are added, of each of which this holds
pub record Adds (run later : Run) (P : Report → Type 0) : Type 0 where
  pub news : List Report
  pub whole : later.reports ≡ run.reports ++ news
  pub each : AllReports P news

all_join : (P : Report → Type 0) (xs ys : List Report) → AllReports P xs → AllReports P ys → AllReports P (xs ++ ys)
all_join P [] ys h g = g
all_join P (x ∷ xs) ys h g = (h.0, all_join P xs ys h.1 g)

pub adds_both : (P : Report → Type 0) (a b c : Run) → Adds a b P → Adds b c P → Adds a c P
adds_both P a b c f g = record { news = f.news ++ g.news; whole = g.whole ∙ ap (λ l. l ++ g.news) f.whole ∙ append_assoc a.reports f.news g.news; each = all_join P f.news g.news f.each g.each }

pub adds_none : (P : Report → Type 0) (run : Run) → Adds run run P
adds_none P run = record { news = []; whole = sym (append-nil run.reports); each = tt }

-- ## The report of a number

pick : ℕ → Report → List Report → Report → Report
pick zero d xs e = d
pick (suc n) d xs e = slice_index_or xs n e

among : (P : Report → Type 0) (news : List Report) (m : ℕ) (e : Report) → AllReports P news → m < length news → P (slice_index_or news m e)
among P [] m e all low = absurd (let z : ⊥ = omega (arith, low) in z)
among P (r ∷ rs) zero e all low = all.0
among P (r ∷ rs) (suc m) e all low = among P rs m e all.1 (omega (arith, low))

picked : (P : Report → Type 0) (rs news : List Report) (d e : Report) (n : ℕ) → length rs ≤ n → n ≤ length rs + length news → P (fold (λ last report. report) d rs) → AllReports P news → P (pick n d (rs ++ news) e)
unfolding pick
picked P [] news d e zero low high last all = last
picked P [] news d e (suc n) low high last all = among P news n e all (omega (arith, high))
picked P (r ∷ rs) news d e zero low high last all = absurd (let z : ⊥ = omega (arith, low) in z)
picked P (r ∷ []) news d e (suc zero) low high last all = last
picked P (r ∷ x ∷ rs) news d e (suc zero) low high last all = absurd (let z : ⊥ = omega (arith, low) in z)
picked P (r ∷ rs) news d e (suc (suc n)) low high last all = picked P rs news r e (suc n) (omega (arith, low)) (omega (arith, high)) last all

number_picked : (reports : List Report) (n : ℕ) → report_of reports n ≡ pick n no_report reports (last_report reports)
unfolding pick
number_picked reports zero = refl
number_picked reports (suc n) =
    let e : suc n - 1 ≡ n = omega arith in
    ap (λ (b : Bool). if b then no_report else slice_index_or reports (suc n - 1) (last_report reports)) (ne_eqb (suc n) 0 (λ z. let w : ⊥ = omega (arith, z) in w)) ∙ ap (λ m. slice_index_or reports m (last_report reports)) e

-- a report of a number from the last one before on, if others were added
pub since_number : (run later : Run) (P : Report → Type 0) (n : ℕ) → Adds run later P → P (last_report run.reports) → length run.reports ≤ n → n ≤ length later.reports → P (report_of later.reports n)
since_number run later P n adds last low high =
    let long : length later.reports ≡ length run.reports + length adds.news = ap length adds.whole ∙ length-append run.reports adds.news in
    subst P (sym (number_picked later.reports n))
    (subst (λ (l : List Report). P (pick n no_report l (last_report later.reports))) (sym adds.whole) (picked P run.reports adds.news no_report (last_report later.reports) n low (omega (arith, high, long)) last adds.each))
