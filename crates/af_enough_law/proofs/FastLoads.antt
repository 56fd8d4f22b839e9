-- A turn loads a report that is no older than those of the rounds before.
use Rattle.std.proofs.Common.{◌≡◌, ℕ, zero, suc, ◌+◌, ◌≤◌, if◌then◌else◌, Bool, true, false, Option, Some, None, List, [], ◌∷◌, ◌++◌, map, length, take, refl, sym, ap, ◌∙◌, subst, arith, append_assoc, append-nil, length-append}
use Rattle.af_enough_law.proofs.Common.{EntrySeen, LegalRound, Marks, ReaderEvent, Report, RoundSeen, Run, Session, Turn, TurnFound, WriterEvent, after_round, after_turn, all_played, before_turn, each_track, early_of, ends, found_in, late_of, loaded, met, met_after, new_run, no_report, one, ones, report_of, take-append-le, take-append_seam, turned, two, twos, with_calls, with_cycle, with_cycles, with_ends, with_load, with_mix, with_poll, with_turn, ones_one, twos_one, ones_stay, twos_more, twos_met, ones_met}
use Rattle.af_model.specs.declared.newest.ReaderEvent.TheVariants as reads
use Rattle.af_model.specs.declared.newest.WriterEvent.TheVariants as writes
use Rattle.af_model.specs.NewestValue as newest
use Rattle.af_enough_law.specs.Seen.{stored}
use Rattle.af_enough_law.proofs.FastWords.{CountsReports, KnowsReports}
use Rattle.af_enough_law.proofs.SeenShared.{load_seen}

-- ## Lists

stored-append : (xs ys : List (WriterEvent Report)) → stored (xs ++ ys) ≡ stored xs + stored ys
stored-append [] ys = omega arith
stored-append (x ∷ xs) ys = let rest = stored-append xs ys in omega arith

stored-front : (n : ℕ) (front rest : List (WriterEvent Report)) → n ≤ length front → stored (take n (front ++ rest)) ≤ stored front
stored-front zero front rest low = omega arith
stored-front (suc n) [] rest low = absurd (omega (arith, low))
stored-front (suc n) (x ∷ front) rest low = let more = stored-front n front rest (omega (arith, low)) in omega arith

-- ## Entries

-- reports are stored, and nothing is loaded
record Stores (run later : Run) : Type 0 where
  more : List (WriterEvent Report)
  writer : ones later.report ≡ ones run.report ++ more
  reader : twos later.report ≡ twos run.report
  counts : stored more + length run.reports ≡ length later.reports

stores_none : (run later : Run) → later.report ≡ run.report → later.reports ≡ run.reports → Stores run later
stores_none run later same reports = record { more = []; writer = ap ones same ∙ sym (append-nil (ones run.report)); reader = ap twos same; counts = (let a = ap length reports in omega arith) }

stores_both : (a b c : Run) → Stores a b → Stores b c → Stores a c
stores_both a b c f g = record {
  more = f.more ++ g.more;
  writer = g.writer ∙ ap (λ l. l ++ g.more) f.writer ∙ append_assoc (ones a.report) f.more g.more;
  reader = g.reader ∙ f.reader;
  counts = (let p = f.counts in let q = g.counts in let r = stored-append f.more g.more in omega arith);
}

one_more : (rs : List Report) (r : Report) → stored (writes.Store r ∷ []) + length rs ≡ length (rs ++ r ∷ [])
one_more rs r = let a = length-append rs (r ∷ []) in omega arith

cycle_stores : (s : Session) (run : Run) (e : EntrySeen) → Stores run (with_cycle s run e)
unfolding with_poll with_mix
cycle_stores s run e = record { more = writes.Store _ ∷ []; writer = ones_one run.report (writes.Store _); reader = twos_one run.report (writes.Store _); counts = one_more run.reports _ }

cycles_store : (s : Session) (es : List EntrySeen) (run : Run) → Stores run (with_cycles s es run)
cycles_store s [] run = stores_none run run refl refl
cycles_store s (e ∷ es) run = stores_both run (with_cycle s run e) (with_cycles s es (with_cycle s run e)) (cycle_stores s run e) (cycles_store s es (with_cycle s run e))

calls_store : (round : RoundSeen) (run : Run) → Stores run (with_calls round run)
unfolding with_calls
calls_store round run = stores_none run (with_calls round run) refl refl

turn_stores : (s : Session) (f : TurnFound) (e : Turn) (run : Run) → Stores run (with_turn s f e run)
unfolding with_turn
turn_stores s f e run = stores_none run (with_turn s f e run) refl refl

turned_stores : (s : Session) (found : Turn → TurnFound) (o : Option Turn) (run : Run) → Stores run (turned s found o run)
turned_stores s found None run = stores_none run run refl refl
turned_stores s found (Some e) run = turn_stores s (found e) e run

-- all reports of a round are stored
round_stores : (s : Session) (run : Run) (round : RoundSeen) → Stores run (with_cycles s (late_of run round) (after_turn s run round))
round_stores s run round =
    let called : Run = with_calls round run in
    let before : Run = before_turn s run round in
    let turn : Run = after_turn s run round in
    let late : Run = with_cycles s (late_of run round) turn in
    stores_both run called late (calls_store round run)
    (stores_both called before late (cycles_store s (early_of run round) called) (stores_both before turn late (turned_stores s (found_in s run round) round.turn before) (cycles_store s (late_of run round) turn)))

-- ## The load and the meeting

load_report : (e : Turn) (run : Run) → e.ended ≡ false → (with_load e run).report ≡ run.report ++ map two (reads.Load e.cycle (report_of run.reports e.cycle) ∷ [])
unfolding with_load
load_report e run going = ap (λ (b : Bool). run.report ++ map two (if b then [] else reads.Load e.cycle (report_of run.reports e.cycle) ∷ [])) going

load_same : (e : Turn) (run : Run) → (ones (with_load e run).report ≡ ones run.report) × ((with_load e run).reports ≡ run.reports)
unfolding with_load
load_same e run = (ones_stay run.report (if e.ended then [] else reads.Load e.cycle (report_of run.reports e.cycle) ∷ []), refl)

loaded_same : (o : Option Turn) (run : Run) → (ones (loaded o run).report ≡ ones run.report) × ((loaded o run).reports ≡ run.reports)
loaded_same None run = (refl, refl)
loaded_same (Some e) run = load_same e run

met_report : (s : Session) (run : Run) → ((met s run).report ≡ run.report ++ one (writes.Learn (length (twos run.report))) ∷ two (reads.Learn (length (ones run.report))) ∷ []) × ((met s run).reports ≡ run.reports)
unfolding met
met_report s run = (refl, refl)

ends_report : (run : Run) → ((with_ends run).report ≡ run.report) × ((with_ends run).reports ≡ run.reports)
unfolding with_ends
ends_report run = by run.normal.ended (each_track (λ track t. record t { client = ends t.client }) run) (refl, refl)
  where
    by : (b : Bool) (x : Run) → (x.report ≡ run.report) × (x.reports ≡ run.reports) → ((if b then x else run).report ≡ run.report) × ((if b then x else run).reports ≡ run.reports)
    by true x same = same
    by false x same = (refl, refl)

-- the report that a turn loads is at least the last one of the round before, and at most the last one of its own round
pub loads_new : (cut : Bool) (s : Session) (marks : Marks) (run : Run) (round : RoundSeen) (e : Turn) → LegalRound cut s marks run round → CountsReports run → KnowsReports run → round.turn ≡ Some e → e.ended ≡ false → (length run.reports ≤ e.cycle) × (e.cycle ≤ length (after_round s run round).reports)
loads_new cut s marks run round e legal counts knows is going =
    let late : Run = with_cycles s (late_of run round) (after_turn s run round) in
    let all : Run = all_played s run round in
    let end : Run = met_after s run round in
    let stores = round_stores s run round in
    let x : Report = report_of late.reports e.cycle in
    let learns : List (ReaderEvent Report) = reads.Learn (length (ones all.report)) ∷ [] in
    let writer : ones end.report ≡ ones run.report ++ (stores.more ++ writes.Learn (length (twos all.report)) ∷ []) =
    ap ones (met_report s all).0 ∙ ones_met all.report (writes.Learn (length (twos all.report))) (reads.Learn (length (ones all.report)))
    ∙ ap (λ l. l ++ writes.Learn (length (twos all.report)) ∷ []) ((loaded_same round.turn late).0 ∙ stores.writer) ∙ append_assoc (ones run.report) stores.more (writes.Learn (length (twos all.report)) ∷ []) in
    let reader : twos end.report ≡ twos run.report ++ reads.Load e.cycle x ∷ learns =
    ap twos (met_report s all).0 ∙ twos_met all.report (writes.Learn (length (twos all.report))) (reads.Learn (length (ones all.report)))
    ∙ ap (λ l. l ++ learns) (ap (λ (o : Option Turn). twos (loaded o late).report) is ∙ ap twos (load_report e late going) ∙ twos_more late.report (reads.Load e.cycle x ∷ []) ∙ ap (λ l. l ++ reads.Load e.cycle x ∷ []) stores.reader)
    ∙ append_assoc (twos run.report) (reads.Load e.cycle x ∷ []) learns in
    let history = subst (λ (l : List (ReaderEvent Report)). newest.HasValueHistory no_report (ones end.report) l) reader legal.histories.shared.report in
    let sees = load_seen (twos run.report) learns (ones end.report) e.cycle x history in
    let few = sees.learnt knows.count knows.learnt in
    let low : stored (take knows.count (ones end.report)) ≤ stored sees.front = subst (λ (l : List (WriterEvent Report)). stored (take knows.count l) ≤ stored sees.front) (sym sees.whole) (stored-front knows.count sees.front sees.rest few) in
    let known : stored (take knows.count (ones end.report)) ≡ length run.reports =
    ap (λ l. stored (take knows.count l)) writer ∙ ap stored (take-append-le knows.count (ones run.report) (stores.more ++ writes.Learn (length (twos all.report)) ∷ []) knows.within) ∙ knows.all in
    let shows = sees.shows in
    let most : stored (ones end.report) ≡ stored sees.front + stored sees.rest = ap stored sees.whole ∙ stored-append sees.front sees.rest in
    let all_of : stored (ones end.report) ≡ stored (ones run.report) + stored (stores.more ++ writes.Learn (length (twos all.report)) ∷ []) = ap stored writer ∙ stored-append (ones run.report) (stores.more ++ writes.Learn (length (twos all.report)) ∷ []) in
    let news = stored-append stores.more (writes.Learn (length (twos all.report)) ∷ []) in
    let c = stores.counts in
    let same : length (after_round s run round).reports ≡ length late.reports = ap length ((ends_report end).1 ∙ (met_report s all).1 ∙ (loaded_same round.turn late).1) in
    (omega arith, omega arith)

-- after a round all its reports are known
pub record LearntReports (after : Run) : Type 0 where
  pub counts : CountsReports after
  pub knows : KnowsReports after

pub learns_reports : (s : Session) (run : Run) (round : RoundSeen) → CountsReports run → LearntReports (after_round s run round)
learns_reports s run round counts =
    let late : Run = with_cycles s (late_of run round) (after_turn s run round) in
    let all : Run = all_played s run round in
    let end : Run = met_after s run round in
    let after : Run = after_round s run round in
    let stores = round_stores s run round in
    let told = all.report in
    let seen : WriterEvent Report = writes.Learn (length (twos told)) in
    let writer : ones after.report ≡ ones told ++ seen ∷ [] = ap ones ((ends_report end).0 ∙ (met_report s all).0) ∙ ones_met told seen (reads.Learn (length (ones told))) in
    let reader : twos after.report ≡ twos told ++ reads.Learn (length (ones told)) ∷ [] = ap twos ((ends_report end).0 ∙ (met_report s all).0) ∙ twos_met told seen (reads.Learn (length (ones told))) in
    let same : length after.reports ≡ length late.reports = ap length ((ends_report end).1 ∙ (met_report s all).1 ∙ (loaded_same round.turn late).1) in
    let a = ap stored ((loaded_same round.turn late).0 ∙ stores.writer) in
    let b = stored-append (ones run.report) stores.more in
    let c = stores.counts in
    let d = ap stored writer in
    let d' = stored-append (ones told) (seen ∷ []) in
    record {
      counts = omega arith;
      knows = record {
        count = length (ones told);
        learnt = record { before = twos told; behind = []; whole = reader };
        within = (let x = ap length writer in let y = length-append (ones told) (seen ∷ []) in omega arith);
        all = ap (λ l. stored (take (length (ones told)) l)) writer ∙ ap stored (take-append_seam (ones told) (seen ∷ [])) ∙ (let x : stored (ones told) ≡ length after.reports = omega arith in x);
      };
    }

pub new_reports : (s : Session) → CountsReports (new_run s)
new_reports s = refl
