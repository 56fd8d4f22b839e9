-- What is kept of the fast mixer stays so through the steps of the other parties.
use Rattle.std.proofs.Common.{◌≡◌, ℕ, Bool, true, false, if◌then◌else◌, refl, sym, ap, ◌∙◌, subst, map, List, [], ◌∷◌, ◌++◌, length, append-nil, Option, Some, None}
use Rattle.af_judge.proofs.Common.{CycleEntry, Event, FastState, Report, RoundSeen, Run, Session, Turn, TurnFound, UseUpTo, cold_done, cold_done-before, cycle_frames, draft_after, each_track, ends, has_exit, is_pushed, last_report, last_used, loaded, met, new_run, one, ones, outside_of, pipe_cells, pipe_list, setup_of, turned, two, twos, with_calls, with_ends, with_load, with_turn}
use Rattle.af_base.specs.declared.event.ClientEvent.TheVariants as client
use Rattle.af_base.specs.declared.event.ServerEvent.TheVariants as server
use Rattle.af_judge.specs.Entries.{AreNumbered, FastOf}
use Rattle.af_judge.specs.FastKept.{FastKept, fast_begins}
use Rattle.af_judge.specs.PipeKept.{with_meeting}
use Rattle.af_judge.specs.QueueNumbers.{QueueKept}

-- ## The ends of the pipe

twos-ones : {A B : Type 0} (told : List (Event A B)) (es : List A) → twos (told ++ map one es) ≡ twos told
twos-ones {A = A} {B = B} [] [] = refl
twos-ones {A = A} {B = B} [] (e ∷ es) = twos-ones [] es
twos-ones {A = A} {B = B} (one a ∷ told) es = twos-ones told es
twos-ones {A = A} {B = B} (two b ∷ told) es = ap (λ (bs : List B). b ∷ bs) (twos-ones told es)

twos-met : {A B : Type 0} (told : List (Event A B)) (a : A) (b : B) → twos (told ++ one a ∷ two b ∷ []) ≡ twos told ++ b ∷ []
twos-met {A = A} {B = B} [] a b = refl
twos-met {A = A} {B = B} (one c ∷ told) a b = twos-met told a b
twos-met {A = A} {B = B} (two d ∷ told) a b = ap (λ (bs : List B). d ∷ bs) (twos-met told a b)

-- ## A run of which the fast mixer has the same

-- the state adopted last, the entries, the reports, what was cold, and its end of the pipe are the same
pub record SameFast (run after : Run) : Type 0 where
  pub current : after.current ≡ run.current
  pub entries : after.entries ≡ run.entries
  pub reports : after.reports ≡ run.reports
  pub cold : cold_done after.states after.entries ≡ cold_done run.states run.entries
  pub takes : twos after.pipe.told ≡ twos run.pipe.told
  pub taken : after.pipe.taken ≡ run.pipe.taken

pub numbered_same : (run after : Run) → SameFast run after → AreNumbered run → AreNumbered after
numbered_same run after same n = record {
  many = subst (λ (x : List Report × List CycleEntry). length x.0 ≡ length x.1) (λ i. (sym same.reports i, sym same.entries i)) n.many;
  cycle = subst (λ (x : List Report × List CycleEntry). (last_report x.0).cycle ≡ length x.1) (λ i. (sym same.reports i, sym same.entries i)) n.cycle;
}

pub fast_same : (s : Session) (earlier : List Report) (run after : Run) (f : FastKept) → SameFast run after → FastOf s earlier run f → FastOf s earlier after f
fast_same s earlier run after f same fast = record {
  asked = fast.asked;
  current = fast.current ∙ sym same.current;
  used = fast.used ∙ ap last_used (sym same.entries);
  report = fast.report ∙ ap last_report (sym same.reports);
  numbered = numbered_same run after same fast.numbered;
  before = fast.before;
  first = fast.first;
  reports = same.reports ∙ fast.reports;
  cold = fast.cold ∙ sym same.cold;
  ended = fast.ended ∙ ap has_exit (sym same.entries);
  takes = fast.takes ∙ sym same.takes;
  taken = fast.taken ∙ sym same.taken;
}

-- which draft the judge has doesn't matter, nor what else it keeps of the queue and of the pipe
pub record SameTold (f g : FastKept) : Type 0 where
  pub asked : g.told.asked ≡ f.told.asked
  pub current : g.told.current ≡ f.told.current
  pub used : g.told.used ≡ f.told.used
  pub report : g.told.report ≡ f.told.report
  pub cold : g.cold ≡ f.cold
  pub ended : g.ended ≡ f.ended
  pub before : g.before ≡ f.before
  pub reports : g.reports ≡ f.reports
  pub takes : g.pipe.takes ≡ f.pipe.takes
  pub taken : g.pipe.taken ≡ f.pipe.taken

pub fast_told_same : (s : Session) (earlier : List Report) (run : Run) (f g : FastKept) → SameTold f g → FastOf s earlier run f → FastOf s earlier run g
fast_told_same s earlier run f g same fast = record {
  asked = same.asked ∙ fast.asked;
  current = same.current ∙ fast.current;
  used = same.used ∙ fast.used;
  report = same.report ∙ fast.report;
  numbered = fast.numbered;
  before = same.before ∙ fast.before;
  first = fast.first;
  reports = fast.reports ∙ ap (λ (rs : List Report). earlier ++ rs) (sym same.reports);
  cold = same.cold ∙ fast.cold;
  ended = same.ended ∙ fast.ended;
  takes = same.takes ∙ fast.takes;
  taken = same.taken ∙ fast.taken;
}

-- ## The steps

pub calls_same : (round : RoundSeen) (run : Run) → SameFast run (with_calls round run)
unfolding with_calls
calls_same round run = record { current = refl; entries = refl; reports = refl; cold = refl; takes = refl; taken = refl }

-- a state that is pushed changes nothing of what was cold, as no entry names it yet
cold-pushed : (b : Bool) (x : FastState) (states : List FastState) (entries : List CycleEntry) → UseUpTo (length states) entries → cold_done (states ++ (if b then x ∷ [] else [])) entries ≡ cold_done states entries
cold-pushed true x states entries used = cold_done-before states x entries used
cold-pushed false x states entries used = ap (λ (xs : List FastState). cold_done xs entries) (append-nil states)

pub turn_same : (s : Session) (found : TurnFound) (e : Turn) (run : Run) → UseUpTo (length run.states) run.entries → SameFast run (with_turn s found e run)
unfolding with_turn
turn_same s found e run used =
    let c = setup_of s in
    let o = outside_of c found e in
    record {
      current = refl;
      entries = refl;
      reports = refl;
      cold = cold-pushed (is_pushed e.push) (draft_after c o run.normal e) run.states run.entries used;
      takes = twos-ones run.pipe.told (pipe_list c (pipe_cells c) (length run.pipe.put) e);
      taken = refl;
    }

-- a turn that is made or isn't
pub turned_same : (s : Session) (found : Turn → TurnFound) (o : Option Turn) (run : Run) → UseUpTo (length run.states) run.entries → SameFast run (turned s found o run)
turned_same s found None run used = record { current = refl; entries = refl; reports = refl; cold = refl; takes = refl; taken = refl }
turned_same s found (Some e) run used = turn_same s (found e) e run used

pub load_same : (e : Turn) (run : Run) → SameFast run (with_load e run)
unfolding with_load
load_same e run = record { current = refl; entries = refl; reports = refl; cold = refl; takes = refl; taken = refl }

pub loaded_same : (o : Option Turn) (run : Run) → SameFast run (loaded o run)
loaded_same None run = record { current = refl; entries = refl; reports = refl; cold = refl; takes = refl; taken = refl }
loaded_same (Some e) run = load_same e run

pub ends_same : (run : Run) → SameFast run (with_ends run)
unfolding with_ends
ends_same run = by_end run.normal.ended
  where
    by_end : (b : Bool) → SameFast run (if b then each_track (λ track t. record t { client = ends t.client }) run else run)
    by_end true = record { current = refl; entries = refl; reports = refl; cold = refl; takes = refl; taken = refl }
    by_end false = record { current = refl; entries = refl; reports = refl; cold = refl; takes = refl; taken = refl }

-- the ends meet: the end that takes learns how much the other one did
pub fast_met : (s : Session) (earlier : List Report) (run : Run) (f : FastKept) (q : QueueKept) → length f.pipe.puts ≡ length (ones run.pipe.told) → FastOf s earlier run f → FastOf s earlier (met s run) (record f { queue = q; pipe = with_meeting f.pipe })
unfolding met
fast_met s earlier run f q many fast = record {
  asked = fast.asked;
  current = fast.current;
  used = fast.used;
  report = fast.report;
  numbered = record { many = fast.numbered.many; cycle = fast.numbered.cycle };
  before = fast.before;
  first = fast.first;
  reports = fast.reports;
  cold = fast.cold;
  ended = fast.ended;
  takes =
      (λ i. fast.takes i ++ server.Learn (many i) ∷ [])
      ∙ sym (twos-met run.pipe.told (client.Learn (length (twos run.pipe.told))) (server.Learn (length (ones run.pipe.told))));
  taken = fast.taken;
}

-- ## Rounds

-- a round begins
pub fast_round : (s : Session) (earlier : List Report) (run : Run) (f : FastKept) → FastOf s earlier run f → FastOf s run.reports run (record f { before = f.told.report; reports = [] })
fast_round s earlier run f fast = record {
  asked = fast.asked;
  current = fast.current;
  used = fast.used;
  report = fast.report;
  numbered = fast.numbered;
  before = fast.report;
  first = fast.numbered.cycle ∙ sym fast.numbered.many;
  reports = sym (append-nil run.reports);
  cold = fast.cold;
  ended = fast.ended;
  takes = fast.takes;
  taken = fast.taken;
}

-- what is kept of the fast mixer before the first round
pub fast_new : (s : Session) (size cells : ℕ) → FastOf s [] (new_run s) (fast_begins (cycle_frames s) size cells)
fast_new s size cells = record {
  asked = refl;
  current = refl;
  used = refl;
  report = refl;
  numbered = record { many = refl; cycle = refl };
  before = refl;
  first = refl;
  reports = refl;
  cold = refl;
  ended = refl;
  takes = refl;
  taken = refl;
}
