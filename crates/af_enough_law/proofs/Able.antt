-- A track that has two retries isn't disabled by a legal turn, whatever its looks take.
use Rattle.std.proofs.Common.{◌≡◌, ℕ, ◌+◌, ◌-◌, ◌<◌, ◌≤◌, ◌==◌, ◌&&◌, ◌||◌, nat_lt, if◌then◌else◌, Bool, true, false, is_some, Option, MatchBool, List, [], ◌∷◌, length, refl, ap, ◌∙◌, arith}
use Rattle.af_enough_law.proofs.Common.{AllByRecursion, Case, CommandLook, GoesOn, IsServed, Known, Learnt, Life, NormalKept, Outside, Row, Setup, TrackKept, TrackSeen, Turn, after_look, after_looks, and_none, by_command, by_report, commands, either_false, ended, first_effect as effect_of, first_told, goes_on, heard, is_shut, learnt, must_wait, no_retries_left, nothing_seen, obeyed, ready, ready_life, reports, runs_dry, shows_command, told_by_report, track_at, track_in}
use Rattle.af_life.specs.Obeys.{commanded}
use Rattle.af_life.specs.Reports.{first_case_effect as life_by}
use Rattle.af_enough_law.proofs.Courses.{told_words}
use Rattle.af_enough_law.proofs.TrackTurns.{TrackTurned}
use Rattle.af_enough_law.proofs.Following.{greeted_in, greeted_alike, legal_greeted}
use Rattle.af_enough_law.proofs.Served.{track_turned}

-- ## What a report says

rows_tell : (known : Known) (l : Life) (rows : List Case) → AllByRecursion (λ (row : Case). row.tells known l ≡ false) rows → first_told rows known l ≡ false
rows_tell known l [] h = refl
rows_tell known l (row ∷ rows) h = either_false (row.applies known l) (row.tells known l) (first_told rows known l) h.0 (rows_tell known l rows h.1)

-- two retries leave one
one_left : (fresh silent : Bool) (r : ℕ) → 2 ≤ r → (silent && ((let granted = (if fresh then 50 else r) in if silent then granted - 1 else granted) == 0)) ≡ false
one_left fresh false r two = refl
one_left true true r two = refl
one_left false true r two = search (arith, two)

pub none_told : (known : Known) (l : Life) → 2 ≤ l.retries → no_retries_left known l ≡ false
none_told known l two = one_left (nat_lt 0 known.fulls || nat_lt 0 known.partials) (nat_lt 0 known.empties) l.retries two

-- a report doesn't disable a life with two retries
pub untold : (known : Known) (l : Life) → 2 ≤ l.retries → told_by_report known l ≡ false
unfolding told_by_report
untold known l two = rows_tell known l reports (refl, (refl, (refl, (refl, (refl, (refl, (refl, (none_told known l two, (refl, (refl, (refl, tt)))))))))))

-- a life with two retries doesn't run dry
pub wet_any : (known : Known) (l : Life) → 2 ≤ l.retries → runs_dry known l ≡ false
unfolding runs_dry
wet_any known l two = and_none _ _ (and_none _ _ (none_told known l two))

-- ## What the commands leave of the retries

module _ (n : ℕ) (few : n ≤ 50) where
  abbrev Has : Life → Type 0
  Has l = n ≤ l.retries

  either_has : (b : Bool) (x y : Life) → Has x → Has y → Has (if b then x else y)
  either_has true x y h g = h
  either_has false x y h g = g

  rows_keep : (rows : List Row) (code argument : ℕ) (l : Life) → AllByRecursion (λ (row : Row). (argument : ℕ) (l : Life) → Has l → Has (row.effect argument l)) rows → Has l → Has (effect_of rows code argument l)
  rows_keep [] code argument l h has = has
  rows_keep (row ∷ rows) code argument l h has = either_has _ (row.effect argument l) (effect_of rows code argument l) (h.0 argument l has) (rows_keep rows code argument l h.1 has)

  -- no command lowers the retries
  pub command_keeps : (code argument : ℕ) (l : Life) → Has l → Has (by_command code argument l)
  unfolding by_command
  command_keeps code argument l has = either_has l.ended l (effect_of commands code argument l) has (rows_keep commands code argument l
      ((λ a l h. h), ((λ a l h. few), ((λ a l h. few), ((λ a l h. h), ((λ a l h. h), ((λ a l h. h), ((λ a l h. h), ((λ a l h. h), tt)))))))) has)

  pub words_keep : (words : List ℕ) (l : Life) → Has l → Has (told_words words l)
  words_keep [] l has = has
  words_keep (code ∷ []) l has = has
  words_keep (code ∷ argument ∷ words) l has = words_keep words (by_command code argument l) (command_keeps code argument l has)

  either_kept : (b : Bool) (s t : TrackKept) → Has s.life → Has t.life → Has (if b then s else t).life
  either_kept true s t h g = h
  either_kept false s t h g = g

  look_keeps : (given : Option ℕ) (flush_seen : ℕ) (look : CommandLook) (s : TrackKept) → Has s.life → Has (after_look given flush_seen look s).life
  unfolding after_look obeyed
  look_keeps given flush_seen look s has = let now = command_keeps look.code look.argument s.life has in
      either_kept (shows_command look.seen) (obeyed given flush_seen look.code look.argument s) (if is_shut look.seen then ended s else s)
      (either_kept (must_wait flush_seen look.code look.argument s.life) _ _ now now) (either_kept (is_shut look.seen) (ended s) s has has)

  looks_keep : (given : Option ℕ) (flush_seen : ℕ) (looks : List CommandLook) (s : TrackKept) → Has s.life → Has (after_looks given flush_seen looks s).life
  looks_keep given flush_seen [] s has = has
  looks_keep given flush_seen (look ∷ looks) s has = let t : TrackKept = after_look given flush_seen look s in
      let now = look_keeps given flush_seen look s has in either_kept (goes_on look t) (after_looks given flush_seen looks t) t (looks_keep given flush_seen looks t now) now

  -- the looks of a turn lower no retries
  pub commanded_keeps : (given : Option ℕ) (flush_seen : ℕ) (looks : List CommandLook) (s : TrackKept) → Has s.life → Has (commanded given flush_seen looks s).life
  commanded_keeps given flush_seen looks s has = either_kept (is_some s.awaits) s (after_looks given flush_seen looks s) has (looks_keep given flush_seen looks s has)

-- ## The turn

able_served : (given : Option ℕ) (k : Learnt) (i : ℕ) (seen : TrackSeen) (s : TrackKept) (b : Bool) → MatchBool b (seen ≡ nothing_seen) (IsServed given (heard k i s) seen (ready k i s)) → 2 ≤ s.life.retries → seen.disabled ≡ false
able_served given k i seen s true none two = ap (λ (x : TrackSeen). x.disabled) none
able_served given k i seen s false served two =
    let same = ap (λ (l : Life). l.retries) (ready_life k i s) in
    served.disabled ∙ untold (heard k i s).known (commanded given (heard k i s).flush_seen seen.looks (ready k i s)).life
    (commanded_keeps 2 (omega arith) given (heard k i s).flush_seen seen.looks (ready k i s) (omega (arith, same, two)))

-- A legal turn doesn't disable a track that has two retries
pub able_any : (c : Setup) (o : Outside) (m : NormalKept) (e : Turn) (i : ℕ) → i < length m.tracks → e.ended ≡ false → GoesOn c o m e → 2 ≤ (track_at m.tracks i).life.retries → (track_in e i).disabled ≡ false
able_any c o m e i lt runs goes two =
    let t : TrackTurned c (learnt o) m e i = track_turned c (learnt o) m e i lt runs in
    let g : TrackKept = greeted_in m e i in
    let same = ap (λ (l : Life). l.retries) (greeted_alike e.ack m.last (track_at m.tracks i)).life in
    able_served t.given (learnt o) i (track_in e i) g g.life.ended (legal_greeted c o m e i lt goes t) (omega (arith, same, two))

-- ## A report

either_least : (n : ℕ) (b : Bool) (x y : Life) → n ≤ x.retries → n ≤ y.retries → n ≤ (if b then x else y).retries
either_least n true x y h g = h
either_least n false x y h g = g

rows_leave : (n : ℕ) (known : Known) (l : Life) (rows : List Case) → AllByRecursion (λ (row : Case). n ≤ (row.effect known l).retries) rows → n ≤ l.retries → n ≤ (life_by rows known l).retries
rows_leave n known l [] h has = has
rows_leave n known l (row ∷ rows) h has = either_least n (row.applies known l) (row.effect known l) (life_by rows known l) h.0 (rows_leave n known l rows h.1 has)

takes_one : (n r : ℕ) (fresh silent : Bool) → n + 1 ≤ r → n + 1 ≤ 50 → n ≤ (let granted = (if fresh then 50 else r) in if silent then granted - 1 else granted)
takes_one n r true true some few = omega (arith, few)
takes_one n r true false some few = omega (arith, few)
takes_one n r false true some few = omega (arith, some)
takes_one n r false false some few = omega (arith, some)

-- a report takes one at most, whatever state the life is in
pub report_leaves : (n : ℕ) (known : Known) (l : Life) → n + 1 ≤ l.retries → n + 1 ≤ 50 → n ≤ (by_report known l).retries
unfolding by_report
report_leaves n known l some few = let low : n ≤ l.retries = omega (arith, some) in
    rows_leave n known l reports (low, (low, (low, (low, (low, (low, (low, (takes_one n l.retries (nat_lt 0 known.fulls || nat_lt 0 known.partials) (nat_lt 0 known.empties) some few, (low, (low, (low, tt))))))))))) low
