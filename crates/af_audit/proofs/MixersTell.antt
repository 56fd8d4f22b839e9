-- Both mixers' turns in a round are followed: the entries before the turn, the turn, and those behind it.
use Rattle.std.specs.Prelude.{◌↔◌}
use Rattle.std.proofs.Common.{◌≡◌, ℕ, ◌+◌, ◌-◌, ◌≤◌, Bool, List, take, drop, Option, refl, sym, ap, subst, ◌∙◌, arith}
use Rattle.af_audit.proofs.Common.{AreEntriesRight, CycleEntry, FastKept, FastState, Frame, IsTrue, Playing, TrackJudge, Turn, drop-drop, drop-take, entries_leave, playing, take-take}
use Rattle.af_audit.specs.declared.run_judge.RunJudge.{RunJudge}
use Rattle.af_audit.specs.RoundTold.{MixersTold, TurnIfTold, early_of}

-- ## Parts of a log

module _ (log : List CycleEntry) (first count : ℕ) where
  -- the entries of the round
  abbrev own : List CycleEntry
  own = take count (drop first log)

  -- the first entries of the round
  pub early_part : (n : ℕ) → n ≤ count → take n (drop first log) ≡ take n own
  early_part n few = sym (take-take n count (drop first log) few)

  -- the entries of the round behind the first ones
  pub late_part : (n : ℕ) → n ≤ count → take (count - n) (drop (first + n) log) ≡ drop n own
  late_part n few =
      let all : n + (count - n) ≡ count = omega (arith, few) in
      ap (take (count - n)) (sym (drop-drop n first log)) ∙ (sym (drop-take n (count - n) (drop first log)) ∙ ap (λ (k : ℕ). drop n (take k (drop first log))) all)

-- ## Both mixers

-- entries were followed, and a bit says whether all are right
abbrev pub Entered : List FastState → List Frame → List CycleEntry → Playing → Playing → Bool → Type 0
Entered states frames entries p q right = (q ≡ entries_leave states frames entries p) × (IsTrue right ↔ AreEntriesRight states frames entries p)

pub entered_so : (states xs : List FastState) (frames fs : List Frame) (entries es : List CycleEntry) (p q : Playing) (right : Bool) → states ≡ xs → frames ≡ fs → entries ≡ es
    → q ≡ entries_leave states frames entries p → IsTrue right ↔ AreEntriesRight states frames entries p → Entered xs fs es p q right
entered_so states xs frames fs entries es p q right is_states is_frames is_entries left are =
    subst (λ (x : List CycleEntry). Entered xs fs x p q right) is_entries (subst (λ (x : List Frame). Entered xs x entries p q right) is_frames (subst (λ (x : List FastState). Entered x frames entries p q right) is_states (left, are)))

pub turned_so : (j turned : RunJudge) (tracks between : List TrackJudge) (later es : List CycleEntry) (told turn : Option Turn) (right : Bool) → later ≡ es → told ≡ turn → TurnIfTold j tracks later told right turned between → TurnIfTold j tracks es turn right turned between
turned_so j turned tracks between later es told turn right is_later is_turn h = subst (λ (o : Option Turn). TurnIfTold j tracks es o right turned between) is_turn (subst (λ (x : List CycleEntry). TurnIfTold j tracks x told right turned between) is_later h)

module _ (frames : List Frame) (entries : List CycleEntry) (turn : Option Turn) (j : RunJudge) (tracks : List TrackJudge) where
  -- the entries before the turn
  abbrev before_turn : List CycleEntry
  before_turn = take (early_of j entries) entries

  -- the entries behind the turn
  abbrev behind_turn : List CycleEntry
  behind_turn = drop (early_of j entries) entries

  pub mixers_so : (turned k : RunJudge) (between after : List TrackJudge) (normal early late fast : Bool) (f : FastKept) (ts : List TrackJudge) → Entered j.normal.states frames before_turn (playing j.fast tracks) (playing f ts) early
      → TurnIfTold (record j { fast = f }) ts behind_turn turn normal turned between → Entered turned.normal.states frames behind_turn (playing turned.fast between) (playing k.fast after) late → k ≡ record turned { fast = k.fast }
      → IsTrue fast ↔ (IsTrue early × IsTrue late) → MixersTold frames entries turn j tracks normal fast k after
  mixers_so turned k between after normal early late fast f ts first turns second kept both = record {
    turned = turned;
    between = between;
    early = playing f ts;
    early_is = first.0;
    turn_is = turns;
    late = playing k.fast after;
    late_is = second.0;
    kept = kept;
    tracks_are = refl;
    fast_is = (λ h. (let b = both.0 h in (first.1.0 b.0, second.1.0 b.1)), λ h. both.1 (first.1.1 h.0, second.1.1 h.1));
  }
