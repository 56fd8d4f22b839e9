-- What some entries leave, and when they are right, with one entry more.
use Rattle.std.proofs.Common.{◌≡◌, ◌↔◌, ℕ, ◌+◌, ◌<◌, Bool, ◌∙◌, List, [], ◌∷◌, ◌++◌, get_or, length, take, sym, subst}
use Rattle.af_judge.proofs.Common.{CycleEntry, FastState, Frame, IsTrue, fold_more, no_entry, take_more}
use Rattle.af_judge.specs.declared.track_judge.TrackJudge.{TrackJudge}
use Rattle.af_judge.specs.EntriesTold.{AreEntriesRight, IsRightAfter, Playing, entries_leave, entry_leaves, playing}
use Rattle.af_judge.specs.FastKept.{FastKept, IsEntryRight, entry_told, entry_tracks}

module _ (states : List FastState) (frames : List Frame) where
  right-push : (entries : List CycleEntry) (entry : CycleEntry) (p : Playing) → AreEntriesRight states frames (entries ++ entry ∷ []) p ↔ (AreEntriesRight states frames entries p × IsRightAfter states frames entry (entries_leave states frames entries p))
  right-push [] entry p = ((λ h. (tt, h.0)), (λ h. (h.1, tt)))
  right-push (x ∷ entries) entry p =
      let rest = right-push entries entry (entry_leaves states frames x p) in
      ((λ h. let r = rest.0 h.1 in ((h.0, r.0), r.1)), (λ h. (h.0.0, rest.1 (h.0.1, h.1))))

  -- what some entries and one more leave
  pub leave_more : (entries : List CycleEntry) (at : ℕ) (d : CycleEntry) (p : Playing) → at < length entries → entries_leave states frames (take (at + 1) entries) p ≡ entry_leaves states frames (get_or entries at d) (entries_leave states frames (take at entries) p)
  leave_more entries at d p low = fold_more (λ q e. entry_leaves states frames e q) p entries at d low

  -- some entries and one more are right if the first ones are, and the other one is after them
  pub right_more : (entries : List CycleEntry) (at : ℕ) (d : CycleEntry) (p : Playing) → at < length entries
      → AreEntriesRight states frames (take (at + 1) entries) p ↔ (AreEntriesRight states frames (take at entries) p × IsRightAfter states frames (get_or entries at d) (entries_leave states frames (take at entries) p))
  right_more entries at d p low =
      subst (λ (es : List CycleEntry). AreEntriesRight states frames es p ↔ (AreEntriesRight states frames (take at entries) p × IsRightAfter states frames (get_or entries at d) (entries_leave states frames (take at entries) p)))
      (sym (take_more entries at d low)) (right-push (take at entries) (get_or entries at d) p)

  -- ## A step of a loop over them

  pub leaves_so : (entry : CycleEntry) (f g : FastKept) (tracks after : List TrackJudge) → g ≡ entry_told states frames entry tracks f → after ≡ entry_tracks states frames entry f tracks → playing g after ≡ entry_leaves states frames entry (playing f tracks)
  unfolding entry_leaves
  leaves_so entry f g tracks after fast are = λ i. record { fast = fast i; tracks = are i }

  pub right_so : (entry : CycleEntry) (f : FastKept) (tracks : List TrackJudge) (legal : Bool) → IsTrue legal ↔ IsEntryRight states frames entry f tracks → IsTrue legal ↔ IsRightAfter states frames entry (playing f tracks)
  unfolding IsRightAfter
  right_so entry f tracks legal h = h

  module _ (entries : List CycleEntry) (at : ℕ) (entry : CycleEntry) (before now : Playing) (low : at < length entries) (is : entry ≡ get_or entries at no_entry) (told : now ≡ entries_leave states frames (take at entries) before) where
    pub step_told : (after : Playing) → after ≡ entry_leaves states frames entry now → after ≡ entries_leave states frames (take (at + 1) entries) before
    step_told after step = step ∙ ((λ i. entry_leaves states frames (is i) (told i)) ∙ sym (leave_more entries at no_entry before low))

    pub step_right : (right legal all : Bool) → IsTrue all ↔ (IsTrue right × IsTrue legal) → IsTrue right ↔ AreEntriesRight states frames (take at entries) before → IsTrue legal ↔ IsRightAfter states frames entry now
        → IsTrue all ↔ AreEntriesRight states frames (take (at + 1) entries) before
    step_right right legal all both sofar here =
        let more = right_more entries at no_entry before low in
        let one = subst (λ (x : CycleEntry × Playing). IsTrue legal ↔ IsRightAfter states frames x.0 x.1) (λ i. (is i, told i)) here in (
          (λ h. let b = both.0 h in more.1 (sofar.0 b.0, one.0 b.1)),
          (λ h. let m = more.0 h in both.1 (sofar.1 m.0, one.1 m.1)),
        )
