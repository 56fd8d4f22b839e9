-- One look more at a command block, as a judge notes it.
use Rattle.std.proofs.Common.{◌≡◌, ◌↔◌, ℕ, ◌+◌, ◌<◌, ◌&&◌, Bool, IsTrue, refl, sym, ap, ◌∙◌, subst, List, [], ◌∷◌, ◌++◌, length, take, get_or}
use Rattle.af_judge.proofs.Common.{CommandLook, HasWords, as_slot, take_more}
use Rattle.af_judge.specs.Blocks.{BlockJudged, commanded_told, listed_in}
use Rattle.af_judge.specs.NormalLooks.{AllAnswer}
use Rattle.af_judge.specs.NormalTold.{looks_told}
use Rattle.af_judge.specs.Servers.{LooksRightly}
use Rattle.af_judge.proofs.NormalKept.{both_so}

-- a look answers
abbrev Answers : BlockJudged → CommandLook → Type 0
Answers j look = LooksRightly j.lawful 2 (listed_in j) (as_slot look) × HasWords look

last_told : (looks : List CommandLook) (look : CommandLook) (j : BlockJudged) → looks_told (looks ++ look ∷ []) j ≡ commanded_told look (looks_told looks j)
last_told [] look j = refl
last_told (l ∷ looks) look j = last_told looks look (commanded_told l j)

last_answers : (looks : List CommandLook) (look : CommandLook) (j : BlockJudged) → AllAnswer j.lawful (listed_in j) (looks ++ look ∷ []) ↔ (AllAnswer j.lawful (listed_in j) looks × Answers (looks_told looks j) look)
last_answers [] look j = ((λ h. (tt, h.0)), (λ h. (h.1, tt)))
last_answers (l ∷ looks) look j =
    let rest = last_answers looks look (commanded_told l j) in
    ((λ h. let r = rest.0 h.1 in ((h.0, r.0), r.1)), (λ h. (h.0.0, rest.1 (h.0.1, h.1))))

module _ (j now : BlockJudged) (looks : List CommandLook) (i : ℕ) (none : CommandLook) (there : i < length looks) (told : now ≡ looks_told (take i looks) j) where
  pub looked_on : (next : BlockJudged) → next ≡ commanded_told (get_or looks i none) now → next ≡ looks_told (take (i + 1) looks) j
  looked_on next is = is ∙ ap (commanded_told (get_or looks i none)) told ∙ sym (ap (λ (xs : List CommandLook). looks_told xs j) (take_more looks i none there) ∙ last_told (take i looks) (get_or looks i none) j)

  pub right_on : (r y : Bool) → (IsTrue r ↔ AllAnswer j.lawful (listed_in j) (take i looks)) → (IsTrue y ↔ Answers now (get_or looks i none)) → IsTrue (r && y) ↔ AllAnswer j.lawful (listed_in j) (take (i + 1) looks)
  right_on r y before here =
      let both = both_so r y before (subst (λ (x : BlockJudged). IsTrue y ↔ Answers x (get_or looks i none)) told here) in
      let last = last_answers (take i looks) (get_or looks i none) j in
      subst (λ (xs : List CommandLook). IsTrue (r && y) ↔ AllAnswer j.lawful (listed_in j) xs) (sym (take_more looks i none there))
      ((λ h. last.1 (both.0 h)), (λ h. both.1 (last.0 h)))
