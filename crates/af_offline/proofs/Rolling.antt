-- A player in one hand goes on under its setting, call by call.
use Rattle.std.proofs.Common.{◌≡◌, ℕ, ◌+◌, ◌<◌, Bool, true, nat_le, cond, if◌then◌else◌, List, [], ◌∷◌, ◌++◌, length, is_some, refl, sym, ap, subst, ◌∙◌, arith, append_assoc}
use Rattle.af_offline.proofs.Common.{Call, CallsPlay, Frame, Setting, after_calls, at_first, filled_of, is_valid, opening, outputs_of, pcm_bytes, replicate_more, shut_by, standing_in}
use Rattle.std.proofs.lemmas.Bool.Decides.{nat_tests}
use Rattle.af_static.specs.InStep.{HandState}
use Rattle.af_static.proofs.Calling.{setting_stays}
use Rattle.af_words.specs.declared.request.Turns.{Turns}
use Rattle.af_offline.specs.Looped.{calls_under, next_setting, loop_setting}
use Rattle.af_offline.proofs.Entries.{pcm_bytes-append}

-- ---- one call

module _ (hand after : HandState) where
  -- what a call leaves as it was, and the setting that it used
  pub record IsPlayed : Type 0 where
    pub frames : after.frames ≡ hand.frames
    pub newest : after.newest ≡ hand.newest
    pub used : after.used ≡ (if is_valid (length hand.frames) hand.used then hand.newest else hand.used)

  pub used_is : IsPlayed → after.used ≡ next_setting hand
  unfolding next_setting
  used_is played = played.used

  -- the setting that a call used is that of the next call
  pub next_setting-stays : IsPlayed → next_setting after ≡ next_setting hand
  unfolding next_setting
  next_setting-stays played =
      let f = played.frames in
      let n = played.newest in
      let u = played.used in
      let same : next_setting after ≡ (if is_valid (length hand.frames) (next_setting hand) then hand.newest else next_setting hand) =
      λ i. if is_valid (length (f i)) (u i) then n i else u i in
      same ∙ setting_stays (length hand.frames) hand.newest hand.used (is_valid (length hand.frames) hand.used) refl

-- ---- calls

module _ (first : HandState) (places : ℕ) (kept : List ℕ) where
  -- so many calls of one setting, from the first hand on
  abbrev so_far : ℕ → List Call
  so_far i = calls_under first.newest places i

  -- after so many calls: what they played and took, and what the next one goes on from
  pub record IsOn (hand : HandState) (now : List ℕ) (i filled : ℕ) (is_shut : Bool) : Type 0 where
    pub same_frames : hand.frames ≡ first.frames
    pub same_newest : hand.newest ≡ first.newest
    pub same_setting : next_setting hand ≡ next_setting first
    pub all_bytes : now ≡ kept ++ pcm_bytes (outputs_of first.frames (standing_in first) (calls_under first.newest places i))
    pub all_filled : filled ≡ filled_of first.frames (standing_in first) (calls_under first.newest places i)
    pub standing : standing_in hand ≡ after_calls (length first.frames) (standing_in first) (calls_under first.newest places i)
    pub shuts : 0 < i → is_shut ≡ is_some (shut_by (length first.frames) (next_setting first))

  -- one call more
  pub on_again : (hand after : HandState) (had now : List ℕ) (out : List Frame) (i filled more : ℕ) (was is : Bool) → IsOn hand had i filled was
      → after.frames ≡ hand.frames → after.newest ≡ hand.newest → next_setting after ≡ next_setting hand
      → now ≡ had ++ pcm_bytes out
      → ((calls : List Call) (played : List Frame) (count : ℕ) → CallsPlay hand.frames (standing_in first) calls played count (standing_in hand) → CallsPlay hand.frames (standing_in first) (calls ++ (record { setting = hand.newest; gains = (4096, 4096); places = places }) ∷ []) (played ++ out) (count + more) (standing_in after))
      → is ≡ is_some (shut_by (length hand.frames) (next_setting hand))
      → IsOn after now (i + 1) (filled + more) is
  on_again hand after had now out i filled more was is on frames_stay newest_stays setting_on added goes_on shuts_now =
      let f = on.same_frames in
      let n = on.same_newest in
      let s = on.same_setting in
      let played : List Frame = outputs_of first.frames (standing_in first) (so_far i) in
      let next =
      subst (λ (x : List Frame × Setting). (calls : List Call) (played : List Frame) (count : ℕ) → CallsPlay x.0 (standing_in first) calls played count (standing_in hand) → CallsPlay x.0 (standing_in first) (calls ++ (record { setting = x.1; gains = (4096, 4096); places = places }) ∷ []) (played ++ out) (count + more) (standing_in after))
      (λ j. (f j, n j)) goes_on (so_far i) played filled (record { outputs = refl; filled = on.all_filled; standing = on.standing }) in
      let call : Call = record { setting = first.newest; gains = (4096, 4096); places = places } in
      let one_more = replicate_more i call in
      record {
        same_frames = frames_stay ∙ f;
        same_newest = newest_stays ∙ n;
        same_setting = setting_on ∙ s;
        all_bytes = added
            ∙ ap (λ (bytes : List ℕ). bytes ++ pcm_bytes out) on.all_bytes
            ∙ append_assoc kept (pcm_bytes played) (pcm_bytes out)
            ∙ ap (λ (bytes : List ℕ). kept ++ bytes) (sym (pcm_bytes-append played out))
            ∙ ap (λ (frames : List Frame). kept ++ pcm_bytes frames) (next.outputs ∙ ap (outputs_of first.frames (standing_in first)) one_more);
        all_filled = next.filled ∙ ap (filled_of first.frames (standing_in first)) one_more;
        standing = next.standing ∙ ap (after_calls (length first.frames) (standing_in first)) one_more;
        shuts = λ some. shuts_now ∙ (λ j. is_some (shut_by (length (f j)) (s j)));
      }

-- ---- before the first call

-- a hand in which one setting was made, and nothing played
abbrev pub hand_set : Turns → List Frame → HandState
hand_set turns frames = record { frames = frames; made = 1; newest = loop_setting turns; used = opening; head = at_first }

set_setting_as : (turns : Turns) (frames : List Frame) → next_setting (hand_set turns frames) ≡ loop_setting turns
unfolding next_setting
set_setting_as turns frames =
    let any : nat_le 0 (length frames) ≡ true = grind (arith, nat_tests) in
    ap (λ (b : Bool). cond b (loop_setting turns) opening) any

pub set_setting : (turns : Turns) (frames : List Frame) (hand : HandState) → hand ≡ hand_set turns frames → next_setting hand ≡ loop_setting turns
set_setting turns frames hand is = ap next_setting is ∙ set_setting_as turns frames
