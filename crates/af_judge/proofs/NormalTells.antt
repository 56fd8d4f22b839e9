-- What a turn did for one track more is noted in it.
use Rattle.std.proofs.Common.{◌≡◌, ◌↔◌, ℕ, ◌+◌, ◌<◌, ◌&&◌, Bool, true, false, IsTrue, nat_lt, if◌then◌else◌, refl, sym, ap, ◌∙◌, subst, List, length, arith}
use Rattle.af_judge.proofs.Common.{Heard, Learnt, NormalKept, TrackKept, TrackSeen, Turn, after_ack, get_or-set_at, get_or-set_other, heard, length-set, nat_tests, new_track, slice_index_or, slice_set, track_at, track_in, welcomed}
use Rattle.std.proofs.lemmas.List as lists
use Rattle.af_judge.proofs.Basics.{same_track, there_is}
use Rattle.af_judge.specs.declared.track_judge.TrackJudge.{TrackJudge}
use Rattle.af_judge.specs.Blocks.{listed_in}
use Rattle.af_judge.specs.NormalLooks.{AllAnswer}
use Rattle.af_judge.specs.NormalTold.{IsTrackAt, AllTold, LooksRight, track_told}
use Rattle.af_judge.proofs.NormalKept.{acked_is, both_so}

-- ## The track of a number

pub set_here : (ts : List TrackJudge) (i : ℕ) (u : TrackJudge) → i < length ts → IsTrackAt (slice_set ts i u) i u
set_here ts i u lt = ((let l = length-set ts i u in omega (arith, l, lt)), sym (get_or-set_at ts i i u u refl lt))

pub set_elsewhere : (ts : List TrackJudge) (i n : ℕ) (u t : TrackJudge) → (n ≡ i → ⊥) → IsTrackAt ts n t → IsTrackAt (slice_set ts i u) n t
set_elsewhere ts i n u t other at = ((let l = length-set ts i u in let b = at.0 in omega (arith, l, b)), at.1 ∙ sym (get_or-set_other ts i n u t other))

-- ## What a turn finds

pub found_is : (ack : Bool) (m : NormalKept) (i : ℕ) → i < length m.tracks → track_at (after_ack ack m).tracks i ≡ (if ack then welcomed m.last (track_at m.tracks i) else track_at m.tracks i)
found_is ack m i lt = ap (λ (ts : List TrackKept). track_at ts i) (sym (acked_is ack m)) ∙ lists.get_or-map (λ (t : TrackKept). if ack then welcomed m.last t else t) m.tracks i new_track new_track lt

-- ## One track more

less_or : (P : Type 0) (n i : ℕ) → n < i + 1 → (n < i → P) → (n ≡ i → P) → P
less_or P n i lt below same = by_case (nat_lt n i) refl
  where
    by_case : (b : Bool) → nat_lt n i ≡ b → P
    by_case true e = below (grind (arith, nat_tests, e))
    by_case false e = same (grind (arith, nat_tests, e, lt))

module _ (k : Learnt) (m : NormalKept) (e : Turn) (before now : List TrackJudge) (i : ℕ) (t : TrackJudge) (so_far : AllTold k m e before now i) (lt : i < length before) (at : IsTrackAt now i t) where
  -- the track of the next number is as it was
  pub as_before : IsTrackAt before i t
  as_before = let u : TrackJudge = slice_index_or before i t in
      subst (IsTrackAt before i) (same_track now i u t (so_far.others i u (omega arith) (there_is before i t lt)) at) (there_is before i t lt)

  pub one_told : (u : TrackJudge) (found : TrackKept) (h : Heard) (seen : TrackSeen) → found ≡ track_at (after_ack e.ack m).tracks i → h ≡ heard k i found → seen ≡ track_in e i → u ≡ track_told found h seen t → AllTold k m e before (slice_set now i u) (i + 1)
  one_told u found h seen is_found is_heard is_seen is = record {
    told = λ n x below here. less_or _ n i below
        (λ less. set_elsewhere now i n u _ (λ same. absurd (omega (arith, less, same))) (so_far.told n x less here))
        (λ same. subst (λ (j : ℕ). (y : TrackJudge) → IsTrackAt before j y → IsTrackAt (slice_set now i u) j (let f = track_at (after_ack e.ack m).tracks j in track_told f (heard k j f) (track_in e j) y)) (sym same) here_told x here);
    others = λ n x above here. set_elsewhere now i n u x (λ same. absurd (omega (arith, above, same))) (so_far.others n x (omega (arith, above)) here);
  }
    where
      told_is : u ≡ (let f = track_at (after_ack e.ack m).tracks i in track_told f (heard k i f) (track_in e i) t)
      told_is = is ∙ ap (λ (s : TrackSeen). track_told found h s t) is_seen ∙ ap (λ (x : Heard). track_told found x (track_in e i) t) is_heard
          ∙ ap (λ (f : TrackKept). track_told f (heard k i f) (track_in e i) t) is_found

      here_told : (y : TrackJudge) → IsTrackAt before i y → IsTrackAt (slice_set now i u) i (let f = track_at (after_ack e.ack m).tracks i in track_told f (heard k i f) (track_in e i) y)
      here_told y here = subst (IsTrackAt (slice_set now i u) i) (told_is ∙ ap (λ (x : TrackJudge). let f = track_at (after_ack e.ack m).tracks i in track_told f (heard k i f) (track_in e i) x) (same_track before i t y as_before here))
          (set_here now i u at.0)

  pub one_right : (r y : Bool) (seen : TrackSeen) → seen ≡ track_in e i → (IsTrue r ↔ LooksRight e before i) → (IsTrue y ↔ AllAnswer t.commands.lawful (listed_in t.commands) seen.looks) → IsTrue (r && y) ↔ LooksRight e before (i + 1)
  one_right r y seen is all here =
      let both = both_so r y all here in (
        (λ h. let parts = both.0 h in λ n x below there. less_or _ n i below (λ less. parts.0 n x less there)
            (λ same. subst (λ (j : ℕ). IsTrackAt before j x → AllAnswer x.commands.lawful (listed_in x.commands) (track_in e j).looks) (sym same)
            (λ at_i. subst (λ (z : TrackJudge). AllAnswer z.commands.lawful (listed_in z.commands) (track_in e i).looks) (same_track before i t x as_before at_i)
            (subst (λ (s : TrackSeen). AllAnswer t.commands.lawful (listed_in t.commands) s.looks) is parts.1)) there)),
        (λ all. both.1 ((λ n x less there. all n x (omega (arith, less)) there), subst (λ (s : TrackSeen). AllAnswer t.commands.lawful (listed_in t.commands) s.looks) (sym is) (all i t (omega arith) as_before))),
      )
