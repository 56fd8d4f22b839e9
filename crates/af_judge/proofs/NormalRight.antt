-- A turn is right if its parts are.
use Rattle.std.proofs.Common.{◌≡◌, ◌↔◌, ℕ, ◌&&◌, Bool, true, false, IsTrue, MatchBool, if◌then◌else◌, sym, subst, List, [], ◌∷◌, ◌++◌, length, arith}
use Rattle.af_judge.proofs.Common.{AllByRecursion, Heard, IsSeen, Learnt, MatchOption, NormalKept, Report, ServerEvent, ServerKept, Setup, Shape, SlotEntry, TakeSeen, TrackKept, TrackSeen, Turn, after_ack, asked, front_by_answer, heard, learnt_of, leaves_open, look_at, own_front, server_begins, server_keeps, server_kept, slice_index_or, track_at, track_in}
use Rattle.std.proofs.lemmas.List.Sums.{fold-append}
use Rattle.af_base.specs.declared.event.ServerEvent.TheVariants as server
use Rattle.af_base.specs.declared.seen.Seen.TheVariants as seen
use Rattle.af_judge.proofs.Basics.{same_track, there_is}
use Rattle.af_judge.specs.declared.track_judge.TrackJudge.{TrackJudge}
use Rattle.af_judge.specs.Blocks.{BlockJudged, listed_in}
use Rattle.af_judge.specs.NormalTold.{IsTrackAt, AllTold, LooksRight, IsRightTake, TakeRight, RightTurn, all_known, shut_told, disabled_told, track_told}
use Rattle.af_judge.specs.NormalTurns.{Begins, Serves}
use Rattle.af_judge.specs.Servers.{LooksRightly}
use Rattle.af_judge.proofs.NormalKept.{both_so}

-- ## A take is right after the other parts of the turn if it was before them

-- flags change nothing of what a list tells of its server
pub flags_same : (k : Shape) (xs : List ServerEvent) (bits : ℕ) → server_kept k (xs ++ server.SetFlags bits ∷ []) ≡ server_kept k xs
flags_same k xs bits = fold-append (server_keeps k) (server_begins k) xs (server.SetFlags bits ∷ [])

-- the look answers by what is kept and by this front
abbrev AnswersAs : Shape → ℕ → SlotEntry → ServerKept → ℕ → Type 0
AnswersAs k asked slot a front = IsSeen slot.seen × MatchOption a.shut
    (slot.seen ≡ look_at k a.flush asked slot.flush slot.rear front)
    (λ words. (slot.seen ≡ seen.Shut words.0 words.1) × (slot.flush ≡ a.flush) × (slot.rear ≡ words.1))

-- a look answers by the front by which it is to, or by some
AnswersBy : Shape → Bool → ℕ → SlotEntry → ServerKept → Type 0
AnswersBy k lawful asked slot a = MatchBool lawful
    (AnswersAs k asked slot a (if leaves_open k asked slot.seen then own_front k a else front_by_answer k slot))
    ((front : ℕ) × AnswersAs k asked slot a front)

-- a stream block whose flags were set answers as before
stream_same : (asked : ℕ) (slot : SlotEntry) (j : BlockJudged) (shut disabled : Bool) → let b = shut_told shut (disabled_told disabled j) in
    LooksRightly b.lawful asked (listed_in b) slot ↔ LooksRightly j.lawful asked (listed_in j) slot
unfolding AnswersBy
stream_same asked slot j false false = ((λ h. h), (λ h. h))
stream_same asked slot j false true = ((λ h. h), (λ h. h))
stream_same asked slot j true false = (
  (λ h. subst (AnswersBy j.shape j.lawful asked slot) (flags_same j.shape j.server 4) h),
  (λ h. subst (AnswersBy j.shape j.lawful asked slot) (sym (flags_same j.shape j.server 4)) h),
)
stream_same asked slot j true true = (
  (λ h. subst (AnswersBy j.shape j.lawful asked slot) (flags_same j.shape j.server 4) h),
  (λ h. subst (AnswersBy j.shape j.lawful asked slot) (sym (flags_same j.shape j.server 4)) h),
)

take_same : (asked : ℕ) (take : TakeSeen) (found : TrackKept) (h : Heard) (seen : TrackSeen) (t : TrackJudge) → TakeRight asked (track_told found h seen t) take ↔ TakeRight asked t take
take_same asked take found h seen t =
    let both = stream_same asked take.slot t.stream _ seen.disabled in (
      (λ r. record { looks = both.0 r.looks; frames = r.frames; place = r.place }),
      (λ r. record { looks = both.1 r.looks; frames = r.frames; place = r.place }),
    )

module _ (k : Learnt) (m : NormalKept) (e : Turn) (before after : List TrackJudge) (told : AllTold k m e before after (length before)) (many : length after ≡ length before) where
  -- the track as it was told
  now : ℕ → TrackJudge → TrackJudge
  now i t = let found = track_at (after_ack e.ack m).tracks i in track_told found (heard k i found) (track_in e i) t

  one_take : (n : ℕ) (take : TakeSeen) → IsRightTake n after take ↔ IsRightTake n before take
  unfolding now
  one_take n take = (to, from)
    where
      to : IsRightTake n after take → IsRightTake n before take
      to r =
          let t : TrackJudge = slice_index_or before take.track r.track in
          let here : IsTrackAt before take.track t = there_is before take.track r.track (let a = r.is.0 in omega (arith, a, many)) in
          let same : r.track ≡ now take.track t = same_track after take.track r.track (now take.track t) r.is (told.told take.track t here.0 here) in
          record { track = t; is = here; right = (take_same n take (track_at (after_ack e.ack m).tracks take.track) (heard k take.track (track_at (after_ack e.ack m).tracks take.track)) (track_in e take.track) t).0 (subst (λ (u : TrackJudge). TakeRight n u take) same r.right) }

      from : IsRightTake n before take → IsRightTake n after take
      from r = record { track = now take.track r.track; is = told.told take.track r.track r.is.0 r.is; right = (take_same n take (track_at (after_ack e.ack m).tracks take.track) (heard k take.track (track_at (after_ack e.ack m).tracks take.track)) (track_in e take.track) r.track).1 r.right }

  all_takes : (n : ℕ) (takes : List TakeSeen) → AllByRecursion (IsRightTake n after) takes ↔ AllByRecursion (IsRightTake n before) takes
  all_takes n [] = ((λ h. tt), (λ h. tt))
  all_takes n (t ∷ takes) = ((λ h. ((one_take n t).0 h.0, (all_takes n takes).0 h.1)), (λ h. ((one_take n t).1 h.0, (all_takes n takes).1 h.1)))

  -- ## All parts

  pub right_so : (c : Setup) (loaded : Report) (looked played follows : Bool) → k ≡ learnt_of loaded (all_known before)
      → (IsTrue looked ↔ LooksRight e before (length before)) → (IsTrue played ↔ AllByRecursion (IsRightTake (asked c) after) e.mixes) → (IsTrue follows ↔ (Begins c loaded m e × Serves c k m e))
      → IsTrue ((looked && played) && follows) ↔ RightTurn c loaded before m e
  right_so c loaded looked played follows learnt are_looks are_takes goes =
      let a = both_so looked played are_looks are_takes in
      let b = both_so (looked && played) follows a goes in
      let takes = all_takes (asked c) e.mixes in (
        (λ h. let p = b.0 h in record {
          begins = p.1.0;
          serves = subst (λ (l : Learnt). Serves c l m e) learnt p.1.1;
          looks = p.0.0;
          takes = takes.0 p.0.1;
        }),
        (λ (r : RightTurn c loaded before m e). b.1 ((r.looks, takes.1 r.takes), (r.begins, subst (λ (l : Learnt). Serves c l m e) (sym learnt) r.serves))),
      )
