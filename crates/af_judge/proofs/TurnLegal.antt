-- A turn is right by the tracks that a judge keeps exactly if it is legal by what it found in the run.
use Rattle.std.proofs.Common.{◌≡◌, ◌↔◌, ℕ, zero, suc, ◌^◌, ◌<◌, ◌≤◌, Bool, true, false, true≢false, MatchBool, nat_lt, refl, sym, ap, ◌∙◌, subst, List, [], ◌∷◌, length, inl, inr, arith}
use Rattle.af_judge.proofs.Common.{AllByRecursion, Heard, IsOpenTurn, IsTake, IsTurn, Learnt, LegalTurnBy, Listed, Marks, NormalKept, Setup, TakeSeen, TracksRise, Turn, TurnFound, asked, ended_turn, ends_now, get_or-eq_default, known_by, learnt_of, length-map, listed, nat_tests, nothing_heard, recursion_from_All, slice_index_or, track_in}
use Rattle.std.proofs.lemmas.List as lists
use Rattle.std.proofs.Math.Path.{fun_ext}
use Rattle.af_judge.specs.declared.track_judge.TrackJudge.{TrackJudge}
use Rattle.af_judge.specs.Blocks.{listed_in}
use Rattle.af_judge.specs.NormalLooks.{AllAnswer}
use Rattle.af_judge.specs.NormalTold.{IsTrackAt, LooksRight, IsRightTake, IsRight, RightTurn, all_known}
use Rattle.af_judge.proofs.Words.{Finds}
use Rattle.af_judge.specs.NormalTurns.{Serves}
use Rattle.af_judge.proofs.Words.{TakeAnswers, TurnAnswers, learnt_by}
use Rattle.af_judge.specs.Servers.{LooksRightly}
use Rattle.af_judge.proofs.TurnExactly.{blocks_of, turn_exactly}

-- the track of a number, if there is one
pub record Element (tracks : List TrackJudge) (i : ℕ) : Type 0 where
  pub track : TrackJudge
  pub at : IsTrackAt tracks i track

pub element : (tracks : List TrackJudge) (i : ℕ) → i < length tracks → Element tracks i
element [] i lt = absurd (omega (arith, lt))
element (t ∷ tracks) zero lt = record { track = t; at = (lt, refl) }
element (t ∷ tracks) (suc i) lt = let rest = element tracks i (omega (arith, lt)) in record { track = rest.track; at = (lt, rest.at.1) }

module _ (c : Setup) (marks : Marks) (f : TurnFound) (tracks : List TrackJudge) (m : NormalKept) (e : Turn) (finds : Finds marks f tracks) (many : length tracks ≡ length m.tracks) where
  -- what is learnt is the same
  own_same : (i : ℕ) → known_by (listed (f.streams i)) ≡ slice_index_or (all_known tracks) i nothing_heard
  own_same i = by_case (nat_lt i (length tracks)) refl
    where
      by_case : (b : Bool) → nat_lt i (length tracks) ≡ b → known_by (listed (f.streams i)) ≡ slice_index_or (all_known tracks) i nothing_heard
      by_case true lt =
          let x = element tracks i (grind (arith, nat_tests, lt)) in
          ap known_by (finds.streams i x.track x.at)
          ∙ ap (λ (t : TrackJudge). known_by (listed_in t.stream)) x.at.1
          ∙ sym (lists.get_or-map (λ (t : TrackJudge). known_by (listed_in t.stream)) tracks i x.track nothing_heard x.at.0)
      by_case false ge =
          let out : length tracks ≤ i = grind (arith, nat_tests, ge) in
          let l = length-map tracks (λ (t : TrackJudge). known_by (listed_in t.stream)) in
          finds.beyond i out ∙ sym (get_or-eq_default (all_known tracks) nothing_heard (omega (arith, out, l)))

  pub learnt_same : learnt_by f.report (blocks_of marks f) ≡ learnt_of f.report (all_known tracks)
  learnt_same = ap (λ (own : ℕ → Heard). record { report = f.report; own = own }) (fun_ext own_same)

  -- ## The looks

  looks_to : LooksRight e tracks (length tracks) → (i : ℕ) → i < length m.tracks → AllAnswer (marks.commands i) (listed (f.commands i)) (track_in e i).looks
  looks_to h i lt =
      let x = element tracks i (omega (arith, lt, many)) in
      subst (λ (b : Bool). AllAnswer b (listed (f.commands i)) (track_in e i).looks) (sym (finds.lawful_commands i x.track x.at))
      (subst (λ (s : Listed). AllAnswer x.track.commands.lawful s (track_in e i).looks) (sym (finds.commands i x.track x.at)) (h i x.track x.at.0 x.at))

  looks_from : ((i : ℕ) → i < length m.tracks → AllAnswer (marks.commands i) (listed (f.commands i)) (track_in e i).looks) → LooksRight e tracks (length tracks)
  looks_from h i t lt at =
      subst (λ (s : Listed). AllAnswer t.commands.lawful s (track_in e i).looks) (finds.commands i t at)
      (subst (λ (b : Bool). AllAnswer b (listed (f.commands i)) (track_in e i).looks) (finds.lawful_commands i t at) (h i (omega (arith, lt, many))))

  -- ## The takes

  Looks : Bool → Listed → TakeSeen → Type 0
  Looks lawful s take = LooksRightly lawful (asked c) s take.slot

  take_to : (take : TakeSeen) → IsRightTake (asked c) tracks take → TakeAnswers c (blocks_of marks f) take
  unfolding Looks
  take_to take r = record {
    looks = subst (λ (b : Bool). Looks b (listed (f.streams take.track)) take) (sym (finds.lawful_streams take.track r.track r.is))
        (subst (λ (s : Listed). Looks r.track.stream.lawful s take) (sym (finds.streams take.track r.track r.is)) r.right.looks);
    frames = r.right.frames;
    place = r.right.place;
  }

  take_from : (take : TakeSeen) → take.track < length tracks → TakeAnswers c (blocks_of marks f) take → IsRightTake (asked c) tracks take
  unfolding Looks
  take_from take lt a =
      let x = element tracks take.track lt in record {
        track = x.track;
        is = x.at;
        right = record {
          looks = subst (λ (s : Listed). Looks x.track.stream.lawful s take) (finds.streams take.track x.track x.at)
              (subst (λ (b : Bool). Looks b (listed (f.streams take.track)) take) (finds.lawful_streams take.track x.track x.at) a.looks);
          frames = a.frames;
          place = a.place;
        };
      }

  takes_to : (takes : List TakeSeen) → AllByRecursion (IsRightTake (asked c) tracks) takes → AllByRecursion (TakeAnswers c (blocks_of marks f)) takes
  takes_to [] h = tt
  takes_to (t ∷ takes) h = (take_to t h.0, takes_to takes h.1)

  takes_from_all : (takes : List TakeSeen) → AllByRecursion (IsTake (length tracks)) takes → AllByRecursion (TakeAnswers c (blocks_of marks f)) takes → AllByRecursion (IsRightTake (asked c) tracks) takes
  takes_from_all [] are h = tt
  takes_from_all (t ∷ takes) are h = (take_from t are.0.track h.0, takes_from_all takes are.1 h.1)

  -- ## The turn

  answers : IsOpenTurn (length tracks) e → RightTurn c f.report tracks m e ↔ TurnAnswers c f.report (blocks_of marks f) m e
  answers form = (
    (λ r. record {
      begins = r.begins;
      serves = subst (λ (k : Learnt). Serves c k m e) (sym learnt_same) r.serves;
      looks = looks_to r.looks;
      takes = takes_to e.mixes r.takes;
    }),
    (λ (a : TurnAnswers c f.report (blocks_of marks f) m e). record {
      begins = a.begins;
      serves = subst (λ (k : Learnt). Serves c k m e) learnt_same a.serves;
      looks = looks_from a.looks;
      takes = takes_from_all e.mixes (recursion_from_All (IsTake (length tracks)) e.mixes form.takes) a.takes;
    }),
  )

  pub rises : IsTurn (length tracks) e → TracksRise 0 e.mixes
  rises (inl is) = subst (λ (x : Turn). TracksRise 0 x.mixes) (sym is) tt
  rises (inr form) = form.rise

  pub opens : IsTurn (length tracks) e → e.ended ≡ false → IsOpenTurn (length tracks) e
  opens (inl is) open_is = absurd (true≢false (sym (ap (λ (x : Turn). x.ended) is) ∙ open_is))
  opens (inr form) open_is = form

  pub right_legal : IsTurn (length tracks) e → ((i : ℕ) → (f.streams i).shape.wrap ≤ 2 ^ 31) → ((i : ℕ) → (f.commands i).shape.wrap ≤ 2 ^ 31) → IsRight c f.report tracks m e ↔ LegalTurnBy c marks f m e
  right_legal form stream_wraps command_wraps =
      let exact = turn_exactly c marks f m e stream_wraps command_wraps (rises form) in
      let same = by_end e.ended refl in
      ((λ h. exact.0 (same.0 h)), (λ l. same.1 (exact.1 l)))
    where
      by_end : (b : Bool) → e.ended ≡ b → MatchBool b ((ends_now m e.ack ≡ true) × (e ≡ ended_turn)) (RightTurn c f.report tracks m e) ↔ MatchBool b ((ends_now m e.ack ≡ true) × (e ≡ ended_turn)) (TurnAnswers c f.report (blocks_of marks f) m e)
      by_end true ended = ((λ h. h), (λ h. h))
      by_end false open_is = answers (opens form open_is)
