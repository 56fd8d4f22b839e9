-- Orders of two lists that were cut at a meeting go on to the next one, and are cut there.
use Rattle.std.proofs.Common.{◌≡◌, ◌↔◌, ℕ, ◌+◌, List, [], ◌∷◌, ◌++◌, length, refl, sym, ap, ◌∙◌, subst, append_assoc}
use Rattle.af_judge.proofs.Common.{Event, HasOrder, Legal, point_after, one, ones_append, two}
use Rattle.af_judge.specs.SharedTold.{IsCutAt}
use Rattle.af_judge.proofs.Meetings.{IsCut, IsMeeting, cut_at, joined_at, legal_both, twos_both}

module _ {P A B : Type 0} (legal : P → Event A B → Type 0) (next : P → Event A B → P) where
  after_both : (p : P) (es fs : List (Event A B)) → point_after legal next p (es ++ fs) ≡ point_after legal next (point_after legal next p es) fs
  after_both p [] fs = refl
  after_both p (e ∷ es) fs = after_both (next p e) es fs

  -- nothing is cut before the first event
  pub cut_begins : (p : P) → IsCutAt legal next p p [] []
  cut_begins p = record { order = record { order = []; is_legal = tt; of_one = refl; of_two = refl }; leaves = refl; goes_on = λ later looks h. h }

  -- an order goes on from where it was cut
  join_cut : (from point : P) (xs later : List A) (ys looks : List B) → IsCutAt legal next from point xs ys → HasOrder legal next point later looks → HasOrder legal next from (xs ++ later) (ys ++ looks)
  join_cut from point xs later ys looks c h = record {
    order = c.order.order ++ h.order;
    is_legal = legal_both legal next from c.order.order h.order c.order.is_legal (subst (λ p. Legal legal next p h.order) (sym c.leaves) h.is_legal);
    of_one = ones_append c.order.order h.order ∙ (λ j. c.order.of_one j ++ h.of_one j);
    of_two = twos_both legal next c.order.order h.order ∙ (λ j. c.order.of_two j ++ h.of_two j);
  }

  -- the order of both lists goes on to the next meeting and is cut there
  module _ (firsts seconds : P → ℕ) (a : A) (b : B) (known_first known_second : ℕ) (m : IsMeeting legal next firsts seconds a b known_first known_second)
      (from point : P) (xs later : List A) (ys looks : List B) (c : IsCutAt legal next from point xs ys) (first_known : firsts point + length later ≡ known_first) (second_known : seconds point + length looks ≡ known_second) where
    abbrev Cut : P → List A → List B → List A → List B → Type 0
    Cut p ws zs vs us = IsCut legal next firsts seconds a b known_first known_second m p ws zs vs us

    cut_there : (more : List A) (also : List B) → HasOrder legal next point (later ++ a ∷ more) (looks ++ b ∷ also) → Cut point later looks more also
    cut_there more also h = cut_at legal next firsts seconds a b known_first known_second m point h.order later looks more also first_known second_known h.is_legal h.of_one h.of_two

    -- the meeting is legal after each order of what came before it
    abbrev May : Type 0
    May = (h : HasOrder legal next point later looks) → legal (point_after legal next point h.order) (one a) × legal (next (point_after legal next point h.order) (one a)) (two b)

    with_meeting : May → HasOrder legal next point later looks → HasOrder legal next from (xs ++ (later ++ a ∷ [])) (ys ++ (looks ++ b ∷ []))
    with_meeting may h =
        let cut : Cut point later looks [] [] = record { before = h; may_a = (may h).0; may_b = (may h).1; behind = record { order = []; is_legal = tt; of_one = refl; of_two = refl } } in
        join_cut from point xs (later ++ a ∷ []) ys (looks ++ b ∷ []) c (joined_at legal next firsts seconds a b known_first known_second m point later looks [] [] cut)

    -- the lists with the meeting have an order exactly if those before it go on
    pub meeting_exact : May → HasOrder legal next point later looks ↔ HasOrder legal next from (xs ++ (later ++ a ∷ [])) (ys ++ (looks ++ b ∷ []))
    meeting_exact may = (with_meeting may, λ h. (cut_there [] [] (c.goes_on (later ++ a ∷ []) (looks ++ b ∷ []) h)).before)

    -- the lists are cut at the meeting, if each order before it leaves the same point
    pub cut_meets : May → (left : P) → ((h : HasOrder legal next point later looks) → point_after legal next point h.order ≡ left) → HasOrder legal next point later looks
        → IsCutAt legal next from (next (next left (one a)) (two b)) (xs ++ (later ++ a ∷ [])) (ys ++ (looks ++ b ∷ []))
    unfolding with_meeting join_cut joined_at
    cut_meets may left same h = record {
      order = with_meeting may h;
      leaves =
          after_both from c.order.order (h.order ++ one a ∷ two b ∷ [])
          ∙ (ap (λ p. point_after legal next p (h.order ++ one a ∷ two b ∷ [])) c.leaves
          ∙ (after_both point h.order (one a ∷ two b ∷ []) ∙ ap (λ p. next (next p (one a)) (two b)) (same h)));
      goes_on = λ more also g.
          (let all : HasOrder legal next from (xs ++ (later ++ a ∷ more)) (ys ++ (looks ++ b ∷ also)) = subst (λ (l : List A × List B). HasOrder legal next from l.0 l.1)
          (λ j. ((append_assoc xs (later ++ a ∷ []) more ∙ ap (λ l. xs ++ l) (append_assoc later (a ∷ []) more)) j, (append_assoc ys (looks ++ b ∷ []) also ∙ ap (λ l. ys ++ l) (append_assoc looks (b ∷ []) also)) j)) g in
          let cut = cut_there more also (c.goes_on (later ++ a ∷ more) (looks ++ b ∷ also) all) in
          subst (λ p. HasOrder legal next (next (next p (one a)) (two b)) more also) (same cut.before) cut.behind);
    }
