-- The states that a normal mixer of a run pushed fit, whatever it did.
use Rattle.std.proofs.Common.{◌≡◌, ℕ, zero, suc, ◌+◌, ◌<◌, ◌≤◌, false, if◌then◌else◌, sym, refl, ap, subst, ◌∙◌, inl, inr, List, [], ◌∷◌, ◌++◌, length, All, append-nil, ⊎_elim, Option, Some, unwrap_or, arith}
use Rattle.af_judge.proofs.Common.{Busy, Clean, FastState, IsState, IsTurn, Learnt, NormalKept, Push, Pushed, Session, Setting, Setup, Turn, after_edits, after_push, after_takes, asked, carries, cases_eq, cases_lt, cycle_frames, initial, is_pushed, length-append, length-map, length-replicate, new_normal, new_track, no, same_before, setup_of, slot_of, spec_setting, state_at, state_of, takes_len, track_count, turn_after, turn_len}
use Rattle.af_judge.specs.Entries.{CarriesApart, CarriesWithin}
use Rattle.af_judge.specs.QueueTold.{Follow}
use Rattle.af_judge.specs.StatesKept.{Carried, SameSlots, StatesKept}
use Rattle.af_judge.proofs.Carried.{carried_after_edits, carried_new, carried_turn, carries_apart, carries_within, draft_stays}
use Rattle.af_life.proofs.DraftBits.{initial_none, initial_state}
use Rattle.af_judge.proofs.NormalKept.{goes_on_so, rests_so}
use Rattle.af_judge.proofs.StatesAt.{state_outside}
use Rattle.af_judge.proofs.TurnEdits.{turn_changes}

-- ## One state more

-- the new state has the next number
last_there : (xs : List FastState) (x : FastState) → state_of (xs ++ x ∷ []) (suc (length xs)) ≡ Some x
last_there [] x = refl
last_there (y ∷ xs) x = last_there xs x

module _ (frames : ℕ) (xs : List FastState) (x : FastState) where
  pub at_before : (k : ℕ) → k ≤ length xs → state_at frames (xs ++ x ∷ []) k ≡ state_at frames xs k
  at_before k le = ap (λ (o : Option FastState). unwrap_or o (initial frames)) (same_before xs x k le)

  pub at_last : (k : ℕ) → k ≡ suc (length xs) → state_at frames (xs ++ x ∷ []) k ≡ x
  at_last k e = ap (state_at frames (xs ++ x ∷ [])) e ∙ ap (λ (o : Option FastState). unwrap_or o (initial frames)) (last_there xs x)

  pub at_past : (k : ℕ) → suc (length xs) < k → state_at frames (xs ++ x ∷ []) k ≡ initial frames
  at_past k lt = ap (λ (o : Option FastState). unwrap_or o (initial frames)) (sym (state_outside (xs ++ x ∷ []) k (inr (let l = length-append xs (x ∷ []) in omega (arith, l, lt)))))

  -- what holds of each state before and of this one
  pub at_each : (P : FastState → Type 0) → ((k : ℕ) → P (state_at frames xs k)) → P x → (k : ℕ) → P (state_at frames (xs ++ x ∷ []) k)
  at_each P all here k = elim (cases_lt (length xs) k) as (λ c. P (state_at frames (xs ++ x ∷ []) k)) [
    | inl lt ↦ ⊎_elim
        (λ (e : k ≡ suc (length xs)). subst P (sym (at_last k e)) here)
        (λ ne. subst P (sym (at_past k (omega (arith, lt, ne)))) (all 0))
        (cases_eq k (suc (length xs)))
    | inr le ↦ subst P (sym (at_before k le)) (all k)
  ]

  follow_more : (last : FastState) → state_at frames xs (length xs) ≡ last → IsState x → SameSlots x last → Follow (state_at frames xs) → Follow (state_at frames (xs ++ x ∷ []))
  follow_more last is state same f = record {
    states = at_each IsState f.states state;
    same = (λ k i lt on also. elim (cases_lt k (length xs)) as (λ c. slot_of (state_at frames (xs ++ x ∷ []) (k + 1)) i ≡ slot_of (state_at frames (xs ++ x ∷ []) k) i) [
      | inl below ↦
          let now = at_before (k + 1) (omega (arith, below)) in
          let was = at_before k (omega (arith, below)) in
          ap (λ (y : FastState). slot_of y i) now ∙ f.same k i lt (ap (λ (y : FastState). carries y i) (sym now) ∙ on) (ap (λ (y : FastState). carries y i) (sym was) ∙ also) ∙ ap (λ (y : FastState). slot_of y i) (sym was)
      | inr le ↦ ⊎_elim
          (λ (e : k ≡ length xs).
          let now : state_at frames (xs ++ x ∷ []) (k + 1) ≡ x = at_last (k + 1) (omega (arith, e)) in
          let was : state_at frames (xs ++ x ∷ []) k ≡ last = at_before k (omega (arith, e)) ∙ ap (state_at frames xs) e ∙ is in
          ap (λ (y : FastState). slot_of y i) now ∙ same i lt (ap (λ (y : FastState). carries y i) (sym now) ∙ on) (ap (λ (y : FastState). carries y i) (sym was) ∙ also) ∙ ap (λ (y : FastState). slot_of y i) (sym was))
          (λ ne. no (sym (ap (λ (y : FastState). carries y i) (at_past (k + 1) (omega (arith, le, ne))) ∙ initial_none frames i) ∙ on))
          (cases_eq k (length xs))
    ]);
  }

-- ## Before the first turn

none_pushed : (frames k : ℕ) → state_at frames [] k ≡ initial frames
none_pushed frames zero = refl
none_pushed frames (suc k) = refl

none_carried : (frames k i : ℕ) → carries (state_at frames [] k) i ≡ false
none_carried frames k i = ap (λ (x : FastState). carries x i) (none_pushed frames k) ∙ initial_none frames i

pub states_new : (s : Session) → StatesKept s (new_normal (setup_of s)) []
states_new s =
    let frames : ℕ = cycle_frames s in record {
      many = length-replicate (length (setup_of s).settings) new_track ∙ length-map s.script.tracks spec_setting;
      carried = carried_new (setup_of s);
      pushed = refl;
      last = refl;
      apart = (λ k i j li lj on also same. no (sym (none_carried frames k i) ∙ on));
      within = (λ k i lt on. no (sym (none_carried frames k i) ∙ on));
      follow = record {
        states = (λ k. subst IsState (sym (none_pushed frames k)) (initial_state frames));
        same = (λ k i lt on also. no (sym (none_carried frames k i) ∙ also));
      };
    }

-- ## A turn

module _ (s : Session) (m : NormalKept) (states : List FastState) (h : StatesKept s m states) (n : NormalKept) (many : length n.tracks ≡ length m.tracks) (carried : Carried n) where
  -- the states are kept after a turn which pushed nothing
  pub states_same : n.pushed ≡ m.pushed → n.last ≡ m.last → StatesKept s n states
  states_same pushed last = record { many = many ∙ h.many; carried = carried; pushed = pushed ∙ h.pushed; last = h.last ∙ sym last; apart = h.apart; within = h.within; follow = h.follow }

  -- the states are kept after a turn which pushed a state
  pub states_more : (x : FastState) → CarriesApart x → CarriesWithin (track_count s) x → IsState x → SameSlots x m.last → n.pushed ≡ m.pushed + 1 → n.last ≡ x → StatesKept s n (states ++ x ∷ [])
  states_more x apart within state same pushed last =
      let frames : ℕ = cycle_frames s in
      let long = length-append states (x ∷ []) in record {
        many = many ∙ h.many;
        carried = carried;
        pushed = (let p = h.pushed in omega (arith, pushed, p, long));
        last = at_last frames states x (length (states ++ x ∷ [])) (omega (arith, long)) ∙ sym last;
        apart = at_each frames states x CarriesApart h.apart apart;
        within = at_each frames states x (CarriesWithin (track_count s)) h.within within;
        follow = follow_more frames states x m.last h.last state same h.follow;
      }

module _ (s : Session) (scales : All (λ (t : Setting). t.scale ≤ 4096) (setup_of s).settings) (k : Learnt) (m : NormalKept) (states : List FastState) (h : StatesKept s m states) (e : Turn) where
  abbrev c : Setup
  c = setup_of s

  abbrev x : NormalKept
  x = after_edits (setup_of s) k e m

  few : length m.tracks ≤ length (setup_of s).settings
  few = let l = h.many in let n = length-map s.script.tracks spec_setting in omega (arith, l, n)

  edits : Carried (after_edits (setup_of s) k e m)
  edits = carried_after_edits c scales k e m few h.carried

  whole : Carried (turn_after (setup_of s) k m e)
  whole = carried_turn c scales k m e few h.carried

  -- a slot that the draft carries before and after the edits is the same in both
  pub drafts_same : SameSlots (after_edits (setup_of s) k e m).draft m.draft
  drafts_same = draft_stays c scales k e m few h.carried

  long : length (turn_after (setup_of s) k m e).tracks ≡ length m.tracks
  long = turn_len c k m e

  -- the states after the turn
  abbrev After : Push → Type 0
  After push = StatesKept s (turn_after (setup_of s) k m e) (states ++ (if is_pushed push then (after_edits (setup_of s) k e m).draft ∷ [] else []))

  nothing_more : (n : NormalKept) → n ≡ turn_after (setup_of s) k m e → n.pushed ≡ m.pushed → n.last ≡ m.last → StatesKept s (turn_after (setup_of s) k m e) (states ++ [])
  nothing_more n is pushed last = subst (StatesKept s (turn_after c k m e)) (sym (append-nil states))
      (states_same s m states h (turn_after c k m e) long whole (ap (λ (y : NormalKept). y.pushed) (sym is) ∙ pushed) (ap (λ (y : NormalKept). y.last) (sym is) ∙ last))

  went : e.ended ≡ false → (push : Push) → e.push ≡ push → turn_after (setup_of s) k m e ≡ after_takes (setup_of s) e.mixes (after_push push (after_edits (setup_of s) k e m))
  went open_is push is = goes_on_so c k m e open_is ∙ ap (λ (p : Push). after_takes c e.mixes (after_push p x)) is

  after_open : e.ended ≡ false → (push : Push) → e.push ≡ push → After push
  after_open open_is (Pushed number) is =
      let changes = turn_changes c k e m in
      let here = went open_is (Pushed number) is in
      states_more s m states h (turn_after c k m e) long whole x.draft (carries_apart x.tracks x.draft edits.draft)
      (subst (λ (n : ℕ). CarriesWithin n x.draft) (sym (ap (λ (y : NormalKept). length y.tracks) here ∙ same_long) ∙ long ∙ h.many) (carries_within x.tracks x.draft edits.draft))
      edits.sound.state
      (subst (SameSlots x.draft) changes.last edits.same)
      (ap (λ (y : NormalKept). y.pushed) here ∙ ap (λ (n : ℕ). n + 1) changes.pushed)
      (ap (λ (y : NormalKept). y.last) here)
    where
      same_long : length (after_takes (setup_of s) e.mixes (after_push (Pushed number) (after_edits (setup_of s) k e m))).tracks ≡ length (after_edits (setup_of s) k e m).tracks
      same_long = takes_len (asked c) e.mixes x.tracks
  after_open open_is Clean is = let changes = turn_changes c k e m in nothing_more _ (sym (went open_is Clean is)) changes.pushed changes.last
  after_open open_is (Busy seen expected) is = let changes = turn_changes c k e m in nothing_more _ (sym (went open_is (Busy seen expected) is)) changes.pushed changes.last

  -- a turn of any kind
  pub states_turned : (tracks : ℕ) → IsTurn tracks e → StatesKept s (turn_after (setup_of s) k m e) (states ++ (if is_pushed e.push then (after_edits (setup_of s) k e m).draft ∷ [] else []))
  states_turned tracks (inl ended) = subst After (sym (ap (λ (t : Turn). t.push) ended)) (nothing_more _ (sym (rests_so c k m e (ap (λ (t : Turn). t.ended) ended))) refl refl)
  states_turned tracks (inr form) = after_open form.open_is e.push refl
