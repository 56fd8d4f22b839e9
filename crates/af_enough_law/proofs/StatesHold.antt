-- A round adds the draft after its turn to the states, if that was pushed: so what holds of the last state before a round and of the draft that its turn leaves holds of all states that the round may use.
use Rattle.std.proofs.Common.{◌≡◌, ◌⊎◌, inl, inr, ℕ, zero, suc, [], ◌∷◌, append-nil, if◌then◌else◌, ◌≤◌, ◌<◌, is_some, Bool, true, false, true≢false, All, Some, List, ◌++◌, length, length-append, refl, sym, ap, ◌∙◌, subst, arith}
use Rattle.af_enough_law.proofs.Common.{Learnt, after_edits, before_turn, draft_after, found_in, is_pushed, outside_of, pushed_by, FastState, LegalRound, Marks, NormalKept, RoundSeen, Run, Session, Setting, after_round, cycle_frames, learnt, setup_of, state_beyond, state_more, state_of, track_count, turn_after}
use Rattle.af_enough_law.proofs.Carried.{SessionCarried, SessionStands}
use Rattle.af_enough_law.proofs.Drafts.{is_busy, PushMade}
use Rattle.af_enough_law.proofs.FastWords.{AllStates}
use Rattle.af_enough_law.proofs.NormalRounds.{TurnMade}
use Rattle.af_enough_law.proofs.Commanding.{le_cases}
use Rattle.af_enough_law.proofs.FastPolls.{before_states, round_states, turn_more}
use Rattle.af_enough_law.proofs.LastStates.{round_last, state_last}
use Rattle.af_enough_law.proofs.SessionRounds.{turn_of, turn_runs, push_of}
use Rattle.af_enough_law.proofs.Basics.{before_normal, some_is}
use Rattle.af_enough_law.proofs.QueueRounds.{states_turned}
use Rattle.af_enough_law.proofs.RestTurns.{draft_after_turn}

module _ (s : Session) (marks : Marks) (scales : All (λ (x : Setting). x.scale ≤ 4096) (setup_of s).settings) (long : length (setup_of s).settings ≡ track_count s) (run : Run) (round : RoundSeen) (legal : LegalRound false s marks run round) (c : SessionStands s run) where
  abbrev t : TurnMade s marks run round
  t = turn_of s marks scales long run round legal c

  abbrev after : Run
  after = after_round s run round

  goes : t.turn.ended ≡ false
  goes = turn_runs s marks scales long run round legal c

  draft_is : draft_after (setup_of s) (outside_of (setup_of s) (found_in s run round t.turn) t.turn) (before_turn s run round).normal t.turn ≡ after.normal.draft
  draft_is =
      ap (λ (m : NormalKept). draft_after (setup_of s) (outside_of (setup_of s) (found_in s run round t.turn) t.turn) m t.turn) (before_normal s run round)
      ∙ ap (λ (k : Learnt). (after_edits (setup_of s) k t.turn run.normal).draft) (sym t.sees)
      ∙ sym (draft_after_turn (setup_of s) (learnt t.by.outside) run.normal t.turn goes)
      ∙ ap (λ (m : NormalKept). m.draft) (sym t.after)

  -- a round adds the draft after its turn, if that was pushed
  pub round_pushes : after.states ≡ run.states ++ (if is_pushed t.turn.push then after.normal.draft ∷ [] else [])
  round_pushes =
      round_states s run round ∙ states_turned s (found_in s run round) round.turn t.turn (before_turn s run round) t.is
      ∙ ap (λ (l : List FastState). l ++ pushed_by (setup_of s) (outside_of (setup_of s) (found_in s run round t.turn) t.turn) (before_turn s run round).normal t.turn) (before_states s run round)
      ∙ ap (λ (x : FastState). run.states ++ (if is_pushed t.turn.push then x ∷ [] else [])) draft_is

  added : (xs : List FastState) (x z : FastState) (k : ℕ) → state_of (xs ++ x ∷ []) k ≡ Some z → (state_of xs k ≡ Some z) ⊎ (z ≡ x)
  added xs x z zero e = absurd (true≢false (ap is_some (sym e)))
  added [] x z (suc zero) e = inr (some_is z x (sym e))
  added [] x z (suc (suc k)) e = absurd (true≢false (ap is_some (sym e)))
  added (y ∷ xs) x z (suc zero) e = inl e
  added (y ∷ xs) x z (suc (suc k)) e = added xs x z (suc k) e

  -- a state after it is one before it, or the draft after it, which was pushed
  pushed_or : (k : ℕ) (z : FastState) → state_of after.states k ≡ Some z → (state_of run.states k ≡ Some z) ⊎ ((is_pushed t.turn.push ≡ true) × (z ≡ after.normal.draft))
  pushed_or k z at = by (is_pushed t.turn.push) refl round_pushes
    where
      by : (b : Bool) → is_pushed t.turn.push ≡ b → after.states ≡ run.states ++ (if b then after.normal.draft ∷ [] else []) → (state_of run.states k ≡ Some z) ⊎ ((is_pushed t.turn.push ≡ true) × (z ≡ after.normal.draft))
      by true is whole = elim (added run.states after.normal.draft z k (ap (λ l. state_of l k) (sym whole) ∙ at)) as (λ _. (state_of run.states k ≡ Some z) ⊎ ((is_pushed t.turn.push ≡ true) × (z ≡ after.normal.draft))) [ inl old ↦ inl old | inr same ↦ inr (is, same) ]
      by false is whole = inl (ap (λ l. state_of l k) (sym (whole ∙ append-nil run.states)) ∙ at)

  -- what holds of the states before it and of the draft after it holds of the states after it
  pub states_all : (R : FastState → Type 0) → ((k : ℕ) (z : FastState) → state_of run.states k ≡ Some z → R z) → (is_pushed t.turn.push ≡ true → R after.normal.draft) → (k : ℕ) (z : FastState) → state_of after.states k ≡ Some z → R z
  states_all R h new k z at = elim (pushed_or k z at) as (λ _. R z) [ inl old ↦ h k z old | inr now ↦ subst R (sym now.1) (new now.0) ]

  -- a state of a number beyond those before the round is the draft after it
  pub beyond_draft : (k : ℕ) (z : FastState) → length run.states < k → state_of after.states k ≡ Some z → z ≡ after.normal.draft
  beyond_draft k z above at = elim (pushed_or k z at) as (λ _. z ≡ after.normal.draft) [ inl old ↦ absurd (true≢false (sym (ap is_some old) ∙ ap is_some (state_beyond run.states k above))) | inr now ↦ now.1 ]

  -- and so is the last state, if one was pushed
  pub pushed_last : length run.states < length after.states → after.normal.last ≡ after.normal.draft
  pushed_last more = beyond_draft (length after.states) after.normal.last more (state_last after.states (cycle_frames s) after.normal.last (omega (arith, more)) (round_last s marks run round legal c.last))

-- ## What holds of the last state and of the draft

module _ (s : Session) (marks : Marks) (scales : All (λ (x : Setting). x.scale ≤ 4096) (setup_of s).settings) (long : length (setup_of s).settings ≡ track_count s) (run : Run) (round : RoundSeen) (legal : LegalRound false s marks run round) (c : SessionCarried s run)
    (P : FastState → Type 0) (some : 1 ≤ length run.states) (before : P run.normal.last) (draft : P (turn_after (setup_of s) (learnt (turn_of s marks scales long run round legal c.stands).by.outside) run.normal (turn_of s marks scales long run round legal c.stands).turn).draft) where
  abbrev t_now : TurnMade s marks run round
  t_now = turn_of s marks scales long run round legal c.stands

  abbrev later : Run
  later = after_round s run round

  draft_then : P later.normal.draft
  draft_then = subst (λ (m : NormalKept). P m.draft) (sym t_now.after) draft

  pub last_holds : P later.normal.last
  last_holds = by (is_busy t_now.turn.push) refl
    where
      made : PushMade run.normal later.normal t_now.turn.push
      made = push_of s marks scales long run round legal c.stands

      by : (b : Bool) → is_busy t_now.turn.push ≡ b → P later.normal.last
      by true busy = subst P (sym (made.busy busy).3) before
      by false free = subst P (sym (made.done free).1) draft_then

  whole : later.states ≡ run.states ++ (turn_more s run round).more
  whole = round_states s run round ∙ (turn_more s run round).whole

  pub some_after : 1 ≤ length later.states
  some_after = let a = ap length whole in let b = length-append run.states (turn_more s run round).more in let d = some in omega (arith, a, b, d)

  pub states_hold : AllStates run later P
  states_hold = (some, λ k x high is. by k x is (le_cases (length run.states) k high))
    where
      by : (k : ℕ) (x : FastState) → state_of later.states k ≡ Some x → (k ≡ length run.states) ⊎ (length run.states < k) → P x
      by k x is (inl same) =
          let at : state_of later.states k ≡ Some run.normal.last =
          ap (λ (xs : List FastState). state_of xs k) whole ∙ ap (λ (n : ℕ). state_of (run.states ++ (turn_more s run round).more) n) same ∙ state_more run.states (turn_more s run round).more (length run.states) (omega arith)
          ∙ state_last run.states (cycle_frames s) run.normal.last some c.stands.last in
          subst P (some_is run.normal.last x (sym at ∙ is)) before
      by k x is (inr above) = subst P (sym (beyond_draft s marks scales long run round legal c.stands k x above is)) draft_then
