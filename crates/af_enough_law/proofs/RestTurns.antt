-- A resting mixer whose command stays pushes nothing; and no Exit is among the states until one is pushed last.
use Rattle.std.proofs.Common.{◌≡◌, ◌⊎◌, inl, inr, ℕ, ◌+◌, ◌<◌, ◌≤◌, unwrap_or, Bool, true, false, true≢false, Option, ◌++◌, length, if◌then◌else◌, sym, ap, ◌∙◌, arith, eq-eqb, is_some}
use Rattle.af_enough_law.proofs.Common.{Command, FastState, GoesOn, Learnt, NormalKept, Outside, RoundSeen, Run, Session, Setup, Turn, after_ack, after_edits, after_push, after_round, after_takes, after_tracks, code_of, cycle_frames, initial, commands_exit, is_pushed, learnt, mutated, next_command, ordered, pipe_size, push_draft, state_beyond, state_more, state_of, turn_after, within_or_beyond}
use Rattle.af_enough_law.proofs.Drafts.{is_busy, ordered_code}
use Rattle.af_enough_law.proofs.EndWords.{NoExits}
use Rattle.af_enough_law.proofs.Ends.{Rests}
use Rattle.af_enough_law.proofs.Exits.{AreIdle, ack_kept, clean_by, clean_free, edits_none, ordered_same, rests_idle}
use Rattle.af_enough_law.proofs.FastPolls.{round_states, turn_more}
use Rattle.af_enough_law.proofs.LastStates.{LastIs}

-- ## Pushes

pub draft_after_turn : (c : Setup) (k : Learnt) (m : NormalKept) (e : Turn) → e.ended ≡ false → (turn_after c k m e).draft ≡ (after_edits c k e m).draft
unfolding turn_after
draft_after_turn c k m e runs =
    ap (λ (b : Bool). (if b then record m { ended = true } else after_takes c e.mixes (after_push e.push (after_edits c k e m))).draft) runs ∙ push_draft e.push (after_edits c k e m)

rests_edits : (c : Setup) (k : Learnt) (room : ℕ) (m : NormalKept) → AreIdle m.tracks → mutated c k room m ≡ ordered (next_command (commands_exit m.draft) m.tracks room (pipe_size c)) m
unfolding mutated
rests_edits c k room m idle = ap (λ (x : NormalKept). ordered (next_command (commands_exit x.draft) x.tracks room (pipe_size c)) x) (edits_none c k m (length m.tracks) (omega arith) idle)

module _ (c : Setup) (o : Outside) (m : NormalKept) (e : Turn) (runs : e.ended ≡ false) (goes : GoesOn c o m e) (rests : Rests m) (clean : m.dirty ≡ false) (stays : code_of (turn_after c (learnt o) m e).draft.command ≡ code_of m.draft.command) where
  still_clean : (after_edits c (learnt o) e m).dirty ≡ false
  still_clean =
      let x : NormalKept = after_tracks c (learnt o) e (after_ack e.ack m) in
      let kept = ack_kept e.ack m in
      let command : Command = next_command (commands_exit x.draft) x.tracks e.room (pipe_size c) in
      let edits : after_edits c (learnt o) e m ≡ ordered command x = rests_edits c (learnt o) e.room x (rests_idle c (learnt o) m e rests) in
      let code : code_of command ≡ code_of x.draft.command =
      sym (ordered_code command x) ∙ ap (λ (y : NormalKept). code_of y.draft.command) (sym edits) ∙ ap (λ (y : FastState). code_of y.command) (sym (draft_after_turn c (learnt o) m e runs)) ∙ stays ∙ ap (λ (y : FastState). code_of y.command) (sym kept.0) in
      let same : after_edits c (learnt o) e m ≡ x = edits ∙ ordered_same command x (eq-eqb (code_of command) (code_of x.draft.command) code) in
      ap (λ (y : NormalKept). y.dirty) same ∙ kept.1 ∙ clean

  -- a resting mixer that had nothing to push, and whose command stays, pushes nothing
  pub rests_still : is_pushed e.push ≡ false
  rests_still = clean_by e.push (after_edits c (learnt o) e m) goes.push still_clean

  -- the push of a resting mixer that had nothing to push isn't busy
  pub rests_free : is_busy e.push ≡ false
  rests_free = clean_free e.push (after_edits c (learnt o) e m) goes.push still_clean

-- ## Exits

-- a round that pushes no Exit leaves none among the states
pub no_exits_round : (s : Session) (run : Run) (round : RoundSeen) → NoExits run.states → LastIs s (after_round s run round) → commands_exit (after_round s run round).normal.last ≡ false → length (after_round s run round).states ≤ length run.states + 1 → NoExits (after_round s run round).states
no_exits_round s run round none last going few k x is = by (within_or_beyond k (length run.states)) (within_or_beyond k (length after.states))
  where
    after : Run
    after = after_round s run round

    whole : after.states ≡ run.states ++ (turn_more s run round).more
    whole = round_states s run round ∙ (turn_more s run round).whole

    by : (k ≤ length run.states) ⊎ (length run.states < k) → (k ≤ length after.states) ⊎ (length after.states < k) → commands_exit x ≡ false
    by (inl low) h = none k x (sym (ap (λ l. state_of l k) whole ∙ state_more run.states (turn_more s run round).more k low) ∙ is)
    by (inr past) (inr far) = absurd (true≢false (sym (ap is_some is) ∙ ap is_some (state_beyond after.states k far)))
    by (inr past) (inl low) =
        let at : k ≡ length after.states = omega (arith, past, low, few) in
        let same : x ≡ after.normal.last = ap (λ (o : Option FastState). unwrap_or o (initial (cycle_frames s))) (sym is) ∙ ap (λ (n : ℕ). unwrap_or (state_of after.states n) (initial (cycle_frames s))) at ∙ last in
        ap commands_exit same ∙ going
