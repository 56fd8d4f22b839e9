-- A mix by the state that the mixer polled, and the frames that each slot took of it, as the run tells of its entry.
use Rattle.std.proofs.Common.{◌≡◌, ◌≢◌, ⊎_elim, ℕ, ◌<◌, true, true≢false, length, Some, sym, ap, ◌∙◌, arith}
use Rattle.af_told_law.proofs.Common.{AddsCycle, AreTogether, CycleEntry, EntrySeen, FastState, Links, MixerState, Mixes, SessionState, adopted_states, cases_eq, cold_done, cycle_of, entry_slot, found, frames_taken, is_mixed, no_state, slot_frames, slots, state_of}
use Rattle.af_told_law.specs.Leads.{LeadAway}
use Rattle.af_told_law.specs.MixLaws.{entry_told}
use Rattle.af_told_law.proofs.EntryFrames.{frames_told}

-- what the looks of a mix from f to g took is what the run tells of the entry
pub record SawTold (f g : MixerState) (e : EntrySeen) : Type 0 where
  pub frames : (k : ℕ) → k < slots → frames_taken g.log.frames (entry_slot e.entry k) ≡ slot_frames e k

module _ (links : Links) (x : SessionState) (g : MixerState) (together : AreTogether links x) (after : AreTogether links (record x { fast = g })) (lead : LeadAway x.fast.observer.past.state x.normal.tracks) (entry : CycleEntry) (adds : AddsCycle x.fast g entry) (mixed : is_mixed entry.cycle ≡ true) where
  abbrev state : FastState
  state = x.fast.observer.past.state

  -- the mixer mixes by a state that was pushed
  some_number : 0 < x.fast.observer.past.number
  some_number = ⊎_elim
      (λ (none : x.fast.observer.past.number ≡ 0). absurd (true≢false (sym mixed ∙ ap is_mixed (adds.legal.what ∙ ap (λ (k : ℕ). cycle_of (cold_done (adopted_states x.fast) x.fast.log.entries) (state_of (adopted_states x.fast) k)) (adds.state ∙ none)))))
      (λ (ne : x.fast.observer.past.number ≢ 0). let some : 0 < x.fast.observer.past.number = omega (arith, ne) in some)
      (cases_eq x.fast.observer.past.number 0)

  pub current_is : x.fast.observer.current ≡ Some state
  current_is = together.fast.0.observer.told.state some_number

  pub mix_is : Mixes x.fast.frames state (length x.fast.log.frames) (found x.fast.observer x.fast.pipe) (found g.observer g.pipe) entry
  mix_is = adds.legal.mixes state (ap (λ (k : ℕ). state_of (adopted_states x.fast) k) adds.state ∙ together.fast.0.observer.told.current no_state ∙ current_is) mixed

  -- each slot took the frames told
  pub saw_told : SawTold x.fast g (entry_told g.log.frames (length x.fast.log.frames) entry)
  saw_told = record {
    frames = (λ k low. frames_told g.log.frames entry (length x.fast.log.frames) k low (mix_is.placed k low));
  }
