-- A legal entry has the form of an entry.
use Rattle.std.proofs.Common.{◌≡◌, ℕ, zero, suc, ◌^◌, ◌<◌, ◌==◌, ◌&&◌, Bool, true, false, true≢false, if◌then◌else◌, ne_eqb, Option, Some, None, List, refl, sym, ap, subst, ◌∙◌, inl, inr, ◌⊎◌, arith}
use Rattle.af_model.proofs.Common.{CycleEntry, FastState, Seen, ServerEvent, SlotEntry, count_seen, entry_slot, slots}
use Rattle.std.specs.Int.{bit_at}
use Rattle.std.proofs.lemmas.Nat.{or_lt, pow_pos, pow_below}
use Rattle.std.proofs.lemmas.Nat.Bits.{bit_at_or, bit_at-zero, bit_at-pow_other}
use Rattle.af_base.specs.declared.log.Cycle.TheVariants as cycle
use Rattle.af_base.specs.declared.seen.Seen.TheVariants as seen
use Rattle.af_base.specs.declared.state.Command.{Command}
use Rattle.af_base.specs.declared.state.Command.TheVariants.{ColdIdle, Exit, MixWrite}
use Rattle.af_model.proofs.Basics.{mixes_state}
use Rattle.af_model.specs.Cycles.{IsSeen, state_of, cold_done, cycle_by, cycle_of, shown, SubmixSlot, is_mono, mono_marks, Found, Mixes, is_mixed, LegalCycle}
use Rattle.af_model.specs.JournalForm.{IsSubmix, IsMixed, IsAbsent, is_spent, IsEntry}
use Rattle.af_model.specs.StateQueue.{slot_of, carries}

-- ## What a cycle is by its state

idle_or_cold : (b : Bool) → is_spent (if b then cycle.Idle else cycle.Cold) ≡ false
idle_or_cold true = refl
idle_or_cold false = refl

unspent_by : (done cold : ℕ) (command : Command) → is_spent (cycle_by done cold command) ≡ false
unspent_by done cold Exit = refl
unspent_by done cold ColdIdle = idle_or_cold (cold == done)
unspent_by done cold MixWrite = refl
unspent_by done cold _ = refl

-- the end of the log is none of the cycles of a state
unspent : (done : ℕ) (state : Option FastState) → is_spent (cycle_of done state) ≡ false
unspent done None = refl
unspent done (Some x) = unspent_by done x.cold_gen x.command

-- ## The marks

mark_few : (b : Bool) (n : ℕ) → (if b then 2 ^ n else 0) < 2 ^ suc n
mark_few true n = pow_below n (suc n) (omega arith)
mark_few false n = pow_pos (suc n)

marks_few : (x : FastState) (n : ℕ) → mono_marks x n < 2 ^ n
marks_few x zero = omega arith
marks_few x (suc n) = let before = marks_few x n in
    or_lt (suc n) (mono_marks x n) (if is_mono x n then 2 ^ n else 0) (let more = pow_below n (suc n) (omega arith) in omega (arith, before, more)) (mark_few (is_mono x n) n)

other_mark : (b : Bool) (n i : ℕ) → (i ≡ n → b ≡ false) → bit_at (if b then 2 ^ n else 0) i ≡ 0
other_mark true n i none = bit_at-pow_other n i (λ same. true≢false (none same))
other_mark false n i none = bit_at-zero i

-- a slot that isn't mono has no mark
unmarked : (x : FastState) (n i : ℕ) → is_mono x i ≡ false → bit_at (mono_marks x n) i ≡ 0
unmarked x zero i off = bit_at-zero i
unmarked x (suc n) i off =
    let before = unmarked x n i off in
    let here = other_mark (is_mono x n) n i (λ same. ap (is_mono x) (sym same) ∙ off) in
    bit_at_or (mono_marks x n) (if is_mono x n then 2 ^ n else 0) i ∙ (omega (arith, before, here))

-- ## The slots

count_shown : (count : ℕ) → count_seen (shown count) ≡ count
count_shown zero = refl
count_shown (suc n) = ap (λ (b : Bool). count_seen (if b then seen.Empty else seen.Frames (suc n))) (ne_eqb (suc n) 0 (λ e. omega (arith, e)))

-- what is shown of so many frames is what is shown of those that it counts
shown_again : (answer : Seen) (count : ℕ) → answer ≡ shown count → answer ≡ shown (count_seen answer)
shown_again answer count is = is ∙ ap shown (sym (ap count_seen is ∙ count_shown count))

submix_form : (asked : ℕ) (before after : List ServerEvent) (slot : SlotEntry) → SubmixSlot asked before after slot → IsSubmix slot
submix_form asked before after slot s = let shows = s.shows in
    (ap (λ (e : SlotEntry). e.gains) shows, ap (λ (e : SlotEntry). e.flush) shows, shown_again slot.seen _ (ap (λ (e : SlotEntry). e.seen) shows))

no_scale : (b : Bool) (i scale : ℕ) → 0 < i → b ≡ false → (if i == 0 then 4096 else if b then scale else 0) ≡ 0
no_scale b i scale some off =
    ap (λ (z : Bool). if z then 4096 else if b then scale else 0) (ne_eqb i 0 (λ e. omega (arith, e, some)))
    ∙ ap (λ (z : Bool). if z then scale else 0) off

module _ (asked : ℕ) (x : FastState) (place : ℕ) (before after : Found) (entry : CycleEntry) (m : Mixes asked x place before after entry) where
  no_mark : (i : ℕ) → is_mono x i ≡ false → bit_at entry.mono i ≡ 0
  no_mark i off = ap (λ (n : ℕ). bit_at n i) m.mono ∙ unmarked x slots i off

  other_slot : (i : ℕ) → 0 < i → i < slots → (on : Bool) → carries x i ≡ on → IsAbsent entry i ⊎ IsSeen (entry_slot entry i).seen
  other_slot i some lt true on = inr (m.tracks i lt on).looks.0
  other_slot i some lt false off = inl (
    m.others i some lt off,
    m.scales i lt ∙ no_scale (carries x i) i (slot_of x i).scale some off,
    no_mark i (ap (λ (b : Bool). b && (slot_of x i).mono) off),
  )

  -- a mix has the slots of one
  pub mix_form : IsMixed place entry
  mix_form = record {
    whole = (m.whole.0, m.whole.1, subst (λ (n : ℕ). n < 2 ^ slots) (sym m.mono) (marks_few x slots));
    submix = (submix_form asked before.pipe after.pipe (entry_slot entry 0) m.submix, m.scales 0 (omega arith), no_mark 0 refl);
    others = (λ i some lt. other_slot i some lt (carries x i) refl);
    placed = m.placed;
  }

-- an entry that is legal where the log has so many frames has the form of one there
pub entry_form : (asked : ℕ) (states : List FastState) (entries : List CycleEntry) (place : ℕ) (before after : Found) (entry : CycleEntry) → LegalCycle asked states entries place before after entry → IsEntry place entry
entry_form asked states entries place before after entry legal = record {
  kept = ap is_spent legal.what ∙ unspent (cold_done states entries) (state_of states entry.state);
  mixes = (λ mixed.
      let state = mixes_state (cold_done states entries) (state_of states entry.state) (sym (ap is_mixed legal.what) ∙ mixed) in
      mix_form asked state.0 place before after entry (legal.mixes state.0 state.1 mixed));
  still = legal.still;
}
