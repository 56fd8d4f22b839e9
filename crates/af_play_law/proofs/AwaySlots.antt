-- What a turn of the normal mixer does to the slot of a track whose proxy is away: it stays in the draft as it was, or leaves it.
use Rattle.std.proofs.Common.{◌≡◌, ℕ, zero, suc, ◌<◌, ◌≤◌, ◌==◌, ◌&&◌, ◌||◌, not, if◌then◌else◌, is_some, Bool, true, false, All, List, [], ◌∷◌, length, refl, sym, ap, ◌∙◌, subst, arith}
use Rattle.af_play_law.proofs.Common.{AllByRecursion, Carried, CarriesBy, FastState, IsDone, IsLent, Learnt, NormalKept, Setting, Setup, TrackKept, Turn, after_ack, after_edits, and_none, carried_turn, carries, cycle_by, draft_stays, commands_exit, is_home, is_lent, list_any, next_command, no, not_over, number_of, pipe_size, plays, slot_number, slot_of, slots, stays_home, track_at, turn_after, turn_len}
use Rattle.af_base.specs.declared.log.Cycle.TheVariants as cycle
use Rattle.af_base.specs.declared.state.Command.{Command}
use Rattle.af_base.specs.declared.state.Command.TheVariants.{Initial, HotIdle, ColdIdle, Idle, Exit, Mix, Write, MixWrite}
use Rattle.af_base.specs.Command.{code_of}
use Rattle.af_life.proofs.Basics.{away_holds, lent_away, slot_of_away}
use Rattle.af_life.specs.declared.kept.Holder.{Holder}
use Rattle.af_life.specs.declared.kept.Holder.TheVariants.{Home, Lent, Returning}
use Rattle.af_life.specs.declared.state.LifeState.TheVariants.{Absent}
use Rattle.af_life.specs.Edits.{is_over}
use Rattle.af_life.specs.Obeys.{holds}
use Rattle.af_life.specs.Sound.{IsSound}
use Rattle.af_life.specs.State.{is_among}
use Rattle.af_life.proofs.SoundTurns.{sound_acked}
use Rattle.af_enough_law.proofs.Drafts.{next_holder, command_turned, holder_turned}
use Rattle.af_enough_law.proofs.TrackTurns.{greeted}
use Rattle.af_enough_law.proofs.Following.{greeted_alike, greeted_in}
use Rattle.af_enough_law.proofs.RestTurns.{draft_after_turn}
use Rattle.af_enough_law.proofs.Served.{greeted_at}
use Rattle.af_enough_law.proofs.Slots.{IsOpened, slot_stays}
use Rattle.af_play_law.proofs.Words.{SlotStaysAway}

-- ## Small lemmas

-- a proxy that is away after the acknowledgement was away before
was_away : (ack : Bool) (last : FastState) (s : TrackKept) → is_home (greeted ack last s).holder ≡ false → is_home s.holder ≡ false
was_away ack last s away = by (is_home s.holder) refl
  where
    by : (b : Bool) → is_home s.holder ≡ b → b ≡ false
    by true home = no (sym away ∙ stays_home ack last s home)
    by false home = refl

-- a proxy that is away stays away in the turn
away_next : (heard slot : Bool) (h : Holder) → is_home h ≡ false → is_home (next_holder heard slot h) ≡ false
away_next heard slot Home away = no (sym away)
away_next true slot Lent away = refl
away_next false slot Lent away = refl
away_next heard slot Returning away = refl

-- a proxy that is away is lent after the turn only if it was lent and its track is to be heard
lent_next : (heard slot : Bool) (h : Holder) → is_home h ≡ false → is_lent (next_holder heard slot h) ≡ true → (is_lent h ≡ true) × (heard ≡ true)
lent_next heard slot Home away lent = no (sym away)
lent_next true slot Lent away lent = (refl, refl)
lent_next false slot Lent away lent = no lent
lent_next heard slot Returning away lent = no lent

any_at : (p : TrackKept → Bool) (tracks : List TrackKept) (i : ℕ) → i < length tracks → p (track_at tracks i) ≡ true → list_any p tracks ≡ true
any_at p [] i low on = absurd (omega (arith, low))
any_at p (s ∷ tracks) zero low on = ap (λ (b : Bool). b || list_any p tracks) on
any_at p (s ∷ tracks) (suc i) low on = by (p s) (any_at p tracks i (omega (arith, low)) on)
  where
    by : (b : Bool) → list_any p tracks ≡ true → (b || list_any p tracks) ≡ true
    by true rest = refl
    by false rest = rest

done_at : (tracks : List TrackKept) (i : ℕ) → i < length tracks → AllByRecursion IsDone tracks → IsDone (track_at tracks i)
done_at [] i low done = absurd (omega (arith, low))
done_at (s ∷ tracks) zero low done = done.0
done_at (s ∷ tracks) (suc i) low done = done_at tracks i (omega (arith, low)) done.1

-- the number of a mix is that of a mix alone
mix_by : (command : Command) → code_of command ≡ code_of MixWrite → (done cold : ℕ) → cycle_by done cold command ≡ cycle.Mixed
mix_by Initial is done cold = absurd (omega (arith, is))
mix_by HotIdle is done cold = absurd (omega (arith, is))
mix_by ColdIdle is done cold = absurd (omega (arith, is))
mix_by Idle is done cold = absurd (omega (arith, is))
mix_by Exit is done cold = absurd (omega (arith, is))
mix_by Mix is done cold = absurd (omega (arith, is))
mix_by Write is done cold = absurd (omega (arith, is))
mix_by MixWrite is done cold = refl

-- ## The turn

acked_draft : (ack : Bool) (m : NormalKept) → (after_ack ack m).draft ≡ m.draft
acked_draft true m = refl
acked_draft false m = refl

module _ (c : Setup) (scales : All (λ (t : Setting). t.scale ≤ 4096) c.settings) (k : Learnt) (m : NormalKept) (e : Turn) (few : length m.tracks ≤ length c.settings) (runs : e.ended ≡ false) (carried : Carried m)
    (over : commands_exit m.draft ≡ true → AllByRecursion IsDone m.tracks) (i : ℕ) (low : i < length m.tracks) (away : is_home (track_at (after_ack e.ack m).tracks i).holder ≡ false) where
  abbrev after : NormalKept
  after = turn_after c k m e

  abbrev next : FastState
  next = (after_edits c k e m).draft

  abbrev s : TrackKept
  s = track_at m.tracks i

  abbrev u : TrackKept
  u = track_at (turn_after c k m e).tracks i

  then_carried : Carried after
  then_carried = carried_turn c scales k m e few carried

  next_is : after.draft ≡ next
  next_is = draft_after_turn c k m e runs

  greeted_is : track_at (after_ack e.ack m).tracks i ≡ greeted_in m e i
  greeted_is = greeted_at e.ack m i

  greeted_away : is_home (greeted_in m e i).holder ≡ false
  greeted_away = ap (λ (t : TrackKept). is_home t.holder) (sym greeted_is) ∙ away

  s_away : is_home s.holder ≡ false
  s_away = was_away e.ack m.last s greeted_away

  s_slot : is_some s.slot ≡ true
  s_slot = slot_of_away s (carried.sound.slotted i) s_away

  opened : IsOpened s.life
  opened = by (is_among (Absent ∷ []) s.life.state) refl
    where
      by : (b : Bool) → is_among (Absent ∷ []) s.life.state ≡ b → (not s.life.ended && is_among (Absent ∷ []) s.life.state) ≡ false
      by true none = no (sym ((carried.sound.slotted i).unopened none) ∙ s_slot)
      by false some = and_none (not s.life.ended) (is_among (Absent ∷ []) s.life.state) some

  u_slot : u.slot ≡ s.slot
  u_slot = slot_stays c k m e i low runs opened

  u_holder : u.holder ≡ next_holder (plays u.life) (is_some u.slot) (greeted_in m e i).holder
  u_holder = holder_turned c k m e i low runs

  u_away : is_home u.holder ≡ false
  u_away = ap is_home u_holder ∙ away_next (plays u.life) (is_some u.slot) (greeted_in m e i).holder greeted_away

  acked_slot : slot_number (track_at (after_ack e.ack m).tracks i) ≡ slot_number s
  acked_slot = ap slot_number greeted_is ∙ ap number_of (greeted_alike e.ack m.last s).slot

  next_lent : CarriesBy IsLent after.tracks next
  next_lent = subst (CarriesBy IsLent after.tracks) next_is then_carried.draft

  slot_low : (1 ≤ slot_number s) × (slot_number s < slots)
  slot_low = (carried.sound.slotted i).slot s_slot

  only_slot : (j : ℕ) → j < slots → carries next j ≡ true → (slot_of next j).track ≡ i → j ≡ slot_number s
  only_slot j lt on track = let here = (next_lent j lt on).0 in ap number_of (sym here ∙ ap (λ (n : ℕ). (track_at after.tracks n).slot) track ∙ u_slot)

  -- the track that the next state has in the slot is this one, lent before and after, and to be heard
  module _ (on : carries (after_edits c k e m).draft (slot_number (track_at m.tracks i)) ≡ true) where
    abbrev n : ℕ
    n = (slot_of (after_edits c k e m).draft (slot_number (track_at m.tracks i))).track

    n_is : n ≡ i
    n_is =
        let h = next_lent (slot_number s) slot_low.1 on in
        then_carried.sound.alone n i (slot_number s)
        (ap (λ (j : ℕ). holds j (track_at after.tracks n)) (sym (ap number_of h.0)) ∙ away_holds (track_at after.tracks n) (then_carried.sound.slotted n) (lent_away (track_at after.tracks n).holder h.1))
        (ap (λ (j : ℕ). holds j u) (sym (ap number_of u_slot)) ∙ away_holds u (then_carried.sound.slotted i) u_away)

    u_lent : is_lent u.holder ≡ true
    u_lent = ap (λ (j : ℕ). is_lent (track_at after.tracks j).holder) (sym n_is) ∙ (next_lent (slot_number s) slot_low.1 on).1

    was_lent : (is_lent (greeted_in m e i).holder ≡ true) × (plays u.life ≡ true)
    was_lent = lent_next (plays u.life) (is_some u.slot) (greeted_in m e i).holder greeted_away (ap is_lent (sym u_holder) ∙ u_lent)

    on_before : carries m.draft (slot_number s) ≡ true
    on_before =
        let sound : IsSound (after_ack e.ack m).tracks (after_ack e.ack m).draft = sound_acked e.ack m carried.sound in
        let there = (sound.drafted i).lent (ap (λ (t : TrackKept). is_lent t.holder) greeted_is ∙ was_lent.0) in
        (λ j. carries (sym (acked_draft e.ack m) j) (sym acked_slot j)) ∙ there

    mixes : (done cold : ℕ) → cycle_by done cold (after_edits c k e m).draft.command ≡ cycle.Mixed
    unfolding next_command
    mixes =
        let u_low : i < length after.tracks = inside in
        let none : commands_exit m.draft ≡ false = by_exit (commands_exit m.draft) refl in
        let heard : list_any (λ (t : TrackKept). plays t.life) after.tracks ≡ true = any_at (λ (t : TrackKept). plays t.life) after.tracks i u_low was_lent.1 in
        let going : is_over after.tracks ≡ false = not_over after.tracks i u_low u_away in
        let told : code_of (next_command (commands_exit m.draft) after.tracks e.room (pipe_size c)) ≡ code_of MixWrite =
        λ j. code_of (by_facts (none j) (going j) (heard j)) in
        mix_by next.command (ap (λ (x : FastState). code_of x.command) (sym next_is) ∙ command_turned c k m e runs ∙ told)
      where
        by_facts : Bool → Bool → Bool → Command
        by_facts exits all heard = if exits || (all && (e.room == pipe_size c)) then Exit else if heard || not (e.room == pipe_size c) then MixWrite else ColdIdle

        by_exit : (b : Bool) → commands_exit m.draft ≡ b → b ≡ false
        by_exit true exits = no (sym s_away ∙ (done_at m.tracks i low (over exits)).home)
        by_exit false exits = refl

        inside : i < length after.tracks
        inside = (let l = turn_len c k m e in omega (arith, low, l))

  pub slot_stays_away : SlotStaysAway m.draft (after_edits c k e m).draft i (slot_number (track_at (after_ack e.ack m).tracks i))
  slot_stays_away = subst (SlotStaysAway m.draft (after_edits c k e m).draft i) (sym acked_slot) (record {
    low = slot_low;
    track = ((carried.sound.drafted i).own s_away).0;
    before = on_before;
    only = only_slot;
    same = draft_stays c scales k e m few carried;
    mixes = mixes;
  })
