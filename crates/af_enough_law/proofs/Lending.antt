-- A round whose turn lends a track's proxy, and one that leaves it lent, whether the fast mixer has it already or not: the draft plays the track, and so does the last state once the push isn't busy.
use Rattle.std.proofs.Common.{◌≡◌, ℕ, ◌+◌, ◌≤◌, ◌<◌, ◌&&◌, not, if◌then◌else◌, is_some, Bool, true, false, true≢false, All, Option, Some, None, List, [], ◌∷◌, ◌++◌, length, refl, sym, ap, ◌∙◌, subst, arith, append-nil}
use Rattle.af_enough_law.proofs.Common.{Absent, FastState, FastTrack, Heard, Home, IsSlotted, Learnt, LegalRound, Lent, Marks, MixWrite, NormalKept, RoundSeen, Run, Session, Setting, Setup, TrackKept, after_round, carries, cycle_frames, initial_none, is_among, is_home, is_lent, learnt, number_of, plays, setting_of, setup_of, slot_number, slots, state_at, track_at, track_count, track_in, turn_after}
use Rattle.af_enough_law.proofs.Basics.{stays_home}
use Rattle.af_enough_law.proofs.Carried.{SessionStands}
use Rattle.af_enough_law.proofs.Drafts.{is_busy, next_holder, PushMade, holder_turned, attended_holder}
use Rattle.af_enough_law.proofs.Ends.{IsInOrder}
use Rattle.af_enough_law.proofs.FastWords.{Plays}
use Rattle.af_enough_law.proofs.Items.{AreItems, item_of, items_turn}
use Rattle.af_enough_law.proofs.NormalRounds.{TurnMade}
use Rattle.af_enough_law.proofs.TrackTurns.{attended, Edited, stays, leaves, enters, TrackTurned}
use Rattle.af_enough_law.proofs.EndRounds.{order_round, unpushed}
use Rattle.af_enough_law.proofs.Following.{greeted_in}
use Rattle.af_enough_law.proofs.Generations.{attached_stays, lent_plays}
use Rattle.af_enough_law.proofs.LastStates.{round_last}
use Rattle.af_enough_law.proofs.LentRounds.{draft_plays}
use Rattle.af_enough_law.proofs.Orders.{mix_is, orders_mix}
use Rattle.af_enough_law.proofs.RipeRounds.{round_slot, generation_of}
use Rattle.af_enough_law.proofs.Served.{track_turned}
use Rattle.af_enough_law.proofs.SessionRounds.{turn_of, turn_runs, push_of}
use Rattle.af_enough_law.proofs.SlotDrafts.{lent_anew}
use Rattle.af_enough_law.proofs.Slots.{IsOpened, slot_stays}
use Rattle.af_enough_law.proofs.StoppedPlaces.{home_is}
use Rattle.af_enough_law.proofs.StatesHold.{round_pushes}

-- a track whose proxy is lent by the draft, in this slot, and that is to be heard
pub record IsLending (s : Session) (run : Run) (i slot : ℕ) (item : FastTrack) : Type 0 where
  pub low : slot < slots
  pub slot_is : (track_at run.normal.tracks i).slot ≡ Some slot
  pub item_is : item ≡ item_of (setup_of s) i (track_at run.normal.tracks i)
  pub lent : (track_at run.normal.tracks i).holder ≡ Lent
  pub heard : plays (track_at run.normal.tracks i).life ≡ true

-- a track's stream was open when its proxy was lent
abbrev pub WasOpen : Run → ℕ → Type 0
WasOpen run i = (track_at run.normal.tracks i).at_attach.known.shut ≡ false

-- ## One track of a turn

-- a track that has a slot was opened
pub slotted_opened : (x : TrackKept) (slot : ℕ) → IsSlotted x → x.slot ≡ Some slot → IsOpened x.life
slotted_opened x slot sound is = by x.life.ended (is_among (Absent ∷ []) x.life.state) (λ absent. true≢false (sym (ap is_some is) ∙ sound.unopened absent))
  where
    by : (ended absent : Bool) → (absent ≡ true → ⊥) → (not ended && absent) ≡ false
    by true absent never = refl
    by false true never = absurd (never refl)
    by false false never = refl

-- a proxy that was home and is lent has a slot, and is to be heard
data EnteredBy (slot : Option ℕ) (heard : Bool) : Type 0 where
  entered_in : (n : ℕ) → slot ≡ Some n → heard ≡ true → EnteredBy slot heard

entered_by : (slot : Option ℕ) (heard : Bool) → Lent ≡ (if is_some slot && heard then Lent else Home) → EnteredBy slot heard
entered_by None heard e = absurd (true≢false (ap is_lent e))
entered_by (Some n) true e = entered_in n refl refl
entered_by (Some n) false e = absurd (true≢false (ap is_lent e))

-- what a lent proxy knew at its attachment is what the turn learnt at home
edited_attach : (own : Heard) (x y : TrackKept) → x.holder ≡ Home → Edited own x y → y.holder ≡ Lent → y.at_attach ≡ own
edited_attach own x _ home (stays a b) lent = absurd (true≢false (ap is_lent (sym lent ∙ home)))
edited_attach own x _ home (leaves a) lent = absurd (true≢false (ap is_lent (sym lent)))
edited_attach own x _ home (enters draft a) lent = refl

attach_turned : (c : Setup) (k : Learnt) (m : NormalKept) (e : _) (i : ℕ) → i < length m.tracks → TrackTurned c k m e i → (greeted_in m e i).holder ≡ Home → (track_at (turn_after c k m e).tracks i).holder ≡ Lent → (track_at (turn_after c k m e).tracks i).at_attach ≡ k.own i
attach_turned c k m e i lt t home lent =
    let at : TrackKept = attended t.given k i (track_in e i).looks (greeted_in m e i) in
    ap (λ (x : TrackKept). x.at_attach) t.after
    ∙ edited_attach (k.own i) at t.edited (attended_holder t.given k i (track_in e i).looks (greeted_in m e i) ∙ home) t.edit (ap (λ (x : TrackKept). x.holder) (sym t.after) ∙ lent)

-- ## The round

module _ (s : Session) (marks : Marks) (scales : All (λ (x : Setting). x.scale ≤ 4096) (setup_of s).settings) (long : length (setup_of s).settings ≡ track_count s) (run : Run) (round : RoundSeen) (legal : LegalRound false s marks run round) (c : SessionStands s run) (i : ℕ) (named : i < track_count s) where
  abbrev t : TurnMade s marks run round
  t = turn_of s marks scales long run round legal c

  goes : t.turn.ended ≡ false
  goes = turn_runs s marks scales long run round legal c

  abbrev after : Run
  after = after_round s run round

  abbrev next : NormalKept
  next = turn_after (setup_of s) (learnt t.by.outside) run.normal t.turn

  there : i < length run.normal.tracks
  there = let a = c.kept in omega (arith, a, named)

  few : length run.normal.tracks ≤ length (setup_of s).settings
  few = let a = c.kept in omega (arith, a, long)

  order_then : IsInOrder after.normal
  order_then = order_round s marks scales run round legal c.runs t goes few c.order

  items_then : AreItems (setup_of s) after.normal
  items_then = subst (AreItems (setup_of s)) (sym t.after) (items_turn (setup_of s) scales (learnt t.by.outside) run.normal t.turn few c.order.sound c.items)

  -- a draft with a track that is lent and to be heard plays it
  pub lending_draft : (slot : ℕ) (item : FastTrack) → IsLending s after i slot item → Plays slot item after.normal.draft
  lending_draft slot item l =
      let code = orders_mix (setup_of s) (learnt t.by.outside) run.normal t.turn goes c.draft_goes i (ap (λ (m : NormalKept). plays (track_at m.tracks i).life) (sym t.after) ∙ l.heard) in
      let mixes : after.normal.draft.command ≡ MixWrite = ap (λ (m : NormalKept). m.draft.command) t.after ∙ mix_is next.draft.command code in
      let p = draft_plays (setup_of s) after.normal i order_then items_then (ap is_lent l.lent) mixes in
      subst (λ (x : FastTrack). Plays slot x after.normal.draft) (sym l.item_is) (subst (λ (n : ℕ). Plays n (item_of (setup_of s) i (track_at after.normal.tracks i)) after.normal.draft) (ap number_of l.slot_is) p)

  -- a proxy that was home and is lent by the turn
  pub record LentBy : Type 0 where
    pub slot : ℕ
    pub item : FastTrack
    pub lending : IsLending s after i slot item
    -- the proxy is lent with a generation above the one that its slot had
    pub fresh : generation_of run slot + 1 ≤ item.generation

  pub lent_now : is_home (track_at run.normal.tracks i).holder ≡ true → (track_at after.normal.tracks i).holder ≡ Lent → LentBy
  lent_now home lent = by (entered_by (track_at next.tracks i).slot (plays (track_at next.tracks i).life) (sym lent_next ∙ holder_turned (setup_of s) (learnt t.by.outside) run.normal t.turn i there goes ∙ ap (next_holder (plays (track_at next.tracks i).life) (is_some (track_at next.tracks i).slot)) greeted))
    where
      lent_next : (track_at next.tracks i).holder ≡ Lent
      lent_next = ap (λ (m : NormalKept). (track_at m.tracks i).holder) (sym t.after) ∙ lent

      greeted : (greeted_in run.normal t.turn i).holder ≡ Home
      greeted = home_is (greeted_in run.normal t.turn i).holder (stays_home t.turn.ack run.normal.last (track_at run.normal.tracks i) home)

      not_lent : is_lent (track_at run.normal.tracks i).holder ≡ false
      not_lent = ap is_lent (home_is (track_at run.normal.tracks i).holder home)

      by : EnteredBy (track_at next.tracks i).slot (plays (track_at next.tracks i).life) → LentBy
      by (entered_in n slot heard) =
          let slot_after : (track_at after.normal.tracks i).slot ≡ Some n = ap (λ (m : NormalKept). (track_at m.tracks i).slot) t.after ∙ slot in
          let number : slot_number (track_at after.normal.tracks i) ≡ n = ap number_of slot_after in
          let small = ((order_then.sound.slotted i).slot (ap is_some slot_after)).1 in
          let low : n < slots = omega (arith, number, small) in
          let anew = lent_anew (setup_of s) run.normal after.normal i c.order order_then (λ k less. round_slot s marks scales long run round legal c k less) not_lent (ap is_lent lent) small in
          let same = ap (λ (k : ℕ). generation_of run k) number in
          record {
            slot = n;
            item = item_of (setup_of s) i (track_at after.normal.tracks i);
            lending = record {
              low = low;
              slot_is = slot_after;
              item_is = refl;
              lent = lent;
              heard = ap (λ (m : NormalKept). plays (track_at m.tracks i).life) t.after ∙ heard;
            };
            fresh = omega (arith, anew, same);
          }

  -- a proxy that was lent and stays so
  pub lent_still : (slot : ℕ) (item : FastTrack) → IsLending s run i slot item → (track_at after.normal.tracks i).holder ≡ Lent → IsLending s after i slot item
  lent_still slot item l lent =
      let lent_next : (track_at next.tracks i).holder ≡ Lent = ap (λ (m : NormalKept). (track_at m.tracks i).holder) (sym t.after) ∙ lent in
      let same = attached_stays (setup_of s) (learnt t.by.outside) run.normal t.turn i there goes l.lent in
      let slot_same = slot_stays (setup_of s) (learnt t.by.outside) run.normal t.turn i there goes (slotted_opened (track_at run.normal.tracks i) slot (c.order.sound.slotted i) l.slot_is) in
      record {
        low = l.low;
        slot_is = ap (λ (m : NormalKept). (track_at m.tracks i).slot) t.after ∙ slot_same ∙ l.slot_is;
        item_is = l.item_is
            ∙ ap (λ (g : ℕ). record { generation = g; track = i; mono = (setting_of (setup_of s) i).mono; scale = (setting_of (setup_of s) i).scale }) (sym same.generation ∙ ap (λ (m : NormalKept). (track_at m.tracks i).generation) (sym t.after));
        lent = lent;
        heard = ap (λ (m : NormalKept). plays (track_at m.tracks i).life) t.after ∙ lent_plays (setup_of s) (learnt t.by.outside) run.normal t.turn i there goes l.lent lent_next;
      }

  -- the stream of a proxy was open when it was lent, if the proxy then knew it open
  pub open_now : is_home (track_at run.normal.tracks i).holder ≡ true → (track_at after.normal.tracks i).holder ≡ Lent → ((learnt t.by.outside).own i).known.shut ≡ false → WasOpen after i
  open_now home lent own =
      ap (λ (m : NormalKept). (track_at m.tracks i).at_attach.known.shut) t.after
      ∙ ap (λ (h : Heard). h.known.shut) (attach_turned (setup_of s) (learnt t.by.outside) run.normal t.turn i there (track_turned (setup_of s) (learnt t.by.outside) run.normal t.turn i there goes)
      (home_is (greeted_in run.normal t.turn i).holder (stays_home t.turn.ack run.normal.last (track_at run.normal.tracks i) home)) (ap (λ (m : NormalKept). (track_at m.tracks i).holder) (sym t.after) ∙ lent))
      ∙ own

  pub open_still : (track_at run.normal.tracks i).holder ≡ Lent → WasOpen run i → WasOpen after i
  open_still lent was = ap (λ (m : NormalKept). (track_at m.tracks i).at_attach.known.shut) t.after ∙ ap (λ (h : Heard). h.known.shut) (attached_stays (setup_of s) (learnt t.by.outside) run.normal t.turn i there goes lent).at_attach ∙ was

  -- ## The push

  made : PushMade run.normal after.normal t.turn.push
  made = push_of s marks scales long run round legal c

  -- a busy push leaves the states and the last one
  pub busy_same : is_busy t.turn.push ≡ true → (after.states ≡ run.states) × (after.normal.last ≡ run.normal.last)
  busy_same busy = (round_pushes s marks scales long run round legal c ∙ ap (λ (b : Bool). run.states ++ (if b then after.normal.draft ∷ [] else [])) (unpushed t.turn.push busy) ∙ append-nil run.states, (made.busy busy).3)

  -- after a push that wasn't busy the last state plays the track
  pub free_plays : (slot : ℕ) (item : FastTrack) → IsLending s after i slot item → is_busy t.turn.push ≡ false → (1 ≤ length after.states) × Plays slot item after.normal.last
  free_plays slot item l free = (some after.states (round_last s marks run round legal c.last), last)
    where
      last : Plays slot item after.normal.last
      last = subst (Plays slot item) (sym (made.done free).1) (lending_draft slot item l)

      some : (xs : List FastState) → state_at (cycle_frames s) xs (length xs) ≡ after.normal.last → 1 ≤ length xs
      some [] is = absurd (true≢false (sym last.carried ∙ ap (λ (x : FastState). carries x slot) (sym is) ∙ initial_none (cycle_frames s) slot))
      some (x ∷ xs) is = omega arith
