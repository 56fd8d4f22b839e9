-- A track whose proxy is lent, and stays so in a round, flows in it, and all that is carried of it is carried on.
use Rattle.std.proofs.Common.{◌≡◌, ◌⊎◌, inl, inr, ℕ, zero, suc, ◌+◌, ◌≤◌, ◌<◌, ◌==◌, ◌&&◌, ◌||◌, not, if◌then◌else◌, unwrap_or, Bool, true, false, true≢false, All, Option, Some, [], ◌∷◌, length, refl, sym, ap, ◌∙◌, subst, arith, eq-eqb}
use Rattle.af_enough_law.proofs.Common.{Absent, FastState, FastTrack, Heard, LegalRound, Lent, Life, Marks, MixWrite, NormalKept, RoundSeen, Run, Session, Setting, Setup, SlotReport, TrackKept, after_round, carries, client_list, counts_in, cycle_frames, grown, heard, heard_at_home, heard_by, heard_elsewhere, heard_with, observer_holds, initial, is_among, is_home, is_lent, learnt, lent_away, list_any, number_of, or_right, plays, range_with_len, setting_of, setup_of, slot_number, slot_of, slots, state_at, state_of, told_at, track_at, track_count, turn_after, both_true}
use Rattle.af_enough_law.proofs.Carried.{SessionCarried}
use Rattle.af_enough_law.proofs.Courses.{Course, absent, idle, playing, stopping, drained, stopped, over}
use Rattle.af_enough_law.proofs.Ends.{IsInOrder, order_turn}
use Rattle.af_enough_law.proofs.FastWords.{Plays, AllStates, LastCarries, IsTold, KnowsReleased, slot_told, HasItem}
use Rattle.af_enough_law.proofs.Items.{AreItems, item_of, items_turn}
use Rattle.af_enough_law.proofs.NormalRounds.{TurnMade}
use Rattle.af_enough_law.proofs.Commanding.{le_cases}
use Rattle.af_enough_law.proofs.Generations.{attached_stays, lent_plays}
use Rattle.af_enough_law.proofs.StatesHold.{last_holds, states_hold}
use Rattle.af_enough_law.proofs.Orders.{lent_carried, mix_is, orders_mix}
use Rattle.af_enough_law.proofs.SessionRounds.{turn_of, turn_runs}
use Rattle.af_enough_law.proofs.Slots.{IsOpened, slot_stays}
use Rattle.af_enough_law.proofs.TrackCarried.{TrackCarried}
use Rattle.af_enough_law.proofs.TrackGoes.{CalmStream}

-- ## The draft

-- the draft has the item of each track that is lent in its slot, and in no other
pub draft_has : (c : Setup) (m : NormalKept) (i : ℕ) → IsInOrder m → AreItems c m → is_lent (track_at m.tracks i).holder ≡ true → HasItem (slot_number (track_at m.tracks i)) (item_of c i (track_at m.tracks i)) m.draft
draft_has c m i order items lent = record {
  carried = (lent_carried m i order.sound lent).0;
  is = items i (lent_away (track_at m.tracks i).holder lent);
  only = λ j low carried same.
      let o = order.owned j low carried in
      let at = lent_carried m o.owner order.sound o.lent in
      let owner : o.owner ≡ i = sym at.1 ∙ ap (λ (n : ℕ). (slot_of m.draft n).track) o.slot_is ∙ same in
      sym o.slot_is ∙ ap (λ (n : ℕ). slot_number (track_at m.tracks n)) owner;
}

-- the draft plays the track, if it mixes
pub draft_plays : (c : Setup) (m : NormalKept) (i : ℕ) → IsInOrder m → AreItems c m → is_lent (track_at m.tracks i).holder ≡ true → m.draft.command ≡ MixWrite → Plays (slot_number (track_at m.tracks i)) (item_of c i (track_at m.tracks i)) m.draft
draft_plays c m i order items lent mixes = let h = draft_has c m i order items lent in record { mixes = mixes; carried = h.carried; is = h.is; only = h.only }

-- the draft of a run plays the track, if it mixes
pub draft_item : (s : Session) (run : Run) (i slot : ℕ) (item : FastTrack) → IsInOrder run.normal → AreItems (setup_of s) run.normal → (track_at run.normal.tracks i).holder ≡ Lent → (track_at run.normal.tracks i).slot ≡ Some slot
    → item ≡ item_of (setup_of s) i (track_at run.normal.tracks i) → HasItem slot item run.normal.draft
draft_item s run i slot item order items lent slot_is item_is =
    let has = draft_has (setup_of s) run.normal i order items (ap is_lent lent) in
    subst (λ (x : FastTrack). HasItem slot x run.normal.draft) (sym item_is) (subst (λ (n : ℕ). HasItem n (item_of (setup_of s) i (track_at run.normal.tracks i)) run.normal.draft) (ap number_of slot_is) has)

-- ## The state adopted

pub any_from : (p : ℕ → Bool) (a n i : ℕ) → a ≤ i → i < a + n → p i ≡ true → list_any p (range_with_len a n) ≡ true
any_from p a zero i low high is = absurd (let z : ⊥ = omega (arith, low, high) in z)
any_from p a (suc n) i low high is = by (le_cases a i low) (λ above. any_from p (a + 1) n i (omega (arith, above)) (omega (arith, high)) is)
  where
    by : (i ≡ a) ⊎ (a < i) → (a < i → list_any p (range_with_len (a + 1) n) ≡ true) → (p a || list_any p (range_with_len (a + 1) n)) ≡ true
    by (inl same) later = ap (λ (x : Bool). x || list_any p (range_with_len (a + 1) n)) (ap p (sym same) ∙ is)
    by (inr above) later = or_right (p a) (list_any p (range_with_len (a + 1) n)) (later above)

-- if the state adopted last plays a track, its proxy takes part in the meeting
pub holds_by : (s : Session) (run : Run) (track slot : ℕ) (item : FastTrack) (x : FastState) → slot < slots → item.track ≡ track → state_of run.states run.current ≡ Some x → Plays slot item x → observer_holds s run track ≡ true
holds_by s run track slot item x low is at p =
    let y : FastState = state_at (cycle_frames s) run.states run.current in
    let same : y ≡ x = ap (λ (o : Option FastState). unwrap_or o (initial (cycle_frames s))) at in
    any_from (λ j. carries y j && ((slot_of y j).track == track)) 0 slots slot (omega arith) low
    (both_true (carries y slot) ((slot_of y slot).track == track) (ap (λ (z : FastState). carries z slot) same ∙ p.carried) (eq-eqb (slot_of y slot).track track (ap (λ (z : FastState). (slot_of z slot).track) same ∙ ap (λ (t : FastTrack). t.track) p.is ∙ is)))

-- ## What is carried of a track whose proxy is lent

-- The proxy is lent, and flows: the states that may be used carry the track, the last report tells of it, and its server knows all that was released
pub record LentCarried (s : Session) (run : Run) (i slot : ℕ) (item : FastTrack) : Type 0 where
  -- the track has this slot, with its item, and its proxy is lent
  pub low : slot < slots
  pub slot_is : (track_at run.normal.tracks i).slot ≡ Some slot
  pub item_is : item ≡ item_of (setup_of s) i (track_at run.normal.tracks i)
  pub lent : (track_at run.normal.tracks i).holder ≡ Lent
  -- the track is to be heard
  pub heard : plays (track_at run.normal.tracks i).life ≡ true
  -- a state was pushed, and the last one plays the track
  pub some : 1 ≤ length run.states
  pub last : Plays slot item run.normal.last
  -- the state used last carries the slot, and the last report tells of it
  pub used : LastCarries run slot
  pub told : IsTold run i slot item
  -- at the last meeting the stream's server learnt of all that was released
  pub released : KnowsReleased (told_at run i).stream
  -- the lists of its stream have the calm history of the last meeting
  pub history : CalmStream (told_at run i).stream.shape (client_list (told_at run i).stream) []

-- no more looks that showed frames were heard of than the last report tells
abbrev pub HeardOf : Run → ℕ → ℕ → Type 0
HeardOf run i slot = (track_at run.normal.tracks i).reported.fulls + (track_at run.normal.tracks i).reported.partials ≤ (slot_told run slot).fulls + (slot_told run slot).partials

-- a life on its course that is to be heard was opened
pub heard_opened : (count told : ℕ) (l : Life) → Course count told l → plays l ≡ true → IsOpened l
heard_opened count told l absent heard = absurd (true≢false (sym heard))
heard_opened count told l idle heard = absurd (true≢false (sym heard))
heard_opened count told l (playing retries a b) heard = refl
heard_opened count told l (stopping retries) heard = refl
heard_opened count told l (drained retries) heard = refl
heard_opened count told l (stopped retries) heard = refl
heard_opened count told l (over life e) heard = ap (λ (b : Bool). not b && is_among (Absent ∷ []) life.state) e

pub heard_away : (h : Heard) (r : SlotReport) (g : TrackKept) → is_home g.holder ≡ false → r.generation ≡ g.generation → r.shut ≡ false → (heard_by h r g).known.shut ≡ false
unfolding heard_by
heard_away h r g away same unshut =
    ap (λ (b : Bool). (if b then heard_at_home h g else heard_elsewhere r g).known.shut) away
    ∙ ap (λ (b : Bool). (if b then heard_with r.consumed r.flush_seen r.shut (grown (counts_in r) g.reported) else g.at_attach).known.shut) (eq-eqb r.generation g.generation same) ∙ unshut

module _ (s : Session) (marks : Marks) (scales : All (λ (x : Setting). x.scale ≤ 4096) (setup_of s).settings) (long : length (setup_of s).settings ≡ track_count s) (run : Run) (round : RoundSeen) (legal : LegalRound false s marks run round) (c : SessionCarried s run)
    (i most total : ℕ) (named : i < track_count s) (lawful : marks.commands i ≡ true) (track : TrackCarried run i most total) (two : 2 ≤ (track_at run.normal.tracks i).life.retries) (slot : ℕ) (item : FastTrack) (l : LentCarried s run i slot item)
    (stays : (track_at (after_round s run round).normal.tracks i).holder ≡ Lent) where
  abbrev t : TurnMade s marks run round
  t = turn_of s marks scales long run round legal c.stands

  pub runs : t.turn.ended ≡ false
  runs = turn_runs s marks scales long run round legal c.stands

  abbrev after : Run
  after = after_round s run round

  abbrev next : NormalKept
  next = turn_after (setup_of s) (learnt t.by.outside) run.normal t.turn

  pub low_run : i < length run.tracks
  low_run = let a = c.stands.tracks in omega (arith, a, named)

  pub there : i < length run.normal.tracks
  there = let a = c.stands.kept in omega (arith, a, named)

  stays_next : (track_at next.tracks i).holder ≡ Lent
  stays_next = ap (λ (m : NormalKept). (track_at m.tracks i).holder) (sym t.after) ∙ stays

  pub heard_then : plays (track_at next.tracks i).life ≡ true
  heard_then = lent_plays (setup_of s) (learnt t.by.outside) run.normal t.turn i there runs l.lent stays_next

  pub slot_then : (track_at next.tracks i).slot ≡ Some slot
  slot_then = slot_stays (setup_of s) (learnt t.by.outside) run.normal t.turn i there runs (heard_opened track.on.count track.on.told (track_at run.normal.tracks i).life track.on.follows.course l.heard) ∙ l.slot_is

  generation_then : (track_at next.tracks i).generation ≡ (track_at run.normal.tracks i).generation
  generation_then = (attached_stays (setup_of s) (learnt t.by.outside) run.normal t.turn i there runs l.lent).generation

  pub item_then : item ≡ item_of (setup_of s) i (track_at next.tracks i)
  item_then = l.item_is ∙ ap (λ (g : ℕ). record { generation = g; track = i; mono = (setting_of (setup_of s) i).mono; scale = (setting_of (setup_of s) i).scale }) (sym generation_then)

  few : length run.normal.tracks ≤ length (setup_of s).settings
  few = let a = c.stands.kept in omega (arith, a, long)

  -- the draft after the turn plays the track
  draft_then : Plays slot item next.draft
  draft_then =
      let order : IsInOrder next = order_turn (setup_of s) scales t.by.outside run.normal t.turn few runs (t.by.legal.goes_on runs) c.stands.order in
      let items : AreItems (setup_of s) next = items_turn (setup_of s) scales (learnt t.by.outside) run.normal t.turn few c.stands.order.sound c.stands.items in
      let mixes : next.draft.command ≡ MixWrite = mix_is next.draft.command (orders_mix (setup_of s) (learnt t.by.outside) run.normal t.turn runs c.stands.draft_goes i heard_then) in
      let p = draft_plays (setup_of s) next i order items (ap is_lent stays_next) mixes in
      subst (λ (x : FastTrack). Plays slot x next.draft) (sym item_then) (subst (λ (n : ℕ). Plays n (item_of (setup_of s) i (track_at next.tracks i)) next.draft) (ap number_of slot_then) p)

  -- the last state pushed plays the track
  pub last_then : Plays slot item after.normal.last
  last_then = last_holds s marks scales long run round legal c (Plays slot item) l.some l.last draft_then

  -- the states that the round may use play it
  pub states_play : AllStates run after (Plays slot item)
  states_play = states_hold s marks scales long run round legal c (Plays slot item) l.some l.last draft_then
