-- What is carried of a run whose tracks play through: of the session, and of each track without a slot, lent, stopped or over. A legal round keeps it, while not all is over.
use Rattle.std.proofs.Common.{◌≡◌, ◌⊎◌, inl, inr, ℕ, ◌≤◌, ◌<◌, Bool, true, false, true≢false, All, Some, None, length, refl, sym, ap, ◌∙◌, arith}
use Rattle.af_enough_law.proofs.Common.{FastTrack, Holder, Home, LegalRound, Lent, Life, Marks, NormalKept, Returning, RoundSeen, Run, Session, Setting, after_round, is_lent, is_over, learnt, not_zero, setting_of, setup_of, slots, track_at, track_count, turn_after}
use Rattle.af_enough_law.proofs.Carried.{SessionCarried}
use Rattle.af_enough_law.proofs.Ends.{IsInOrder}
use Rattle.af_enough_law.proofs.NormalRounds.{TurnMade}
use Rattle.af_enough_law.proofs.CourseGoes.{OnCourse, CourseGone}
use Rattle.af_enough_law.proofs.EndRounds.{order_round}
use Rattle.af_enough_law.proofs.HomeRounds.{IsNamed, slotless_carried}
use Rattle.af_enough_law.proofs.LeftDone.{left_stopped, left_place}
use Rattle.af_enough_law.proofs.LeftGoes.{left_gone}
use Rattle.af_enough_law.proofs.LeftRounds as left
use Rattle.af_enough_law.proofs.LentFlows.{LentGone, lent_gone}
use Rattle.af_enough_law.proofs.LentRounds.{LentCarried}
use Rattle.af_enough_law.proofs.OverTracks.{IsOver, over_life, over_on}
use Rattle.af_enough_law.proofs.SessionRounds.{turn_of, turn_runs, session_carried}
use Rattle.af_enough_law.proofs.Slots.{course_opened, slot_stays, slotless_stays}
use Rattle.af_enough_law.proofs.StoppedPlaces.{Place, stopped_out}
use Rattle.af_enough_law.proofs.StoppedRounds.{place_gone, stopped_slot}
use Rattle.af_enough_law.proofs.StoppedTracks.{StoppedCarried, stopped_gone, stopped_carried}
use Rattle.af_enough_law.proofs.TrackCarried.{TrackCarried, TrackGone}

-- how a track is between two rounds
pub data TrackIs (s : Session) (run : Run) (i most total : ℕ) : Type 0 where
  -- the normal mixer mixes the track: it has no slot and never gets one, since it isn't fast or was opened when none was free, and its proxy is always home
  slotless : (track : TrackCarried run i most total) → ((setting_of (setup_of s) i).fast ≡ false) ⊎ (1 ≤ track.on.told) → (track_at run.normal.tracks i).slot ≡ None → TrackIs s run i most total
  -- the track's proxy is lent, and the track flows by the fast mixer
  lent : (slot : ℕ) (item : FastTrack) → TrackCarried run i most total → LentCarried s run i slot item → TrackIs s run i most total
  -- the track has left the mix, and its client has only its REMOVE to send, or is gone
  stopped : (slot : ℕ) (item : FastTrack) → slot < slots → item.track ≡ i → (track_at run.normal.tracks i).slot ≡ Some slot → StoppedCarried run i most total → Place s run i slot item → TrackIs s run i most total
  -- the track is over: its life has ended, whatever its stream was found to be and its client is answered
  gone_over : IsOver run i → TrackIs s run i most total

-- All that is carried of a run. `most` bounds the ops that are left of a track, and `total` the frames that its client has left and its position
pub record Carried (s : Session) (run : Run) (most total : ℕ → ℕ) : Type 0 where
  pub session : SessionCarried s run
  pub tracks : (i : ℕ) → i < track_count s → TrackIs s run i (most i) (total i)

pub lent_is : (h : Holder) → is_lent h ≡ true → h ≡ Lent
lent_is Home e = absurd (true≢false (sym e))
lent_is Lent e = refl
lent_is Returning e = absurd (true≢false (sym e))

module _ (s : Session) (marks : Marks) (scales : All (λ (x : Setting). x.scale ≤ 4096) (setup_of s).settings) (long : length (setup_of s).settings ≡ track_count s) (run : Run) (round : RoundSeen) (legal : LegalRound false s marks run round) (c : SessionCarried s run)
    (next : RoundSeen) (legal_next : LegalRound false s marks (after_round s run round) next) where
  abbrev t : TurnMade s marks run round
  t = turn_of s marks scales long run round legal c.stands

  abbrev after : Run
  after = after_round s run round

  runs : t.turn.ended ≡ false
  runs = turn_runs s marks scales long run round legal c.stands

  -- how a track is after the round, and what the round made of its course; a life that had ended is as it was, and else no fewer commands are settled
  pub record TrackOn (i most total : ℕ) : Type 0 where
    pub is : TrackIs s after i most total
    pub course : ((told : ℕ) × CourseGone s marks run round i t told) ⊎ ((track_at after.normal.tracks i).life ≡ (track_at run.normal.tracks i).life)
    pub settled : ((track_at after.normal.tracks i).life.ended ≡ true) ⊎ ((track_at run.normal.tracks i).settled ≤ (track_at after.normal.tracks i).settled)

  -- no command is unsettled again
  settled_on : (i : ℕ) (on : OnCourse run i) → CourseGone s marks run round i t on.told → (track_at run.normal.tracks i).settled ≤ (track_at after.normal.tracks i).settled
  settled_on i on gone = let a = on.follows.settled in let b = gone.after.follows.settled in let n = gone.next in omega (arith, a, b, n)

  -- a track that has two retries before a round
  pub track_on : (i most total : ℕ) → i < track_count s → marks.commands i ≡ true → 2 ≤ (track_at run.normal.tracks i).life.retries → TrackIs s run i most total → TrackOn i most total
  track_on i most total named lawful two (slotless track never none) =
      let a = c.stands.tracks in
      let b = c.stands.kept in
      let numbers : IsNamed s marks run i = record { low = omega (arith, a, named); named = named; there = omega (arith, b, named); lawful = lawful } in
      let order : IsInOrder after.normal = order_round s marks scales run round legal c.stands.runs t runs (omega (arith, b, long)) c.stands.order in
      let none_then : (track_at after.normal.tracks i).slot ≡ None = ap (λ (m : NormalKept). (track_at m.tracks i).slot) t.after ∙ stays numbers.there never in
      let gone : TrackGone s marks run round i most total t track.on.told = slotless_carried false s marks run round i most total t legal numbers runs track two none none_then (c.stands.order.sound.slotted i) (order.sound.slotted i) in
      record { is = slotless gone.carried (goes gone never) none_then; course = inl (track.on.told, gone.gone); settled = inr (settled_on i track.on gone.gone) }
    where
      stays : i < length run.normal.tracks → ((setting_of (setup_of s) i).fast ≡ false) ⊎ (1 ≤ track.on.told) → (track_at (turn_after (setup_of s) (learnt t.by.outside) run.normal t.turn).tracks i).slot ≡ None
      stays there (inl slow) = slotless_stays (setup_of s) (learnt t.by.outside) run.normal t.turn i there runs slow none
      stays there (inr told) = slot_stays (setup_of s) (learnt t.by.outside) run.normal t.turn i there runs (course_opened track.on.count track.on.told (track_at run.normal.tracks i).life track.on.follows.course (not_zero track.on.told told)) ∙ none

      goes : (gone : TrackGone s marks run round i most total t track.on.told) → ((setting_of (setup_of s) i).fast ≡ false) ⊎ (1 ≤ track.on.told) → ((setting_of (setup_of s) i).fast ≡ false) ⊎ (1 ≤ gone.carried.on.told)
      goes gone (inl slow) = inl slow
      goes gone (inr told) = let same = ap (λ (o : OnCourse after i). o.told) gone.same in let next = gone.gone.next in inr (omega (arith, told, same, next))
  track_on i most total named lawful two (lent slot item track l) = by (is_lent (track_at after.normal.tracks i).holder) refl
    where
      by : (b : Bool) → is_lent (track_at after.normal.tracks i).holder ≡ b → TrackOn i most total
      by true stays =
          let gone : LentGone s marks run round i most total slot item t track.on.told = lent_gone s marks scales long run round legal c i most total named lawful track two slot item l (lent_is (track_at after.normal.tracks i).holder stays) in
          record { is = lent slot item gone.track.carried gone.lent; course = inl (track.on.told, gone.track.gone); settled = inr (settled_on i track.on gone.track.gone) }
      by false leaves =
          let slot_is = left.slot_then s marks scales long run round legal c i most total named lawful track slot item l leaves next legal_next in
          record {
            is = stopped slot item l.low (ap (λ (x : FastTrack). x.track) l.item_is) slot_is
                (left_stopped s marks scales long run round legal c i most total named lawful track slot item l leaves next legal_next two)
                (left_place s marks scales long run round legal c i most total named lawful track slot item l leaves next legal_next two);
            course = inl (track.on.told, left_gone s marks scales long run round legal c i most total named lawful track slot item l leaves next legal_next two);
            settled = inr (settled_on i track.on (left_gone s marks scales long run round legal c i most total named lawful track slot item l leaves next legal_next two));
          }
  track_on i most total named lawful two (stopped slot item low item_is slot_is z place) =
      let gone = place_gone s marks scales long run round legal c i most total named lawful z two slot item low item_is slot_is next legal_next place in
      let course = stopped_gone s marks scales long run round legal c i most total named lawful z two gone.turn in
      let out = stopped_out s marks run round i most total t z gone.turn course in
      record {
        is = stopped slot item low item_is (stopped_slot s marks scales long run round legal c i most total named lawful z two slot item low item_is slot_is next legal_next)
            (stopped_carried s marks scales long run round legal c i most total named lawful z two gone.turn out) (gone.place out);
        course = inl (z.on.told, course);
        settled = inr (settled_on i z.on course);
      }
  track_on i most total named lawful two (gone_over h) =
      let a = c.stands.tracks in
      let b = c.stands.kept in
      let there : i < length run.normal.tracks = omega (arith, b, named) in
      record {
        is = gone_over (over_on false s marks run round t i (omega (arith, a, named)) named there runs legal h);
        course = inr (ap (λ (m : NormalKept). (track_at m.tracks i).life) t.after ∙ over_life (setup_of s) (learnt t.by.outside) run.normal t.turn i there runs h.life);
        settled = inl (ap (λ (m : NormalKept). (track_at m.tracks i).life.ended) t.after ∙ ap (λ (l : Life). l.ended) (over_life (setup_of s) (learnt t.by.outside) run.normal t.turn i there runs h.life) ∙ h.life);
      }

-- A legal round that is followed by another one keeps all that is carried, if each track has two retries before it and not all is over after it
pub carried_on : (s : Session) (marks : Marks) → All (λ (x : Setting). x.scale ≤ 4096) (setup_of s).settings → length (setup_of s).settings ≡ track_count s → ((i : ℕ) → i < track_count s → marks.commands i ≡ true) → (run : Run) (round next : RoundSeen) (most total : ℕ → ℕ)
    → LegalRound false s marks run round → LegalRound false s marks (after_round s run round) next → ((i : ℕ) → i < track_count s → 2 ≤ (track_at run.normal.tracks i).life.retries) → is_over (after_round s run round).normal.tracks ≡ false
    → Carried s run most total → Carried s (after_round s run round) most total
carried_on s marks scales long lawful run round next most total legal legal_next two going c = record {
  session = session_carried s marks scales long run round legal c.session.stands going;
  tracks = λ i named. (track_on s marks scales long run round legal c.session next legal_next i (most i) (total i) named (lawful i named) (two i named) (c.tracks i named)).is;
}
