-- The round in which a lent track leaves: it hears that its stream is open, all that its client is answered is fair, and it is on its course after it. What isn't told by the history of this round is told by that of the next one.
use Rattle.std.proofs.Common.{◌≡◌, inl, ℕ, ◌≤◌, ◌<◌, if◌then◌else◌, is_some, Bool, true, false, true≢false, All, Some, length, refl, sym, ap, ◌∙◌, subst, arith}
use Rattle.af_enough_law.proofs.Common.{FastState, FastTrack, LegalRound, Lent, Marks, NormalKept, Returning, RoundSeen, Run, Session, Setting, TrackKept, after_round, carries, cycle_frames, ends_part, heard, is_home, is_lent, is_over, is_returning, learnt, met_after, number_of, plays, setup_of, slot_number, slot_of, slot_reported, state_of, takes_part, told_at, track_at, track_count, turn_after, turn_len}
use Rattle.af_enough_law.proofs.Basics.{not_over}
use Rattle.af_enough_law.proofs.Carried.{SessionCarried}
use Rattle.af_enough_law.proofs.Drafts.{next_holder, holder_turned}
use Rattle.af_enough_law.proofs.Ends.{IsInOrder}
use Rattle.af_enough_law.proofs.NormalRounds.{TurnMade}
use Rattle.af_enough_law.proofs.CommandsGo.{OpenTurn}
use Rattle.af_enough_law.proofs.FoundReports.{found_reported}
use Rattle.af_enough_law.proofs.Following.{greeted_in}
use Rattle.af_enough_law.proofs.Foreseen.{Foreseen, KeepsTo, keeps_to}
use Rattle.af_enough_law.proofs.Generations.{greeted_lent, greeted_same}
use Rattle.af_enough_law.proofs.HomeRounds.{keeps_of}
use Rattle.af_enough_law.proofs.StatesHold.{beyond_draft}
use Rattle.af_enough_law.proofs.LeftEntries.{IsOut, SaysOpen}
use Rattle.af_enough_law.proofs.LeftFound.{Flowing, FoundOpen, found_open}
use Rattle.af_enough_law.proofs.LentRounds.{LentCarried, heard_away, heard_opened, draft_item}
use Rattle.af_enough_law.proofs.LentTurns.{turn_leaves}
use Rattle.af_enough_law.proofs.Lookahead.{ended_seen as ended_by, Coming, missed}
use Rattle.af_enough_law.proofs.Orders.{lent_carried}
use Rattle.af_enough_law.proofs.SessionRounds.{turn_of, turn_runs, session_carried}
use Rattle.af_enough_law.proofs.Slots.{slot_stays}
use Rattle.af_enough_law.proofs.TrackCarried.{TrackCarried}
use Rattle.af_enough_law.proofs.TurnLives.{unshut_turned}
use Rattle.af_enough_law.proofs.LastStates.{state_last}

-- a draft has nothing of a track that is returning
pub draft_out : (m : NormalKept) (i slot : ℕ) → IsInOrder m → (track_at m.tracks i).holder ≡ Returning → slot_number (track_at m.tracks i) ≡ slot → IsOut slot i m.draft
draft_out m i slot order back number = record {
  free = ap (carries m.draft) (sym number) ∙ (order.sound.drafted i).returning (ap is_returning back);
  none = λ j low carried same.
      let o = order.owned j low carried in
      let at = lent_carried m o.owner order.sound o.lent in
      let owner : o.owner ≡ i = sym at.1 ∙ ap (λ (n : ℕ). (slot_of m.draft n).track) o.slot_is ∙ same in
      true≢false (sym o.lent ∙ ap (λ (n : ℕ). is_lent (track_at m.tracks n).holder) owner ∙ ap is_lent back);
}

module _ (s : Session) (marks : Marks) (scales : All (λ (x : Setting). x.scale ≤ 4096) (setup_of s).settings) (long : length (setup_of s).settings ≡ track_count s) (run : Run) (round : RoundSeen) (legal : LegalRound false s marks run round) (c : SessionCarried s run)
    (i most total : ℕ) (named : i < track_count s) (lawful : marks.commands i ≡ true) (track : TrackCarried run i most total) (slot : ℕ) (item : FastTrack) (l : LentCarried s run i slot item)
    (leaves : is_lent (track_at (after_round s run round).normal.tracks i).holder ≡ false) (next : RoundSeen) (legal_next : LegalRound false s marks (after_round s run round) next) where
  abbrev t : TurnMade s marks run round
  t = turn_of s marks scales long run round legal c.stands

  pub runs : t.turn.ended ≡ false
  runs = turn_runs s marks scales long run round legal c.stands

  abbrev after : Run
  after = after_round s run round

  abbrev turned : NormalKept
  turned = turn_after (setup_of s) (learnt t.by.outside) run.normal t.turn

  abbrev g : TrackKept
  g = greeted_in run.normal t.turn i

  pub low_run : i < length run.tracks
  low_run = let a = c.stands.tracks in omega (arith, a, named)

  pub there : i < length run.normal.tracks
  there = let a = c.stands.kept in omega (arith, a, named)

  left_by : (b : Bool) → is_lent (if b then Lent else Returning) ≡ false → (b ≡ false) × ((if b then Lent else Returning) ≡ Returning)
  left_by true e = absurd (true≢false e)
  left_by false e = (refl, refl)

  -- the track's proxy is on its way home, and the track is not to be heard
  pub left : (plays (track_at after.normal.tracks i).life ≡ false) × ((track_at after.normal.tracks i).holder ≡ Returning)
  left =
      let u : TrackKept = track_at turned.tracks i in
      let is : u.holder ≡ (if plays u.life then Lent else Returning) = holder_turned (setup_of s) (learnt t.by.outside) run.normal t.turn i there runs ∙ ap (next_holder (plays u.life) (is_some u.slot)) (greeted_lent t.turn.ack run.normal.last (track_at run.normal.tracks i) l.lent) in
      let b = left_by (plays u.life) (ap is_lent (sym is) ∙ ap (λ (m : NormalKept). is_lent (track_at m.tracks i).holder) (sym t.after) ∙ leaves) in
      (ap (λ (m : NormalKept). plays (track_at m.tracks i).life) t.after ∙ b.0, ap (λ (m : NormalKept). (track_at m.tracks i).holder) t.after ∙ is ∙ b.1)

  pub slot_turned : (track_at turned.tracks i).slot ≡ Some slot
  slot_turned = slot_stays (setup_of s) (learnt t.by.outside) run.normal t.turn i there runs (heard_opened track.on.count track.on.told (track_at run.normal.tracks i).life track.on.follows.course l.heard) ∙ l.slot_is

  pub slot_then : (track_at after.normal.tracks i).slot ≡ Some slot
  slot_then = ap (λ (m : NormalKept). (track_at m.tracks i).slot) t.after ∙ slot_turned

  few : length run.normal.tracks ≤ length (setup_of s).settings
  few = let a = c.stands.kept in omega (arith, a, long)

  pub there_then : i < length after.normal.tracks
  there_then = let a = session.stands.kept in omega (arith, a, named)
    where
      over : is_over after.normal.tracks ≡ false
      over = not_over after.normal.tracks i (let a = ap (λ (m : NormalKept). length m.tracks) t.after in let b = turn_len (setup_of s) (learnt t.by.outside) run.normal t.turn in let d = there in omega (arith, a, b, d)) (ap is_home left.1)

      session : SessionCarried s after
      session = session_carried s marks scales long run round legal c.stands over

  -- the session goes on
  pub session : SessionCarried s after
  session = session_carried s marks scales long run round legal c.stands (not_over after.normal.tracks i there_then (ap is_home left.1))

  pub flowing : Flowing s run i slot item
  flowing = record {
    there = low_run;
    some = (let a = ((c.stands.order.sound.slotted i).slot (ap is_some l.slot_is)).0 in let b = ap number_of l.slot_is in omega (arith, a, b));
    low = l.low;
    is = ap (λ (x : FastTrack). x.track) l.item_is;
    states = l.some;
    last = state_last run.states (cycle_frames s) run.normal.last l.some c.stands.last;
    plays = l.last;
    draft = inl (draft_item s run i slot item c.stands.order c.stands.items l.lent l.slot_is l.item_is);
    told = l.told;
    quiet = track.calm.stream;
    going = c.stands.going;
    knows = c.states;
  }

  pub out_then : IsOut slot i after.normal.draft
  out_then = draft_out after.normal i slot session.stands.order left.1 (ap number_of slot_then)

  -- a state that the turn pushes has nothing of the track
  pub out_pushed : (m : ℕ) (y : FastState) → length run.states < m → state_of after.states m ≡ Some y → IsOut slot i y
  out_pushed m y above is = subst (IsOut slot i) (sym (beyond_draft s marks scales long run round legal c.stands m y above is)) out_then

  pub keeps : KeepsTo run i
  keeps = keeps_of run i track.known_stream track.known_commands track.calm

  pub keeps_then : KeepsTo after i
  keeps_then = keeps_to false s marks run round t i low_run named legal keeps

  pub returning : is_returning (track_at after.normal.tracks i).holder ≡ true
  returning = ap is_returning left.1

  -- if the proxy missed the meeting, it is home after the next round, if it isn't to be heard then
  pub coming : takes_part s (met_after s run round) i ≡ false → Coming after slot
  coming none = missed s marks scales long run round legal c i slot item l.last l.low (ap (λ (x : FastTrack). x.track) l.item_is) l.some (state_last run.states (cycle_frames s) run.normal.last l.some c.stands.last) out_then.free (ends_part s (met_after s run round) i ∙ none)

  -- what was done to the stream of a track whose life has ended is told by this round's history or the next one's
  pub ended_seen : (track_at after.normal.tracks i).life.ended ≡ true → Foreseen (told_at after i).stream
  ended_seen ended = ended_by s marks scales long run round next t i slot low_run named legal legal_next session keeps returning (ap number_of slot_then) coming ended

  pub away : is_home g.holder ≡ false
  away = ap is_home (greeted_lent t.turn.ack run.normal.last (track_at run.normal.tracks i) l.lent)

  -- by such a history the reports say that the server is open
  pub open_by : Foreseen (told_at after i).stream → FoundOpen s run round i slot item
  open_by seen = found_open s marks run round i slot item legal flowing out_pushed (turn_leaves s marks run round t i low_run there runs away (ap is_some slot_turned)) seen

  report_open : Foreseen (told_at after i).stream → SaysOpen (slot_reported (learnt t.by.outside) g) item
  report_open seen = found_reported s marks run round legal c.stands c.reports t runs i slot l.slot_is (λ r. SaysOpen r item) (open_by seen).found

  same_generation : item.generation ≡ g.generation
  same_generation = ap (λ (x : FastTrack). x.generation) l.item_is ∙ sym (greeted_same t.turn.ack run.normal.last (track_at run.normal.tracks i)).generation

  open_heard : Foreseen (told_at after i).stream → (heard (learnt t.by.outside) i g).known.shut ≡ false
  open_heard seen = let r = report_open seen in heard_away ((learnt t.by.outside).own i) (slot_reported (learnt t.by.outside) g) g away (r.generation ∙ same_generation) r.unshut

  -- the turn doesn't hear that the track's stream is shut: else its life would have ended, and what was done to the stream would be told
  pub left_open : OpenTurn s marks run round i t
  left_open = record { low = low_run; named = named; there = there; lawful = lawful; runs = runs; unshut = unshut_turned (setup_of s) (learnt t.by.outside) run.normal t.turn i there runs (λ over. open_heard (ended_seen (ap (λ (m : NormalKept). (track_at m.tracks i).life.ended) t.after ∙ over))) }
