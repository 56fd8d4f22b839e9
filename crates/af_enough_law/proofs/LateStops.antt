-- The round in which a proxy leaves that the last state plays, whether the fast mixer had it before or not: its turn doesn't hear that the stream is shut.
use Rattle.std.proofs.Common.{◌≡◌, ◌⊎◌, inl, inr, ℕ, ◌≤◌, ◌<◌, is_some, true, false, All, Some, length, sym, ap, ◌∙◌, subst, arith}
use Rattle.af_enough_law.proofs.Common.{FastState, FastTrack, Heard, LegalRound, Marks, NormalKept, Returning, RoundSeen, Run, Session, Setting, TrackKept, after_round, after_turn, before_turn, cycle_frames, ends_part, is_home, is_lent, is_returning, learnt, met_after, number_of, plays, server_list, setup_of, slot_reported, state_of, takes_part, told_at, track_at, track_count, turn_after}
use Rattle.af_enough_law.proofs.Carried.{SessionCarried}
use Rattle.af_enough_law.proofs.Drafts.{PushMade}
use Rattle.af_enough_law.proofs.FastWords.{slot_told}
use Rattle.af_enough_law.proofs.NormalRounds.{TurnMade}
use Rattle.af_enough_law.proofs.AdoptRounds.{away_heard}
use Rattle.af_enough_law.proofs.AwayKeeps.{StaysOpen, open_then, away_turn}
use Rattle.af_enough_law.proofs.AwayRounds.{AwayTurn}
use Rattle.af_enough_law.proofs.Commanding.{le_cases}
use Rattle.af_enough_law.proofs.FoundReports.{found_reported}
use Rattle.af_enough_law.proofs.Following.{greeted_in}
use Rattle.af_enough_law.proofs.Foreseen.{Foreseen, part_seen}
use Rattle.af_enough_law.proofs.Generations.{Attached, greeted_lent, greeted_same, attached_stays}
use Rattle.af_enough_law.proofs.HomeRounds.{IsNamed}
use Rattle.af_enough_law.proofs.StatesHold.{beyond_draft}
use Rattle.af_enough_law.proofs.LeftEarly.{left_back}
use Rattle.af_enough_law.proofs.LeftEntries.{IsOut}
use Rattle.af_enough_law.proofs.LeftRounds.{draft_out}
use Rattle.af_enough_law.proofs.Lending.{WasOpen, slotted_opened}
use Rattle.af_enough_law.proofs.LentRounds.{draft_item}
use Rattle.af_enough_law.proofs.LentTurns.{turn_leaves}
use Rattle.af_enough_law.proofs.Lookahead.{Coming, held_on, passed, greeted_coming, home_then, seen_before}
use Rattle.af_enough_law.proofs.MeetReports.{SaysOpenOf, NamesTrack}
use Rattle.af_enough_law.proofs.MeetRounds.{Meeting, meets_open}
use Rattle.af_enough_law.proofs.QueueRounds.{acks_states}
use Rattle.af_enough_law.proofs.SessionRounds.{turn_of, turn_runs, push_of}
use Rattle.af_enough_law.proofs.Slots.{slot_stays}
use Rattle.af_enough_law.proofs.StartRounds.{PushedLast}
use Rattle.af_enough_law.proofs.StreamCalm.{IsQuiet}
use Rattle.af_enough_law.proofs.LastStates.{state_last}

module _ (s : Session) (marks : Marks) (scales : All (λ (x : Setting). x.scale ≤ 4096) (setup_of s).settings) (long : length (setup_of s).settings ≡ track_count s) (run : Run) (round : RoundSeen) (legal : LegalRound false s marks run round) (c : SessionCarried s run) (i : ℕ) (named : i < track_count s) (lawful : marks.commands i ≡ true)
    (slot : ℕ) (item : FastTrack) (p : PushedLast s run i slot item) (leaves : is_lent (track_at (after_round s run round).normal.tracks i).holder ≡ false) (c_after : SessionCarried s (after_round s run round)) where
  abbrev t : TurnMade s marks run round
  t = turn_of s marks scales long run round legal c.stands

  goes : t.turn.ended ≡ false
  goes = turn_runs s marks scales long run round legal c.stands

  abbrev after : Run
  after = after_round s run round

  abbrev g : TrackKept
  g = greeted_in run.normal t.turn i

  pub low_run : i < length run.tracks
  low_run = let a = c.stands.tracks in omega (arith, a, named)

  there : i < length run.normal.tracks
  there = let a = c.stands.kept in omega (arith, a, named)

  pub named_run : IsNamed s marks run i
  named_run = record { low = low_run; named = named; there = there; lawful = lawful }

  -- the track's proxy is on its way home, in the same slot
  pub back : (track_at after.normal.tracks i).holder ≡ Returning
  back = left_back s marks scales long run round legal c.stands i named p.lending.lent leaves

  slot_turned : (track_at (turn_after (setup_of s) (learnt t.by.outside) run.normal t.turn).tracks i).slot ≡ Some slot
  slot_turned = slot_stays (setup_of s) (learnt t.by.outside) run.normal t.turn i there goes (slotted_opened (track_at run.normal.tracks i) slot (c.stands.order.sound.slotted i) p.lending.slot_is) ∙ p.lending.slot_is

  pub slot_then : (track_at after.normal.tracks i).slot ≡ Some slot
  slot_then = ap (λ (m : NormalKept). (track_at m.tracks i).slot) t.after ∙ slot_turned

  pub generation_then : item.generation ≡ (track_at after.normal.tracks i).generation
  generation_then =
      ap (λ (x : FastTrack). x.generation) p.lending.item_is ∙ sym (attached_stays (setup_of s) (learnt t.by.outside) run.normal t.turn i there goes p.lending.lent).generation ∙ ap (λ (m : NormalKept). (track_at m.tracks i).generation) (sym t.after)

  pub track_is : item.track ≡ i
  track_is = ap (λ (x : FastTrack). x.track) p.lending.item_is

  pub out_then : IsOut slot i after.normal.draft
  out_then = draft_out after.normal i slot c_after.stands.order back (ap number_of slot_then)

  pub last_is : state_of run.states (length run.states) ≡ Some run.normal.last
  last_is = state_last run.states (cycle_frames s) run.normal.last p.some c.stands.last

  pub made : PushMade run.normal after.normal t.turn.push
  made = push_of s marks scales long run round legal c.stands

  -- a state that the turn pushes has nothing of the track
  pub out_pushed : (m : ℕ) (y : FastState) → length run.states < m → state_of after.states m ≡ Some y → IsOut slot i y
  out_pushed m y above is = subst (IsOut slot i) (sym (beyond_draft s marks scales long run round legal c.stands m y above is)) out_then

  -- the track's proxy takes part in the meeting, or it is coming
  pub part_or : (after.current ≡ length run.states) ⊎ (length run.states < after.current)
  part_or = le_cases (length run.states) after.current (acks_states s marks run round legal c.stands.going c.states)

  pub part_at : after.current ≡ length run.states → takes_part s (met_after s run round) i ≡ true
  part_at at = sym (ends_part s (met_after s run round) i) ∙ held_on s marks scales long run round legal c i slot item p.last p.lending.low track_is p.some last_is at

  pub coming : length run.states < after.current → Coming after slot
  coming above = passed s marks scales long run round legal c i slot item p.last p.lending.low track_is p.some last_is out_then.free above

  -- ## What was done to its stream

  module _ (o : StaysOpen run i) (next : RoundSeen) (legal_next : LegalRound false s marks after next) (silent : plays (track_at (after_round s after next).normal.tracks i).life ≡ false) where
    -- a proxy that is coming is home after the next round
    pub home_next : length run.states < after.current → is_home (track_at (after_round s after next).normal.tracks i).holder ≡ true
    home_next above = home_then s marks scales long after next legal_next c_after i named (greeted_coming s marks scales long after next legal_next c_after i named slot (coming above) (ap is_returning back) (ap number_of slot_then)) silent

    -- what was done to the stream is told by the history of this round or of the next one
    pub left_seen : Foreseen (told_at after i).stream
    left_seen = by part_or
      where
        by : (after.current ≡ length run.states) ⊎ (length run.states < after.current) → Foreseen (told_at after i).stream
        by (inl at) = part_seen false s marks run round t i low_run named legal o.keeps (part_at at)
        by (inr above) = seen_before s marks scales long after next legal_next c_after i named (open_then false s marks run round i t legal named_run goes o).keeps (home_next above)

    away : is_home g.holder ≡ false
    away = ap is_home (greeted_lent t.turn.ack run.normal.last (track_at run.normal.tracks i) p.lending.lent)

    pub turn_adds : server_list (told_at (after_turn s run round) i).stream ≡ server_list (told_at (before_turn s run round) i).stream
    turn_adds = turn_leaves s marks run round t i low_run there goes away (ap is_some slot_turned)

    -- the turn doesn't hear that it is shut, and the round is judged by that history
    pub left_turn : IsQuiet (told_at run i).stream.shape (server_list (told_at run i).stream) → WasOpen run i → SaysOpenOf item (slot_told run slot) → 2 ≤ (track_at run.normal.tracks i).life.retries → AwayTurn s marks run round i t
    left_turn quiet was says two = away_turn false s marks run round i t legal named_run goes o left_seen quiet two (λ alive. away_heard ((learnt t.by.outside).own i) (slot_reported (learnt t.by.outside) g) g away report (ap (λ (h : Heard). h.known.shut) same.at_attach ∙ was))
      where
        same : Attached (track_at run.normal.tracks i) g
        same = greeted_same t.turn.ack run.normal.last (track_at run.normal.tracks i)

        meeting : Meeting s run i slot item
        meeting = record {
          there = low_run;
          some = (let a = ((c.stands.order.sound.slotted i).slot (ap is_some p.lending.slot_is)).0 in let b = ap number_of p.lending.slot_is in omega (arith, a, b));
          low = p.lending.low;
          is = track_is;
          named = subst (NamesTrack i slot item) (sym c.stands.last) (λ carried same. ap (λ (x : FastTrack). x.track) p.last.is ∙ track_is);
          draft = draft_item s run i slot item c.stands.order c.stands.items p.lending.lent p.lending.slot_is p.lending.item_is;
          says = says;
          quiet = quiet;
          going = c.stands.going;
          knows = c.states;
        }

        report : (slot_reported (learnt t.by.outside) g).generation ≡ g.generation → (slot_reported (learnt t.by.outside) g).shut ≡ false
        report e =
            found_reported s marks run round legal c.stands c.reports t goes i slot p.lending.slot_is (SaysOpenOf item) (meets_open s marks run round i slot item legal meeting (λ k y above is. inr (out_pushed k y above is)) turn_adds left_seen) (e ∙ same.generation ∙ sym (ap (λ (x : FastTrack). x.generation) p.lending.item_is))
