-- A round of a stopped track: its turn doesn't hear that its stream is shut, wherever its proxy is, and leaves the proxy in such a place. What isn't told by the history of this round is told by that of the next one.
use Rattle.std.proofs.Common.{◌≡◌, ◌⊎◌, inl, inr, ℕ, ◌≤◌, ◌<◌, ◌==◌, is_some, Bool, true, false, true≢false, All, Some, ◌++◌, length, length-append, refl, sym, ap, ◌∙◌, subst, arith}
use Rattle.af_enough_law.proofs.Common.{FastState, FastTrack, Home, LegalRound, Marks, NormalKept, Returning, RoundSeen, Run, Session, Setting, SlotReport, TrackKept, after_round, carries, cycle_frames, ends_part, heard, is_home, is_returning, learnt, met_after, number_of, plays, setup_of, slot_reported, slots, state_beyond, state_more, state_of, takes_part, told_at, track_at, track_count, turn_after, turn_len}
use Rattle.af_enough_law.proofs.Basics.{not_over, some_is, stays_home}
use Rattle.af_enough_law.proofs.Acks.{KnowsAcked, turn_sees_ack}
use Rattle.af_enough_law.proofs.Carried.{SessionCarried}
use Rattle.af_enough_law.proofs.Drafts.{next_holder, is_busy, PushMade, holder_turned}
use Rattle.af_enough_law.proofs.Ends.{IsInOrder}
use Rattle.af_enough_law.proofs.FastWords.{Plays, IsTold, slot_told}
use Rattle.af_enough_law.proofs.NormalRounds.{TurnMade}
use Rattle.af_enough_law.proofs.CommandsGo.{OpenTurn}
use Rattle.af_enough_law.proofs.Commanding.{le_cases}
use Rattle.af_enough_law.proofs.EndRounds.{order_round}
use Rattle.af_enough_law.proofs.FoundReports.{found_reported}
use Rattle.af_enough_law.proofs.FastPolls.{round_states, turn_more}
use Rattle.af_enough_law.proofs.Following.{greeted_in}
use Rattle.af_enough_law.proofs.Foreseen.{Foreseen, KeepsTo, part_seen, seen_earlier}
use Rattle.af_enough_law.proofs.Generations.{greeted_same, attached_away}
use Rattle.af_enough_law.proofs.StatesHold.{beyond_draft}
use Rattle.af_enough_law.proofs.LeftEntries.{IsOut, SaysOpen}
use Rattle.af_enough_law.proofs.LeftFound.{Flowing, FoundOpen, found_open}
use Rattle.af_enough_law.proofs.LeftRounds.{draft_out}
use Rattle.af_enough_law.proofs.LentRounds.{heard_away}
use Rattle.af_enough_law.proofs.LentTurns.{turn_leaves}
use Rattle.af_enough_law.proofs.Lookahead.{ended_seen, Coming, missed, greeted_coming, home_then, round_later}
use Rattle.af_enough_law.proofs.SessionRounds.{turn_of, turn_runs, push_of, session_carried}
use Rattle.af_enough_law.proofs.Slots.{course_opened, slot_stays}
use Rattle.af_enough_law.proofs.StoppedPlaces.{Place, at_home, comes, waits, unpushed, home_is, greeted_or, greeted_stays}
use Rattle.af_enough_law.proofs.StoppedReports.{AllOut, SameSlot, slot_untouched}
use Rattle.af_enough_law.proofs.StoppedTracks.{StoppedCarried, home_open}
use Rattle.af_enough_law.proofs.TurnLives.{unshut_turned}
use Rattle.af_enough_law.proofs.LastStates.{state_last}

not_zero : (n : ℕ) → 3 ≤ n → (n == 0) ≡ false
not_zero n some = search (arith, some)

module _ (s : Session) (marks : Marks) (scales : All (λ (x : Setting). x.scale ≤ 4096) (setup_of s).settings) (long : length (setup_of s).settings ≡ track_count s) (run : Run) (round : RoundSeen) (legal : LegalRound false s marks run round) (c : SessionCarried s run)
    (i most total : ℕ) (named : i < track_count s) (lawful : marks.commands i ≡ true) (z : StoppedCarried run i most total) (two : 2 ≤ (track_at run.normal.tracks i).life.retries)
    (slot : ℕ) (item : FastTrack) (low_slot : slot < slots) (item_is : item.track ≡ i) (slot_is : (track_at run.normal.tracks i).slot ≡ Some slot) (next : RoundSeen) (legal_next : LegalRound false s marks (after_round s run round) next) where
  abbrev t : TurnMade s marks run round
  t = turn_of s marks scales long run round legal c.stands

  abbrev after : Run
  after = after_round s run round

  abbrev g : TrackKept
  g = greeted_in run.normal t.turn i

  abbrev n : ℕ
  n = length run.states

  runs : t.turn.ended ≡ false
  runs = turn_runs s marks scales long run round legal c.stands

  low : i < length run.tracks
  low = let a = c.stands.tracks in omega (arith, a, named)

  there : i < length run.normal.tracks
  there = let a = c.stands.kept in omega (arith, a, named)

  few : length run.normal.tracks ≤ length (setup_of s).settings
  few = let a = c.stands.kept in omega (arith, a, long)

  order_then : IsInOrder after.normal
  order_then = order_round s marks scales run round legal c.stands.runs t runs few c.stands.order

  some_slot : 0 < slot
  some_slot = let a = ((c.stands.order.sound.slotted i).slot (ap is_some slot_is)).0 in let b = ap number_of slot_is in omega (arith, a, b)

  slot_turned : (track_at (turn_after (setup_of s) (learnt t.by.outside) run.normal t.turn).tracks i).slot ≡ Some slot
  slot_turned = slot_stays (setup_of s) (learnt t.by.outside) run.normal t.turn i there runs (course_opened z.on.count z.on.told (track_at run.normal.tracks i).life z.on.follows.course (not_zero z.on.told z.told)) ∙ slot_is

  -- the track's slot stays
  pub stopped_slot : (track_at after.normal.tracks i).slot ≡ Some slot
  stopped_slot = ap (λ (m : NormalKept). (track_at m.tracks i).slot) t.after ∙ slot_turned

  made : PushMade run.normal after.normal t.turn.push
  made = push_of s marks scales long run round legal c.stands

  first : 1 ≤ n → state_of run.states n ≡ Some run.normal.last
  first some = state_last run.states (cycle_frames s) run.normal.last some c.stands.last

  -- ## A proxy that stays away

  module _ (back : g.holder ≡ Returning) where
    away : is_home g.holder ≡ false
    away = ap is_home back

    back_then : (track_at after.normal.tracks i).holder ≡ Returning
    back_then = let u : TrackKept = track_at (turn_after (setup_of s) (learnt t.by.outside) run.normal t.turn).tracks i in
        ap (λ (m : NormalKept). (track_at m.tracks i).holder) t.after ∙ holder_turned (setup_of s) (learnt t.by.outside) run.normal t.turn i there runs ∙ ap (next_holder (plays u.life) (is_some u.slot)) back

    out_then : IsOut slot i after.normal.draft
    out_then = draft_out after.normal i slot order_then back_then (ap number_of stopped_slot)

    generation_then : item.generation ≡ (track_at run.normal.tracks i).generation → item.generation ≡ (track_at after.normal.tracks i).generation
    generation_then same = same ∙ sym (attached_away (setup_of s) (learnt t.by.outside) run.normal t.turn i there runs away).generation ∙ ap (λ (m : NormalKept). (track_at m.tracks i).generation) (sym t.after)

    same_g : item.generation ≡ (track_at run.normal.tracks i).generation → item.generation ≡ g.generation
    same_g same = same ∙ sym (greeted_same t.turn.ack run.normal.last (track_at run.normal.tracks i)).generation

    -- what the turn pushes has nothing of the track
    pushed_out : (m : ℕ) (y : FastState) → n < m → state_of after.states m ≡ Some y → IsOut slot i y
    pushed_out m y above is = subst (IsOut slot i) (sym (beyond_draft s marks scales long run round legal c.stands m y above is)) out_then

    last_out : IsOut slot i run.normal.last → IsOut slot i after.normal.last
    last_out out = by (is_busy t.turn.push) refl
      where
        by : (b : Bool) → is_busy t.turn.push ≡ b → IsOut slot i after.normal.last
        by true busy = subst (IsOut slot i) (sym (made.busy busy).3) out
        by false free = subst (IsOut slot i) (sym (made.done free).1) out_then

    more_states : 1 ≤ n → 1 ≤ length after.states
    more_states some = let a = ap length (round_states s run round ∙ (turn_more s run round).whole) in let b = length-append run.states (turn_more s run round).more in omega (arith, a, b, some)

    -- ## If the last state has nothing of the track

    module _ (same : item.generation ≡ (track_at run.normal.tracks i).generation) (some : 1 ≤ n) (out : IsOut slot i run.normal.last) (says : SaysOpen (slot_told run slot) item) where
      all_before : AllOut slot i n run
      all_before m y high is = by (le_cases n m high)
        where
          by : (m ≡ n) ⊎ (n < m) → IsOut slot i y
          by (inl at) = subst (IsOut slot i) (some_is run.normal.last y (sym (first some) ∙ ap (state_of run.states) (sym at) ∙ is)) out
          by (inr above) = absurd (true≢false (sym (ap is_some is) ∙ ap is_some (state_beyond run.states m above)))

      all_after : AllOut slot i n after
      all_after m y high is = by (le_cases n m high)
        where
          whole : after.states ≡ run.states ++ (turn_more s run round).more
          whole = round_states s run round ∙ (turn_more s run round).whole

          by : (m ≡ n) ⊎ (n < m) → IsOut slot i y
          by (inl at) =
              let there : state_of after.states n ≡ Some run.normal.last = ap (λ l. state_of l n) whole ∙ state_more run.states (turn_more s run round).more n (omega arith) ∙ first some in
              subst (IsOut slot i) (some_is run.normal.last y (sym there ∙ ap (state_of after.states) (sym at) ∙ is)) out
          by (inr above) = pushed_out m y above is

      kept : SameSlot s run round slot
      kept = slot_untouched s marks run round i slot legal c.stands.going c.states some_slot low_slot some all_after all_before

      report : slot_reported (learnt t.by.outside) g ≡ slot_told run slot
      report = found_reported s marks run round legal c.stands c.reports t runs i slot slot_is (λ r. r ≡ slot_told run slot) kept.found

      waits_open : OpenTurn s marks run round i t
      waits_open = record {
        low = low;
        named = named;
        there = there;
        lawful = lawful;
        runs = runs;
        unshut = λ alive. heard_away ((learnt t.by.outside).own i) (slot_reported (learnt t.by.outside) g) g away (ap (λ (r : SlotReport). r.generation) report ∙ says.generation ∙ same_g same) (ap (λ (r : SlotReport). r.shut) report ∙ says.unshut);
      }

      waits_then : Place s after i slot item
      waits_then = waits back_then (generation_then same) (more_states some) (last_out out) (subst (λ (r : SlotReport). SaysOpen r item) (sym kept.last) says)

    -- ## If the last state still carries the track, and is known to be acknowledged

    module _ (held : (track_at run.normal.tracks i).holder ≡ Returning) (same : item.generation ≡ (track_at run.normal.tracks i).generation) (acked : KnowsAcked run) (some : 1 ≤ n) (last : Plays slot item run.normal.last) (told : IsTold run i slot item) where
      free : is_busy t.turn.push ≡ false
      free = (turn_sees_ack false s marks run round legal c.stands.runs acked t).1 runs

      keeps : KeepsTo run i
      keeps = record { few = z.few; spelled = z.commands.spelled; pokeless = z.commands.pokeless; flushless = z.commands.flushless }

      there_then : i < length after.normal.tracks
      there_then = let a = ap (λ (m : NormalKept). length m.tracks) t.after in let b = turn_len (setup_of s) (learnt t.by.outside) run.normal t.turn in let d = there in omega (arith, a, b, d)

      session : SessionCarried s after
      session = session_carried s marks scales long run round legal c.stands (not_over after.normal.tracks i there_then (ap is_home back_then))

      flowing : Foreseen (told_at after i).stream → Flowing s run i slot item
      flowing seen = record {
        there = low;
        some = some_slot;
        low = low_slot;
        is = item_is;
        states = some;
        last = first some;
        plays = last;
        draft = inr (draft_out run.normal i slot c.stands.order held (ap number_of slot_is));
        told = told;
        quiet = z.quiet (seen_earlier (told_at run i).stream (told_at after i).stream (round_later s run round i low) seen);
        going = c.stands.going;
        knows = c.states;
      }

      missing : takes_part s (met_after s run round) i ≡ false → Coming after slot
      missing none = missed s marks scales long run round legal c i slot item last low_slot item_is some (first some) out_then.free (ends_part s (met_after s run round) i ∙ none)

      open_by : Foreseen (told_at after i).stream → FoundOpen s run round i slot item
      open_by seen = found_open s marks run round i slot item legal (flowing seen) pushed_out (turn_leaves s marks run round t i low there runs away (ap is_some slot_turned)) seen

      report_open : Foreseen (told_at after i).stream → SaysOpen (slot_reported (learnt t.by.outside) g) item
      report_open seen = found_reported s marks run round legal c.stands c.reports t runs i slot slot_is (λ r. SaysOpen r item) (open_by seen).found

      unpushed_open : OpenTurn s marks run round i t
      unpushed_open = record { low = low; named = named; there = there; lawful = lawful; runs = runs; unshut = unshut_turned (setup_of s) (learnt t.by.outside) run.normal t.turn i there runs unless }
        where
          heard_open : Foreseen (told_at after i).stream → (heard (learnt t.by.outside) i g).known.shut ≡ false
          heard_open seen = let r = report_open seen in heard_away ((learnt t.by.outside).own i) (slot_reported (learnt t.by.outside) g) g away (r.generation ∙ same_g same) r.unshut

          unless : (track_at (turn_after (setup_of s) (learnt t.by.outside) run.normal t.turn).tracks i).life.ended ≡ true → (heard (learnt t.by.outside) i g).known.shut ≡ false
          unless over = heard_open (ended_seen s marks scales long run round next t i slot low named legal legal_next session keeps (ap is_returning back_then) (ap number_of stopped_slot) missing (ap (λ (m : NormalKept). (track_at m.tracks i).life.ended) t.after ∙ over))

      unpushed_then : Place s after i slot item
      unpushed_then = by (takes_part s (met_after s run round) i) refl
        where
          by : (b : Bool) → takes_part s (met_after s run round) i ≡ b → Place s after i slot item
          by true part = waits back_then (generation_then same) (more_states some) (subst (IsOut slot i) (sym (made.done free).1) out_then) (open_by (part_seen false s marks run round t i low named legal keeps part)).last
          by false none = comes back_then (missing none)

  -- ## All places

  -- what a round makes of a place: the turn doesn't hear that the stream is shut, and leaves the proxy in a place
  pub record PlaceGone : Type 0 where
    pub turn : OpenTurn s marks run round i t
    pub place : plays (track_at after.normal.tracks i).life ≡ false → Place s after i slot item

  home_gone : g.holder ≡ Home → PlaceGone
  home_gone home = record {
    turn = home_open s marks scales long run round legal c i most total named lawful z two home;
    place = λ out. at_home (home_is (track_at after.normal.tracks i).holder (home_then s marks scales long run round legal c i named home out));
  }

  pub place_gone : Place s run i slot item → PlaceGone
  place_gone (at_home home) = home_gone (home_is g.holder (stays_home t.turn.ack run.normal.last (track_at run.normal.tracks i) (ap is_home home)))
  place_gone (comes back coming) = home_gone (greeted_coming s marks scales long run round legal c i named slot coming (ap is_returning back) (ap number_of slot_is))
  place_gone (waits back same some out says) = by (greeted_or t.turn.ack run.normal.last (track_at run.normal.tracks i) back)
    where
      by : (g.holder ≡ Home) ⊎ (g.holder ≡ Returning) → PlaceGone
      by (inl home) = home_gone home
      by (inr away) = record { turn = waits_open away same some out says; place = λ silent. waits_then away same some out says }
  place_gone (unpushed back same acked some last told) =
      let away : g.holder ≡ Returning = greeted_stays t.turn.ack run.normal.last (track_at run.normal.tracks i) (ap (carries run.normal.last) (ap number_of slot_is) ∙ last.carried) ∙ back in
      record { turn = unpushed_open away back same acked some last told; place = λ silent. unpushed_then away back same acked some last told }
