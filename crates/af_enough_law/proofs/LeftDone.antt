-- The round in which a lent track leaves makes it a stopped one, whose proxy is on its way.
use Rattle.std.proofs.Common.{◌≡◌, ◌⊎◌, inl, inr, ℕ, zero, suc, ◌≤◌, ◌<◌, is_some, Bool, true, false, true≢false, All, Some, List, [], ◌++◌, length, length-append, refl, sym, ap, ◌∙◌, subst, arith}
use Rattle.af_enough_law.proofs.Common.{Active, ClientEvent, FastState, FastTrack, LegalRound, Life, Marks, NormalKept, Returning, RoundSeen, Run, Session, Setting, Shape, after_round, client_list, cycle_frames, ends_part, is_lent, learnt, met_after, plays, server_list, setup_of, state_beyond, state_more, state_of, takes_part, told_at, track_at, track_count}
use Rattle.af_enough_law.proofs.Basics.{some_is}
use Rattle.af_enough_law.proofs.Carried.{SessionCarried}
use Rattle.af_enough_law.proofs.Courses.{Course, life_in}
use Rattle.af_enough_law.proofs.Drafts.{is_busy, PushMade}
use Rattle.af_enough_law.proofs.FastWords.{Plays, FlowsIn}
use Rattle.af_enough_law.proofs.NormalRounds.{TurnMade}
use Rattle.af_enough_law.proofs.CommandsGo.{known_then, commands_of}
use Rattle.af_enough_law.proofs.Commanding.{le_cases}
use Rattle.af_enough_law.proofs.CourseGoes.{CourseGone}
use Rattle.af_enough_law.proofs.Coursing.{course_plays}
use Rattle.af_enough_law.proofs.Fair.{calm_drops}
use Rattle.af_enough_law.proofs.FastPolls.{round_states, turn_more}
use Rattle.af_enough_law.proofs.FastReports.{reported}
use Rattle.af_enough_law.proofs.Flushless.{unflushed_none}
use Rattle.af_enough_law.proofs.Foreseen.{part_seen, KeepsTo}
use Rattle.af_enough_law.proofs.Generations.{attached_stays}
use Rattle.af_enough_law.proofs.LeftEntries.{IsOut}
use Rattle.af_enough_law.proofs.LeftGoes as goes
use Rattle.af_enough_law.proofs.LeftGoes.{heard_told}
use Rattle.af_enough_law.proofs.LeftRounds as round_of
use Rattle.af_enough_law.proofs.LentRounds.{LentCarried}
use Rattle.af_enough_law.proofs.LentTurns.{turn_leaves}
use Rattle.af_enough_law.proofs.QueueRounds.{queue_stands, knows_acked}
use Rattle.af_enough_law.proofs.SessionRounds.{turn_of, push_of}
use Rattle.af_enough_law.proofs.StoppedPlaces.{Place, comes, waits, unpushed}
use Rattle.af_enough_law.proofs.StoppedTracks.{StoppedCarried, missed_said}
use Rattle.af_enough_law.proofs.StreamHistories.{part_stream}
use Rattle.af_enough_law.proofs.TrackCarried.{TrackCarried}
use Rattle.af_enough_law.proofs.TrackGoes.{CalmStream}
use Rattle.af_enough_law.proofs.LastStates.{state_last}

-- a track that took two commands or more and isn't to be heard took three
told_three : (count told : ℕ) (l : Life) → 2 ≤ told → Course count told l → plays l ≡ false → 3 ≤ told
told_three count (suc (suc zero)) l some there out = absurd (true≢false (sym (course_plays count 2 l there) ∙ out))
told_three count (suc (suc (suc told))) l some there out = omega arith
told_three count zero l some there out = absurd (let z : ⊥ = omega (arith, some) in z)
told_three count (suc zero) l some there out = absurd (let z : ⊥ = omega (arith, some) in z)

module _ (s : Session) (marks : Marks) (scales : All (λ (x : Setting). x.scale ≤ 4096) (setup_of s).settings) (long : length (setup_of s).settings ≡ track_count s) (run : Run) (round : RoundSeen) (legal : LegalRound false s marks run round) (c : SessionCarried s run)
    (i most total : ℕ) (named : i < track_count s) (lawful : marks.commands i ≡ true) (track : TrackCarried run i most total) (slot : ℕ) (item : FastTrack) (l : LentCarried s run i slot item)
    (leaves : is_lent (track_at (after_round s run round).normal.tracks i).holder ≡ false) (next : RoundSeen) (legal_next : LegalRound false s marks (after_round s run round) next) (two : 2 ≤ (track_at run.normal.tracks i).life.retries) where
  abbrev t : TurnMade s marks run round
  t = turn_of s marks scales long run round legal c.stands

  abbrev after : Run
  after = after_round s run round

  low : i < length run.tracks
  low = round_of.low_run s marks scales long run round legal c i most total named lawful track slot item l leaves next legal_next

  out : (plays (track_at after.normal.tracks i).life ≡ false) × ((track_at after.normal.tracks i).holder ≡ Returning)
  out = round_of.left s marks scales long run round legal c i most total named lawful track slot item l leaves next legal_next

  keeps : KeepsTo run i
  keeps = round_of.keeps s marks scales long run round legal c i most total named lawful track slot item l leaves next legal_next

  stream_then : CalmStream (told_at after i).stream.shape (client_list (told_at after i).stream) []
  stream_then = by (takes_part s (met_after s run round) i) refl
    where
      by : (b : Bool) → takes_part s (met_after s run round) i ≡ b → CalmStream (told_at after i).stream.shape (client_list (told_at after i).stream) []
      by true part = part_stream false s marks run round t i low named legal keeps part
          (goes.quiet_then s marks scales long run round legal c i most total named lawful track slot item l leaves next legal_next two (part_seen false s marks run round t i low named legal keeps part)).calm
          (goes.hands_then s marks scales long run round legal c i most total named lawful track slot item l leaves next legal_next two)
      by false none = subst (λ (k : Shape). CalmStream k (client_list (told_at after i).stream) []) (sym (goes.shape s marks scales long run round legal c i most total named lawful track slot item l leaves next legal_next two))
          (subst (λ (es : List ClientEvent). CalmStream (told_at run i).stream.shape es []) (sym (missed_said s run round i low none)) (goes.left_stream s marks scales long run round legal c i most total named lawful track slot item l leaves next legal_next two))

  -- the track is a stopped one after the round
  pub left_stopped : StoppedCarried after i most total
  left_stopped =
      let gone : CourseGone s marks run round i t track.on.told = goes.left_gone s marks scales long run round legal c i most total named lawful track slot item l leaves next legal_next two in
      let turn = goes.turn s marks scales long run round legal c i most total named lawful track slot item l leaves next legal_next two in
      record {
        known = known_then false s marks run round i t legal track.known_commands (commands_of run i track.known_stream track.known_commands track.calm) turn;
        commands = goes.left_commands s marks scales long run round legal c i most total named lawful track slot item l leaves next legal_next two;
        few = (round_of.keeps_then s marks scales long run round legal c i most total named lawful track slot item l leaves next legal_next).few;
        hands = goes.hands_then s marks scales long run round legal c i most total named lawful track slot item l leaves next legal_next two;
        stream = stream_then;
        quiet = goes.quiet_then s marks scales long run round legal c i most total named lawful track slot item l leaves next legal_next two;
        stands = goes.left_stands s marks scales long run round legal c i most total named lawful track slot item l leaves next legal_next two;
        on = gone.after;
        told = told_three gone.after.count gone.after.told (track_at after.normal.tracks i).life (some_told gone) gone.after.follows.course out.0;
        out = out.0;
      }
    where
      some_told : (gone : CourseGone s marks run round i t track.on.told) → 2 ≤ gone.after.told
      some_told gone = by (heard_told track.on.count track.on.told (track_at run.normal.tracks i).life track.on.follows.course l.heard)
        where
          by : ((track.on.told ≡ 2) × ((track_at run.normal.tracks i).life ≡ life_in Active true false (track_at run.normal.tracks i).life.retries 0)) ⊎ (track.on.told ≡ 3) → 2 ≤ gone.after.told
          by (inl is) = let a = is.0 in let b = gone.next in omega (arith, a, b)
          by (inr is) = let b = gone.next in omega (arith, is, b)

  generation_then : item.generation ≡ (track_at after.normal.tracks i).generation
  generation_then =
      let there = goes.kept s marks scales long run round legal c i most total named lawful track slot item l leaves next legal_next two in
      let runs = round_of.runs s marks scales long run round legal c i most total named lawful track slot item l leaves next legal_next in
      ap (λ (x : FastTrack). x.generation) l.item_is ∙ sym (attached_stays (setup_of s) (learnt t.by.outside) run.normal t.turn i there runs l.lent).generation ∙ ap (λ (m : NormalKept). (track_at m.tracks i).generation) (sym t.after)

  made : PushMade run.normal after.normal t.turn.push
  made = push_of s marks scales long run round legal c.stands

  whole : after.states ≡ run.states ++ (turn_more s run round).more
  whole = round_states s run round ∙ (turn_more s run round).whole

  more_states : 1 ≤ length after.states
  more_states = let a = ap length whole in let b = length-append run.states (turn_more s run round).more in let d = l.some in omega (arith, a, b, d)

  first : state_of run.states (length run.states) ≡ Some run.normal.last
  first = state_last run.states (cycle_frames s) run.normal.last l.some c.stands.last

  -- a busy push leaves the states, and the track with the fast mixer
  busy_place : is_busy t.turn.push ≡ true → takes_part s (met_after s run round) i ≡ true → Place s after i slot item
  busy_place busy part =
      let same = (made.busy busy).2 in
      let now = (queue_stands s marks run round legal c.stands.queue).pushed in
      let before = c.stands.queue.pushed in
      let count : length after.states ≡ length run.states = omega (arith, same, now, before) in
      let to = round_of.keeps_then s marks scales long run round legal c i most total named lawful track slot item l leaves next legal_next in
      let flows : FlowsIn s run round i slot item = record {
        named = named;
        there = low;
        slot = l.low;
        item_is = ap (λ (x : FastTrack). x.track) l.item_is;
        states = (l.some, λ k x high is. by count k x is (le_cases (length run.states) k high));
        fast = c.stands.going;
        knows_states = c.states;
        knows_released = l.released;
        is_open = record { none = calm_drops (server_list (told_at run i).stream) track.calm.stream.calm; unshut = track.calm.stream.unshut };
        few = track.calm.stream_few;
        part = ends_part s (met_after s run round) i ∙ part;
        tame = to.pokeless.stream;
        spelled = to.spelled.stream;
        no_flush = unflushed_none (client_list (told_at after i).stream) to.flushless.stream;
        lent = turn_leaves s marks run round t i low (goes.kept s marks scales long run round legal c i most total named lawful track slot item l leaves next legal_next two)
            (round_of.runs s marks scales long run round legal c i most total named lawful track slot item l leaves next legal_next) (round_of.away s marks scales long run round legal c i most total named lawful track slot item l leaves next legal_next)
            (ap is_some (round_of.slot_turned s marks scales long run round legal c i most total named lawful track slot item l leaves next legal_next));
      } in
      let told = reported s marks run round i slot item legal flows in
      unpushed out.1 generation_then (knows_acked s marks run round legal c.stands.going c.states c.stands.queue count) more_states (subst (Plays slot item) (sym (made.busy busy).3) l.last) told.told
    where
      by : length after.states ≡ length run.states → (k : ℕ) (x : FastState) → state_of after.states k ≡ Some x → (k ≡ length run.states) ⊎ (length run.states < k) → Plays slot item x
      by count k x is (inl at) =
          let there : state_of after.states (length run.states) ≡ Some run.normal.last = ap (λ l. state_of l (length run.states)) whole ∙ state_more run.states (turn_more s run round).more (length run.states) (omega arith) ∙ first in
          subst (Plays slot item) (some_is run.normal.last x (sym there ∙ ap (state_of after.states) (sym at) ∙ is)) l.last
      by count k x is (inr above) = absurd (true≢false (sym (ap is_some is) ∙ ap is_some (state_beyond after.states k (omega (arith, above, count)))))

  -- the track's proxy is on its way
  pub left_place : Place s after i slot item
  left_place = by (takes_part s (met_after s run round) i) refl
    where
      by_push : (b : Bool) → is_busy t.turn.push ≡ b → takes_part s (met_after s run round) i ≡ true → Place s after i slot item
      by_push true busy part = busy_place busy part
      by_push false pushed part =
          let seen = part_seen false s marks run round t i low named legal keeps part in
          waits out.1 generation_then more_states (subst (IsOut slot i) (sym (made.done pushed).1) (round_of.out_then s marks scales long run round legal c i most total named lawful track slot item l leaves next legal_next))
          (round_of.open_by s marks scales long run round legal c i most total named lawful track slot item l leaves next legal_next seen).last

      by : (b : Bool) → takes_part s (met_after s run round) i ≡ b → Place s after i slot item
      by true part = by_push (is_busy t.turn.push) refl part
      by false none = comes out.1 (round_of.coming s marks scales long run round legal c i most total named lawful track slot item l leaves next legal_next none)
