-- A track in its first four rounds: it is home, then lent, and carried as one that flows in the fourth at the latest; or it stays home without a slot.
use Rattle.std.proofs.Common.{◌≡◌, ◌⊎◌, inl, inr, ℕ, ◌≤◌, ◌<◌, ◌&&◌, if◌then◌else◌, is_some, Bool, true, false, true≢false, All, Some, length, refl, sym, ap, ◌∙◌, subst, arith}
use Rattle.af_enough_law.proofs.Common.{FastTrack, Holder, Home, LegalRound, Lent, Life, Marks, NormalKept, RoundSeen, Run, Session, Setting, after_round, calls_in, is_home, learnt, number_of, plays, setup_of, told_at, track_at, track_count, turn_after}
use Rattle.af_enough_law.proofs.Basics.{stays_home}
use Rattle.af_enough_law.proofs.Carried.{SessionStands}
use Rattle.af_enough_law.proofs.Courses.{Course, absent, idle, playing, stopping, drained, stopped, over}
use Rattle.af_enough_law.proofs.Drafts.{next_holder, holder_turned}
use Rattle.af_enough_law.proofs.Ends.{IsInOrder}
use Rattle.af_enough_law.proofs.FastWords.{KnowsReleased}
use Rattle.af_enough_law.proofs.Items.{item_of}
use Rattle.af_enough_law.proofs.NormalRounds.{TurnMade}
use Rattle.af_enough_law.proofs.Playing.{AreFair}
use Rattle.af_enough_law.proofs.AwayKeeps.{open_of}
use Rattle.af_enough_law.proofs.Carrying.{TrackIs, stopped}
use Rattle.af_enough_law.proofs.CommandsGo.{commands_of}
use Rattle.af_enough_law.proofs.EndRounds.{order_round}
use Rattle.af_enough_law.proofs.Following.{greeted_in}
use Rattle.af_enough_law.proofs.Foreseen.{part_seen, home_unshut}
use Rattle.af_enough_law.proofs.HomeRounds.{IsNamed, keeps_of, home_part, home_carried}
use Rattle.af_enough_law.proofs.SessionRounds.{turn_of, turn_runs}
use Rattle.af_enough_law.proofs.StoppedPlaces.{at_home, home_is}
use Rattle.af_enough_law.proofs.StreamHistories.{part_stream}
use Rattle.af_enough_law.proofs.TakenRounds.{knows_sent}
use Rattle.af_enough_law.proofs.TrackCarried.{TrackCarried, TrackGone, fair}

-- ## Where a proxy is after a round that it began at home

home_or_lent : (heard slot : Bool) (h : Holder) → h ≡ next_holder heard slot Home → (h ≡ Home) ⊎ (h ≡ Lent)
home_or_lent heard slot h is = by (slot && heard) is
  where
    by : (b : Bool) → h ≡ (if b then Lent else Home) → (h ≡ Home) ⊎ (h ≡ Lent)
    by true e = inr e
    by false e = inl e

-- a track that has a slot and is home isn't to be heard
home_silent : (heard slot : Bool) → Home ≡ next_holder heard slot Home → slot ≡ true → heard ≡ false
home_silent true true is e = absurd (true≢false (ap is_home is))
home_silent true false is e = absurd (true≢false (sym e))
home_silent false slot is e = refl

-- a life that took two commands and isn't to be heard took three
pub silent_three : (count told : ℕ) (l : Life) → Course count told l → plays l ≡ false → 2 ≤ told → 3 ≤ told
silent_three count told l absent silent two = absurd (let z : ⊥ = omega (arith, two) in z)
silent_three count told l idle silent two = absurd (let z : ⊥ = omega (arith, two) in z)
silent_three count told l (playing retries a b) silent two = absurd (true≢false silent)
silent_three count told l (stopping retries) silent two = omega arith
silent_three count told l (drained retries) silent two = omega arith
silent_three count told l (stopped retries) silent two = omega arith
silent_three count told l (over life e) silent two = omega arith

-- ## A round at home

module _ (s : Session) (marks : Marks) (scales : All (λ (x : Setting). x.scale ≤ 4096) (setup_of s).settings) (long : length (setup_of s).settings ≡ track_count s) (i : ℕ) (named : i < track_count s) (lawful : marks.commands i ≡ true) where
  module _ (run : Run) (round : RoundSeen) (legal : LegalRound false s marks run round) (c : SessionStands s run) (most total : ℕ) (track : TrackCarried run i most total) (two : 2 ≤ (track_at run.normal.tracks i).life.retries) (home : is_home (track_at run.normal.tracks i).holder ≡ true) where
    abbrev t : TurnMade s marks run round
    t = turn_of s marks scales long run round legal c

    goes : t.turn.ended ≡ false
    goes = turn_runs s marks scales long run round legal c

    abbrev after : Run
    after = after_round s run round

    pub numbers : IsNamed s marks run i
    numbers = record { low = (let a = c.tracks in omega (arith, a, named)); named = named; there = (let a = c.kept in omega (arith, a, named)); lawful = lawful }

    holder_then : (track_at after.normal.tracks i).holder ≡ next_holder (plays (track_at after.normal.tracks i).life) (is_some (track_at after.normal.tracks i).slot) Home
    holder_then =
        subst (λ (m : NormalKept). (track_at m.tracks i).holder ≡ next_holder (plays (track_at m.tracks i).life) (is_some (track_at m.tracks i).slot) Home) (sym t.after)
        (holder_turned (setup_of s) (learnt t.by.outside) run.normal t.turn i numbers.there goes
        ∙ ap (next_holder (plays (track_at (turn_after (setup_of s) (learnt t.by.outside) run.normal t.turn).tracks i).life) (is_some (track_at (turn_after (setup_of s) (learnt t.by.outside) run.normal t.turn).tracks i).slot))
        (home_is (greeted_in run.normal t.turn i).holder (stays_home t.turn.ack run.normal.last (track_at run.normal.tracks i) home)))

    -- the proxy is home or lent after the round
    pub stays_or_lent : ((track_at after.normal.tracks i).holder ≡ Home) ⊎ ((track_at after.normal.tracks i).holder ≡ Lent)
    stays_or_lent = home_or_lent (plays (track_at after.normal.tracks i).life) (is_some (track_at after.normal.tracks i).slot) (track_at after.normal.tracks i).holder holder_then

    order_then : IsInOrder after.normal
    order_then = order_round s marks scales run round legal c.runs t goes (let a = c.kept in omega (arith, a, long)) c.order

    module _ (stays : (track_at after.normal.tracks i).holder ≡ Home) where
      -- a round that leaves the proxy home
      pub home_gone : TrackGone s marks run round i most total t track.on.told
      home_gone = home_carried false s marks run round i most total t legal numbers goes track two home (ap is_home stays)

      -- all that the track's client is answered in the round is fair
      pub home_fair : AreFair (calls_in round i)
      home_fair =
          let part = home_part s run round i (ap is_home stays) in
          let seen = part_seen false s marks run round t i numbers.low named legal (keeps_of run i track.known_stream track.known_commands track.calm) part in
          let greeted = stays_home t.turn.ack run.normal.last (track_at run.normal.tracks i) home in
          fair false s marks run round i most total t legal (record {
            low = numbers.low;
            named = named;
            there = numbers.there;
            lawful = lawful;
            runs = goes;
            unshut = λ alive. home_unshut false s marks run round i numbers.low legal seen t track.calm.stream greeted;
          }) part track two

      -- a track with a slot, and two commands taken, has stopped
      pub home_stopped : (slot : ℕ) → (track_at after.normal.tracks i).slot ≡ Some slot → 2 ≤ home_gone.carried.on.told → TrackIs s after i most total
      home_stopped slot slot_is told =
          let z : TrackCarried after i most total = home_gone.carried in
          let silent = home_silent (plays (track_at after.normal.tracks i).life) (is_some (track_at after.normal.tracks i).slot) (sym stays ∙ holder_then) (ap is_some slot_is) in
          let three = silent_three z.on.count z.on.told (track_at after.normal.tracks i).life z.on.follows.course silent told in
          let item : FastTrack = item_of (setup_of s) i (track_at after.normal.tracks i) in
          let small = ((order_then.sound.slotted i).slot (ap is_some slot_is)).1 in
          let number = ap number_of slot_is in
          let part = home_part s run round i (ap is_home stays) in
          stopped slot item (omega (arith, small, number)) refl slot_is
          (record {
            known = z.known_commands;
            commands = commands_of after i z.known_stream z.known_commands z.calm;
            few = z.calm.stream_few;
            hands = z.calm.stream_hands;
            stream = part_stream false s marks run round t i numbers.low named legal (keeps_of run i track.known_stream track.known_commands track.calm) part z.calm.stream.calm z.calm.stream_hands;
            quiet = λ seen. z.calm.stream;
            stands = z.stands;
            on = z.on;
            told = three;
            out = silent;
          })
          (at_home stays)

    pub home_knows : KnowsReleased (told_at after i).commands
    home_knows = knows_sent false s marks run round i t legal numbers goes (open_of run i most total track)
