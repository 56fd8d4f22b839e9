-- A track mixed by the normal mixer has sent its START after one round, and after one more it is settled.
use Rattle.std.proofs.Common.{◌≡◌, ◌⊎◌, inl, inr, ℕ, ◌*◌, ◌≤◌, ◌<◌, Bool, true, false, All, None, List, [], ◌∷◌, length, fold, refl, ap, ◌∙◌, arith}
use Rattle.af_enough_law.proofs.Common.{AreCalls, ClientCall, LegalRound, Marks, Mode, Op, RoundSeen, Run, Session, Setting, Track, Want, after_call, after_round, begun, calls_in, setup_of, sides_of, told_at, track_at, track_count}
use Rattle.af_enough_law.proofs.Basics.{course_long}
use Rattle.af_enough_law.proofs.Carried.{SessionCarried}
use Rattle.af_enough_law.proofs.FastWords.{KnowsReleased}
use Rattle.af_enough_law.proofs.NormalRounds.{TurnMade}
use Rattle.af_enough_law.proofs.Playing.{AreFair, Doing, opening, starting, settling, setting, writing, clearing, clearing_more, stopping, draining, removing}
use Rattle.af_enough_law.proofs.CalmTracks.{round_released}
use Rattle.af_enough_law.proofs.Carrying.{TrackIs, slotless, lent, stopped, gone_over, track_on}
use Rattle.af_enough_law.proofs.CommandsGo.{commands_of}
use Rattle.af_enough_law.proofs.Doing.{at, codes_sent}
use Rattle.af_enough_law.proofs.FairTurns.{codes_long}
use Rattle.af_enough_law.proofs.FirstCalls.{first_turn, second_turn}
use Rattle.af_enough_law.proofs.SeesStopped.{spoken_long as released_on}
use Rattle.af_enough_law.proofs.Lookahead.{ended_then}
use Rattle.af_enough_law.proofs.PipeKept.{IsSized}
use Rattle.af_enough_law.proofs.SessionRounds.{turn_of}
use Rattle.af_enough_law.proofs.TakesAll.{WordsCounted, takes_known}
use Rattle.af_enough_law.proofs.TrackCarried.{TrackCarried, fair}
use Rattle.af_enough_law.proofs.TrackGives.{HomeParts, NeverSlotted, home_parts, two_told}
use Rattle.af_enough_law.proofs.TrackGoes.{made_of}
use Rattle.af_enough_law.proofs.Turning.{Stands, on, gone_for_good}

-- a track has started: its life has ended, or its START is settled
abbrev pub HasStarted : Run → ℕ → Type 0
HasStarted run i = ((track_at run.normal.tracks i).life.ended ≡ true) ⊎ (2 ≤ (track_at run.normal.tracks i).settled)

-- a track has started, or its START was sent
abbrev pub HasSent : Run → ℕ → Type 0
HasSent run i = HasStarted run i ⊎ (4 ≤ length (told_at run i).commands.released)

-- a whole fair turn of a client that plays through leaves OPEN and START sent
turn_sends : (t : Track) (calls : List ClientCall) (due : List Want) (ops : List Op) (m : Mode) → Doing due ops m → begun t.client ≡ at due ops m → AreCalls 64 t calls → AreFair calls → length t.commands.released ≡ 2 * length (codes_sent due m) → 4 ≤ length (fold after_call t calls).commands.released
turn_sends t calls _ _ _ (opening ops way) is made fair long = first_turn 64 t calls ops (omega arith) is made fair
turn_sends t calls _ _ _ (starting ops way) is made fair long = let more = second_turn 64 t calls ops (omega arith) is made fair in omega (arith, more, long)
turn_sends t calls _ _ _ (settling ops way) is made fair long = let more = released_on t calls fair in omega (arith, more, long)
turn_sends t calls _ _ _ (setting left right gains ops way) is made fair long = let more = released_on t calls fair in omega (arith, more, long)
turn_sends t calls _ _ _ (writing count ops one way) is made fair long = let more = released_on t calls fair in omega (arith, more, long)
turn_sends t calls _ _ _ (clearing ops way) is made fair long = let more = released_on t calls fair in omega (arith, more, long)
turn_sends t calls _ _ _ (clearing_more count ops one way) is made fair long = let more = released_on t calls fair in omega (arith, more, long)
turn_sends t calls _ _ _ stopping is made fair long = let more = released_on t calls fair in omega (arith, more, long)
turn_sends t calls _ _ _ draining is made fair long = let more = released_on t calls fair in omega (arith, more, long)
turn_sends t calls _ _ _ removing is made fair long = let more = released_on t calls fair in omega (arith, more, long)

module _ (s : Session) (marks : Marks) (scales : All (λ (x : Setting). x.scale ≤ 4096) (setup_of s).settings) (long : length (setup_of s).settings ≡ track_count s) (small : s.script.normal ≤ 16) (sizes : IsSized s) (run : Run) (round : RoundSeen) (legal : LegalRound false s marks run round) (c : SessionCarried s run)
    (next : RoundSeen) (legal_next : LegalRound false s marks (after_round s run round) next) (i most total : ℕ) (named : i < track_count s) (lawful : marks.commands i ≡ true) (two : 2 ≤ (track_at run.normal.tracks i).life.retries) where
  abbrev t : TurnMade s marks run round
  t = turn_of s marks scales long run round legal c.stands

  abbrev after : Run
  after = after_round s run round

  abbrev parts : (track : TrackCarried run i most total) → NeverSlotted s marks scales long small sizes run round legal c next legal_next i track.on.told → (track_at run.normal.tracks i).slot ≡ None → HomeParts s marks scales long small sizes run round legal c next legal_next i most total track.on.told
  parts track never none = home_parts s marks scales long small sizes run round legal c next legal_next i most total named lawful two track never none

  -- a life that has ended, or whose START was settled, is so after the round
  pub started_then : TrackIs s run i most total → HasStarted run i → HasStarted after i
  started_then is (inl e) = inl (ended_then s marks scales long run round legal c i named e)
  started_then is (inr settled) = by (track_on s marks scales long run round legal c next legal_next i most total named lawful two is).settled
    where
      by : ((track_at (after_round s run round).normal.tracks i).life.ended ≡ true) ⊎ ((track_at run.normal.tracks i).settled ≤ (track_at (after_round s run round).normal.tracks i).settled) → HasStarted (after_round s run round) i
      by (inl e) = inl e
      by (inr more) = inr (omega (arith, settled, more))

  -- the START was settled before, if the track has a slot
  slotted : {X : Type 0} → (HasStarted run i → X) → ((track : TrackCarried run i most total) → NeverSlotted s marks scales long small sizes run round legal c next legal_next i track.on.told → (track_at run.normal.tracks i).slot ≡ None → X) → TrackIs s run i most total → X
  slotted started home (slotless track never none) = home track never none
  slotted started home (lent slot item track l) =
      let told = two_told s marks scales long small sizes run round legal c next legal_next track.on.count track.on.told (track_at run.normal.tracks i).life track.on.follows.course l.heard in
      let settled = track.on.follows.settled in
      started (inr (omega (arith, told, settled)))
  slotted started home (stopped slot item low item_is slot_is z place) = let told = z.told in let settled = z.on.follows.settled in started (inr (omega (arith, told, settled)))
  slotted started home (gone_over h) = started (inl h.life)

  -- A round leaves the START sent
  pub sends_round : TrackIs s run i most total → HasSent after i
  sends_round is = slotted (λ h. inl (started_then is h)) home is
    where
      home : (track : TrackCarried run i most total) → NeverSlotted s marks scales long small sizes run round legal c next legal_next i track.on.told → (track_at run.normal.tracks i).slot ≡ None → HasSent (after_round s run round) i
      home track never none =
          let p = parts track never none in
          let fairly = fair false s marks run round i most total t legal p.turn p.part track two in
          let same = ap (λ (ws : List ℕ). length ws) (round_released s run round i p.turn.low) in
          inr (by p.turn.low p.turn.runs fairly same track.stands)
        where
          by : i < length run.tracks → (turn_of s marks scales long run round legal c.stands).turn.ended ≡ false → AreFair (calls_in round i) → length (told_at (after_round s run round) i).commands.released ≡ length (fold after_call (sides_of (told_at run i)) (calls_in round i)).commands.released
              → Stands (sides_of (told_at run i)) most total → 4 ≤ length (told_at (after_round s run round) i).commands.released
          by low runs fairly same (gone_for_good ended given words codes) =
              let a = codes_long given (1 ∷ 2 ∷ 4 ∷ 6 ∷ []) codes in
              let b = ap length words in
              let more = released_on (sides_of (told_at run i)) (calls_in round i) fairly in
              omega (arith, a, b, more, same)
          by low runs fairly same (on due ops m is left) =
              let sent = turn_sends (sides_of (told_at run i)) (calls_in round i) due ops m left.doing is (made_of false s marks run round i (turn_of s marks scales long run round legal c.stands) legal low named runs fairly due ops m is) fairly
              (ap (λ (ws : List ℕ). length ws) left.words ∙ codes_long left.sent (codes_sent due m) left.codes) in
              omega (arith, sent, same)

  -- one round more leaves the START settled
  pub starts_round : TrackIs s run i most total → KnowsReleased (told_at run i).commands → WordsCounted run i → HasSent run i → HasStarted after i
  starts_round is knows counted (inl h) = started_then is h
  starts_round is knows counted (inr four) = slotted (λ h. started_then is h) home is
    where
      home : (track : TrackCarried run i most total) → NeverSlotted s marks scales long small sizes run round legal c next legal_next i track.on.told → (track_at run.normal.tracks i).slot ≡ None → HasStarted (after_round s run round) i
      home track never none = by (track_at run.normal.tracks i).life.ended refl
        where
          by : (b : Bool) → (track_at run.normal.tracks i).life.ended ≡ b → HasStarted (after_round s run round) i
          by true e = started_then is (inl e)
          by false alive =
              let p = parts track never none in
              let took = takes_known false s marks run round i t legal track.known_commands (commands_of run i track.known_stream track.known_commands track.calm) p.turn knows counted track.on p.gone.gone alive in
              let sent = ap (λ (ws : List ℕ). length ws) track.on.released in
              let many = course_long track.on.count 0 track.on.sent in
              let settled = p.gone.gone.after.follows.settled in
              inr (omega (arith, took, sent, many, settled, four))
