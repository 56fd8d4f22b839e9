-- What is carried of a track makes each round bring it nearer to its end: without a slot if the round takes what it may, and else always.
use Rattle.std.proofs.Common.{◌≡◌, ◌⊎◌, inl, inr, ℕ, ◌≤◌, ◌<◌, ◌&&◌, not, is_some, Bool, true, false, true≢false, All, None, length, refl, sym, ap, ◌∙◌, arith}
use Rattle.af_enough_law.proofs.Common.{LegalRound, Life, Marks, NormalKept, RoundSeen, Run, Session, Setting, after_round, ends_part, is_home, is_lent, is_mixed_here, is_within, learnt, met_after, not_zero, plays, server_list, setting_of, setup_of, spec_of, takes_part, told_at, track_at, track_count, turn_after}
use Rattle.af_enough_law.proofs.Basics.{stays_home}
use Rattle.af_enough_law.proofs.Carried.{SessionCarried}
use Rattle.af_enough_law.proofs.Courses.{Course, stage}
use Rattle.af_enough_law.proofs.Ends.{IsInOrder}
use Rattle.af_enough_law.proofs.NearWords.{buffer_of, RoundFlows}
use Rattle.af_enough_law.proofs.NormalRounds.{TurnMade}
use Rattle.af_enough_law.proofs.Carrying.{TrackIs, slotless, lent, stopped, gone_over, lent_is}
use Rattle.af_enough_law.proofs.CalmTracks.{CalmTurn}
use Rattle.af_enough_law.proofs.CommandsGo.{OpenTurn, commands_of, opens_after}
use Rattle.af_enough_law.proofs.EndRounds.{order_round}
use Rattle.af_enough_law.proofs.Fair.{calm_drops}
use Rattle.af_enough_law.proofs.Foreseen.{Foreseen, part_seen, home_unshut}
use Rattle.af_enough_law.proofs.HomeTakes.{home_takes}
use Rattle.af_enough_law.proofs.HomeRounds.{IsNamed, keeps_of, home_part, slotless_carried}
use Rattle.af_enough_law.proofs.LeftGoes as left_goes
use Rattle.af_enough_law.proofs.LeftGoes.{heard_told}
use Rattle.af_enough_law.proofs.LeftRounds as left_round
use Rattle.af_enough_law.proofs.LentFlows as lent_flows
use Rattle.af_enough_law.proofs.LentFlows.{LentGone, lent_gone}
use Rattle.af_enough_law.proofs.Lookahead.{ended_then}
use Rattle.af_enough_law.proofs.NearEnds.{GivesRound}
use Rattle.af_enough_law.proofs.NearGives.{part_gives, heard_now, heard_then, left_gives, stopped_gives}
use Rattle.af_enough_law.proofs.NearHears.{slot_flows, lent_hears, home_hears}
use Rattle.af_enough_law.proofs.Nearing.{RoundHears, TrackRound, BlockKept}
use Rattle.af_enough_law.proofs.PipeKept.{PipeKept, IsSized, room_kept}
use Rattle.af_enough_law.proofs.SessionRounds.{turn_of, turn_runs}
use Rattle.af_enough_law.proofs.Slots.{course_opened, slot_stays, slotless_stays}
use Rattle.af_enough_law.proofs.StoppedPlaces.{stopped_out}
use Rattle.af_enough_law.proofs.StoppedRounds.{place_gone}
use Rattle.af_enough_law.proofs.StoppedTracks.{stopped_gone, stopped_fair, stopped_carried}
use Rattle.af_enough_law.proofs.TrackCarried.{TrackCarried, TrackGone, able}

-- a track that is mixed by the normal mixer, is started, not yet stopped and has not ended: a round takes what it may of it
abbrev pub HomeFlows : Session → Run → RoundSeen → ℕ → Type 0
HomeFlows s run round i = (track_at run.normal.tracks i).slot ≡ None → (track_at run.normal.tracks i).life.ended ≡ false → (track_at (after_round s run round).normal.tracks i).life.ended ≡ false
    → stage (track_at run.normal.tracks i).life ≤ 1 → RoundFlows s run round i

module _ (s : Session) (marks : Marks) (scales : All (λ (x : Setting). x.scale ≤ 4096) (setup_of s).settings) (long : length (setup_of s).settings ≡ track_count s) (few : s.script.normal ≤ 16) (sizes : IsSized s) (run : Run) (round : RoundSeen) (legal : LegalRound false s marks run round) (c : SessionCarried s run)
    (next : RoundSeen) (legal_next : LegalRound false s marks (after_round s run round) next) where
  abbrev t : TurnMade s marks run round
  t = turn_of s marks scales long run round legal c.stands

  abbrev after : Run
  after = after_round s run round

  runs : t.turn.ended ≡ false
  runs = turn_runs s marks scales long run round legal c.stands

  -- a track isn't fast, or was opened when no slot was free
  abbrev pub NeverSlotted : ℕ → ℕ → Type 0
  NeverSlotted i told = ((setting_of (setup_of s) i).fast ≡ false) ⊎ (1 ≤ told)

  never_slotted : (i : ℕ) → i < length run.normal.tracks → (count told : ℕ) → Course count told (track_at run.normal.tracks i).life → NeverSlotted i told → (track_at run.normal.tracks i).slot ≡ None → (track_at (turn_after (setup_of s) (learnt t.by.outside) run.normal t.turn).tracks i).slot ≡ None
  never_slotted i there count told course (inl slow) none = slotless_stays (setup_of s) (learnt t.by.outside) run.normal t.turn i there runs slow none
  never_slotted i there count told course (inr some) none = slot_stays (setup_of s) (learnt t.by.outside) run.normal t.turn i there runs (course_opened count told (track_at run.normal.tracks i).life course (not_zero told some)) ∙ none

  -- the round of a track that has no slot: its proxy is always home
  pub record HomeParts (i most total told : ℕ) : Type 0 where
    pub gone : TrackGone s marks run round i most total t told
    pub turn : OpenTurn s marks run round i t
    pub part : takes_part s (met_after s run round) i ≡ true
    pub hears : RoundHears s marks run round i t
    pub slot_then : (track_at after.normal.tracks i).slot ≡ None

  pub home_parts : (i most total : ℕ) → i < track_count s → marks.commands i ≡ true → 2 ≤ (track_at run.normal.tracks i).life.retries → (track : TrackCarried run i most total) → NeverSlotted i track.on.told → (track_at run.normal.tracks i).slot ≡ None → HomeParts i most total track.on.told
  home_parts i most total named lawful two track never none =
      let a = c.stands.tracks in
      let b = c.stands.kept in
      let numbers : IsNamed s marks run i = record { low = omega (arith, a, named); named = named; there = omega (arith, b, named); lawful = lawful } in
      let order : IsInOrder after.normal = order_round s marks scales run round legal c.stands.runs t runs (omega (arith, b, long)) c.stands.order in
      let slot_then : (track_at after.normal.tracks i).slot ≡ None = ap (λ (m : NormalKept). (track_at m.tracks i).slot) t.after ∙ never_slotted i numbers.there track.on.count track.on.told track.on.follows.course never none in
      let home : is_home (track_at run.normal.tracks i).holder ≡ true = (c.stands.order.sound.slotted i).homely (ap is_some none) in
      let part : takes_part s (met_after s run round) i ≡ true = home_part s run round i ((order.sound.slotted i).homely (ap is_some slot_then)) in
      let seen : Foreseen (told_at after i).stream = part_seen false s marks run round t i numbers.low named legal (keeps_of run i track.known_stream track.known_commands track.calm) part in
      record {
        gone = slotless_carried false s marks run round i most total t legal numbers runs track two none slot_then (c.stands.order.sound.slotted i) (order.sound.slotted i);
        turn = record {
          low = numbers.low;
          named = named;
          there = numbers.there;
          lawful = lawful;
          runs = runs;
          unshut = λ alive. home_unshut false s marks run round i numbers.low legal seen t track.calm.stream (stays_home t.turn.ack run.normal.last (track_at run.normal.tracks i) home);
        };
        part = part;
        hears = home_hears false s marks run round i t numbers.low legal seen track.calm.stream home;
        slot_then = slot_then;
      }

  slotless_gives : (i most total : ℕ) → i < track_count s → marks.commands i ≡ true → 2 ≤ (track_at run.normal.tracks i).life.retries → (track : TrackCarried run i most total) → NeverSlotted i track.on.told → (track_at run.normal.tracks i).slot ≡ None → HomeFlows s run round i → TrackRound s marks run round i t
  slotless_gives i most total named lawful two track never none flows =
      let p = home_parts i most total named lawful two track never none in
      part_gives false s marks run round i most total t p.turn track legal p.part two p.gone (flows none) p.hears

  pub two_told : (count told : ℕ) (l : Life) → Course count told l → plays l ≡ true → 2 ≤ told
  two_told count told l there heard = elim (heard_told count told l there heard) as (λ _. 2 ≤ told) [
    | inl two ↦ (let e = two.0 in omega (arith, e))
    | inr three ↦ omega (arith, three)
  ]

  -- What the round gives of each track with two retries
  pub track_gives : (i most total : ℕ) → i < track_count s → marks.commands i ≡ true → 2 ≤ (track_at run.normal.tracks i).life.retries → (track_at run.normal.tracks i).life.ended ≡ false → TrackIs s run i most total → HomeFlows s run round i → TrackRound s marks run round i t
  track_gives i most total named lawful two alive (slotless track never none) flows = slotless_gives i most total named lawful two track never none flows
  track_gives i most total named lawful two alive (lent slot item track l) flows = by (is_lent (track_at after.normal.tracks i).holder) refl
    where
      by : (b : Bool) → is_lent (track_at after.normal.tracks i).holder ≡ b → TrackRound s marks run round i t
      by true stays =
          let lends = lent_is (track_at after.normal.tracks i).holder stays in
          let gone : LentGone s marks run round i most total slot item t track.on.told = lent_gone s marks scales long run round legal c i most total named lawful track two slot item l lends in
          let turn = lent_flows.lent_open s marks scales long run round legal c i most total named lawful track two slot item l lends in
          let part : takes_part s (met_after s run round) i ≡ true = sym (ends_part s (met_after s run round) i) ∙ lent_flows.part s marks scales long run round legal c i most total named lawful track two slot item l lends in
          part_gives false s marks run round i most total t turn track legal part two gone.track (λ alive going low. slot_flows s run round i slot few gone.flowed)
          (lent_hears s marks run round i slot item t l (record { none = calm_drops (server_list (told_at run i).stream) track.calm.stream.calm; unshut = track.calm.stream.unshut }) gone.found)
      by false leaves =
          left_gives false s marks run round i most total t (left_goes.turn s marks scales long run round legal c i most total named lawful track slot item l leaves next legal_next two) track
          (left_goes.left_gone s marks scales long run round legal c i most total named lawful track slot item l leaves next legal_next two)
          (left_goes.left_stands s marks scales long run round legal c i most total named lawful track slot item l leaves next legal_next two)
          (left_goes.left_fair s marks scales long run round legal c i most total named lawful track slot item l leaves next legal_next two)
          (two_told track.on.count track.on.told (track_at run.normal.tracks i).life track.on.follows.course l.heard)
          (left_round.left s marks scales long run round legal c i most total named lawful track slot item l leaves next legal_next).0
  track_gives i most total named lawful two alive (stopped slot item low item_is slot_is z place) flows =
      let turn = (place_gone s marks scales long run round legal c i most total named lawful z two slot item low item_is slot_is next legal_next place).turn in
      let course = stopped_gone s marks scales long run round legal c i most total named lawful z two turn in
      let out = stopped_out s marks run round i most total t z turn course in
      stopped_gives s marks run round i most total t turn z course (stopped_carried s marks scales long run round legal c i most total named lawful z two turn out).stands (stopped_fair s marks scales long run round legal c i most total named lawful z two turn)
  track_gives i most total named lawful two alive (gone_over h) flows = absurd (true≢false (sym h.life ∙ alive))

  -- a track without a slot flows, while the pipe has room for a buffer
  pub home_flows : (i most total N base : ℕ) → i < track_count s → marks.commands i ≡ true → 2 ≤ (track_at run.normal.tracks i).life.retries → TrackIs s run i most total → BlockKept run i N base → (plays (track_at run.normal.tracks i).life ≡ true → PipeKept s run) → HomeFlows s run round i
  home_flows i most total N base named lawful two (slotless track never none) kept pipe none' alive going low =
      let p = home_parts i most total named lawful two track never none in
      let gone : TrackGone s marks run round i most total t track.on.told = p.gone in
      let calm_turn : CalmTurn s marks run round i t = record { low = p.turn.low; named = p.turn.named; there = p.turn.there; lawful = p.turn.lawful; runs = p.turn.runs; part = p.part; unshut = p.turn.unshut } in
      let commands = commands_of run i track.known_stream track.known_commands track.calm in
      let settled = track.on.follows.settled in
      let started = kept.started in
      let now = heard_now track.on.count track.on.told (track_at run.normal.tracks i).life (omega (arith, settled, started)) track.on.follows.course low alive in
      let heard = heard_then false s marks run round i most total t p.turn track gone.gone (omega (arith, settled, started)) alive going low in
      let here : is_mixed_here (track_at after.normal.tracks i) ≡ true = (λ j. not (is_some (p.slot_then j)) && plays (track_at after.normal.tracks i).life) ∙ heard in
      home_takes false s marks run round i t calm_turn legal track.known_stream track.known_commands track.calm (able false s marks run round i most total t legal p.turn p.part track two)
      (opens_after false s marks run round i t legal track.known_commands commands p.turn).0 (kept.met alive low).released (is_within (buffer_of s) t.turn.room (room_kept s marks scales long run round legal c sizes (pipe now))) here
  home_flows i most total N base named lawful two (lent slot item track l) kept pipe none alive going low = absurd (true≢false (sym (ap is_some l.slot_is) ∙ ap is_some none))
  home_flows i most total N base named lawful two (stopped slot item low' item_is slot_is z place) kept pipe none alive going low = absurd (true≢false (sym (ap is_some slot_is) ∙ ap is_some none))
  home_flows i most total N base named lawful two (gone_over h) kept pipe none alive going low = absurd (true≢false (sym h.life ∙ alive))

  -- The round gives what is asked of it
  pub gives_round : (i most total : ℕ) → i < track_count s → marks.commands i ≡ true → 2 ≤ (track_at run.normal.tracks i).life.retries → TrackIs s run i most total → (plays (track_at run.normal.tracks i).life ≡ true → PipeKept s run) → GivesRound false s marks run round i
  gives_round i most total named lawful two is pipe = record {
    legal = legal;
    stays = ended_then s marks scales long run round legal c i named;
    made = t;
    goes = λ alive kept. track_gives i most total named lawful two alive is (home_flows i most total (spec_of s i).frames (spec_of s i).base named lawful two is kept pipe);
  }
