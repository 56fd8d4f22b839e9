-- What is carried of a track whose proxy is lent is kept by a round that leaves it lent.
use Rattle.std.proofs.Common.{◌≡◌, ℕ, ◌≤◌, ◌<◌, ◌&&◌, not, is_some, Bool, true, false, true≢false, All, length, length-append, refl, sym, ap, ◌∙◌, arith}
use Rattle.af_enough_law.proofs.Common.{Counts, FastTrack, LegalRound, Lent, Life, Marks, NormalKept, RoundSeen, Run, Session, Setting, TrackKept, after_round, client_list, counts_in, ends_part, observer_holds, is_home, learnt, met_after, or_right, plays, server_list, setup_of, slot_reported, takes_part, told_at, track_at, track_count}
use Rattle.af_enough_law.proofs.Basics.{state_there}
use Rattle.af_enough_law.proofs.Carried.{SessionCarried}
use Rattle.af_enough_law.proofs.FastWords.{FlowsIn, Flowed, Reported, slot_told, HasItem}
use Rattle.af_enough_law.proofs.Items.{item_of}
use Rattle.af_enough_law.proofs.NormalRounds.{TurnMade}
use Rattle.af_enough_law.proofs.CommandsGo.{OpenTurn}
use Rattle.af_enough_law.proofs.EntryCounts.{round_high}
use Rattle.af_enough_law.proofs.Fair.{calm_drops}
use Rattle.af_enough_law.proofs.FastFound.{FoundFor, found_pushed, shown_looks}
use Rattle.af_enough_law.proofs.FastKnows.{knows_released}
use Rattle.af_enough_law.proofs.FastPolls.{round_states, turn_more}
use Rattle.af_enough_law.proofs.FastReports.{reported}
use Rattle.af_enough_law.proofs.FastTakes.{flowed}
use Rattle.af_enough_law.proofs.Flushless.{unflushed_none}
use Rattle.af_enough_law.proofs.FoundReports.{found_reported}
use Rattle.af_enough_law.proofs.Following.{greeted_in, greeted_alike}
use Rattle.af_enough_law.proofs.Foreseen.{KeepsTo, keeps_to}
use Rattle.af_enough_law.proofs.Generations.{greeted_lent, greeted_same}
use Rattle.af_enough_law.proofs.HeardFresh.{reported_turned}
use Rattle.af_enough_law.proofs.HomeRounds.{keeps_of}
use Rattle.af_enough_law.proofs.LentRounds.{LentCarried, HeardOf, holds_by, heard_away, states_play, last_then, slot_then, item_then, heard_then, low_run, there, runs, draft_item}
use Rattle.af_enough_law.proofs.LentTurns.{turn_leaves}
use Rattle.af_enough_law.proofs.QueueRounds.{acks_states}
use Rattle.af_enough_law.proofs.SessionRounds.{turn_of}
use Rattle.af_enough_law.proofs.StreamHistories.{part_stream}
use Rattle.af_enough_law.proofs.TrackCarried.{TrackCarried, TrackGone, track_gone}

-- what a round makes of a track that stays lent: all is carried on, it flows, and the report that the turn finds goes on from the one before the round
pub record LentGone (s : Session) (marks : Marks) (run : Run) (round : RoundSeen) (i most total slot : ℕ) (item : FastTrack) (t : TurnMade s marks run round) (told : ℕ) : Type 0 where
  pub track : TrackGone s marks run round i most total t told
  pub lent : LentCarried s (after_round s run round) i slot item
  pub flowed : Flowed s run round i slot
  pub reported : Reported s run round i slot item
  pub found : FoundFor (slot_told run slot) (shown_looks (slot_told (after_round s run round) slot)) (slot_reported (learnt t.by.outside) (greeted_in run.normal t.turn i)) item
  pub open_is : OpenTurn s marks run round i t
  -- the turn has heard of all looks that this report tells, which are no more than those that the last report of the round tells
  pub noted : (track_at (after_round s run round).normal.tracks i).reported ≡ counts_in (slot_reported (learnt t.by.outside) (greeted_in run.normal t.turn i))
  -- no more looks were heard of than the last report tells
  pub heard_of : HeardOf (after_round s run round) i slot

module _ (s : Session) (marks : Marks) (scales : All (λ (x : Setting). x.scale ≤ 4096) (setup_of s).settings) (long : length (setup_of s).settings ≡ track_count s) (run : Run) (round : RoundSeen) (legal : LegalRound false s marks run round) (c : SessionCarried s run)
    (i most total : ℕ) (named : i < track_count s) (lawful : marks.commands i ≡ true) (track : TrackCarried run i most total) (two : 2 ≤ (track_at run.normal.tracks i).life.retries) (slot : ℕ) (item : FastTrack) (l : LentCarried s run i slot item)
    (stays : (track_at (after_round s run round).normal.tracks i).holder ≡ Lent) where
  abbrev t : TurnMade s marks run round
  t = turn_of s marks scales long run round legal c.stands

  abbrev after : Run
  after = after_round s run round

  abbrev g : TrackKept
  g = greeted_in run.normal t.turn i

  goes : t.turn.ended ≡ false
  goes = runs s marks scales long run round legal c i most total named lawful track two slot item l stays

  low : i < length run.tracks
  low = low_run s marks scales long run round legal c i most total named lawful track two slot item l stays

  kept : i < length run.normal.tracks
  kept = there s marks scales long run round legal c i most total named lawful track two slot item l stays

  track_is : item.track ≡ i
  track_is = ap (λ (x : FastTrack). x.track) l.item_is

  some_then : 1 ≤ length after.states
  some_then =
      let whole = ap length (round_states s run round ∙ (turn_more s run round).whole) in
      let both = length-append run.states (turn_more s run round).more in
      let some = l.some in omega (arith, whole, both, some)

  -- the track's proxy takes part in the meeting
  pub part : takes_part s after i ≡ true
  part =
      let first = acks_states s marks run round legal c.stands.going c.states in
      let some = l.some in
      let high = round_high s run round c.stands.adopted in
      let x = state_there after.states after.current (omega (arith, first, some)) high in
      let p = (states_play s marks scales long run round legal c i most total named lawful track two slot item l stays).1 after.current x.0 first x.1 in
      or_right (is_home (track_at after.normal.tracks i).holder) (observer_holds s after i) (holds_by s after i slot item x.0 l.low track_is x.1 p)

  -- the track flows
  pub flows : FlowsIn s run round i slot item
  flows =
      let to : KeepsTo after i = keeps_to false s marks run round t i low named legal (keeps_of run i track.known_stream track.known_commands track.calm) in
      let away : is_home g.holder ≡ false = ap is_home (greeted_lent t.turn.ack run.normal.last (track_at run.normal.tracks i) l.lent) in
      let slotted = ap is_some (slot_then s marks scales long run round legal c i most total named lawful track two slot item l stays) in
      record {
        named = named;
        there = low;
        slot = l.low;
        item_is = track_is;
        states = states_play s marks scales long run round legal c i most total named lawful track two slot item l stays;
        fast = c.stands.going;
        knows_states = c.states;
        knows_released = l.released;
        is_open = record { none = calm_drops (server_list (told_at run i).stream) track.calm.stream.calm; unshut = track.calm.stream.unshut };
        few = track.calm.stream_few;
        part = part;
        tame = to.pokeless.stream;
        spelled = to.spelled.stream;
        no_flush = unflushed_none (client_list (told_at after i).stream) to.flushless.stream;
        lent = turn_leaves s marks run round t i low kept goes away slotted;
      }

  -- the draft has the track in its slot
  draft_now : HasItem slot item run.normal.draft
  draft_now = draft_item s run i slot item c.stands.order c.stands.items l.lent l.slot_is l.item_is

  -- the report that the turn finds goes on, and says that its server is open
  pub found : FoundFor (slot_told run slot) (shown_looks (slot_told (after_round s run round) slot)) (slot_reported (learnt t.by.outside) g) item
  found = found_reported s marks run round legal c.stands c.reports t goes i slot l.slot_is (λ r. FoundFor (slot_told run slot) (shown_looks (slot_told after slot)) r item) (λ m low high. found_pushed s marks run round i slot item m legal flows l.used l.told draft_now low high)

  -- the turn doesn't hear that the stream is shut
  pub lent_open : OpenTurn s marks run round i t
  lent_open = record {
    low = low;
    named = named;
    there = kept;
    lawful = lawful;
    runs = goes;
    unshut = λ alive.
        let away : is_home g.holder ≡ false = ap is_home (greeted_lent t.turn.ack run.normal.last (track_at run.normal.tracks i) l.lent) in
        let same : item.generation ≡ g.generation = ap (λ (x : FastTrack). x.generation) l.item_is ∙ sym (greeted_same t.turn.ack run.normal.last (track_at run.normal.tracks i)).generation in
        heard_away ((learnt t.by.outside).own i) (slot_reported (learnt t.by.outside) g) g away (found.since.generation ∙ same) found.unshut;
  }

  alive_by : (member ended : Bool) → (member && not ended) ≡ true → ended ≡ false
  alive_by true false e = refl
  alive_by true true e = absurd (true≢false (sym e))
  alive_by false ended e = absurd (true≢false (sym e))

  noted_then : (track_at after.normal.tracks i).reported ≡ counts_in (slot_reported (learnt t.by.outside) g)
  noted_then =
      let life = (track_at run.normal.tracks i).life in
      let alive : g.life.ended ≡ false = ap (λ (x : Life). x.ended) (greeted_alike t.turn.ack run.normal.last (track_at run.normal.tracks i)).life ∙ alive_by life.member life.ended l.heard in
      let same : item.generation ≡ g.generation = ap (λ (x : FastTrack). x.generation) l.item_is ∙ sym (greeted_same t.turn.ack run.normal.last (track_at run.normal.tracks i)).generation in
      ap (λ (m : NormalKept). (track_at m.tracks i).reported) t.after ∙ reported_turned (setup_of s) (learnt t.by.outside) run.normal t.turn i kept goes l.lent alive (found.since.generation ∙ same)

  -- A round that leaves the proxy lent keeps all that is carried of the track
  pub lent_gone : LentGone s marks run round i most total slot item t track.on.told
  lent_gone =
      let met : takes_part s (met_after s run round) i ≡ true = sym (ends_part s (met_after s run round) i) ∙ part in
      let told = reported s marks run round i slot item legal flows in
      let gone : TrackGone s marks run round i most total t track.on.told = track_gone false s marks run round i most total t legal lent_open met track two in
      record {
        track = gone;
        lent = record {
          low = l.low;
          slot_is = ap (λ (m : NormalKept). (track_at m.tracks i).slot) t.after ∙ slot_then s marks scales long run round legal c i most total named lawful track two slot item l stays;
          item_is = item_then s marks scales long run round legal c i most total named lawful track two slot item l stays ∙ ap (λ (m : NormalKept). item_of (setup_of s) i (track_at m.tracks i)) (sym t.after);
          lent = stays;
          heard = ap (λ (m : NormalKept). plays (track_at m.tracks i).life) t.after ∙ heard_then s marks scales long run round legal c i most total named lawful track two slot item l stays;
          some = some_then;
          last = last_then s marks scales long run round legal c i most total named lawful track two slot item l stays;
          used = told.carries_on;
          told = told.told;
          released = knows_released s run round i low part;
          history = part_stream false s marks run round t i low named legal (keeps_of run i track.known_stream track.known_commands track.calm) met gone.carried.calm.stream.calm gone.carried.calm.stream_hands;
        };
        flowed = flowed s marks run round i slot item legal flows;
        reported = told;
        found = found;
        open_is = lent_open;
        noted = noted_then;
        heard_of = (let a = found.few in let fulls = ap (λ (n : Counts). n.fulls) noted_then in let partials = ap (λ (n : Counts). n.partials) noted_then in omega (arith, a, fulls, partials));
      }
