-- A mix is told by the run: the run with it tells the session, and its entry is legal by marks on whose blocks each front seen is the server's own.
use Rattle.std.proofs.Common.{Bool, List, None, Option, Some, [], ap, append-nil, arith, false, if◌then◌else◌, inl, inr, length, refl, slice_get, subst, sym, true, true≢false, ℕ, ⊎_elim, ◌++◌, ◌<◌, ◌∙◌, ◌≡◌, ◌≤◌, ◌⊎◌}
use Rattle.af_told_law.proofs.Common.{AddsCycle, AreTogether, BlockTold, Cycle, CycleEntry, EntrySeen, FastState, Frame, HasStateHistory, LegalEntry, Links, LooksBy, Made, Marks, MixerState, PartyState, Run, SeesTaken, ServerEvent, ServerState, Session, SessionState, SlotPlayed, StartsWith, TrackSlot, TrackTold, at, carries, cases_lt, cycle_events, cycle_frames, each_long, entry_slot, is_mixed, item_at, known, known_at, known_of, lawful_front, mixed_pipe, mixed_track, next_report, server_list, slice_get_within, slot_for, slot_of, slots, some_at, state_for, stream_of, told_at, told_each, with_looks, with_mix}
use Rattle.af_told_law.specs.Leads.{LeadAway}
use Rattle.af_runs.specs.Blocks as told_of
use Rattle.af_judge.proofs.EntryTracks.{mixed_sides}
use Rattle.af_told_law.proofs.Basics.{commands_stay}
use Rattle.af_told_law.specs.MixLaws.{MixIsTold, TookCounted, entry_added}
use Rattle.af_told_law.proofs.MixPipe.{PipeTells, pipe_mixed}
use Rattle.af_told_law.specs.Tells.{IsFresh, Tells, TellsCommands, TellsServer, TellsTrack}
use Rattle.af_told_law.proofs.MixSaw.{SawTold, current_is, mix_is, saw_told}
use Rattle.af_told_law.proofs.MixCounted as counted
use Rattle.af_told_law.proofs.MixEnds.{fast_mixed, normal_mixed, pipe_still, shared_mixed}
use Rattle.af_told_law.proofs.MixKnown.{block_known}
use Rattle.af_told_law.proofs.MixLegal.{FindsTold, entry_legal}
use Rattle.af_told_law.proofs.KeptAlike.{looks_told}
use Rattle.af_told_law.proofs.MixLooks.{front_lawful, list_grown, list_own, looks_real, real_list}
use Rattle.af_told_law.proofs.MixSlots.{found_slot, held_after, inside, order_after, state_same}
use Rattle.af_told_law.proofs.MixStates.{few_adopted, same_cold, same_state, state_told}
use Rattle.af_told_law.proofs.MixStays.{stream_stays, track_still}
use Rattle.af_told_law.proofs.MixStreams.{StreamMixed, list_by, list_mixed, stream_mixed}
use Rattle.af_told_law.proofs.PipeFront.{front_taken}
use Rattle.af_told_law.proofs.SlotHeld.{found_carries, found_track}
use Rattle.af_told_law.specs.Deeds.{DeedTold, Deeds, GoOn, SawOwnBy, SawOwnOf, done_on}

-- how the parties stand before a mix to g, after the poll of its cycle
record MayMix (links : Links) (s : Session) (run : Run) (d : Deeds) (x : SessionState) (g : MixerState) : Type 0 where
  together : AreTogether links x
  after : AreTogether links (record x { fast = g })
  lead : LeadAway x.fast.observer.past.state x.normal.tracks
  queue : HasStateHistory x.normal.mutator.past.first x.normal.mutator.past.events x.fast.observer.past.events
  counted : TookCounted x.fast
  sees : SeesTaken 0 g.pipe.pass.part.events
  told : Tells s run d x

module _ (links : Links) (s : Session) (run : Run) (d : Deeds) (x : SessionState) (g : MixerState) (may : MayMix links s run d x g) (entry : CycleEntry) (adds : AddsCycle x.fast g entry) (sizes : (g.frames ≡ x.fast.frames) × (g.cycles ≡ x.fast.cycles)) where
  abbrev e : EntrySeen
  e = entry_added x g entry

  abbrev state : FastState
  state = x.fast.observer.past.state

  abbrev now : FastState
  now = state_for s run entry.state

  abbrev session : SessionState
  session = record x { fast = g }

  now_is : now ≡ state
  now_is = state_told s run x.normal x.fast may.together.fast.0 may.told.normal may.told.fast may.queue entry.state adds.state

  -- ## Streams

  track_of : (i : ℕ) → i < length x.normal.tracks → (p : PartyState) × (slice_get x.clients i ≡ Some p)
  track_of i low = some_at x.clients i (let c = may.together.count in omega (arith, c, low))

  track_before : (i : ℕ) → (low : i < length x.normal.tracks) → TellsTrack s x.normal x.fast d i (told_at run i) (track_of i low).0
  track_before i low = let p = track_of i low in may.told.tracks i p.0 p.1

  saw : is_mixed entry.cycle ≡ true → SawTold x.fast g e
  saw mixed = saw_told links x g may.together may.after may.lead entry adds mixed

  -- what the servers did with the mix, and what they did if nothing was mixed
  abbrev by_entry : Bool → Deeds
  by_entry mixes = if mixes then record { streams = λ i. list_mixed state g i (d.streams i); commands = d.commands } else d

  abbrev left : Deeds
  left = by_entry (is_mixed entry.cycle)

  stream_after : (i : ℕ) → i < length x.normal.tracks → StreamMixed x.normal g i (mixed_track s state e i (told_at run i)).stream (d.streams i) (left.streams i)
  stream_after i low = by_mixed (is_mixed entry.cycle) refl
    where
      After : Bool → Type 0
      After mixes = StreamMixed x.normal g i (mixed_track s state e i (told_at run i)).stream (d.streams i) ((by_entry mixes).streams i)

      by_mixed : (b : Bool) → is_mixed entry.cycle ≡ b → After (is_mixed entry.cycle)
      by_mixed true mixed =
          let was = track_before i low in
          subst After (sym mixed)
          (stream_mixed links x g may.together may.after e s may.told.fast.frames (current_is links x g may.together may.after may.lead entry adds mixed) mixed adds.takes (saw mixed) may.lead i (told_at run i) (d.streams i) low was.stream was.did.stream)
      by_mixed false dry =
          let was = track_before i low in
          subst After (sym dry) (subst (λ (t : TrackTold). StreamMixed x.normal g i t.stream (d.streams i) (d.streams i)) (sym (track_still s state e i (told_at run i) (adds.legal.still dry)))
          (record { told = stream_stays x.normal x.fast g (adds.takes.still dry).0 i (told_at run i).stream (d.streams i) was.stream; did = was.did.stream; goes = ([], append-nil (d.streams i)) }))

  commands_left : (i : ℕ) → left.commands i ≡ d.commands i
  commands_left i = by_mixed (is_mixed entry.cycle)
    where
      by_mixed : (b : Bool) → (by_entry b).commands i ≡ d.commands i
      by_mixed true = refl
      by_mixed false = refl

  -- ## The proxies of the slots

  abbrev slot_track : ℕ → ℕ
  slot_track k = (slot_of state k).track

  module _ (k : ℕ) (low : k < slots) (carried : carries state k ≡ true) where
    here : slot_track k < length x.normal.tracks
    here = inside links x g may.together may.after may.lead adds.takes.observer k low carried

    within : slot_track k < length run.tracks
    within = let c = may.told.count in let n = may.together.count in let i = here in omega (arith, c, n, i)

    found_here : slot_for state (slot_track k) ≡ Some k
    found_here = found_slot links x g may.together may.after may.lead adds.takes.observer k low carried

    -- the block of a slot as it is told, and what its proxy did before the mix
    abbrev block : BlockTold
    block = stream_of run state k

    abbrev deed : List ServerEvent
    deed = d.streams (slot_track k)

    did_before : DeedTold block deed
    did_before = (track_before (slot_track k) here).did.stream

    told_before : (p : ServerState) → at x.fast.observer.items k ≡ Some p → TellsServer (done_on block deed) p
    told_before p item = ((track_before (slot_track k) here).stream.away (may.lead k low carried).0).held p (ap (item_at x.fast.observer.items) found_here ∙ item)

    told_after : (p : ServerState) → at g.observer.items k ≡ Some p → TellsServer (done_on (mixed_track s state e (slot_track k) (told_at run (slot_track k))).stream (left.streams (slot_track k))) p
    told_after p item =
        ((stream_after (slot_track k) here).told.away (may.lead k low carried).0).held p
        (ap (λ (z : FastState). item_at g.observer.items (slot_for z (slot_track k))) (state_same links x g may.together may.after may.lead adds.takes.observer) ∙ ap (item_at g.observer.items) found_here ∙ item)

    slot_told : is_mixed entry.cycle ≡ true → (es : List ServerEvent) × TrackSlot (cycle_frames s) (told_of.listed block) es (entry_slot entry k)
        × (SawOwnOf block.shape (left.streams (slot_track k)) → es ≡ server_list block ++ cycle_events (cycle_frames s) (told_of.listed block) (entry_slot entry k) (lawful_front (cycle_frames s) (told_of.listed block) (entry_slot entry k)))
    slot_told mixed =
        let one : SlotPlayed x.fast.frames (at x.fast.observer.items k) (at g.observer.items k) g.log.frames (entry_slot entry k) = adds.takes.tracks mixed state (current_is links x g may.together may.after may.lead entry adds mixed) k low carried in
        let old : TellsServer (done_on block deed) one.old = told_before one.old one.was in
        let looks : LooksBy x.fast.frames (real_list block deed) (entry_slot entry k) one.plays.front = looks_real x.fast.frames block deed (entry_slot entry k) one.old old one.new.pass.part.events one.plays in
        let now : left.streams (slot_track k) ≡ deed ++ cycle_events x.fast.frames (real_list block deed) (entry_slot entry k) one.plays.front =
        sym (told_after one.new one.is).events ∙ list_grown x.fast.frames block deed (entry_slot entry k) one.old old one.new.pass.part.events one.plays in
        subst (λ (n : ℕ). (es : List ServerEvent) × TrackSlot n (told_of.listed block) es (entry_slot entry k)
        × (SawOwnOf block.shape (left.streams (slot_track k)) → es ≡ server_list block ++ cycle_events n (told_of.listed block) (entry_slot entry k) (lawful_front n (told_of.listed block) (entry_slot entry k)))) may.told.fast.frames (
          server_list block ++ cycle_events x.fast.frames (told_of.listed block) (entry_slot entry k) one.plays.front,
          record { front = one.plays.front; looks = looks_told x.fast.frames (real_list block deed) (told_of.listed block) (entry_slot entry k) one.plays.front refl did_before.alike looks; list = refl },
          (λ saw.
              let saw_here = subst (SawOwnOf block.shape) now saw in
              let list : deed ≡ server_list block = list_own x.fast.frames block deed (entry_slot entry k) did_before one.plays.front looks saw_here in
              ap (λ (es : List ServerEvent). server_list block ++ es)
              (sym (ap (λ (es : List ServerEvent). cycle_events x.fast.frames (real_list block es) (entry_slot entry k) one.plays.front) list) ∙ front_lawful x.fast.frames block deed (entry_slot entry k) did_before one.plays.front looks saw_here)),
        )

    looked_at : told_at (with_looks s e run) (slot_track k) ≡ mixed_track s state e (slot_track k) (told_at run (slot_track k))
    looked_at =
        told_each (mixed_track s now e) run (slot_track k) within
        ∙ ap (λ (z : FastState). mixed_track s z e (slot_track k) (told_at run (slot_track k))) now_is

    knows : known g.observer k ≡ known_of (told_of.listed (stream_of (with_looks s e run) state k))
    knows =
        let p = held_after links x g may.together may.after may.lead adds.takes.observer k low carried in
        ap known_at p.1
        ∙ block_known (mixed_track s state e (slot_track k) (told_at run (slot_track k))).stream (left.streams (slot_track k)) p.0 (order_after links x g may.together may.after may.lead adds.takes.observer k p.0 low p.1) (told_after p.0 p.1) (stream_after (slot_track k) here).did
        ∙ ap (λ (t : TrackTold). known_of (told_of.listed t.stream)) (sym looked_at)

  -- ## The entry, by marks on whose blocks each front seen is a server's own

  module _ (marks : Marks) (own : SawOwnBy marks run left) where
    -- the list of each slot after the mix
    slot_after : (k : ℕ) → (es : List ServerEvent) × (is_mixed entry.cycle ≡ true → k < slots → carries state k ≡ true → TrackSlot (cycle_frames s) (told_of.listed (stream_of run state k)) es (entry_slot entry k)
        × (marks.streams (slot_of state k).track ≡ true → es ≡ server_list (stream_of run state k) ++ cycle_events (cycle_frames s) (told_of.listed (stream_of run state k)) (entry_slot entry k) (lawful_front (cycle_frames s) (told_of.listed (stream_of run state k)) (entry_slot entry k))))
    slot_after k = by_slot (is_mixed entry.cycle) (cases_lt k slots) (carries state k) refl refl
      where
        by_slot : (b : Bool) → (k < slots) ⊎ (slots ≤ k) → (c : Bool) → is_mixed entry.cycle ≡ b → carries state k ≡ c
            → (es : List ServerEvent) × (is_mixed entry.cycle ≡ true → k < slots → carries state k ≡ true → TrackSlot (cycle_frames s) (told_of.listed (stream_of run state k)) es (entry_slot entry k)
            × (marks.streams (slot_of state k).track ≡ true → es ≡ server_list (stream_of run state k) ++ cycle_events (cycle_frames s) (told_of.listed (stream_of run state k)) (entry_slot entry k) (lawful_front (cycle_frames s) (told_of.listed (stream_of run state k)) (entry_slot entry k))))
        by_slot true (inl low) true mixed on = let one = slot_told k low on mixed in (one.0, λ _ _ _. (one.1, λ marked. one.2 (own.streams (slot_track k) (within k low on) marked)))
        by_slot false low c dry on = ([], λ mixed _ _. absurd (true≢false (sym mixed ∙ dry)))
        by_slot true (inr high) c mixed on = ([], λ _ low _. absurd (omega (arith, low, high)))
        by_slot true (inl low) false mixed off = ([], λ _ _ on. absurd (true≢false (sym on ∙ off)))

    finds : FindsTold s marks run x.fast e
    finds = record {
      few = few_adopted s run x.normal x.fast may.together.fast.0 may.told.normal may.told.fast may.queue;
      same = same_state s run x.normal x.fast may.together.fast.0 may.told.normal may.told.fast may.queue entry.state (let n = adds.state in omega (arith, n));
      cold = same_cold s run x.normal x.fast may.together.fast.0 may.told.normal may.told.fast may.queue;
      servers = (λ i. record { shape = (stream_of run now i).shape; events = (slot_after i).0 });
      tracks = (λ mixed i low on. subst (λ (z : FastState). carries z i ≡ true → TrackSlot (cycle_frames s) (told_of.listed (stream_of run z i)) (slot_after i).0 (entry_slot entry i)) (sym now_is) (λ (c : carries state i ≡ true). ((slot_after i).1 mixed low c).0) on);
      lawful = (λ mixed i low on.
          subst (λ (z : FastState). carries z i ≡ true → marks.streams (slot_of z i).track ≡ true
          → (slot_after i).0 ≡ server_list (stream_of run z i) ++ cycle_events (cycle_frames s) (told_of.listed (stream_of run z i)) (entry_slot entry i) (lawful_front (cycle_frames s) (told_of.listed (stream_of run z i)) (entry_slot entry i)))
          (sym now_is) (λ (c : carries state i ≡ true). ((slot_after i).1 mixed low c).1) on);
    }

  -- ## The ends

  pipe_before : PipeTells run.pipe x.normal.pipe.pass.part.events x.normal.pipe.pass.part.frames x.fast
  pipe_before = record { puts_are = may.told.shared.puts.told; put_is = may.told.shared.puts.words; takes = may.told.shared.takes; taken = may.told.shared.taken }

  pipe_after : PipeTells (mixed_pipe e run.pipe) x.normal.pipe.pass.part.events x.normal.pipe.pass.part.frames g
  pipe_after = by_mixed (is_mixed entry.cycle) refl
    where
      by_mixed : (b : Bool) → is_mixed entry.cycle ≡ b → PipeTells (mixed_pipe e run.pipe) x.normal.pipe.pass.part.events x.normal.pipe.pass.part.frames g
      by_mixed true mixed =
          let submix = (mix_is links x g may.together may.after may.lead entry adds mixed).submix in
          pipe_mixed x.fast g e run.pipe x.normal.pipe.pass.part.events x.normal.pipe.pass.part.frames pipe_before mixed adds.takes submix
          (front_taken x.fast g (entry_slot entry 0) may.counted may.sees submix) ((saw mixed).frames 0 (omega arith))
      by_mixed false dry = pipe_still x.fast g e run.pipe x.normal.pipe.pass.part.events x.normal.pipe.pass.part.frames pipe_before dry adds.takes

  pipe_shape : g.pipe.pass.part.shape.frames ≡ x.fast.pipe.pass.part.shape.frames
  pipe_shape = ap (λ (m : Made). m.shape.frames) (may.after.fast.1.pipe_is ∙ sym may.together.fast.1.pipe_is)

  report_is : adds.report.0 ≡ next_report s (with_looks s e run) entry
  report_is = counted.report_is s run x.normal x.fast g e may.together.fast.0 may.told.normal may.told.fast may.queue adds knows

  fresh : IsFresh (with_mix s e run)
  fresh = counted.fresh_mixed s run x.normal x.fast g e may.together.fast.0 may.told.normal may.told.fast may.queue adds knows

  -- ## The whole mix

  track_after : (i : ℕ) (p : PartyState) → slice_get x.clients i ≡ Some p → TellsTrack s x.normal g left i (mixed_track s state e i (told_at run i)) p
  track_after i p is =
      let old = may.told.tracks i p is in
      let low : i < length x.normal.tracks = (let w = slice_get_within x.clients i p is in let c = may.together.count in omega (arith, w, c)) in
      let stream = stream_after i low in
      let same : (mixed_track s state e i (told_at run i)).commands ≡ (told_at run i).commands = commands_stay s state e i (told_at run i) in
      record {
        client = mixed_sides s state e i (told_at run i) ∙ old.client;
        stream = stream.told;
        commands = subst (λ (y : BlockTold × List ServerEvent). (c : ServerState) → slice_get x.normal.commands i ≡ Some c → TellsCommands y.0 y.1 c) (λ j. (sym same j, sym (commands_left i) j)) old.commands;
        did = record { stream = stream.did; commands = subst (λ (y : BlockTold × List ServerEvent). DeedTold y.0 y.1) (λ j. (sym same j, sym (commands_left i) j)) old.did.commands };
      }

  -- the run with the mix tells the session
  told_all : Tells s (with_mix s e run) left session
  unfolding with_mix
  told_all = record {
    count = (each_long (mixed_track s now e) 0 run.tracks ∙ may.told.count.0, may.told.count.1);
    tracks = (λ i p is.
        subst (λ (t : TrackTold). TellsTrack s x.normal g left i t p)
        (sym (told_each (mixed_track s now e) run i (let w = slice_get_within x.clients i p is in let c = may.told.count in omega (arith, w, c)) ∙ ap (λ (z : FastState). mixed_track s z e i (told_at run i)) now_is))
        (track_after i p is));
    shared = shared_mixed s run x.normal x.fast g e may.told.shared may.told.fast adds sizes may.after.fast.0 pipe_after pipe_shape report_is fresh;
    normal = normal_mixed s run x.normal x.fast g e may.told.shared may.told.fast adds sizes may.after.fast.0 pipe_after pipe_shape report_is fresh may.told.normal;
    fast = fast_mixed s run x.normal x.fast g e may.told.shared may.told.fast adds sizes may.after.fast.0 pipe_after pipe_shape report_is fresh;
  }

  -- the servers went on
  goes_on : GoOn d left
  goes_on = record { streams = each; commands = (λ i. ([], append-nil (d.commands i) ∙ sym (commands_left i))) }
    where
      outside : (i : ℕ) → length x.normal.tracks ≤ i → (b : Bool) → is_mixed entry.cycle ≡ b → StartsWith ((by_entry b).streams i) (d.streams i)
      outside i high false dry = ([], append-nil (d.streams i))
      outside i high true mixed = by_slot (slot_for state i) refl
        where
          by_slot : (o : Option ℕ) → slot_for state i ≡ o → StartsWith (list_by o g (d.streams i)) (d.streams i)
          by_slot None none = ([], append-nil (d.streams i))
          by_slot (Some k) found =
              let held = found_carries state i k found in
              let low = inside links x g may.together may.after may.lead adds.takes.observer k held.0 held.1 in
              let same : slot_track k ≡ i = found_track state i k found in
              absurd (omega (arith, low, high, same))

      each : (i : ℕ) → StartsWith (left.streams i) (d.streams i)
      each i = ⊎_elim (λ (low : i < length x.normal.tracks). (stream_after i low).goes) (λ (high : length x.normal.tracks ≤ i). outside i high (is_mixed entry.cycle) refl) (cases_lt i (length x.normal.tracks))

  -- of a stream's proxy that isn't held nothing more is told
  rests : (i : ℕ) → slot_for state i ≡ None → left.streams i ≡ d.streams i
  rests i none = by_mixed (is_mixed entry.cycle)
    where
      by_mixed : (b : Bool) → (by_entry b).streams i ≡ d.streams i
      by_mixed true = ap (λ (o : Option ℕ). list_by o g (d.streams i)) none
      by_mixed false = refl

  -- the entry is legal
  legal_entry : (marks : Marks) → SawOwnBy marks run left → LegalEntry s marks run e
  legal_entry marks own = entry_legal s marks run x.normal x.fast g e may.told.shared may.told.fast adds (finds marks own) (shared_mixed s run x.normal x.fast g e may.told.shared may.told.fast adds sizes may.after.fast.0 pipe_after pipe_shape report_is fresh)

-- the mix of a mixer that isn't over is told
pub mix_told : (links : Links) (s : Session) (run : Run) (d : Deeds) (x : SessionState) (g : MixerState) (out : List Frame) (answer : Cycle) (out' : List Frame) → MixIsTold links s run d x g out answer out'
mix_told links s run d x g out answer out' together after lead on mixes sizes queue counted sees told =
    let added = mixes.adds on in
    let may : MayMix links s run d x g = record { together = together; after = after; lead = lead; queue = queue; counted = counted; sees = sees; told = told } in (
      added.0,
      added.1,
      added.2.entries,
      record { deeds = left links s run d x g may added.0 added.2 sizes; goes = goes_on links s run d x g may added.0 added.2 sizes; told = told_all links s run d x g may added.0 added.2 sizes },
      rests links s run d x g may added.0 added.2 sizes,
      legal_entry links s run d x g may added.0 added.2 sizes,
    )
