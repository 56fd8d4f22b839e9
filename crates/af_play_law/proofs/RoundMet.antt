-- The meetings at the end of a round of all parties: each front that a server saw which took part in them is its own, so that the lists have their histories and each turn of the round is legal.
use Rattle.std.proofs.Common.{◌≡◌, ℕ, zero, suc, ◌+◌, ◌<◌, ◌≤◌, ◌==◌, ◌&&◌, ◌||◌, Bool, true, false, true≢false, if◌then◌else◌, is_some, map, drop, List, [], ◌∷◌, ◌++◌, length, length-append, append-nil, Option, Some, None, slice_get, refl, sym, ap, subst, ◌∙◌, arith}
use Rattle.af_play_law.proofs.Common.{AllZip, AreLegalTurns, BlockTold, ClientCall, ClientPlayed, CycleEntry, CyclesOn, Deeds, EntrySeen, GoOn, IsFastTurn, IsSmallRun, IsTrackSmall, LeadAway, LegalClientTurn, LegalEntries, LegalFastTurn, Links, Marks, MatchBool, MayFollow, MetTold, MixerState, NormalKept, PartyState, RoundSeen, Run, SawOwnBy, SawOwnOf, ServerEvent, ServerState, Session, SessionState, Shape, StartsWith, Tells, TellsServer, Track, TrackTold, after_round, after_turn, all_ended, all_played, append_cancel_left, before_turn, calls_in, carries, client_list, deeds_met, done_on, drop-append_seam, each_long, each_track, early_of, ends, entries_seen, eq-eqb, file_at, fills, given_of, held_slot, is_home, is_lawful, is_tame, item_at, late_of, length-map, list_any, met, met_at, met_deed, met_many, most_cycles, none-some, ops_at, own_met, range_with_len, same_Some, shape_met, sides_of, slot_of, slots, small_told, some_at, stream_at, takes_part, told_at, told_each, track_at, track_count, track_of, with_calls, with_cycles, with_ends}
use Rattle.af_base.specs.declared.event.ServerEvent.TheVariants as server
use Rattle.af_session.specs.Rounds as parties
use Rattle.af_told_law.proofs.MeetsShow.{SawOwn, SeesOwn, meetings_show}
use Rattle.af_told_law.proofs.AllMeet.{met_histories, tells_met}
use Rattle.af_told_law.proofs.EndsTold.{ends_told}
use Rattle.af_told_law.proofs.SlotHeld.{found_carries, is_held}
use Rattle.af_play_law.specs.Rounds.{RoundIsTold}
use Rattle.af_play_law.specs.RoundPlayed.{PlayStands, RoundPlayed}
use Rattle.af_play_law.proofs.Words.{HearsForeseen}
use Rattle.af_play_law.proofs.AfterTurn.{late_told, turn_told}
use Rattle.af_play_law.proofs.Cycled.{chain_entries}
use Rattle.af_play_law.proofs.CyclesTold.{HasShapes, SameShapes, go_then, saw_back, shapes_same, shapes_told, shapes_then}
use Rattle.af_play_law.proofs.RoundCycles.{chain, cycles, early}
use Rattle.af_play_law.proofs.RoundForm.{CyclesAdded, IsFull, cycles_added, turn_form}
use Rattle.af_play_law.proofs.RoundLoaded.{told_loaded}

-- ## Lists

-- two lists related place by place
zip_at : {X : Type 0} (R : X → X → Type 0) (xs ys : List X) (i : ℕ) (x y : X) → AllZip R xs ys → slice_get xs i ≡ Some x → slice_get ys i ≡ Some y → R x y
zip_at R [] ys i x y z is also = absurd (none-some x is)
zip_at R (a ∷ xs) [] i x y z is also = absurd z
zip_at {X} R (a ∷ xs) (b ∷ ys) zero x y z is also = subst (λ (q : X × X). R q.0 q.1) (λ j. (same_Some a x is j, same_Some b y also j)) z.0
zip_at R (a ∷ xs) (b ∷ ys) (suc i) x y z is also = zip_at R xs ys i x y z.1 is also

-- a proxy that did this saw its own fronts by its list
own_list : (b : BlockTold) (deed : List ServerEvent) (t : ServerState) → TellsServer (done_on b deed) t → SawOwn t → SawOwnOf b.shape deed
own_list b deed t told saw = subst (λ (y : Shape × List ServerEvent). SawOwnOf y.0 y.1) (λ j. (told.shape j, told.events j)) saw

-- ## The meetings and the ends of a run

-- the servers go on by their meetings
go_met : (s : Session) (run : Run) (d : Deeds) → GoOn d (deeds_met s run d)
go_met s run d = record { streams = (λ i. by_part (takes_part s run i) (told_at run i).stream (d.streams i)); commands = (λ i. (server.Learn (length (client_list (told_at run i).commands)) ∷ [], refl)) }
  where
    by_part : (part : Bool) (b : BlockTold) (deed : List ServerEvent) → StartsWith (if part then met_deed b deed else deed) deed
    by_part true b deed = (server.Learn (length (client_list b)) ∷ [], refl)
    by_part false b deed = ([], append-nil deed)

-- the blocks keep their sizes in the meetings
met_shapes : (s : Session) (run : Run) → length run.tracks ≡ track_count s → SameShapes s run (met s run)
met_shapes s run many = record {
  before = many;
  after = met_many s run ∙ many;
  streams = (λ i low. ap (λ (t : TrackTold). t.stream.shape) (met_at s run i (omega (arith, many, low))) ∙ shape_met (takes_part s run i) run.handed (told_at run i).stream);
  commands = (λ i low. ap (λ (t : TrackTold). t.commands.shape) (met_at s run i (omega (arith, many, low))));
}

ends_shapes : (s : Session) (run : Run) → length run.tracks ≡ track_count s → SameShapes s run (with_ends run)
unfolding with_ends
ends_shapes s run many = by_end run.normal.ended
  where
    ended : ℕ → TrackTold → TrackTold
    ended i t = record t { client = ends t.client }

    by_end : (b : Bool) → SameShapes s run (if b then each_track ended run else run)
    by_end true = record {
      before = many;
      after = each_long ended 0 run.tracks ∙ many;
      streams = (λ i low. ap (λ (t : TrackTold). t.stream.shape) (told_each ended run i (omega (arith, many, low))));
      commands = (λ i low. ap (λ (t : TrackTold). t.commands.shape) (told_each ended run i (omega (arith, many, low))));
    }
    by_end false = record { before = many; after = many; streams = (λ i low. refl); commands = (λ i low. refl) }

-- ## A round

module _ (links : Links) (s : Session) (run : Run) (d : Deeds) (x u z : SessionState) (bytes : List ℕ) (round : RoundSeen) (stands : PlayStands s run d x) (w : RoundPlayed links s x u z bytes round) (hears : HearsForeseen s run x u round) where
  abbrev played : Run
  played = all_played s run round

  abbrev deeds : Deeds
  deeds = (late_told links s run d x u z bytes round stands w hears).deeds

  told : Tells s played deeds u
  told = told_loaded links s run d x u z bytes round stands w hears

  -- ## Sizes

  shapes_run : HasShapes links s run
  shapes_run = shapes_told links s run d x stands.told w.before

  shapes_played : HasShapes links s played
  shapes_played = shapes_told links s played deeds u told w.turned

  pub same_played : SameShapes s run played
  same_played = shapes_same links s run played shapes_run shapes_played

  pub small_played : IsSmallRun played
  small_played i low =
      let here : i < track_count s = (let m = same_played.after in omega (arith, m, low)) in
      let was : IsTrackSmall (told_at run i) = stands.small i (let m = same_played.before in omega (arith, m, here)) in
      (subst (λ (k : Shape). k.frames ≤ 65536) (sym (same_played.streams i here)) was.0, subst (λ (k : Shape). k.frames ≤ 65536) (sym (same_played.commands i here)) was.1)

  -- ## What the meetings show

  pub lead : LeadAway u.fast.observer.past.state u.normal.tracks
  lead = subst (λ (m : MixerState). LeadAway m.observer.past.state u.normal.tracks) (sym (cycles links s run d x u z bytes round stands w).ends) (late_told links s run d x u z bytes round stands w hears).may.state

  sees : SeesOwn u
  sees = meetings_show links u z (small_told s played u told small_played) w.turned w.met lead w.meets

  party : (i : ℕ) → i < track_count s → (p : PartyState) × (slice_get u.clients i ≡ Some p)
  party i low = some_at u.clients i (let c = told.count.1 in omega (arith, low, c))

  within : (i : ℕ) → i < track_count s → i < length u.normal.tracks
  within i low = let c = told.count.1 in let t = w.turned.count in omega (arith, low, c, t)

  part_is : (i : ℕ) → takes_part s played i ≡ (is_home (track_at u.normal.tracks i).holder || is_some (held_slot u.fast i))
  part_is i =
      (λ j. is_home (track_at ((ap (λ (k : NormalKept). k.tracks) (sym told.normal.kept)) j) i).holder || list_any (λ k. carries ((sym told.fast.state) j) k && ((slot_of ((sym told.fast.state) j) k).track == i)) (range_with_len 0 slots))
      ∙ ap (λ (b : Bool). is_home (track_at u.normal.tracks i).holder || b) (is_held u.fast.observer.past.state i)

  -- each front of a stream's server that took part is its own
  streams_own : (i : ℕ) → i < track_count s → takes_part s played i ≡ true → is_tame (told_at played i).stream ≡ true → SawOwnOf (told_at played i).stream.shape (deeds.streams i)
  streams_own i low part tame = by_home (stream_at u.normal.streams i) refl
    where
      p : (p : PartyState) × (slice_get u.clients i ≡ Some p)
      p = party i low

      lawful : is_lawful p.0.stream.pass.part.events ≡ true
      lawful = ap (λ (y : Track). is_lawful y.stream.events) (sym (told.tracks i p.0 p.1).client) ∙ tame

      by_item : is_home (track_at u.normal.tracks i).holder ≡ false → (k : ℕ) → held_slot u.fast i ≡ Some k → (o : Option ServerState) → item_at u.fast.observer.items (held_slot u.fast i) ≡ o → SawOwnOf (told_at played i).stream.shape (deeds.streams i)
      by_item gone k found None none =
          let carried = found_carries u.fast.observer.past.state i k found in
          absurd (true≢false (sym (w.turned.fast.0.observer.held k carried.0 ∙ carried.1) ∙ ap is_some (ap (item_at u.fast.observer.items) (sym found) ∙ none)))
      by_item gone k found (Some t) is = own_list (told_at played i).stream (deeds.streams i) t (((told.tracks i p.0 p.1).stream.away gone).held t is) (sees.held i p.0 t p.1 lawful is)

      by_held : is_home (track_at u.normal.tracks i).holder ≡ false → (o : Option ℕ) → held_slot u.fast i ≡ o → SawOwnOf (told_at played i).stream.shape (deeds.streams i)
      by_held gone None none = absurd (true≢false (sym part ∙ part_is i ∙ (λ j. gone j || is_some (none j))))
      by_held gone (Some k) found = by_item gone k found (item_at u.fast.observer.items (held_slot u.fast i)) refl

      by_home : (o : Option ServerState) → stream_at u.normal.streams i ≡ o → SawOwnOf (told_at played i).stream.shape (deeds.streams i)
      by_home (Some t) is = own_list (told_at played i).stream (deeds.streams i) t ((told.tracks i p.0 p.1).stream.home t is) (sees.homes i p.0 t p.1 lawful is)
      by_home None none = by_held (sym (w.turned.normal.tied.proxies.there i (within i low)) ∙ ap is_some none) (held_slot u.fast i) refl

  -- each front of a command server is its own
  commands_own : (i : ℕ) → i < track_count s → is_tame (told_at played i).commands ≡ true → SawOwnOf (told_at played i).commands.shape (deeds.commands i)
  commands_own i low tame =
      let p = party i low in
      let t = some_at u.normal.commands i (let here = within i low in let same = w.turned.normal.tied.sizes.commands_are in omega (arith, here, same)) in
      let track = told.tracks i p.0 p.1 in
      own_list (told_at played i).commands (deeds.commands i) t.0 (track.commands t.0 t.1).server (sees.commands i p.0 t.0 p.1 (ap (λ (y : Track). is_lawful y.commands.events) (sym track.client) ∙ tame) t.1)

  lists : MetTold s played deeds
  lists = record {
    streams = (λ i low part tame. let p = party i low in (told.tracks i p.0 p.1).did.stream.own (streams_own i low part tame));
    commands = (λ i low tame. let p = party i low in (told.tracks i p.0 p.1).did.commands.own (commands_own i low tame));
  }

  -- ## What the meetings leave

  abbrev left : Deeds
  left = deeds_met s played deeds

  told_left : Tells s (after_round s run round) left (parties.with_ends z)
  told_left = ends_told s (met s played) z (tells_met links s played u z w.turned w.met told w.meets)

  goes_early : GoOn d (early links s run d x u z bytes round stands w).deeds
  goes_early = (early links s run d x u z bytes round stands w).goes

  goes_left : GoOn deeds left
  goes_left = go_met s played deeds

  goes_turn : GoOn (turn_told links s run d x u z bytes round stands w hears).deeds left
  goes_turn = go_then (turn_told links s run d x u z bytes round stands w hears).deeds deeds left (late_told links s run d x u z bytes round stands w hears).goes goes_left

  goes_half : GoOn (early links s run d x u z bytes round stands w).deeds left
  goes_half = go_then (early links s run d x u z bytes round stands w).deeds (turn_told links s run d x u z bytes round stands w hears).deeds left (turn_told links s run d x u z bytes round stands w hears).goes goes_turn

  -- ## The turns

  entries_now : u.fast.log.entries ≡ x.fast.log.entries ++ map (λ (e : EntrySeen). e.entry) round.entries
  entries_now = ap (λ (m : MixerState). m.log.entries) (cycles links s run d x u z bytes round stands w).ends
      ∙ chain_entries links round.entries x.fast (cycles links s run d x u z bytes round stands w).last (chain links s run d x u z bytes round stands w)

  clients_legal : (track : ℕ) → track < track_count s → LegalClientTurn (sides_of (told_at run track)) (calls_in round track)
  clients_legal i low =
      let p = some_at x.clients i (let c = stands.told.count.1 in omega (arith, low, c)) in
      let q = party i low in
      let one : ClientPlayed (given_of s) p.0 q.0 = zip_at (ClientPlayed (given_of s)) x.clients u.clients i p.0 q.0 w.plays.clients p.1 q.1 in
      let track : p.0.track ≡ i = w.before.tracks i p.0 p.1 in
      subst (λ (y : Track × List ClientCall). LegalClientTurn y.0 y.1) (λ j. ((ap (λ (k : ℕ). track_of (ops_at (given_of s) k) (file_at (given_of s) k) p.0) track ∙ sym (stands.told.tracks i p.0 p.1).client) j, sym (w.notes.calls i q.0 q.1) j)) one.legal

  -- the marks call only blocks lawful on which each front seen is a server's own
  module _ (marks : Marks) (saw : SawOwnBy marks played left) where
    early_legal : LegalEntries s marks (with_calls round run) (early_of run round)
    early_legal =
        let told_early = early links s run d x u z bytes round stands w in
        told_early.legal marks (saw_back s marks (before_turn s run round) played told_early.deeds left
        (shapes_same links s (before_turn s run round) played (shapes_told links s (before_turn s run round) told_early.deeds _ told_early.may.told told_early.may.together) shapes_played) goes_half saw)

    late_legal : LegalEntries s marks (after_turn s run round) (late_of run round)
    late_legal =
        let told_late = late_told links s run d x u z bytes round stands w hears in
        let stored : Run = with_cycles s (late_of run round) (after_turn s run round) in
        told_late.legal marks (saw_back s marks stored played told_late.deeds left (shapes_same links s stored played (shapes_told links s stored told_late.deeds _ told_late.may.told told_late.may.together) shapes_played) goes_left saw)

    fast_by : (b : Bool) → x.fast.exited ≡ b → MatchBool b ((bytes ≡ []) × (u.fast ≡ x.fast)) (CyclesOn links most_cycles x.fast bytes u.fast)
        → MatchBool b (round.entries ≡ []) (IsFastTurn 16 (true && fills s run round) round.entries × LegalEntries s marks (with_calls round run) (early_of run round) × LegalEntries s marks (after_turn s run round) (late_of run round))
    fast_by true over still =
        w.notes.entries
        ∙ ap (entries_seen (drop (length x.fast.log.frames) u.fast.log.frames)) (ap (λ (m : MixerState). drop (length x.fast.log.entries) m.log.entries) still.1
        ∙ ap (drop (length x.fast.log.entries)) (sym (append-nil x.fast.log.entries)) ∙ drop-append_seam x.fast.log.entries [])
    fast_by false runs turn = (form, early_legal, late_legal)
      where
        all : CyclesAdded links 16 x.fast u.fast
        all = cycles_added links 16 x.fast bytes u.fast runs (sym w.before.fast.0.keeps.exited_is ∙ runs) turn

        same : map (λ (e : EntrySeen). e.entry) round.entries ≡ all.added
        same = append_cancel_left x.fast.log.entries (map (λ (e : EntrySeen). e.entry) round.entries) all.added (sym entries_now ∙ all.entries)

        full : IsFull u.fast → fills s run round ≡ true
        full is =
            let now = ap (λ (l : List CycleEntry). length l) entries_now in
            let sum = length-append x.fast.log.entries (map (λ (e : EntrySeen). e.entry) round.entries) in
            let long = length-map round.entries (λ (e : EntrySeen). e.entry) in
            let was = ap (λ (l : List CycleEntry). length l) stands.told.fast.entries in
            let sizes = all.sizes in
            let cycles = stands.told.fast.cycles in
            eq-eqb (length run.entries + length round.entries) s.script.cycles (omega (arith, is, now, sum, long, was, sizes, cycles))

        form : IsFastTurn 16 (true && fills s run round) round.entries
        form = turn_form links 16 x.fast u.fast all round.entries (fills s run round) (omega arith) w.room same full

    fast_legal : LegalFastTurn true s marks run round
    fast_legal = subst (λ (b : Bool). MatchBool b (round.entries ≡ []) (IsFastTurn 16 (true && fills s run round) round.entries × LegalEntries s marks (with_calls round run) (early_of run round) × LegalEntries s marks (after_turn s run round) (late_of run round)))
        stands.told.fast.exited (fast_by x.fast.exited refl w.plays.fast)

    legal_turns : AreLegalTurns true s marks run round
    legal_turns = record {
      clients = clients_legal;
      normal = (let told_early = early links s run d x u z bytes round stands w in
          (turn_told links s run d x u z bytes round stands w hears).legal marks (saw_back s marks (before_turn s run round) played (turn_told links s run d x u z bytes round stands w hears).deeds left
          (shapes_same links s (before_turn s run round) played (shapes_told links s (before_turn s run round) told_early.deeds _ told_early.may.told told_early.may.together) shapes_played) goes_turn saw));
      fast = fast_legal;
    }

  -- the round may follow
  follows : all_ended s run ≡ false → MayFollow s run round
  follows going = record { going = going; room = room; within = within_log }
    where
      was : length x.fast.log.entries ≡ length run.entries
      was = ap (λ (l : List CycleEntry). length l) stands.told.fast.entries

      room : length run.entries < s.script.cycles
      room = let cycles = stands.told.fast.cycles in let some = w.room in let a = was in omega (arith, cycles, some, a)

      within_log : length run.entries + length round.entries ≤ s.script.cycles
      within_log =
          let now = ap (λ (l : List CycleEntry). length l) entries_now in
          let sum = length-append x.fast.log.entries (map (λ (e : EntrySeen). e.entry) round.entries) in
          let long = length-map round.entries (λ (e : EntrySeen). e.entry) in
          let cycles = told.fast.cycles in
          let most = w.turned.fast.0.room.entries.0 in
          let a = was in
          omega (arith, now, sum, long, cycles, most, a)

  -- ## The whole round

  pub round_told : RoundIsTold s run d round (parties.with_ends z)
  round_told = record {
    left = record { deeds = left; goes = go_then d (early links s run d x u z bytes round stands w).deeds left goes_early goes_half; told = told_left };
    legal = (λ marks going saw. record { follows = follows going; turns = legal_turns marks saw; histories = met_histories links s played u z w.turned w.met told w.meets lists });
    streams = (λ i low part tame.
        subst (λ (b : Bool). SawOwnOf (told_at played i).stream.shape (if b then met_deed (told_at played i).stream (deeds.streams i) else deeds.streams i)) (sym part) (own_met (told_at played i).stream (deeds.streams i) (streams_own i low part tame)));
    commands = (λ i low tame. own_met (told_at played i).commands (deeds.commands i) (commands_own i low tame));
  }

  -- the blocks keep their sizes in the round
  pub shapes_after : SameShapes s run (after_round s run round)
  shapes_after =
      let one = met_shapes s played same_played.after in
      shapes_then s run played (after_round s run round) same_played (shapes_then s played (met s played) (after_round s run round) one (ends_shapes s (met s played) one.after))

  pub shapes_behind : SameShapes s played (after_round s run round)
  shapes_behind = let one = met_shapes s played same_played.after in shapes_then s played (met s played) (after_round s run round) one (ends_shapes s (met s played) one.after)

  pub small_after : IsSmallRun (after_round s run round)
  small_after i low =
      let same = shapes_after in
      let here : i < track_count s = (let m = same.after in omega (arith, m, low)) in
      let was : IsTrackSmall (told_at run i) = stands.small i (let m = same.before in omega (arith, m, here)) in
      (subst (λ (k : Shape). k.frames ≤ 65536) (sym (same.streams i here)) was.0, subst (λ (k : Shape). k.frames ≤ 65536) (sym (same.commands i here)) was.1)
