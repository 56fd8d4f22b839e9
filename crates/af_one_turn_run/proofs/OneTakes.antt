-- What a turn of the normal mixer takes for its buffer is determined by what the stream blocks tell.
use Rattle.std.proofs.Common.{◌≡◌, ℕ, ◌+◌, ◌<◌, ◌≤◌, Bool, true, false, if◌then◌else◌, is_some, map, List, [], ◌∷◌, ◌++◌, drop, length, All, refl, sym, ap, ◌∙◌, subst, arith, append-nil, ne_eqb}
use Rattle.af_one_turn_run.proofs.Common.{AllByRecursion, BlockTold, HandEvent, IsFrame, Learnt, Listed, LooksBy, Moment, NormalKept, ServerEvent, Setup, Shape, SlotEntry, TakeSeen, TrackKept, TrackPoint, TracksRise, Turn, TurnFound, after, events_behind_look, asked as buffer, by_hand, client_of, cycle_events, flat_map, front_of, going, hand_events_of, invalid, is_home, kept, lawful_front, learnt, listed, mix_events, outside_of, packed_word, slice_index_or, start, stream_list, stream_turned, take_front, taken_of, takes_from, track_at, track_in, tracks_at, told_more}
use Rattle.af_base.specs.declared.event.ServerEvent.TheVariants as server
use Rattle.af_judge.proofs.TurnExactly.{first_of, others_of}
use Rattle.af_one_turn_run.proofs.Seeing.{after_servers, ServerSees}
use Rattle.af_one_turn_run.proofs.Taking.{taken_by, IsTakenOf}
use Rattle.af_one_turn_run.proofs.Told.{IsToldLegally}
use Rattle.af_one_turn_run.proofs.LegalFronts.{server_front, server_parts}
use Rattle.af_one_turn_run.proofs.OneFrames.{one_frames}
use Rattle.af_one_turn_run.proofs.OneLook.{looks_by, looked, look_so, events_told}
use Rattle.af_one_turn_run.proofs.TakenWords.{taken_parts, words_told}

-- ## One slot

-- a slot without its place
abbrev pub bare_slot : SlotEntry → SlotEntry
bare_slot slot = record slot { first = 0 }

-- the events of a slot by the front by which its look answers
abbrev pub slot_events : ℕ → Listed → SlotEntry → List ServerEvent
slot_events asked s slot = cycle_events asked s slot (lawful_front asked s slot)

-- a slot that is told at a point: its look is legal, its events see what is there, and these words are taken
pub record SlotTold (frames : List ℕ) (base asked : ℕ) (s : Listed) (p : TrackPoint) (n : ℕ) (slot : SlotEntry) (words : List ℕ) : Type 0 where
  pub looks : LooksBy asked s slot (lawful_front asked s slot)
  pub sees : ServerSees p n (cycle_events asked s slot (front_of asked s slot))
  pub words_are : words ≡ taken_by frames base p (cycle_events asked s slot (front_of asked s slot))

module _ (frames : List ℕ) (base asked : ℕ) (s : Listed) (p : TrackPoint) (n : ℕ) where
  told_lawful : (slot : SlotEntry) → LooksBy asked s slot (lawful_front asked s slot) → cycle_events asked s slot (front_of asked s slot) ≡ slot_events asked s slot
  told_lawful slot looks = ap (λ (es : List ServerEvent). server.SawGain slot.gains ∷ es ++ events_behind_look asked (is_some (kept s).shut) slot.seen) (events_told asked s slot looks)

  slot_so : (slot : SlotEntry) (words : List ℕ) → SlotTold frames base asked s p n slot words → bare_slot slot ≡ (let l = looked asked s p in let x : SlotEntry = record { gains = p.gains; flush = l.flush; rear = l.rear; seen = l.seen; first = 0 } in x)
  slot_so slot words h =
      let saw = subst (ServerSees p n) (told_lawful slot h.looks) h.sees in
      let look = look_so asked s slot p n h.looks (server_parts p n (looks_by s slot (lawful_front asked s slot)) (events_behind_look asked (is_some (kept s).shut) slot.seen) saw.1).0 in
      λ i. let x : SlotEntry = record { gains = saw.0 i; flush = (look i).flush; rear = (look i).rear; seen = (look i).seen; first = 0 } in x

  -- two slots that are told at one point are the same, and take the same
  pub one_slot : (a b : SlotEntry) (words others : List ℕ) → SlotTold frames base asked s p n a words → SlotTold frames base asked s p n b others → (bare_slot a ≡ bare_slot b) × (words ≡ others)
  one_slot a b words others h h_b =
      let same = slot_so a words h ∙ sym (slot_so b others h_b) in
      (same, h.words_are ∙ ap (taken_by frames base p) (told_lawful a h.looks) ∙ ap (λ (x : SlotEntry). taken_by frames base p (slot_events asked s x)) same ∙ sym (ap (taken_by frames base p) (told_lawful b h_b.looks)) ∙ sym h_b.words_are)

  pub one_take : (a b : TakeSeen) → a.track ≡ b.track → a.slot.first ≡ 0 → b.slot.first ≡ 0 → All IsFrame a.frames → All IsFrame b.frames → SlotTold frames base asked s p n a.slot (map packed_word a.frames) → SlotTold frames base asked s p n b.slot (map packed_word b.frames) → a ≡ b
  one_take a b same first first_b are are_b h h_b =
      let one = one_slot a.slot b.slot (map packed_word a.frames) (map packed_word b.frames) h h_b in
      let frames = one_frames a.frames b.frames are are_b one.1 in
      (λ i. let t : TakeSeen = record { track = same i; slot = record a.slot { first = first i }; frames = frames i } in t)
      ∙ (λ i. let t : TakeSeen = record { track = b.track; slot = one.0 i; frames = b.frames } in t)
      ∙ (λ i. let t : TakeSeen = record { track = b.track; slot = record b.slot { first = sym first_b i }; frames = b.frames } in t)

-- ## From what a stream block tells

hands_take : (frames : List ℕ) (k : Shape) (told : List Moment) (hands : List HandEvent) → taken_of frames k (told_more told (map by_hand hands)) ≡ taken_of frames k told
hands_take frames k told [] = refl
hands_take frames k told (e ∷ hands) = hands_take frames k (by_hand e ∷ told) hands

-- what a server does before it plays: INVALID, or nothing
nothing_taken : (frames : List ℕ) (base : ℕ) (p : TrackPoint) (home shut : Bool) → taken_by frames base p (if home then (if shut then server.SetFlags 4 ∷ [] else []) else []) ≡ []
nothing_taken frames base p true true = refl
nothing_taken frames base p true false = refl
nothing_taken frames base p false shut = refl

-- a stream block after the hand, and then after what the server does before it plays
abbrev pub handed : BlockTold → List HandEvent → List Moment
handed b hands = told_more b.told (map by_hand hands)

abbrev pub played_from : BlockTold → List HandEvent → List ServerEvent → TrackPoint
played_from b hands before = after_servers (after (start b.shape) (handed b hands)) before

abbrev pub before_play : Learnt → Turn → List TrackKept → ℕ → List ServerEvent
before_play k e tracks i = if is_home (track_at tracks i).holder then invalid k (track_in e i) tracks i else []

-- a take of a turn that went on is told by its stream block
pub take_told : (frames : List ℕ) (c : Setup) (f : TurnFound) (m : NormalKept) (e : Turn) (t : TakeSeen) (i : ℕ) → (let b = f.streams i in let o = outside_of c f e in
    e.ended ≡ false → takes_from e.mixes i ≡ t ∷ [] → LooksBy (buffer c) (listed b) t.slot (lawful_front (buffer c) (listed b) t.slot) → IsTakenOf frames b
    → IsToldLegally (stream_turned c o m e i b) → IsTakenOf frames (stream_turned c o m e i b)
    → SlotTold frames b.shape.base (buffer c) (listed b) (played_from b (hand_events_of e i) (before_play (learnt o) e (tracks_at c (learnt o) m e i) i)) (length (client_of (handed b (hand_events_of e i)))) t.slot (map packed_word t.frames))
take_told frames c f m e t i runs one looks before told taken =
    let b = f.streams i in
    let o = outside_of c f e in
    let hands = hand_events_of e i in
    let tracks = tracks_at c (learnt o) m e i in
    let first = before_play (learnt o) e tracks i in
    let p0 = after (start b.shape) (handed b hands) in
    let n = length (client_of (handed b hands)) in
    let play = cycle_events (buffer c) (listed b) t.slot (front_of (buffer c) (listed b) t.slot) in
    let all : stream_list c o e tracks i ≡ first ++ play =
    ap (λ (ended : Bool). if ended then [] else first ++ mix_events c o e.mixes i) runs
    ∙ ap (λ (l : List TakeSeen). first ++ flat_map (λ take. cycle_events (buffer c) (listed b) take.slot (take_front (front_of (buffer c)) (listed b) l)) l) one
    ∙ ap (λ (es : List ServerEvent). first ++ es) (append-nil play) in
    let sees = server_parts p0 n first play (subst (ServerSees p0 n) all (server_front (start b.shape) (handed b hands) (stream_list c o e tracks i) told)) in
    let words : map packed_word t.frames ≡ taken_by frames b.shape.base (after_servers p0 first) play =
    ap (map packed_word) (sym (append-nil t.frames) ∙ ap (flat_map (λ take. take.frames)) (sym one))
    ∙ sym (ap (λ (ended : Bool). if ended then [] else map packed_word (flat_map (λ take. take.frames) (takes_from e.mixes i))) runs)
    ∙ words_told frames b.shape (handed b hands) (stream_list c o e tracks i) b.taken (going e (map packed_word (flat_map (λ take. take.frames) (takes_from e.mixes i)))) (hands_take frames b.shape b.told hands ∙ before) taken
    ∙ ap (taken_by frames b.shape.base p0) all
    ∙ taken_parts frames b.shape.base p0 first play
    ∙ ap (λ (ws : List ℕ). ws ++ taken_by frames b.shape.base (after_servers p0 first) play) (nothing_taken frames b.shape.base p0 (is_home (track_at tracks i).holder) _) in
    record { looks = looks; sees = sees.1; words_are = words }

-- ## All takes

-- no track before those of the takes is one of them
none_from : (low n : ℕ) (takes : List TakeSeen) → n < low → TracksRise low takes → takes_from takes n ≡ []
none_from low n [] before rise = refl
none_from low n (t ∷ takes) before rise =
    let r = rise.0 in
    ap (λ (b : Bool). if b then t ∷ takes_from takes n else takes_from takes n) (ne_eqb t.track n (λ e. omega (arith, e, r, before))) ∙ none_from (t.track + 1) n takes (omega (arith, before, r)) rise.1

module _ (frames : ℕ → List ℕ) (base : ℕ → ℕ) (asked : ℕ) (s : ℕ → Listed) (p : ℕ → TrackPoint) (n : ℕ → ℕ) where
  -- a take that its stream block tells, if it is the only one of its track
  pub record IsTakeTold (all : List TakeSeen) (t : TakeSeen) : Type 0 where
    pub first : t.slot.first ≡ 0
    pub are : All IsFrame t.frames
    pub told : takes_from all t.track ≡ t ∷ [] → SlotTold (frames t.track) (base t.track) asked (s t.track) (p t.track) (n t.track) t.slot (map packed_word t.frames)

  only_one : (all : List TakeSeen) (low : ℕ) (t : TakeSeen) (takes : List TakeSeen) → TracksRise low (t ∷ takes) → takes_from all t.track ≡ takes_from (t ∷ takes) t.track → takes_from all t.track ≡ t ∷ []
  only_one all low t takes rise same = same ∙ first_of t takes ∙ ap (λ (l : List TakeSeen). t ∷ l) (none_from (t.track + 1) t.track takes (omega arith) rise.1)

  one_takes : (all others_all : List TakeSeen) (low : ℕ) (takes others : List TakeSeen) → TracksRise low takes → TracksRise low others
      → ((n : ℕ) → low ≤ n → takes_from all n ≡ takes_from takes n) → ((n : ℕ) → low ≤ n → takes_from others_all n ≡ takes_from others n)
      → map (λ (take : TakeSeen). take.track) takes ≡ map (λ (take : TakeSeen). take.track) others → AllByRecursion (IsTakeTold all) takes → AllByRecursion (IsTakeTold others_all) others → takes ≡ others
  one_takes all others_all low [] [] rise rise_others same same_others tracks told told_others = refl
  one_takes all others_all low [] (b ∷ others) rise rise_others same same_others tracks told told_others = absurd (let z : ⊥ = (let n : 0 ≡ length (map (λ (take : TakeSeen). take.track) (b ∷ others)) = ap length tracks in omega (arith, n)) in z)
  one_takes all others_all low (a ∷ takes) [] rise rise_others same same_others tracks told told_others = absurd (let z : ⊥ = (let n : length (map (λ (take : TakeSeen). take.track) (a ∷ takes)) ≡ 0 = ap length tracks in omega (arith, n)) in z)
  one_takes all others_all low (a ∷ takes) (b ∷ others) rise rise_others same same_others tracks told told_others =
      let track : a.track ≡ b.track = ap (λ l. slice_index_or l 0 0) tracks in
      let i = a.track in
      let here = told.0.told (only_one all low a takes rise (same i rise.0)) in
      let there = told_others.0.told (only_one others_all low b others rise_others (same_others b.track rise_others.0)) in
      let first : a ≡ b = one_take (frames i) (base i) asked (s i) (p i) (n i) a b track told.0.first told_others.0.first told.0.are told_others.0.are here
      (subst (λ j. SlotTold (frames j) (base j) asked (s j) (p j) (n j) b.slot (map packed_word b.frames)) (sym track) there) in
      let rest = one_takes all others_all (a.track + 1) takes others rise.1 (subst (λ j. TracksRise (j + 1) others) (sym track) rise_others.1)
      (λ n le. same n (let r = rise.0 in omega (arith, le, r)) ∙ others_of a takes n (omega (arith, le)))
      (λ n le. same_others n (let r = rise.0 in omega (arith, le, r)) ∙ others_of b others n (let t = track in omega (arith, le, t)))
      (ap (drop 1) tracks) told.1 told_others.1 in
      λ i. first i ∷ rest i

  -- two lists of takes with the same tracks are the same
  pub one_mixes : (takes others : List TakeSeen) → TracksRise 0 takes → TracksRise 0 others → map (λ (take : TakeSeen). take.track) takes ≡ map (λ (take : TakeSeen). take.track) others → AllByRecursion (IsTakeTold takes) takes → AllByRecursion (IsTakeTold others) others → takes ≡ others
  one_mixes takes others rise rise_others tracks told told_others = one_takes takes others 0 takes others rise rise_others (λ n le. refl) (λ n le. refl) tracks told told_others
