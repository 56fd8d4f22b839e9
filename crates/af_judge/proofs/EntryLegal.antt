-- An entry is right by what a judge keeps exactly if it is a legal entry of the run.
use Rattle.std.proofs.Common.{◌≡◌, ◌↔◌, ℕ, zero, suc, ◌+◌, ◌^◌, ◌<◌, ◌≤◌, ◌==◌, nat_le, Bool, true, false, true≢false, if◌then◌else◌, is_some, unwrap_or, refl, sym, ap, ◌∙◌, subst, List, [], ◌∷◌, ◌++◌, length, map, Option, Some, None, eqb-true, arith}
use Rattle.af_judge.proofs.Common.{ClientEvent, EntrySeen, Event, FastState, Found, Frame, IsEntry, LegalEntry, Listed, LooksBy, Marks, MatchOption, Mixes, Report, Run, ServerEvent, Session, SlotEntry, TrackSlot, events_behind_look, append_cancel_left, both as both-true, carries, cold_done, cycle_events, cycle_frames, cycle_of, entry_slot, found_for, frames_before, is_mixed, is_shown, kept, lawful_front, listed, look_at, look_events, one, packed_word, shows_slot, shown_if, slice_get, slot_frames, slot_of, slots, state_at, state_for, state_known, state_of, stream_of, submix_slot, takes_shown, two, twos, with_mix, with_poll, wrapped}
use Rattle.af_base.specs.declared.event.ServerEvent.TheVariants as server
use Rattle.af_base.specs.declared.seen.Seen.TheVariants as seen
use Rattle.af_judge.specs.declared.track_judge.TrackJudge.{TrackJudge}
use Rattle.af_judge.specs.Blocks.{listed_in}
use Rattle.af_judge.specs.Entries.{CarriesApart, CarriesWithin, FastOf}
use Rattle.af_judge.proofs.Words.{StreamsOf}
use Rattle.af_judge.specs.FastKept.{FastKept, FollowsTold, IsEntryRight, IsLookRight, fast_polled, IsMixRight, slots_played}
use Rattle.af_judge.specs.Reporting.{state_in}
use Rattle.af_judge.specs.Servers.{LooksRightly, front_judged}
use Rattle.af_judge.proofs.EntryTracks.{not_played, plays_track}
use Rattle.af_judge.proofs.LooksExactly.{rightly}

-- ## Fronts that lists tell

-- the front of a look that follows the gains, and of the look at the pipe
fourth-front : List ServerEvent → ℕ
fourth-front (a ∷ b ∷ c ∷ server.SawFront front ∷ es) = front
fourth-front _ = 0

second-front : List ServerEvent → ℕ
second-front (a ∷ server.SawFront front ∷ es) = front
second-front _ = 0

-- the events of a look by a server that was shut or wasn't
abbrev events_by : ℕ → SlotEntry → Bool → ℕ → List ServerEvent
events_by asked slot shut front = server.SawGain slot.gains ∷ (if shut then [] else look_events slot.seen slot.flush slot.rear front) ++ events_behind_look asked shut slot.seen

-- a look answers by any front that tells the same events
front-told : (asked : ℕ) (s : Listed) (slot : SlotEntry) (f g : ℕ) → cycle_events asked s slot f ≡ cycle_events asked s slot g → LooksBy asked s slot f → LooksBy asked s slot g
unfolding fourth-front
front-told asked s slot f g same by = (by.0, by_shut (kept s).shut same by.1)
  where
    by_shut : (o : Option (ℕ × ℕ)) → events_by asked slot (is_some o) f ≡ events_by asked slot (is_some o) g → MatchOption o (slot.seen ≡ look_at s.shape (kept s).flush asked slot.flush slot.rear f) (λ words. (slot.seen ≡ seen.Shut words.0 words.1) × (slot.flush ≡ (kept s).flush) × (slot.rear ≡ words.1))
        → MatchOption o (slot.seen ≡ look_at s.shape (kept s).flush asked slot.flush slot.rear g) (λ words. (slot.seen ≡ seen.Shut words.0 words.1) × (slot.flush ≡ (kept s).flush) × (slot.rear ≡ words.1))
    by_shut None is h = subst (λ (n : ℕ). slot.seen ≡ look_at s.shape (kept s).flush asked slot.flush slot.rear n) (ap fourth-front is) h
    by_shut (Some words) is h = h

-- the events of the second end, if it alone did some
twos-map : (es : List ServerEvent) → twos (map (λ (b : ServerEvent). let v : Event ClientEvent ServerEvent = two b in v) es) ≡ es
twos-map [] = refl
twos-map (e ∷ es) = ap (λ (xs : List ServerEvent). e ∷ xs) (twos-map es)

pub twos-more : (told : List (Event ClientEvent ServerEvent)) (es : List ServerEvent) → twos (told ++ map two es) ≡ twos told ++ es
twos-more [] es = twos-map es
twos-more (one a ∷ told) es = twos-more told es
twos-more (two b ∷ told) es = ap (λ (xs : List ServerEvent). b ∷ xs) (twos-more told es)

-- the track of a number
pub record There (tracks : List TrackJudge) (i : ℕ) : Type 0 where
  pub track : TrackJudge
  pub is : slice_get tracks i ≡ Some track

pub there : (tracks : List TrackJudge) (i : ℕ) → i < length tracks → There tracks i
there [] i lt = absurd (let z : ⊥ = omega (arith, lt) in z)
there (t ∷ tracks) zero lt = record { track = t; is = refl }
there (t ∷ tracks) (suc i) lt = let rest = there tracks i (omega (arith, lt)) in record { track = rest.track; is = rest.is }

module _ (s : Session) (marks : Marks) (r : Run) (e : EntrySeen) (f : FastKept) (frames : List Frame) (tracks : List TrackJudge) (earlier : List Report) (fast : FastOf s earlier r f) (drafts : f.told.draft ≡ r.normal.draft) (streams : StreamsOf marks r tracks) (form : IsEntry (frames_before r) e.entry) where
  abbrev asked : ℕ
  asked = cycle_frames s

  -- the state of the entry
  abbrev x : FastState
  x = state_for s r e.entry.state

  state-same : state_in f.told r.states e.entry.state ≡ x
  state-same = λ i. unwrap_or (state_of r.states e.entry.state) (if e.entry.state == 0 then state_at (fast.asked i) r.states (fast.current i) else drafts i)

  -- ## The pipe

  pipe-more : is_mixed e.entry.cycle ≡ true
      → twos (with_mix s e r).pipe.told ≡ twos r.pipe.told ++ (let slot = entry_slot e.entry 0 in server.SawRear slot.rear ∷ server.SawFront (wrapped (length r.pipe.taken)) ∷ takes_shown slot.seen)
  unfolding with_mix
  pipe-more mixed =
      let slot = entry_slot e.entry 0 in
      let es : List ServerEvent = server.SawRear slot.rear ∷ server.SawFront (wrapped (length r.pipe.taken)) ∷ takes_shown slot.seen in
      ap (λ (b : Bool). twos (if b then record r.pipe { told = r.pipe.told ++ map two es; taken = r.pipe.taken ++ map packed_word (slot_frames e 0) } else r.pipe).told) mixed ∙ twos-more r.pipe.told es

  -- ## A slot of the mask

  module _ (apart : CarriesApart x) (within : CarriesWithin (length tracks) x) (i : ℕ) (low : i < slots) (carried : carries x i ≡ true) where
    abbrev n : ℕ
    n = (slot_of x i).track

    abbrev k : Listed
    k = listed (stream_of r x i)

    -- no slot before it plays its track
    untouched : (t : TrackJudge) → slice_get tracks n ≡ Some t → slice_get (slots_played asked x frames e.entry i tracks) n ≡ Some t
    untouched t is = not_played asked x frames e.entry n i tracks t (λ j less. no-other j less (plays_track x e.entry n j) refl) is
      where
        no-other : (j : ℕ) → j < i → (b : Bool) → plays_track x e.entry n j ≡ b → plays_track x e.entry n j ≡ false
        no-other j less false is = is
        no-other j less true is =
            let both = both-true (shows_slot x e.entry j) ((slot_of x j).track == n) is in
            let same : j ≡ i = apart j i (omega (arith, less, low)) low (both-true (carries x j) (is_shown (entry_slot e.entry j).seen) both.0).0 carried (eqb-true (slot_of x j).track n both.1) in
            absurd (let z : ⊥ = omega (arith, less, same) in z)

    -- what is known of a track that a slot plays
    record Here : Type 0 where
      track : TrackJudge
      is : slice_get tracks n ≡ Some track
      server : listed_in track.stream ≡ k
      lawful : track.stream.lawful ≡ marks.streams n
      wrap : k.shape.wrap ≤ 2 ^ 31

    here-of : (t : TrackJudge) → slice_get tracks n ≡ Some t → Here
    here-of t is = let h = streams.each n t is in record {
      track = t;
      is = is;
      server = h.server;
      lawful = sym h.lawful;
      wrap = h.wrap;
    }

    look-to : (h : Here) → IsLookRight asked (entry_slot e.entry i) n (slots_played asked x frames e.entry i tracks) → LooksBy asked k (entry_slot e.entry i) (front_judged (marks.streams n) asked k (entry_slot e.entry i))
    look-to h look =
        let slot = entry_slot e.entry i in
        (rightly k.shape h.wrap (marks.streams n) k.events asked slot).0
        (subst (λ (b : Bool). LooksRightly b asked k slot) h.lawful (subst (λ (z : Listed). LooksRightly h.track.stream.lawful asked z slot) h.server (look h.track (untouched h.track h.is))))

    some-same : (t u : TrackJudge) → Some t ≡ Some u → t ≡ u
    some-same t u same = ap (λ (o : Option TrackJudge). unwrap_or o t) same

    look-from : (h : Here) → LooksRightly (marks.streams n) asked k (entry_slot e.entry i) → IsLookRight asked (entry_slot e.entry i) n (slots_played asked x frames e.entry i tracks)
    look-from h right t is =
        let slot = entry_slot e.entry i in
        let same : h.track ≡ t = some-same h.track t (sym (untouched h.track h.is) ∙ is) in
        subst (λ (u : TrackJudge). LooksRightly u.stream.lawful asked (listed_in u.stream) slot) same
        (subst (λ (z : Listed). LooksRightly h.track.stream.lawful asked z slot) (sym h.server) (subst (λ (b : Bool). LooksRightly b asked k slot) (sym h.lawful) right))

    here-is : Here
    here-is = let t = there tracks n (within i low carried) in here-of t.track t.is

    -- a slot of a legal entry looks rightly
    slot-rightly : (after : List ServerEvent) → TrackSlot asked k after (entry_slot e.entry i) → (marks.streams n ≡ true → after ≡ k.events ++ cycle_events asked k (entry_slot e.entry i) (lawful_front asked k (entry_slot e.entry i)))
        → LooksRightly (marks.streams n) asked k (entry_slot e.entry i)
    slot-rightly after look own = by_case (marks.streams n) own
      where
        by_case : (b : Bool) → (b ≡ true → after ≡ k.events ++ cycle_events asked k (entry_slot e.entry i) (lawful_front asked k (entry_slot e.entry i))) → LooksRightly b asked k (entry_slot e.entry i)
        by_case false h = (look.front, look.looks)
        by_case true h = front-told asked k (entry_slot e.entry i) look.front (lawful_front asked k (entry_slot e.entry i)) (append_cancel_left k.events _ _ (sym look.list ∙ h refl)) look.looks

  -- ## The entry

  module _ (apart : CarriesApart x) (within : CarriesWithin (length tracks) x) where
    -- the server of a slot after the entry
    abbrev server_after : ℕ → Listed
    server_after i =
        let k = listed (stream_of r x i) in
        let slot = entry_slot e.entry i in
        record { shape = k.shape; events = k.events ++ cycle_events asked k slot (front_judged (marks.streams (slot_of x i).track) asked k slot) }

    abbrev after : Found
    after = record { pipe = twos (with_mix s e r).pipe.told; servers = server_after }

    mixes-so : is_mixed e.entry.cycle ≡ true → IsMixRight f.told.asked x frames e.entry f.pipe tracks → Mixes asked x (frames_before r) (found_for r x) after e.entry
    mixes-so mixed right =
        let marked = right.marked mixed in
        let form_is = form.mixes mixed in
        let slot = entry_slot e.entry 0 in
        record {
          whole = (form_is.whole.0, form_is.whole.1);
          submix = record {
            front = wrapped (length r.pipe.taken);
            shows = right.submix mixed ∙ (λ i. submix_slot (fast.asked i) (wrapped (length (fast.taken i))) slot.rear slot.first);
            list = pipe-more mixed;
          };
          tracks = λ i low carried. record {
            front = front_judged (marks.streams (slot_of x i).track) asked (listed (stream_of r x i)) (entry_slot e.entry i);
            looks = look-to apart within i low carried (here-is apart within i low carried)
                (subst (λ (a : ℕ). IsLookRight a (entry_slot e.entry i) (slot_of x i).track (slots_played a x frames e.entry i tracks)) fast.asked (right.tracks_right i low mixed carried).1);
            list = refl;
          };
          others = marked.others;
          placed = form_is.placed;
          scales = marked.scales;
          mono = marked.mono;
        }

    legal-so : FollowsTold f r.states e.entry → IsMixRight f.told.asked x frames e.entry f.pipe tracks → LegalEntry s marks r e
    legal-so follows right = record {
      after = after;
      cycle = record {
        follows = subst (λ (n : ℕ). (n ≤ e.entry.state) × (e.entry.state ≤ n + 1)) fast.used follows.next;
        pushed = follows.pushed;
        runs = sym fast.ended ∙ follows.runs;
        what = follows.what ∙ ap (λ (c : ℕ). cycle_of c (state_of r.states e.entry.state)) fast.cold;
        still = form.still;
        mixes = λ y is mixed. subst (λ (z : FastState). Mixes asked z (frames_before r) (found_for r x) after e.entry) (state_known s r e.entry.state y is) (mixes-so mixed right);
      };
      pipe = refl;
      lawful = λ mixed i low carried lawful. ap (λ (b : Bool). let k = listed (stream_of r x i) in k.events ++ cycle_events asked k (entry_slot e.entry i) (front_judged b asked k (entry_slot e.entry i))) lawful;
    }

    follows-so : LegalEntry s marks r e → FollowsTold f r.states e.entry
    follows-so l = record {
      next = subst (λ (n : ℕ). (n ≤ e.entry.state) × (e.entry.state ≤ n + 1)) (sym fast.used) l.cycle.follows;
      pushed = l.cycle.pushed;
      runs = fast.ended ∙ l.cycle.runs;
      what = l.cycle.what ∙ ap (λ (c : ℕ). cycle_of c (state_of r.states e.entry.state)) (sym fast.cold);
    }

    mixes-of : (l : LegalEntry s marks r e) → is_mixed e.entry.cycle ≡ true → Mixes asked x (frames_before r) (found_for r x) l.after e.entry
    mixes-of l mixed = by_state (state_of r.states e.entry.state) refl
      where
        by_state : (o : Option FastState) → state_of r.states e.entry.state ≡ o → Mixes asked x (frames_before r) (found_for r x) l.after e.entry
        by_state None is = absurd (true≢false (sym mixed ∙ (ap is_mixed l.cycle.what ∙ ap (λ (o : Option FastState). is_mixed (cycle_of (cold_done r.states r.entries) o)) is)))
        by_state (Some y) is = subst (λ (z : FastState). Mixes asked z (frames_before r) (found_for r x) l.after e.entry) (sym (state_known s r e.entry.state y is)) (l.cycle.mixes y is mixed)

    right-so : LegalEntry s marks r e → IsMixRight f.told.asked x frames e.entry f.pipe tracks
    unfolding mixes-of second-front
    right-so l = record {
      marked = λ mixed. let m = mixes-of l mixed in record { mono = m.mono; scales = m.scales; others = m.others };
      submix = λ mixed.
          let m = mixes-of l mixed in
          let slot = entry_slot e.entry 0 in
          let front : m.submix.front ≡ wrapped (length r.pipe.taken) = ap second-front (append_cancel_left (twos r.pipe.told) _ _ (sym m.submix.list ∙ (l.pipe ∙ pipe-more mixed))) in
          m.submix.shows ∙ (ap (λ (n : ℕ). submix_slot asked n slot.rear slot.first) front ∙ (λ i. submix_slot (sym fast.asked i) (wrapped (length (sym fast.taken i))) slot.rear slot.first));
      tracks_right = λ i low mixed carried.
          let m = mixes-of l mixed in
          let look = m.tracks i low carried in (
            shown_if (entry_slot e.entry i).seen look.looks.0,
            subst (λ (a : ℕ). IsLookRight a (entry_slot e.entry i) (slot_of x i).track (slots_played a x frames e.entry i tracks)) (sym fast.asked)
                (look-from apart within i low carried (here-is apart within i low carried) (slot-rightly apart within i low carried (l.after.servers i).events look (λ lawful. l.lawful mixed i low carried lawful))),
          );
    }

    -- the entry is right exactly if it is legal
    pub entry_legal : (FollowsTold f r.states e.entry × IsMixRight f.told.asked (state_in f.told r.states e.entry.state) frames e.entry f.pipe tracks) ↔ LegalEntry s marks r e
    entry_legal = (
      (λ h. legal-so h.0 (subst (λ (y : FastState). IsMixRight f.told.asked y frames e.entry f.pipe tracks) state-same h.1)),
      (λ l. (follows-so l, subst (λ (y : FastState). IsMixRight f.told.asked y frames e.entry f.pipe tracks) (sym state-same) (right-so l))),
    )

-- ## From what was told before the mixer polled

module _ (s : Session) (marks : Marks) (run : Run) (e : EntrySeen) (f : FastKept) (frames : List Frame) (tracks : List TrackJudge) (earlier : List Report) where
  -- the run once the mixer has polled, and what is kept then
  abbrev polled : Run
  polled = with_poll s e.entry.state run

  pub fast_of_polled : FastOf s earlier run f → FastOf s earlier polled (fast_polled run.states e.entry.state f)
  unfolding with_poll
  fast_of_polled fast = record {
    asked = fast.asked;
    current = ap (λ (n : ℕ). if nat_le e.entry.state (length run.states) then e.entry.state else n) fast.current;
    used = fast.used;
    report = fast.report;
    numbered = record { many = fast.numbered.many; cycle = fast.numbered.cycle };
    before = fast.before;
    first = fast.first;
    reports = fast.reports;
    cold = fast.cold;
    ended = fast.ended;
    takes = fast.takes;
    taken = fast.taken;
  }

  pub streams_of_polled : StreamsOf marks run tracks → StreamsOf marks polled tracks
  unfolding with_poll
  streams_of_polled streams = record { many = streams.many; each = λ n t is. let h = streams.each n t is in record { server = h.server; lawful = h.lawful; wrap = h.wrap } }

  -- an entry of its form is right after what is kept exactly if it is legal in the run
  pub right_legal_entry : FastOf s earlier run f → f.told.draft ≡ run.normal.draft → StreamsOf marks run tracks → IsEntry (frames_before run) e.entry → CarriesApart (state_for s polled e.entry.state) → CarriesWithin (length tracks) (state_for s polled e.entry.state)
      → IsEntryRight run.states frames e.entry f tracks ↔ LegalEntry s marks polled e
  unfolding with_poll
  right_legal_entry fast drafts streams form apart within =
      let g = fast_polled run.states e.entry.state f in
      let exact = entry_legal s marks polled e g frames tracks earlier (fast_of_polled fast) drafts (streams_of_polled streams) form apart within in (
        (λ h. exact.0 (record { next = h.follows.next; pushed = h.follows.pushed; runs = h.follows.runs; what = h.follows.what }, record { marked = h.mixes.marked; submix = h.mixes.submix; tracks_right = h.mixes.tracks_right })),
        (λ l. let h = exact.1 l in record {
          follows = record { next = h.0.next; pushed = h.0.pushed; runs = h.0.runs; what = h.0.what };
          mixes = record { marked = h.1.marked; submix = h.1.submix; tracks_right = h.1.tracks_right };
        }),
      )
