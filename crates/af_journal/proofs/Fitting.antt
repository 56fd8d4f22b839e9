-- The numbers of a journal lie in the ranges of their fields just if those of its lines do.
use Rattle.std.proofs.Common.{⊎_elim, ◌≡◌, ◌⊎◌, inl, inr, ℕ, zero, suc, ◌+◌, ◌*◌, ◌/◌, ◌%◌, ◌<◌, ◌≤◌, ◌^◌, ◌==◌, List, [], ◌∷◌, ◌++◌, length, map, Option, Some, None, Bool, true, false, cond, slice_index_or, MatchOption, lit<, refl, ap, ◌∙◌, sym, subst, arith, All}
use Rattle.af_journal.proofs.Common.{All-cons, All-head, All-nil, All-tail, AllByRecursion, AreEntries, AreWords, ClientCall, CommandLook, Cycle, EntrySeen, FitsCall, FitsEntry, FitsLook, FitsRound, FitsSlot, FitsTake, FitsTrack, FitsTurn, Frame, IsAbsent, IsCommandLook, IsEntry, IsJournal, IsMixed, IsRound, IsSeen, IsTake, IsTurn, JournalData, RoundSeen, Seen, SlotEntry, TakeSeen, TrackSeen, Turn, bit_at, cases_eq, cast_unsigned, count_seen, ended_turn, entries_of, entry_slot, flat_map, is_mixed, is_shown, is_spent, kind_of, packed_word, range_with_len, seen_words, shown_if, slot_frames, slots, w16}
use Rattle.af_base.specs.declared.log.Cycle.TheVariants as cycle
use Rattle.af_base.specs.declared.seen.Seen.TheVariants as seen
use Rattle.af_journal.proofs.Basics.{fit-append}
use Rattle.af_model.proofs.NumbersFit.{absent_fits, still_fits}
use Rattle.af_journal.specs.declared.line.Line.TheVariants as line
use Rattle.af_journal.specs.Lines.{Written, numbers}
use Rattle.af_journal.specs.Ranges.{IsSeenText, IsWritten}
use Rattle.af_journal.specs.Taken.{open_lines}
use Rattle.af_journal.specs.Texts.{call_lines, client_lines, command_words, disabled_lines, each_from, entry_lines, fast_lines, look_lines, round_lines, slot_lines, slots_lines, status_lines, take_lines, track_lines, turn_lines, turns_lines, words_after}
use Rattle.af_journal.proofs.Texts.{range-more}

-- the numbers of some lines fit
abbrev pub AreWritten : List Written → Type 0
AreWritten lines = AllByRecursion IsWritten lines

-- if the numbers of two lists of lines fit together, they fit in each
fits-split : (first more : List Written) → AreWritten (first ++ more) → AreWritten first × AreWritten more
fits-split [] more all = (tt, all)
fits-split (w ∷ ws) more all = let rest = fits-split ws more all.1 in ((all.0, rest.0), rest.1)

-- ## Looks and words

seen_fits : (s : Seen) → IsSeen s → AreWords (seen_words s) → IsSeenText s
seen_fits seen.Absent is fits = absurd is
seen_fits (seen.Frames count) is fits = (is, fits.0)
seen_fits seen.Empty is fits = tt
seen_fits (seen.Flushed dropped) is fits = fits.0
seen_fits (seen.Shut front rear) is fits = fits

seen_told : (s : Seen) → IsSeenText s → AreWords (seen_words s)
seen_told seen.Absent fits = absurd fits
seen_told (seen.Frames count) fits = (fits.1, tt)
seen_told seen.Empty fits = tt
seen_told (seen.Flushed dropped) fits = (fits, tt)
seen_told (seen.Shut front rear) fits = fits

words_fit : (ws : List ℕ) → AreWords ws → AreWritten (words_after ws)
words_fit [] fit = tt
words_fit (w ∷ ws) fit = (fit, tt)

words_told : (ws : List ℕ) → AreWritten (words_after ws) → AreWords ws
words_told [] fit = tt
words_told (w ∷ ws) fit = fit.0

-- four bytes are a word
bytes_few : (a b : ℕ) → a % 256 + 256 * (a / 256 % 256 + 256 * (b % 256 + 256 * (b / 256 % 256 + 256 * 0))) < 2 ^ 32
bytes_few a b = omega arith

frames_fit : (frames : List Frame) → AreWords (map packed_word frames)
frames_fit [] = tt
frames_fit (f ∷ fs) = (bytes_few (cast_unsigned w16 f.left) (cast_unsigned w16 f.right), frames_fit fs)

-- ## Calls

calls_fit : (calls : List ClientCall) → All FitsCall calls → AreWritten (call_lines calls)
calls_fit [] fit = tt
calls_fit (c ∷ cs) fit = (All-head FitsCall c cs fit, calls_fit cs (All-tail FitsCall c cs fit))

calls_told : (calls : List ClientCall) → AreWritten (call_lines calls) → All FitsCall calls
calls_told [] fit = All-nil FitsCall
calls_told (c ∷ cs) fit = All-cons FitsCall c cs fit.0 (calls_told cs fit.1)

client_fits : (track : ℕ) (calls : List ClientCall) → track < 2 ^ 32 → All FitsCall calls → AreWritten (client_lines track calls)
client_fits track [] few fit = tt
client_fits track (c ∷ cs) few fit = (few, calls_fit (c ∷ cs) fit)

client_told : (track : ℕ) (calls : List ClientCall) → AreWritten (client_lines track calls) → All FitsCall calls
client_told track [] fit = All-nil FitsCall
client_told track (c ∷ cs) fit = calls_told (c ∷ cs) fit.1

clients_fit : (track : ℕ) (clients : List (List ClientCall)) → track + length clients ≤ 2 ^ 32 → All (λ calls. All FitsCall calls) clients → AreWritten (each_from client_lines track clients)
clients_fit track [] few fit = tt
clients_fit track (c ∷ cs) few fit =
    fit-append (client_lines track c) (each_from client_lines (track + 1) cs) (client_fits track c (omega arith) (All-head (λ calls. All FitsCall calls) c cs fit)) (clients_fit (track + 1) cs (omega arith) (All-tail (λ calls. All FitsCall calls) c cs fit))

clients_told : (track : ℕ) (clients : List (List ClientCall)) → AreWritten (each_from client_lines track clients) → All (λ calls. All FitsCall calls) clients
clients_told track [] fit = All-nil (λ calls. All FitsCall calls)
clients_told track (c ∷ cs) fit =
    let parts = fits-split (client_lines track c) (each_from client_lines (track + 1) cs) fit in
    All-cons (λ calls. All FitsCall calls) c cs (client_told track c parts.0) (clients_told (track + 1) cs parts.1)

-- ## The tracks of a turn

command_fits : (b : Bool) (code argument : ℕ) → code < 2 ^ 32 → argument < 2 ^ 32 → AreWords (cond b (code ∷ argument ∷ []) [])
command_fits true code argument few small = (few, (small, tt))
command_fits false code argument few small = tt

look_fits : (track : ℕ) (l : CommandLook) → track < 2 ^ 32 → IsCommandLook l → FitsLook l → AreWritten (look_lines track l)
look_fits track l few is fits = (
  ((few, (fits.0, (fits.1.0, tt))), seen_fits l.seen is.0 fits.1.1.1.1),
  words_fit (command_words l) (command_fits (count_seen l.seen == 2) l.code l.argument fits.1.1.0 fits.1.1.1.0),
)

-- a look that took no command has two zeros
command_told : (l : CommandLook) → IsCommandLook l → AreWords (command_words l) → (l.code < 2 ^ 32) × (l.argument < 2 ^ 32)
command_told l is fits = by is.1
  where
    by : (l.seen ≡ seen.Frames 2) ⊎ ((l.code ≡ 0) × (l.argument ≡ 0)) → (l.code < 2 ^ 32) × (l.argument < 2 ^ 32)
    by (inl two) = let taken : AreWords (l.code ∷ l.argument ∷ []) = subst (λ (s : Seen). AreWords (cond (count_seen s == 2) (l.code ∷ l.argument ∷ []) [])) two fits in (taken.0, taken.1.0)
    by (inr none) = (subst (λ (n : ℕ). n < 2 ^ 32) (sym none.0) (lit< tt), subst (λ (n : ℕ). n < 2 ^ 32) (sym none.1) (lit< tt))

look_told : (track : ℕ) (l : CommandLook) → IsCommandLook l → AreWritten (look_lines track l) → FitsLook l
look_told track l is fits =
    let command = command_told l is (words_told (command_words l) fits.1) in
    (fits.0.0.1.0, (fits.0.0.1.1.0, (command.0, (command.1, seen_told l.seen fits.0.1))))

looks_fit : (track : ℕ) (ls : List CommandLook) → track < 2 ^ 32 → All IsCommandLook ls → All FitsLook ls → AreWritten (flat_map (look_lines track) ls)
looks_fit track [] few are fit = tt
looks_fit track (l ∷ ls) few are fit =
    fit-append (look_lines track l) (flat_map (look_lines track) ls) (look_fits track l few (All-head IsCommandLook l ls are) (All-head FitsLook l ls fit))
    (looks_fit track ls few (All-tail IsCommandLook l ls are) (All-tail FitsLook l ls fit))

looks_told : (track : ℕ) (ls : List CommandLook) → All IsCommandLook ls → AreWritten (flat_map (look_lines track) ls) → All FitsLook ls
looks_told track [] are fit = All-nil FitsLook
looks_told track (l ∷ ls) are fit =
    let parts = fits-split (look_lines track l) (flat_map (look_lines track) ls) fit in
    All-cons FitsLook l ls (look_told track l (All-head IsCommandLook l ls are) parts.0) (looks_told track ls (All-tail IsCommandLook l ls are) parts.1)

disabled_fits : (track : ℕ) (b : Bool) → track < 2 ^ 32 → AreWritten (disabled_lines track b)
disabled_fits track true few = (few, tt)
disabled_fits track false few = tt

status_fits : (track : ℕ) (status : Option ℕ) → track < 2 ^ 32 → MatchOption status (Unit {0}) (λ word. word < 2 ^ 32) → AreWritten (status_lines track status)
status_fits track None few fits = tt
status_fits track (Some word) few fits = ((few, (fits, tt)), tt)

status_told : (track : ℕ) (status : Option ℕ) → AreWritten (status_lines track status) → MatchOption status (Unit {0}) (λ word. word < 2 ^ 32)
status_told track None fits = tt
status_told track (Some word) fits = fits.0.1.0

-- the looks of a track have their form
abbrev HasLooks : TrackSeen → Type 0
HasLooks t = All IsCommandLook t.looks

track_fits : (track : ℕ) (t : TrackSeen) → track < 2 ^ 32 → HasLooks t → FitsTrack t → AreWritten (track_lines track t)
track_fits track t few are fits =
    fit-append (flat_map (look_lines track) t.looks ++ disabled_lines track t.disabled) (status_lines track t.status)
    (fit-append (flat_map (look_lines track) t.looks) (disabled_lines track t.disabled) (looks_fit track t.looks few are fits.looks) (disabled_fits track t.disabled few))
    (status_fits track t.status few fits.status)

track_told : (track : ℕ) (t : TrackSeen) → HasLooks t → AreWritten (track_lines track t) → FitsTrack t
track_told track t are fit =
    let parts = fits-split (flat_map (look_lines track) t.looks ++ disabled_lines track t.disabled) (status_lines track t.status) fit in
    record {
      looks = looks_told track t.looks are (fits-split (flat_map (look_lines track) t.looks) (disabled_lines track t.disabled) parts.0).0;
      status = status_told track t.status parts.1;
    }

tracks_fit : (track : ℕ) (ts : List TrackSeen) → track + length ts ≤ 2 ^ 32 → All HasLooks ts → All FitsTrack ts → AreWritten (each_from track_lines track ts)
tracks_fit track [] few are fit = tt
tracks_fit track (t ∷ ts) few are fit =
    fit-append (track_lines track t) (each_from track_lines (track + 1) ts) (track_fits track t (omega arith) (All-head HasLooks t ts are) (All-head FitsTrack t ts fit))
    (tracks_fit (track + 1) ts (omega arith) (All-tail HasLooks t ts are) (All-tail FitsTrack t ts fit))

tracks_told : (track : ℕ) (ts : List TrackSeen) → All HasLooks ts → AreWritten (each_from track_lines track ts) → All FitsTrack ts
tracks_told track [] are fit = All-nil FitsTrack
tracks_told track (t ∷ ts) are fit =
    let parts = fits-split (track_lines track t) (each_from track_lines (track + 1) ts) fit in
    All-cons FitsTrack t ts (track_told track t (All-head HasLooks t ts are) parts.0) (tracks_told (track + 1) ts (All-tail HasLooks t ts are) parts.1)

-- ## The takes of a turn

take_fits : (tracks : ℕ) (t : TakeSeen) → IsTake tracks t → FitsTake t → AreWritten (take_lines t)
take_fits tracks t is fits = ((((fits.0, (fits.1.0, (fits.1.1.0, (fits.1.1.1.0, tt)))), seen_fits t.slot.seen is.look fits.1.1.1.1)), words_fit (map packed_word t.frames) (frames_fit t.frames))

take_told : (t : TakeSeen) → AreWritten (take_lines t) → FitsTake t
take_told t fits = (fits.0.0.0, (fits.0.0.1.0, (fits.0.0.1.1.0, (fits.0.0.1.1.1.0, seen_told t.slot.seen fits.0.1))))

takes_fit : (tracks : ℕ) (ts : List TakeSeen) → All (IsTake tracks) ts → All FitsTake ts → AreWritten (flat_map take_lines ts)
takes_fit tracks [] are fit = tt
takes_fit tracks (t ∷ ts) are fit =
    fit-append (take_lines t) (flat_map take_lines ts) (take_fits tracks t (All-head (IsTake tracks) t ts are) (All-head FitsTake t ts fit)) (takes_fit tracks ts (All-tail (IsTake tracks) t ts are) (All-tail FitsTake t ts fit))

takes_told : (ts : List TakeSeen) → AreWritten (flat_map take_lines ts) → All FitsTake ts
takes_told [] fit = All-nil FitsTake
takes_told (t ∷ ts) fit = let parts = fits-split (take_lines t) (flat_map take_lines ts) fit in All-cons FitsTake t ts (take_told t parts.0) (takes_told ts parts.1)

-- ## A turn

-- the lines of a turn that went on
open_is : (e : Turn) → e.ended ≡ false → turn_lines e ≡ numbers (line.Turn e.room e.ack e.cycle) ∷ open_lines e
open_is e is = ap (λ (b : Bool). cond b (numbers line.Ended ∷ []) (numbers (line.Turn e.room e.ack e.cycle) ∷ open_lines e)) is

-- a turn of a mixer that has ended has no numbers but zeros
ended_fits : FitsTurn ended_turn
ended_fits = record { room = lit< tt; cycle = lit< tt; tracks = All-nil FitsTrack; push = tt; takes = All-nil FitsTake }

turn_fits : (tracks : ℕ) (e : Turn) → tracks ≤ 2 ^ 32 → IsTurn tracks e → FitsTurn e → AreWritten (turn_lines e)
turn_fits tracks e few (inl ended) fits = subst (λ (e : Turn). AreWritten (turn_lines e)) (sym ended) (tt, tt)
turn_fits tracks e few (inr went) fits =
    subst AreWritten (sym (open_is e went.open_is)) (
      (fits.room, fits.cycle),
      fit-append (each_from track_lines 0 e.tracks) (numbers (line.Pushed e.push) ∷ flat_map take_lines e.mixes)
          (tracks_fit 0 e.tracks (let h = went.each in omega arith) went.looks fits.tracks)
          (fits.push, takes_fit tracks e.mixes went.takes fits.takes),
    )

turn_told : (tracks : ℕ) (e : Turn) → IsTurn tracks e → AreWritten (turn_lines e) → FitsTurn e
turn_told tracks e (inl ended) fit = subst FitsTurn (sym ended) ended_fits
turn_told tracks e (inr went) fit =
    let going : AreWritten (numbers (line.Turn e.room e.ack e.cycle) ∷ open_lines e) = subst AreWritten (open_is e went.open_is) fit in
    let parts = fits-split (each_from track_lines 0 e.tracks) (numbers (line.Pushed e.push) ∷ flat_map take_lines e.mixes) going.1 in
    record {
      room = going.0.0;
      cycle = going.0.1;
      tracks = tracks_told 0 e.tracks went.looks parts.0;
      push = parts.1.0;
      takes = takes_told e.mixes parts.1.1;
    }

turns_fit : (tracks : ℕ) (o : Option Turn) → tracks ≤ 2 ^ 32 → MatchOption o (Unit {0}) (IsTurn tracks) → MatchOption o (Unit {0}) FitsTurn → AreWritten (turns_lines o)
turns_fit tracks None few is fits = tt
turns_fit tracks (Some e) few is fits = turn_fits tracks e few is fits

turns_told : (tracks : ℕ) (o : Option Turn) → MatchOption o (Unit {0}) (IsTurn tracks) → AreWritten (turns_lines o) → MatchOption o (Unit {0}) FitsTurn
turns_told tracks None is fit = tt
turns_told tracks (Some e) is fit = turn_told tracks e is fit

-- ## The slots of a mix

module _ (place : ℕ) (e : EntrySeen) (m : IsMixed place e.entry) where
  -- the line of a slot
  abbrev line_of : ℕ → Written
  line_of i = let slot = entry_slot e.entry i in numbers (line.Slot i (slice_index_or e.entry.scales i 0) (bit_at e.entry.mono i == 1) slot.gains slot.flush slot.rear slot.seen)

  -- what a slot shows
  abbrev seen_at : ℕ → Seen
  seen_at i = (entry_slot e.entry i).seen

  shown_is : (count : ℕ) (b : Bool) → (count == 0) ≡ b → IsSeen (cond b seen.Empty (seen.Frames count))
  shown_is count true none = tt
  shown_is zero false none = cc
  shown_is (suc count) false none = omega arith

  -- a slot is absent, or it shows something
  slot_is : (i : ℕ) → i < slots → IsAbsent e.entry i ⊎ IsSeen (seen_at i)
  slot_is zero lt = inr (subst IsSeen (sym m.submix.0.2) (shown_is (count_seen (seen_at 0)) (count_seen (seen_at 0) == 0) refl))
  slot_is (suc i) lt = m.others (suc i) (omega arith) lt

  -- the lines of a slot, as it shows something or not
  abbrev lines_if : ℕ → Bool → List Written
  lines_if i b = cond b (line_of i ∷ words_after (map packed_word (slot_frames e i))) []

  slot_fits : (i : ℕ) → i < slots → FitsEntry e.entry → AreWritten (slot_lines e i)
  slot_fits i lt fits = by (slot_is i lt)
    where
      by : IsAbsent e.entry i ⊎ IsSeen (seen_at i) → AreWritten (slot_lines e i)
      by (inl gone) = subst (λ (b : Bool). AreWritten (lines_if i b)) (sym (ap (λ (s : SlotEntry). is_shown s.seen) gone.0)) tt
      by (inr is) =
          let own = fits.looks i lt in
          subst (λ (b : Bool). AreWritten (lines_if i b)) (sym (shown_if (seen_at i) is)) (
            (lt, fits.scales i lt, (own.0, (own.1.0, (own.1.1.0, tt))), seen_fits (seen_at i) is own.1.1.1),
            words_fit (map packed_word (slot_frames e i)) (frames_fit (slot_frames e i)),
          )

  slots_fit : (n : ℕ) → n ≤ slots → FitsEntry e.entry → AreWritten (flat_map (slot_lines e) (range_with_len 0 n))
  slots_fit zero few fits = tt
  slots_fit (suc n) few fits =
      let more : flat_map (slot_lines e) (range_with_len 0 (suc n)) ≡ flat_map (slot_lines e) (range_with_len 0 n) ++ slot_lines e n =
      ap (λ (k : ℕ). flat_map (slot_lines e) (range_with_len 0 k)) (let one : suc n ≡ n + 1 = omega arith in one) ∙ range-more (slot_lines e) n in
      subst AreWritten (sym more) (fit-append (flat_map (slot_lines e) (range_with_len 0 n)) (slot_lines e n) (slots_fit n (omega arith) fits) (slot_fits n (omega arith) fits))

  -- what the line of a slot tells of its numbers
  abbrev Tells : ℕ → Type 0
  Tells i = FitsSlot (entry_slot e.entry i) × (slice_index_or e.entry.scales i 0 < 2 ^ 16)

  -- if it has one
  line_told : (i : ℕ) → IsWritten (line_of i) → Tells i
  line_told i fits = ((fits.2.0, (fits.2.1.0, (fits.2.1.1.0, seen_told (seen_at i) fits.3))), fits.1)

  slot_told : (i : ℕ) → IsAbsent e.entry i ⊎ IsSeen (seen_at i) → AreWritten (slot_lines e i) → Tells i
  slot_told i (inl gone) fit = (subst FitsSlot (sym gone.0) absent_fits, subst (λ (n : ℕ). n < 2 ^ 16) (sym gone.1) (lit< tt))
  slot_told i (inr is) fit =
      let lines : AreWritten (line_of i ∷ words_after (map packed_word (slot_frames e i))) =
      subst (λ (b : Bool). AreWritten (cond b (line_of i ∷ words_after (map packed_word (slot_frames e i))) [])) (shown_if (seen_at i) is) fit in
      line_told i lines.0

  slots_told : (n : ℕ) → n ≤ slots → AreWritten (flat_map (slot_lines e) (range_with_len 0 n)) → (i : ℕ) → i < n → Tells i
  slots_told zero few fit i lt = absurd (omega (arith, lt))
  slots_told (suc n) few fit i lt =
      let more : flat_map (slot_lines e) (range_with_len 0 (suc n)) ≡ flat_map (slot_lines e) (range_with_len 0 n) ++ slot_lines e n =
      ap (λ (k : ℕ). flat_map (slot_lines e) (range_with_len 0 k)) (let one : suc n ≡ n + 1 = omega arith in one) ∙ range-more (slot_lines e) n in
      let parts = fits-split (flat_map (slot_lines e) (range_with_len 0 n)) (slot_lines e n) (subst AreWritten more fit) in
      let few_before : n ≤ slots = omega (arith, few) in
      ⊎_elim (λ (same : i ≡ n). subst Tells (sym same) (slot_told n (slot_is n (omega (arith, few))) parts.1))
      (λ (other : i ≡ n → ⊥). slots_told n few_before parts.0 i (omega (arith, lt, other))) (cases_eq i n)

-- ## Entries

kind_few : (cy : Cycle) → is_spent cy ≡ false → kind_of cy < 4
kind_few (cycle.Spent n) kept = cc
kind_few _ kept = lit< tt

entry_fits : (place : ℕ) (e : EntrySeen) → IsEntry place e.entry → FitsEntry e.entry → AreWritten (entry_lines e)
unfolding slots_lines
entry_fits place e is fits = ((fits.state, kind_few e.entry.cycle is.kept), by (is_mixed e.entry.cycle) refl)
  where
    by : (b : Bool) → is_mixed e.entry.cycle ≡ b → AreWritten (cond b (slots_lines e) [])
    by true mixed = slots_fit place e (is.mixes mixed) slots (omega arith) fits
    by false still = tt

entry_told : (place : ℕ) (e : EntrySeen) → IsEntry place e.entry → AreWritten (entry_lines e) → FitsEntry e.entry
unfolding slots_lines
entry_told place e is fit = by (is_mixed e.entry.cycle) refl fit.1
  where
    by : (b : Bool) → is_mixed e.entry.cycle ≡ b → AreWritten (cond b (slots_lines e) []) → FitsEntry e.entry
    by true mixed more =
        let told = slots_told place e (is.mixes mixed) slots (omega arith) more in
        record { state = fit.0.0; looks = (λ i lt. (told i lt).0); scales = (λ i lt. (told i lt).1) }
    by false still more = subst FitsEntry (sym (is.still still)) (still_fits e.entry.state e.entry.cycle fit.0.0)

-- the numbers of an entry
abbrev FitsSeen : EntrySeen → Type 0
FitsSeen e = FitsEntry e.entry

entries_fit : (place : ℕ) (es : List EntrySeen) → AreEntries place es → All (λ e. FitsEntry e.entry) es → AreWritten (flat_map entry_lines es)
entries_fit place [] are fit = tt
entries_fit place (e ∷ es) are fit =
    fit-append (entry_lines e) (flat_map entry_lines es) (entry_fits place e are.0 (All-head FitsSeen e es fit)) (entries_fit (place + length e.frames) es are.3 (All-tail FitsSeen e es fit))

entries_told : (place : ℕ) (es : List EntrySeen) → AreEntries place es → AreWritten (flat_map entry_lines es) → All (λ e. FitsEntry e.entry) es
entries_told place [] are fit = All-nil FitsSeen
entries_told place (e ∷ es) are fit =
    let parts = fits-split (entry_lines e) (flat_map entry_lines es) fit in
    All-cons FitsSeen e es (entry_told place e are.0 parts.0) (entries_told (place + length e.frames) es are.3 parts.1)

fast_fits : (place : ℕ) (es : List EntrySeen) → AreEntries place es → All (λ e. FitsEntry e.entry) es → AreWritten (fast_lines es)
fast_fits place [] are fit = tt
fast_fits place (e ∷ es) are fit = (tt, entries_fit place (e ∷ es) are fit)

fast_told : (place : ℕ) (es : List EntrySeen) → AreEntries place es → AreWritten (fast_lines es) → All (λ e. FitsEntry e.entry) es
fast_told place [] are fit = All-nil FitsSeen
fast_told place (e ∷ es) are fit = entries_told place (e ∷ es) are fit.1

-- ## Rounds

-- the entries of a round and of those after it
pub record Parted (place : ℕ) (xs ys : List EntrySeen) : Type 0 where
  pub own : AreEntries place xs
  pub later : ℕ
  pub others : AreEntries later ys

pub parted : (place : ℕ) (xs ys : List EntrySeen) → AreEntries place (xs ++ ys) → Parted place xs ys
parted place [] ys are = record { own = tt; later = place; others = are }
parted place (x ∷ xs) ys are = let p = parted (place + length x.frames) xs ys are.3 in record { own = (are.0, are.1, are.2, p.own); later = p.later; others = p.others }

-- the lines of the clients and of the normal mixer
abbrev parties : RoundSeen → List Written
parties r = each_from client_lines 0 r.calls ++ turns_lines r.turn

pub round_fits : (tracks place : ℕ) (r : RoundSeen) → tracks ≤ 2 ^ 32 → IsRound tracks r → AreEntries place r.entries → FitsRound r → AreWritten (round_lines r)
round_fits tracks place r few is are fits = (
  tt,
  fit-append (parties r) (fast_lines r.entries)
      (fit-append (each_from client_lines 0 r.calls) (turns_lines r.turn) (clients_fit 0 r.calls (let h = is.calls in omega arith) fits.0.0) (turns_fit tracks r.turn few is.turn fits.0.1))
      (fast_fits place r.entries are fits.1),
)

round_told : (tracks place : ℕ) (r : RoundSeen) → IsRound tracks r → AreEntries place r.entries → AreWritten (round_lines r) → FitsRound r
round_told tracks place r is are fit =
    let parts = fits-split (parties r) (fast_lines r.entries) fit.1 in
    let turns = fits-split (each_from client_lines 0 r.calls) (turns_lines r.turn) parts.0 in
    ((clients_told 0 r.calls turns.0, turns_told tracks r.turn is.turn turns.1), fast_told place r.entries are parts.1)

rounds_fit : (tracks place : ℕ) (rs : List RoundSeen) → tracks ≤ 2 ^ 32 → All (IsRound tracks) rs → AreEntries place (entries_of rs) → All FitsRound rs → AreWritten (flat_map round_lines rs)
rounds_fit tracks place [] few are entries fit = tt
rounds_fit tracks place (r ∷ rs) few are entries fit =
    let p = parted place r.entries (entries_of rs) entries in
    fit-append (round_lines r) (flat_map round_lines rs) (round_fits tracks place r few (All-head (IsRound tracks) r rs are) p.own (All-head FitsRound r rs fit))
    (rounds_fit tracks p.later rs few (All-tail (IsRound tracks) r rs are) p.others (All-tail FitsRound r rs fit))

rounds_told : (tracks place : ℕ) (rs : List RoundSeen) → All (IsRound tracks) rs → AreEntries place (entries_of rs) → AreWritten (flat_map round_lines rs) → All FitsRound rs
rounds_told tracks place [] are entries fit = All-nil FitsRound
rounds_told tracks place (r ∷ rs) are entries fit =
    let p = parted place r.entries (entries_of rs) entries in
    let parts = fits-split (round_lines r) (flat_map round_lines rs) fit in
    All-cons FitsRound r rs (round_told tracks place r (All-head (IsRound tracks) r rs are) p.own parts.0) (rounds_told tracks p.later rs (All-tail (IsRound tracks) r rs are) p.others parts.1)

-- ## A journal

-- the numbers of its lines fit
pub lines_fit : (j : JournalData) → IsJournal j → AreWritten (flat_map round_lines j.rounds)
lines_fit j is = rounds_fit j.tracks 0 j.rounds (let few = is.numbers.tracks in omega arith) is.rounds is.entries is.numbers.rounds

-- a journal is one whose lines tell numbers that fit
pub is_journal : (tracks : ℕ) (rounds : List RoundSeen) → tracks < 2 ^ 32 → All (IsRound tracks) rounds → AreEntries 0 (entries_of rounds) → AreWritten (flat_map round_lines rounds) → IsJournal (record { tracks = tracks; rounds = rounds })
is_journal tracks rounds few are entries fit = record { rounds = are; entries = entries; numbers = record { tracks = few; rounds = rounds_told tracks 0 rounds are entries fit } }
