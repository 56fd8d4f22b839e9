-- The numbers of the rounds that were noted, and of the log of their cycles, are those of the journal.
use Rattle.std.proofs.Common.{ℕ, ◌<◌, ◌^◌, List, [], ◌∷◌, All, take, drop, lit<, subst, sym}
use Rattle.af_model.proofs.Common.{All-cons, All-drop, All-head, All-nil, All-tail, All-take, CycleEntry, Frame, Logged, absent, get_or-replicate, slots}
use Rattle.af_base.specs.declared.log.Cycle.{Cycle}
use Rattle.af_model.specs.Cycles.{still_entry}
use Rattle.af_model.specs.Journals.{EntrySeen, RoundNoted, RoundsNoted, entries_seen, journal_of, rounds_seen, taken_by}
use Rattle.af_model.specs.Numbers.{FitTurns, FitsEntry, FitsRound, FitsSlot, HasRanges}

-- the entries with their frames
entries_fit : (frames : List Frame) (entries : List CycleEntry) → All FitsEntry entries → All (λ e. FitsEntry e.entry) (entries_seen frames entries)
entries_fit frames [] all = All-nil (λ (e : EntrySeen). FitsEntry e.entry)
entries_fit frames (e ∷ es) all =
    All-cons (λ (e : EntrySeen). FitsEntry e.entry) (record { entry = e; frames = take (taken_by e) frames }) (entries_seen (drop (taken_by e) frames) es)
    (All-head FitsEntry e es all) (entries_fit (drop (taken_by e) frames) es (All-tail FitsEntry e es all))

-- the calls and the turn of a round
abbrev pub FitsNoted : RoundNoted → Type 0
FitsNoted r = FitTurns r.calls r.turn

-- the rounds with their entries
rounds_fit : (entries : List EntrySeen) (rounds : List RoundNoted) → All (λ e. FitsEntry e.entry) entries → All FitsNoted rounds → All FitsRound (rounds_seen entries rounds)
rounds_fit entries [] fit all = All-nil FitsRound
rounds_fit entries (r ∷ rs) fit all =
    All-cons FitsRound (record { calls = r.calls; turn = r.turn; entries = take r.cycles entries }) (rounds_seen (drop r.cycles entries) rs)
    (All-head FitsNoted r rs all, All-take (λ (e : EntrySeen). FitsEntry e.entry) r.cycles entries fit)
    (rounds_fit (drop r.cycles entries) rs (All-drop (λ (e : EntrySeen). FitsEntry e.entry) r.cycles entries fit) (All-tail FitsNoted r rs all))

-- the whole journal
pub ranges_dealt : (noted : RoundsNoted) (log : Logged) → noted.tracks < 2 ^ 32 → All FitsNoted noted.rounds → All FitsEntry log.entries → HasRanges (journal_of noted log)
ranges_dealt noted log few rounds entries = record { tracks = few; rounds = rounds_fit (entries_seen log.frames log.entries) noted.rounds (entries_fit log.frames log.entries entries) rounds }

-- ## A slot that shows nothing

-- no number is above 0
pub absent_fits : FitsSlot absent
absent_fits = (lit< tt, (lit< tt, (lit< tt, tt)))

-- the numbers fit of an entry in which every slot is absent
pub still_fits : (state : ℕ) (cy : Cycle) → state < 2 ^ 64 → FitsEntry (still_entry state cy)
still_fits state cy few = record {
  state = few;
  looks = (λ i lt. subst FitsSlot (sym (get_or-replicate slots i absent absent lt)) absent_fits);
  scales = (λ i lt. subst (λ (n : ℕ). n < 2 ^ 16) (sym (get_or-replicate slots i 0 0 lt)) (lit< tt));
}
