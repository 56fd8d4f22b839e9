-- In legal rounds, and in a turn run: if a client saw its START settled, the frames that it released in later rounds are discarded only by looks that saw a flush count above that of the START.
use Rattle.std.proofs.Common.{◌≡◌, ◌⊎◌, inl, inr, ℕ, ◌<◌, ◌≤◌, ◌==◌, Bool, true, false, if◌then◌else◌, List, [], ◌∷◌, ◌++◌, length, All, refl, sym, ap, ◌∙◌, subst, eqb-true, arith}
use Rattle.af_journal_laws.proofs.Common.{All-head, All-tail, AreTurns, BlockTold, ClientCall, DropsByFlush, Frame, Grows, HasBlockHistory, HasFew, HasLegalRounds, IsMadeBy, IsRound, IsScript, IsTrim, IsTurnRun, JournalData, LegalRounds, Marks, RoundSeen, Run, RunGrows, ScriptData, SeesAllBefore, Session, Side, Track, TrackTold, TurnSpec, after_calls, both_first, both_right, called_in_turn, calls_alone, calls_in, client_list, ends_grow, flushes, flushes_of, grows_twice, is_lawful_block, is_poke_on, list_any, made_alone, marks_of, meet_grows, meets, met, met_alone, met_at, nat_tests, neither, new_run, new_there, new_trim, no, not_true, of_run, run_alone, run_none, server_list, session_of, client_side, sides_called, sides_of, stream_met, takes_part, told_at, told_each, track_at, track_count, with_ends}
use Rattle.af_base.specs.declared.event.ClientCall.TheVariants as call
use Rattle.af_script.specs.declared.op.TurnSpec.TheVariants as makes
use Rattle.af_audit.specs.Settled.{DiscardsAbove, SeesSettled}
use Rattle.af_audit.proofs.Drops.{released_in}
use Rattle.af_audit.proofs.Meeting.{block-discards, ends_stream, grown_tame, released_met, stream_grows}
use Rattle.af_audit.proofs.SeenKept.{flushes_few, most_flushes, new_few, new_narrow}
use Rattle.af_audit.proofs.SettledTold.{rounds-settled, seen_by, seen_low}
use Rattle.af_audit.proofs.TurnSees.{HasSeenSettled, turn-sees}
use Rattle.af_journal_laws.specs.Settled.{EachSettledStartKeeps, EachSettledStartKeepsAlone, WhereSettledAlone}
use Rattle.af_journal_laws.proofs.AtMeetings.{new_stands}
use Rattle.af_journal_laws.proofs.Own.{changed, few_kept, grows_kept}
use Rattle.af_journal_laws.proofs.SettlesAlone.{SettlesAlone, new_settles_alone, settles_kept}
use Rattle.af_journal_laws.proofs.SparedMet.{forms_first, legal_first}
use Rattle.af_journal_laws.proofs.Steps.{goes_ended}
use Rattle.af_journal_laws.proofs.Turns.{goes_met_alone, goes_now, none_called}
use Rattle.af_journal_laws.proofs.Walk.{made_keeps, round_keeps, turns_keep}

-- ## Rounds of all parties

pub settled-so-far : (cut : Bool) (script : ScriptData) (files : List (List Frame)) (j : JournalData) → IsScript script → HasLegalRounds cut script files j → EachSettledStartKeeps script files j
settled-so-far cut script files j is legal now later begins =
    let s : Session = session_of script files in
    rounds-settled cut s (marks_of j.rounds) j.tracks now is
    (forms_first j.tracks now later (subst (All (IsRound j.tracks)) begins legal.form.rounds))
    (legal_first cut s (marks_of j.rounds) now later (new_run s) (subst (LegalRounds cut s (marks_of j.rounds) (new_run s)) begins legal.rounds))

-- ## A round of a turn run

-- a list that holds an item isn't empty: a client that sees a START settled makes the turn
none_among : (before : List ClientCall) (one : ClientCall) (later : List ClientCall) → before ++ one ∷ later ≡ [] → ⊥
none_among [] one later is = (let many = ap length is in omega (arith, many))
none_among (x ∷ before) one later is = (let many = ap length is in omega (arith, many))

none_seen : (t : Track) (calls : List ClientCall) (count : ℕ) → calls ≡ [] → SeesSettled t calls count → ⊥
none_seen t calls count none sees = none_among sees.before (call.Status sees.word) sees.later (sym sees.calls_are ∙ none)

module _ (s : Session) (marks : Marks) (n : ℕ) (run : Run) (low : n < length run.tracks) (round : RoundSeen) where
  called_told : (track : ℕ) → (n == track) ≡ true → told_at (calls_alone track round run) n ≡ called_in_turn (calls_in round n) (told_at run n)
  called_told track is =
      told_each (changed track round) run n low ∙ ap (λ (b : Bool). if b then called_in_turn (calls_in round track) (told_at run n) else told_at run n) is
      ∙ ap (λ (k : ℕ). called_in_turn (calls_in round k) (told_at run n)) (sym (eqb-true n track is))

  -- the side of the track's command block when the turn was made
  made_side : (turn : TurnSpec) (count : ℕ) → IsMadeBy s marks run turn round → SeesSettled (sides_of (told_at run n)) (calls_in round n) count
      → client_side (told_at (made_alone s run turn round) n).commands ≡ (after_calls (sides_of (told_at run n)) (calls_in round n)).commands
  made_side (makes.Client track) count made sees = by_number (n == track) refl
    where
      by_only : (n == track) ≡ false → (n ≡ track) ⊎ (calls_in round n ≡ []) → ⊥
      by_only is (inl same) = no (sym is ∙ grind (arith, nat_tests, same))
      by_only is (inr none) = none_seen (sides_of (told_at run n)) (calls_in round n) count none sees

      by_number : (b : Bool) → (n == track) ≡ b → client_side (told_at (calls_alone track round run) n).commands ≡ (after_calls (sides_of (told_at run n)) (calls_in round n)).commands
      by_number true is = ap (λ (t : TrackTold). client_side t.commands) (called_told track is) ∙ ap (λ (t : Track). t.commands) (sides_called (told_at run n) (calls_in round n))
      by_number false is = absurd (by_only is (made.0 n))
  made_side makes.Normal count made sees = absurd (none_seen (sides_of (told_at run n)) (calls_in round n) count (none_called false s marks n round made.0) sees)
  made_side (makes.Fast cycles) count made sees = absurd (none_seen (sides_of (told_at run n)) (calls_in round n) count (none_called false s marks n round made.0) sees)

module _ (s : Session) (script : IsScript s.script) (marks : Marks) (tracks n : ℕ) (low : n < track_count s) (run : Run) (turn : TurnSpec) (round : RoundSeen) (form : IsRound tracks round) (made : IsMadeBy s marks run turn round) (sees : SeesAllBefore s (met_alone s run turn round))
    (calm : list_any (is_poke_on true) (calls_in round n) ≡ false) (h : SettlesAlone s n run) (trim : IsTrim true (told_at run n)) where
  abbrev played : Run
  played = made_alone s run turn round

  abbrev after : Run
  after = with_ends (met s played)

  played_so : SettlesAlone s n played
  played_so = made_keeps s marks tracks n (SettlesAlone s n) (settles_kept s script marks tracks n) turn round run form made h

  pub next_settles : SettlesAlone s n after
  next_settles = round_keeps s marks tracks n (SettlesAlone s n) (settles_kept s script marks tracks n) turn round run form made h

  pub next_trim : IsTrim true (told_at after n)
  next_trim =
      let one = goes_met_alone true s marks n turn round tracks run h.tells.low form calm made in
      (goes_ended true s n (met s played) one.there).track.trim (one.track.trim trim)

  -- the flush count of a START that the client saw settled was seen by the server of its stream block
  start_seen : (count : ℕ) → SeesSettled (sides_of (told_at run n)) (calls_in round n) count → count ≤ of_run flushes played n
  start_seen count saw =
      let b : BlockTold = (told_at played n).commands in
      let there : n < length played.tracks = played_so.tells.low in
      let one = goes_met_alone true s marks n turn round tracks run h.tells.low form calm made in
      let side = made_side s marks n run h.tells.low round turn count made saw in
      let seen : HasSeenSettled (client_side b) count = subst (λ (x : Side). HasSeenSettled x count) (sym side) (turn-sees (sides_of (told_at run n)) (calls_in round n) count saw) in
      let met_is : (told_at (met s played) n).commands ≡ meets b = ap (λ (t : TrackTold). t.commands) (met_at s played n there) in
      let history : HasBlockHistory (meets b) = subst HasBlockHistory met_is (sees.commands n low ((one.track.trim trim).tame refl)).0 in
      seen_low (of_run flushes played n) b (told_at played n).client (track_at played.normal.tracks n) count played_so.commands.commands history seen

  -- what a later block of the stream discards of what is released from here on
  module _ (last : BlockTold) (grows : Grows (told_at after n).stream last) (told : HasBlockHistory last) (narrow : last.shape.wrap ≤ 32768) (few : flushes_of (client_list last) ≤ 65536) (noticed : DropsByFlush last.shape [] (server_list last)) where
    met_there : n < length (met s played).tracks
    met_there = (meet_grows n s played played_so.tells.low).there

    met_grows_last : Grows (told_at (met s played) n).stream last
    met_grows_last = grows_twice (told_at (met s played) n).stream (told_at after n).stream last (ends_grow n (met s played) met_there).track.stream grows

    pub start_keeps : (count : ℕ) → SeesSettled (sides_of (told_at run n)) (calls_in round n) count → takes_part s played n ≡ true → DiscardsAbove last.shape (length (told_at after n).stream.released) count told.order
    unfolding met
    start_keeps count saw part =
        let b : BlockTold = (told_at played n).stream in
        let hands = played.handed in
        let met_stream = ap (λ (t : TrackTold). t.stream) (met_at s played n played_so.tells.low) ∙ ap (λ (x : Bool). stream_met x hands b) part in
        let after_is = ends_stream n (met s played) met_there ∙ met_stream in
        let grown : Grows (meets b) last = grows_twice (meets b) (told_at after n).stream last (subst (Grows (meets b)) (sym after_is) (stream_grows hands b)) grows in
        let tame = grown_tame (told_at (met s played) n).stream last met_grows_last told in
        let history = subst HasBlockHistory met_stream (sees.streams n low part tame).0 in
        let released : released_in (client_list b) ≤ length (told_at after n).stream.released = subst (λ (x : BlockTold). released_in (client_list b) ≤ length x.released) (sym after_is) (released_met hands b history) in
        block-discards b last grown told (length (told_at after n).stream.released) count narrow few noticed (seen_by s played n last.shape count (sym grown.shape) (start_seen count saw)) released

-- ## Turns

settled_turns : (s : Session) → IsScript s.script → (marks : Marks) (tracks n : ℕ) (turns : List TurnSpec) (now later : List RoundSeen) (run : Run) → n < track_count s → All (IsRound tracks) now → AreTurns s marks run turns (now ++ later)
    → list_any (λ round. list_any (is_poke_on true) (calls_in round n)) now ≡ false → SettlesAlone s n run → IsTrim true (told_at run n)
    → (let b = (told_at (run_alone s run turns now) n).stream in
    (h : HasBlockHistory b) → b.shape.wrap ≤ 32768 → flushes_of (client_list b) ≤ 65536 → DropsByFlush b.shape [] (server_list b)
    → WhereSettledAlone (λ after count. DiscardsAbove b.shape (length (told_at after n).stream.released) count h.order) s run turns now n)
settled_turns s script marks tracks n [] now later run low forms are calm settles trim h narrow few noticed = tt
settled_turns s script marks tracks n (turn ∷ turns) [] later run low forms are calm settles trim h narrow few noticed = tt
settled_turns s script marks tracks n (turn ∷ turns) (round ∷ now) later run low forms are calm settles trim h narrow few noticed =
    let form = All-head (IsRound tracks) round now forms in
    let rest = All-tail (IsRound tracks) round now forms in
    let two = neither (list_any (is_poke_on true) (calls_in round n)) (list_any (λ round. list_any (is_poke_on true) (calls_in round n)) now) calm in
    let after : Run = with_ends (met_alone s run turn round) in
    let last : BlockTold = (told_at (run_alone s after turns now) n).stream in
    let next = next_settles s script marks tracks n low run turn round form are.0 are.1 two.0 settles trim in
    let kept = next_trim s script marks tracks n low run turn round form are.0 are.1 two.0 settles trim in
    let grows : RunGrows n after (run_alone s after turns now) = turns_keep s marks tracks n (RunGrows n after) (grows_kept s marks tracks n after) turns now later after rest are.2 (run_none n after next.tells.low) in (
      start_keeps s script marks tracks n low run turn round form are.0 are.1 two.0 settles trim last grows.track.stream h narrow few noticed,
      settled_turns s script marks tracks n turns now later after low rest are.2 two.1 next kept h narrow few noticed,
    )

pub settled-so-far-alone : (script : ScriptData) (files : List (List Frame)) (j : JournalData) → IsScript script → IsTurnRun script files j → EachSettledStartKeepsAlone script files j
settled-so-far-alone script files j is run_is now later begins n low lawful h =
    let s : Session = session_of script files in
    let marks : Marks = marks_of j.rounds in
    let last : Run = run_alone s (new_run s) script.turns now in
    let stream = both_first (is_lawful_block false now n) (is_lawful_block true now n) lawful in
    let commands = both_right (is_lawful_block false now n) (is_lawful_block true now n) lawful in
    let forms = forms_first j.tracks now later (subst (All (IsRound j.tracks)) begins run_is.form.rounds) in
    let are = subst (AreTurns s marks (new_run s) script.turns) begins run_is.turns in
    let there = new_there s n low in
    let grows : RunGrows n (new_run s) last = turns_keep s marks j.tracks n (RunGrows n (new_run s)) (grows_kept s marks j.tracks n (new_run s)) script.turns now later (new_run s) forms are (run_none n (new_run s) there) in
    let few : HasFew most_flushes n last = turns_keep s marks j.tracks n (HasFew most_flushes n) (few_kept s marks j.tracks most_flushes n) script.turns now later (new_run s) forms are (new_few s is n low) in
    let stands = (goes_now script files j is run_is now later begins false n low stream).track.stands refl (new_stands s is n low) in
    settled_turns s is marks j.tracks n script.turns now later (new_run s) low forms are
    (not_true (list_any (λ (round : RoundSeen). list_any (is_poke_on true) (calls_in round n)) now) commands)
    (new_settles_alone s is marks j.tracks n low) (new_trim s is n low true) h
    (new_narrow s n low last grows.track.stream.shape) (flushes_few (told_at last n) few.few) stands.drops
