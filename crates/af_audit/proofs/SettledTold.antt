-- In a legal run of a script: if a client saw its START settled, the frames that it released in later rounds are discarded only by looks that saw a flush count above that of the START.
use Rattle.std.proofs.Common.{◌≡◌, ◌⊎◌, inl, inr, ℕ, ◌+◌, ◌*◌, ◌/◌, ◌<◌, ◌≤◌, true, false, List, ◌∷◌, ◌++◌, take, drop, length, Option, Some, None, refl, sym, ap, ◌∙◌, subst, append_assoc, arith, Bool}
use Rattle.af_audit.proofs.Common.{All, BlockTold, Client, ClientEvent, Frame, HasBlockHistory, HasHistory, IsLegalRun, IsRound, IsScript, JournalData, LegalRounds, Marks, RoundSeen, Run, START, ScriptData, ServerEvent, Session, Shape, Side, Track, TrackKept, TrackTold, Turn, TurnFound, [], after_calls, after_round, after_turn, all_played, before_turn, both_right, called_in_turn, calls_in, client_list, cycles_beside, each_at, early_of, found_in, is_lawful, is_lawful_block, is_lawful_track, is_poke_on, late_of, lawful_more, list_any, loaded, marks_of, meets, met_after, met_at, new_run, no_track, not_true, outside_of, run_from, server_list, session_of, settled_in, setup_of, client_side, sides_called, sides_of, slice_get, take-append-drop, takes_part, told_at, told_each, track_at, track_count, turned, turned_track, with_calls, with_cycles, with_load, with_turn, zero-div}
use Rattle.af_base.specs.declared.event.ClientEvent.TheVariants as client
use Rattle.af_runs.specs.Blocks.{hand_list}
use Rattle.af_audit.proofs.Words.{most_seen}
use Rattle.af_audit.specs.Settled.{DiscardsAbove, SeesSettled, SettledMeansKept}
use Rattle.af_audit.proofs.CommandDrops.{taken_first}
use Rattle.af_audit.proofs.CommandRounds.{CommandsAt, CommandsSo, met_so}
use Rattle.af_audit.proofs.FatesTold.{new_there}
use Rattle.af_audit.proofs.Grown.{played_grow, rounds_grow}
use Rattle.af_audit.proofs.KnownSeen.{Stores, saw-stored}
use Rattle.af_audit.proofs.SeenKept.{seen-kept}
use Rattle.af_audit.proofs.SettledRounds.{AtRound, at_round, flushes, new_settles, played_at}
use Rattle.af_audit.proofs.SidesKept.{sides_turned}
use Rattle.af_audit.proofs.StartWords.{IsOrderly, orderly_front, start_seen, words_front, words_join, words_of}
use Rattle.af_audit.proofs.StartsSettled.{waiting}
use Rattle.af_audit.proofs.StatusWords.{StatusesLow, status_among}
use Rattle.af_audit.proofs.Growing.{grows_calls, grows_cycles}
use Rattle.af_audit.proofs.Measure.{of_run}
use Rattle.af_audit.proofs.TrackUnshut.{trim_called}
use Rattle.af_audit.proofs.TurnSees.{HasSeenSettled, turn-sees}

-- ## A block that has met

-- a status that its client saw counts no START as settled whose flush count wasn't seen
pub seen_low : (most : ℕ) (b : BlockTold) (c : Client) (s : TrackKept) (count : ℕ) → CommandsSo most b c s → HasBlockHistory (meets b) → HasSeenSettled (client_side b) count → count ≤ most
seen_low most b c s count h history saw = by_word (saw-stored b.shape saw.before saw.word (saw.later ++ client.Learn (length (server_list b)) ∷ []) b.released (server_list (meets b)) b.taken (hand_list (meets b)) listed_so)
  where
    listed_so : HasHistory b.shape (saw.before ++ client.SawStatus saw.word ∷ (saw.later ++ client.Learn (length (server_list b)) ∷ [])) b.released (server_list (meets b)) b.taken (hand_list (meets b))
    listed_so = subst (λ (es : List ClientEvent). HasHistory b.shape es b.released (server_list (meets b)) b.taken (hand_list (meets b)))
        (ap (λ (es : List ClientEvent). es ++ client.Learn (length (server_list b)) ∷ []) saw.events_are ∙ append_assoc saw.before (client.SawStatus saw.word ∷ saw.later) (client.Learn (length (server_list b)) ∷ [])) history

    by_taken : (n : ℕ) → b.taken ≡ take n b.released → saw.number < length h.so.done → count ≤ most
    by_taken n front settled =
        let done = h.so.done in
        let rest : List ℕ = drop n b.released in
        let all : b.released ≡ words_of (done ++ waiting s.awaits) ++ rest = sym (take-append-drop n b.released) ∙ ap (λ (l : List ℕ). l ++ rest) (sym front ∙ h.so.taken_are) in
        let split : b.released ≡ words_of done ++ (words_of (waiting s.awaits) ++ rest) = all ∙ ap (λ (l : List ℕ). l ++ rest) (words_join done (waiting s.awaits)) ∙ append_assoc (words_of done) (words_of (waiting s.awaits)) rest in
        let begins = words_front (done ++ waiting s.awaits) h.sent.sent rest (sym h.sent.words_are ∙ all) in
        let sent_so : IsOrderly h.sent.sent = record { opens = h.sent.opens; removes = h.sent.removes } in
        let order : IsOrderly (done ++ waiting s.awaits) = orderly_front (done ++ waiting s.awaits) begins.0 (subst IsOrderly begins.1 sent_so) in
        start_seen most done (words_of (waiting s.awaits) ++ rest) saw.number count settled
        (subst (λ (l : List ℕ). slice_get l (2 * saw.number) ≡ Some START) split saw.start.code)
        (subst (λ (l : List ℕ). slice_get l (2 * saw.number + 1) ≡ Some count) split saw.start.argument)
        (h.so.stands order).seen

    by_stored : saw.number < length h.so.done → CommandsSo most (meets b) c s → count ≤ most
    by_stored settled m =
        let few : b.shape.wrap ≤ 32768 = (let w : b.shape.wrap ≡ 0 = ap (λ (k : Shape). k.wrap) h.shape in omega (arith, w)) in
        let t = taken_first b.shape few (client_list (meets b)) b.released (server_list (meets b)) b.taken (hand_list (meets b)) history m.calm m.drops in
        by_taken t.0 t.1 settled

    by_word : (saw.word ≡ 0) ⊎ Stores saw.word (server_list (meets b)) → count ≤ most
    by_word (inl none) =
        let z : 0 / 256 ≡ 0 = zero-div 256 in
        let low : saw.number < 0 / 256 = subst (λ (w : ℕ). saw.number < settled_in w) none saw.settled in
        absurd (omega (arith, z, low))
    by_word (inr stored) =
        let m : CommandsSo most (meets b) c s = met_so most b c s h in
        let word = status_among s.settled stored.before saw.word stored.later (subst (λ (es : List ServerEvent). StatusesLow s.settled es) stored.whole m.statuses) in
        let many = h.so.many in
        let settled = saw.settled in
        by_stored (omega (arith, word, many, settled)) m

-- ## A round

module _ (s : Session) (run : Run) (round : RoundSeen) (n : ℕ) (low : n < length run.tracks) where
  -- the client's side of a command block
  abbrev Of : Run → Side
  Of r = client_side (told_at r n).commands

  abbrev after : Track
  after = after_calls (sides_of (told_at run n)) (calls_in round n)

  called_side : Of (with_calls round run) ≡ after.commands
  unfolding with_calls
  called_side = ap (λ (t : TrackTold). client_side t.commands) (told_each (λ track t. called_in_turn (calls_in round track) t) run n low) ∙ ap (λ (t : Track). t.commands) (sides_called (told_at run n) (calls_in round n))

  turned_side : (found : Turn → TurnFound) (o : Option Turn) (r : Run) → n < length r.tracks → Of (turned s found o r) ≡ Of r
  unfolding with_turn
  turned_side found None r there = refl
  turned_side found (Some e) r there =
      let c = setup_of s in
      let told = outside_of c (found e) e in
      ap (λ (t : TrackTold). client_side t.commands) (each_at (turned_track c told r.normal e) 0 r.tracks n n no_track there (omega arith)) ∙ ap (λ (t : Track). t.commands) (sides_turned c told r.normal e n (told_at r n))

  loaded_side : (o : Option Turn) (r : Run) → Of (loaded o r) ≡ Of r
  unfolding with_load
  loaded_side None r = refl
  loaded_side (Some e) r = refl

  -- once the turns were made the side is as its client left it
  played_side : n < length (before_turn s run round).tracks → Of (all_played s run round) ≡ after.commands
  played_side there =
      loaded_side round.turn (with_cycles s (late_of run round) (after_turn s run round))
      ∙ ap client_side ((cycles_beside s (late_of run round) (after_turn s run round)).commands n)
      ∙ turned_side (found_in s run round) round.turn (before_turn s run round) there
      ∙ ap client_side ((cycles_beside s (early_of run round) (with_calls round run)).commands n)
      ∙ called_side

-- ## The promise

before_there : (s : Session) (run : Run) (round : RoundSeen) (n : ℕ) → n < length run.tracks → n < length (before_turn s run round).tracks
before_there s run round n low = (let a = (grows_calls s round run).many in let b = (grows_cycles s (early_of run round) (with_calls round run)).many in omega (arith, a, b, low))

pub seen_by : (s : Session) (played : Run) (n : ℕ) (k : Shape) (count : ℕ) → (told_at played n).stream.shape ≡ k → count ≤ of_run flushes played n → count ≤ most_seen k (server_list (told_at played n).stream)
seen_by s played n k count same seen = subst (λ (x : Shape). count ≤ most_seen x (server_list (told_at played n).stream)) same seen

-- if a client saw a START settled, what it released in later rounds is discarded only so, in each history of its stream block after these rounds
abbrev pub AreKept : Session → List RoundSeen → Type 0
AreKept s rounds =
    (before : List RoundSeen) (round : RoundSeen) (later : List RoundSeen) → rounds ≡ before ++ round ∷ later → (track : ℕ) → track < track_count s → is_lawful_track rounds track ≡ true
    → (let run = run_from s (new_run s) before in
    (count : ℕ) → SeesSettled (sides_of (told_at run track)) (calls_in round track) count → takes_part s (all_played s run round) track ≡ true
    → (let b = (told_at (run_from s (new_run s) rounds) track).stream in
    (h : HasBlockHistory b) → DiscardsAbove b.shape (length (told_at (after_round s run round) track).stream.released) count h.order))

pub rounds-settled : (cut : Bool) (s : Session) (marks : Marks) (tracks : ℕ) (rounds : List RoundSeen) → IsScript s.script → All (IsRound tracks) rounds → LegalRounds cut s marks (new_run s) rounds → AreKept s rounds
rounds-settled cut s marks tracks rounds is forms legal before round later whole track low lawful count sees part h =
    let run : Run = run_from s (new_run s) before in
    let played : Run = all_played s run round in
    let last : Run = run_from s (new_run s) rounds in
    let commands : is_lawful_block true rounds track ≡ true = both_right (is_lawful_block false rounds track) (is_lawful_block true rounds track) lawful in
    let calm = not_true (list_any (λ (round : RoundSeen). list_any (is_poke_on true) (calls_in round track)) rounds) commands in
    let at : AtRound cut s marks tracks track run round = at_round cut s is marks tracks track low before round later (new_run s)
    (subst (All (IsRound tracks)) whole forms)
    (subst (LegalRounds cut s marks (new_run s)) whole legal)
    (subst (λ (rs : List RoundSeen). list_any (λ (round : RoundSeen). list_any (is_poke_on true) (calls_in round track)) rs ≡ false) whole calm)
    (new_settles s is track low) in
    let there : track < length run.tracks = at.settles.tells.low in
    let c : CommandsAt (of_run flushes played track) track played = played_at cut s is marks run round tracks track low at.form at.legal at.settles in
    let b : BlockTold = (told_at played track).commands in
    let side : client_side b ≡ (after_calls (sides_of (told_at run track)) (calls_in round track)).commands = played_side s run round track there (before_there s run round track there) in
    let saw : HasSeenSettled (client_side b) count = subst (λ (x : Side). HasSeenSettled x count) (sym side) (turn-sees (sides_of (told_at run track)) (calls_in round track) count sees) in
    let tame : is_lawful (client_list b) ≡ true = ap (λ (x : Side). is_lawful x.events) (side ∙ sym (ap (λ (t : Track). t.commands) (sides_called (told_at run track) (calls_in round track)))) ∙ (trim_called true (calls_in round track) (told_at run track) (λ on. at.calm) at.settles.trim).tame refl in
    let met : (told_at (met_after s run round) track).commands ≡ meets b = ap (λ (t : TrackTold). t.commands) (met_at s played track c.there) in
    let history : HasBlockHistory (meets b) = subst HasBlockHistory met ((at.legal.histories.blocks track low).commands refl (ap (λ (x : BlockTold). is_lawful (client_list x)) met ∙ lawful_more (client_list b) (client.Learn (length (server_list b))) refl tame)) in
    let seen : count ≤ of_run flushes played track = seen_low (of_run flushes played track) b (told_at played track).client (track_at played.normal.tracks track) count c.commands history saw in
    let start = new_there s track low in
    let shape_last : (told_at last track).stream.shape ≡ (told_at (new_run s) track).stream.shape = (rounds_grow track s rounds (new_run s) start).track.stream.shape in
    let shape_run : (told_at run track).stream.shape ≡ (told_at (new_run s) track).stream.shape = (rounds_grow track s before (new_run s) start).track.stream.shape in
    let shape_played : (told_at played track).stream.shape ≡ (told_at run track).stream.shape = (played_grow track s run round there).track.stream.shape in
    let shape : (told_at played track).stream.shape ≡ (told_at last track).stream.shape = shape_played ∙ shape_run ∙ sym shape_last in
    seen-kept cut s marks tracks rounds forms legal before round later whole track low lawful is count part (seen_by s played track (told_at last track).stream.shape count shape seen) h

-- in a legal run a settled START keeps its promise by the end too
pub settled : (script : ScriptData) (files : List (List Frame)) (j : JournalData) → IsScript script → IsLegalRun script files j → SettledMeansKept script files j
settled script files j is legal = rounds-settled false (session_of script files) (marks_of j.rounds) j.tracks j.rounds is legal.rounds.form.rounds legal.rounds.rounds
