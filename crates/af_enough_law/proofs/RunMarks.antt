-- In a run of a script whose tracks play through each block is lawful, by the marks of the whole journal.
use Rattle.std.proofs.Common.{◌≡◌, ℕ, ◌<◌, not, Bool, true, false, List, [], ◌∷◌, length, refl, ap, arith}
use Rattle.af_enough_law.proofs.Common.{Frame, IsScript, LegalRounds, Marks, RoundSeen, Run, ScriptData, Session, after_round, all_play_through, calls_in, is_lawful_block, is_poke_on, list_any, neither_is, new_long, new_run, session_of, sides_of, told_at, track_count}
use Rattle.af_enough_law.proofs.Pokeless.{IsPokelessTrack, round_pokeless, turn_free}
use Rattle.af_enough_law.proofs.RunBegins.{begins_pokeless}
use Rattle.af_enough_law.proofs.RunTracks.{round_long}

-- no round has a poke on a track's blocks
pub rounds_free : (on cut : Bool) (s : Session) (marks : Marks) (run : Run) (rounds : List RoundSeen) (i : ℕ) → i < length run.tracks → i < track_count s → LegalRounds cut s marks run rounds → IsPokelessTrack (sides_of (told_at run i))
    → list_any (λ round. list_any (is_poke_on on) (calls_in round i)) rounds ≡ false
rounds_free on cut s marks run [] i lt there legal h = refl
rounds_free on cut s marks run (round ∷ rounds) i lt there legal h =
    neither_is (list_any (is_poke_on on) (calls_in round i)) (list_any (λ r. list_any (is_poke_on on) (calls_in r i)) rounds)
    (turn_free on (sides_of (told_at run i)) (calls_in round i) h (legal.0.turns.clients i there))
    (rounds_free on cut s marks (after_round s run round) rounds i (let long = round_long s run round in omega arith) there legal.1 (round_pokeless s run round cut marks i lt there legal.0 h))

-- each block of a track that plays through is lawful
pub run_lawful : (on cut : Bool) (script : ScriptData) (files : List (List Frame)) (marks : Marks) (rounds : List RoundSeen) (i : ℕ) → IsScript script → all_play_through script ≡ true → i < length script.tracks
    → LegalRounds cut (session_of script files) marks (new_run (session_of script files)) rounds → is_lawful_block on rounds i ≡ true
run_lawful on cut script files marks rounds i is through lt legal =
    let s = session_of script files in
    ap not (rounds_free on cut s marks (new_run s) rounds i (let long = new_long s in omega arith) lt legal (begins_pokeless script files i is through lt))
