-- What the stream blocks of a run released are the first words of their files.
use Rattle.std.proofs.Common.{◌≡◌, ℕ, ◌+◌, Bool, true, false, if◌then◌else◌, fold, List, [], ◌∷◌, ◌++◌, take, drop, length, sym, ap, ◌∙◌, subst, append-nil}
use Rattle.af_one_turn_run.proofs.Common.{BlockTold, ClientCall, RoundSeen, Run, Session, Track, TrackTold, TurnSpec, after_call, called_in_turn, calls_in, file_words, is_of_commands, length-take, made_alone, met_alone, released_by, sides_of, stream_met, take_min, told_at, with_ends}
use Rattle.af_base.specs.declared.event.ClientCall.TheVariants as call
use Rattle.af_runs.specs.ClientTurns.{called as side_called}
use Rattle.af_enough_law.proofs.TracksKept.{AllTracks, IsQuietlyKept, ends_keep, made_keeps, met_keeps}
use Rattle.af_one_turn_run.proofs.Parts.{take-add}

-- the words are the first ones of a file
abbrev pub IsFirst : List ℕ → List ℕ → Type 0
IsFirst file words = words ≡ take (length words) file

first_more : (file words : List ℕ) (count : ℕ) → IsFirst file words → IsFirst file (words ++ take count (drop (length words) file))
first_more file words count is =
    let m = length words in
    let all : words ++ take count (drop m file) ≡ take (m + count) file = ap (λ (ws : List ℕ). ws ++ take count (drop m file)) is ∙ sym (take-add m count file) in
    all ∙ sym (take_min (m + count) file) ∙ ap (λ n. take n file) (sym (ap length all ∙ length-take (m + count) file))

-- ## A client's calls

abbrev TrackFirst : List ℕ → Track → Type 0
TrackFirst file t = (t.file ≡ file) × IsFirst file t.stream.released

call_first : (file : List ℕ) (t : Track) (a : ClientCall) → TrackFirst file t → TrackFirst file (after_call t a)
call_first file t a h = (by_file (is_of_commands a), by_call a)
  where
    by_file : (b : Bool) → (if b then record t { commands = side_called a (released_by t a) t.commands } else record t { stream = side_called a (released_by t a) t.stream }).file ≡ file
    by_file true = h.0
    by_file false = h.0

    nothing : IsFirst file (t.stream.released ++ [])
    nothing = subst (IsFirst file) (sym (append-nil t.stream.released)) h.1

    by_poke : (b : Bool) (word value : ℕ) → IsFirst file (if b then record t { commands = side_called (call.Poke b word value) [] t.commands } else record t { stream = side_called (call.Poke b word value) [] t.stream }).stream.released
    by_poke true word value = h.1
    by_poke false word value = nothing

    by_call : (a : ClientCall) → IsFirst file (after_call t a).stream.released
    by_call (call.Put front count) = subst (λ f. IsFirst file (t.stream.released ++ take count (drop (length t.stream.released) f))) (sym h.0) (first_more file t.stream.released count h.1)
    by_call (call.Sent front code argument) = h.1
    by_call (call.SendFull front) = h.1
    by_call (call.SendDead flags) = h.1
    by_call (call.SendCorrupt front rear) = h.1
    by_call (call.Status word) = h.1
    by_call (call.Poke in_command word value) = by_poke in_command word value
    by_call _ = nothing

calls_first : (file : List ℕ) (calls : List ClientCall) (t : Track) → TrackFirst file t → TrackFirst file (fold after_call t calls)
calls_first file [] t h = h
calls_first file (a ∷ calls) t h = calls_first file calls (after_call t a) (call_first file t a h)

-- ## A run

-- a track of a file
pub record IsOfFile (file : List ℕ) (t : TrackTold) : Type 0 where
  pub file_is : t.file ≡ file
  pub first : IsFirst file t.stream.released

abbrev pub AreOfFiles : Session → Run → Type 0
AreOfFiles s run = AllTracks (λ n. IsOfFile (file_words s n)) run

stream_met_first : (part handed : Bool) (file : List ℕ) (b : BlockTold) → IsFirst file b.released → IsFirst file (stream_met part handed b).released
stream_met_first true true file b h = h
stream_met_first true false file b h = h
stream_met_first false true file b h = h
stream_met_first false false file b h = h

-- only its client changes what a stream block released
kept : (s : Session) → IsQuietlyKept (λ n. IsOfFile (file_words s n))
kept s = record {
  slot_plays = λ asked e slot n t h. record { file_is = h.file_is; first = h.first };
  turns = λ c o m e n t h. record { file_is = h.file_is; first = h.first };
  all_meet = λ part handed n t h. record { file_is = h.file_is; first = stream_met_first part handed (file_words s n) t.stream h.first };
  client_ends = λ n t h. record { file_is = h.file_is; first = h.first };
}

called_files : (file : List ℕ) (t : TrackTold) (calls : List ClientCall) → IsOfFile file t → IsOfFile file (called_in_turn calls t)
called_files file t calls h = record { file_is = h.file_is; first = (calls_first file calls (sides_of t) (h.file_is, h.first)).1 }

pub met_alone_files : (s : Session) (run : Run) (turn : TurnSpec) (round : RoundSeen) → AreOfFiles s run → AreOfFiles s (met_alone s run turn round)
met_alone_files s run turn round h =
    met_keeps (λ n. IsOfFile (file_words s n)) (kept s) s (made_alone s run turn round)
    (made_keeps (λ n. IsOfFile (file_words s n)) (kept s) s run turn round (λ track is low. called_files (file_words s track) (told_at run track) (calls_in round track)) h)

pub ends_files : (s : Session) (run : Run) → AreOfFiles s run → AreOfFiles s (with_ends run)
ends_files s run = ends_keep (λ n. IsOfFile (file_words s n)) (kept s) s run
