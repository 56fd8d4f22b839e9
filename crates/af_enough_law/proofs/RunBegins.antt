-- The first round finds each client at its first op, and no block poked or flushed.
use Rattle.std.proofs.Common.{◌≡◌, ℕ, zero, suc, ◌+◌, ◌<◌, nat_lt, Bool, true, List, [], ◌∷◌, length, get_or, refl, sym, ap, ◌∙◌, subst, arith, true≢false}
use Rattle.af_enough_law.proofs.Common.{All-get_or, AllByRecursion, Frame, HasOpNumbers, IsScript, IsTrack, LegalRounds, Marks, Op, RoundSeen, ScriptData, TrackSpec, all_play_through, begun, below_is, both_first, both_right, both_true, is_lawful, list_all, ClientEvent, Want, new_at, new_client, new_long, new_run, no_spec, play_through, recursion_from_All, run_from, session_of, sides_of, spec_of, told_at}
use Rattle.af_script.specs.declared.op.Op.TheVariants as op
use Rattle.af_runs.specs.declared.want.ClientCommand.TheVariants as command
use Rattle.af_runs.specs.declared.want.Mode.TheVariants as mode
use Rattle.af_runs.specs.declared.want.Want.TheVariants as want
use Rattle.af_enough.specs.Enough.{way_goes_on}
use Rattle.af_enough_law.proofs.Playing.{IsWay, Doing, opening}
use Rattle.af_enough_law.proofs.Doing.{at}
use Rattle.af_enough_law.proofs.PlainClients.{IsPlainTrack}
use Rattle.af_enough_law.proofs.PlainRounds.{rounds_plain}
use Rattle.af_enough_law.proofs.Pokeless.{IsPokelessTrack, is_pokeless_op, is_pokeless_want, pokeless}
use Rattle.af_enough_law.proofs.Flushless.{IsFlushlessTrack, are_unflushed, is_flushless_op, is_flushless_want}

-- ## The ops of a track

-- ops that go on to their end, with the numbers of ops
pub way_of : (frames gains : ℕ) (ops : List Op) → way_goes_on gains ops ≡ true → AllByRecursion (HasOpNumbers frames) ops → IsWay gains ops
way_of frames gains (op.Gain left right ∷ ops) h n = (below_is gains 1024 (both_first (nat_lt gains 1024) (way_goes_on (gains + 1) ops) h), way_of frames (gains + 1) ops (both_right (nat_lt gains 1024) (way_goes_on (gains + 1) ops) h) n.1)
way_of frames gains (op.Write count ∷ ops) h n = (n.0.0, way_of frames 0 ops h n.1)
way_of frames gains (op.Stop ∷ op.Drain ∷ op.Remove ∷ []) h n = tt
way_of frames gains _ h n = absurd (true≢false (sym h))

-- a way has gains, writes, a stop, a drain and a removal alone
way_ops : (O : Op → Bool) → ((left right : ℕ) → O (op.Gain left right) ≡ true) → ((count : ℕ) → O (op.Write count) ≡ true) → list_all O (op.Stop ∷ op.Drain ∷ op.Remove ∷ []) ≡ true → (gains : ℕ) (ops : List Op) → IsWay gains ops → list_all O ops ≡ true
way_ops O gain write last gains (op.Gain left right ∷ ops) way = both_true (O (op.Gain left right)) (list_all O ops) (gain left right) (way_ops O gain write last (gains + 1) ops way.1)
way_ops O gain write last gains (op.Write count ∷ ops) way = both_true (O (op.Write count)) (list_all O ops) (write count) (way_ops O gain write last 0 ops way.1)
way_ops O gain write last gains (op.Stop ∷ op.Drain ∷ op.Remove ∷ []) way = last
way_ops O gain write last gains _ way = absurd way

-- the ops of a track that plays through
pub record Plays (ops : List Op) : Type 0 where
  pub rest : List Op
  pub whole : ops ≡ op.OpenTrack ∷ op.Start ∷ rest
  pub way : IsWay 0 rest

pub plays_of : (frames : ℕ) (ops : List Op) → play_through ops ≡ true → AllByRecursion (HasOpNumbers frames) ops → Plays ops
plays_of frames (op.OpenTrack ∷ op.Start ∷ ops) h n = record { rest = ops; whole = refl; way = way_of frames 0 ops h n.1.1 }
plays_of frames _ h n = absurd (true≢false (sym h))

-- ## A script with enough cycles

all_at : {X : Type 0} (test : X → Bool) (xs : List X) (i : ℕ) (d : X) → list_all test xs ≡ true → i < length xs → test (get_or xs i d) ≡ true
all_at test [] i d h lt = absurd (omega arith)
all_at test (x ∷ xs) zero d h lt = both_first (test x) (list_all test xs) h
all_at test (x ∷ xs) (suc i) d h lt = all_at test xs i d (both_right (test x) (list_all test xs) h) (omega arith)

-- each track of a script with enough cycles plays through
pub track_plays : (script : ScriptData) (files : List (List Frame)) (i : ℕ) → IsScript script → all_play_through script ≡ true → i < length script.tracks → Plays (spec_of (session_of script files) i).ops
track_plays script files i is through lt =
    let track = get_or script.tracks i no_spec in
    let ops = all_at (λ (t : TrackSpec). play_through t.ops) script.tracks i no_spec through lt in
    let numbers = (All-get_or IsTrack script.tracks i no_spec lt is.tracks).numbers in
    plays_of track.frames track.ops ops (recursion_from_All (HasOpNumbers track.frames) track.ops numbers)

-- the client of a track in a new run opens the track first
unfoldable pub first_doing : (ops : List Op) → Plays ops → (rest : List Op) × (begun (new_client ops) ≡ at (want.Send command.Open ∷ []) (op.Start ∷ rest) mode.Idle) × Doing (want.Send command.Open ∷ []) (op.Start ∷ rest) mode.Idle
first_doing ops p = (p.rest, ap (λ (l : List Op). begun (new_client l)) p.whole, opening p.rest p.way)

-- before the first round the client of a track that plays through is plain, if the ops of its way are
begins_plain : (W : Want → Bool) (O : Op → Bool) (E : List ClientEvent → Bool) → E [] ≡ true → ((ops : List Op) → IsWay 0 ops → list_all O (op.OpenTrack ∷ op.Start ∷ ops) ≡ true)
    → (script : ScriptData) (files : List (List Frame)) (i : ℕ) → IsScript script → all_play_through script ≡ true → i < length script.tracks → IsPlainTrack W O E (sides_of (told_at (new_run (session_of script files)) i))
begins_plain W O E none plain script files i is through lt =
    let s = session_of script files in
    let p = track_plays script files i is through lt in
    subst (λ t. IsPlainTrack W O E (sides_of t)) (sym (new_at s i lt)) (record { client = record { due = refl; ops = ap (list_all O) p.whole ∙ plain p.rest p.way }; stream = none; commands = none })

-- no block of a new run was poked, and none was flushed
pub begins_pokeless : (script : ScriptData) (files : List (List Frame)) (i : ℕ) → IsScript script → all_play_through script ≡ true → i < length script.tracks → IsPokelessTrack (sides_of (told_at (new_run (session_of script files)) i))
begins_pokeless = begins_plain is_pokeless_want is_pokeless_op is_lawful refl (way_ops is_pokeless_op (λ left right. refl) (λ count. refl) refl 0)

pub begins_flushless : (script : ScriptData) (files : List (List Frame)) (i : ℕ) → IsScript script → all_play_through script ≡ true → i < length script.tracks → IsFlushlessTrack (sides_of (told_at (new_run (session_of script files)) i))
begins_flushless = begins_plain is_flushless_want is_flushless_op are_unflushed refl (way_ops is_flushless_op (λ left right. refl) (λ count. refl) refl 0)

-- In each run of a script whose tracks play through, no client pokes
pub run_pokeless : (cut : Bool) (script : ScriptData) (files : List (List Frame)) (marks : Marks) (rounds : List RoundSeen) (i : ℕ) → IsScript script → all_play_through script ≡ true → i < length script.tracks
    → LegalRounds cut (session_of script files) marks (new_run (session_of script files)) rounds → IsPokelessTrack (sides_of (told_at (run_from (session_of script files) (new_run (session_of script files)) rounds) i))
run_pokeless cut script files marks rounds i is through lt legal =
    let s = session_of script files in
    rounds_plain is_pokeless_want is_pokeless_op is_lawful pokeless s cut marks (new_run s) rounds i (let long = new_long s in omega arith) lt legal (begins_pokeless script files i is through lt)
