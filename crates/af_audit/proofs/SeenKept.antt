-- In legal rounds: if the server of a track without a poke had seen so many flushes by the meeting after a round, what the client releases in later rounds is discarded only by looks that saw more.
use Rattle.std.proofs.Common.{◌≡◌, ℕ, zero, suc, ◌+◌, ◌*◌, ◌^◌, ◌<◌, ◌≤◌, ◌==◌, nat_le, Bool, true, false, if◌then◌else◌, List, ◌∷◌, ◌++◌, length, refl, sym, ap, ◌∙◌, subst, arith}
use Rattle.af_audit.proofs.Common.{All, All-get_or, HasBlockHistory, IsRound, IsScript, IsTrack, LegalRound, LegalRounds, Marks, RoundSeen, Run, Session, TrackSpec, TrackTold, [], after_round, all_played, both_first, calls_in, cells_of, client_list, flushes_of, is_lawful_block, is_lawful_track, is_poke_on, list_any, new_run, no_spec, not_true, power_above, run_from, server_list, spec_of, stream_shape, takes_part, told_at, track_count}
use Rattle.std.proofs.Math.Pow.{pow_mono}
use Rattle.af_audit.specs.Fates.{DropsByFlush}
use Rattle.af_audit.proofs.FatesTold.{new_stands, new_there, told_new}
use Rattle.af_audit.proofs.Words.{most_seen}
use Rattle.af_audit.specs.Settled.{DiscardsAbove}
use Rattle.af_audit.proofs.FewRounds.{HasFew, rounds_have, told_flushes}
use Rattle.af_audit.proofs.Grown.{rounds_grow}
use Rattle.af_audit.proofs.Meeting.{meeting-discards}
use Rattle.af_audit.proofs.RunStands.{rounds_stand}

-- ## Sizes

-- the cells of a block are no more than the power of two up to which they are searched for
most_cells : (k n : ℕ) → power_above k n ≤ 2 ^ k
most_cells zero n = omega arith
most_cells (suc k) n = by_test (nat_le n (2 ^ k)) (most_cells k n)
  where
    by_test : (b : Bool) → power_above k n ≤ 2 ^ k → (if b then power_above k n else 2 ^ suc k) ≤ 2 ^ suc k
    by_test true low = let wide : 2 ^ k ≤ 2 ^ suc k = pow_mono (let more : k ≤ suc k = omega arith in more) in omega (arith, low, wide)
    by_test false low = omega arith

stream_narrow : (version : ℕ) (spec : TrackSpec) → (stream_shape version spec).wrap ≤ 32768
unfolding cells_of
stream_narrow version spec = by_version (version == 2)
  where
    by_version : (b : Bool) → (if b then power_above 13 spec.frames * 4 else 0) ≤ 32768
    by_version true = let m = most_cells 13 spec.frames in omega (arith, m)
    by_version false = omega arith

-- what a client of a script flushes at most
abbrev pub most_flushes : ℕ
most_flushes = 4097

pub new_few : (s : Session) → IsScript s.script → (track : ℕ) → track < track_count s → HasFew most_flushes track (new_run s)
new_few s is track low =
    let new : told_flushes (told_at (new_run s) track) ≡ 0 + (0 + length (spec_of s track).ops) = ap told_flushes (told_new s track low) in
    let ops = (All-get_or IsTrack s.script.tracks track no_spec low is.tracks).count in
    record { there = new_there s track low; few = omega (arith, new, ops) }

pub flushes_few : (t : TrackTold) → told_flushes t ≤ most_flushes → flushes_of (client_list t.stream) ≤ 65536
flushes_few t few = omega (arith, few)

-- a stream block that is shaped as before the first round
pub new_narrow : (s : Session) (track : ℕ) → track < track_count s → (run : Run) → (told_at run track).stream.shape ≡ (told_at (new_run s) track).stream.shape → (told_at run track).stream.shape.wrap ≤ 32768
new_narrow s track low run same =
    let new = ap (λ t. t.stream.shape.wrap) (told_new s track low) in
    let all : (told_at run track).stream.shape.wrap ≡ (stream_shape s.script.version (spec_of s track)).wrap = ap (λ k. k.wrap) same ∙ new in
    let few = stream_narrow s.script.version (spec_of s track) in
    omega (arith, all, few)

-- ## Rounds, cut at one of them

run_cut : (s : Session) (run : Run) (before : List RoundSeen) (round : RoundSeen) (later : List RoundSeen) → run_from s run (before ++ round ∷ later) ≡ run_from s (after_round s (run_from s run before) round) later
run_cut s run [] round later = refl
run_cut s run (first ∷ before) round later = run_cut s (after_round s run first) before round later

legal_at : (cut : Bool) (s : Session) (marks : Marks) (run : Run) (before : List RoundSeen) (round : RoundSeen) (later : List RoundSeen) → LegalRounds cut s marks run (before ++ round ∷ later) → LegalRound cut s marks (run_from s run before) round
legal_at cut s marks run [] round later legal = legal.0
legal_at cut s marks run (first ∷ before) round later legal = legal_at cut s marks (after_round s run first) before round later legal.1

-- ## The law

module _ (cut : Bool) (s : Session) (marks : Marks) (tracks : ℕ) (rounds : List RoundSeen) (forms : All (IsRound tracks) rounds) (legal : LegalRounds cut s marks (new_run s) rounds) (before : List RoundSeen) (round : RoundSeen) (later : List RoundSeen) (whole : rounds ≡ before ++ round ∷ later)
    (track : ℕ) (low : track < track_count s) (lawful : is_lawful_track rounds track ≡ true) where
  abbrev pub run : Run
  run = run_from s (new_run s) before

  abbrev pub last : Run
  last = run_from s (new_run s) rounds

  run_there : track < length run.tracks
  run_there = (rounds_grow track s before (new_run s) (new_there s track low)).there

  last_is : last ≡ run_from s (after_round s run round) later
  last_is = ap (run_from s (new_run s)) whole ∙ run_cut s (new_run s) before round later

  -- its server drops only behind looks that saw a new flush
  noticed : DropsByFlush (told_at last track).stream.shape [] (server_list (told_at last track).stream)
  noticed = (rounds_stand cut s marks tracks track rounds (new_run s) low forms legal
      (not_true (list_any (λ (round : RoundSeen). list_any (is_poke_on false) (calls_in round track)) rounds) (both_first (is_lawful_block false rounds track) (is_lawful_block true rounds track) lawful))
      (new_stands s track low)).stands.track.drops

  pub seen-kept : IsScript s.script → (count : ℕ) → takes_part s (all_played s run round) track ≡ true
      → count ≤ most_seen (told_at last track).stream.shape (server_list (told_at (all_played s run round) track).stream)
      → (h : HasBlockHistory (told_at last track).stream) → DiscardsAbove (told_at last track).stream.shape (length (told_at (after_round s run round) track).stream.released) count h.order
  seen-kept is count part seen h =
      let n : ℕ = length (told_at (after_round s run round) track).stream.released in
      let start = new_there s track low in
      let narrow = new_narrow s track low last (rounds_grow track s rounds (new_run s) start).track.stream.shape in
      let few = (rounds_have most_flushes track cut s marks rounds (new_run s) low legal (new_few s is track low)).few in
      let at : LegalRound cut s marks run round = legal_at cut s marks (new_run s) before round later (subst (LegalRounds cut s marks (new_run s)) whole legal) in
      subst (λ (x : Run). (h : HasBlockHistory (told_at x track).stream) → (told_at x track).stream.shape.wrap ≤ 32768 → flushes_of (client_list (told_at x track).stream) ≤ 65536
      → DropsByFlush (told_at x track).stream.shape [] (server_list (told_at x track).stream) → count ≤ most_seen (told_at x track).stream.shape (server_list (told_at (all_played s run round) track).stream)
      → DiscardsAbove (told_at x track).stream.shape n count h.order)
      (sym last_is) (meeting-discards cut s marks run round later track run_there low at part count) h narrow (flushes_few (told_at last track) few) noticed seen
