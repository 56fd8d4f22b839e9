-- A run whose tracks flow, and of which so many rounds are left that are enough, has ended all its lives in them.
use Rattle.std.proofs.Common.{◌≡◌, ◌⊎◌, inl, inr, ℕ, zero, suc, ◌+◌, ◌^◌, ◌≤◌, ◌<◌, Bool, true, false, true≢false, All, List, [], ◌∷◌, length, take, refl, sym, ◌∙◌, subst, arith}
use Rattle.af_enough_law.proofs.Common.{Frame, IsScript, LegalRound, LegalRounds, Marks, Op, RoundSeen, Run, ScriptData, Session, Setting, TrackKept, after_round, client_list, div_ceil, enough_rounds, is_over, plays, portion, run_from, server_list, session_of, setup_of, sides_of, spec_of, told_at, track_at, track_count}
use Rattle.af_enough_law.proofs.Courses.{stage}
use Rattle.af_enough_law.proofs.Ends.{AllOver}
use Rattle.af_enough_law.proofs.NearWords.{IsPast}
use Rattle.af_enough_law.proofs.Playing.{way_ops, way_frames}
use Rattle.af_enough_law.specs.Seen.{frames_put, frames_taken}
use Rattle.af_enough_law.proofs.Carrying.{Carried}
use Rattle.af_enough_law.proofs.Flows.{way_rounds}
use Rattle.af_enough_law.proofs.Middle.{Middle, middle_over, middle_round}
use Rattle.af_enough_law.proofs.NearEnds.{Near, ended, living, near_start}
use Rattle.af_enough_law.proofs.Nearing.{Nearing, over, removed, stopped, drained, emptied, stopping, flowing, BlockKept}
use Rattle.af_enough_law.proofs.NearSums.{IsPortion, portion_of, near_costs}
use Rattle.af_enough_law.proofs.PipeKept.{PipeKept, IsSized}
use Rattle.af_enough_law.proofs.RunBegins.{Plays}
use Rattle.af_enough_law.proofs.Underway.{alive_over as some_life}
use Rattle.af_enough_law.proofs.Turning.{Stands}

-- ## The start

-- so many rounds at most are more at most
nearing_more : (run : Run) (i q full total n more : ℕ) → n ≤ more → Nearing run i q full total n → Nearing run i q full total more
nearing_more run i q full total n more le (over e) = over e
nearing_more run i q full total n more le (removed eight some) = removed eight (omega (arith, le, some))
nearing_more run i q full total n more le (stopped six three some) = stopped six three (omega (arith, le, some))
nearing_more run i q full total n more le (drained six two some) = drained six two (omega (arith, le, some))
nearing_more run i q full total n more le (emptied six one all some) = emptied six one all (omega (arith, le, some))
nearing_more run i q full total n more le (stopping six d one fits some) = stopping six d one fits (omega (arith, le, some))
nearing_more run i q full total n more le (flowing most due m f portions fits some) = flowing most due m f portions fits (omega (arith, le, some))

-- What the start has to give of a track: its START was seen to be settled, all its gains and writes are ahead, and what was learnt at the last meeting
pub record StartsTrack (s : Session) (run : Run) (i : ℕ) (rest : List Op) : Type 0 where
  pub kept : BlockKept run i (spec_of s i).frames (spec_of s i).base
  pub stands : Stands (sides_of (told_at run i)) (way_ops rest) ((spec_of s i).base + way_frames rest)
  pub past : IsPast (told_at run i).client
  pub fits : frames_put (client_list (told_at run i).stream) ≤ frames_taken (server_list (told_at run i).stream) + (spec_of s i).frames

-- the track has left the mix already: it took its STOP, and all that was put is consumed
pub record EndsTrack (s : Session) (run : Run) (i : ℕ) : Type 0 where
  pub kept : BlockKept run i (spec_of s i).frames (spec_of s i).base
  pub sent : 6 ≤ length (told_at run i).commands.released
  pub drained : 2 ≤ stage (track_at run.normal.tracks i).life

-- a track whose life has ended, or that starts so
abbrev pub TrackStarts : Session → Run → ℕ → List Op → Type 0
TrackStarts s run i rest = ((track_at run.normal.tracks i).life.ended ≡ true) ⊎ StartsTrack s run i rest ⊎ EndsTrack s run i

-- the portion of a track, how many make its buffer, and the frames that it writes, past its base
abbrev pub portion_at : Session → ℕ → ℕ
portion_at s i = portion s.script (spec_of s i)

abbrev pub full_at : Session → ℕ → ℕ
full_at s i = div_ceil (spec_of s i).frames (portion_at s i)

-- If each track starts so, or has ended already, fifty rounds less than are enough are left
pub middle_start : (script : ScriptData) (files : List (List Frame)) → IsScript script → (run : Run) (most total : ℕ → ℕ) (n : ℕ) → enough_rounds script ≤ n + 50
    → (let s = session_of script files in Carried s run most total → ((i : ℕ) → i < track_count s → plays (track_at run.normal.tracks i).life ≡ true → PipeKept s run)
    → ((i : ℕ) → i < track_count s → (p : Plays (spec_of s i).ops) × (total i ≡ (spec_of s i).base + way_frames p.rest) × TrackStarts s run i p.rest) → Middle s run most total (portion_at s) (full_at s) n)
middle_start script files is run most total n enough carried pipe starts = record {
  carried = carried;
  pipe = pipe;
  near = near;
}
  where
    s : Session
    s = session_of script files

    near : (i : ℕ) → i < track_count (session_of script files) → Near (session_of script files) run i (portion_at (session_of script files) i) (full_at (session_of script files) i) (total i) n
    near i named = by (starts i named).2
      where
        flows : StartsTrack (session_of script files) run i (starts i named).0.rest → Near (session_of script files) run i (portion_at (session_of script files) i) (full_at (session_of script files) i) (total i) n
        flows t =
            let s : Session = session_of script files in
            let start = starts i named in
            let q = portion_at s i in
            let full = full_at s i in
            let costs = near_costs script files i named start.0 in
            let first : Nearing run i q full ((spec_of s i).base + way_frames start.0.rest) (way_rounds q start.0.rest + full + 5) = near_start s run i q full start.0.rest (portion_of script files i is named) start.0.way t.kept t.stands t.past t.fits in
            living t.kept (subst (λ (m : ℕ). Nearing run i q full m n) (sym start.1) (nearing_more run i q full ((spec_of s i).base + way_frames start.0.rest) (way_rounds q start.0.rest + full + 5) n (omega (arith, costs, enough)) first))

        ends : EndsTrack (session_of script files) run i → Near (session_of script files) run i (portion_at (session_of script files) i) (full_at (session_of script files) i) (total i) n
        ends t = let costs = near_costs script files i named (starts i named).0 in living t.kept (drained t.sent t.drained (omega (arith, costs, enough)))

        by : TrackStarts (session_of script files) run i (starts i named).0.rest → Near (session_of script files) run i (portion_at (session_of script files) i) (full_at (session_of script files) i) (total i) n
        by (inl e) = ended e
        by (inr (inl t)) = flows t
        by (inr (inr t)) = ends t

-- ## To the end

-- if all is over, each life has ended
pub over_lives : (tracks : List TrackKept) (i : ℕ) → i < length tracks → is_over tracks ≡ true → (track_at tracks i).life.ended ≡ true
over_lives tracks i low whole = by (track_at tracks i).life.ended refl
  where
    by : (b : Bool) → (track_at tracks i).life.ended ≡ b → (track_at tracks i).life.ended ≡ true
    by true e = e
    by false e = absurd (true≢false (sym whole ∙ some_life tracks i low e))

-- A run from whose middle so many rounds follow, and one more, has ended all lives after one of them, if what makes each track have two retries is kept too
pub middle_ends : (s : Session) (marks : Marks) → All (λ (x : Setting). x.scale ≤ 4096) (setup_of s).settings → length (setup_of s).settings ≡ track_count s → s.script.normal ≤ 16 → IsSized s → ((i : ℕ) → i < track_count s → marks.commands i ≡ true) → (most total q full : ℕ → ℕ)
    → ((i : ℕ) → i < track_count s → IsPortion s i (q i) (full i)) → ((i : ℕ) → i < track_count s → total i < (spec_of s i).base + 2 ^ 32) → (Able : Run → Type 0) → ((run : Run) → Able run → (i : ℕ) → i < track_count s → 2 ≤ (track_at run.normal.tracks i).life.retries)
    → ((run : Run) (round next : RoundSeen) (n : ℕ) → LegalRound false s marks run round → LegalRound false s marks (after_round s run round) next → is_over (after_round s run round).normal.tracks ≡ false → Middle s run most total q full (suc n) → Able run → Able (after_round s run round))
    → (run : Run) (rounds : List RoundSeen) (n : ℕ) → LegalRounds false s marks run rounds → suc n ≤ length rounds → Middle s run most total q full n → Able run → (k : ℕ) × (k ≤ n) × AllOver (run_from s run (take k rounds)).normal.tracks
middle_ends s marks scales long small sizes lawful most total q full portions under Able able steps run rounds zero legal few m a = (0, omega arith, λ i low. middle_over s run most total q full m i (let kept = m.carried.session.stands.kept in omega (arith, low, kept)))
middle_ends s marks scales long small sizes lawful most total q full portions under Able able steps run [] (suc n) legal few m a = absurd (let z : ⊥ = omega (arith, few) in z)
middle_ends s marks scales long small sizes lawful most total q full portions under Able able steps run (round ∷ []) (suc n) legal few m a = absurd (let z : ⊥ = omega (arith, few) in z)
middle_ends s marks scales long small sizes lawful most total q full portions under Able able steps run (round ∷ next ∷ rounds) (suc n) legal few m a = by (is_over (after_round s run round).normal.tracks) refl
    (λ going. middle_ends s marks scales long small sizes lawful most total q full portions under Able able steps (after_round s run round) (next ∷ rounds) n legal.1 (omega (arith, few))
    (middle_round s marks scales long small sizes lawful most total q full portions under run round next n legal.0 legal.1.0 (able run a) going m) (steps run round next n legal.0 legal.1.0 going m a))
  where
    Ends : List RoundSeen → Type 0
    Ends rest = (k : ℕ) × (k ≤ n) × AllOver (run_from s (after_round s run round) (take k rest)).normal.tracks

    by : (b : Bool) → is_over (after_round s run round).normal.tracks ≡ b → (is_over (after_round s run round).normal.tracks ≡ false → (k : ℕ) × (k ≤ n) × AllOver (run_from s (after_round s run round) (take k (next ∷ rounds))).normal.tracks)
        → (k : ℕ) × (k ≤ suc n) × AllOver (run_from s run (take k (round ∷ next ∷ rounds))).normal.tracks
    by true whole later = (1, omega arith, λ i low. over_lives (after_round s run round).normal.tracks i low whole)
    by false going later = let e = later going in (suc e.0, (let le = e.1 in omega (arith, le)), e.2)
