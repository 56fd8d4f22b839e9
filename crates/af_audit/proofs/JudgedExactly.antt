-- The verdict is Legal exactly for a legal run and its PCM.
use Rattle.std.specs.Prelude.{◌≡◌, ◌<◌, ◌==◌, ◌∷◌}
use Rattle.std.proofs.Common.{arith, subst}
use Rattle.af_audit.proofs.Common.{Bool, Frame, JournalData, LegalRound, LegalRounds, List, Marks, MatchBool, RoundSeen, Run, ScriptData, Session, [], after_round, all_ended, below_is, false, fast_party, is_below, is_not_below, itself, marks_of, nat_lt, new_run, normal_party, refl, run_from, session_of, track_count, true, ℕ}
use Rattle.af_audit.proofs.Words.{LegalExactly}
use Rattle.af_audit.specs.Verdicts.{ClientIsClear, NormalIsClear, FastIsClear, IsClear, AreClear, AllClear}
use Rattle.af_audit.proofs.Booleans.{one_more}

where_true : {A : Type 0} (B : Type 0) (b : Bool) → b ≡ true → MatchBool b A B → A
where_true {A} B b e h = subst (λ (x : Bool). MatchBool x A B) e h

where_false : (A : Type 0) {B : Type 0} (b : Bool) → b ≡ false → MatchBool b A B → B
where_false A {B} b e h = subst (λ (x : Bool). MatchBool x A B) e h

either : {A B : Type 0} (b : Bool) → (b ≡ true → A) → (b ≡ false → B) → MatchBool b A B
either {A} {B} b one other = elim b as (λ x. (x ≡ true → A) → (x ≡ false → B) → MatchBool x A B) [ true ↦ λ f g. f refl | false ↦ λ f g. g refl ] one other

-- a client is clear, if the party of its number is
pub client_part : (cut : Bool) (s : Session) (marks : Marks) (run : Run) (round : RoundSeen) (track : ℕ) → track < track_count s → IsClear cut s marks run round track → ClientIsClear s run round track
client_part cut s marks run round track h clear = where_true _ (nat_lt track (normal_party s)) (is_below track (track_count s) h) clear

-- the normal mixer is clear, if its party is
pub normal_part : (cut : Bool) (s : Session) (marks : Marks) (run : Run) (round : RoundSeen) → IsClear cut s marks run round (normal_party s) → NormalIsClear s marks run round
normal_part cut s marks run round clear = where_true _ (normal_party s == normal_party s) (itself (normal_party s)) (where_false _ (nat_lt (normal_party s) (normal_party s)) (is_not_below (normal_party s) (normal_party s) (omega arith)) clear)

-- the fast mixer is clear, if its party is
pub fast_part : (cut : Bool) (s : Session) (marks : Marks) (run : Run) (round : RoundSeen) → IsClear cut s marks run round (fast_party s) → FastIsClear cut s marks run round
fast_part cut s marks run round clear = where_false _ (fast_party s == normal_party s) (one_more (normal_party s)) (where_false _ (nat_lt (fast_party s) (normal_party s)) (is_not_below (fast_party s) (normal_party s) (omega arith)) clear)

-- a round in which every party is clear is legal
pub round_legal : (cut : Bool) (s : Session) (marks : Marks) (run : Run) (round : RoundSeen) → 0 < track_count s → AreClear cut s marks run round → LegalRound cut s marks run round
round_legal cut s marks run round some clear =
    let first = client_part cut s marks run round 0 some (clear 0 (omega arith)) in
    let normal = normal_part cut s marks run round (clear (normal_party s) (omega arith)) in
    let fast = fast_part cut s marks run round (clear (fast_party s) (omega arith)) in
    record {
      follows = record { going = first.going refl; room = fast.room; within = fast.within };
      turns = record { clients = λ track h. (client_part cut s marks run round track h (clear track (omega (arith, h)))).turn; normal = normal.turn; fast = fast.turn };
      histories = record { blocks = λ track h. (client_part cut s marks run round track h (clear track (omega (arith, h)))).histories; shared = normal.histories };
    }

-- in a legal round every party is clear
pub round_clear : (cut : Bool) (s : Session) (marks : Marks) (run : Run) (round : RoundSeen) → LegalRound cut s marks run round → (party : ℕ) → IsClear cut s marks run round party
round_clear cut s marks run round legal party =
    either (nat_lt party (normal_party s))
    (λ e. record { going = λ first. legal.follows.going; turn = legal.turns.clients party (below_is party (track_count s) e); histories = legal.histories.blocks party (below_is party (track_count s) e) })
    (λ e. either (party == normal_party s) (λ e. record { turn = legal.turns.normal; histories = legal.histories.shared }) (λ e. record { turn = legal.turns.fast; within = legal.follows.within; room = legal.follows.room }))

rounds_legal : (s : Session) (marks : Marks) (run : Run) (rounds : List RoundSeen) → 0 < track_count s → AllClear s marks run rounds → LegalRounds false s marks run rounds × (all_ended s (run_from s run rounds) ≡ true)
rounds_legal s marks run [] some clear = (tt, clear)
rounds_legal s marks run (round ∷ rounds) some clear =
    let rest = rounds_legal s marks (after_round s run round) rounds some clear.1 in
    ((round_legal false s marks run round some clear.0, rest.0), rest.1)

rounds_clear : (s : Session) (marks : Marks) (run : Run) (rounds : List RoundSeen) → LegalRounds false s marks run rounds → all_ended s (run_from s run rounds) ≡ true → AllClear s marks run rounds
rounds_clear s marks run [] legal ends = ends
rounds_clear s marks run (round ∷ rounds) legal ends = ((λ party h. round_clear false s marks run round legal.0 party), rounds_clear s marks (after_round s run round) rounds legal.1 ends)

pub legal_exactly : (script : ScriptData) (files : List (List Frame)) (j : JournalData) (pcm : List ℕ) → LegalExactly script files j pcm
legal_exactly script files j pcm may =
    let s = session_of script files in (
      (λ verdict. let legal = rounds_legal s (marks_of j.rounds) (new_run s) j.rounds may.some verdict.0 in (record { rounds = record { tracks = may.tracks; form = may.form; rounds = legal.0 }; ends = legal.1 }, verdict.1)),
      (λ run. (rounds_clear s (marks_of j.rounds) (new_run s) j.rounds run.0.rounds.rounds run.0.ends, run.1)),
    )
