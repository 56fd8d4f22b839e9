-- A run so far in which all parties have ended is a legal run.
use Rattle.std.specs.Prelude.{◌≡◌, ◌<◌, ◌+◌, ◌==◌, ◌||◌, if◌then◌else◌, ◌∷◌, ◌++◌}
use Rattle.std.proofs.Common.{subst, sym, ap, ◌∙◌, arith, length-append, inl, inr}
use Rattle.af_audit.proofs.Common.{AreMixedBut, Bool, CycleEntry, EntrySeen, Frame, IsFastTurn, JournalData, LegalRound, LegalRounds, List, Marks, MatchBool, RoundSeen, Run, ScriptData, Session, [], after_round, all_ended, false, fast_ended, fast_party, fills, fold, has_exit, is_mixed, length, marks_of, most_round_cycles, nat_lt, nat_tests, new_run, normal_party, refl, run_from, session_of, suc, told_at, true, ℕ}
use Rattle.af_audit.proofs.Basics.{seen_map}
use Rattle.af_base.specs.declared.log.Cycle.TheVariants as cycle
use Rattle.af_model.specs.Cycles.{is_exit}
use Rattle.af_audit.proofs.Words.{LegalAtTheEnd}
use Rattle.af_runs.proofs.RoundEntries.{bare, round-entries}
use Rattle.af_audit.proofs.OneVerdict.{each_ended}
use Rattle.af_audit.proofs.Booleans.{one_more}

-- ## An Exit comes last

bare-length : (es : List EntrySeen) → length (bare es) ≡ length es
bare-length [] = refl
bare-length (e ∷ es) = ap (λ n. suc n) (bare-length es)

-- a mixed entry is no Exit
mixed-no_exit : (entry : CycleEntry) → is_mixed entry.cycle ≡ true → is_exit entry.cycle ≡ false
mixed-no_exit entry h = (elim (entry.cycle) as (λ c. is_mixed c ≡ true → is_exit c ≡ false) [ cycle.Mixed ↦ λ h. refl | cycle.Idle ↦ λ h. refl | cycle.Cold ↦ λ h. refl | cycle.Exit ↦ λ h. sym h | cycle.Spent n ↦ λ h. refl ]) h

-- an Exit isn't mixed
exit-not_mixed : (entry : CycleEntry) → is_exit entry.cycle ≡ true → is_mixed entry.cycle ≡ false
exit-not_mixed entry h = (elim (entry.cycle) as (λ c. is_exit c ≡ true → is_mixed c ≡ false) [ cycle.Mixed ↦ λ h. sym h | cycle.Idle ↦ λ h. refl | cycle.Cold ↦ λ h. refl | cycle.Exit ↦ λ h. refl | cycle.Spent n ↦ λ h. refl ]) h

exits-append : (found : Bool) (xs ys : List CycleEntry) → fold (λ found entry. found || is_exit entry.cycle) found (xs ++ ys) ≡ fold (λ found entry. found || is_exit entry.cycle) (fold (λ found entry. found || is_exit entry.cycle) found xs) ys
exits-append found [] ys = refl
exits-append found (x ∷ xs) ys = exits-append (found || is_exit x.cycle) xs ys

-- if an Exit is among entries of which all but the last are mixed, the last is no mix
last-exit : (Last : EntrySeen → Type 0) (es : List EntrySeen) → AreMixedBut Last es → fold (λ found entry. found || is_exit entry.cycle) false (bare es) ≡ true → AreMixedBut (λ last. is_mixed last.entry.cycle ≡ false) es
last-exit Last [] mixed found = mixed
last-exit Last (e ∷ []) mixed found = exit-not_mixed e.entry found
last-exit Last (e ∷ next ∷ es) mixed found = (mixed.0, last-exit Last (next ∷ es) mixed.1 (subst (λ b. fold (λ found entry. found || is_exit entry.cycle) b (bare (next ∷ es)) ≡ true) (mixed-no_exit e.entry mixed.0) found))

-- ## Without a cut

none_below : (n : ℕ) → nat_lt (n + 1) n ≡ false
none_below n = grind (arith, nat_tests)

-- if all parties have ended, the fast mixer has
fast-ended : (s : Session) (run : Run) → all_ended s run ≡ true → fast_ended run ≡ true
fast-ended s run h =
    let last = each_ended s run (fast_party s) h (omega arith) in
    subst (λ b. (if b then run.normal.ended else fast_ended run) ≡ true) (one_more (normal_party s)) (subst (λ b. (if b then (told_at run (fast_party s)).client.ended else if fast_party s == normal_party s then run.normal.ended else fast_ended run) ≡ true) (none_below (normal_party s)) last)

-- a choice by a test that is known
choose : {A B C D : Type 0} (b : Bool) → (A → C) → (b ≡ false → B → D) → MatchBool b A B → MatchBool b C D
choose {A} {B} {C} {D} b f g = (elim b as (λ x. (x ≡ false → B → D) → MatchBool x A B → MatchBool x C D) [ true ↦ λ g. f | false ↦ λ g. g refl ]) g

-- a legal round is legal without a cut, if its fast turn has the length of one without a cut
uncut : (s : Session) (marks : Marks) (run : Run) (round : RoundSeen) → (fast_ended run ≡ false → IsFastTurn most_round_cycles (fills s run round) round.entries → IsFastTurn most_round_cycles false round.entries)
    → LegalRound true s marks run round → LegalRound false s marks run round
uncut s marks run round f legal = record {
  follows = legal.follows;
  turns = record { clients = legal.turns.clients; normal = legal.turns.normal; fast = choose (fast_ended run) (λ none. none) (λ going h. (f going h.0, h.1, h.2)) legal.turns.fast };
  histories = legal.histories;
}

-- a round that another one follows doesn't fill the log
not-full : (s : Session) (run : Run) (round : RoundSeen) → length (after_round s run round).entries < s.script.cycles → fills s run round ≡ false
not-full s run round room =
    let count : length (after_round s run round).entries ≡ length run.entries + length round.entries = ap length (round-entries s run round) ∙ (length-append run.entries _ ∙ ap (λ n. length run.entries + n) (bare-length round.entries)) in
    grind (arith, nat_tests, count, room)

-- if the fast mixer ends in a round, its last entry is no mix
ends-uncut : (s : Session) (run : Run) (round : RoundSeen) → fast_ended (after_round s run round) ≡ true → fast_ended run ≡ false → (full : Bool) → IsFastTurn most_round_cycles full round.entries → IsFastTurn most_round_cycles false round.entries
ends-uncut s run round ended going full turn =
    let on : has_exit (run.entries ++ bare round.entries) ≡ true = subst (λ es. has_exit es ≡ true) (round-entries s run round) ended in
    let from : fold (λ found entry. found || is_exit entry.cycle) (has_exit run.entries) (bare round.entries) ≡ true = sym (exits-append false run.entries (bare round.entries)) ∙ on in
    let exits = subst (λ b. fold (λ found entry. found || is_exit entry.cycle) b (bare round.entries) ≡ true) going from in
    (turn.0, seen_map _ _ round.entries (λ e still. inr (inl still)) (last-exit _ round.entries turn.1 exits))

pub rounds-uncut : (s : Session) (marks : Marks) (run : Run) (rounds : List RoundSeen) → LegalRounds true s marks run rounds → all_ended s (run_from s run rounds) ≡ true → LegalRounds false s marks run rounds
rounds-uncut s marks run [] legal ends = tt
rounds-uncut s marks run (round ∷ []) legal ends = (uncut s marks run round (λ going. ends-uncut s run round (fast-ended s (after_round s run round) ends) going (fills s run round)) legal.0, tt)
rounds-uncut s marks run (round ∷ next ∷ rounds) legal ends =
    (uncut s marks run round (λ going. subst (λ b. IsFastTurn most_round_cycles b round.entries) (not-full s run round legal.1.0.follows.room)) legal.0, rounds-uncut s marks (after_round s run round) (next ∷ rounds) legal.1 ends)

pub legal_at_the_end : (script : ScriptData) (files : List (List Frame)) (j : JournalData) → LegalAtTheEnd script files j
legal_at_the_end script files j so_far ends = record {
  rounds = record { tracks = so_far.tracks; form = so_far.form; rounds = rounds-uncut (session_of script files) (marks_of j.rounds) (new_run (session_of script files)) j.rounds so_far.rounds ends };
  ends = ends;
}
