-- The rounds of a play are told one after the other: each is legal up to the last meetings of the streams.
use Rattle.std.proofs.Common.{◌≡◌, ◌⊎◌, ⊎_elim, ℕ, ◌<◌, ◌||◌, true, false, true≢false, List, [], ◌∷◌, refl, sym, subst, arith}
use Rattle.af_play_law.proofs.Common.{Deeds, IsMarkedRun, IsRoundMarked, Links, Marks, RoundSeen, Run, SawOwnBy, SawOwnOf, Session, SessionState, Shape, Tells, after_round, all_played, and_parts, either, takes_part, told_at, track_count}
use Rattle.af_session.specs.Rounds.{with_ends}
use Rattle.af_play_law.specs.PlayRuns.{PlayHolds, PlaysOn, RunIsTold, RunsAreTold, all_over, meets_from, sure_marks}
use Rattle.af_play_law.specs.RoundPlayed.{RoundPlayed}
use Rattle.af_play_law.proofs.Words.{HearsForeseen}
use Rattle.af_play_law.specs.Rounds.{RoundStands}
use Rattle.af_play_law.proofs.AfterTurn.{late_told}
use Rattle.af_play_law.proofs.CyclesTold.{SameShapes, go_none, go_then, saw_first}
use Rattle.af_play_law.proofs.Foreseen.{hears_foreseen}
use Rattle.af_play_law.proofs.GoingOn.{still_going}
use Rattle.af_play_law.proofs.RoundCycles.{may_called}
use Rattle.af_play_law.proofs.RoundLoaded.{told_loaded}
use Rattle.af_play_law.proofs.RoundMarked.{marked_after, marked_played}
use Rattle.af_play_law.proofs.RoundMet.{same_played, shapes_behind, small_played}
use Rattle.af_play_law.proofs.StandsAfter.{round_stands}

module _ (s : Session) (marks : Marks) where
  -- one round, and what follows it
  module _ (links : Links) (run : Run) (d : Deeds) (x u z t : SessionState) (bytes : List ℕ) (round : RoundSeen) (rounds : List RoundSeen) (holds : PlayHolds s marks run d x) (goes : all_over x ≡ false) (free : IsRoundMarked marks round.calls)
      (w : RoundPlayed links s x u z bytes round) (hears : HearsForeseen s run x u round) where
    abbrev played : Run
    played = all_played s run round

    abbrev after : Run
    after = after_round s run round

    pub told : RoundStands s run d round (with_ends z)
    told = round_stands links s run d x u z bytes round holds.stands w hears

    abbrev deeds : Deeds
    deeds = told.told.left.deeds

    abbrev late_deeds : Deeds
    late_deeds = (late_told links s run d x u z bytes round holds.stands w hears).deeds

    told_played : Tells s played late_deeds u
    told_played = told_loaded links s run d x u z bytes round holds.stands w hears

    marked_now : IsMarkedRun marks played
    marked_now = marked_played marks s run round free holds.marked holds.stands.told.count.0 played d late_deeds (record x { clients = u.clients }) u refl (may_called links s run d x u z bytes round holds.stands w).told told_played (small_played links s run d x u z bytes round holds.stands w hears)

    pub holds_after : PlayHolds s marks after deeds (with_ends z)
    holds_after = record {
      stands = told.stands;
      marked = marked_after marks s run round free holds.marked holds.stands.told.count.0 played d late_deeds (record x { clients = u.clients }) u refl (may_called links s run d x u z bytes round holds.stands w).told told_played (small_played links s run d x u z bytes round holds.stands w hears);
    }

    behind : SameShapes s played after
    behind = shapes_behind links s run d x u z bytes round holds.stands w hears

    since : SameShapes s run played
    since = same_played links s run d x u z bytes round holds.stands w hears

    module _ (rest : RunIsTold s marks after deeds rounds t) where
      -- the server of a stream that meets now or later saw its own fronts
      saw_stream : (i : ℕ) → i < track_count s → marks.streams i ≡ true → (takes_part s played i || meets_from s after rounds i) ≡ true → SawOwnOf (told_at played i).stream.shape (deeds.streams i)
      saw_stream i low on meets = ⊎_elim
          (λ (now : takes_part s played i ≡ true). told.told.streams i low now ((marked_now i (let m = since.after in omega (arith, low, m))).stream on))
          (λ (later : meets_from s after rounds i ≡ true). subst (λ (k : Shape). SawOwnOf k (deeds.streams i)) (behind.streams i low) (rest.saw i low on later))
          (either (takes_part s played i) (meets_from s after rounds i) meets)

      saw : SawOwnBy (sure_marks s marks run (round ∷ rounds)) played deeds
      saw = record {
        streams = (λ i low on.
            let here : i < track_count s = (let m = since.after in omega (arith, low, m)) in
            let both = and_parts (marks.streams i) (takes_part s played i || meets_from s after rounds i) on in
            saw_stream i here both.0 both.1);
        commands = (λ i low on. told.told.commands i (let m = since.after in omega (arith, low, m)) ((marked_now i low).commands on));
      }

      one_and : RunIsTold s marks run d (round ∷ rounds) t
      one_and = record {
        deeds = rest.deeds;
        goes = go_then d deeds rest.deeds told.told.left.goes rest.goes;
        holds = rest.holds;
        sure = (told.told.legal (sure_marks s marks run (round ∷ rounds)) (still_going s run d x holds.stands.told goes) saw, rest.sure);
        saw = (λ i low on meets.
            subst (λ (k : Shape). SawOwnOf k (d.streams i)) (since.streams i low)
            (saw_first (told_at played i).stream.shape (deeds.streams i) (d.streams i) (told.told.left.goes.streams i) (saw_stream i low on meets)));
      }

  run_told : (rounds : List RoundSeen) (run : Run) (d : Deeds) (x t : SessionState) → PlayHolds s marks run d x → PlaysOn s marks x rounds t → RunIsTold s marks run d rounds t
  run_told [] run d x t holds same = record { deeds = d; goes = go_none d; holds = subst (PlayHolds s marks run d) (sym same) holds; sure = tt; saw = (λ i low on meets. absurd (true≢false (sym meets))) }
  run_told (round ∷ rounds) run d x t holds (links, u, z, bytes, goes, free, w, rest) =
      let hears = hears_foreseen links s run d x u z bytes round holds.stands w holds.stands.carried in
      one_and links run d x u z t bytes round rounds holds goes free w hears
      (run_told rounds (after_round s run round) _ (with_ends z) t (holds_after links run d x u z t bytes round rounds holds goes free w hears) rest)

pub runs_told : (s : Session) → RunsAreTold s
runs_told s marks rounds run d x t holds on = run_told s marks rounds run d x t holds on
