-- What a legal round keeps of the normal mixer, and what its turn does if the draft says Exit after it.
use Rattle.std.proofs.Common.{◌≡◌, ℕ, Bool, true, false, if◌then◌else◌, nat_le, List, [], ◌∷◌, length, map, Option, Some, None, refl, sym, ap, ◌∙◌, subst, arith}
use Rattle.af_audit.proofs.Common.{Learnt, LegalRound, Marks, NormalKept, RoundSeen, Run, Session, Setup, TakeSeen, Turn, after_edits, after_round, asked, found_in, commands_exit, learnt, outside_of, pipe_size, setup_of, tracks_due}
use Rattle.af_audit.proofs.DoneTracks.{done_here}
use Rattle.af_audit.proofs.MixerEnds.{EndsHome, edited_ends, exit_room, turn_ends}
use Rattle.af_audit.proofs.MixerTurns.{mixer_after, round_normal, turn_legal}
use Rattle.af_audit.proofs.Older.{draft_ends, draft_goes}

module _ (cut : Bool) (s : Session) (marks : Marks) (run : Run) (round : RoundSeen) (legal : LegalRound cut s marks run round) (h : EndsHome run.normal) where
  abbrev c : Setup
  c = setup_of s

  turned_ends : (o : Option Turn) → round.turn ≡ o → EndsHome (mixer_after s run round o)
  turned_ends None is = h
  turned_ends (Some e) is =
      let t = turn_legal cut s marks run round legal e is in
      turn_ends c (learnt (outside_of c (found_in s run round e) e)) t.outside run.normal e t.legal h

  pub round_ends : EndsHome (after_round s run round).normal
  round_ends = subst EndsHome (sym (round_normal s run round)) (turned_ends round.turn refl)

  module _ (exit : commands_exit (after_round s run round).normal.draft ≡ true) where
    abbrev Exits : NormalKept → Type 0
    Exits m = commands_exit m.draft ≡ true

    -- if the round has no turn, the draft said Exit before the round
    pub said_without : round.turn ≡ None → Exits run.normal
    said_without none = subst Exits (round_normal s run round ∙ ap (mixer_after s run round) none) exit

    module _ (e : Turn) (is : round.turn ≡ Some e) where
      abbrev k : Learnt
      k = learnt (outside_of c (found_in s run round e) e)

      exits_turned : Exits (mixer_after s run round (Some e))
      exits_turned = subst Exits (round_normal s run round ∙ ap (mixer_after s run round) is) exit

      pub said_ended : e.ended ≡ true → Exits run.normal
      said_ended ended = sym (ap commands_exit (draft_ends c k run.normal e ended)) ∙ exits_turned

      module _ (runs : e.ended ≡ false) where
        edits_exit : Exits (after_edits c k e run.normal)
        edits_exit = sym (ap commands_exit (draft_goes c k run.normal e runs)) ∙ exits_turned

        -- if the draft didn't say Exit before the turn, the turn saw the whole room
        pub saw_room : commands_exit run.normal.draft ≡ false → e.room ≡ pipe_size c
        saw_room not_yet = exit_room c k run.normal e not_yet edits_exit

        -- a turn that goes on and leaves a draft that says Exit mixed nothing
        pub mixed_none : e.mixes ≡ []
        mixed_none =
            let t = turn_legal cut s marks run round legal e is in
            let same : learnt t.outside ≡ k = ap learnt t.found in
            let ends = edited_ends c k run.normal e h in
            let here = done_here (after_edits c k e run.normal).tracks (ends.over edits_exit) in
            no_takes e.mixes ((t.legal.goes_on runs).due ∙ ap (λ (k : Learnt). tracks_due c e.room (after_edits c k e run.normal).tracks) same ∙ ap (λ (l : List ℕ). if nat_le (asked c) e.room then l else []) here ∙ none_either (nat_le (asked c) e.room))
          where
            none_either : (b : Bool) → ◌≡◌ {A = List ℕ} (if b then [] else []) []
            none_either true = refl
            none_either false = refl

            no_takes : (takes : List TakeSeen) → map (λ (take : TakeSeen). take.track) takes ≡ [] → takes ≡ []
            no_takes [] is = refl
            no_takes (take ∷ takes) is = absurd (let n = ap length is in omega (arith, n))
