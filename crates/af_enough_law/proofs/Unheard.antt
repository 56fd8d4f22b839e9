-- A turn that leaves no track to be heard puts nothing into the pipe.
use Rattle.std.proofs.Common.{◌≡◌, ℕ, zero, suc, ◌||◌, not, nat_le, Bool, true, false, List, [], ◌∷◌, length, map, filter, is_some, if◌then◌else◌, refl, sym, ap, ◌∙◌, arith}
use Rattle.af_enough_law.proofs.Common.{Learnt, Marks, NormalKept, RoundSeen, Run, Session, Setup, TakeSeen, TrackKept, Turn, after_edits, after_round, and_none, asked as buffer, is_mixed_here, learnt, list_any, mixed_here, neither, plays, put_by, range_with_len, setup_of, track_at, tracks_due, turn_after}
use Rattle.af_judge.proofs.NormalKept.{goes_on_so}
use Rattle.af_judge.proofs.TurnEdits.{due_after}
use Rattle.af_enough_law.proofs.Ends.{AllOver, silent}
use Rattle.af_enough_law.proofs.NormalRounds.{TurnMade}
use Rattle.af_enough_law.proofs.PipeFlows.{put_in}

-- some track is to be heard
abbrev pub some_heard : List TrackKept → Bool
some_heard tracks = list_any (λ (s : TrackKept). plays s.life) tracks

-- ## Tracks

unheard_at : (tracks : List TrackKept) (i : ℕ) → some_heard tracks ≡ false → plays (track_at tracks i).life ≡ false
unheard_at [] i none = refl
unheard_at (s ∷ tracks) zero none = (neither (plays s.life) (some_heard tracks) none).0
unheard_at (s ∷ tracks) (suc i) none = unheard_at tracks i (neither (plays s.life) (some_heard tracks) none).1

-- if every life has ended, none is to be heard
pub over_unheard : (tracks : List TrackKept) → AllOver tracks → some_heard tracks ≡ false
over_unheard [] over = refl
over_unheard (s ∷ tracks) over = ap (λ (b : Bool). b || some_heard tracks) (silent s.life (over 0 (omega arith))) ∙ over_unheard tracks (λ i lt. over (suc i) (omega (arith, lt)))

-- ## What is put

none_of : (p : ℕ → Bool) (xs : List ℕ) → ((i : ℕ) → p i ≡ false) → filter p xs ≡ []
none_of p [] h = refl
none_of p (x ∷ xs) h = ap (λ (b : Bool). if b then x ∷ filter p xs else filter p xs) (h x) ∙ none_of p xs h

no_takes : (takes : List TakeSeen) → map (λ (take : TakeSeen). take.track) takes ≡ [] → takes ≡ []
no_takes [] is = refl
no_takes (take ∷ takes) is = let n : suc (length (map (λ (take : TakeSeen). take.track) takes)) ≡ 0 = ap length is in absurd (let z : ⊥ = omega (arith, n) in z)

same_list : (l : List ℕ) (b : Bool) → (if b then l else l) ≡ l
same_list l true = refl
same_list l false = refl

unheard_due : (c : Setup) (k : Learnt) (m : NormalKept) (e : Turn) → e.ended ≡ false → some_heard (turn_after c k m e).tracks ≡ false → tracks_due c e.room (after_edits c k e m).tracks ≡ []
unheard_due c k m e runs none = ap (λ (l : List ℕ). if nat_le (buffer c) e.room then l else []) (sym same ∙ here) ∙ same_list [] (nat_le (buffer c) e.room)
  where
    tracks : List TrackKept
    tracks = (turn_after c k m e).tracks

    same : mixed_here tracks ≡ mixed_here (after_edits c k e m).tracks
    same = ap (λ (x : NormalKept). mixed_here x.tracks) (goes_on_so c k m e runs) ∙ due_after (buffer c) e.mixes e.push (after_edits c k e m)

    here : mixed_here tracks ≡ []
    here = none_of (λ i. is_mixed_here (track_at tracks i)) (range_with_len 0 (length tracks)) (λ i. and_none (not (is_some (track_at tracks i).slot)) (plays (track_at tracks i).life) (unheard_at tracks i none))

-- a turn that leaves no track to be heard puts nothing
pub unheard_puts : (s : Session) (marks : Marks) (run : Run) (round : RoundSeen) (t : TurnMade s marks run round) → (t.turn.ended ≡ false → some_heard (after_round s run round).normal.tracks ≡ false) → put_in s round.turn ≡ 0
unheard_puts s marks run round t none = ap (put_in s) t.is ∙ by t.turn.ended refl
  where
    by : (b : Bool) → t.turn.ended ≡ b → (if t.turn.ended then 0 else length (put_by (setup_of s) t.turn.mixes)) ≡ 0
    by true is = ap (λ (b : Bool). if b then 0 else length (put_by (setup_of s) t.turn.mixes)) is
    by false is =
        let goes = t.by.legal.goes_on is in
        let unheard = ap (λ (m : NormalKept). some_heard m.tracks) (sym t.after) ∙ none is in
        let takes : t.turn.mixes ≡ [] = no_takes t.turn.mixes (goes.due ∙ unheard_due (setup_of s) (learnt t.by.outside) run.normal t.turn is unheard) in
        ap (λ (b : Bool). if b then 0 else length (put_by (setup_of s) t.turn.mixes)) is ∙ ap (λ l. length (put_by (setup_of s) l)) takes
