-- A track is served exactly if its parts are right.
use Rattle.std.proofs.Common.{◌≡◌, ◌↔◌, ℕ, Bool, true, false, MatchBool, IsTrue, sym, refl, ap, ◌∙◌, subst, List, Option}
use Rattle.af_judge.proofs.Common.{CommandLook, HasDueLooks, Heard, IsServed, Learnt, LegalTrack, Setup, TrackKept, TrackSeen, after_commands, after_part, heard, nothing_seen, ready, served, slot_for, status_due, stored_over, told_by_report, track_at}

-- the status of a track after its part of the turn is the one that is due
part_status : (given : Option ℕ) (h : Heard) (looks : List CommandLook) (s : TrackKept) → (after_part given h looks s).status ≡ status_due given h looks s
unfolding after_part
part_status given h looks s = refl

-- `word` is the status after its part of the turn
pub served_by : (given : Option ℕ) (h : Heard) (seen : TrackSeen) (s : TrackKept) (word : ℕ) (due told stored : Bool) → (IsTrue due ↔ HasDueLooks given h.flush_seen seen.looks s) → due ≡ true
    → seen.disabled ≡ told → told ≡ told_by_report h.known (after_commands given h seen.looks s).life → word ≡ (after_part given h seen.looks s).status
    → (IsTrue stored ↔ (seen.status ≡ stored_over s.status word)) → (IsTrue stored ↔ IsServed given h seen s)
served_by given h seen s word due told stored looks is_due disabled is_told is_word status =
    let last : word ≡ status_due given h seen.looks s = is_word ∙ part_status given h seen.looks s in
    let over : stored_over s.status word ≡ stored_over s.status (status_due given h seen.looks s) = ap (stored_over s.status) last in (
      (λ (t : IsTrue stored). record { looks = looks.0 is_due; disabled = disabled ∙ is_told; status = status.0 t ∙ over }),
      (λ (x : IsServed given h seen s). status.1 (x.status ∙ sym over)),
    )

-- a track that hasn't ended is to be served
pub living : (c : Setup) (k : Learnt) (seen : TrackSeen) (tracks : List TrackKept) (i : ℕ) (given : Option ℕ) (h : Heard) (s : TrackKept) (r : Bool)
    → (track_at tracks i).life.ended ≡ false → given ≡ slot_for c tracks i → h ≡ heard k i (track_at tracks i) → s ≡ ready k i (track_at tracks i)
    → (IsTrue r ↔ IsServed given h seen s) → (IsTrue r ↔ LegalTrack c k seen tracks i)
living c k seen tracks i given h s r ended is_given is_heard is_ready served =
    subst (λ (b : Bool). IsTrue r ↔ MatchBool b (seen ≡ nothing_seen) (IsServed (slot_for c tracks i) (heard k i (track_at tracks i)) seen (ready k i (track_at tracks i)))) (sym ended)
    (subst (λ (t : TrackKept). IsTrue r ↔ IsServed (slot_for c tracks i) (heard k i (track_at tracks i)) seen t) is_ready
    (subst (λ (x : Heard). IsTrue r ↔ IsServed (slot_for c tracks i) x seen s) is_heard (subst (λ (g : Option ℕ). IsTrue r ↔ IsServed g h seen s) is_given served)))
