-- What a track's part of a turn makes of a track that isn't there yet or has a slot.
use Rattle.std.proofs.Common.{◌≡◌, ◌⊎◌, inl, inr, ℕ, Bool, true, false, if◌then◌else◌, is_some, List, [], ◌∷◌, Option, refl, sym, ap, ◌∙◌}
use Rattle.af_render_law.proofs.Common.{AllByRecursion, Case, CommandLook, Grew, Heard, Learnt, Life, Setup, TrackKept, after_look, after_looks, after_part, by_report, commanded, ended, goes_on, grew_command, grew_report, heard, is_absent, is_home, is_reached, is_reported, is_shut, must_wait, no, none_and, noted, obeyed, opened, opens, ready, reports, served, settled_at, shows_command, slot_reported, told, track_at}
use Rattle.af_base.specs.declared.report.SlotReport.{SlotReport}
use Rattle.af_life.specs.declared.track.Known.{Known}
use Rattle.af_life.specs.Commands.{Row, applies, commands, first_effect as command_effect, by_command}
use Rattle.af_life.specs.Obeys.{slot_for}
use Rattle.af_life.specs.Reports.{first_case_effect as report_effect}

-- a life that isn't there yet isn't in the mix
abbrev pub IsOut : Life → Type 0
IsOut l = is_absent l ≡ true → l.member ≡ false

-- the life hasn't ended, and the track isn't there yet or has a slot
pub record IsUnmixed (life : Life) (slot : Option ℕ) : Type 0 where
  pub lives : life.ended ≡ false
  pub apart : (is_absent life ≡ true) ⊎ (is_some slot ≡ true)

abbrev pub Unmixed : TrackKept → Type 0
Unmixed s = IsUnmixed s.life s.slot

-- ## Lives

either_out : (b : Bool) (l t : Life) → IsOut l → IsOut t → IsOut (if b then l else t)
either_out true l t g h = g
either_out false l t g h = h

by_row : (rows : List Row) (code argument : ℕ) (l : Life) → IsOut l → AllByRecursion (λ (r : Row). IsOut (r.effect argument l)) rows → IsOut (command_effect rows code argument l)
by_row [] code argument l h all = h
by_row (r ∷ rows) code argument l h all = either_out (applies r code l) (r.effect argument l) (command_effect rows code argument l) all.0 (by_row rows code argument l h all.1)

by_case : (cases : List Case) (known : Known) (l : Life) → IsOut l → AllByRecursion (λ (r : Case). IsOut (r.effect known l)) cases → IsOut (report_effect cases known l)
by_case [] known l h all = h
by_case (r ∷ cases) known l h all = either_out (r.applies known l) (r.effect known l) (report_effect cases known l) all.0 (by_case cases known l h all.1)

command_out : (code argument : ℕ) (l : Life) → IsOut l → IsOut (by_command code argument l)
unfolding by_command
command_out code argument l h = either_out l.ended l (command_effect commands code argument l) h (by_row commands code argument l h (no, (no, (no, (no, (no, (no, (no, (h, tt)))))))))

report_out : (known : Known) (l : Life) → IsOut l → IsOut (by_report known l)
unfolding by_report
report_out known l h = by_case reports known l h ((λ a. refl), ((λ a. refl), (no, (h, (no, (no, (no, ((λ a. none_and l.member _ (h a)), (h, ((λ a. refl), (h, tt)))))))))))

-- ## A track's part of the turn

-- the life went on, and the track has the slot that it had, or wasn't there
pub record Moves (s t : TrackKept) : Type 0 where
  pub life : Grew s.life t.life
  pub out : IsOut s.life → IsOut t.life
  pub slot : (t.slot ≡ s.slot) ⊎ (is_absent s.life ≡ true)

stays : (s t : TrackKept) → t.life ≡ s.life → t.slot ≡ s.slot → Moves s t
stays s t life slot = record {
  life = record { ended = λ h. ap (λ (l : Life). l.ended) life ∙ h; absent = λ h. sym (ap is_absent life) ∙ h };
  out = λ h a. ap (λ (l : Life). l.member) life ∙ h (sym (ap is_absent life) ∙ a);
  slot = inl slot;
}

moves_then : (s t u : TrackKept) → Moves s t → Moves t u → Moves s u
moves_then s t u g h = record {
  life = record { ended = λ e. h.life.ended (g.life.ended e); absent = λ e. g.life.absent (h.life.absent e) };
  out = λ o. h.out (g.out o);
  slot = by_slots g.slot h.slot;
}
  where
    by_slots : (t.slot ≡ s.slot) ⊎ (is_absent s.life ≡ true) → (u.slot ≡ t.slot) ⊎ (is_absent t.life ≡ true) → (u.slot ≡ s.slot) ⊎ (is_absent s.life ≡ true)
    by_slots (inl e) (inl f) = inl (f ∙ e)
    by_slots (inl e) (inr a) = inr (g.life.absent a)
    by_slots (inr a) x = inr a

either_moves : (b : Bool) (s t u : TrackKept) → Moves s t → Moves s u → Moves s (if b then t else u)
either_moves true s t u g h = g
either_moves false s t u g h = h

module _ (given : Option ℕ) where
  told_slot : (code argument : ℕ) (s : TrackKept) → ((told given code argument s).slot ≡ s.slot) ⊎ (is_absent s.life ≡ true)
  told_slot code argument s = by_open (opens code s.life) refl
    where
      by_open : (b : Bool) → opens code s.life ≡ b → ((if b then given else s.slot) ≡ s.slot) ⊎ (is_absent s.life ≡ true)
      by_open true e = inr (opened code argument s.life e).0
      by_open false e = inl refl

  moves_look : (flush_seen : ℕ) (look : CommandLook) (s : TrackKept) → Moves s (after_look given flush_seen look s)
  unfolding after_look obeyed
  moves_look flush_seen look s =
      let slot = told_slot look.code look.argument s in
      let life : Grew s.life (by_command look.code look.argument s.life) = grew_command look.code look.argument s.life in
      let out : IsOut s.life → IsOut (by_command look.code look.argument s.life) = command_out look.code look.argument s.life in
      either_moves (shows_command look.seen) s _ _
      (either_moves (must_wait flush_seen look.code look.argument s.life) s _ _ (record { life = life; out = out; slot = slot }) (record { life = life; out = out; slot = slot }))
      (either_moves (is_shut look.seen) s (ended s) s (record { life = record { ended = λ h. refl; absent = λ h. h }; out = λ o a. refl; slot = inl refl }) (stays s s refl refl))

  moves_looks : (flush_seen : ℕ) (looks : List CommandLook) (s : TrackKept) → Moves s (after_looks given flush_seen looks s)
  moves_looks flush_seen [] s = stays s s refl refl
  moves_looks flush_seen (look ∷ looks) s =
      let t : TrackKept = after_look given flush_seen look s in
      let one : Moves s t = moves_look flush_seen look s in
      either_moves (goes_on look t) s _ _ (moves_then s t _ one (moves_looks flush_seen looks t)) one

  moves_part : (h : Heard) (looks : List CommandLook) (s : TrackKept) → Moves s (after_part given h looks s)
  unfolding after_part
  moves_part h looks s =
      let t : TrackKept = commanded given h.flush_seen looks s in
      moves_then s t _ (either_moves (is_some s.awaits) s s _ (stays s s refl refl) (moves_looks h.flush_seen looks s)) (record { life = grew_report h.known t.life; out = report_out h.known t.life; slot = inl refl })

moves_ready : (k : Learnt) (i : ℕ) (s : TrackKept) → Moves s (ready k i s)
unfolding noted settled_at
moves_ready k i s =
    let r : SlotReport = slot_reported k s in
    let t : TrackKept = noted r s in
    moves_then s t _ (either_moves (is_home s.holder) s _ _ (stays s _ refl refl) (either_moves (is_reported r s) s _ _ (stays s _ refl refl) (stays s s refl refl)))
    (either_moves (is_reached (heard k i s).flush_seen t.awaits) t _ _ (stays t _ refl refl) (stays t t refl refl))

pub moves_served : (c : Setup) (k : Learnt) (looks : List CommandLook) (tracks : List TrackKept) (i : ℕ) → Moves (track_at tracks i) (served c k looks tracks i)
unfolding served
moves_served c k looks tracks i =
    let s : TrackKept = track_at tracks i in
    either_moves s.life.ended s s _ (stays s s refl refl) (moves_then s (ready k i s) _ (moves_ready k i s) (moves_part (slot_for c tracks i) (heard k i s) looks (ready k i s)))
