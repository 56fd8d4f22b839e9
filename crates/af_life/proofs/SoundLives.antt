-- What a track's part of a turn changes of its life and of its slot.
use Rattle.std.proofs.Common.{◌≡◌, ℕ, ◌==◌, ◌⊎◌, Bool, true, false, if◌then◌else◌, true≢false, is_some, sym, refl, ap, ◌∙◌, inl, inr, List, [], ◌∷◌, Option}
use Rattle.af_life.proofs.Common.{AllByRecursion, CommandLook, SlotReport, equal_turned, never_true, no}
use Rattle.af_life.proofs.Basics.{all_three, picks}
use Rattle.af_life.specs.Heard.{heard, is_reached, is_reported, noted, ready, settled_at, slot_reported}
use Rattle.af_life.specs.Kept.{Learnt, Setup, is_home, track_at}
use Rattle.af_life.specs.Obeys.{after_looks, commanded, ended, goes_on, is_shut, must_wait, obeyed, opens, shows_command, slot_for, told, after_look}
use Rattle.af_life.specs.Reports.{Case, by_report, reports, first_case_effect as report_effect}
use Rattle.af_life.specs.Serves.{after_part, served}
use Rattle.af_life.specs.declared.kept.Heard.{Heard}
use Rattle.af_life.specs.declared.kept.TrackKept.{TrackKept}
use Rattle.af_life.specs.declared.track.Known.{Known}
use Rattle.af_life.specs.declared.track.Life.{Life}
use Rattle.af_life.specs.declared.state.LifeState.TheVariants.{Absent}
use Rattle.af_life.specs.State.{is_among}
use Rattle.af_life.specs.Commands.{Row, applies, commands, first_effect as command_effect, by_command}

-- ## Lives

-- the life is not there yet
abbrev pub is_absent : Life → Bool
is_absent l = is_among (Absent ∷ []) l.state

-- a life that has ended stays so, and one that was there is never absent again
pub record Grew (l t : Life) : Type 0 where
  pub ended : l.ended ≡ true → t.ended ≡ true
  pub absent : is_absent t ≡ true → is_absent l ≡ true

same : (l : Life) → Grew l l
same l = record { ended = (λ h. h); absent = (λ h. h) }

either : (b : Bool) (l t u : Life) → Grew l t → Grew l u → Grew l (if b then t else u)
either true l t u g h = g
either false l t u g h = h

-- a life grows by the first row that applies
by_row : (rows : List Row) (code argument : ℕ) (l : Life) → AllByRecursion (λ (r : Row). Grew l (r.effect argument l)) rows → Grew l (command_effect rows code argument l)
by_row [] code argument l all = same l
by_row (r ∷ rows) code argument l all = either (applies r code l) l (r.effect argument l) (command_effect rows code argument l) all.0 (by_row rows code argument l all.1)

by_case : (cases : List Case) (known : Known) (l : Life) → AllByRecursion (λ (r : Case). Grew l (r.effect known l)) cases → Grew l (report_effect cases known l)
by_case [] known l all = same l
by_case (r ∷ cases) known l all = either (r.applies known l) l (r.effect known l) (report_effect cases known l) all.0 (by_case cases known l all.1)

pub grew_command : (code argument : ℕ) (l : Life) → Grew l (by_command code argument l)
unfolding by_command
grew_command code argument l = either l.ended l l (command_effect commands code argument l) (same l) (by_row commands code argument l (
  record { ended = (λ h. h); absent = no },
  (
    record { ended = (λ h. h); absent = no },
    (
      record { ended = (λ h. h); absent = no },
      (
        record { ended = (λ h. h); absent = no },
        (
          record { ended = (λ h. h); absent = no },
          (
            record { ended = (λ h. h); absent = no },
            (
              record { ended = (λ h. h); absent = no },
              (record { ended = (λ h. refl); absent = (λ h. h) }, tt),
            ),
          ),
        ),
      ),
    ),
  ),
))

pub grew_report : (known : Known) (l : Life) → Grew l (by_report known l)
unfolding by_report
grew_report known l = by_case reports known l (
  record { ended = (λ h. refl); absent = (λ h. h) },
  (
    record { ended = (λ h. h); absent = (λ h. h) },
    (
      record { ended = (λ h. h); absent = no },
      (
        same l,
        (
          record { ended = (λ h. h); absent = no },
          (
            record { ended = (λ h. h); absent = no },
            (
              record { ended = (λ h. h); absent = no },
              (
                record { ended = (λ h. h); absent = (λ h. h) },
                (
                  same l,
                  (
                    record { ended = (λ h. h); absent = (λ h. h) },
                    (same l, tt),
                  ),
                ),
              ),
            ),
          ),
        ),
      ),
    ),
  ),
)

-- an OPEN of a life that is not there yet: it is there then
pub opened : (code argument : ℕ) (l : Life) → opens code l ≡ true → (is_absent l ≡ true) × (is_absent (by_command code argument l) ≡ false)
unfolding by_command
opened code argument l e = let parts = all_three (code == 1) l.ended (is_absent l) e in
    (parts.2, ap is_absent (picks l.ended (1 == code) (is_absent l) l _ _ parts.1 (equal_turned code 1 parts.0) parts.2))

-- ## Tracks

-- before its OPEN a track has no slot
abbrev pub Unopened : TrackKept → Type 0
Unopened s = is_absent s.life ≡ true → is_some s.slot ≡ false

-- a track that had no slot has the one that was given, and is there
abbrev pub IsGiven : Option ℕ → TrackKept → TrackKept → Type 0
IsGiven given s t = (is_some s.slot ≡ false) × (t.slot ≡ given) × (is_absent t.life ≡ false)

-- the proxy of a track is where it was, and the track keeps its slot or gets the one given
pub record Goes (given : Option ℕ) (s t : TrackKept) : Type 0 where
  pub holder : t.holder ≡ s.holder
  pub generation : t.generation ≡ s.generation
  pub life : Grew s.life t.life
  pub slot : (t.slot ≡ s.slot) ⊎ IsGiven given s t

module _ (given : Option ℕ) where
  pub still_unopened : (s t : TrackKept) → Goes given s t → Unopened s → Unopened t
  still_unopened s t g u h = elim g.slot as (λ x. is_some t.slot ≡ false) [
    | inl e ↦ ap is_some e ∙ u (g.life.absent h)
    | inr i ↦ absurd (true≢false (sym h ∙ i.2))
  ]

  pub goes_same : (s : TrackKept) → Goes given s s
  goes_same s = record { holder = refl; generation = refl; life = same s.life; slot = inl refl }

  pub goes_then : (s t u : TrackKept) → Goes given s t → Goes given t u → Goes given s u
  goes_then s t u g h = record {
    holder = h.holder ∙ g.holder;
    generation = h.generation ∙ g.generation;
    life = record { ended = (λ e. h.life.ended (g.life.ended e)); absent = (λ e. g.life.absent (h.life.absent e)) };
    slot = elim g.slot as (λ x. (u.slot ≡ s.slot) ⊎ IsGiven given s u) [
      | inl e ↦ elim h.slot as (λ x. (u.slot ≡ s.slot) ⊎ IsGiven given s u) [
        | inl f ↦ inl (f ∙ e)
        | inr j ↦ inr (ap is_some (sym e) ∙ j.0, j.1, j.2)
      ]
      | inr i ↦ elim h.slot as (λ x. (u.slot ≡ s.slot) ⊎ IsGiven given s u) [
        | inl f ↦ inr (i.0, f ∙ i.1, never_true (is_absent u.life) (λ a. true≢false (sym (h.life.absent a) ∙ i.2)))
        | inr j ↦ inr (i.0, j.1, j.2)
      ]
    ];
  }

  either_goes : (b : Bool) (s t u : TrackKept) → Goes given s t → Goes given s u → Goes given s (if b then t else u)
  either_goes true s t u g h = g
  either_goes false s t u g h = h

  told_slot : (code argument : ℕ) (s : TrackKept) → Unopened s → ((told given code argument s).slot ≡ s.slot) ⊎ IsGiven given s (told given code argument s)
  told_slot code argument s u = by_open (opens code s.life) refl
    where
      by_open : (b : Bool) → opens code s.life ≡ b → ((if b then given else s.slot) ≡ s.slot) ⊎ ((is_some s.slot ≡ false) × ((if b then given else s.slot) ≡ given) × (is_absent (by_command code argument s.life) ≡ false))
      by_open true e = let o = opened code argument s.life e in inr (u o.0, refl, o.1)
      by_open false e = inl refl

  goes_look : (flush_seen : ℕ) (look : CommandLook) (s : TrackKept) → Unopened s → Goes given s (after_look given flush_seen look s)
  unfolding after_look obeyed
  goes_look flush_seen look s u =
      let slot = told_slot look.code look.argument s u in
      let life : Grew s.life (by_command look.code look.argument s.life) = grew_command look.code look.argument s.life in
      either_goes (shows_command look.seen) s _ _
      (either_goes (must_wait flush_seen look.code look.argument s.life) s _ _ (record { holder = refl; generation = refl; life = life; slot = slot }) (record { holder = refl; generation = refl; life = life; slot = slot }))
      (either_goes (is_shut look.seen) s (ended s) s (record { holder = refl; generation = refl; life = record { ended = (λ h. refl); absent = (λ h. h) }; slot = inl refl }) (goes_same s))

  goes_looks : (flush_seen : ℕ) (looks : List CommandLook) (s : TrackKept) → Unopened s → Goes given s (after_looks given flush_seen looks s)
  goes_looks flush_seen [] s u = goes_same s
  goes_looks flush_seen (look ∷ looks) s u = let t : TrackKept = after_look given flush_seen look s in
      let one : Goes given s t = goes_look flush_seen look s u in
      either_goes (goes_on look t) s _ _ (goes_then s t _ one (goes_looks flush_seen looks t (still_unopened s t one u))) one

  -- a track's part of the turn leaves its proxy and its slot so
  pub goes_part : (h : Heard) (looks : List CommandLook) (s : TrackKept) → Unopened s → Goes given s (after_part given h looks s)
  unfolding after_part
  goes_part h looks s u =
      let t : TrackKept = commanded given h.flush_seen looks s in
      let one : Goes given s t = either_goes (is_some s.awaits) s s _ (goes_same s) (goes_looks h.flush_seen looks s u) in
      goes_then s t _ one (record { holder = refl; generation = refl; life = grew_report h.known t.life; slot = inl refl })

  -- what was heard is noted
  pub goes_ready : (k : Learnt) (i : ℕ) (s : TrackKept) → Goes given s (ready k i s)
  unfolding noted settled_at
  goes_ready k i s =
      let r : SlotReport = slot_reported k s in
      let t : TrackKept = noted r s in
      let one : Goes given s t = either_goes (is_home s.holder) s _ _ (record { holder = refl; generation = refl; life = same s.life; slot = inl refl })
      (either_goes (is_reported r s) s _ _ (record { holder = refl; generation = refl; life = same s.life; slot = inl refl }) (goes_same s)) in
      goes_then s t _ one (either_goes (is_reached (heard k i s).flush_seen t.awaits) t _ _ (record { holder = refl; generation = refl; life = same t.life; slot = inl refl }) (goes_same t))

-- the track i, once those before it were served
pub goes_served : (c : Setup) (k : Learnt) (looks : List CommandLook) (tracks : List TrackKept) (i : ℕ) → Unopened (track_at tracks i) → Goes (slot_for c tracks i) (track_at tracks i) (served c k looks tracks i)
unfolding served
goes_served c k looks tracks i u =
    let s : TrackKept = track_at tracks i in
    let given : Option ℕ = slot_for c tracks i in
    let one : Goes given s (ready k i s) = goes_ready given k i s in
    either_goes given s.life.ended s s _ (goes_same given s) (goes_then given s (ready k i s) _ one (goes_part given (heard k i s) looks (ready k i s) (still_unopened given s (ready k i s) one u)))
