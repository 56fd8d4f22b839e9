-- What each command and each report makes of the way to a stop, case by case.
use Rattle.std.proofs.Common.{◌≡◌, ℕ, zero, suc, ◌<◌, ◌≤◌, Bool, true, false, if◌then◌else◌, true≢false, sym, refl, ap, ◌∙◌, ◌⊎◌, inl, inr, arith}
use Rattle.af_life.proofs.Common.{less_differs, nat_le, no, not}
use Rattle.std.specs.Prelude.{◌==◌, ◌&&◌}
use Rattle.af_life.specs.State.{is_among}
use Rattle.af_life.specs.declared.state.LifeState.{LifeState}
use Rattle.af_life.specs.declared.state.LifeState.TheVariants.{Absent, Active, Pausing, Paused, Resuming, Stopping1, Stopping2}
use Rattle.af_life.specs.declared.track.Known.{Known}
use Rattle.af_life.specs.declared.track.Life.{Life}
use Rattle.af_life.specs.Commands.{by_command, starts, commands, first_effect, opened, stoppable}
use Rattle.af_life.specs.Reports.{by_report}
use Rattle.af_life.specs.Drained.{stops}
use Rattle.af_life.proofs.Words.{is_stopping, is_at_rest}

pub record CommandEffect (stops starts : Bool) (argument : ℕ) (l t : Life) : Type 0 where
  pub stop : stops ≡ true → t.stop_at ≡ argument
  pub keep : stops ≡ false → t.stop_at ≡ l.stop_at
  pub drained : t.drained ≡ true → (starts ≡ false) × (l.drained ≡ true)
  pub stopping : stops ≡ false → is_stopping t ≡ true → (starts ≡ false) × (is_stopping l ≡ true)
  pub rests : t.drained ≡ true → is_at_rest l ≡ true → (stops ≡ false) × (is_at_rest t ≡ true)

pub record ReportEffect (known : Known) (l t : Life) : Type 0 where
  pub keep : t.stop_at ≡ l.stop_at
  pub stopping : is_stopping t ≡ true → is_stopping l ≡ true
  pub drained : t.drained ≡ true → (l.drained ≡ true) ⊎ ((is_stopping l ≡ true) × (l.stop_at ≤ known.consumed))
  pub rests : (l.drained ≡ true → is_at_rest l ≡ true) → t.drained ≡ true → is_at_rest t ≡ true

abbrev life_in : LifeState → Bool → Bool → Bool → ℕ → ℕ → Life
life_in state member ended drained retries stop_at = record { state = state; member = member; ended = ended; drained = drained; retries = retries; stop_at = stop_at }

-- ## A command

abbrev Told : ℕ → ℕ → Life → Type 0
Told code argument l = CommandEffect (stops code l) (starts code l) argument l (by_command code argument l)

unmoved : (stops starts : Bool) (argument : ℕ) (l t : Life) → stops ≡ false → starts ≡ false → t ≡ l → CommandEffect stops starts argument l t
unmoved stops starts argument l t s1 s2 e = record {
  stop = (λ h. absurd (true≢false (sym h ∙ s1)));
  keep = (λ h. ap (λ (x : Life). x.stop_at) e);
  drained = (λ h. (s2, sym (ap (λ (x : Life). x.drained) e) ∙ h));
  stopping = (λ g h. (s2, sym (ap is_stopping e) ∙ h));
  rests = (λ g h. (s1, ap is_at_rest e ∙ h));
}

far' : (k n : ℕ) → k < n → (n == k) ≡ false
far' k n h = grind arith

-- the table has no row for it
chain : (c1 c2 c3 c4 c5 c6 : Bool) → c1 ≡ false → c2 ≡ false → c3 ≡ false → c4 ≡ false → c5 ≡ false → c6 ≡ false → (l a b c d e f g h : Life) (x1 x2 x3 x4 x5 x6 x7 x8 : Bool)
    → (if c1 && x1 then a else if c2 && x2 then b else if c2 && x3 then c else if c3 && x4 then d else if c4 && x5 then e else if c4 && x6 then f else if c5 && x7 then g else if c6 && x8 then h else l) ≡ l
chain c1 c2 c3 c4 c5 c6 e1 e2 e3 e4 e5 e6 l a b c d e f g h x1 x2 x3 x4 x5 x6 x7 x8 = simp (e1, e2, e3, e4, e5, e6) refl

idle_code : (code argument : ℕ) (l : Life) → 6 < code → first_effect commands code argument l ≡ l
idle_code code argument l h = chain (1 == code) (2 == code) (3 == code) (4 == code) (5 == code) (6 == code) (less_differs 1 code (omega arith)) (less_differs 2 code (omega arith)) (less_differs 3 code (omega arith)) (less_differs 4 code (omega arith)) (less_differs 5 code (omega arith)) (less_differs 6 code h) l _ _ _ _ _ _ _ _ _ _ _ _ _ _ _ _

either_way : (b : Bool) (l t : Life) → t ≡ l → (if b then l else t) ≡ l
either_way true l t e = refl
either_way false l t e = e

no_row : (code argument : ℕ) (l : Life) → 6 < code → Told code argument l
unfolding by_command starts
no_row code argument l h = unmoved (stops code l) (starts code l) argument l (by_command code argument l)
    (ap (λ (b : Bool). b && (not l.ended && (l.member && is_among stoppable l.state))) (far' 4 code (omega arith)))
    (ap (λ (b : Bool). b && (not l.ended && is_among opened l.state)) (far' 2 code (omega arith)))
    (either_way l.ended l (first_effect commands code argument l) (idle_code code argument l h))

-- a life that has ended changes by no command
over : (code argument : ℕ) (l : Life) → l.ended ≡ true → Told code argument l
unfolding by_command starts
over code argument l h = unmoved (stops code l) (starts code l) argument l (by_command code argument l) (none (code == 4) (l.member && is_among stoppable l.state)) (none (code == 2) (is_among opened l.state))
    (ap (λ (b : Bool). if b then l else first_effect commands code argument l) h)
  where
    none : (b d : Bool) → (b && (not l.ended && d)) ≡ false
    none true d = ap (λ (e : Bool). not e && d) h
    none false d = refl

-- the commands by their codes, to a life that has not ended
module _ (argument : ℕ) where
  by_0 : (state : LifeState) (member drained : Bool) (retries stop_at : ℕ) → Told 0 argument (life_in state member false drained retries stop_at)
  unfolding by_command starts
  by_0 state member drained retries stop_at = unmoved false false argument (life_in state member false drained retries stop_at) _ refl refl refl

  by_1 : (state : LifeState) (member drained : Bool) (retries stop_at : ℕ) → Told 1 argument (life_in state member false drained retries stop_at)
  unfolding by_command starts
  by_1 Absent member drained retries stop_at = record { stop = no; keep = (λ h. refl); drained = (λ h. (refl, h)); stopping = (λ g. no); rests = (λ g. no) }
  by_1 state member drained retries stop_at = unmoved false false argument (life_in state member false drained retries stop_at) _ refl refl refl

  by_2 : (state : LifeState) (member drained : Bool) (retries stop_at : ℕ) → Told 2 argument (life_in state member false drained retries stop_at)
  unfolding by_command starts
  by_2 Absent member drained retries stop_at = unmoved false false argument (life_in Absent member false drained retries stop_at) _ refl refl refl
  by_2 state member drained retries stop_at = record { stop = no; keep = (λ h. refl); drained = no; stopping = (λ g. no); rests = no }

  by_3 : (state : LifeState) (member drained : Bool) (retries stop_at : ℕ) → Told 3 argument (life_in state member false drained retries stop_at)
  unfolding by_command starts
  by_3 Active member drained retries stop_at = record { stop = no; keep = (λ h. refl); drained = (λ h. (refl, h)); stopping = (λ g. no); rests = (λ g. no) }
  by_3 Resuming member drained retries stop_at = record { stop = no; keep = (λ h. refl); drained = (λ h. (refl, h)); stopping = (λ g. no); rests = (λ g. no) }
  by_3 state member drained retries stop_at = unmoved false false argument (life_in state member false drained retries stop_at) _ refl refl refl

  -- a stop of a member, and of a track that isn't in the mix
  by_4 : (state : LifeState) (member drained : Bool) (retries stop_at : ℕ) → Told 4 argument (life_in state member false drained retries stop_at)
  unfolding by_command starts
  by_4 Active true drained retries stop_at = record { stop = (λ h. refl); keep = (λ h. absurd (true≢false h)); drained = (λ h. (refl, h)); stopping = (λ g. absurd (true≢false g)); rests = (λ g. no) }
  by_4 Resuming true drained retries stop_at = record { stop = (λ h. refl); keep = (λ h. absurd (true≢false h)); drained = (λ h. (refl, h)); stopping = (λ g. absurd (true≢false g)); rests = (λ g. no) }
  by_4 Pausing true drained retries stop_at = record { stop = (λ h. refl); keep = (λ h. absurd (true≢false h)); drained = (λ h. (refl, h)); stopping = (λ g. absurd (true≢false g)); rests = (λ g. no) }
  by_4 Paused true drained retries stop_at = record { stop = (λ h. refl); keep = (λ h. absurd (true≢false h)); drained = (λ h. (refl, h)); stopping = (λ g. absurd (true≢false g)); rests = (λ g. no) }
  by_4 Active false drained retries stop_at = record { stop = no; keep = (λ h. refl); drained = (λ h. (refl, h)); stopping = (λ g. no); rests = (λ g. no) }
  by_4 Resuming false drained retries stop_at = record { stop = no; keep = (λ h. refl); drained = (λ h. (refl, h)); stopping = (λ g. no); rests = (λ g. no) }
  by_4 Pausing false drained retries stop_at = record { stop = no; keep = (λ h. refl); drained = (λ h. (refl, h)); stopping = (λ g. no); rests = (λ g. no) }
  by_4 Paused false drained retries stop_at = record { stop = no; keep = (λ h. refl); drained = (λ h. (refl, h)); stopping = (λ g. no); rests = (λ g. no) }
  by_4 state true drained retries stop_at = unmoved false false argument (life_in state true false drained retries stop_at) _ refl refl refl
  by_4 state false drained retries stop_at = unmoved false false argument (life_in state false false drained retries stop_at) _ refl refl refl

  by_5 : (state : LifeState) (member drained : Bool) (retries stop_at : ℕ) → Told 5 argument (life_in state member false drained retries stop_at)
  unfolding by_command starts
  by_5 Absent member drained retries stop_at = unmoved false false argument (life_in Absent member false drained retries stop_at) _ refl refl refl
  by_5 Active member drained retries stop_at = unmoved false false argument (life_in Active member false drained retries stop_at) _ refl refl refl
  by_5 Resuming member drained retries stop_at = unmoved false false argument (life_in Resuming member false drained retries stop_at) _ refl refl refl
  by_5 state member drained retries stop_at = record { stop = no; keep = (λ h. refl); drained = (λ h. (refl, h)); stopping = (λ g. no); rests = (λ g h. (refl, refl)) }

  by_6 : (state : LifeState) (member drained : Bool) (retries stop_at : ℕ) → Told 6 argument (life_in state member false drained retries stop_at)
  unfolding by_command starts
  by_6 Absent member drained retries stop_at = record { stop = no; keep = (λ h. refl); drained = (λ h. (refl, h)); stopping = (λ g h. (refl, h)); rests = (λ g h. (refl, h)) }
  by_6 state member drained retries stop_at = record { stop = no; keep = (λ h. refl); drained = (λ h. (refl, h)); stopping = (λ g h. (refl, h)); rests = (λ g h. (refl, h)) }

  by_code : (code : ℕ) (state : LifeState) (member drained : Bool) (retries stop_at : ℕ) → Told code argument (life_in state member false drained retries stop_at)
  by_code zero = by_0
  by_code (suc zero) = by_1
  by_code (suc (suc zero)) = by_2
  by_code (suc (suc (suc zero))) = by_3
  by_code (suc (suc (suc (suc zero)))) = by_4
  by_code (suc (suc (suc (suc (suc zero))))) = by_5
  by_code (suc (suc (suc (suc (suc (suc zero)))))) = by_6
  by_code (suc (suc (suc (suc (suc (suc (suc n))))))) = λ state member drained retries stop_at. no_row (suc (suc (suc (suc (suc (suc (suc n))))))) argument (life_in state member false drained retries stop_at) (omega arith)

by_end : (code argument : ℕ) (ended : Bool) (state : LifeState) (member drained : Bool) (retries stop_at : ℕ) → Told code argument (life_in state member ended drained retries stop_at)
by_end code argument true state member drained retries stop_at = over code argument (life_in state member true drained retries stop_at) refl
by_end code argument false state member drained retries stop_at = by_code argument code state member drained retries stop_at

pub command_effect : (code argument : ℕ) (l : Life) → CommandEffect (stops code l) (starts code l) argument l (by_command code argument l)
command_effect code argument l = by_end code argument l.ended l.state l.member l.drained l.retries l.stop_at

-- ## A report

stopping_case : (known : Known) (member drained : Bool) (retries stop_at : ℕ) (b : Bool) → nat_le stop_at known.consumed ≡ b → let l = life_in Stopping1 member false drained retries stop_at in
    ReportEffect known l (if b then life_in Stopping2 member false true retries stop_at else l)
stopping_case known member drained retries stop_at true e = record { keep = refl; stopping = no; drained = (λ h. inr (refl, grind arith)); rests = (λ g h. refl) }
stopping_case known member drained retries stop_at false e = record { keep = refl; stopping = (λ h. h); drained = (λ h. inl h); rests = (λ g h. g h) }

-- by whether the stream was shut and the life has ended, and else by its state
of_report : (known : Known) (shut ended : Bool) (state : LifeState) (member drained : Bool) (retries stop_at : ℕ)
    → ReportEffect known (life_in state member ended drained retries stop_at) (by_report (record known { shut = shut }) (life_in state member ended drained retries stop_at))
unfolding by_report
of_report known true ended state member drained retries stop_at = record { keep = refl; stopping = (λ h. h); drained = (λ h. inl h); rests = (λ g h. g h) }
of_report known false true state member drained retries stop_at = record { keep = refl; stopping = (λ h. h); drained = (λ h. inl h); rests = (λ g h. g h) }
of_report known false false Stopping1 member drained retries stop_at = stopping_case known member drained retries stop_at (nat_le stop_at known.consumed) refl
of_report known false false Stopping2 member drained retries stop_at = record { keep = refl; stopping = no; drained = (λ h. inl h); rests = (λ g h. refl) }
of_report known false false Pausing member drained retries stop_at = record { keep = refl; stopping = no; drained = (λ h. inl h); rests = (λ g h. no (g h)) }
of_report known false false Resuming member drained retries stop_at = record { keep = refl; stopping = no; drained = (λ h. inl h); rests = (λ g h. no (g h)) }
of_report known false false Active true drained retries stop_at = record { keep = refl; stopping = no; drained = (λ h. inl h); rests = (λ g h. no (g h)) }
of_report known false false Active false drained retries stop_at = record { keep = refl; stopping = no; drained = (λ h. inl h); rests = (λ g h. no (g h)) }
of_report known false false state member drained retries stop_at = record { keep = refl; stopping = (λ h. h); drained = (λ h. inl h); rests = (λ g h. g h) }

pub report_effect : (known : Known) (l : Life) → ReportEffect known l (by_report known l)
report_effect known l = of_report known known.shut l.ended l.state l.member l.drained l.retries l.stop_at
