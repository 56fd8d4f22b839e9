-- A track settles its commands in order, and a START only once its flush count was heard to be seen.
use Rattle.std.proofs.Common.{◌≡◌, ◌⊎◌, inl, inr, ℕ, zero, suc, ◌+◌, ◌≤◌, ◌==◌, ◌&&◌, not, Bool, true, false, true≢false, if◌then◌else◌, is_some, List, [], ◌∷◌, ◌++◌, length, Option, Some, None, refl, sym, ap, ◌∙◌, subst, append-nil, append_assoc, eqb-true, eq-eqb, length-append, arith}
use Rattle.af_audit.proofs.Common.{Absent, AllByRecursion, CommandLook, HasDueLooks, Heard, Learnt, Life, LifeState, MatchBool, OPEN, REMOVE, Row, START, Setup, SlotReport, TrackKept, after_look, after_looks, after_part, applies, are_due, both_first, by_command, commands, counts_in, ended, first_effect, goes_on, grew_command, grew_report, heard, is_absent, is_home, is_reached, is_reported, is_shut, most_looks, must_wait, nat_le, nat_lt, nat_tests, never_true, no, no_counts, none_of, not_below_is, noted, obeyed, opened as opened_life, opens, ready, ready_life, served, settled_at, shows_command, slot_reported, starts, status_due, track_at, words_taken}
use Rattle.af_life.specs.declared.track.Known.{Known}
use Rattle.af_life.specs.Commands.{opened}
use Rattle.af_life.specs.Obeys.{commanded, slot_for, told}
use Rattle.af_life.specs.Reports.{by_report}
use Rattle.af_life.specs.State.{is_among}
use Rattle.af_audit.proofs.StartWords.{IsOrderly, NoneRemoves, OpensFirst, StartsSeen, none_before, none_split, orderly_front, seen_join, words_join, words_of}
use Rattle.af_audit.proofs.StepsTaken.{look_words, no_more}

-- ## What is settled

-- the command that waits
abbrev pub waiting : Option ℕ → List (ℕ × ℕ)
waiting None = []
waiting (Some count) = (START, count) ∷ []

-- the STARTs among the commands settled were seen, and a life that isn't there yet has settled none
pub record Stands (most : ℕ) (done : List (ℕ × ℕ)) (life : Life) : Type 0 where
  pub seen : StartsSeen most done
  pub none : is_absent life ≡ true → done ≡ []

-- the words taken are those of the commands settled and of the one that waits; at least so many are settled
pub record SettledCore (most least : ℕ) (taken : List ℕ) (awaits : Option ℕ) (settled : ℕ) (life : Life) : Type 0 where
  pub done : List (ℕ × ℕ)
  pub taken_are : taken ≡ words_of (done ++ waiting awaits)
  pub many : settled ≡ length done
  pub up : least ≤ settled
  pub stands : IsOrderly (done ++ waiting awaits) → Stands most done life

abbrev pub SettledSo : (most least : ℕ) → List ℕ → TrackKept → Type 0
SettledSo most least taken s = SettledCore most least taken s.awaits s.settled s.life

-- ## Lives

keeps_row : (rows : List Row) (code argument : ℕ) (l : Life) → AllByRecursion (λ (r : Row). ((r.command == code) ≡ false) ⊎ ((r.effect argument l).ended ≡ l.ended)) rows → (first_effect rows code argument l).ended ≡ l.ended
keeps_row [] code argument l all = refl
keeps_row (r ∷ rows) code argument l all = by (applies r code l) refl all.0 (keeps_row rows code argument l all.1)
  where
    by : (b : Bool) → applies r code l ≡ b → ((r.command == code) ≡ false) ⊎ ((r.effect argument l).ended ≡ l.ended) → (first_effect rows code argument l).ended ≡ l.ended → (if b then r.effect argument l else first_effect rows code argument l).ended ≡ l.ended
    by false is h rest = rest
    by true is (inl apart) rest = no (sym apart ∙ both_first (r.command == code) _ is)
    by true is (inr same) rest = same

turned : (n k : ℕ) → (n == k) ≡ false → (k == n) ≡ false
turned n k e = grind arith

-- only a REMOVE ends a life
lives_on : (code argument : ℕ) (l : Life) → (code == REMOVE) ≡ false → l.ended ≡ false → (by_command code argument l).ended ≡ false
unfolding by_command
lives_on code argument l apart lives = by l.ended refl
  where
    rows : (first_effect commands code argument l).ended ≡ l.ended
    rows = keeps_row commands code argument l (inr refl, (inr refl, (inr refl, (inr refl, (inr refl, (inr refl, (inr refl, (inl (turned code REMOVE apart), tt))))))))

    by : (b : Bool) → l.ended ≡ b → (if b then l else first_effect commands code argument l).ended ≡ false
    by true is = no (sym lives ∙ is)
    by false is = rows ∙ lives

-- a life that is there was opened
opened_or : (x : LifeState) → is_among (Absent ∷ []) x ≡ false → is_among opened x ≡ true
opened_or Absent h = no (sym h)
opened_or state h = refl

module _ (most least : ℕ) where
  either_so : (taken : List ℕ) (b : Bool) (s t : TrackKept) → SettledSo most least taken s → SettledSo most least taken t → SettledSo most least taken (if b then s else t)
  either_so taken true s t h g = h
  either_so taken false s t h g = g

  -- ## One look

  module _ (flush_seen : ℕ) (low : flush_seen ≤ most) (given : Option ℕ) where
    -- a track whose commands are looked at
    record Going (taken : List ℕ) (s : TrackKept) : Type 0 where
      so : SettledSo most least taken s
      still : s.awaits ≡ None
      lives : NoneRemoves so.done → s.life.ended ≡ false

    -- a START that isn't ignored and needn't wait was seen
    start_low : (code argument : ℕ) (life : Life) → life.ended ≡ false → is_absent life ≡ false → must_wait flush_seen code argument life ≡ false → code ≡ START → argument ≤ most
    unfolding starts
    start_low code argument life lives there waits is =
        let two : (code == 2) ≡ true = eq-eqb code 2 is in
        let among : is_among opened life.state ≡ true = opened_or life.state there in
        let e : starts code life ≡ true = (λ i. two i && (not (lives i) && among i)) in
        let n : nat_lt flush_seen argument ≡ false = sym (ap (λ (b : Bool). b && nat_lt flush_seen argument) e) ∙ waits in
        let below = not_below_is flush_seen argument n in
        omega (arith, below, low)

    module _ (taken : List ℕ) (s : TrackKept) (g : Going taken s) (code argument : ℕ) where
      abbrev c : ℕ × ℕ
      c = (code, argument)

      abbrev done : List (ℕ × ℕ)
      done = g.so.done

      base : taken ≡ words_of done
      base = g.so.taken_are ∙ ap (λ (o : Option ℕ). words_of (done ++ waiting o)) g.still ∙ ap words_of (append-nil done)

      before : (d : ℕ × ℕ) → IsOrderly (done ++ d ∷ []) → Stands most done s.life
      before d order = g.so.stands (subst (λ (o : Option ℕ). IsOrderly (done ++ waiting o)) (sym g.still) (subst IsOrderly (sym (append-nil done)) (orderly_front done (d ∷ []) order)))

      -- if none is settled the first command is an OPEN
      first_opens : IsOrderly (done ++ c ∷ []) → done ≡ [] → code ≡ OPEN
      first_opens order none = subst (λ (cs : List (ℕ × ℕ)). OpensFirst (cs ++ c ∷ [])) none order.opens

      there : IsOrderly (done ++ c ∷ []) → code ≡ START → is_absent s.life ≡ false
      there order is = never_true (is_absent s.life) (λ absent. no (eq-eqb 2 1 (sym is ∙ first_opens order ((before c order).none absent))))

      -- a life that settled a command is there
      there_now : IsOrderly (done ++ c ∷ []) → is_absent (by_command code argument s.life) ≡ true → ⊥
      there_now order absent =
          let was : is_absent s.life ≡ true = (grew_command code argument s.life).absent absent in
          let one : (code == 1) ≡ true = eq-eqb code 1 (first_opens order ((before c order).none was)) in
          let lives : s.life.ended ≡ false = g.lives (none_before done c [] order.removes) in
          let e : opens code s.life ≡ true = (λ i. one i && (not (lives i) && was i)) in
          true≢false (sym absent ∙ (opened_life code argument s.life e).1)

      -- a command that needn't wait is settled at once
      settles : must_wait flush_seen code argument s.life ≡ false → Going (taken ++ code ∷ argument ∷ []) (record (told given code argument s) { settled = s.settled + 1 })
      settles waits = record {
        so = record {
          done = done ++ c ∷ [];
          taken_are = ap (λ (l : List ℕ). l ++ code ∷ argument ∷ []) base ∙ sym (words_join done (c ∷ [])) ∙ ap words_of (sym (append-nil (done ++ c ∷ []))) ∙ ap (λ (o : Option ℕ). words_of ((done ++ c ∷ []) ++ waiting o)) (sym g.still);
          many = (let m = g.so.many in let l = length-append done (c ∷ []) in omega (arith, m, l));
          up = (let u = g.so.up in omega (arith, u));
          stands = λ all.
              let order : IsOrderly (done ++ c ∷ []) = orderly_front (done ++ c ∷ []) (waiting s.awaits) all in
              let b = before c order in
              record {
                seen = seen_join most done (c ∷ []) b.seen ((λ is. start_low code argument s.life (g.lives (none_before done c [] order.removes)) (there order is) waits is), tt);
                none = λ absent. absurd (there_now order absent);
              };
        };
        still = g.still;
        lives = λ none. (let p = none_split done (c ∷ []) none in lives_on code argument s.life p.1.0 (g.lives p.0));
      }

      -- a command that must wait is a START
      waits_so : must_wait flush_seen code argument s.life ≡ true → SettledSo most least (taken ++ code ∷ argument ∷ []) (record (told given code argument s) { awaits = Some argument })
      unfolding starts
      waits_so waits =
          let is : code ≡ START = eqb-true code 2 (both_first (code == 2) _ (both_first (starts code s.life) _ waits)) in
          record {
            done = done;
            taken_are = ap (λ (l : List ℕ). l ++ code ∷ argument ∷ []) base ∙ ap (λ (k : ℕ). words_of done ++ k ∷ argument ∷ []) is ∙ sym (words_join done ((START, argument) ∷ []));
            many = g.so.many;
            up = g.so.up;
            stands = λ order. (let b = before (START, argument) order in record { seen = b.seen; none = λ absent. b.none ((grew_command code argument s.life).absent absent) });
          }

    abbrev Looked : List ℕ → CommandLook → TrackKept → Type 0
    Looked taken look t = (goes_on look t ≡ true → Going taken t) × SettledSo most least taken t

    look_so : (look : CommandLook) (taken : List ℕ) (s : TrackKept) → Going taken s → Looked (taken ++ look_words look) look (after_look given flush_seen look s)
    unfolding after_look obeyed
    look_so look taken s g = by_case (shows_command look.seen) (is_shut look.seen)
      where
        by_wait : (w : Bool) → must_wait flush_seen look.code look.argument s.life ≡ w
            → (let t : TrackKept = if w then record (told given look.code look.argument s) { awaits = Some look.argument } else record (told given look.code look.argument s) { settled = s.settled + 1 } in
            (not (is_some t.awaits) ≡ true → Going (taken ++ look.code ∷ look.argument ∷ []) t) × SettledSo most least (taken ++ look.code ∷ look.argument ∷ []) t)
        by_wait true is = ((λ h. no h), waits_so taken s g look.code look.argument is)
        by_wait false is = let n = settles taken s g look.code look.argument is in ((λ h. n), n.so)

        by_case : (b d : Bool)
            → (let t : TrackKept = if b then (if must_wait flush_seen look.code look.argument s.life then record (told given look.code look.argument s) { awaits = Some look.argument } else record (told given look.code look.argument s) { settled = s.settled + 1 }) else if d then ended s else s in
            ((b && not (is_some t.awaits)) ≡ true → Going (taken ++ (if b then look.code ∷ look.argument ∷ [] else [])) t) × SettledSo most least (taken ++ (if b then look.code ∷ look.argument ∷ [] else [])) t)
        by_case true d = by_wait (must_wait flush_seen look.code look.argument s.life) refl
        by_case false true = ((λ h. no h), record { done = g.so.done; taken_are = append-nil taken ∙ g.so.taken_are; many = g.so.many; up = g.so.up; stands = λ order. (let b = g.so.stands order in record { seen = b.seen; none = b.none }) })
        by_case false false = ((λ h. no h), record { done = g.so.done; taken_are = append-nil taken ∙ g.so.taken_are; many = g.so.many; up = g.so.up; stands = g.so.stands })

    -- ## The looks of a turn

    looks_so : (n : ℕ) (looks : List CommandLook) (taken : List ℕ) (s : TrackKept) → are_due n given flush_seen looks s ≡ true → Going taken s → SettledSo most least (taken ++ words_taken looks) (after_looks given flush_seen looks s)
    looks_so zero [] taken s due g = subst (λ (l : List ℕ). SettledSo most least l s) (sym (append-nil taken)) g.so
    looks_so zero (look ∷ looks) taken s due g = no due
    looks_so (suc n) [] taken s due g = no due
    looks_so (suc n) (look ∷ looks) taken s due g =
        let t : TrackKept = after_look given flush_seen look s in
        let one : Looked (taken ++ look_words look) look t = look_so look taken s g in
        by (goes_on look t) refl due one (λ due is. looks_so n looks (taken ++ look_words look) t due (one.0 is))
      where
        by : (b : Bool) → goes_on look (after_look given flush_seen look s) ≡ b → (if b then are_due n given flush_seen looks (after_look given flush_seen look s) else length looks == 0) ≡ true
            → Looked (taken ++ look_words look) look (after_look given flush_seen look s)
            → (are_due n given flush_seen looks (after_look given flush_seen look s) ≡ true → goes_on look (after_look given flush_seen look s) ≡ true → SettledSo most least ((taken ++ look_words look) ++ words_taken looks) (after_looks given flush_seen looks (after_look given flush_seen look s)))
            → SettledSo most least (taken ++ (look_words look ++ words_taken looks)) (if b then after_looks given flush_seen looks (after_look given flush_seen look s) else after_look given flush_seen look s)
        by true is due one rest = subst (λ (l : List ℕ). SettledSo most least l (after_looks given flush_seen looks (after_look given flush_seen look s))) (append_assoc taken (look_words look) (words_taken looks)) (rest due is)
        by false is due one rest = subst (λ (l : List ℕ). SettledSo most least (taken ++ l) (after_look given flush_seen look s)) (sym (ap (λ (ls : List CommandLook). look_words look ++ words_taken ls) (no_more looks due) ∙ append-nil (look_words look))) one.1

  -- ## Before the looks

  noted_so : (taken : List ℕ) (r : SlotReport) (s : TrackKept) → SettledSo most least taken s → SettledSo most least taken (noted r s)
  unfolding noted
  noted_so taken r s h = either_so taken (is_home s.holder) (record s { own = no_counts }) (if is_reported r s then record s { reported = counts_in r } else s) h
      (either_so taken (is_reported r s) (record s { reported = counts_in r }) s h h)

  -- a START that waited is settled, if its count was heard to be seen
  reached_so : (taken : List ℕ) (count settled : ℕ) (life : Life) → count ≤ most → SettledCore most least taken (Some count) settled life → SettledCore most least taken None (settled + 1) life
  reached_so taken count settled life low h = record {
    done = h.done ++ (START, count) ∷ [];
    taken_are = h.taken_are ∙ ap words_of (sym (append-nil (h.done ++ (START, count) ∷ [])));
    many = (let m = h.many in let l = length-append h.done ((START, count) ∷ []) in omega (arith, m, l));
    up = (let u = h.up in omega (arith, u));
    stands = λ all.
        let order : IsOrderly (h.done ++ (START, count) ∷ []) = orderly_front (h.done ++ (START, count) ∷ []) [] all in
        let b = h.stands order in
        record {
          seen = seen_join most h.done ((START, count) ∷ []) b.seen ((λ is. low), tt);
          none = λ absent. no (eq-eqb 2 1 (subst (λ (cs : List (ℕ × ℕ)). OpensFirst (cs ++ (START, count) ∷ [])) (b.none absent) order.opens));
        };
  }

  settled_so : (taken : List ℕ) (flush_seen : ℕ) (s : TrackKept) → flush_seen ≤ most → SettledSo most least taken s → SettledSo most least taken (settled_at flush_seen s)
  unfolding settled_at
  settled_so taken flush_seen s low h = by s.awaits h
    where
      by_reach : (b : Bool) (count : ℕ) → nat_le count flush_seen ≡ b → SettledCore most least taken (Some count) s.settled s.life → SettledSo most least taken (if b then record s { awaits = None; settled = s.settled + 1 } else record s { awaits = Some count })
      by_reach true count is h = reached_so taken count s.settled s.life (let l = below count flush_seen is in omega (arith, l, low)) h
        where
          below : (a b : ℕ) → nat_le a b ≡ true → a ≤ b
          below a b h = grind (arith, nat_tests, h)
      by_reach false count is h = h

      by : (o : Option ℕ) → SettledCore most least taken o s.settled s.life → SettledSo most least taken (if is_reached flush_seen o then record s { awaits = None; settled = s.settled + 1 } else record s { awaits = o })
      by None h = h
      by (Some count) h = by_reach (nat_le count flush_seen) count refl h

  ready_so : (taken : List ℕ) (k : Learnt) (i : ℕ) (s : TrackKept) → (heard k i s).flush_seen ≤ most → SettledSo most least taken s → SettledSo most least taken (ready k i s)
  ready_so taken k i s low h = settled_so taken (heard k i s).flush_seen (noted (slot_reported k s) s) low (noted_so taken (slot_reported k s) s h)

  -- ## Its part of a turn

  report_so : (taken : List ℕ) (known : Known) (word : ℕ) (t : TrackKept) → SettledSo most least taken t → SettledSo most least taken (record t { life = by_report known t.life; status = word })
  report_so taken known word t h = record { done = h.done; taken_are = h.taken_are; many = h.many; up = h.up; stands = λ order. (let b = h.stands order in record { seen = b.seen; none = λ absent. b.none ((grew_report known t.life).absent absent) }) }

  part_so : (given : Option ℕ) (h : Heard) (looks : List CommandLook) (s : TrackKept) (taken : List ℕ) → h.flush_seen ≤ most → HasDueLooks given h.flush_seen looks s → s.life.ended ≡ false → SettledSo most least taken s
      → SettledSo most least (taken ++ words_taken looks) (after_part given h looks s)
  unfolding after_part
  part_so given h looks s taken low due lives so = report_so (taken ++ words_taken looks) h.known (status_due given h looks s) (commanded given h.flush_seen looks s) (by (is_some s.awaits) refl due)
    where
      by : (b : Bool) → is_some s.awaits ≡ b → MatchBool b (looks ≡ []) (are_due most_looks given h.flush_seen looks s ≡ true) → SettledSo most least (taken ++ words_taken looks) (if b then s else after_looks given h.flush_seen looks s)
      by true is none = subst (λ (l : List ℕ). SettledSo most least l s) (sym (ap (λ (ls : List CommandLook). taken ++ words_taken ls) none ∙ append-nil taken)) so
      by false is due = looks_so h.flush_seen low given most_looks looks taken s due (record { so = so; still = none_of s.awaits is; lives = λ none. lives })

  -- the commands of track i, once those before it were served
  pub served_so : (c : Setup) (k : Learnt) (looks : List CommandLook) (tracks : List TrackKept) (i : ℕ) (taken : List ℕ) → (let s = track_at tracks i in s.life.ended ≡ false → (heard k i s).flush_seen ≤ most → HasDueLooks (slot_for c tracks i) (heard k i s).flush_seen looks (ready k i s)
      → SettledSo most least taken s → SettledSo most least (taken ++ words_taken looks) (served c k looks tracks i))
  unfolding served
  served_so c k looks tracks i taken lives low due so = by (track_at tracks i).life.ended refl
    where
      by : (b : Bool) → (track_at tracks i).life.ended ≡ b → SettledSo most least (taken ++ words_taken looks) (if b then track_at tracks i else after_part (slot_for c tracks i) (heard k i (track_at tracks i)) looks (ready k i (track_at tracks i)))
      by true is = no (sym lives ∙ is)
      by false is = part_so (slot_for c tracks i) (heard k i (track_at tracks i)) looks (ready k i (track_at tracks i)) taken low due (ready_lives ∙ lives) (ready_so taken k i (track_at tracks i) low so)
        where
          ready_lives : (ready k i (track_at tracks i)).life.ended ≡ (track_at tracks i).life.ended
          ready_lives = ap (λ (l : Life). l.ended) (ready_life k i (track_at tracks i))

  -- the commands of a track i that had ended, once those before it were served
  pub over_so : (c : Setup) (k : Learnt) (looks : List CommandLook) (tracks : List TrackKept) (i : ℕ) (taken : List ℕ) → (track_at tracks i).life.ended ≡ true → SettledSo most least taken (track_at tracks i) → SettledSo most least taken (served c k looks tracks i)
  unfolding served
  over_so c k looks tracks i taken ended so = subst (λ (b : Bool). SettledSo most least taken (if b then track_at tracks i else after_part (slot_for c tracks i) (heard k i (track_at tracks i)) looks (ready k i (track_at tracks i)))) (sym ended) so
