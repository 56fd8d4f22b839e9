-- What a turn makes of a life by words of some kind.
use Rattle.std.proofs.Common.{◌≡◌, ◌⊎◌, inl, inr, ℕ, ◌≤◌, ◌<◌, ◌==◌, ◌&&◌, ◌||◌, nat_le, not, if◌then◌else◌, is_some, Bool, true, false, true≢false, Option, List, [], ◌∷◌, ◌++◌, length, refl, sym, ap, ◌∙◌, subst, arith, eqb-true}
use Rattle.af_enough_law.proofs.Common.{Absent, Active, CommandLook, Idle, Known, Learnt, Life, NormalKept, Setup, Stopped, Stopping1, Stopping2, TrackKept, Turn, after_look, after_looks, both_first, both_right, both_true, by_command, by_report, ended, goes_on, heard, is_shut, must_wait, no, obeyed, plays, ready, ready_life, report_ends, shows_command, told, track_at, track_in, turn_after, words_taken}
use Rattle.af_life.specs.Obeys.{commanded}
use Rattle.af_enough_law.proofs.Courses.{Course, absent, idle, playing, stopping, drained, stopped, over, life_in}
use Rattle.af_enough_law.proofs.TrackTurns.{TrackTurned}
use Rattle.af_enough_law.proofs.EarlyCalls.{no_stop}
use Rattle.af_enough_law.proofs.Ends.{silent}
use Rattle.af_enough_law.proofs.Following.{greeted_in, greeted_alike}
use Rattle.af_enough_law.proofs.OverTracks.{over_life}
use Rattle.af_enough_law.proofs.RoamingCalls.{no_start}
use Rattle.af_enough_law.proofs.SentPlain.{is_course_code, plain_words, InPlay, is_over, plays_on, stops_on, command_in}
use Rattle.af_enough_law.proofs.Served.{track_turned}
use Rattle.af_enough_law.proofs.TurnLives.{life_turned, in_turned, shut_turned}
use Rattle.af_enough_law.proofs.Coursing.{ended_same}

-- ## Words of some kind

-- the codes of these words pass the test
abbrev pub all_codes : (ℕ → Bool) → List ℕ → Bool
all_codes ok (code ∷ argument ∷ words) = ok code && all_codes ok words
all_codes ok _ = true

either_is : (P : Life → Type 0) (b : Bool) (s t : TrackKept) → P s.life → P t.life → P (if b then s else t).life
either_is P true s t h g = h
either_is P false s t h g = g

-- what such commands and an end keep of a life, looks that show no other commands keep
module _ (ok : ℕ → Bool) (P : Life → Type 0) (gone : (l : Life) → l.ended ≡ true → P l) (next : (code argument : ℕ) (l : Life) → ok code ≡ true → P l → P (by_command code argument l)) where
  first_words : (b : Bool) (code argument : ℕ) (words : List ℕ) → all_codes ok ((if b then code ∷ argument ∷ [] else []) ++ words) ≡ true → (b ≡ true → ok code ≡ true) × (all_codes ok words ≡ true)
  first_words true code argument words h = ((λ e. both_first (ok code) (all_codes ok words) h), both_right (ok code) (all_codes ok words) h)
  first_words false code argument words h = ((λ e. no e), h)

  look_keeps : (given : Option ℕ) (flush_seen : ℕ) (look : CommandLook) (s : TrackKept) → (shows_command look.seen ≡ true → ok look.code ≡ true) → P s.life → P (after_look given flush_seen look s).life
  unfolding after_look obeyed
  look_keeps given flush_seen look s plain h = by (shows_command look.seen) plain
    where
      by : (b : Bool) → (b ≡ true → ok look.code ≡ true) → P (if b then obeyed given flush_seen look.code look.argument s else (if is_shut look.seen then ended s else s)).life
      by true p = let now = next look.code look.argument s.life (p refl) h in either_is P (must_wait flush_seen look.code look.argument s.life) _ _ now now
      by false p = either_is P (is_shut look.seen) (ended s) s (gone _ refl) h

  looks_keep : (given : Option ℕ) (flush_seen : ℕ) (looks : List CommandLook) (s : TrackKept) → all_codes ok (words_taken looks) ≡ true → P s.life → P (after_looks given flush_seen looks s).life
  looks_keep given flush_seen [] s plain h = h
  looks_keep given flush_seen (look ∷ looks) s plain h =
      let t : TrackKept = after_look given flush_seen look s in
      let parts = first_words (shows_command look.seen) look.code look.argument (words_taken looks) plain in
      let now = look_keeps given flush_seen look s parts.0 h in
      either_is P (goes_on look t) (after_looks given flush_seen looks t) t (looks_keep given flush_seen looks t parts.1 now) now

  commanded_keeps : (given : Option ℕ) (flush_seen : ℕ) (looks : List CommandLook) (s : TrackKept) → all_codes ok (words_taken looks) ≡ true → P s.life → P (commanded given flush_seen looks s).life
  commanded_keeps given flush_seen looks s plain h = either_is P (is_some s.awaits) s (after_looks given flush_seen looks s) h (looks_keep given flush_seen looks s plain h)

  -- a turn leaves what a report makes of what such commands keep
  pub turned_keeps : (c : Setup) (k : Learnt) (m : NormalKept) (e : Turn) (i : ℕ) → i < length m.tracks → e.ended ≡ false → (track_at m.tracks i).life.ended ≡ false → all_codes ok (words_taken (track_in e i).looks) ≡ true → P (track_at m.tracks i).life
      → (l : Life) × P l × ((track_at (turn_after c k m e).tracks i).life ≡ by_report (heard k i (greeted_in m e i)).known l)
  turned_keeps c k m e i lt runs alive plain h =
      let t : TrackTurned c k m e i = track_turned c k m e i lt runs in
      let g : TrackKept = greeted_in m e i in
      let first = (greeted_alike e.ack m.last (track_at m.tracks i)).life in
      let there : P g.life = subst P (sym first) h in
      (_, commanded_keeps t.given (heard k i g).flush_seen (track_in e i).looks (ready k i g) plain (subst P (sym (ready_life k i g)) there), life_turned c k m e i lt runs (ap (λ (l : Life). l.ended) first ∙ alive))

-- ## Without a STOP

-- a life that took no STOP, or has ended
pub data Unstopped : Life → Type 0 where
  gone : (l : Life) → l.ended ≡ true → Unstopped l
  absent_on : (drained : Bool) (retries stop_at : ℕ) → Unstopped (life_in Absent false drained retries stop_at)
  idle_on : (drained : Bool) (retries stop_at : ℕ) → Unstopped (life_in Idle false drained retries stop_at)
  active_on : (drained : Bool) (retries stop_at : ℕ) → Unstopped (life_in Active true drained retries stop_at)

abbrev pub is_unstopping : ℕ → Bool
is_unstopping code = (code == 1) || (code == 2) || (code == 6)

codes : (P : ℕ → Type 0) (code : ℕ) → is_unstopping code ≡ true → P 1 → P 2 → P 6 → P code
codes P code h a b d = by (code == 1) (code == 2) (code == 6) refl refl refl h
  where
    by : (w x z : Bool) → (code == 1) ≡ w → (code == 2) ≡ x → (code == 6) ≡ z → (w || x || z) ≡ true → P code
    by true x z e f i h = subst P (sym (eqb-true code 1 e)) a
    by false true z e f i h = subst P (sym (eqb-true code 2 f)) b
    by false false true e f i h = subst P (sym (eqb-true code 6 i)) d
    by false false false e f i h = no h

pub unstopped_next : (code argument : ℕ) (l : Life) → is_unstopping code ≡ true → Unstopped l → Unstopped (by_command code argument l)
unfolding by_command
unstopped_next code argument l h (gone x e) = subst Unstopped (sym (ended_same code argument l e)) (gone l e)
unstopped_next code argument l h (absent_on d r s) = codes (λ c. Unstopped (by_command c argument (life_in Absent false d r s))) code h (idle_on d r s) (absent_on d r s) (gone _ refl)
unstopped_next code argument l h (idle_on d r s) = codes (λ c. Unstopped (by_command c argument (life_in Idle false d r s))) code h (idle_on d r s) (active_on false 50 s) (gone _ refl)
unstopped_next code argument l h (active_on d r s) = codes (λ c. Unstopped (by_command c argument (life_in Active true d r s))) code h (active_on d r s) (active_on false 50 s) (gone _ refl)

not_both : (a b : Bool) → b ≡ true → (a && not b) ≡ false
not_both true true e = refl
not_both true false e = no e
not_both false b e = refl

-- a life without a STOP that plays after a report plays on
pub unstopped_plays : (P : Life → Type 0) → ((drained : Bool) (retries stop_at : ℕ) → P (life_in Active true drained retries stop_at)) → (known : Known) (l : Life) → Unstopped l → plays (by_report known l) ≡ true → P (by_report known l)
unfolding by_report
unstopped_plays P on known l u h = by known.shut refl
  where
    member : (b : Bool) (d : Bool) (r s : ℕ) → plays (life_in Active (true && not b) d r s) ≡ true → P (life_in Active (true && not b) d r s)
    member false d r s e = on d r s
    member true d r s e = no e

    calm : (l : Life) → Unstopped l → plays (by_report (record known { shut = false }) l) ≡ true → P (by_report (record known { shut = false }) l)
    calm _ (gone x e) p = no (sym (silent_of x e) ∙ p)
      where
        silent_of : (x : Life) → x.ended ≡ true → plays (by_report (record known { shut = false }) x) ≡ false
        silent_of x e = ap (λ (b : Bool). plays (by_report (record known { shut = false }) (record x { ended = b }))) e
    calm _ (absent_on d r s) p = no p
    calm _ (idle_on d r s) p = no p
    calm _ (active_on d r s) p = member _ d _ s p

    by : (b : Bool) → known.shut ≡ b → P (by_report known l)
    by true shut = no (sym (not_both (by_report known l).member (by_report known l).ended (report_ends known l shut)) ∙ h)
    by false open_is = subst (λ (b : Bool). P (by_report (record known { shut = b }) l)) (sym open_is) (calm l u (ap (λ (b : Bool). plays (by_report (record known { shut = b }) l)) (sym open_is) ∙ h))

-- plain words without a STOP
pub plain_unstopping : (words : List ℕ) → plain_words words ≡ true → no_stop words ≡ true → all_codes is_unstopping words ≡ true
plain_unstopping [] p n = refl
plain_unstopping (x ∷ []) p n = refl
plain_unstopping (code ∷ argument ∷ words) p n =
    both_true (is_unstopping code) (all_codes is_unstopping words) (one (code == 1) (code == 2) (code == 4) (code == 6) (both_first (is_course_code code) (plain_words words) p) (both_first (not (code == 4)) (no_stop words) n))
    (plain_unstopping words (both_right (is_course_code code) (plain_words words) p) (both_right (not (code == 4)) (no_stop words) n))
  where
    one : (a b c d : Bool) → (a || b || c || d) ≡ true → not c ≡ true → (a || b || d) ≡ true
    one true b c d p n = refl
    one false true c d p n = refl
    one false false true d p n = no n
    one false false false d p n = p

-- ## Turns

-- a turn that takes plain words without a STOP leaves a life that took none in play, if it is to be heard after it
pub early_turned : (P : Life → Type 0) → ((drained : Bool) (retries stop_at : ℕ) → P (life_in Active true drained retries stop_at)) → (c : Setup) (k : Learnt) (m : NormalKept) (e : Turn) (i : ℕ) → i < length m.tracks → e.ended ≡ false → (track_at m.tracks i).life.ended ≡ false → all_codes is_unstopping (words_taken (track_in e i).looks) ≡ true → Unstopped (track_at m.tracks i).life
    → plays (track_at (turn_after c k m e).tracks i).life ≡ true → P (track_at (turn_after c k m e).tracks i).life
early_turned P on c k m e i lt runs alive words u h =
    let z = turned_keeps is_unstopping Unstopped gone unstopped_next c k m e i lt runs alive words u in
    subst P (sym z.2) (unstopped_plays P on (heard k i (greeted_in m e i)).known z.0 z.1 (ap plays (sym z.2) ∙ h))

-- a turn that takes plain words ends a life in play that isn't to be heard after it
pub left_turned : (c : Setup) (k : Learnt) (m : NormalKept) (e : Turn) (i : ℕ) → i < length m.tracks → e.ended ≡ false → plain_words (words_taken (track_in e i).looks) ≡ true → InPlay (track_at m.tracks i).life → 2 ≤ (track_at m.tracks i).life.retries
    → plays (track_at (turn_after c k m e).tracks i).life ≡ false → (track_at (turn_after c k m e).tracks i).life.ended ≡ true
left_turned c k m e i lt runs plain play two out = by (track_at m.tracks i).life.ended refl
  where
    first : (greeted_in m e i).life ≡ (track_at m.tracks i).life
    first = (greeted_alike e.ack m.last (track_at m.tracks i)).life

    retries : 2 ≤ (greeted_in m e i).life.retries
    retries = let a = ap (λ (l : Life). l.retries) first in omega (arith, a, two)

    heard_by : (greeted_in m e i).life.ended ≡ false → (b : Bool) → (heard k i (greeted_in m e i)).known.shut ≡ b → (track_at (turn_after c k m e).tracks i).life.ended ≡ true
    heard_by alive true shut = shut_turned c k m e i lt runs alive shut
    heard_by alive false unshut = elim (in_turned c k m e i lt runs alive unshut plain (subst InPlay (sym first) play) retries) as (λ _. (track_at (turn_after c k m e).tracks i).life.ended ≡ true) [
      | inl is_gone ↦ is_gone
      | inr heard_on ↦ absurd (true≢false (sym heard_on ∙ out))
    ]

    by : (b : Bool) → (track_at m.tracks i).life.ended ≡ b → (track_at (turn_after c k m e).tracks i).life.ended ≡ true
    by true is_gone = ap (λ (l : Life). l.ended) (over_life c k m e i lt runs is_gone) ∙ is_gone
    by false alive = heard_by (ap (λ (l : Life). l.ended) first ∙ alive) (heard k i (greeted_in m e i)).known.shut refl

-- a life on its course that took one command at most took no STOP
pub course_unstopped : (count told : ℕ) (l : Life) → Course count told l → told ≤ 2 → Unstopped l
course_unstopped count told l absent few = absent_on false 50 0
course_unstopped count told l idle few = idle_on false 50 0
course_unstopped count told l (playing retries a b) few = active_on false retries 0
course_unstopped count told l (stopping retries) few = absurd (let z : ⊥ = omega (arith, few) in z)
course_unstopped count told l (drained retries) few = absurd (let z : ⊥ = omega (arith, few) in z)
course_unstopped count told l (stopped retries) few = absurd (let z : ⊥ = omega (arith, few) in z)
course_unstopped count told l (over life e) few = absurd (let z : ⊥ = omega (arith, few) in z)

-- ## In play

-- a life on its way to a stop of which all is consumed
pub data IsDrained : Life → Type 0 where
  drained_on : (retries stop_at : ℕ) → IsDrained (life_in Stopping2 true true retries stop_at)

-- a life in play that plays after a report is in play, or drained
pub played_report : (known : Known) (l : Life) → InPlay l → plays (by_report known l) ≡ true → InPlay (by_report known l) ⊎ IsDrained (by_report known l)
unfolding by_report
played_report known l u h = by known.shut refl
  where
    member : (b : Bool) (d : Bool) (r s : ℕ) → plays (life_in Active (true && not b) d r s) ≡ true → InPlay (life_in Active (true && not b) d r s) ⊎ IsDrained (life_in Active (true && not b) d r s)
    member false d r s e = inl (plays_on d r s)
    member true d r s e = no e

    stops : (b : Bool) (d : Bool) (r s : ℕ) → let l : Life = (if b then record (life_in Stopping1 true d r s) { state = Stopping2; drained = true } else life_in Stopping1 true d r s) in InPlay l ⊎ IsDrained l
    stops true d r s = inr (drained_on r s)
    stops false d r s = inl (stops_on d r s)

    calm : (l : Life) → InPlay l → plays (by_report (record known { shut = false }) l) ≡ true → InPlay (by_report (record known { shut = false }) l) ⊎ IsDrained (by_report (record known { shut = false }) l)
    calm _ (is_over x e) p = no (sym (ap (λ (b : Bool). plays (by_report (record known { shut = false }) (record x { ended = b }))) e) ∙ p)
    calm _ (plays_on d r s) p = member _ d _ s p
    calm _ (stops_on d r s) p = stops (nat_le s known.consumed) d r s

    by : (b : Bool) → known.shut ≡ b → InPlay (by_report known l) ⊎ IsDrained (by_report known l)
    by true shut = no (sym (not_both (by_report known l).member (by_report known l).ended (report_ends known l shut)) ∙ h)
    by false open_is = subst (λ (b : Bool). InPlay (by_report (record known { shut = b }) l) ⊎ IsDrained (by_report (record known { shut = b }) l)) (sym open_is) (calm l u (ap (λ (b : Bool). plays (by_report (record known { shut = b }) l)) (sym open_is) ∙ h))

plain_all : (words : List ℕ) → plain_words words ≡ true → all_codes is_course_code words ≡ true
plain_all [] p = refl
plain_all (x ∷ []) p = refl
plain_all (code ∷ argument ∷ words) p = both_true (is_course_code code) (all_codes is_course_code words) (both_first (is_course_code code) (plain_words words) p) (plain_all words (both_right (is_course_code code) (plain_words words) p))

-- a life that plays after a turn that takes plain words is in play
pub played_turned : (c : Setup) (k : Learnt) (m : NormalKept) (e : Turn) (i : ℕ) → i < length m.tracks → e.ended ≡ false → (track_at m.tracks i).life.ended ≡ false → plain_words (words_taken (track_in e i).looks) ≡ true → InPlay (track_at m.tracks i).life
    → plays (track_at (turn_after c k m e).tracks i).life ≡ true → InPlay (track_at (turn_after c k m e).tracks i).life ⊎ IsDrained (track_at (turn_after c k m e).tracks i).life
played_turned c k m e i lt runs alive words u h =
    let z = turned_keeps is_course_code InPlay is_over command_in c k m e i lt runs alive (plain_all (words_taken (track_in e i).looks) words) u in
    subst (λ (l : Life). InPlay l ⊎ IsDrained l) (sym z.2) (played_report (heard k i (greeted_in m e i)).known z.0 z.1 (ap plays (sym z.2) ∙ h))

-- ## Without a START

-- a life of which all is consumed, or that has stopped or ended
pub data Emptied : Life → Type 0 where
  is_gone : (l : Life) → l.ended ≡ true → Emptied l
  empty_on : (retries stop_at : ℕ) → Emptied (life_in Stopping2 true true retries stop_at)
  stopped_on : (drained : Bool) (retries stop_at : ℕ) → Emptied (life_in Stopped false drained retries stop_at)

pub empty_life : (l : Life) → IsDrained l → Emptied l
empty_life _ (drained_on r s) = empty_on r s

abbrev pub is_ending : ℕ → Bool
is_ending code = (code == 1) || (code == 4) || (code == 6)

end_codes : (P : ℕ → Type 0) (code : ℕ) → is_ending code ≡ true → P 1 → P 4 → P 6 → P code
end_codes P code h a b d = by (code == 1) (code == 4) (code == 6) refl refl refl h
  where
    by : (w x z : Bool) → (code == 1) ≡ w → (code == 4) ≡ x → (code == 6) ≡ z → (w || x || z) ≡ true → P code
    by true x z e f i h = subst P (sym (eqb-true code 1 e)) a
    by false true z e f i h = subst P (sym (eqb-true code 4 f)) b
    by false false true e f i h = subst P (sym (eqb-true code 6 i)) d
    by false false false e f i h = no h

emptied_next : (code argument : ℕ) (l : Life) → is_ending code ≡ true → Emptied l → Emptied (by_command code argument l)
unfolding by_command
emptied_next code argument l h (is_gone x e) = subst Emptied (sym (ended_same code argument l e)) (is_gone l e)
emptied_next code argument l h (empty_on r s) = end_codes (λ c. Emptied (by_command c argument (life_in Stopping2 true true r s))) code h (empty_on r s) (empty_on r s) (is_gone _ refl)
emptied_next code argument l h (stopped_on d r s) = end_codes (λ c. Emptied (by_command c argument (life_in Stopped false d r s))) code h (stopped_on d r s) (stopped_on d r s) (is_gone _ refl)

-- a life of which all is consumed has stopped or ended after a report
emptied_report : (known : Known) (l : Life) → Emptied l → Emptied (by_report known l) × (plays (by_report known l) ≡ false)
unfolding by_report
emptied_report known l u = by known.shut refl
  where
    calm : (l : Life) → Emptied l → Emptied (by_report (record known { shut = false }) l) × (plays (by_report (record known { shut = false }) l) ≡ false)
    calm _ (is_gone x e) = let over_is : (by_report (record known { shut = false }) x).ended ≡ true = ap (λ (b : Bool). (by_report (record known { shut = false }) (record x { ended = b })).ended) e in (is_gone _ over_is, silent (by_report (record known { shut = false }) x) over_is)
    calm _ (empty_on r s) = (stopped_on true r s, refl)
    calm _ (stopped_on d r s) = (stopped_on d r s, refl)

    by : (b : Bool) → known.shut ≡ b → Emptied (by_report known l) × (plays (by_report known l) ≡ false)
    by true shut = let over_is = report_ends known l shut in (is_gone _ over_is, silent (by_report known l) over_is)
    by false open_is = subst (λ (b : Bool). Emptied (by_report (record known { shut = b }) l) × (plays (by_report (record known { shut = b }) l) ≡ false)) (sym open_is) (calm l u)

plain_ending : (words : List ℕ) → plain_words words ≡ true → no_start words ≡ true → all_codes is_ending words ≡ true
plain_ending [] p n = refl
plain_ending (x ∷ []) p n = refl
plain_ending (code ∷ argument ∷ words) p n =
    both_true (is_ending code) (all_codes is_ending words) (one (code == 1) (code == 2) (code == 4) (code == 6) (both_first (is_course_code code) (plain_words words) p) (both_first (not (code == 2)) (no_start words) n))
    (plain_ending words (both_right (is_course_code code) (plain_words words) p) (both_right (not (code == 2)) (no_start words) n))
  where
    one : (a b c d : Bool) → (a || b || c || d) ≡ true → not b ≡ true → (a || c || d) ≡ true
    one true b c d p n = refl
    one false true c d p n = no n
    one false false c d p n = p

-- a life of which all was consumed is so after a turn that takes plain words without a START
pub emptied_turned : (c : Setup) (k : Learnt) (m : NormalKept) (e : Turn) (i : ℕ) → i < length m.tracks → e.ended ≡ false → plain_words (words_taken (track_in e i).looks) ≡ true → no_start (words_taken (track_in e i).looks) ≡ true → Emptied (track_at m.tracks i).life
    → Emptied (track_at (turn_after c k m e).tracks i).life × (plays (track_at (turn_after c k m e).tracks i).life ≡ false)
emptied_turned c k m e i lt runs plain none u = by (track_at m.tracks i).life.ended refl
  where
    by : (b : Bool) → (track_at m.tracks i).life.ended ≡ b → Emptied (track_at (turn_after c k m e).tracks i).life × (plays (track_at (turn_after c k m e).tracks i).life ≡ false)
    by true ends = let over_is = ap (λ (l : Life). l.ended) (over_life c k m e i lt runs ends) ∙ ends in (is_gone _ over_is, silent (track_at (turn_after c k m e).tracks i).life over_is)
    by false alive =
        let z = turned_keeps is_ending Emptied is_gone emptied_next c k m e i lt runs alive (plain_ending (words_taken (track_in e i).looks) plain none) u in
        subst (λ (l : Life). Emptied l × (plays l ≡ false)) (sym z.2) (emptied_report (heard k i (greeted_in m e i)).known z.0 z.1)
