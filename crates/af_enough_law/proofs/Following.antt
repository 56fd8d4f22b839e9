-- A turn leaves a track on its course.
use Rattle.std.proofs.Common.{◌≡◌, ℕ, zero, suc, ◌+◌, ◌*◌, ◌%◌, ◌<◌, ◌≤◌, Bool, true, false, List, [], ◌∷◌, length, refl, sym, ap, ◌∙◌, subst, arith, true≢false, Option, MatchBool, if◌then◌else◌}
use Rattle.af_enough_law.proofs.Common.{FastState, GoesOn, Heard, Home, IsServed, Learnt, Life, NormalKept, Outside, Setup, SlotReport, TrackKept, TrackSeen, Turn, acked_len, after_ack, after_part, by_false, by_report, comes_home, counts_in, heard, is_home, is_reported, learnt, no_counts, not_yet, noted, nothing_seen, ready, runs_dry, slot_reported, state_code, status_word, track_at, track_in, tracks_at, turn_after, welcomed, words_taken}
use Rattle.af_enough_law.proofs.Courses.{told_all, starts_at_once, none_shut, reported_by, course, Course, Follows, told_words, life_after}
use Rattle.af_enough_law.proofs.TrackTurns.{greeted, attended, Edited, stays, leaves, enters, TrackTurned}
use Rattle.af_enough_law.proofs.Coursing.{course_all, course_starts, course_reported}
use Rattle.af_enough_law.proofs.Served.{greeted_at, track_turned}
use Rattle.af_enough_law.proofs.Told.{attended_told}

-- ## What stays

-- the two tracks have the same life, commands and status word
pub record Alike (s t : TrackKept) : Type 0 where
  pub life : t.life ≡ s.life
  pub settled : t.settled ≡ s.settled
  pub awaits : t.awaits ≡ s.awaits
  pub status : t.status ≡ s.status
  pub slot : t.slot ≡ s.slot

alike : (s : TrackKept) → Alike s s
alike s = record { life = refl; settled = refl; awaits = refl; status = refl; slot = refl }

either_alike : (b : Bool) (r s t : TrackKept) → Alike r s → Alike r t → Alike r (if b then s else t)
either_alike true r s t p q = p
either_alike false r s t p q = q

pub noted_alike : (r : SlotReport) (s : TrackKept) → Alike s (noted r s)
unfolding noted
noted_alike r s = either_alike (is_home s.holder) s (record s { own = no_counts }) (if is_reported r s then record s { reported = counts_in r } else s) (record { life = refl; settled = refl; awaits = refl; status = refl; slot = refl }) (either_alike (is_reported r s) s (record s { reported = counts_in r }) s (record { life = refl; settled = refl; awaits = refl; status = refl; slot = refl }) (alike s))

pub greeted_alike : (ack : Bool) (last : FastState) (s : TrackKept) → Alike s (greeted ack last s)
unfolding welcomed
greeted_alike true last s = either_alike (comes_home last s) s (record s { holder = Home }) s (record { life = refl; settled = refl; awaits = refl; status = refl; slot = refl }) (alike s)
greeted_alike false last s = alike s

pub edited_alike : (own : Heard) (s t : TrackKept) → Edited own s t → Alike s t
edited_alike own s t (stays a b) = alike s
edited_alike own s t (leaves a) = record { life = refl; settled = refl; awaits = refl; status = refl; slot = refl }
edited_alike own s t (enters draft a) = record { life = refl; settled = refl; awaits = refl; status = refl; slot = refl }

word_same : (s t : TrackKept) → t.life ≡ s.life → t.settled ≡ s.settled → status_word false t ≡ status_word false s
unfolding status_word
word_same s t life settled = λ i. state_code false (life i) + (if (life i).drained then 16 else 0) + 256 * (settled i % 16777216)

pub follows_alike : (count k : ℕ) (s t : TrackKept) → Alike s t → Follows count k s → Follows count k t
follows_alike count k s t same f = record {
  course = subst (Course count k) (sym same.life) f.course;
  settled = same.settled ∙ f.settled;
  awaits = same.awaits ∙ f.awaits;
  status = same.status ∙ f.status ∙ sym (word_same s t same.life same.settled);
}

-- ## What words make of a track

pub told_life : (given : Option ℕ) (words : List ℕ) (s : TrackKept) → (told_all given words s).life ≡ told_words words s.life
told_life given [] s = refl
told_life given (code ∷ []) s = refl
told_life given (code ∷ argument ∷ words) s = told_life given words _

told_awaits : (given : Option ℕ) (words : List ℕ) (s : TrackKept) → (told_all given words s).awaits ≡ s.awaits
told_awaits given [] s = refl
told_awaits given (code ∷ []) s = refl
told_awaits given (code ∷ argument ∷ words) s = told_awaits given words _

told_settled : (given : Option ℕ) (count k more : ℕ) (s : TrackKept) → (told_all given (course count k more) s).settled ≡ s.settled + more
told_settled given count k zero s = omega arith
told_settled given count k (suc more) s = told_settled given count (suc k) more _ ∙ omega arith

-- ## Its part of the turn

pub by_true : (A B : Type 0) (b : Bool) → b ≡ true → MatchBool b A B → A
by_true A B true e m = m
by_true A B false e m = absurd (true≢false (sym e))

pub on_true : (A : Type 0) (b : Bool) (x y : A) → b ≡ true → (if b then x else y) ≡ x
on_true A true x y e = refl
on_true A false x y e = absurd (true≢false (sym e))

on_false : (A : Type 0) (b : Bool) (x y : A) → b ≡ false → (if b then x else y) ≡ y
on_false A true x y e = absurd (true≢false e)
on_false A false x y e = refl

pub none_more : (count k more : ℕ) → [] ≡ course count k more → k ≡ k + more
none_more count k zero e = omega arith
none_more count k (suc more) e = absurd (let f : 0 ≡ suc (suc (length (course count (suc k) more))) = ap (λ (xs : List ℕ). length xs) e in omega arith)

-- the track goes on, and its life is that after the words and the report
pub record GoesFar (count told : ℕ) (l : Life) (s : TrackKept) : Type 0 where
  pub follows : Follows count told s
  pub life : s.life ≡ l

module _ (count j more : ℕ) (given : Option ℕ) (k : Learnt) (i : ℕ) (seen : TrackSeen) (s : TrackKept) (f : Follows count j s) (le : j + more ≤ 4)
    (open_is : none_shut seen.looks ≡ true) (words : words_taken seen.looks ≡ course count j more) (unshut : (heard k i s).known.shut ≡ false)
    (wet : runs_dry (heard k i s).known (told_words (course count j more) s.life) ≡ false)
    (legal : MatchBool s.life.ended (seen ≡ nothing_seen) (IsServed given (heard k i s) seen (ready k i s))) where
  abbrev noted_s : TrackKept
  noted_s = noted (slot_reported k s) s

  abbrev told_s : TrackKept
  told_s = told_all given (course count j more) noted_s

  abbrev after_s : TrackKept
  after_s = reported_by (heard k i s) told_s

  on_course : Follows count (j + more) after_s
  on_course = let n = noted_alike (slot_reported k s) s in
      let same : told_s.life ≡ told_words (course count j more) s.life = told_life given (course count j more) noted_s ∙ ap (told_words (course count j more)) n.life in record {
        course = course_reported count (j + more) (heard k i s).known told_s.life unshut (ap (runs_dry (heard k i s).known) same ∙ wet)
            (course_all count given more j noted_s le (subst (Course count j) (sym n.life) f.course));
        settled = told_settled given count j more noted_s ∙ ap (λ (x : ℕ). x + more) (n.settled ∙ f.settled);
        awaits = told_awaits given (course count j more) noted_s ∙ n.awaits ∙ f.awaits;
        status = ap (λ (b : Bool). status_word b (record told_s { life = by_report (heard k i s).known told_s.life })) unshut ∙ word_same after_s (record told_s { life = by_report (heard k i s).known told_s.life }) refl refl;
      }

  lived : s.life.ended ≡ false → attended given k i seen.looks s ≡ after_s
  lived alive = attended_told given k i seen s alive f.awaits open_is (ap starts_at_once words ∙ course_starts count j more) (by_false (seen ≡ nothing_seen) (IsServed given (heard k i s) seen (ready k i s)) s.life.ended alive legal)
      ∙ ap (λ (ws : List ℕ). reported_by (heard k i s) (told_all given ws noted_s)) words

  by_end : (b : Bool) → s.life.ended ≡ b → GoesFar count (j + more) (life_after (heard k i s) (course count j more) s.life) (attended given k i seen.looks s)
  by_end true gone = let none : seen ≡ nothing_seen = by_true (seen ≡ nothing_seen) (IsServed given (heard k i s) seen (ready k i s)) s.life.ended gone legal in
      let same : attended given k i seen.looks s ≡ s = on_true TrackKept s.life.ended s (after_part given (heard k i s) seen.looks (ready k i s)) gone in
      let rest : j ≡ j + more = none_more count j more (sym (ap (λ (x : TrackSeen). words_taken x.looks) none) ∙ words) in record {
        follows = subst (λ (n : ℕ). Follows count n (attended given k i seen.looks s)) rest (subst (Follows count j) (sym same) f);
        life = ap (λ (t : TrackKept). t.life) same ∙ sym (on_true Life s.life.ended s.life (by_report (heard k i s).known (told_words (course count j more) s.life)) gone);
      }
  by_end false alive = record {
    follows = subst (Follows count (j + more)) (sym (lived alive)) on_course;
    life = ap (λ (t : TrackKept). t.life) (lived alive) ∙ ap (by_report (heard k i s).known) (told_life given (course count j more) noted_s ∙ ap (told_words (course count j more)) (noted_alike (slot_reported k s) s).life)
        ∙ sym (on_false Life s.life.ended s.life (by_report (heard k i s).known (told_words (course count j more) s.life)) alive);
  }

  pub follows_part : GoesFar count (j + more) (life_after (heard k i s) (course count j more) s.life) (attended given k i seen.looks s)
  follows_part = by_end s.life.ended refl

-- ## The whole turn

abbrev pub greeted_in : NormalKept → Turn → ℕ → TrackKept
greeted_in m e i = greeted e.ack m.last (track_at m.tracks i)

-- A legal turn leaves a track on its course, if its looks take the next commands, no block is shut and it doesn't run dry
pub follows_turn : (count j more : ℕ) (c : Setup) (o : Outside) (m : NormalKept) (e : Turn) (i : ℕ) → i < length m.tracks → e.ended ≡ false → GoesOn c o m e → Follows count j (track_at m.tracks i) → j + more ≤ 4
    → none_shut (track_in e i).looks ≡ true → words_taken (track_in e i).looks ≡ course count j more → (heard (learnt o) i (greeted_in m e i)).known.shut ≡ false
    → runs_dry (heard (learnt o) i (greeted_in m e i)).known (told_words (course count j more) (track_at m.tracks i).life) ≡ false
    → GoesFar count (j + more) (life_after (heard (learnt o) i (greeted_in m e i)) (course count j more) (track_at m.tracks i).life) (track_at (turn_after c (learnt o) m e).tracks i)
follows_turn count j more c o m e i lt runs goes f le open_is words unshut wet =
    let k : Learnt = learnt o in
    let s : TrackKept = greeted_in m e i in
    let t : TrackTurned c k m e i = track_turned c k m e i lt runs in
    let acked : length (after_ack e.ack m).tracks ≡ length m.tracks = acked_len e.ack m in
    let here : track_at (tracks_at c k m e i) i ≡ s = not_yet c k e.tracks (after_ack e.ack m).tracks i i (omega arith) ∙ greeted_at e.ack m i in
    let g = greeted_alike e.ack m.last (track_at m.tracks i) in
    let legal : MatchBool s.life.ended (track_in e i ≡ nothing_seen) (IsServed t.given (heard k i s) (track_in e i) (ready k i s)) =
    subst (λ (x : TrackKept). MatchBool x.life.ended (track_in e i ≡ nothing_seen) (IsServed t.given (heard k i x) (track_in e i) (ready k i x))) here
    (subst (λ (x : Option ℕ). let y = track_at (tracks_at c k m e i) i in MatchBool y.life.ended (track_in e i ≡ nothing_seen) (IsServed x (heard k i y) (track_in e i) (ready k i y))) (sym t.free) (goes.tracks i lt)) in
    let part = follows_part count j more t.given k i (track_in e i) s (follows_alike count j (track_at m.tracks i) s g f) le open_is words unshut (ap (λ (l : Life). runs_dry (heard k i s).known (told_words (course count j more) l)) g.life ∙ wet) legal in
    let ed = edited_alike (k.own i) (attended t.given k i (track_in e i).looks s) t.edited t.edit in
    let last : Alike t.edited (track_at (turn_after c k m e).tracks i) = subst (Alike t.edited) (sym t.after) (record { life = refl; settled = refl; awaits = refl; status = refl; slot = refl }) in record {
      follows = follows_alike count (j + more) t.edited (track_at (turn_after c k m e).tracks i) last (follows_alike count (j + more) (attended t.given k i (track_in e i).looks s) t.edited ed part.follows);
      life = last.life ∙ ed.life ∙ part.life ∙ ap (λ (l : Life). life_after (heard k i s) (course count j more) l) g.life;
    }

-- what the entry of a turn says of a track is legal by the track as it was greeted
pub legal_greeted : (c : Setup) (o : Outside) (m : NormalKept) (e : Turn) (i : ℕ) → i < length m.tracks → GoesOn c o m e → (t : TrackTurned c (learnt o) m e i)
    → MatchBool (greeted_in m e i).life.ended (track_in e i ≡ nothing_seen) (IsServed t.given (heard (learnt o) i (greeted_in m e i)) (track_in e i) (ready (learnt o) i (greeted_in m e i)))
legal_greeted c o m e i lt goes t =
    let k : Learnt = learnt o in
    let acked : length (after_ack e.ack m).tracks ≡ length m.tracks = acked_len e.ack m in
    let here : track_at (tracks_at c k m e i) i ≡ greeted_in m e i = not_yet c k e.tracks (after_ack e.ack m).tracks i i (omega arith) ∙ greeted_at e.ack m i in
    subst (λ (x : TrackKept). MatchBool x.life.ended (track_in e i ≡ nothing_seen) (IsServed t.given (heard k i x) (track_in e i) (ready k i x))) here
    (subst (λ (x : Option ℕ). let y = track_at (tracks_at c k m e i) i in MatchBool y.life.ended (track_in e i ≡ nothing_seen) (IsServed x (heard k i y) (track_in e i) (ready k i y))) (sym t.free) (goes.tracks i lt))
