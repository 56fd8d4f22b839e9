-- A legal round leaves a track on the course that its client sends, whether its life has ended or not.
use Rattle.std.proofs.Common.{◌≡◌, ◌⊎◌, inl, inr, ℕ, zero, suc, ◌+◌, ◌≤◌, ◌<◌, Bool, true, false, List, ◌++◌, length, take, refl, sym, ap, ◌∙◌, subst, arith}
use Rattle.af_enough_law.proofs.Common.{BlockTold, GoesOn, Heard, IsServed, Learnt, LegalRound, Life, Marks, NormalKept, Outside, RoundSeen, Run, ServerEvent, Session, Setup, TrackKept, TrackSeen, Turn, after_part, after_round, by_report, heard, learnt, nothing_seen, ready, server_list, setup_of, sides_of, told_at, track_at, track_in, turn_after, words_taken}
use Rattle.af_enough_law.proofs.Courses.{none_shut, course, Course, Follows, told_words, life_after}
use Rattle.af_enough_law.proofs.NormalRounds.{TurnMade}
use Rattle.af_enough_law.specs.Seen.{last_status}
use Rattle.af_enough_law.proofs.TrackTurns.{attended, TrackTurned}
use Rattle.af_enough_law.proofs.Able.{words_keep, wet_any}
use Rattle.af_enough_law.proofs.Argued.{AreArgued}
use Rattle.af_enough_law.proofs.CommandsGo.{CalmCommands, OpenTurn, opens_after, words_after}
use Rattle.af_enough_law.proofs.CourseWords.{course_join, taken_words}
use Rattle.af_enough_law.proofs.Following.{Alike, GoesFar, greeted_in, greeted_alike, edited_alike, follows_alike, follows_turn, legal_greeted, none_more, by_true, on_true}
use Rattle.af_enough_law.proofs.RoundWords.{words_even}
use Rattle.af_enough_law.proofs.RunTracks.{round_blocks}
use Rattle.af_enough_law.proofs.SentCourse.{SentCourse, same_stop, course_any, follows_any}
use Rattle.af_enough_law.proofs.Served.{track_turned}
use Rattle.af_enough_law.proofs.StatusRounds.{status_round}

-- ## A turn

course_ended : (count j more : ℕ) (c : Setup) (o : Outside) (m : NormalKept) (e : Turn) (i : ℕ) → i < length m.tracks → e.ended ≡ false → GoesOn c o m e → Follows count j (track_at m.tracks i) → (track_at m.tracks i).life.ended ≡ true
    → words_taken (track_in e i).looks ≡ course count j more → GoesFar count (j + more) (life_after (heard (learnt o) i (greeted_in m e i)) (course count j more) (track_at m.tracks i).life) (track_at (turn_after c (learnt o) m e).tracks i)
course_ended count j more c o m e i lt runs goes f gone words =
    let k : Learnt = learnt o in
    let s : TrackKept = track_at m.tracks i in
    let g : TrackKept = greeted_in m e i in
    let t : TrackTurned c k m e i = track_turned c k m e i lt runs in
    let first = greeted_alike e.ack m.last s in
    let over : g.life.ended ≡ true = ap (λ (l : Life). l.ended) first.life ∙ gone in
    let none : track_in e i ≡ nothing_seen = by_true (track_in e i ≡ nothing_seen) (IsServed t.given (heard k i g) (track_in e i) (ready k i g)) g.life.ended over (legal_greeted c o m e i lt goes t) in
    let at : attended t.given k i (track_in e i).looks g ≡ g = on_true TrackKept g.life.ended g (after_part t.given (heard k i g) (track_in e i).looks (ready k i g)) over in
    let ed = edited_alike (k.own i) (attended t.given k i (track_in e i).looks g) t.edited t.edit in
    let last : Alike t.edited (track_at (turn_after c k m e).tracks i) = subst (Alike t.edited) (sym t.after) (record { life = refl; settled = refl; awaits = refl; status = refl; slot = refl }) in
    let rest : j ≡ j + more = none_more count j more (sym (ap (λ (x : TrackSeen). words_taken x.looks) none) ∙ words) in
    let served : Follows count j (attended t.given k i (track_in e i).looks g) = subst (Follows count j) (sym at) (follows_alike count j s g first f) in
    record {
      follows = subst (λ (n : ℕ). Follows count n (track_at (turn_after c k m e).tracks i)) rest
          (follows_alike count j t.edited (track_at (turn_after c k m e).tracks i) last (follows_alike count j (attended t.given k i (track_in e i).looks g) t.edited ed served));
      life = last.life ∙ ed.life ∙ ap (λ (x : TrackKept). x.life) at ∙ first.life ∙ sym (on_true Life s.life.ended s.life (by_report (heard k i g).known (told_words (course count j more) s.life)) gone);
    }

-- A legal turn leaves a track that has two retries on its course, if its looks take the next commands and no block is shut
pub course_turn : (count j more : ℕ) (c : Setup) (o : Outside) (m : NormalKept) (e : Turn) (i : ℕ) → i < length m.tracks → e.ended ≡ false → GoesOn c o m e → Follows count j (track_at m.tracks i) → j + more ≤ 4
    → none_shut (track_in e i).looks ≡ true → words_taken (track_in e i).looks ≡ course count j more → ((greeted_in m e i).life.ended ≡ false → (heard (learnt o) i (greeted_in m e i)).known.shut ≡ false) → 2 ≤ (track_at m.tracks i).life.retries
    → GoesFar count (j + more) (life_after (heard (learnt o) i (greeted_in m e i)) (course count j more) (track_at m.tracks i).life) (track_at (turn_after c (learnt o) m e).tracks i)
course_turn count j more c o m e i lt runs goes f le open_is words unshut two = by (track_at m.tracks i).life.ended refl
  where
    by : (b : Bool) → (track_at m.tracks i).life.ended ≡ b → GoesFar count (j + more) (life_after (heard (learnt o) i (greeted_in m e i)) (course count j more) (track_at m.tracks i).life) (track_at (turn_after c (learnt o) m e).tracks i)
    by true gone = course_ended count j more c o m e i lt runs goes f gone words
    by false alive =
        let first = greeted_alike e.ack m.last (track_at m.tracks i) in
        let h : Heard = heard (learnt o) i (greeted_in m e i) in
        let l : Life = told_words (course count j more) (track_at m.tracks i).life in
        follows_turn count j more c o m e i lt runs goes f le open_is words (unshut (ap (λ (x : Life). x.ended) first.life ∙ alive)) (wet_any h.known l (words_keep 2 (omega arith) (course count j more) (track_at m.tracks i).life two))

-- ## What is carried of the course

-- The client has sent so much of a course, a part of which was taken; the track follows it, and its status word is the last one stored
pub record OnCourse (run : Run) (i : ℕ) : Type 0 where
  pub count : ℕ
  pub told : ℕ
  pub sent : ℕ
  pub within : told ≤ sent
  pub few : sent ≤ 4
  pub released : (told_at run i).commands.released ≡ course count 0 sent
  pub taken : (told_at run i).commands.taken ≡ course count 0 told
  pub follows : Follows count told (track_at run.normal.tracks i)
  pub status : last_status (server_list (told_at run i).commands) ≡ (track_at run.normal.tracks i).status
  pub argued : AreArgued (sides_of (told_at run i))

-- what a round makes of a track on its course: so many more commands were taken, and the life is the one that these and the report leave
pub record CourseGone (s : Session) (marks : Marks) (run : Run) (round : RoundSeen) (i : ℕ) (t : TurnMade s marks run round) (told : ℕ) : Type 0 where
  pub after : OnCourse (after_round s run round) i
  -- the turn didn't hear that the track's stream is shut
  pub turn : OpenTurn s marks run round i t
  pub more : ℕ
  pub next : after.told ≡ told + more
  pub before : Course after.count told (track_at run.normal.tracks i).life
  pub words : words_taken (track_in t.turn i).looks ≡ course after.count told more
  pub life : (track_at (after_round s run round).normal.tracks i).life ≡ life_after (heard (learnt t.by.outside) i (greeted_in run.normal t.turn i)) (course after.count told more) (track_at run.normal.tracks i).life

two_or_more : (n : ℕ) → (n ≤ 2) ⊎ (3 ≤ n)
two_or_more zero = inl (omega arith)
two_or_more (suc zero) = inl (omega arith)
two_or_more (suc (suc zero)) = inl (omega arith)
two_or_more (suc (suc (suc n))) = inr (omega arith)

-- the course of what was sent later is the one that was taken before
same_course : (before after told k n : ℕ) (taken words : List ℕ) (s : TrackKept) → taken ≡ course before 0 told → taken ++ words ≡ take n (course after 0 k) → Follows before told s → (taken ≡ course after 0 told) × Follows after told s
same_course before after told k n taken words s is front f = by (two_or_more told)
  where
    by : (told ≤ 2) ⊎ (3 ≤ told) → (taken ≡ course after 0 told) × Follows after told s
    by (inl low) = (is ∙ course_any before after told low, follows_any before after told s low f)
    by (inr high) = let same : before ≡ after = same_stop before after told k n words high (ap (λ (ws : List ℕ). ws ++ words) (sym is) ∙ front) in
        (is ∙ ap (λ (c : ℕ). course c 0 told) same, subst (λ (c : ℕ). Follows c told s) same f)

module _ (cut : Bool) (s : Session) (marks : Marks) (run : Run) (round : RoundSeen) (i : ℕ) (t : TurnMade s marks run round) (legal : LegalRound cut s marks run round) (known_commands : List ServerEvent) (calm : CalmCommands run i known_commands) (turn : OpenTurn s marks run round i t) where
  -- If the client has sent so much of a course after the round, and the track has two retries, it is on this course after it
  pub course_goes : SentCourse (told_at (after_round s run round) i).commands.released → AreArgued (sides_of (told_at (after_round s run round) i)) → (on : OnCourse run i) → 2 ≤ (track_at run.normal.tracks i).life.retries → CourseGone s marks run round i t on.told
  course_goes sent argued on two =
      let words = words_after cut s marks run round i t legal known_commands calm turn in
      let opens = opens_after cut s marks run round i t legal known_commands calm turn in
      let looked = words_taken (track_in t.turn i).looks in
      let after = told_at (after_round s run round) i in
      let front : (told_at run i).commands.taken ++ looked ≡ take words.1.0 (course sent.count 0 sent.sent) = sym words.0 ∙ words.1.1 ∙ ap (take words.1.0) sent.words in
      let same = same_course on.count sent.count on.told sent.sent words.1.0 (told_at run i).commands.taken looked (track_at run.normal.tracks i) on.taken front on.follows in
      let even = words_even (track_in t.turn i).looks in
      let more : ℕ = even.0 in
      let next = taken_words sent.count on.told more sent.sent words.1.0 (told_at run i).commands.taken looked after.commands.released sent.words same.0 (sym words.0 ∙ words.1.1) even.1 in
      let few = sent.few in
      let within = next.1 in
      let low : on.told + more ≤ 4 = omega (arith, within, few) in
      let far = course_turn sent.count on.told more (setup_of s) t.by.outside run.normal t.turn i turn.there turn.runs (t.by.legal.goes_on turn.runs) same.1 low opens.0 next.0 turn.unshut two in
      let goes = subst (λ (m : NormalKept). GoesFar sent.count (on.told + more) (life_after (heard (learnt t.by.outside) i (greeted_in run.normal t.turn i)) (course sent.count on.told more) (track_at run.normal.tracks i).life) (track_at m.tracks i)) (sym t.after) far in
      record {
        after = record {
          count = sent.count;
          told = on.told + more;
          sent = sent.sent;
          within = within;
          few = few;
          released = sent.words;
          taken = words.0 ∙ (λ j. same.0 j ++ next.0 j) ∙ sym (joined sent.count on.told more);
          follows = goes.follows;
          status = ap (λ (b : BlockTold). last_status (server_list b)) (round_blocks s run round i turn.low).1 ∙ status_round s marks run round t i turn.low turn.there turn.runs on.status;
          argued = argued;
        };
        turn = turn;
        more = more;
        next = refl;
        before = same.1.course;
        words = next.0;
        life = goes.life;
      }
    where
      joined : (count told more : ℕ) → course count 0 (told + more) ≡ course count 0 told ++ course count told more
      joined count told more = course_join count 0 told more ∙ ap (λ (n : ℕ). course count 0 told ++ course count n more) (let e : 0 + told ≡ told = omega arith in e)
