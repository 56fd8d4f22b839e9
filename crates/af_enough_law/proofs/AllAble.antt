-- The middle keeps what makes all tracks have two retries.
use Rattle.std.proofs.Common.{◌≡◌, ◌⊎◌, inl, inr, ℕ, zero, suc, ◌+◌, ◌^◌, ◌≤◌, ◌<◌, if◌then◌else◌, is_some, Bool, true, false, true≢false, All, Option, Some, None, List, length, refl, sym, ap, ◌∙◌, subst, arith}
use Rattle.af_enough_law.proofs.Common.{All-get_or, Frame, IsScript, IsTrack, LegalRound, Life, Marks, RoundSeen, Run, ScriptData, Session, Setting, after_round, by_report, heard, learnt, length-map, no_spec, same_slot, scales_of, session_of, setup_of, spec_of, spec_setting, told_at, track_at, track_count}
use Rattle.af_enough_law.proofs.Courses.{course, told_words}
use Rattle.af_enough_law.proofs.NearWords.{buffer_of}
use Rattle.af_enough_law.proofs.NormalRounds.{TurnMade}
use Rattle.af_enough_law.proofs.AbleKept.{home_goes, lent_goes}
use Rattle.af_enough_law.proofs.Carrying.{TrackIs, slotless, lent, stopped, gone_over, track_on}
use Rattle.af_enough_law.proofs.CourseGoes.{CourseGone}
use Rattle.af_enough_law.proofs.Following.{greeted_in}
use Rattle.af_enough_law.proofs.LentAble.{LentAble}
use Rattle.af_enough_law.proofs.LentRounds.{HeardOf}
use Rattle.af_enough_law.proofs.Lookahead.{ended_then}
use Rattle.af_enough_law.proofs.Middle.{Middle}
use Rattle.af_enough_law.proofs.MiddleEnds.{portion_at, full_at}
use Rattle.af_enough_law.proofs.MiddleNever.{KeepsAble}
use Rattle.af_enough_law.proofs.NearEnds.{Near, ended, living}
use Rattle.af_enough_law.proofs.Nearing.{Nearing, TrackRound, BlockKept, takes, sent_by}
use Rattle.af_enough_law.proofs.NearSums.{product_some}
use Rattle.af_enough_law.proofs.PipeKept.{sized}
use Rattle.af_enough_law.proofs.RetriesKept.{retries_kept}
use Rattle.af_enough_law.proofs.SessionRounds.{turn_of}
use Rattle.af_enough_law.proofs.TrackAble as can
use Rattle.af_enough_law.proofs.TrackAble.{TrackAble, AllAble, able_two, near_flows}
use Rattle.af_enough_law.proofs.TrackGives.{track_gives, home_flows}

two_or_three : (n : ℕ) → 2 ≤ n → (n ≡ 2) ⊎ (3 ≤ n)
two_or_three zero low = absurd (let z : ⊥ = omega (arith, low) in z)
two_or_three (suc zero) low = absurd (let z : ⊥ = omega (arith, low) in z)
two_or_three (suc (suc zero)) low = inl refl
two_or_three (suc (suc (suc n))) low = inr (omega arith)

five_or_six : (n : ℕ) → (n ≤ 5) ⊎ (6 ≤ n)
five_or_six zero = inl (omega arith)
five_or_six (suc zero) = inl (omega arith)
five_or_six (suc (suc zero)) = inl (omega arith)
five_or_six (suc (suc (suc zero))) = inl (omega arith)
five_or_six (suc (suc (suc (suc zero)))) = inl (omega arith)
five_or_six (suc (suc (suc (suc (suc zero))))) = inl (omega arith)
five_or_six (suc (suc (suc (suc (suc (suc n)))))) = inr (omega arith)

some_none : {A : Type 0} (o : Option ℕ) (n : ℕ) → o ≡ Some n → o ≡ None → A
some_none o n a b = absurd (true≢false (sym (ap is_some a) ∙ ap is_some b))

module _ (script : ScriptData) (files : List (List Frame)) (marks : Marks) (is : IsScript script) (lawful : (i : ℕ) → i < length script.tracks → marks.commands i ≡ true) (most total : ℕ → ℕ) (under : (i : ℕ) → i < length script.tracks → total i < (spec_of (session_of script files) i).base + 2 ^ 32) where
  abbrev s : Session
  s = session_of script files

  scales : All (λ (x : Setting). x.scale ≤ 4096) (setup_of s).settings
  scales = scales_of s is

  long : length (setup_of s).settings ≡ track_count s
  long = length-map script.tracks spec_setting

  module _ (run : Run) (round next : RoundSeen) (n : ℕ) (legal : LegalRound false s marks run round) (legal_next : LegalRound false s marks (after_round s run round) next) (m : Middle s run most total (portion_at s) (full_at s) (suc n)) (a : AllAble s run) (i : ℕ) (named : i < track_count s) where
    abbrev t : TurnMade s marks run round
    t = turn_of s marks scales long run round legal m.carried.session.stands

    abbrev after : Run
    after = after_round s run round

    two : 2 ≤ (track_at run.normal.tracks i).life.retries
    two = able_two run i (a i named)

    -- a life that has ended keeps its retries
    ended_able : (track_at run.normal.tracks i).life.ended ≡ true → TrackAble after i
    ended_able e = can.gone (inl (ended_then s marks scales long run round legal m.carried.session i named e)) (same (track_on s marks scales long run round legal m.carried.session next legal_next i (most i) (total i) named (lawful i named) two (m.carried.tracks i named)).course)
      where
        same : ((told : ℕ) × CourseGone s marks run round i t told) ⊎ ((track_at after.normal.tracks i).life ≡ (track_at run.normal.tracks i).life) → 2 ≤ (track_at after.normal.tracks i).life.retries
        same (inr still) = subst (λ (l : Life). 2 ≤ l.retries) (sym still) two
        same (inl gone) = subst (λ (l : Life). 2 ≤ l.retries)
            (sym (gone.1.life ∙ ap (λ (d : Bool). if d then (track_at run.normal.tracks i).life else by_report (heard (learnt t.by.outside) i (greeted_in run.normal t.turn i)).known (told_words (course gone.1.after.count gone.0 gone.1.more) (track_at run.normal.tracks i).life)) e)) two

    module _ (alive : (track_at run.normal.tracks i).life.ended ≡ false) (kept : BlockKept run i (spec_of s i).frames (spec_of s i).base) (near : Nearing run i (portion_at s i) (full_at s i) (total i) (suc n)) where
      r : TrackRound s marks run round i t
      r = track_gives s marks scales long is.normal.1 (sized s is) run round legal m.carried.session next legal_next i (most i) (total i) named (lawful i named) two alive (m.carried.tracks i named)
          (home_flows s marks scales long is.normal.1 (sized s is) run round legal m.carried.session next legal_next i (most i) (total i) (spec_of s i).frames (spec_of s i).base named (lawful i named) two (m.carried.tracks i named) kept (m.pipe i named))

      some_N : 1 ≤ (spec_of s i).frames
      some_N = (All-get_or IsTrack script.tracks i no_spec named is.tracks).buffer.0

      some_buffer : 1 ≤ buffer_of s
      some_buffer = product_some script.normal script.frames is.normal.0 is.frames.0

      plays_able : (r : TrackRound s marks run round i t) → r.gone.after.told ≡ 2 → length (told_at run i).commands.released ≤ 5 → TrackAble run i → TrackIs s run i (most i) (total i) → TrackAble after i
      plays_able r still few (can.gone (inl e) has) at = absurd (true≢false (sym e ∙ alive))
      plays_able r still few (can.gone (inr three) has) at = let x = r.on.follows.settled in let y = r.gone.next in absurd (let z : ⊥ = omega (arith, x, y, three, still) in z)
      plays_able r still few (can.home none out h) (slotless track never none') =
          home_goes s marks scales long is.normal.1 (sized s is) run round legal m.carried.session next legal_next i (most i) (total i) named (lawful i named) two (m.pipe i named) some_buffer is.frames.0 some_N (under i named) alive kept r still few
          (near_flows run i (portion_at s i) (full_at s i) (total i) (suc n) few alive near) track never none' out h
      plays_able r still few (can.home none out h) (lent slot item track l) = some_none (track_at run.normal.tracks i).slot slot l.slot_is none
      plays_able r still few (can.home none out h) (stopped slot item low item_is slot_is z place) = some_none (track_at run.normal.tracks i).slot slot slot_is none
      plays_able r still few (can.home none out h) (gone_over o) = absurd (true≢false (sym o.life ∙ alive))
      plays_able r still few (can.lent slot slot_is heard_of h) (slotless track never none) = some_none (track_at run.normal.tracks i).slot slot slot_is none
      plays_able r still few (can.lent slot slot_is heard_of h) (lent slot' item track l) =
          lent_goes s marks scales long is.normal.1 (sized s is) run round legal m.carried.session next legal_next i (most i) (total i) named (lawful i named) two (m.pipe i named) some_buffer is.frames.0 some_N (under i named) alive kept r still few
          (near_flows run i (portion_at s i) (full_at s i) (total i) (suc n) few alive near) slot' item track l (subst (HeardOf run i) (same_slot slot slot' (sym slot_is ∙ l.slot_is)) heard_of) (subst (LentAble run i) (same_slot slot slot' (sym slot_is ∙ l.slot_is)) h)
      plays_able r still few (can.lent slot slot_is heard_of h) (stopped slot' item low item_is slot_is' z place) =
          let x = r.on.follows.settled in
          let y = r.gone.next in
          let w = z.on.follows.settled in
          let v = z.told in
          absurd (let f : ⊥ = omega (arith, x, y, w, v, still) in f)
      plays_able r still few (can.lent slot slot_is heard_of h) (gone_over o) = absurd (true≢false (sym o.life ∙ alive))

      living_able : TrackAble after i
      living_able = by (two_or_three r.gone.after.told (let x = r.on.follows.settled in let y = r.gone.next in let z = kept.started in omega (arith, x, y, z)))
        where
          by_few : r.gone.after.told ≡ 2 → (length (told_at run i).commands.released ≤ 5) ⊎ (6 ≤ length (told_at run i).commands.released) → TrackAble after i
          by_few still (inl few) = plays_able r still few (a i named) (m.carried.tracks i named)
          by_few still (inr six) =
              let x = takes false s marks run round i t legal (spec_of s i).frames (spec_of s i).base kept r alive in
              let y = sent_by false s marks run round i t legal (spec_of s i).frames (spec_of s i).base kept r in
              absurd (let z : ⊥ = omega (arith, x, y, six, still) in z)

          by : (r.gone.after.told ≡ 2) ⊎ (3 ≤ r.gone.after.told) → TrackAble after i
          by (inr three) = can.gone (inr (let x = r.gone.after.follows.settled in omega (arith, x, three))) (retries_kept s marks run round i 2 t r.on r.turn r.gone three two (omega arith))
          by (inl still) = by_few still (five_or_six (length (told_at run i).commands.released))

    pub able_on : TrackAble after i
    able_on = by_near (m.near i named) (track_at run.normal.tracks i).life.ended refl
      where
        by_near : Near s run i (portion_at s i) (full_at s i) (total i) (suc n) → (b : Bool) → (track_at run.normal.tracks i).life.ended ≡ b → TrackAble after i
        by_near near true e = ended_able e
        by_near (ended e) false alive = ended_able e
        by_near (living kept near) false alive = living_able alive kept near

  -- What makes all tracks have two retries is kept in the middle
  pub keeps_able : KeepsAble s marks most total (AllAble s)
  keeps_able = record {
    two = λ run a i named. able_two run i (a i named);
    kept = λ run round next n legal legal_next over m a. λ i named. able_on run round next n legal legal_next m a i named;
  }
