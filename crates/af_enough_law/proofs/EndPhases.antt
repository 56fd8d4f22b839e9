-- From the Exit that is ordered to the ends of both mixers.
use Rattle.std.proofs.Common.{None, ◌≡◌, ◌⊎◌, inl, inr, ℕ, suc, ◌+◌, ◌≤◌, Bool, true, false, All, List, [], ◌∷◌, length, if◌then◌else◌, refl, sym, ap, ◌∙◌, subst, arith}
use Rattle.af_enough_law.proofs.Common.{EntrySeen, Learnt, LegalRound, LegalTurnBy, Marks, MatchBool, MatchOption, NormalKept, RoundSeen, Run, Session, Setting, Setup, Turn, after_ack, after_edits, after_push, after_round, after_takes, after_tracks, after_turn, before_turn, early_of, edited_to, fast_ended, found_in, has_exit, commands_exit, is_pushed, late_of, learnt, mutated, next_command, ordered, pipe_size, setup_of, turn_after, turn_len, with_calls, with_cycle, with_cycles}
use Rattle.af_enough_law.proofs.Basics.{ack_ended, before_normal, edits_ended, ordered_ended, push_ended}
use Rattle.af_enough_law.proofs.EndWords.{NoExits, BothGo, Ordered, Sending, Closing, BothEnded, Underway, EndWithin}
use Rattle.af_enough_law.proofs.Acks.{KnowsAcked}
use Rattle.af_enough_law.proofs.Ends.{IsInOrder, Rests, ExitSent}
use Rattle.af_enough_law.proofs.FastWords.{KnowsStates}
use Rattle.af_enough_law.proofs.QueueRounds.{QueueStands, states_still, queue_stands, knows_by, knows_acked}
use Rattle.af_enough_law.proofs.NormalRounds.{TurnMade, turn_made, after_normal}
use Rattle.af_enough_law.proofs.CourseRounds.{goes_unless_exit}
use Rattle.af_enough_law.proofs.EndRounds.{unpushed, same_states, rests_on, exit_then, exit_known, exit_ends, exit_pushed, busy_leaves, pushed_none}
use Rattle.af_enough_law.proofs.FastEnds.{exit_added, fast_exits}
use Rattle.af_enough_law.proofs.Drafts.{turn_pushes, is_busy}
use Rattle.af_enough_law.proofs.Exits.{exit_still}
use Rattle.af_enough_law.proofs.FastFound.{cycle_current}
use Rattle.af_enough_law.proofs.FastLearns.{learns_states}
use Rattle.af_enough_law.proofs.FastReports.{calls_same, turned_same}
use Rattle.af_enough_law.proofs.LastStates.{exit_adopted, exit_there, round_last, round_entries, round_going}

-- ## A fast mixer that has ended stays so

entries_stay : (s : Session) (es : List EntrySeen) (run : Run) → has_exit run.entries ≡ true → has_exit (with_cycles s es run).entries ≡ true
entries_stay s [] run is = is
entries_stay s (e ∷ es) run is = entries_stay s es (with_cycle s run e) (ap has_exit (cycle_current s run e).1 ∙ exit_added run.entries e.entry (inr is))

pub fast_stays : (s : Session) (run : Run) (round : RoundSeen) → fast_ended run ≡ true → fast_ended (after_round s run round) ≡ true
fast_stays s run round is =
    let called : Run = with_calls round run in
    let before : Run = before_turn s run round in
    let turn : Run = after_turn s run round in
    let a : has_exit before.entries ≡ true = entries_stay s (early_of run round) called (ap has_exit (calls_same round run).entries ∙ is) in
    let b : has_exit turn.entries ≡ true = ap has_exit (turned_same s (found_in s run round) round.turn before).entries ∙ a in
    ap has_exit (round_entries s run round) ∙ entries_stay s (late_of run round) turn b

-- ## The phases

-- if both know of the Exit, the round ends the normal mixer
pub closing_done : (s : Session) (marks : Marks) (run : Run) (round : RoundSeen) → LegalRound false s marks run round → Closing run → BothEnded (after_round s run round)
closing_done s marks run round legal c = record {
  normal = exit_ends s marks run round legal c.runs (turn_made false s marks run round legal c.runs) c.last c.acked;
  fast = fast_stays s run round c.fast;
}

kept_ended : (c : Setup) (k : Learnt) (e : Turn) (m : NormalKept) → (after_push e.push (after_edits c k e m)).ended ≡ m.ended
unfolding mutated
kept_ended c k e m =
    let x : NormalKept = after_tracks c k e (after_ack e.ack m) in
    let y : NormalKept = edited_to c k x (length x.tracks) in
    push_ended e.push (after_edits c k e m) ∙ ordered_ended (next_command (commands_exit y.draft) y.tracks e.room (pipe_size c)) y ∙ edits_ended c k x (length x.tracks) ∙ ack_ended e.ack m

-- the normal mixer has ended by its turn
pub ended_after : (s : Session) (marks : Marks) (run : Run) (round : RoundSeen) (t : TurnMade s marks run round) (b : Bool) → t.turn.ended ≡ b → run.normal.ended ≡ false → (after_round s run round).normal.ended ≡ b
unfolding turn_after
ended_after s marks run round t true is runs = ap (λ (m : NormalKept). m.ended) t.after ∙ ap (λ (b : Bool). (if b then record run.normal { ended = true } else after_takes (setup_of s) t.turn.mixes (after_push t.turn.push (after_edits (setup_of s) (learnt t.by.outside) t.turn run.normal))).ended) is
ended_after s marks run round t false is runs = ap (λ (m : NormalKept). m.ended) t.after ∙ ap (λ (b : Bool). (if b then record run.normal { ended = true } else after_takes (setup_of s) t.turn.mixes (after_push t.turn.push (after_edits (setup_of s) (learnt t.by.outside) t.turn run.normal))).ended) is ∙ kept_ended (setup_of s) (learnt t.by.outside) t.turn run.normal ∙ runs

module _ (s : Session) (marks : Marks) (scales : All (λ (x : Setting). x.scale ≤ 4096) (setup_of s).settings) (run : Run) (round : RoundSeen) (legal : LegalRound false s marks run round) where
  abbrev after : Run
  after = after_round s run round

  -- both mixers go on
  pub both_next : (b : BothGo s run) → (t : TurnMade s marks run round) → t.turn.ended ≡ false → fast_ended after ≡ false → BothGo s after
  both_next b t goes going =
      let learns = learns_states false s marks run round legal b.counts in
      record {
        rests = rests_on s marks scales run round legal b.runs t goes b.few b.rests;
        few = (let a = ap (λ (m : NormalKept). length m.tracks) t.after in let c = turn_len (setup_of s) (learnt t.by.outside) run.normal t.turn in let d = b.few in omega (arith, a, c, d));
        stands = queue_stands s marks run round legal b.stands;
        last = round_last s marks run round legal b.last;
        counts = learns.counts;
        knows = learns.knows;
        runs = ended_after s marks run round t false goes b.runs;
        going = going;
      }

  -- the round after the push of the Exit ends the fast mixer
  pub sending_next : Sending s run → BothEnded after ⊎ Closing after
  sending_next c =
      let b = c.both in
      let t = turn_made false s marks run round legal b.runs in
      by t t.turn.ended refl
    where
      ended_fast : (t : TurnMade s marks run round) → is_pushed t.turn.push ≡ false → fast_ended after ≡ true
      ended_fast t none =
          let b = c.both in
          let e = exit_there s run b.last c.sent.last in
          fast_exits s marks run round e.state legal b.going b.knows e.is e.exits (pushed_none s marks run round t none)

      by : (t : TurnMade s marks run round) (gone : Bool) → t.turn.ended ≡ gone → BothEnded after ⊎ Closing after
      by t true is = let b = c.both in inl (record { normal = ended_after s marks run round t true is b.runs; fast = ended_fast t (ap (λ (x : Turn). is_pushed x.push) (t.by.legal.still is)) })
      by t false is =
          let b = c.both in
          let sent = exit_then s marks scales run round legal b.runs t is b.rests c.sent.draft (inl c.sent) in
          inr (record {
            runs = ended_after s marks run round t false is b.runs;
            last = sent.last;
            acked = exit_known s marks scales run round legal b.runs t is b.rests c.sent b.going b.knows b.stands;
            fast = ended_fast t (exit_still (setup_of s) t.by.outside run.normal t.turn (t.by.legal.goes_on is) b.rests c.sent.draft c.sent.clean);
          })

  -- a round that pushes the Exit, in which the fast mixer may end already
  sent_next : IsInOrder run.normal → QueueStands run → run.normal.ended ≡ false → fast_ended run ≡ false → (fast_ended after ≡ false → BothGo s after) → NoExits run.states → (t : TurnMade s marks run round) → t.turn.ended ≡ false → ExitSent after.normal
      → Sending s after ⊎ Closing after
  sent_next order stands runs going both none t goes sent = by (fast_ended after) refl
    where
      few_more : {a b : ℕ} → (a ≡ b) ⊎ (a ≡ b + 1) → a ≤ b + 1
      few_more (inl h) = omega (arith, h)
      few_more (inr h) = omega (arith, h)

      by : (gone : Bool) → fast_ended after ≡ gone → Sending s after ⊎ Closing after
      by false is = inl (record { both = both is; sent = sent })
      by true is =
          let made = turn_pushes (setup_of s) t.by.outside run.normal t.turn goes (t.by.legal.goes_on goes) order.latest in
          let number : (turn_after (setup_of s) (learnt t.by.outside) run.normal t.turn).pushed ≤ run.normal.pushed + 1 = few_more made.number in
          let same = ap (λ (m : NormalKept). m.pushed) t.after in
          let p0 = stands.pushed in
          let later = queue_stands s marks run round legal stands in
          let p1 = later.pushed in
          let low = exit_adopted s marks run round legal none going is in
          inr (record {
            runs = ended_after s marks run round t false goes runs;
            last = sent.last;
            acked = knows_by s marks run round legal stands (omega (arith, number, same, p0, p1, low));
            fast = is;
          })

  -- an ordered Exit is pushed in the next round
  pub ordered_next : Ordered s run → Sending s after ⊎ Closing after
  ordered_next o =
      let b = o.both in
      let t = turn_made false s marks run round legal b.runs in
      let goes = goes_unless_exit s marks run round t b.runs o.none in
      sent_next b.rests.order b.stands b.runs b.going (both_next b t goes) o.exits t goes (exit_then s marks scales run round legal b.runs t goes b.rests o.draft (inr o.acked))

  -- a turn that pushes no state leaves the last one known to be acknowledged
  pub known_unless : Underway s run → (t : TurnMade s marks run round) → t.turn.ended ≡ false → is_pushed t.turn.push ≡ false → KnowsAcked after
  known_unless u t goes none = by u.known
    where
      same : length after.states ≡ length run.states
      same = same_states s marks scales run round legal u.runs t goes none

      by : (length run.states ≡ 0) ⊎ KnowsStates s run → KnowsAcked after
      by (inl no_states) = knows_by s marks run round legal u.stands (omega (arith, same, no_states))
      by (inr knows) = knows_acked s marks run round legal u.going knows u.stands same

  -- both go on after a round from which on the normal mixer rests
  both_after : Underway s run → Rests after.normal → (t : TurnMade s marks run round) → t.turn.ended ≡ false → fast_ended after ≡ false → BothGo s after
  both_after u rests t goes going =
      let learns = learns_states false s marks run round legal u.counts in
      record {
        rests = rests;
        few = (let a = ap (λ (m : NormalKept). length m.tracks) t.after in let c = turn_len (setup_of s) (learnt t.by.outside) run.normal t.turn in let d = u.few in omega (arith, a, c, d));
        stands = queue_stands s marks run round legal u.stands;
        last = round_last s marks run round legal u.last;
        counts = learns.counts;
        knows = learns.knows;
        runs = ended_after s marks run round t false goes u.runs;
        going = going;
      }

  -- the round that orders the Exit pushes it, or its push was busy
  pub ordering_next : Underway s run → Rests after.normal → commands_exit after.normal.draft ≡ true → Ordered s after ⊎ (Sending s after ⊎ Closing after)
  ordering_next u rests draft =
      let t = turn_made false s marks run round legal u.runs in
      let goes = goes_unless_exit s marks run round t u.runs u.none in
      by t goes (is_busy t.turn.push) refl
    where
      by : (t : TurnMade s marks run round) → t.turn.ended ≡ false → (busy : Bool) → is_busy t.turn.push ≡ busy → Ordered s after ⊎ (Sending s after ⊎ Closing after)
      by t goes false is = inr (sent_next u.order u.stands u.runs u.going (both_after u rests t goes) u.exits t goes (exit_pushed s marks scales run round legal u.runs t goes u.order draft is))
      by t goes true is =
          let k = busy_leaves s marks scales run round legal u.runs t goes u.order is in
          let same : after.states ≡ run.states = k.0 in
          let later : NoExits after.states = subst NoExits (sym same) u.exits in
          inl (record {
            both = both_after u rests t goes (round_going s marks run round legal u.exits later u.going);
            draft = draft;
            none = ap commands_exit k.1 ∙ u.none;
            exits = later;
            acked = known_unless u t goes (unpushed t.turn.push is);
          })

-- ## All phases

-- mixers that have ended stay so
pub both_stay : (s : Session) (marks : Marks) (run : Run) (round : RoundSeen) → LegalRound false s marks run round → BothEnded run → BothEnded (after_round s run round)
both_stay s marks run round legal b =
    let before : Run = before_turn s run round in
    let none : round.turn ≡ None = subst (λ (b : Bool). MatchBool b (round.turn ≡ None) (MatchOption round.turn ⊥ (λ e. LegalTurnBy (setup_of s) marks (found_in s run round e) run.normal e))) b.normal legal.turns.normal in
    let still = states_still s (found_in s run round) round.turn before none in
    record {
      normal = ap (λ (m : NormalKept). m.ended) (after_normal s run round ∙ ap (λ (r : Run). r.normal) still ∙ before_normal s run round) ∙ b.normal;
      fast = fast_stays s run round b.fast;
    }

-- ## Within so many rounds

pub ended_within : (s : Session) (marks : Marks) (run : Run) → BothEnded run → EndWithin s marks 0 run
ended_within s marks run ended [] legal few = ended
ended_within s marks run ended (round ∷ rounds) legal few = ended_within s marks (after_round s run round) (both_stay s marks run round legal.0 ended) rounds legal.1 (omega arith)

-- both mixers end within one round more, if they do after each round
pub next_within : (s : Session) (marks : Marks) (n : ℕ) (run : Run) → ((round : RoundSeen) → LegalRound false s marks run round → EndWithin s marks n (after_round s run round)) → EndWithin s marks (suc n) run
next_within s marks n run next [] legal few = absurd (let z : ⊥ = omega (arith, few) in z)
next_within s marks n run next (round ∷ rounds) legal few = next round legal.0 rounds legal.1 (omega (arith, few))

-- if both mixers end within so many rounds, they do within more
pub more_within : (s : Session) (marks : Marks) (n m : ℕ) (run : Run) → n ≤ m → EndWithin s marks n run → EndWithin s marks m run
more_within s marks n m run low within rounds legal few = within rounds legal (omega (arith, low, few))

pub closing_within : (s : Session) (marks : Marks) (run : Run) → Closing run → EndWithin s marks 1 run
closing_within s marks run closing = next_within s marks 0 run (λ round legal. ended_within s marks (after_round s run round) (closing_done s marks run round legal closing))

module _ (s : Session) (marks : Marks) (scales : All (λ (x : Setting). x.scale ≤ 4096) (setup_of s).settings) where
  -- two rounds after the Exit was pushed both mixers have ended
  pub sent_within : (run : Run) → Sending s run ⊎ Closing run → EndWithin s marks 2 run
  sent_within run (inl sending) = next_within s marks 1 run (λ round legal. by (after_round s run round) (sending_next s marks scales run round legal sending))
    where
      by : (after : Run) → BothEnded after ⊎ Closing after → EndWithin s marks 1 after
      by after (inl ended) = more_within s marks 0 1 after (omega arith) (ended_within s marks after ended)
      by after (inr closing) = closing_within s marks after closing
  sent_within run (inr closing) = more_within s marks 1 2 run (omega arith) (closing_within s marks run closing)

  -- Three rounds after the one that orders the Exit both mixers have ended
  pub ordered_within : (run : Run) → Ordered s run ⊎ (Sending s run ⊎ Closing run) → EndWithin s marks 3 run
  ordered_within run (inl ordered) = next_within s marks 2 run (λ round legal. sent_within (after_round s run round) (ordered_next s marks scales run round legal ordered))
  ordered_within run (inr sent) = more_within s marks 2 3 run (omega arith) (sent_within run sent)
