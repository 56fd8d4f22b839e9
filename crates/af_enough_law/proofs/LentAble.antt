-- The retries of a lent track that plays, in numbers: a round keeps what makes them two at least.
use Rattle.std.proofs.Common.{◌≡◌, ◌⊎◌, inl, inr, ℕ, zero, suc, ◌+◌, ◌*◌, ◌^◌, ◌≤◌, ◌<◌, false, [], ◌∷◌, length, ap, arith}
use Rattle.af_enough_law.proofs.Common.{Client, Counts, FastTrack, LegalRound, Marks, RoundSeen, Run, Session, after_round, below_or_not, client_list, cycle_frames, learnt, server_list, sides_of, slot_reported, told_at, track_at}
use Rattle.af_base.specs.declared.event.ServerEvent.TheVariants as server
use Rattle.af_enough_law.proofs.Basics.{taken-append}
use Rattle.af_enough_law.proofs.FastWords.{frames_left_in, heard_in}
use Rattle.af_enough_law.proofs.NearWords.{IsPast, calls_ahead, calls_left}
use Rattle.af_enough_law.proofs.NormalRounds.{TurnMade}
use Rattle.af_enough_law.specs.Seen.{frames_put, frames_taken}
use Rattle.af_enough_law.proofs.CourseGoes.{OnCourse}
use Rattle.af_enough_law.proofs.FairTurns.{codes_long}
use Rattle.af_enough_law.proofs.FastReports.{heard_some}
use Rattle.af_enough_law.proofs.Following.{greeted_in}
use Rattle.af_enough_law.proofs.FastFound.{shown_looks}
use Rattle.af_enough_law.proofs.GainRounds.{fed, sent, fewer, gain_round}
use Rattle.af_enough_law.proofs.GainTurns.{calls_few}
use Rattle.af_enough_law.proofs.LentFlows.{LentGone}
use Rattle.af_enough_law.proofs.LentHears.{IsUnheard, HearsFrames, looks_noted, by_report}
use Rattle.af_enough_law.proofs.LentRounds.{LentCarried, HeardOf}
use Rattle.af_enough_law.proofs.Nearing.{StreamRound, StreamMet, TrackRound, BlockKept, calm_turn, numbers}
use Rattle.af_enough_law.proofs.NearRounds.{known_of}
use Rattle.af_enough_law.proofs.RetriesGone.{retries_gone, fresh_gone}
use Rattle.af_enough_law.proofs.RetriesKept.{unheard_back, left_back}
use Rattle.af_enough_law.proofs.Turning.{Stands, on, gone_for_good}

-- What makes a lent track that plays have two retries: its STOP was sent; the report tells of looks that weren't heard of; frames are left in its block; or few calls are ahead of its client
pub data LentAble (run : Run) (i slot : ℕ) : Type 0 where
  stops : 6 ≤ length (told_at run i).commands.released → 3 ≤ (track_at run.normal.tracks i).life.retries → LentAble run i slot
  unheard : IsUnheard run i slot → 3 ≤ (track_at run.normal.tracks i).life.retries → LentAble run i slot
  left : 1 ≤ frames_left_in (told_at run i).stream → 4 ≤ (track_at run.normal.tracks i).life.retries → LentAble run i slot
  hungry : (k : ℕ) → k ≤ 17 → calls_left (told_at run i).client ≤ 64 * k → k + 5 ≤ (track_at run.normal.tracks i).life.retries → LentAble run i slot

-- a lent track that is able has three retries
pub lent_three : (run : Run) (i slot : ℕ) → LentAble run i slot → 3 ≤ (track_at run.normal.tracks i).life.retries
lent_three run i slot (stops six some) = some
lent_three run i slot (unheard h some) = some
lent_three run i slot (left h some) = omega (arith, some)
lent_three run i slot (hungry k few calls some) = omega (arith, some)

-- a track with 22, whose client is on its way or gone
pub lent_fresh : (run : Run) (i slot most total : ℕ) → Stands (sides_of (told_at run i)) most total → 22 ≤ (track_at run.normal.tracks i).life.retries → LentAble run i slot
lent_fresh run i slot most total (gone_for_good ended given words codes) some = stops (let a = codes_long given (1 ∷ 2 ∷ 4 ∷ 6 ∷ []) codes in let b = ap length words in omega (arith, a, b)) (omega (arith, some))
lent_fresh run i slot most total (on due ops m is does) some =
    let few = calls_few due ops m does.doing in
    let same : calls_left (told_at run i).client ≡ calls_ahead due ops = ap (λ (c : Client). calls_ahead c.due c.ops) is in
    hungry 17 (omega arith) (omega (arith, few, same)) (omega (arith, some))

module _ (s : Session) (marks : Marks) (run : Run) (round : RoundSeen) (i most total slot : ℕ) (item : FastTrack) (t : TurnMade s marks run round) (on_it : OnCourse run i) (l : LentCarried s run i slot item) (gone : LentGone s marks run round i most total slot item t on_it.told) (plays : gone.track.gone.after.told ≡ 2)
    (legal : LegalRound false s marks run round) (N base : ℕ) (kept : BlockKept run i N base) (r : TrackRound s marks run round i t) (st : StreamRound s marks run round i t) (met : StreamMet run i) (past : IsPast (told_at run i).client) (most_in total_in : ℕ) (stands_in : Stands (sides_of (told_at run i)) most_in total_in) (low : total_in < base + 2 ^ 32) (some_N : 1 ≤ N) (one : 1 ≤ cycle_frames s) (heard_of : HeardOf run i slot) where
  abbrev after : Run
  after = after_round s run round

  -- frames that the round took are heard of by its turn, or told of by its last report and not heard of yet
  hears_in : 1 ≤ heard_in slot round.entries → HearsFrames s marks run round i t ⊎ IsUnheard after i slot
  hears_in some = by (below_or_not (looks_noted (track_at run.normal.tracks i)) (shown_looks (slot_reported (learnt t.by.outside) (greeted_in run.normal t.turn i))))
    where
      by : (looks_noted (track_at run.normal.tracks i) < shown_looks (slot_reported (learnt t.by.outside) (greeted_in run.normal t.turn i))) ⊎ (shown_looks (slot_reported (learnt t.by.outside) (greeted_in run.normal t.turn i)) ≤ looks_noted (track_at run.normal.tracks i))
          → HearsFrames s marks run round i t ⊎ IsUnheard (after_round s run round) i slot
      by (inl less) = inl (by_report s marks run round i most total slot item t on_it.told l gone less)
      by (inr few) =
          let counted = (gone.reported.counted l.used).heard in
          let before = heard_of in
          let fulls = ap (λ (n : Counts). n.fulls) gone.noted in
          let partials = ap (λ (n : Counts). n.partials) gone.noted in
          inr (omega (arith, few, some, counted, before, fulls, partials))

  fresh : HearsFrames s marks run round i t → 2 ≤ (track_at run.normal.tracks i).life.retries → LentAble after i slot
  fresh hears two = lent_fresh after i slot most total gone.track.carried.stands (let a = fresh_gone s marks run round i t on_it gone.open_is gone.track.gone plays two hears in omega (arith, a))

  one_less : (n : ℕ) → n + 1 ≤ (track_at run.normal.tracks i).life.retries → n + 1 ≤ 50 → n ≤ (track_at after.normal.tracks i).life.retries
  one_less n some few = retries_gone s marks run round i on_it.told n t gone.track.gone some few

  -- A round after which the track still plays keeps it able, if its STOP wasn't sent before
  pub lent_able : length (told_at run i).commands.released ≤ 5 → LentAble run i slot → LentAble after i slot
  lent_able few (stops six some) = absurd (let z : ⊥ = omega (arith, six, few) in z)
  lent_able few (unheard h some) = lent_fresh after i slot most total gone.track.carried.stands (let a = unheard_back s marks run round i most total slot item t on_it l gone plays (omega (arith, some)) h in omega (arith, a))
  lent_able few (left h some) = elim (left_back s marks run round i most total slot item t on_it l gone plays (omega (arith, some)) heard_of 3 (omega (arith, some)) (omega arith) one h) as (λ _. LentAble after i slot) [
    | inl back ↦ lent_fresh after i slot most total gone.track.carried.stands (omega (arith, back))
    | inr more ↦ unheard more.0 more.1
  ]
  lent_able few (hungry k small calls some) =
      let known = ap frames_taken met.server in
      let split = taken-append met.did (server.Learn met.count ∷ []) in
      let base_is = kept.block.base_is in
      let size = kept.block.size in
      let n = numbers false s marks run round i t legal N base kept r st in
      let less = one_less (k + 4) (omega (arith, some)) (omega (arith, small)) in
      elim (gain_round false s marks run round i t (calm_turn false s marks run round i t legal N base kept r st) legal met.did r.known_commands (known_of false s marks run round i t legal N base kept r st met) st.able kept.block.block (omega (arith, size, some_N)) (omega (arith, known, split))
      most_in total_in (omega (arith, low, base_is)) stands_in past) as (λ _. LentAble after i slot) [
        | fed more ↦ by_left (below_or_not (frames_taken (server_list (told_at after i).stream)) (frames_put (client_list (told_at after i).stream))) more less
        | sent six ↦ stops six (omega (arith, less))
        | fewer down ↦ next k small calls some down less
      ]
    where
      by_left : (frames_taken (server_list (told_at (after_round s run round) i).stream) < frames_put (client_list (told_at (after_round s run round) i).stream)) ⊎ (frames_put (client_list (told_at (after_round s run round) i).stream) ≤ frames_taken (server_list (told_at (after_round s run round) i).stream))
          → frames_taken (server_list (told_at run i).stream) + 1 ≤ frames_put (client_list (told_at (after_round s run round) i).stream) → k + 4 ≤ (track_at (after_round s run round).normal.tracks i).life.retries → LentAble (after_round s run round) i slot
      by_left (inl some_left) more less = left (omega (arith, some_left)) (omega (arith, less))
      by_left (inr none) more less =
          let taken = gone.flowed.taken in
          elim (hears_in (heard_some slot round.entries (omega (arith, taken, none, more)))) as (λ _. LentAble (after_round s run round) i slot) [
            | inl hears ↦ fresh hears (omega (arith, some))
            | inr not_yet ↦ unheard not_yet (omega (arith, less))
          ]

      next : (k : ℕ) → k ≤ 17 → calls_left (told_at run i).client ≤ 64 * k → k + 5 ≤ (track_at run.normal.tracks i).life.retries → calls_left (told_at (after_round s run round) i).client + 64 ≤ calls_left (told_at run i).client → k + 4 ≤ (track_at (after_round s run round).normal.tracks i).life.retries → LentAble (after_round s run round) i slot
      next zero small calls some down less = absurd (let z : ⊥ = omega (arith, calls, down) in z)
      next (suc k) small calls some down less = hungry k (omega (arith, small)) (omega (arith, calls, down)) (omega (arith, less))
