-- A round of a track that plays and that the normal mixer mixes keeps what makes its retries two at least.
use Rattle.std.proofs.Common.{◌≡◌, ◌⊎◌, inl, inr, ℕ, zero, suc, ◌+◌, ◌*◌, ◌^◌, ◌≤◌, ◌<◌, true, false, [], ◌∷◌, length, refl, ap, ◌∙◌, arith}
use Rattle.af_enough_law.proofs.Common.{Client, Counts, LegalRound, Marks, NormalKept, RoundSeen, Run, Session, TakeSeen, after_round, client_list, count_seen, is_home, learnt, server_list, setup_of, sides_of, slot_reported, takes_from, told_at, track_at}
use Rattle.af_base.specs.declared.event.ServerEvent.TheVariants as server
use Rattle.af_enough_law.proofs.Basics.{taken-append}
use Rattle.af_enough_law.proofs.FastWords.{IsShown, frames_left_in}
use Rattle.af_enough_law.proofs.NearWords.{IsPast, buffer_of, calls_ahead, calls_left}
use Rattle.af_enough_law.proofs.NormalRounds.{TurnMade}
use Rattle.af_enough_law.specs.Seen.{frames_put, frames_taken}
use Rattle.af_enough_law.proofs.FairTurns.{codes_long}
use Rattle.af_enough_law.proofs.Following.{greeted_in, greeted_alike}
use Rattle.af_enough_law.proofs.GainRounds.{fed, sent, fewer, gain_round}
use Rattle.af_enough_law.proofs.GainTurns.{calls_few}
use Rattle.af_enough_law.proofs.HeardOwn.{greeted_own, own_turned, hears_own}
use Rattle.af_enough_law.proofs.HomeAble.{one_own, own_shown, shown_counted}
use Rattle.af_enough_law.proofs.Nearing.{StreamRound, StreamMet, TrackRound, BlockKept, calm_turn}
use Rattle.af_enough_law.proofs.NearRounds.{known_of}
use Rattle.af_enough_law.proofs.RetriesGone.{retries_gone, fresh_gone}
use Rattle.af_enough_law.proofs.Turning.{Stands, on, gone_for_good}

-- what a turn sees of the track: one look, and nothing else takes of it in the round
pub record HomeSeen (s : Session) (marks : Marks) (run : Run) (round : RoundSeen) (i : ℕ) (t : TurnMade s marks run round) : Type 0 where
  pub mix : TakeSeen
  pub is : takes_from t.turn.mixes i ≡ mix ∷ []
  pub shows : IsShown mix.slot.seen
  pub reaches : (count_seen mix.slot.seen ≡ buffer_of s) ⊎ (frames_put (client_list (told_at run i).stream) ≤ frames_taken (server_list (told_at run i).stream) + count_seen mix.slot.seen)
  pub all : frames_taken (server_list (told_at (after_round s run round) i).stream) ≡ frames_taken (server_list (told_at run i).stream) + count_seen mix.slot.seen

-- What makes a track at home that plays have two retries: its STOP was sent; its last look showed frames; frames are left in its block; or few calls are ahead of its client
pub data HomeAble (run : Run) (i : ℕ) : Type 0 where
  stops : 6 ≤ length (told_at run i).commands.released → 3 ≤ (track_at run.normal.tracks i).life.retries → HomeAble run i
  shown : 1 ≤ own_shown (track_at run.normal.tracks i) → 3 ≤ (track_at run.normal.tracks i).life.retries → HomeAble run i
  left : 1 ≤ frames_left_in (told_at run i).stream → 4 ≤ (track_at run.normal.tracks i).life.retries → HomeAble run i
  hungry : (k : ℕ) → k ≤ 17 → calls_left (told_at run i).client ≤ 64 * k → k + 5 ≤ (track_at run.normal.tracks i).life.retries → HomeAble run i

-- a track at home that is able has three retries
pub home_three : (run : Run) (i : ℕ) → HomeAble run i → 3 ≤ (track_at run.normal.tracks i).life.retries
home_three run i (stops six some) = some
home_three run i (shown h some) = some
home_three run i (left h some) = omega (arith, some)
home_three run i (hungry k few calls some) = omega (arith, some)

-- a track with 22, whose client is on its way or gone
pub home_fresh : (run : Run) (i most total : ℕ) → Stands (sides_of (told_at run i)) most total → 22 ≤ (track_at run.normal.tracks i).life.retries → HomeAble run i
home_fresh run i most total (gone_for_good ended given words codes) some = stops (let a = codes_long given (1 ∷ 2 ∷ 4 ∷ 6 ∷ []) codes in let b = ap length words in omega (arith, a, b)) (omega (arith, some))
home_fresh run i most total (on due ops m is does) some =
    let few = calls_few due ops m does.doing in
    let same : calls_left (told_at run i).client ≡ calls_ahead due ops = ap (λ (c : Client). calls_ahead c.due c.ops) is in
    hungry 17 (omega arith) (omega (arith, few, same)) (omega (arith, some))

module _ (s : Session) (marks : Marks) (run : Run) (round : RoundSeen) (i : ℕ) (t : TurnMade s marks run round) (legal : LegalRound false s marks run round) (N base : ℕ) (kept : BlockKept run i N base) (r : TrackRound s marks run round i t) (st : StreamRound s marks run round i t) (met : StreamMet run i)
    (plays : r.gone.after.told ≡ 2) (home : is_home (greeted_in run.normal t.turn i).holder ≡ true) (alive : (track_at run.normal.tracks i).life.ended ≡ false) (seen : HomeSeen s marks run round i t) (past : IsPast (told_at run i).client) (most_in total_in : ℕ) (stands_in : Stands (sides_of (told_at run i)) most_in total_in) (low : total_in < base + 2 ^ 32) (some_N : 1 ≤ N) (some : 1 ≤ buffer_of s) where
  abbrev after : Run
  after = after_round s run round

  -- a look that shows frames is its own after the round
  shows_own : 1 ≤ count_seen seen.mix.slot.seen → 1 ≤ own_shown (track_at after.normal.tracks i)
  shows_own one =
      let g = greeted_alike t.turn.ack run.normal.last (track_at run.normal.tracks i) in
      let own = ap (λ (m : NormalKept). (track_at m.tracks i).own) t.after
      ∙ own_turned (setup_of s) (learnt t.by.outside) run.normal t.turn i r.turn.there r.turn.runs home (ap (λ l. l.ended) g.life ∙ alive)
      ∙ one_own (buffer_of s) i _ t.turn.mixes seen.mix seen.is in
      let fulls = ap (λ (n : Counts). n.fulls) own in
      let partials = ap (λ (n : Counts). n.partials) own in
      let counted = shown_counted (buffer_of s) seen.mix.slot.seen seen.shows one in
      omega (arith, fulls, partials, counted)

  one_less : (n : ℕ) → n + 1 ≤ (track_at run.normal.tracks i).life.retries → n + 1 ≤ 50 → n ≤ (track_at after.normal.tracks i).life.retries
  one_less n has few = retries_gone s marks run round i r.on.told n t r.gone has few

  -- A round after which the track still plays keeps it able, if its STOP wasn't sent before
  pub home_able : length (told_at run i).commands.released ≤ 5 → HomeAble run i → HomeAble after i
  home_able few (stops six has) = absurd (let z : ⊥ = omega (arith, six, few) in z)
  home_able few (shown one has) =
      let own = greeted_own t.turn.ack run.normal.last (track_at run.normal.tracks i) in
      let fulls = ap (λ (n : Counts). n.fulls) own in
      let partials = ap (λ (n : Counts). n.partials) own in
      let hears = hears_own ((learnt t.by.outside).own i) (slot_reported (learnt t.by.outside) (greeted_in run.normal t.turn i)) (greeted_in run.normal t.turn i) home (omega (arith, one, fulls, partials)) in
      home_fresh after i r.most r.total r.stands_then (let a = fresh_gone s marks run round i t r.on r.turn r.gone plays (omega (arith, has)) hears in omega (arith, a))
  home_able few (left some_left has) = shown (shows_own (some_of seen.reaches)) (one_less 3 has (omega arith))
    where
      some_of : (count_seen seen.mix.slot.seen ≡ buffer_of s) ⊎ (frames_put (client_list (told_at run i).stream) ≤ frames_taken (server_list (told_at run i).stream) + count_seen seen.mix.slot.seen) → 1 ≤ count_seen seen.mix.slot.seen
      some_of (inl full) = omega (arith, full, some)
      some_of (inr most) = omega (arith, most, some_left)
  home_able few (hungry k small calls has) =
      let known = ap frames_taken met.server in
      let split = taken-append met.did (server.Learn met.count ∷ []) in
      let base_is = kept.block.base_is in
      let size = kept.block.size in
      let less = one_less (k + 4) (omega (arith, has)) (omega (arith, small)) in
      elim (gain_round false s marks run round i t (calm_turn false s marks run round i t legal N base kept r st) legal met.did r.known_commands (known_of false s marks run round i t legal N base kept r st met) st.able kept.block.block (omega (arith, size, some_N)) (omega (arith, known, split))
      most_in total_in (omega (arith, low, base_is)) stands_in past) as (λ _. HomeAble after i) [
        | fed more ↦ by_left (frames_left_in (told_at after i).stream) refl more less
        | sent six ↦ stops six (omega (arith, less))
        | fewer down ↦ next k small calls down less
      ]
    where
      by_left : (n : ℕ) → frames_left_in (told_at (after_round s run round) i).stream ≡ n → frames_taken (server_list (told_at run i).stream) + 1 ≤ frames_put (client_list (told_at (after_round s run round) i).stream) → k + 4 ≤ (track_at (after_round s run round).normal.tracks i).life.retries → HomeAble (after_round s run round) i
      by_left zero none more less = let all = seen.all in shown (shows_own (omega (arith, all, none, more))) (omega (arith, less))
      by_left (suc n) some_left more less = left (omega (arith, some_left)) (omega (arith, less))

      next : (k : ℕ) → k ≤ 17 → calls_left (told_at run i).client ≤ 64 * k → calls_left (told_at (after_round s run round) i).client + 64 ≤ calls_left (told_at run i).client → k + 4 ≤ (track_at (after_round s run round).normal.tracks i).life.retries → HomeAble (after_round s run round) i
      next zero small calls down less = absurd (let z : ⊥ = omega (arith, calls, down) in z)
      next (suc k) small calls down less = hungry k (omega (arith, small)) (omega (arith, calls, down)) (omega (arith, less))
