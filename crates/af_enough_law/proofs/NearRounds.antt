-- A round brings a track nearer to the end of its life by a round, and keeps what is carried of its blocks.
use Rattle.std.proofs.Common.{◌≡◌, ◌⊎◌, inl, inr, ℕ, zero, suc, ◌+◌, ◌*◌, ◌^◌, ◌≤◌, ◌<◌, min, Bool, true, false, true≢false, List, [], ◌∷◌, length, refl, sym, ap, ◌∙◌, subst, arith}
use Rattle.af_enough_law.proofs.Common.{LegalRound, Life, Marks, RoundSeen, Run, ServerEvent, Session, Shape, TrackTold, after_round, client_list, ends_part, few_or_two, met_after, server_list, sides_of, told_at, track_at}
use Rattle.af_base.specs.declared.event.ServerEvent.TheVariants as server
use Rattle.af_enough_law.proofs.Basics.{taken-append}
use Rattle.af_enough_law.proofs.Courses.{stage}
use Rattle.af_enough_law.proofs.NearWords.{buffer_of}
use Rattle.af_enough_law.proofs.NormalRounds.{TurnMade}
use Rattle.af_enough_law.specs.Seen.{frames_put, frames_taken}
use Rattle.af_enough_law.proofs.CalmTracks.{CalmTrack, stream_lists}
use Rattle.af_enough_law.proofs.CommandsGo.{CalmCommands, OpenTurn}
use Rattle.af_enough_law.proofs.FastKnows.{knows_released}
use Rattle.af_enough_law.proofs.FlowRounds.{InFlow, FlowCame, sent, sends, fell, flow_round, stop_sent}
use Rattle.af_enough_law.proofs.Nearing.{Nearing, over, removed, stopped, drained, emptied, stopping, flowing, StreamRound, TrackRound, StreamMet, BlockCounts, BlockKept, drains_by, due_falls, over_then, rises, removes, stops, reports, numbers, calm_turn, sent_by}
use Rattle.af_enough_law.proofs.RunStreams.{round_grows}
use Rattle.af_enough_law.proofs.StopCounts.{stop_within, counts_round}
use Rattle.af_enough_law.proofs.RemoveRounds.{told_three, removes_round}
use Rattle.af_enough_law.proofs.TakesAll.{known_round, counted_round}

-- what is counted of a track's blocks is kept by each round
pub counts_kept : (cut : Bool) (s : Session) (marks : Marks) (run : Run) (round : RoundSeen) (i : ℕ) (t : TurnMade s marks run round) (legal : LegalRound cut s marks run round) (N base : ℕ) → BlockCounts run i N base → (turn : OpenTurn s marks run round i t) (known : List ServerEvent)
    → CalmCommands run i known → BlockCounts (after_round s run round) i N base
counts_kept cut s marks run round i t legal N base c turn known calm =
    let shape = (round_grows s run round i turn.low).shape in
    record {
      size = ap (λ (k : Shape). k.frames) shape ∙ c.size;
      base_is = ap (λ (k : Shape). k.base) shape ∙ c.base_is;
      block = record { cells = subst (λ (k : Shape). 1 ≤ k.cells) (sym shape) c.block.cells; frames = subst (λ (k : Shape). k.frames ≤ k.cells) (sym shape) c.block.frames };
      counts = counts_round cut s marks run round i legal turn.low turn.named calm.flushless c.counts;
      counted = counted_round cut s marks run round i t legal known calm turn c.counted;
    }

module _ (cut : Bool) (s : Session) (marks : Marks) (run : Run) (round : RoundSeen) (i : ℕ) (t : TurnMade s marks run round) (legal : LegalRound cut s marks run round) (N base : ℕ) (kept : BlockKept run i N base) (r : TrackRound s marks run round i t) where
  abbrev b : TrackTold
  b = told_at run i

  abbrev u : TrackTold
  u = told_at (after_round s run round) i

  abbrev life : Life
  life = (track_at run.normal.tracks i).life

  abbrev life_then : Life
  life_then = (track_at (after_round s run round).normal.tracks i).life

  more_sent : (n : ℕ) → n ≤ length b.commands.released → n ≤ length u.commands.released
  more_sent n some = let a = rises cut s marks run round i t legal N base kept r in omega (arith, some, a)

  sent_three : 6 ≤ length b.commands.released → 3 ≤ r.on.sent
  sent_three some = let a = sent_by cut s marks run round i t legal N base kept r in omega (arith, some, a)

  -- what its client has learnt of the stream's server
  pub known_of : StreamRound s marks run round i t → (met : StreamMet run i) → CalmTrack run i met.did r.known_commands
  known_of st met = record {
    stream = st.calm.stream;
    stream_hands = st.calm.stream_hands;
    stream_few = st.calm.stream_few;
    stream_later = server.Learn met.count ∷ [];
    stream_knows = met.server;
    knew_stream = inr (record { before = met.said; behind = []; whole = met.client });
    commands = r.commands.calm;
    commands_hands = r.commands.hands;
    commands_few = r.commands.few;
    commands_later = r.commands.later;
    commands_knows = r.commands.knows;
    knew_commands = r.commands.knew;
    is_open = r.commands.is_open;
    words = r.commands.words;
    spelled = r.commands.spelled;
    pokeless = r.commands.pokeless;
    flushless = r.commands.flushless;
  }

  -- ## What is kept

  pub kept_round : BlockKept (after_round s run round) i N base
  kept_round = record {
    block = counts_kept cut s marks run round i t legal N base kept.block r.turn r.known_commands r.commands;
    started = (let a = r.on.follows.settled in let c = r.gone.after.follows.settled in let d = r.gone.next in let e = kept.started in omega (arith, a, c, d, e));
    known = known_round cut s marks run round i t legal r.known_commands r.commands r.turn;
    met = λ alive few. met_then alive few life.ended refl;
  }
    where
      -- a life that has not ended had not before, and was no further
      met_then : life_then.ended ≡ false → stage life_then ≤ 1 → (d : Bool) → life.ended ≡ d → StreamMet (after_round s run round) i
      met_then alive few true ended = absurd (true≢false (sym (over_then cut s marks run round i t legal N base kept r ended) ∙ alive))
      met_then alive few false going = by (few_or_two (stage life))
        where
          made : StreamRound s marks run round i t → StreamMet (after_round s run round) i
          made st = let l = stream_lists s run round i r.turn.low st.part in record { did = l.did; count = l.count; server = l.server; said = _; client = l.client; released = knows_released s run round i r.turn.low (ends_part s (met_after s run round) i ∙ st.part) }

          by : (stage life ≤ 1) ⊎ (2 ≤ stage life) → StreamMet (after_round s run round) i
          by (inl low) = made (r.stream going alive low)
          by (inr high) = elim (reports cut s marks run round i t legal N base kept r going (omega (arith, high))) as (λ _. StreamMet (after_round s run round) i) [
            | inl ended ↦ absurd (true≢false (sym ended ∙ alive))
            | inr far ↦ absurd (let e = far.0 in let z : ⊥ = omega (arith, e, high, few) in z)
          ]

  -- ## The steps

  module _ (q full total : ℕ) (under : total < base + 2 ^ 32) (least : q ≡ min N (buffer_of s)) (some_q : 1 ≤ q) (some_full : 1 ≤ full) (holds : N ≤ q * full) where
    abbrev Then : ℕ → Type 0
    Then n = Nearing (after_round s run round) i q full total n

    -- if the life has ended after the round, nothing is left
    unless_over : (n : ℕ) → (life_then.ended ≡ false → Then n) → Then n
    unless_over n rest = by life_then.ended refl
      where
        by : (d : Bool) → life_then.ended ≡ d → Then n
        by true ended = over ended
        by false going = rest going

    drains : (n : ℕ) → life.ended ≡ false → 6 ≤ length b.commands.released → 2 ≤ stage life → 2 ≤ n → Then n
    drains n alive six two le = elim (reports cut s marks run round i t legal N base kept r alive (omega (arith, two))) as (λ _. Then n) [
      | inl ended ↦ over ended
      | inr far ↦ stopped (more_sent 6 six) (far.2 two) le
    ]

    empties : (n : ℕ) → life.ended ≡ false → 6 ≤ length b.commands.released → 1 ≤ stage life → frames_put (client_list b.stream) ≤ frames_taken (server_list b.stream) → 3 ≤ n → Then n
    empties n alive six one all le = unless_over n (λ going. by going (few_or_two (stage life)))
      where
        by : life_then.ended ≡ false → (stage life ≤ 1) ⊎ (2 ≤ stage life) → Then n
        by going (inr high) = drains n alive six high (omega (arith, le))
        by going (inl low) =
            let st = r.stream alive going low in
            let count = stop_within (sides_of b) r.on.count r.on.sent kept.block.counts r.on.released (sent_three six) in
            let hears = st.hears in
            elim (reports cut s marks run round i t legal N base kept r alive one) as (λ _. Then n) [
              | inl ended ↦ over ended
              | inr far ↦ drained (more_sent 6 six) (let e = far.1 (omega (arith, count.0, count.1, hears, all)) in omega (arith, e, one)) le
            ]

    stops_on : (n : ℕ) → life.ended ≡ false → 6 ≤ length b.commands.released → (d : ℕ) → frames_put (client_list b.stream) ≤ frames_taken (server_list b.stream) + q * suc d → suc d + 3 ≤ n → Then n
    stops_on n alive six d fits le = unless_over n (λ going. by going (few_or_two (stage life)))
      where
        fewer : (d : ℕ) → frames_put (client_list u.stream) ≤ frames_taken (server_list u.stream) + q * d → suc d + 3 ≤ n → Then n
        fewer zero fits le = elim (stops cut s marks run round i t legal N base kept r alive six) as (λ _. Then n) [
          | inl ended ↦ over ended
          | inr one ↦ emptied (more_sent 6 six) one (let none : q * 0 ≡ 0 = search arith in omega (arith, fits, none)) (omega (arith, le))
        ]
        fewer (suc d) fits le = stopping (more_sent 6 six) (suc d) (omega arith) fits (omega (arith, le))

        by : life_then.ended ≡ false → (stage life ≤ 1) ⊎ (2 ≤ stage life) → Then n
        by going (inr high) = drains n alive six high (omega (arith, le))
        by going (inl low) = elim (stop_sent (sides_of b) r.most r.total r.stands six) as (λ _. Then n) [
          | inl eight ↦ over (removes cut s marks run round i t legal N base kept r alive eight)
          | inr at ↦ elim (stop_sent (sides_of u) r.most r.total r.stands_then (more_sent 6 six)) as (λ _. Then n) [
            | inl eight ↦ removed eight (omega (arith, le))
            | inr at_then ↦
                let st = r.stream alive going low in
                let x = numbers cut s marks run round i t legal N base kept r st in
                let place = x.place in
                let place_then = x.place_then in
                let flows = st.flows in
                let same : frames_put (client_list u.stream) ≡ frames_put (client_list b.stream) = omega (arith, place, place_then, at, at_then) in
                let less = drains_by N (buffer_of s) q (frames_put (client_list b.stream)) (frames_taken (server_list b.stream)) (frames_taken (server_list u.stream)) d least fits flows in
                fewer d (omega (arith, same, less)) le
          ]
        ]

    stops_from : (n : ℕ) → life.ended ≡ false → 6 ≤ length b.commands.released → (d : ℕ) → 1 ≤ d → frames_put (client_list b.stream) ≤ frames_taken (server_list b.stream) + q * d → d + 3 ≤ n → Then n
    stops_from n alive six zero one fits le = absurd (let z : ⊥ = omega (arith, one) in z)
    stops_from n alive six (suc d) one fits le = stops_on n alive six d fits le

    flows_on : (n most due m : ℕ) → life.ended ≡ false → InFlow run i q most total due → due ≤ q * m → frames_put (client_list b.stream) ≤ frames_taken (server_list b.stream) + q * full → m + full + 4 ≤ n → Then n
    flows_on n most due m alive f portions fits le = unless_over n (λ going. by going (few_or_two (stage life)))
      where
        by : life_then.ended ≡ false → (stage life ≤ 1) ⊎ (2 ≤ stage life) → Then n
        by going (inr high) =
            let three = told_three r.on.count r.on.told life r.on.follows.course alive (omega (arith, high)) in
            let within = r.on.within in
            let long = sent_by cut s marks run round i t legal N base kept r in
            drains n alive (omega (arith, three, within, long)) high (omega (arith, le))
        by going (inl low) =
            let st = r.stream alive going low in
            let met = kept.met alive low in
            let x = numbers cut s marks run round i t legal N base kept r st in
            let up = x.fits in
            let size = kept.block.size in
            let base_is = kept.block.base_is in
            let known = ap frames_taken met.server in
            let split = taken-append met.did (server.Learn met.count ∷ []) in
            let fits_then : frames_put (client_list u.stream) ≤ frames_taken (server_list u.stream) + q * full = omega (arith, up, size, holds) in
            let came : FlowCame s run round i q total due =
            flow_round cut s marks run round i t (calm_turn cut s marks run round i t legal N base kept r st) legal met.did r.known_commands (known_of st met) st.able q total due
            (least ∙ ap (λ (k : ℕ). min k (buffer_of s)) (sym size)) kept.block.block (omega (arith, known, split)) st.flows most (omega (arith, under, base_is)) f in
            elim came as (λ _. Then n) [
              | sent six ↦ stops_from n alive six full some_full fits (omega (arith, le))
              | sends six ↦ stopping six full some_full fits_then (omega (arith, le))
              | fell most' left under_due f' ↦ later most' left under_due f' fits_then m portions le
            ]
          where
            later : (most' left : ℕ) → left + q ≤ due → InFlow (after_round s run round) i q most' total left → frames_put (client_list u.stream) ≤ frames_taken (server_list u.stream) + q * full → (m : ℕ) → due ≤ q * m → m + full + 4 ≤ n → Then n
            later most' left under_due f' fits_then zero portions le = absurd (let none : q * 0 ≡ 0 = search arith in let z : ⊥ = omega (arith, under_due, portions, none, some_q) in z)
            later most' left under_due f' fits_then (suc m) portions le = flowing most' left m f' (due_falls q left due m under_due portions) fits_then (omega (arith, le))

    -- A round brings the track nearer to its end
    pub nearer : (n : ℕ) → Nearing run i q full total (suc n) → Then n
    nearer n near = by life.ended refl near
      where
        by : (d : Bool) → life.ended ≡ d → Nearing run i q full total (suc n) → Then n
        by true ended near = over (over_then cut s marks run round i t legal N base kept r ended)
        by false alive (over ended) = absurd (true≢false (sym ended ∙ alive))
        by false alive (removed eight le) = over (removes cut s marks run round i t legal N base kept r alive eight)
        by false alive (stopped six three le) =
            removed (removes_round cut s marks run round i t legal r.known_commands r.commands r.turn kept.known.met r.on r.gone alive three r.most r.total r.stands six r.fair) (omega (arith, le))
        by false alive (drained six two le) = drains n alive six two (omega (arith, le))
        by false alive (emptied six one all le) = empties n alive six one all (omega (arith, le))
        by false alive (stopping six d one fits le) = stops_from n alive six d one fits (omega (arith, le))
        by false alive (flowing most due m f portions fits le) = flows_on n most due m alive f portions fits (omega (arith, le))
