-- A round brings a track on that flows: by a portion at least of what is still to be put, to be taken and to be done.
use Rattle.std.proofs.Common.{◌≡◌, ◌⊎◌, inl, inr, ℕ, zero, suc, ◌+◌, ◌-◌, ◌*◌, ◌^◌, ◌≤◌, ◌<◌, min, Bool, true, false, true≢false, List, [], ◌∷◌, length, fold, refl, sym, ap, ◌∙◌, subst, arith}
use Rattle.af_enough_law.proofs.Common.{Client, ClientCall, LegalRound, Marks, Mode, Op, RoundSeen, Run, ServerEvent, Session, Shape, Track, TrackTold, Want, after_call, after_calls, after_round, begins_ended, begun, calls_in, client_list, server_list, sides_of, told_at, track_in}
use Rattle.af_script.specs.declared.op.Op.TheVariants as op
use Rattle.af_runs.specs.declared.want.Want.TheVariants as want
use Rattle.af_enough_law.proofs.NearWords.{is_started, IsPast, buffer_of, RoundFlows}
use Rattle.af_enough_law.proofs.NormalRounds.{TurnMade}
use Rattle.af_enough_law.proofs.Playing.{IsWay, way_ops, Doing, opening, starting, settling, setting, writing, clearing, clearing_more, stopping, draining, removing, position, AreFair}
use Rattle.af_enough_law.specs.Seen.{frames_put, frames_taken}
use Rattle.af_enough_law.proofs.Advancing.{IsBlock, Progress, fills, falls, at_end, rank, shapes_stay}
use Rattle.af_enough_law.proofs.BlockNumbers.{block_numbers}
use Rattle.af_enough_law.proofs.CalmRuns.{calls_fair}
use Rattle.af_enough_law.proofs.CalmTracks.{CalmTrack, CalmTurn, calm_round, round_released}
use Rattle.af_enough_law.proofs.ClientGoesOn.{client_after, carried, mixer_goes}
use Rattle.af_enough_law.proofs.ClientRounds.{comes_on}
use Rattle.af_enough_law.proofs.Doing.{at, ops_count, frames_count, codes_sent, codes_of}
use Rattle.af_enough_law.proofs.FairTurns.{codes_long}
use Rattle.af_enough_law.proofs.RunStreams.{round_grows}
use Rattle.af_enough_law.proofs.Started.{turn_past}
use Rattle.af_enough_law.proofs.TrackGoes.{same_position, made_of}
use Rattle.af_enough_law.proofs.Turning.{words_of, Left, Stands, on, gone_for_good, Came, stands_after, turn_whole}

-- ## What is left

-- the frames still to be put and to be taken of a total, and a portion for each op left
abbrev pub still_due : Run → ℕ → (q most total : ℕ) → ℕ
still_due run i q most total = let b = (told_at run i).stream in (total - (b.shape.base + frames_put (client_list b))) + (total - (b.shape.base + frames_taken (server_list b))) + q * most

-- A track flows: its client is past its start, has so many ops left at most, and at most so much is still due
pub record InFlow (run : Run) (i q most total due : ℕ) : Type 0 where
  pub stands : Stands (sides_of (told_at run i)) most total
  pub past : IsPast (told_at run i).client
  pub left : still_due run i q most total ≤ due

-- in numbers: a round that puts up to all that the block holds, or does an op
full_falls : (N Q q base put taken put' taken' total k due : ℕ) → q ≡ min N Q → taken + min (put - taken) Q ≤ taken' → put ≤ put' → taken' ≤ put' → base + put' ≤ total → base + taken + N ≤ base + put'
    → (total - (base + put)) + (total - (base + taken)) + q * k ≤ due → (total - (base + put')) + (total - (base + taken')) + q * k + q ≤ due
full_falls N Q q base put taken put' taken' total k due least takes puts within low full left = omega (arith, least, takes, puts, within, low, full, left)

op_falls : (q base put taken put' taken' total k due : ℕ) → taken ≤ taken' → put ≤ put' → (total - (base + put)) + (total - (base + taken)) + q * suc k ≤ due → (total - (base + put')) + (total - (base + taken')) + q * k + q ≤ due
op_falls q base put taken put' taken' total k due takes puts left = let split : q * suc k ≡ q * k + q = search arith in omega (arith, split, takes, puts, left)

-- ## What a client past its start does

-- a client has sent its STOP, or is among its gains, its writes and its stop
data Kind (due : List Want) (ops : List Op) (m : Mode) : Type 0 where
  stopped : codes_sent due m ≡ 1 ∷ 2 ∷ 4 ∷ [] → Kind due ops m
  flows : ((b : Bool) → (1 ≤ rank due b) × (rank due b ≤ 64)) → 1 ≤ ops_count due ops → Kind due ops m

write_rank : (count : ℕ) (wants : List Want) (b : Bool) → (1 ≤ rank (want.Write count ∷ wants) b) × (rank (want.Write count ∷ wants) b ≤ 64)
unfolding rank
write_rank count wants true = (omega arith, omega arith)
write_rank count wants false = (omega arith, omega arith)

clear_rank : (w : Want) (wants : List Want) (b : Bool) → (1 ≤ rank (want.Clear ∷ w ∷ wants) b) × (rank (want.Clear ∷ w ∷ wants) b ≤ 64)
unfolding rank
clear_rank w wants true = (omega arith, omega arith)
clear_rank w wants false = (omega arith, omega arith)

way_some : (gains : ℕ) (ops : List Op) → IsWay gains ops → 1 ≤ way_ops ops
way_some gains (op.Gain left right ∷ ops) way = omega arith
way_some gains (op.Write count ∷ ops) way = omega arith
way_some gains (op.Stop ∷ op.Drain ∷ op.Remove ∷ []) way = omega arith
way_some gains _ way = absurd way

kind : (due : List Want) (ops : List Op) (m : Mode) → Doing due ops m → is_started due ≡ true → Kind due ops m
unfolding rank
kind _ _ _ (opening ops way) h = absurd (true≢false (sym h))
kind _ _ _ (starting ops way) h = absurd (true≢false (sym h))
kind _ _ _ (settling ops way) h = absurd (true≢false (sym h))
kind _ _ _ (setting left right gains ops way) h = flows (λ b. (omega arith, omega arith)) (omega arith)
kind _ _ _ (writing count ops some way) h = flows (write_rank count []) (omega arith)
kind _ _ _ (clearing ops way) h = flows (λ b. (omega arith, omega arith)) (let some = way_some 0 ops way in omega arith)
kind _ _ _ (clearing_more count ops some way) h = flows (clear_rank (want.Write count) []) (omega arith)
kind _ _ _ stopping h = flows (λ b. (omega arith, omega arith)) (omega arith)
kind _ _ _ draining h = stopped refl
kind _ _ _ removing h = stopped refl

-- ## The round

-- the STOP was sent before the round, or in it, or a portion less is due after it
pub data FlowCame (s : Session) (run : Run) (round : RoundSeen) (i q total due : ℕ) : Type 0 where
  sent : 6 ≤ length (told_at run i).commands.released → FlowCame s run round i q total due
  sends : 6 ≤ length (told_at (after_round s run round) i).commands.released → FlowCame s run round i q total due
  fell : (most left : ℕ) → left + q ≤ due → InFlow (after_round s run round) i q most total left → FlowCame s run round i q total due

-- the words of all commands, or of those up to the STOP
pub words_some : (released : List ℕ) (given : List (ℕ × ℕ)) (codes : List ℕ) → released ≡ words_of given → codes_of given ≡ codes → 3 ≤ length codes → 6 ≤ length released
words_some released given codes words is some = let a = codes_long given codes is in let b = ap length words in omega (arith, a, b, some)

-- a client that has sent its STOP has sent its REMOVE too, or has put all
pub stop_sent : (t : Track) (most total : ℕ) → Stands t most total → 6 ≤ length t.commands.released → (8 ≤ length t.commands.released) ⊎ (position t.stream ≡ total)
stop_sent t most total (gone_for_good ended given words codes) some = let a = codes_long given (1 ∷ 2 ∷ 4 ∷ 6 ∷ []) codes in let b = ap length words in inl (omega (arith, a, b))
stop_sent t most total (on wants ops m is left) some = by wants ops m left.doing (codes_long left.sent (codes_sent wants m) left.codes) left.sum
  where
    here : length t.commands.released ≡ length (words_of left.sent)
    here = ap length left.words

    few : (n : ℕ) → length (words_of left.sent) ≡ 2 * n → n ≤ 2 → ⊥
    few n long low = let h = here in omega (arith, long, low, h, some)

    by : (wants : List Want) (ops : List Op) (m : Mode) → Doing wants ops m → length (words_of left.sent) ≡ 2 * length (codes_sent wants m) → frames_count wants ops + position t.stream ≡ total → (8 ≤ length t.commands.released) ⊎ (position t.stream ≡ total)
    by _ _ _ (opening ops way) long sum = absurd (few 0 long (omega arith))
    by _ _ _ (starting ops way) long sum = absurd (few 1 long (omega arith))
    by _ _ _ (settling ops way) long sum = absurd (few 2 long (omega arith))
    by _ _ _ (setting l r gains ops way) long sum = absurd (few 2 long (omega arith))
    by _ _ _ (writing count ops one way) long sum = absurd (few 2 long (omega arith))
    by _ _ _ (clearing ops way) long sum = absurd (few 2 long (omega arith))
    by _ _ _ (clearing_more count ops one way) long sum = absurd (few 2 long (omega arith))
    by _ _ _ stopping long sum = absurd (few 2 long (omega arith))
    by _ _ _ draining long sum = inr (omega (arith, sum))
    by _ _ _ removing long sum = inr (omega (arith, sum))

module _ (cut : Bool) (s : Session) (marks : Marks) (run : Run) (round : RoundSeen) (i : ℕ) (t : TurnMade s marks run round) (turn : CalmTurn s marks run round i t) (legal : LegalRound cut s marks run round)
    (known_stream known_commands : List ServerEvent) (calm : CalmTrack run i known_stream known_commands) (able : (track_in t.turn i).disabled ≡ false) where
  abbrev b : TrackTold
  b = told_at run i

  abbrev u : TrackTold
  u = told_at (after_round s run round) i

  abbrev calls : List ClientCall
  calls = calls_in round i

  abbrev last : Track
  last = fold after_call (sides_of b) calls

  module _ (q total due : ℕ) (least : q ≡ min b.stream.shape.frames (buffer_of s)) (block : IsBlock (sides_of b)) (knows : frames_taken (server_list b.stream) ≤ frames_taken known_stream) (flow : RoundFlows s run round i) where
    -- how far it came, by what its client did
    came_far : (k : ℕ) → still_due run i q (suc k) total ≤ due → AreFair calls → IsPast u.client → ((most : ℕ) → Came last most total → Stands (sides_of u) most total) → position (sides_of u).stream ≡ position last.stream
        → Progress (b.stream.shape.base + frames_taken known_stream) k total last → FlowCame s run round i q total due
    came_far k still fair past stands_by same (falls came) =
        let n = block_numbers cut s marks run round i t turn legal known_stream known_commands calm able in
        let shape = ap (λ (x : Shape). x.base) (round_grows s run round i turn.low).shape in
        fell k (still_due (after_round s run round) i q k total)
        (subst (λ (base : ℕ). (total - (base + frames_put (client_list u.stream))) + (total - (base + frames_taken (server_list u.stream))) + q * k + q ≤ due) (sym shape)
        (op_falls q b.stream.shape.base (frames_put (client_list b.stream)) (frames_taken (server_list b.stream)) (frames_put (client_list u.stream)) (frames_taken (server_list u.stream)) total k due n.takes n.puts still))
        (record { stands = stands_by k came; past = past; left = omega arith })
    came_far k still fair past stands_by same (fills full came) = by (stands_by (suc k) came)
      where
        by : Stands (sides_of u) (suc k) total → FlowCame s run round i q total due
        by (gone_for_good ended given words codes) = sends (words_some u.commands.released given (1 ∷ 2 ∷ 4 ∷ 6 ∷ []) words codes (omega arith))
        by (on wants ops m is left) =
            let n = block_numbers cut s marks run round i t turn legal known_stream known_commands calm able in
            let shape = ap (λ (x : Shape). x.base) (round_grows s run round i turn.low).shape in
            let size : last.stream.shape.frames ≡ b.stream.shape.frames = ap (λ (x : Shape). x.frames) (shapes_stay (sides_of b) calls fair) in
            let there = n.place_then in
            let sum = left.sum in
            let up : b.stream.shape.base + frames_put (client_list u.stream) ≤ total = omega (arith, there, sum) in
            let filled : b.stream.shape.base + frames_taken (server_list b.stream) + b.stream.shape.frames ≤ b.stream.shape.base + frames_put (client_list u.stream) = omega (arith, there, same, size, full, knows) in
            fell (suc k) (still_due (after_round s run round) i q (suc k) total)
            (subst (λ (base : ℕ). (total - (base + frames_put (client_list u.stream))) + (total - (base + frames_taken (server_list u.stream))) + q * suc k + q ≤ due) (sym shape)
            (full_falls b.stream.shape.frames (buffer_of s) q b.stream.shape.base (frames_put (client_list b.stream)) (frames_taken (server_list b.stream)) (frames_put (client_list u.stream)) (frames_taken (server_list u.stream)) total (suc k) due
            least flow n.puts n.within up filled still))
            (record { stands = on wants ops m is left; past = past; left = omega arith })

    -- A legal round of a track that flows brings it on, or its STOP was sent
    pub flow_round : (most : ℕ) → total < b.stream.shape.base + frames_taken known_stream + 2 ^ 32 → InFlow run i q most total due → FlowCame s run round i q total due
    flow_round most low f = by most f.stands f.past f.left
      where
        goes : (k : ℕ) (wants : List Want) (ops : List Op) (m : Mode) → begun b.client ≡ at wants ops m → Left (sides_of b) wants ops m (suc k) total → is_started wants ≡ true → ((d : Bool) → (1 ≤ rank wants d) × (rank wants d ≤ 64))
            → still_due run i q (suc k) total ≤ due → FlowCame s run round i q total due
        goes k wants ops m is left started ranks still =
            let fair = calls_fair cut s marks run round i t turn legal known_stream known_commands calm able (suc k) total (on wants ops m is left) in
            let made = made_of cut s marks run round i t legal turn.low turn.named turn.runs fair wants ops m is in
            let whole = turn_whole 64 (sides_of b) calls made in
            let client = client_after s run round i turn.low (mixer_goes s marks run round t turn.runs) in
            let same = same_position cut s marks run round i t legal turn.low turn.named turn.runs fair in
            let rank_at = ranks (at_end (sides_of b)) in
            came_far k still fair (subst IsPast (sym client) (turn_past (sides_of b) calls wants ops m is left.doing started made fair whole))
            (λ most came. carried (after_calls (sides_of b) calls) (sides_of u) most total client same (round_released s run round i turn.low) (stands_after last (length calls) most total came whole))
            same
            (comes_on cut s marks run round i turn.low turn.named legal calm.spelled calm.pokeless known_stream known_commands (calm_round cut s marks run round i t turn legal known_stream known_commands calm able)
            wants ops m k total block low is left rank_at.0 rank_at.1)

        by_kind : (most : ℕ) (wants : List Want) (ops : List Op) (m : Mode) → begun b.client ≡ at wants ops m → Left (sides_of b) wants ops m most total → is_started wants ≡ true → Kind wants ops m → still_due run i q most total ≤ due → FlowCame s run round i q total due
        by_kind most wants ops m is left started (stopped codes) still = sent (words_some b.commands.released left.sent (1 ∷ 2 ∷ 4 ∷ []) left.words (left.codes ∙ codes) (omega arith))
        by_kind zero wants ops m is left started (flows ranks some) still = let few = left.few in absurd (let z : ⊥ = omega (arith, few, some) in z)
        by_kind (suc k) wants ops m is left started (flows ranks some) still = goes k wants ops m is left started ranks still

        started_of : (wants : List Want) (ops : List Op) (m : Mode) → begun b.client ≡ at wants ops m → IsPast b.client → is_started wants ≡ true
        started_of wants ops m is (inl ended) = absurd (true≢false (sym ended ∙ sym (begins_ended b.client b.client.due b.client.ops) ∙ ap (λ (c : Client). c.ended) is))
        started_of wants ops m is (inr started) = sym (ap (λ (c : Client). is_started c.due) is) ∙ started

        by : (most : ℕ) → Stands (sides_of b) most total → IsPast b.client → still_due run i q most total ≤ due → FlowCame s run round i q total due
        by most (gone_for_good ended given words codes) past still = sent (words_some b.commands.released given (1 ∷ 2 ∷ 4 ∷ 6 ∷ []) words codes (omega arith))
        by most (on wants ops m is left) past still = let started = started_of wants ops m is past in by_kind most wants ops m is left started (kind wants ops m left.doing started) still
