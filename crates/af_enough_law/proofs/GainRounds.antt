-- A round of a track whose client is past its start: frames lie past those that were taken before it, its STOP was sent, or 64 calls less are ahead of it.
use Rattle.std.proofs.Common.{◌≡◌, ◌⊎◌, inl, inr, ℕ, ◌+◌, ◌*◌, ◌^◌, ◌≤◌, ◌<◌, ◌==◌, Bool, true, false, true≢false, MatchBool, List, [], ◌∷◌, length, fold, sym, ap, ◌∙◌, arith}
use Rattle.af_enough_law.proofs.Common.{AreCalls, Client, ClientCall, LegalRound, Marks, Mode, Op, RoundSeen, Run, ServerEvent, Session, Track, TrackTold, Want, after_call, after_round, at_next_turn, begins_ended, begun, calls_in, client_list, next_want, server_list, sides_of, told_at, track_in, wanted_of}
use Rattle.af_enough_law.proofs.NearWords.{is_started, IsPast, calls_ahead, calls_left}
use Rattle.af_enough_law.proofs.NormalRounds.{TurnMade}
use Rattle.af_enough_law.specs.Seen.{frames_put, frames_taken}
use Rattle.af_enough_law.proofs.Advancing.{IsBlock}
use Rattle.af_enough_law.proofs.BlockNumbers.{BlockNumbers, block_numbers}
use Rattle.af_enough_law.proofs.CalmTracks.{CalmTrack, CalmTurn, calm_round, round_released}
use Rattle.af_enough_law.proofs.ClientGoesOn.{client_after, mixer_goes}
use Rattle.af_enough_law.proofs.ClientRounds.{fair_round}
use Rattle.af_enough_law.proofs.Doing.{at, codes_sent}
use Rattle.af_enough_law.proofs.FairTurns.{codes_long}
use Rattle.af_enough_law.proofs.GainTurns.{writes, stops, nears, gain_calls}
use Rattle.af_enough_law.proofs.TrackGoes.{goes_by, same_position}
use Rattle.af_enough_law.proofs.Turning.{Left, Stands, on, gone_for_good, turn_whole, wanted_first, none_some, next_cut, begins_rested}
use Rattle.af_enough_law.proofs.FlowRounds.{words_some}

pub data GainRound (run : Run) (s : Session) (round : RoundSeen) (i : ℕ) : Type 0 where
  fed : frames_taken (server_list (told_at run i).stream) + 1 ≤ frames_put (client_list (told_at (after_round s run round) i).stream) → GainRound run s round i
  sent : 6 ≤ length (told_at (after_round s run round) i).commands.released → GainRound run s round i
  fewer : calls_left (told_at (after_round s run round) i).client + 64 ≤ calls_left (told_at run i).client → GainRound run s round i

-- a client that was cut after its 64th call goes on as it was
still_next : (count : ℕ) (last : Client) (due : List Want) (ops : List Op) (m : Mode) → count ≡ 64 → begun last ≡ at due ops m → calls_left (at_next_turn (count == 64) last) ≡ calls_ahead due ops
still_next count last due ops m all is =
    let cut : (count == 64) ≡ true = search (arith, all) in
    let next : at_next_turn (count == 64) last ≡ record last { waiting = false } = ap (λ (b : Bool). at_next_turn b last) cut ∙ next_cut last last.waiting last.ended in
    ap calls_left next ∙ ap (λ (c : Client). calls_ahead c.due c.ops) (begins_rested last false last.due last.ops) ∙ ap (λ (c : Client). calls_ahead c.due c.ops) is

module _ (cut : Bool) (s : Session) (marks : Marks) (run : Run) (round : RoundSeen) (i : ℕ) (t : TurnMade s marks run round) (turn : CalmTurn s marks run round i t) (legal : LegalRound cut s marks run round)
    (known_stream known_commands : List ServerEvent) (calm : CalmTrack run i known_stream known_commands) (able : (track_in t.turn i).disabled ≡ false) (block : IsBlock (sides_of (told_at run i))) (frames : 1 ≤ (told_at run i).stream.shape.frames)
    (knows : frames_taken (server_list (told_at run i).stream) ≤ frames_taken known_stream) where
  abbrev v : Track
  v = sides_of (told_at run i)

  abbrev u : TrackTold
  u = told_at (after_round s run round) i

  abbrev calls : List ClientCall
  calls = calls_in round i

  abbrev from : ℕ
  from = (told_at run i).stream.shape.base + frames_taken known_stream

  pub gain_round : (most total : ℕ) → total < (told_at run i).stream.shape.base + 2 ^ 32 → Stands v most total → IsPast (told_at run i).client → GainRound run s round i
  gain_round most total low stands past = by stands past
    where
      ended_not : {A : Type 0} (due : List Want) (ops : List Op) (m : Mode) → begun (told_at run i).client ≡ at due ops m → (told_at run i).client.ended ≡ true → A
      ended_not due ops m is ended = absurd (true≢false (sym ended ∙ sym (begins_ended v.client v.client.due v.client.ops) ∙ ap (λ (c : Client). c.ended) is))

      goes : (due : List Want) (ops : List Op) (m : Mode) → begun (told_at run i).client ≡ at due ops m → Left v due ops m most total → is_started due ≡ true → GainRound run s round i
      goes due ops m is left started =
          let fair = fair_round cut s marks run round i turn.low turn.named legal calm.spelled calm.pokeless known_stream known_commands (calm_round cut s marks run round i t turn legal known_stream known_commands calm able) due ops m most total is left in
          let n : BlockNumbers s run round i = block_numbers cut s marks run round i t turn legal known_stream known_commands calm able in
          let same = same_position cut s marks run round i t legal turn.low turn.named turn.runs fair.0 in
          let long : length v.commands.released ≡ 2 * length (codes_sent due m) = ap (λ (ws : List ℕ). length ws) left.words ∙ codes_long left.sent (codes_sent due m) left.codes in
          elim (goes_by cut s marks run round i t legal turn.low turn.named turn.runs fair.0 most total stands) as (λ _. GainRound run s round i) [
            | gone_for_good ended given words codes ↦ sent (words_some u.commands.released given (1 ∷ 2 ∷ 4 ∷ 6 ∷ []) words codes (omega arith))
            | on due' ops' m' is' left' ↦
                let sum = left'.sum in
                let there = n.place_then in
                elim (gain_calls from 64 v calls due ops m block frames (omega (arith, sum, same, low)) is left.doing started long fair.2 fair.0 fair.1) as (λ _. GainRound run s round i) [
                  | writes some ↦ fed (omega (arith, some, same, there, knows))
                  | stops six ↦ sent (let e = ap (λ (ws : List ℕ). length ws) (round_released s run round i turn.low) in omega (arith, six, e))
                  | nears wants more mode begun_is doing fall ↦
                      let whole : (length calls ≡ 64) ⊎ (wanted_of (fold after_call v calls) ≡ _) = turn_whole 64 v calls fair.2 in
                      elim whole as (λ _. GainRound run s round i) [
                        | inl all ↦
                            let client = client_after s run round i turn.low (mixer_goes s marks run round t turn.runs) in
                            let then_is = ap calls_left client ∙ still_next (length calls) (fold after_call v calls).client wants more mode all begun_is in
                            let now = ap (λ (c : Client). calls_ahead c.due c.ops) is in
                            fewer (omega (arith, then_is, now, fall))
                        | inr none ↦ let first = wanted_first wants more mode doing in none_some (wanted_of (fold after_call v calls)) first.0 none (ap (λ (c : Client). next_want c) begun_is ∙ first.3)
                      ]
                ]
          ]

      by : Stands v most total → IsPast (told_at run i).client → GainRound run s round i
      by (gone_for_good ended given words codes) past =
          sent (let a = words_some v.commands.released given (1 ∷ 2 ∷ 4 ∷ 6 ∷ []) words codes (omega arith) in kept ended a)
        where
          kept : (told_at run i).client.ended ≡ true → 6 ≤ length v.commands.released → 6 ≤ length (told_at (after_round s run round) i).commands.released
          kept ended six =
              let none : calls_in round i ≡ [] = none_made (told_at run i).client.ended ended (legal.turns.clients i turn.named) in
              let e = ap (λ (ws : List ℕ). length ws) (round_released s run round i turn.low ∙ ap (λ (cs : List ClientCall). (fold after_call v cs).commands.released) none) in
              omega (arith, six, e)
            where
              none_made : (b : Bool) → b ≡ true → MatchBool b (calls_in round i ≡ []) (AreCalls 64 v (calls_in round i)) → calls_in round i ≡ []
              none_made true e none = none
              none_made false e made = absurd (true≢false (sym e))
      by (on due ops m is left) (inl ended) = ended_not due ops m is ended
      by (on due ops m is left) (inr started) = goes due ops m is left (sym (ap (λ (c : Client). is_started c.due) is) ∙ started)
