-- A call that was judged is one of the track's turn, and what is kept follows the track.
use Rattle.std.specs.Prelude.{◌≡◌, ◌/◌}
use Rattle.std.proofs.Common.{ap, sym, ◌∙◌, subst}
use Rattle.af_judge.proofs.Common.{Client, ClientCall, List, Op, Some, Track, after_answer, after_call, answer-some, begun, commands_sent, length, next_want, rest_of, wanted_of, with_call, ℕ}
use Rattle.af_judge.specs.Judging.{CallMade, ClientJudged, IsKeptOf, IsNoCall, MadeBy, SidesKept, sides_called, sides_kept}
use Rattle.af_judge.specs.Tracks.{IsCallOf}
use Rattle.af_judge.proofs.Judging.{made-by, sides_kept-called}

-- a call that was judged so is one of the track
pub call_of : (ops : List Op) (file : ℕ) (answer : ClientCall) (j k : ClientJudged) (t : Track) → IsKeptOf ops j t → CallMade ops file answer j k → IsCallOf t answer
call_of ops file answer j k t kept call = record {
  wanted = call.wanted;
  is = ap (λ (c : Client). next_want (begun c)) (sym kept.client) ∙ call.is;
  made = (let P : SidesKept → Type 0 = λ s. MadeBy s call.wanted answer in (made-by t call.wanted answer).1 (subst P kept.sides call.made));
}

-- a call that was refused is none of the track
pub no_call_of : (ops : List Op) (answer : ClientCall) (j : ClientJudged) (t : Track) → IsKeptOf ops j t → IsNoCall ops answer j → IsCallOf t answer → ⊥
no_call_of ops answer j t kept none call =
    let P : SidesKept → Type 0 = λ s. MadeBy s call.wanted answer in
    none call.wanted (ap (λ (c : Client). next_want (begun c)) kept.client ∙ call.is) (subst P (sym kept.sides) ((made-by t call.wanted answer).0 call.made))

-- what is kept after it is what is kept of the track after it
pub kept_call : (ops : List Op) (file : ℕ) (answer : ClientCall) (j k : ClientJudged) (t : Track) → length t.file ≡ file → IsKeptOf ops j t → CallMade ops file answer j k → IsKeptOf ops k (after_call t answer)
kept_call ops file answer j k t long kept call =
    let sides : k.sides ≡ sides_kept (with_call t answer) =
    call.sides ∙ (ap (λ n. sides_called n answer j.sides) (sym long) ∙ (ap (λ s. sides_called (length t.file) answer s) kept.sides ∙ sym (sides_kept-called t answer))) in
    let sent : k.sides.commands.words / 2 ≡ commands_sent (with_call t answer) = ap (λ (s : SidesKept). s.commands.words / 2) sides in
    let is : wanted_of t ≡ Some call.wanted = ap (λ (c : Client). next_want (begun c)) (sym kept.client) ∙ call.is in
    record {
      client =
          call.client
          ∙ (ap (λ (c : Client). after_answer (k.sides.commands.words / 2) call.wanted (rest_of (begun c).due) (begun c) answer) kept.client
          ∙ (ap (λ n. after_answer n call.wanted (rest_of (begun t.client).due) (begun t.client) answer) sent
          ∙ sym (answer-some t answer call.wanted is)));
      sides = sides;
    }
