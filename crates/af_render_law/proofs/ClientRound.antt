-- A round of a client, from what it finds to what it leaves.
use Rattle.std.proofs.Common.{◌≡◌, ◌⊎◌, inl, inr, ℕ, zero, suc, ◌<◌, take, replicate, List, [], length, refl, sym, ap, ◌∙◌, subst, arith, get_or-set_other, get_or-set_same}
use Rattle.af_render_law.proofs.Common.{AreTogether, ClientCall, ClientTurned, Deeds, EntrySeen, IsMadeBy, IsRound, LegalClientTurn, Links, Marks, OnlyCalls, RoundNoted, RoundSeen, Run, SawOwnBy, Session, SessionState, Tells, Track, calls_alone, calls_in, cases_eq, client_round, given_of, length-replicate, no_calls, none-some, slice_get_within, slice_index_or, tame_marks}
use Rattle.af_script.specs.declared.op.TurnSpec.TheVariants as makes
use Rattle.af_render_law.proofs.OwnKept.{ToldBy, left_histories, left_met, saw_calls}
use Rattle.af_render_law.proofs.Chain.{StepIsTold, round_of}
use Rattle.af_told_law.proofs.ClientTold.{client_told}

pub none_else : (n j : ℕ) → slice_index_or (replicate n (let none : List ClientCall = [] in none)) j [] ≡ []
none_else zero j = refl
none_else (suc n) zero = refl
none_else (suc n) (suc j) = none_else n j

module _ (links : Links) (s : Session) (marks : Marks) (run : Run) (i : ℕ) (x : SessionState) (r : RoundNoted) (bytes : List ℕ) (y : SessionState) (entries : List EntrySeen) {d : Deeds} (h : Tells s run d x) (saw : SawOwnBy (tame_marks run) run d)
    (w : IsRound (given_of s) (makes.Client i) x r bytes y) (turned : AreTogether links w.turned) (met : AreTogether links w.met) where
  abbrev calls : List ClientCall
  calls = w.turns.1

  abbrev round : RoundSeen
  round = round_of r entries

  abbrev turn : ClientTurned (given_of s) i x w.turned calls
  turn = w.turns.3

  is_round : r ≡ client_round x i calls
  is_round = w.turns.2

  within : i < length x.clients
  within = slice_get_within x.clients i turn.before turn.was

  here : calls_in round i ≡ calls
  here = ap (λ (n : RoundNoted). slice_index_or n.calls i []) is_round ∙ get_or-set_same (no_calls x) i calls [] (let n = length-replicate (length x.clients) (let none : List ClientCall = [] in none) in let l = within in omega (arith, n, l))

  only : OnlyCalls (λ t. t ≡ i) round
  only j = by_number (cases_eq j i)
    where
      by_number : (j ≡ i) ⊎ (j ≡ i → ⊥) → (j ≡ i) ⊎ (calls_in round j ≡ [])
      by_number (inl e) = inl e
      by_number (inr ne) = inr (ap (λ (n : RoundNoted). slice_index_or n.calls j []) is_round ∙ get_or-set_other (no_calls x) i j calls [] ne ∙ none_else (length x.clients) j)

  made : IsMadeBy s marks run (makes.Client i) round
  made = (
    only,
    ap (λ (n : RoundNoted). n.turn) is_round,
    ap (λ (n : RoundNoted). take n.cycles entries) is_round,
    subst (λ (z : Track × List ClientCall). LegalClientTurn z.0 z.1) (λ j. (sym (h.tracks i turn.before turn.was).client j, sym here j)) turn.legal,
  )

  left : ToldBy s (calls_alone i round run) w.turned
  left = record { deeds = d; told = client_told s run i round x w.turned h (subst (ClientTurned (given_of s) i x w.turned) (sym here) turn); saw = saw_calls run d i round saw }

  -- the round is made legally, leaves the histories, and is told
  pub client_step : StepIsTold s marks run (makes.Client i) round y
  client_step = record {
    made = made;
    histories = left_histories links s (calls_alone i round run) w.turned w.met turned met w.meets left;
    left = subst (ToldBy s _) (sym w.ends) (left_met links s (calls_alone i round run) w.turned w.met turned met w.meets left);
    unseen = λ e is. absurd (none-some e (sym made.1 ∙ is));
  }
