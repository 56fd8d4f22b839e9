-- What a client is found to want next, and what a call makes of it.
use Rattle.std.specs.Prelude.{◌≡◌, ◌/◌, ◌||◌, if◌then◌else◌, ◌∷◌}
use Rattle.std.proofs.Common.{ap, sym, ◌∙◌}
use Rattle.af_judge.proofs.Common.{Bool, Client, ClientCall, List, None, Op, Option, Some, Want, [], after_answer, asked_first, at_next_turn, begins, begun, end_begun, false, next_want, rest_of, true, ℕ}
use Rattle.af_judge.proofs.Basics.{some_is}
use Rattle.af_runs.specs.declared.want.Want.TheVariants as want
use Rattle.af_runs.specs.Kept.{client_of}
use Rattle.af_judge.specs.Judging.{CallMade, ClientJudged, FindsNext, MadeBy, sides_called}

-- what is wanted, as the program finds it
pub finds_next : (o : Option Want) (c d : Client) → o ≡ next_want d → d ≡ begun c → (c.waiting || c.ended) ≡ false → FindsNext c o d
finds_next None c d is begins goes = (ap next_want (sym begins) ∙ sym is, ap (at_next_turn false) begins ∙ end_begun c goes)
finds_next (Some w) c d is begins goes = (ap next_want (sym begins) ∙ sym is, begins)

-- ## The first want

some-none : (A : Type 0) (w : Want) → ◌≡◌ {A = Option Want} None (Some w) → A
some-none A w e = absurd (cc)

first_asked : (due : List Want) (w : Want) → asked_first due ≡ Some w → due ≡ w ∷ rest_of due
first_asked [] w e = some-none _ w e
first_asked (want.Rest ∷ wants) w e = some-none _ w e
first_asked (want.Send sending ∷ wants) w e = ap (λ v. v ∷ wants) (some_is (want.Send sending) w e)
first_asked (want.Settled ∷ wants) w e = ap (λ v. v ∷ wants) (some_is want.Settled w e)
first_asked (want.Drained ∷ wants) w e = ap (λ v. v ∷ wants) (some_is want.Drained w e)
first_asked (want.Flush ∷ wants) w e = ap (λ v. v ∷ wants) (some_is want.Flush w e)
first_asked (want.Gain left right ∷ wants) w e = ap (λ v. v ∷ wants) (some_is (want.Gain left right) w e)
first_asked (want.Write count ∷ wants) w e = ap (λ v. v ∷ wants) (some_is (want.Write count) w e)
first_asked (want.Clear ∷ wants) w e = ap (λ v. v ∷ wants) (some_is want.Clear w e)
first_asked (want.Poke on word value ∷ wants) w e = ap (λ v. v ∷ wants) (some_is (want.Poke on word value) w e)
first_asked (want.Leave ∷ wants) w e = ap (λ v. v ∷ wants) (some_is want.Leave w e)

asks-by : (b : Bool) (due : List Want) (w : Want) → (if b then None else asked_first due) ≡ Some w → asked_first due ≡ Some w
asks-by true due w e = some-none _ w e
asks-by false due w e = e

-- what is wanted next is the first that is due
pub first_due : (c : Client) (w : Want) → next_want c ≡ Some w → c.due ≡ w ∷ rest_of c.due
first_due c w e = first_asked c.due w (asks-by (c.waiting || c.ended) c.due w e)

-- ## A call

-- the call was made
pub call_made : (ops : List Op) (file : ℕ) (answer : ClientCall) (j k : ClientJudged) (d : Client) (w : Want) → FindsNext (client_of ops j.client) (Some w) d → MadeBy j.sides w answer → k.sides ≡ sides_called file answer j.sides
    → ((first : Want) (wants : List Want) → d.due ≡ first ∷ wants → client_of ops k.client ≡ after_answer (k.sides.commands.words / 2) first wants d answer) → CallMade ops file answer j k
call_made ops file answer j k d w finds made sides noted =
    let c = client_of ops j.client in
    let due : d.due ≡ w ∷ rest_of d.due = first_due d w (ap next_want finds.1 ∙ finds.0) in
    record {
      wanted = w;
      is = finds.0;
      made = made;
      sides = sides;
      client = noted w (rest_of d.due) due ∙ ap (λ (x : Client). after_answer (k.sides.commands.words / 2) w (rest_of x.due) x answer) finds.1;
    }
