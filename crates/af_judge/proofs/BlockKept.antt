-- What is kept of a block beside its lists, after one event more.
use Rattle.std.specs.Prelude.{◌≡◌, ◌+◌, ◌&&◌, ◌∷◌, ◌++◌}
use Rattle.std.proofs.Common.{ap, sym, ◌∙◌, subst, arith}
use Rattle.af_judge.proofs.Common.{Bool, ClientEvent, List, [], and_true, false, fold-append, is_lawful, is_no_poke, min, refl, server_kept, true, ℕ}
use Rattle.af_judge.specs.declared.words_judge.Taken.{Taken}
use Rattle.af_judge.specs.declared.server_judge.ServerJudge.{ServerJudge}
use Rattle.af_judge.specs.Blocks.{BlockJudged, IsBlock, Lists, Words, placed_from, taken_more, raised_by, raised_in}
use Rattle.af_judge.specs.Servers.{most_counted}
use Rattle.af_judge.proofs.Placed.{placed_capped}

and-assoc : (a b c : Bool) → (a && (b && c)) ≡ ((a && b) && c)
and-assoc true b c = refl
and-assoc false b c = refl

-- a list with one event more is lawful, if it was and the event is no poke
pub lawful-more : (events : List ClientEvent) (e : ClientEvent) → is_lawful (events ++ e ∷ []) ≡ (is_lawful events && is_no_poke e)
lawful-more [] e = and_true (is_no_poke e)
lawful-more (x ∷ events) e = ap (λ (b : Bool). is_no_poke x && b) (lawful-more events e) ∙ and-assoc (is_no_poke x) (is_lawful events) (is_no_poke e)

pub raised-more : (events : List ClientEvent) (e : ClientEvent) → raised_in (events ++ e ∷ []) ≡ raised_in events + raised_by e
raised-more events e = fold-append (λ (sofar : ℕ) (x : ClientEvent). sofar + raised_by x) 0 events (e ∷ [])

counted-more : (raised sofar more : ℕ) → raised ≡ min most_counted sofar → min (raised + more) most_counted ≡ min most_counted (sofar + more)
counted-more raised sofar more is = omega (arith, is)

-- what is kept after an event of the client
pub client_kept_more : (server : ServerJudge) (tame stays : Bool) (raised counted more : ℕ) (lists after : Lists) (e : ClientEvent) → IsBlock server tame raised lists → after ≡ record lists { client = lists.client ++ e ∷ [] }
    → stays ≡ (tame && is_no_poke e) → more ≡ raised_by e → counted ≡ min (raised + more) most_counted → IsBlock server stays counted after
client_kept_more server tame stays raised counted more lists after e b is stays_is more_is counted_is =
    let here : IsBlock server stays counted (record lists { client = lists.client ++ e ∷ [] }) = record {
      server_is = b.server_is;
      from_is = b.from_is;
      wrap_few = b.wrap_few;
      tame_is = stays_is ∙ (ap (λ (x : Bool). x && is_no_poke e) b.tame_is ∙ sym (lawful-more lists.client e));
      raised_is =
          counted_is
          ∙ (counted-more raised (raised_in lists.client) more b.raised_is
          ∙ (ap (λ (n : ℕ). min most_counted (raised_in lists.client + n)) more_is ∙ ap (min most_counted) (sym (raised-more lists.client e))));
    } in
    subst (IsBlock server stays counted) (sym is) here

-- the words of a take are noted with their places
pub words_told : (j : BlockJudged) (w : Words) (at : ℕ) (words : List ℕ) → at ≡ min most_counted (server_kept j.shape j.server).consumed → w ≡ record { released = j.released; taken = j.taken ++ placed_from at words }
    → record j { released = w.released; taken = w.taken } ≡ taken_more j.server words j
words_told j w at words at_is w_is =
    ap (λ (x : Words). let k : BlockJudged = record j { released = x.released; taken = x.taken } in k) w_is
    ∙ ap (λ (ts : List Taken). let k : BlockJudged = record j { taken = j.taken ++ ts } in k) (ap (λ (n : ℕ). placed_from n words) at_is ∙ placed_capped (server_kept j.shape j.server).consumed words)
