-- A new block.
use Rattle.std.proofs.Common.{◌≡◌, true≢false, ℕ, zero, suc, ◌+◌, ◌-◌, ◌^◌, ◌<◌, ◌≤◌, List, [], ◌∷◌, get_or, drop, replicate, sym, refl, ap, ◌∙◌, subst, arith, mod-eq_of_lt}
use Rattle.af_cblk.proofs.Common.{Shape, opening, wrapped}
use mathlib.Core.Option.{some, some-injective, some-ne-none}
use lib.ListN.{get_elem?}
use lib.ListN.{length-replicate}
use Rattle.af_cblk.proofs.Rows.{take_none}
use Rattle.af_cblk.proofs.Flushes.{flush_none}
use Rattle.af_cblk.specs.declared.view.View.{View}
use Rattle.af_cblk.specs.Rule.{Parties, Sits, Holds, newcomer, new_client, new_server, new_hand}

pub begins : (k : Shape) → k.base < 2 ^ 32 → (words : List ℕ)
    → words ≡ k.base ∷ k.base ∷ 0 ∷ 0 ∷ 0 ∷ 268439552 ∷ 0 ∷ replicate k.cells 0 → Holds k (opening words [] (newcomer k))
begins k fits words are =
    let base : wrapped k.base ≡ k.base = mod-eq_of_lt fits in
    record {
      parties = begun;
      seats = one;
      stands = (λ _. record {
        history = record { order = []; legal = tt; client_is = refl; server_is = refl; hand_is = refl; released_is = (let e : k.base ≡ k.base + 0 = omega arith in e); taken_is = refl };
        settled = (λ more. refl);
        tally = 0;
        cells = replicate k.cells 0;
        words_are = are ∙ ap (λ (x : ℕ × ℕ). x.0 ∷ x.0 ∷ x.1 ∷ 0 ∷ 0 ∷ 268439552 ∷ 0 ∷ replicate k.cells 0) (λ n. (sym base n, flush_none k.wrap n));
        tally_is = refl;
        small = record { flush_fits = subst (λ (z : ℕ). z < 2 ^ 32) (flush_none k.wrap) below; flags_fit = below; gains_fit = unity; status_fit = below };
        learnt = ([], refl);
        flushed = refl;
        flush_known = (λ placed. record {
          flush_is = flush_none k.wrap;
          few = omega arith;
          mark = k.base;
          mark_low = omega arith;
          mark_near = omega arith;
          mark_now = (λ _. refl);
          later = (λ e. absurd (e refl));
          same = (λ _. refl);
          near = (λ e. absurd (true≢false (sym e)));
          shows = (λ e. absurd (true≢false (sym e)));
        });
        mets = (let e : 0 ≤ 0 = omega arith in e);
        client_knows = record {
          known = k.base;
          known_is = base;
          known_low = omega arith;
          known_room = omega arith;
          stored_room = (λ x none. absurd none);
          cells_are = length-replicate k.cells 0;
          small = zeros k.cells;
          pending = (λ x low none. absurd none);
          live = (λ q low high. absurd (omega arith));
        };
        server_knows = record { rear_is = sym base; front_is = sym base; loaded_is = (λ n few seen. take_none n few (drop (k.base - k.base) [])) };
      });
      knows = ([], refl);
    }
  where
    begun : Parties
    begun = record { client = new_client k; server = new_server k; hand = new_hand k; known = []; client_seat = 0; server_seat = 0; hand_seat = 0 }

    below : 0 < 2 ^ 32
    below = omega arith

    unity : 268439552 < 2 ^ 32
    unity = omega arith

    one : (by : ℕ) (v : View) → get_elem? (newcomer k ∷ []) by ≡ some v → Sits begun by v
    one zero v e = subst (Sits begun 0) (some-injective _ _ e) (record { client = (λ _. (refl, refl)); server = (λ _. (refl, refl)); hand = (λ _. (refl, refl, refl)) })
    one (suc by) v e = absurd (some-ne-none v (sym e))

    zeros : (n j : ℕ) → get_or (replicate n 0) j 0 < 2 ^ 32
    zeros zero j = omega arith
    zeros (suc n) zero = omega arith
    zeros (suc n) (suc j) = zeros n j
