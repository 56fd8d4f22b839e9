-- Two ways to say that the stream proxies that are home are of their tracks' blocks.
use Rattle.std.proofs.Common.{◌≡◌, ℕ, ◌<◌, ◌≤◌, List, length, slice_index_or, unwrap_or, Option, Some, None, MatchOption, refl, sym, ap, subst, ◌∙◌, arith}
use Rattle.af_normal.proofs.Common.{IsServerOf, IsStreamOf, Made, ServerState, server_made, slice_get-get_or}
use Rattle.af_normal.specs.Mixing.{stream_at}
use Rattle.af_normal.specs.AllMixed.{AreServersOf}

module _ (blocks : List Made) (streams : List (Option ServerState)) (few : length streams ≤ length blocks) where
  abbrev pub AreStreamsOf : Type 0
  AreStreamsOf = (i : ℕ) → i < length streams → (s : ServerState) → stream_at streams i ≡ Some s → IsStreamOf blocks i s

  pub servers_of : AreStreamsOf → AreServersOf blocks streams
  servers_of h i block lt = by_option (stream_at streams i) refl
    where
      by_option : (o : Option ServerState) → stream_at streams i ≡ o → MatchOption o (Unit {0}) (IsServerOf (slice_index_or blocks i block))
      by_option None e = tt
      by_option (Some s) e = let of : IsStreamOf blocks i s = h i lt s e in
          (ap (λ (o : Option Made). unwrap_or o block) (sym of.made ∙ slice_get-get_or blocks i block (omega (arith, few))), of.in_order)

  pub streams_of : AreServersOf blocks streams → AreStreamsOf
  streams_of h i lt s e = let of : IsServerOf (slice_index_or blocks i (server_made s.pass)) s =
      subst (λ (o : Option ServerState). MatchOption o (Unit {0}) (IsServerOf (slice_index_or blocks i (server_made s.pass)))) e (h i (server_made s.pass) lt) in
      record { made = slice_get-get_or blocks i (server_made s.pass) (omega (arith, few)) ∙ ap (λ (b : Made). Some b) (sym of.0); in_order = of.1 }
