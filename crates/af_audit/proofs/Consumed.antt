-- How much a server has consumed: its list only raises it, and neither a report nor a proxy shows more.
use Rattle.std.proofs.Common.{◌≡◌, ◌≤◌, List, [], ◌∷◌, ◌++◌, fold, refl, ap, arith}
use Rattle.af_audit.proofs.Common.{ServerEvent, ServerKept, Shape, fold-append, server_begins, server_keeps, server_kept}
use Rattle.af_base.specs.declared.event.ServerEvent.TheVariants as server
use Rattle.af_audit.proofs.Measure.{Measure}

keeps_more : (k : Shape) (s : ServerKept) (e : ServerEvent) → s.consumed ≤ (server_keeps k s e).consumed
keeps_more k s (server.SawGain word) = omega arith
keeps_more k s _ = omega arith

keeps_all : (k : Shape) (s : ServerKept) (es : List ServerEvent) → s.consumed ≤ (fold (server_keeps k) s es).consumed
keeps_all k s [] = omega arith
keeps_all k s (e ∷ es) = let a = keeps_more k s e in let b = keeps_all k (server_keeps k s e) es in omega (arith, a, b)

pub consumed_grows : (k : Shape) (es more : List ServerEvent) → (server_kept k es).consumed ≤ (server_kept k (es ++ more)).consumed
consumed_grows k es more =
    let same : (server_kept k (es ++ more)).consumed ≡ (fold (server_keeps k) (server_kept k es) more).consumed = ap (λ (x : ServerKept). x.consumed) (fold-append (server_keeps k) (server_begins k) es more) in
    let a = keeps_all k (server_kept k es) more in
    omega (arith, same, a)

abbrev pub consumed : Measure
consumed = record {
  of_list = λ k es. (server_kept k es).consumed;
  of_report = λ r. r.consumed;
  of_heard = λ h. h.known.consumed;
  grows = consumed_grows;
  none = refl;
  nothing = refl;
  reported = λ asked generation answer s before. omega arith;
  own = λ s. omega arith;
  home = λ h t. refl;
  away = λ r looks. refl;
}
