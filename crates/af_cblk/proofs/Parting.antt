-- What a meeting tells, said of the passes.
use Rattle.std.proofs.Common.{◌+◌, ◌-◌, [], ◌∷◌, ◌++◌, length, length-append, arith, ◌≡◌, ℕ, List, ap, ◌∙◌, subst}
use Rattle.af_cblk.proofs.Common.{ClientEvent, HasHistory, ServerEvent, Shape}
use Rattle.af_cblk.specs.declared.view.ClientPart.{ClientPart}
use Rattle.af_cblk.specs.declared.view.ServerPart.{ServerPart}
use Rattle.af_cblk.specs.declared.view.HandPart.{HandPart}

-- the same, of three parts
pub met : (b k : Shape) (se : List ServerEvent) (sf : List ℕ) (c : ClientPart) (s : ServerPart) (h : HandPart) (c' : ClientPart) (s' : ServerPart) (h' : HandPart)
    → b ≡ k → se ≡ s.events → sf ≡ s.frames → c ≡ c' → s ≡ s' → h ≡ h' → HasHistory b c.events c.frames se sf h.events → HasHistory k c'.events c'.frames s'.events s'.frames h'.events
met b k se sf c s h c' s' h' is events frames hers his its told =
    subst (λ (x : Shape × ClientPart × List ServerEvent × List ℕ × HandPart). HasHistory x.0 x.1.events x.1.frames x.2 x.3 x.4.events)
    (λ n. (is n, hers n, (events ∙ ap (λ p. p.events) his) n, (frames ∙ ap (λ p. p.frames) his) n, its n)) told

-- before an event more there was one less
pub one_less : (es : List ClientEvent) (e : ClientEvent) → length (es ++ e ∷ []) - 1 ≡ length es
one_less es e = let l : length (es ++ e ∷ []) ≡ length es + 1 = length-append es (e ∷ []) in omega arith
