use Rattle.std.proofs.Common.{◌≡◌, ℕ, ◌+◌, [], ◌∷◌, ◌++◌, length, ap, subst, ◌∙◌}
use Rattle.af_offline.proofs.Common.{CallsPlay, Setting, shut_by, standing_in}
use Rattle.af_static.specs.declared.ends.Unrolled.{Unrolled}
use Rattle.af_offline.proofs.Rolling.{used_is, next_setting-stays}
use Rattle.af_offline.proofs.looping.play_once.Goals as goal

pub returns-clause-setting : goal.returns-clause-setting
returns-clause-setting c =
    let rest = c.play-unrolled.ensures.rest in
    (rest.2, next_setting-stays c.args.hand.now c.play-unrolled.new.self (record { frames = rest.0; newest = rest.2; used = c.play-unrolled.ensures.used }))

pub returns-clause-played : goal.returns-clause-played
returns-clause-played c first calls played count was =
    let hand = c.args.hand.now in
    let at_unity : c.clamped.result ≡ (4096, 4096) = c.clamped.ensures in
    subst (λ (gains : ℕ × ℕ). CallsPlay hand.frames first (calls ++ record { setting = hand.newest; gains = gains; places = length c.args.places.now } ∷ []) (played ++ c.play-unrolled.new.out) (count + c.play-unrolled.result.filled) (standing_in c.play-unrolled.new.self))
    at_unity (c.play-unrolled.ensures.played first calls played count was)

pub returns-clause-shut : goal.returns-clause-shut
returns-clause-shut c =
    let rest = c.play-unrolled.ensures.rest in
    let hand = c.args.hand.now in
    let setting = used_is hand c.play-unrolled.new.self (record { frames = rest.0; newest = rest.2; used = c.play-unrolled.ensures.used }) in
    ap (λ (u : Unrolled). u.shut) c.play-unrolled.ensures.answer ∙ ap (λ (s : Setting). shut_by (length hand.frames) s) setting
