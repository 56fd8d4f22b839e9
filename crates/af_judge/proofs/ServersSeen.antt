-- What is kept of some servers, one of which is changed.
use Rattle.std.proofs.Common.{◌≡◌, ℕ, ◌<◌, ◌≤◌, List, length, map, get_or, Option, Some, None, sym, ap, ◌∙◌, subst}
use Rattle.af_judge.proofs.Common.{Listed, get_or-map, length-map, map-set, slice_get, slice_get-get_or, slice_get_past, slice_set}
use Rattle.af_judge.specs.declared.server_judge.ServerJudge.{ServerJudge}
use Rattle.af_judge.specs.Foresight.{no_server, server_changed, server_of}

-- a server that is there is changed
pub server_there : (js : List ServerJudge) (ss : List Listed) (track : ℕ) (change : Listed → Listed) (d j : ServerJudge) → js ≡ map server_of ss → track < length js
    → ((s : Listed) → get_or js track d ≡ server_of s → j ≡ server_of (change s)) → slice_set js track j ≡ map server_of (server_changed track change ss)
server_there js ss track change d j is low changed =
    let long : track < length ss = subst (λ n. track < n) (ap length is ∙ length-map ss server_of) low in
    let s : Listed = get_or ss track no_server in
    let kept : get_or js track d ≡ server_of s = ap (λ l. get_or l track d) is ∙ get_or-map server_of ss track no_server d long in
    let there : slice_get ss track ≡ Some s = slice_get-get_or ss track no_server long in
    (λ i. slice_set (is i) track (changed s kept i))
    ∙ (sym (map-set server_of ss track (change s))
    ∙ ap (λ (o : Option Listed). map server_of (elim o as (λ x. List Listed) [ None ↦ ss | Some z ↦ slice_set ss track (change z) ])) (sym there))

-- a server that isn't there changes nothing
pub server_absent : (js : List ServerJudge) (ss : List Listed) (track : ℕ) (change : Listed → Listed) → js ≡ map server_of ss → length js ≤ track → js ≡ map server_of (server_changed track change ss)
server_absent js ss track change is past =
    let long : length ss ≤ track = subst (λ n. n ≤ track) (ap length is ∙ length-map ss server_of) past in
    is ∙ ap (λ (o : Option Listed). map server_of (elim o as (λ x. List Listed) [ None ↦ ss | Some z ↦ slice_set ss track (change z) ])) (sym (slice_get_past ss track long))
