use Rattle.std.proofs.Common.{arith, ◌≡◌, ℕ, ◌+◌, ◌%◌, ◌^◌, ◌<◌, ◌≤◌, MatchOption, Option, None, false, List, [], ◌∷◌, ◌++◌, length, map, sym, ap, ◌∙◌, subst}
use Rattle.af_server.proofs.Common.{ServerPart, ServerSide, ahead, ahead_below, front_stored, packed_word}
use Rattle.std.proofs.lemmas.List.{length-map}
use Rattle.af_base.specs.declared.event.ServerEvent.TheVariants as server
use Rattle.af_server.specs.Order.{ServerState, Keeps, IsReady, counted}
use Rattle.af_server.proofs.Took.{took_is, take_keeps}
use Rattle.af_server.proofs.server.Server.take.Goals as goal

pub returns-clause-ready : goal.returns-clause-ready
returns-clause-ready g c =
    let old : ServerState = c.args.self.now in
    let view = c.self.view_is in
    let p : ServerPart = old.pass.part in
    let s : ServerPart = c.load_frames.new.pass.part in
    let n : ℕ = length c.args.into.now in
    let to : ℕ = (old.front + n) % 2 ^ 32 in
    let words : List ℕ = map packed_word c.load_frames.new.into in
    let ready : IsReady p old.front n = subst (λ (o : Option ℕ). MatchOption o (Unit {0}) (λ count. IsReady p old.front count)) c.requires.shown c.requires.ready.1.ready in
    let small : n < 2 ^ 32 = (let a : n ≤ ahead p.front p.rear = ready.within in let b = ahead_below p.front p.rear in omega arith) in
    let many : length words ≡ n = length-map c.load_frames.new.into packed_word ∙ c.load_frames.auto.into in
    let loaded : s ≡ (record p { loaded = words }) = ap (λ (x : ServerSide). x.part) c.load_frames.ensures.loaded ∙ ap (λ (x : ServerState). record x.pass.part { loaded = words }) view in
    let stored : c.store_front.new.pass.part ≡ front_stored s to = ap (λ (x : ServerSide). x.part) c.store_front.ensures.stored ∙ ap (λ (x : ServerState). front_stored s ((x.front + n) % 2 ^ 32)) view in
    let is : c.store_front.new.pass.part ≡ (record p { events = p.events ++ server.Take n ∷ []; frames = p.frames ++ words; front = to; fresh = false; flush_fresh = false; rear_fresh = false; loaded = [] }) =
    stored ∙ took_is p s old.front n words ready small many loaded in
    let count : c.raised-self-inside.result ≡ counted (old.consumed + n) = c.raised-self-inside.ensures ∙ ap (λ (x : ServerState). counted (x.consumed + n)) view in
    let done = take_keeps old c.store_front.new.pass.part to n c.raised-self-inside.result words c.requires.ready.1 c.requires.shown is count in
    (c.store_front.ensures.made, subst (λ (x : ServerState). Keeps c.store_front.new.pass.part x.flush x.flushes x.front None c.raised-self-inside.result x.shut) (sym view) done)
