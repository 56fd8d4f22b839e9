use Rattle.std.proofs.Common.{◌≡◌, ◌<◌, length, slice_set, Some, true, false, is_some, refl, sym, ap, ◌∙◌, arith}
use Rattle.af_engine.proofs.Common.{Made, NormalState, client_made, hand_made, same_Some, stream_at}
use Rattle.af_normal.proofs.MetEnds.{hand_order, of_block}
use Rattle.af_engine.proofs.MetSpot.{met_away, met_home}
use Rattle.af_engine.proofs.meetings.meet_track.Goals as goal

pub meet_away-requires-clause-hand : goal.meet_away-requires-clause-hand
meet_away-requires-clause-hand g c =
    let hand = of_block c.args.links.now c.meet_client.new.self c.args.track c.in-Some.hand.now c.meet_client.ensures.order c.in-Some.ensures.value in
    same_Some (hand_made c.in-Some.hand.now) (client_made c.meet_client.new.stream.pass) (sym hand ∙ c.meet_client.ensures.clients.stream_is)

pub returns-then-meet_client : goal.returns-then-meet_client
returns-then-meet_client g c =
    let m = c.args.normal.now in
    let f = c.args.fast.now in
    let n = c.meet_client.new.self in
    let did = c.meet_client.ensures in
    let track = c.args.track in
    let inside : track < length m.tracks = c.requires.track in
    let there : is_some (stream_at m.streams track) ≡ c.meet_client.result = c.requires.normal.tied.proxies.there track inside ∙ sym did.home in
    let done = met_home f.observer.past.state track c.args.links.now m.streams n.streams m.commands n.commands m.hands n.hands f.observer.items
    c.args.stream.now c.meet_client.new.stream c.args.command.now c.meet_client.new.command did.met
    (omega (arith, inside, c.requires.normal.tied.sizes.commands_are)) (there ∙ c.if-meet_client.true) in
    record {
      clients = did.clients;
      normal = did.order;
      fast = c.requires.fast;
      same_normal = did.same;
      same_fast = refl;
      met = done.0;
      others = done.1;
      items = λ k ne. refl;
    }

pub returns : goal.returns
returns g c =
    let m = c.args.normal.now in
    let f = c.args.fast.now in
    let n = c.meet_client.new.self in
    let did = c.meet_client.ensures in
    let rest = c.meet_away.ensures in
    let track = c.args.track in
    let inside : track < length m.tracks = c.requires.track in
    let there : is_some (stream_at m.streams track) ≡ c.meet_client.result = c.requires.normal.tied.proxies.there track inside ∙ sym did.home in
    let hand = c.in-Some.hand.now in
    let done = met_away f.observer.past.state track c.args.links.now m.streams n.streams m.commands n.commands m.hands n.hands f.observer.items
    c.args.stream.now c.meet_client.new.stream c.args.command.now c.meet_client.new.command did.met
    (omega (arith, inside, c.requires.normal.tied.sizes.commands_are)) hand c.meet_away.new.hand c.meet_away.new.fast.observer.items c.meet_away.new.stream
    (there ∙ c.if-meet_client.false) c.in-Some.ensures.value rest.met rest.others in
    let made : Some (client_made c.meet_client.new.stream.pass) ≡ Some (client_made c.meet_away.new.stream.pass) = ap (λ (b : Made). Some b)
    (sym rest.stream.0) in
    record {
      clients = record { stream_is = did.clients.stream_is ∙ made; command_is = did.clients.command_is; in_order = (rest.stream.1, did.clients.in_order.1) };
      normal = hand_order c.args.links.now n track hand did.order c.in-Some.ensures.value c.meet_away.new.hand rest.hand;
      fast = rest.fast;
      same_normal = ap (λ (y : NormalState). record y { hands = slice_set n.hands track c.meet_away.new.hand }) did.same;
      same_fast = rest.same;
      met = done.0;
      others = done.1;
      items = rest.others;
    }
