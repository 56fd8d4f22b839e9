use Rattle.std.proofs.Common.{◌<◌, length, ◌∙◌, sym, arith}
use Rattle.std.proofs.lemmas.Option.{slice_get_within}
use Rattle.std.proofs.lemmas.Slice.Zip.{AllZip-long}
use Rattle.af_cblk.specs.Sides.{hand_made}
use Rattle.af_client.specs.Order.{IsClientOf}
use Rattle.af_normal.proofs.MetEnds.{block_is, hand_order, of_block}
use Rattle.af_normal_tests.proofs.Zips.{zip_at, zip_set}
use Rattle.af_normal_tests.proofs.meeting_tests.disables.Goals as goal

pub bounds-blocks-track : goal.bounds-blocks-track
bounds-blocks-track g c =
    let links = c.args.links.now in
    let h = c.in-Some.hand.now in
    slice_get_within links.streams.now c.args.track (hand_made h) (of_block links c.args.mixer.now c.args.track h c.requires.order c.in-Some.ensures.value)

pub bounds-clients-track : goal.bounds-clients-track
bounds-clients-track g c =
    let links = c.args.links.now in
    let h = c.in-Some.hand.now in
    let inside : c.args.track < length links.streams.now = slice_get_within links.streams.now c.args.track (hand_made h) (of_block links c.args.mixer.now c.args.track h c.requires.order c.in-Some.ensures.value) in
    omega (arith, AllZip-long IsClientOf links.streams.now c.args.clients.now c.requires.clients)

pub tells-requires-clause-hand : goal.tells-requires-clause-hand
tells-requires-clause-hand g c =
    block_is c.args.links.now c.args.mixer.now c.args.track c.in-Some.hand.now c.requires.order c.in-Some.ensures.value c.index-blocks-track.result c.index-blocks-track.is

pub tells-requires-clause-client : goal.tells-requires-clause-client
tells-requires-clause-client g c =
    let links = c.args.links.now in
    let h = c.in-Some.hand.now in
    let inside : c.args.track < length links.streams.now = slice_get_within links.streams.now c.args.track (hand_made h) (of_block links c.args.mixer.now c.args.track h c.requires.order c.in-Some.ensures.value) in
    let is = zip_at IsClientOf links.streams.now c.args.clients.now c.args.track c.index-blocks-track.result c.index-clients-track.result c.requires.clients inside in
    (is.0 ∙ sym c.index-blocks-track.is, is.1)

pub returns-clause-order : goal.returns-clause-order
returns-clause-order g c =
    let h = c.in-Some.hand.now in
    let same = c.tells.ensures.hand ∙ sym (block_is c.args.links.now c.args.mixer.now c.args.track h c.requires.order c.in-Some.ensures.value c.index-blocks-track.result c.index-blocks-track.is) in
    hand_order c.args.links.now c.args.mixer.now c.args.track h c.requires.order c.in-Some.ensures.value c.tells.new.hand same

pub returns-clause-clients : goal.returns-clause-clients
returns-clause-clients g c =
    zip_set IsClientOf c.args.links.now.streams.now c.args.clients.now c.args.track c.index-blocks-track.result c.tells.new.client c.requires.clients
    (c.tells.ensures.client.0 ∙ c.index-blocks-track.is, c.tells.ensures.client.1)
