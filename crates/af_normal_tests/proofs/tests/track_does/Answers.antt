use Rattle.std.proofs.Common.{◌∙◌, sym, arith}
use Rattle.std.proofs.lemmas.Slice.Zip.{AllZip-long}
use Rattle.af_client.specs.Order.{IsClientOf}
use Rattle.af_normal_tests.proofs.Zips.{zip_at, zip_set}
use Rattle.af_normal_tests.proofs.tests.track_does.Goals as goal

pub bounds-clients-track : goal.bounds-clients-track
bounds-clients-track g c = omega (arith, AllZip-long IsClientOf c.args.blocks.now c.args.clients.now c.requires)

pub client_does-requires : goal.client_does-requires
client_does-requires g c =
    let is = zip_at IsClientOf c.args.blocks.now c.args.clients.now c.args.track c.index-blocks-track.result c.index-clients-track.result c.requires (omega arith) in
    (is.0 ∙ sym c.index-blocks-track.is, is.1)

pub returns : goal.returns
returns g c =
    zip_set IsClientOf c.args.blocks.now c.args.clients.now c.args.track c.index-blocks-track.result c.client_does.new.client c.requires
    (c.client_does.ensures.0 ∙ c.index-blocks-track.is, c.client_does.ensures.1)
