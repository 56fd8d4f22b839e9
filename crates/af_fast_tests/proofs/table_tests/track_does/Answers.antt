use Rattle.std.proofs.Common.{◌∙◌, sym, arith}
use Rattle.std.proofs.lemmas.Slice.Zip.{AllZip-long}
use Rattle.af_client.specs.Order.{IsClientOf}
use Rattle.af_fast_tests.proofs.Zips.{zip_at, zip_set}
use Rattle.af_fast_tests.proofs.table_tests.track_does.Goals as goal

pub bounds-clients-track : goal.bounds-clients-track
bounds-clients-track g c = omega (arith, AllZip-long IsClientOf c.args.streams.now c.args.clients.now c.requires)

pub client_does-requires : goal.client_does-requires
client_does-requires g c =
    let is = zip_at IsClientOf c.args.streams.now c.args.clients.now c.args.track c.index-streams-track.result c.index-clients-track.result c.requires (omega arith) in
    (is.0 ∙ sym c.index-streams-track.is, is.1)

pub returns : goal.returns
returns g c =
    zip_set IsClientOf c.args.streams.now c.args.clients.now c.args.track c.index-streams-track.result c.client_does.new.client c.requires
    (c.client_does.ensures.0 ∙ c.index-streams-track.is, c.client_does.ensures.1)
