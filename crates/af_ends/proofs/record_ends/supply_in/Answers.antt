use Rattle.af_ends.proofs.record_ends.supply_in.Goals as goal

pub returns-clause-supplied : goal.returns-clause-supplied
returns-clause-supplied g c =
    let e = c.supply.ensures in
    record { sum = e.sum; put = e.put; counts = e.counts; stopped = e.stopped; looked = e.looked; history = e.history }
