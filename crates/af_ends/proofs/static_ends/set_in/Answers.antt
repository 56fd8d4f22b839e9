use Rattle.af_ends.proofs.static_ends.set_in.Goals as goal

pub returns-clause-set : goal.returns-clause-set
returns-clause-set g c =
    let e = c.set.ensures in
    record { cell = e.together; list = e.list; number_is = e.number.0 }
