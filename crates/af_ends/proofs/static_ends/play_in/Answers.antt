use Rattle.af_ends.proofs.static_ends.play_in.Goals as goal

pub returns-clause-mixed : goal.returns-clause-mixed
returns-clause-mixed g c =
    let e = c.mix_next.ensures in
    record { load = λ valid. let x = e.load valid in (x.0, x.1); shut = λ invalid. (e.shut invalid).0; out_is = e.out; head_is = e.head; told_is = e.answer; played = e.played }
