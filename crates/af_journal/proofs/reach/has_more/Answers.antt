use Rattle.std.proofs.Common.{rules, ◌≡◌, ◌∙◌, ap, sym, nat_lt, length}
use Rattle.af_journal.proofs.Common.{TrackSeen, TrackTurn, list_any, option_map, track_seen, turn_of}
use Rattle.af_journal.specs.Judged.{has_more}
use Rattle.af_journal.proofs.Judged.{any-map}
use Rattle.af_journal.proofs.reach.has_more.Goals as goal

pub returns-in-Some : goal.returns-in-Some
returns-in-Some c =
    let looks = c.args.looks in
    let any = any-map (λ (t : TrackSeen). nat_lt looks (length t.looks)) track_seen c.in-Some.entry.tracks.items in
    let here : c.some_have_more.result ≡ list_any (λ (t : TrackTurn). nat_lt looks (length t.looks.items)) c.in-Some.entry.tracks.items = search rules in
    here ∙ sym any ∙ ap (λ o. has_more looks (option_map turn_of o)) (sym c.in-Some.is)
