use Rattle.std.proofs.Common.{rules, ◌≡◌, ◌∙◌, ap, sym, subst, ◌≤◌, length, map, arith, ◌++◌, ◌∷◌, [], List, take}
use Rattle.af_journal.proofs.Common.{EntrySeen, IsRound, RoundSeen, length-map, option_map, take_all}
use Rattle.af_journal.specs.Beginnings.{ReadsRound}
use Rattle.af_journal.specs.Judged.{first_of_turn, has_more}
use Rattle.af_journal.specs.Taken.{AddsEntries}
use Rattle.af_journal.proofs.Judged.{round_form}
use Rattle.af_journal.proofs.Leaving.{leaves-length}
use Rattle.af_journal.proofs.RoundsRead.{leaves-body, round-few}
use Rattle.af_journal.proofs.building.read_round.Goals as goal

pub push-requires : goal.push-requires
push-requires c =
    let a = c.args.left.now.rest.now in
    let b = c.read_clients.new.left.rest.now in
    let d = c.read_turn.new.left.rest.now in
    let fast = c.in_ok-cycles.ensures.entries in
    let one : length b ≤ length a = leaves-length a b _ c.in_ok-calls.ensures.lines in
    let two : length d ≤ length b = leaves-length b d _ c.in_ok-turn.ensures.3 in
    let few = round-few a d c.read_fast.new.left.rest.now fast.0 (length c.args.taken.now.entries.items) c.in_ok-cycles.cycles c.requires.few (omega (arith, one, two)) fast.1 fast.3 in
    record { few = omega (arith, few, c.requires.counted) }

pub returns : goal.returns
returns c =
    let most = c.args.reach.kept in
    let a = c.args.left.now.rest.now in
    let b = c.read_clients.new.left.rest.now in
    let d = c.read_turn.new.left.rest.now in
    let e = c.read_fast.new.left.rest.now in
    let fast = c.in_ok-cycles.ensures.entries in
    let turn = c.in_ok-turn.ensures in
    let cycles = c.in_ok-cycles.cycles in
    let old = c.args.taken.now in
    let new = c.read_fast.new.taken in
    let calls = map (λ calls. calls.items) c.in_ok-calls.calls.items in
    let r : RoundSeen = record { calls = calls; turn = turn.0; entries = fast.0 } in
    let few : length fast.0 ≤ most = subst (λ n. n ≤ most) fast.1 c.in_ok-cycles.ensures.few in
    let own : take most fast.0 ≡ fast.0 = take_all most fast.0 few in
    let form : IsRound c.args.tracks r = record { calls = length-map c.in_ok-calls.calls.items (λ calls. calls.items) ∙ c.in_ok-calls.ensures.each; turn = turn.2 } in
    let count : cycles ≡ length (take most fast.0) = fast.1 ∙ ap (λ (l : List EntrySeen). length l) (sym own) in
    let read : ReadsRound c.args.tracks most c.args.noted.now old.entries.items old.frames.items a c.push.new.self new.entries.items new.frames.items e = record {
      round = r;
      adds = record {
        noted_are = c.in_ok-push.ensures.noted ∙ (λ k. record { tracks = c.args.noted.now.tracks; rounds = c.args.noted.now.rounds ++ record { calls = calls; turn = turn.1 k; cycles = count k } ∷ [] });
        added = subst (λ (l : List EntrySeen). AddsEntries old.entries.items old.frames.items l new.entries.items new.frames.items) (sym own) fast.2;
        form = round_form most c.args.tracks r form;
      };
      form = form;
      few = few;
      lines = leaves-body a b d e r c.in_ok-calls.ensures.lines turn.3 fast.3;
    } in
    let more : c.has_more-more.result ≡ has_more c.args.reach.looks (option_map (first_of_turn most) turn.0) = search rules in
    (read, search rules, search rules)
