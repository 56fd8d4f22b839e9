use Rattle.std.proofs.Common.{◌≡◌, ◌<◌, ℕ, List, [], get_or, length, map, sym, ap, subst, ◌∙◌, arith}
use Rattle.af_side_by_side.proofs.Common.{IsTally, PartyState, SessionState, Shown, slice_index_or, with_all_calls}
use Rattle.af_side_by_side.proofs.NotedTurns.{calls_at, calls_next}
use Rattle.af_side_by_side.proofs.rounds_of_all.note_turns.Goals as goal

pub loop-i-preserved : goal.loop-i-preserved
loop-i-preserved c =
    let clients : List PartyState = c.args.parties.now.clients in
    let i : ℕ = c.loop-i.i in
    let inv = c.loop-i.invariant in
    let p : PartyState = c.index.result.now in
    let same : c.parties.inside.clients.items ≡ clients = ap (λ (s : SessionState). s.clients) c.parties.view_is in
    let lt : i < length clients = (let n = ap length same in omega (arith, n, c.loop-i-test.true, c.loop-i.auto.i-end, c.len-i-end.ensures)) in
    let there : p ≡ get_or clients i p = c.index.ensures ∙ ap (λ (ps : List PartyState). get_or ps i p) same in
    let calls : slice_index_or (map (λ (q : PartyState). q.calls.items) clients) i [] ≡ c.as_slice.result.now =
    calls_at clients i p lt there ∙ sym (ap (λ (q : PartyState). q.calls.items) c.behind-parties.view_is) ∙ sym c.as_slice.ensures in
    record {
      tally = (λ run is. subst (λ (x : Shown). IsTally x c.note_calls.new.self) (sym (calls_next clients i run c.as_slice.result.now calls))
          (c.note_calls.ensures.tally (with_all_calls (map (λ (q : PartyState). q.calls.items) clients) i run) (inv.tally run is)));
      keeps = record {
        tracks = c.note_calls.ensures.keeps.tracks ∙ inv.keeps.tracks;
        looks = (let a = c.note_calls.ensures.keeps.looks in let b = inv.keeps.looks in omega arith);
        cycles = (let a = c.note_calls.ensures.keeps.cycles in let b = inv.keeps.cycles in omega arith);
      };
    }
