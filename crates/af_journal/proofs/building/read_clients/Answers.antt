use Rattle.std.proofs.Common.{rules, ◌≡◌, ◌∙◌, ap, sym, subst, List, ◌∷◌, [], ◌++◌, map, length, length-append, arith}
use Rattle.af_journal.proofs.Common.{ClientCall, length-map, map_last}
use Rattle.af_journal.specs.Taken.{Leaves}
use Rattle.af_journal.specs.Texts.{client_lines, each_from}
use Rattle.af_journal.proofs.Leaving.{leaves-each}
use Rattle.af_journal.proofs.building.read_clients.Goals as goal

pub loop-track-preserved : goal.loop-track-preserved
loop-track-preserved c =
    let calls = c.in_ok-calls.calls in
    let clients = c.loop-track.clients.items in
    let first = c.args.left.now.rest.now in
    let before = c.loop-track.left.rest.now in
    let after = c.read_client.new.left.rest.now in
    let items : c.push.new.self.items ≡ clients ++ calls ∷ [] = search rules in
    let seen : map (λ c. c.items) c.push.new.self.items ≡ map (λ c. c.items) clients ++ calls.items ∷ [] = ap (map (λ c. c.items)) items ∙ map_last (λ c. c.items) clients calls in
    let each : length (map (λ c. c.items) clients) ≡ c.loop-track.track = length-map clients (λ c. c.items) ∙ c.loop-track.invariant.each in
    record {
      lines = subst (λ (l : List (List ClientCall)). Leaves first (each_from client_lines 0 l) after) (sym seen)
          (leaves-each client_lines first before after (map (λ c. c.items) clients) calls.items c.loop-track.track each c.loop-track.invariant.lines c.in_ok-calls.ensures);
      each = omega (arith, ap length items, length-append clients (calls ∷ []), c.loop-track.invariant.each);
    }
