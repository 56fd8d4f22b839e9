use Rattle.std.proofs.Common.{◌<◌, List, [], length, take, slice_index_or, sym, subst, rules}
use Rattle.af_journal.proofs.Common.{round_at}
use Rattle.af_journal.specs.Lines.{Written}
use Rattle.af_journal.specs.Texts.{GoesOn, client_lines, each_from}
use Rattle.af_journal.proofs.Texts.{goes-then, each-next}
use Rattle.af_journal.proofs.writing.add_clients.Goals as goal

pub loop-track-preserved : goal.loop-track-preserved
loop-track-preserved c = let calls = (round_at c.args.journal.now c.args.round).calls in let i = c.loop-track.track in
    let inside : i < length calls = search rules in
    let added : GoesOn c.loop-track.text.bytes.items (client_lines i (slice_index_or calls i [])) c.add_client.new.text.bytes.items = search rules in
    subst (λ (lines : List Written). GoesOn c.args.text.now.bytes.items lines c.add_client.new.text.bytes.items) (sym (each-next client_lines calls i [] inside))
    (goes-then c.args.text.now.bytes.items c.loop-track.text.bytes.items c.add_client.new.text.bytes.items (each_from client_lines 0 (take i calls)) (client_lines i (slice_index_or calls i [])) c.loop-track.invariant added)
