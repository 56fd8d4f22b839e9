use Rattle.std.proofs.Common.{◌≡◌, ◌<◌, length, slice_set, Some, None, refl, sym, ap, ◌∙◌, length-set, arith}
use Rattle.af_normal.proofs.Common.{HandSide, get_set_other, get_set_same, hand_made, slice_get-get_or, some_same}
use Rattle.af_normal.proofs.MetTrack.{command_ready, stream_ready, client_ready, hand_ready, stream_within, command_within, own_after, met_after, no_hand}
use Rattle.af_normal.proofs.meetings.meet_at.Goals as goal

pub meet_alone-requires-clause-command : goal.meet_alone-requires-clause-command
meet_alone-requires-clause-command g c = let r = c.requires in let a = c.args in
    command_ready a.links.now a.i a.streams.now a.commands.now a.hands.now a.stream.now a.command.now r.own r.clients r.track.0 r.track.1 c.index-links-i.result c.index-commands-i.result

pub meet_alone-requires-clause-stream : goal.meet_alone-requires-clause-stream
meet_alone-requires-clause-stream g c = let r = c.requires in let a = c.args in
    stream_ready a.links.now a.i a.streams.now a.commands.now a.hands.now a.stream.now a.command.now r.own r.clients r.track.0 r.track.1 c.index-links-i-then-is_empty.result c.index-streams-i.result

pub meet_alone-requires-clause-client : goal.meet_alone-requires-clause-client
meet_alone-requires-clause-client g c = let r = c.requires in let a = c.args in
    client_ready a.links.now a.i a.streams.now a.commands.now a.hands.now a.stream.now a.command.now r.own r.clients r.track.0 r.track.1 c.index-links-i-then-is_empty.result

pub returns-then-is_empty-clause-own : goal.returns-then-is_empty-clause-own
returns-then-is_empty-clause-own g c = let r = c.requires in let a = c.args in let e = c.meet_alone.ensures in let n = c.meet_alone.new in
    own_after a.links.now a.i a.streams.now a.commands.now a.hands.now a.stream.now a.command.now r.own r.clients r.track.0 r.track.1 c.index-links-i.result c.index-links-i-then-is_empty.result
    n.command n.stream n.stream_client n.command_client e.command e.stream e.client a.hands.now
    (λ h is. hand_ready a.links.now a.i a.streams.now a.commands.now a.hands.now a.stream.now a.command.now r.own r.clients r.track.0 r.track.1 c.index-links-i-then-is_empty.result h is)

pub returns-then-is_empty-clause-met : goal.returns-then-is_empty-clause-met
returns-then-is_empty-clause-met g c = let r = c.requires in let a = c.args in let e = c.meet_alone.ensures in let n = c.meet_alone.new in
    let none : length a.hands.now ≡ 0 = (let t = c.if-is_empty.true in let u = c.is_empty.ensures in grind arith) in
    let gone = no_hand a.links.now a.i a.streams.now a.commands.now a.hands.now a.stream.now a.command.now r.own r.clients r.track.0 r.track.1 none in
    met_after a.links.now a.i a.streams.now a.commands.now a.hands.now a.stream.now a.command.now r.own r.clients r.track.0 r.track.1 c.index-links-i.result c.index-links-i-then-is_empty.result
    n.command n.stream n.stream_client n.command_client e.command e.stream e.client c.index-commands-i.result c.index-streams-i.result a.hands.now None None gone gone refl (λ j ne. refl) e.commanded e.streamed

pub bounds-links-i-2 : goal.bounds-links-i-2
bounds-links-i-2 g c = let r = c.requires in let a = c.args in
    command_within a.links.now a.i a.streams.now a.commands.now a.hands.now a.stream.now a.command.now r.own r.clients r.track.0 r.track.1

pub bounds-links-i-3 : goal.bounds-links-i-3
bounds-links-i-3 g c = let r = c.requires in let a = c.args in
    stream_within a.links.now a.i a.streams.now a.commands.now a.hands.now a.stream.now a.command.now r.own r.clients r.track.0 r.track.1

pub meet_with_hand-requires-clause-command : goal.meet_with_hand-requires-clause-command
meet_with_hand-requires-clause-command g c = let r = c.requires in let a = c.args in
    command_ready a.links.now a.i a.streams.now a.commands.now a.hands.now a.stream.now a.command.now r.own r.clients r.track.0 r.track.1 c.index-links-i-2.result c.index-commands-i-2.result

pub meet_with_hand-requires-clause-stream : goal.meet_with_hand-requires-clause-stream
meet_with_hand-requires-clause-stream g c = let r = c.requires in let a = c.args in
    stream_ready a.links.now a.i a.streams.now a.commands.now a.hands.now a.stream.now a.command.now r.own r.clients r.track.0 r.track.1 c.index-links-i-3.result c.index-streams-i-2.result

pub meet_with_hand-requires-clause-client : goal.meet_with_hand-requires-clause-client
meet_with_hand-requires-clause-client g c = let r = c.requires in let a = c.args in
    client_ready a.links.now a.i a.streams.now a.commands.now a.hands.now a.stream.now a.command.now r.own r.clients r.track.0 r.track.1 c.index-links-i-3.result

pub meet_with_hand-requires-clause-hand : goal.meet_with_hand-requires-clause-hand
meet_with_hand-requires-clause-hand g c = let r = c.requires in let a = c.args in
    let lt : a.i < length a.hands.now = (let t = r.track.2 in let f = c.if-is_empty.false in let u = c.is_empty.ensures in grind arith) in
    hand_ready a.links.now a.i a.streams.now a.commands.now a.hands.now a.stream.now a.command.now r.own r.clients r.track.0 r.track.1 c.index-links-i-3.result c.hand.inside.flag
    (slice_get-get_or a.hands.now a.i c.index-hands-i.result lt ∙ ap (λ (h : HandSide). Some h) (sym c.hand.view_is))

pub returns-clause-own : goal.returns-clause-own
returns-clause-own g c = let r = c.requires in let a = c.args in let e = c.meet_with_hand.ensures in let n = c.meet_with_hand.new in
    let lt : a.i < length a.hands.now = (let t = r.track.2 in let f = c.if-is_empty.false in let u = c.is_empty.ensures in grind arith) in
    own_after a.links.now a.i a.streams.now a.commands.now a.hands.now a.stream.now a.command.now r.own r.clients r.track.0 r.track.1 c.index-links-i-2.result c.index-links-i-3.result
    n.command n.stream n.stream_client n.command_client e.command e.stream e.client (slice_set a.hands.now a.i n.hand)
    (λ h is. ap hand_made (sym (some_same n.hand h (sym (get_set_same a.hands.now a.i n.hand lt) ∙ is))) ∙ e.hand)

pub returns-clause-met : goal.returns-clause-met
returns-clause-met g c = let r = c.requires in let a = c.args in let e = c.meet_with_hand.ensures in let n = c.meet_with_hand.new in
    let lt : a.i < length a.hands.now = (let t = r.track.2 in let f = c.if-is_empty.false in let u = c.is_empty.ensures in grind arith) in
    met_after a.links.now a.i a.streams.now a.commands.now a.hands.now a.stream.now a.command.now r.own r.clients r.track.0 r.track.1 c.index-links-i-2.result c.index-links-i-3.result
    n.command n.stream n.stream_client n.command_client e.command e.stream e.client c.index-commands-i-2.result c.index-streams-i-2.result (slice_set a.hands.now a.i n.hand) (Some c.hand.inside.flag) (Some n.hand)
    (slice_get-get_or a.hands.now a.i c.index-hands-i.result lt ∙ ap (λ (h : HandSide). Some h) (sym c.hand.view_is)) (get_set_same a.hands.now a.i n.hand lt) (length-set a.hands.now a.i n.hand) (λ j ne. get_set_other a.hands.now a.i j n.hand ne) e.commanded e.streamed
