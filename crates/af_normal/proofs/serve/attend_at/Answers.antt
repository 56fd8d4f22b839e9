use Rattle.std.proofs.Common.{Option, None, refl, subst, arith}
use Rattle.af_normal.proofs.Common.{ServerState, get_or_default, slice_get-get_or, slice_index_or, track_seen}
use Rattle.af_normal.specs.Serving.{Attends}
use Rattle.af_normal.proofs.Owned.{command_of, stream_of, hand_of_track, own_after}
use Rattle.af_normal.proofs.serve.attend_at.Goals as goal

pub attend-requires : goal.attend-requires
attend-requires g c =
    let own = c.requires.track.1 in let lt = c.requires.track.0 in
    record {
      command = command_of c.args.links.now c.args.streams.now c.args.commands.now c.args.hands.now c.args.i own lt c.index-commands-i.result c.index-links-i.result;
      stream = stream_of c.args.links.now c.args.streams.now c.args.commands.now c.args.hands.now c.args.i own lt c.index-streams-i.result c.index-links-i-2.result;
      hand = hand_of_track c.args.links.now c.args.streams.now c.args.commands.now c.args.hands.now c.args.i own lt c.index-hands-i.result c.index-links-i-2.result;
      seen = (c.requires.seen.0, (let r = c.requires.seen.1 in omega arith));
      few = c.requires.few;
    }

pub returns : goal.returns
returns g c =
    let own = c.requires.track.1 in let lt = c.requires.track.0 in let e = c.attend.ensures in
    record {
      own = own_after c.args.links.now c.args.streams.now c.args.commands.now c.args.hands.now c.args.i own lt c.index-links-i.result c.index-links-i-2.result
          c.attend.new.command c.attend.new.stream c.attend.new.hand e.command e.stream e.hand;
      attends = record {
        command = slice_index_or c.args.commands.now c.args.i c.index-commands-i.result;
        has_command = slice_get-get_or c.args.commands.now c.args.i c.index-commands-i.result own.there.0;
        flag = slice_index_or c.args.hands.now c.args.i c.index-hands-i.result;
        has_flag = slice_get-get_or c.args.hands.now c.args.i c.index-hands-i.result own.there.1;
        command' = c.attend.new.command;
        stream' = c.attend.new.stream;
        flag' = c.attend.new.hand;
        attends = subst (λ (o : Option ServerState). Attends c.args.given c.args.heard c.args.ready (slice_index_or c.args.commands.now c.args.i c.index-commands-i.result) o
            (slice_index_or c.args.hands.now c.args.i c.index-hands-i.result) (track_seen c.attend.new.seen) c.attend.new.command c.attend.new.stream c.attend.new.hand)
            (get_or_default c.args.streams.now c.args.i c.index-streams-i.result None lt) e.attends;
        streams_are = refl;
        commands_are = refl;
        hands_are = refl;
      };
      track = e.track;
      room = e.room;
    }
