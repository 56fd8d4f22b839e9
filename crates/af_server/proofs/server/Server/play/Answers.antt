use Rattle.std.proofs.Common.{rules, length, take}
use Rattle.af_base.specs.Log.{count_seen}
use Rattle.af_server.proofs.SlotPlayed.{played_by}
use Rattle.af_server.proofs.server.Server.play.Goals as goal

pub returns-clause-plays : goal.returns-clause-plays
returns-clause-plays g c = record {
  slot = played_by (length c.args.buffer.now) c.place_of.result c.args.self.now c.gains-gains.new.self c.look-look.new.self c.follow.new.self c.gains-gains.result c.look-look.result c.is_some-was_shut.result
      (take (count_seen c.look-look.result.seen) c.follow.new.buffer) c.requires.ready.1 c.gains-gains.ensures.saw (search (rules)) c.look-look.ensures.looks c.look-look.ensures.within c.follow.ensures.list;
  frames = search (rules);
  within = search (rules);
  place_is = search (rules);
}
