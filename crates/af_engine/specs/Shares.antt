-- What contracts see of the objects that a run shares.
use Rattle.std.specs.Prelude.{◌≡◌, List}
use Rattle.atomic_table.specs.Seated.{TableId}
use Rattle.af_cblk.specs.Sides.{Made}
use Rattle.af_link.specs.declared.links.Links.{Links}

-- the shared objects: the queue, the blocks of the streams and of the commands by tracks, the pipe, and the cell of the report
pub record SharedState : Type 0 where
  pub queue : TableId
  pub streams : List Made
  pub commands : List Made
  pub pipe : Made
  pub report : TableId

-- the links lead to these objects
pub record AreLinksOf (shared : SharedState) (links : Links) : Type 0 where
  pub queue_is : links.queue.now ≡ shared.queue
  pub streams_are : links.streams.now ≡ shared.streams
  pub commands_are : links.commands.now ≡ shared.commands
  pub pipe_is : links.pipe.now ≡ shared.pipe
  pub report_is : links.report.now ≡ shared.report
