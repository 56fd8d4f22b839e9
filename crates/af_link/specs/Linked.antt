-- When the ends of the shared objects belong to these links.
use Rattle.std.specs.Prelude.{◌≡◌, Option, Some}
use Rattle.atomic_table.specs.Seated.{TableId}
use Rattle.af_cblk.specs.Sides.{Made}
use Rattle.af_link.specs.declared.names.StreamNames.{StreamNames}
use Rattle.af_link.specs.declared.links.Links.{Links}

-- An end of the queue, of the report and of the pipe were made with these links' queue, report and pipe, and the queue's key names the blocks of the streams
pub record AreLinked (links : Links) (key : Option StreamNames) (queue report : TableId) (pipe : Made) : Type 0 where
  pub names : (names : StreamNames) × (key ≡ Some names) × (names.blocks ≡ links.streams.now)
  pub queue_is : queue ≡ links.queue.now
  pub report_is : report ≡ links.report.now
  pub pipe_is : pipe ≡ links.pipe.now
