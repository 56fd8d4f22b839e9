-- The ends of the queue, of the report and of the pipe before anything was done on them.
use Rattle.std.specs.Prelude.{◌≡◌, ℕ, ◌*◌, []}
use Rattle.af_cblk.specs.Rule.{new_client, new_server}
use Rattle.af_cblk.specs.Shape.{IsShape}
use Rattle.af_model.specs.Draft.{initial}
use Rattle.af_server.specs.Order.{ServerState}
use Rattle.af_stateq.specs.Mutates.{Mutates, IsNewMutator}
use Rattle.af_stateq.specs.Observes.{Observes, IsNewObserver, InOrder}
use Rattle.af_link.specs.PipeEnds.{InSide, OutSide, in_made, out_made}
use Rattle.af_link.specs.Reports.{ReaderSide, WriterSide}
use Rattle.af_link.specs.declared.names.StreamNames.{StreamNames}
use Rattle.af_fast.specs.Fits.{stream_fits}
use Rattle.af_fast.specs.Mixer.{MixerState}
use Rattle.af_normal.specs.State.{NormalState}
use Rattle.af_engine.specs.Shares.{SharedState}

-- the ends of the queue, of the report and of the pipe, of the normal mixer and of the fast mixer
pub record EndStates : Type 0 where
  pub mutator : Mutates ServerState StreamNames
  pub reader : ReaderSide
  pub from : InSide
  pub observer : Observes ServerState StreamNames
  pub writer : WriterSide
  pub to : OutSide

-- the ends of the queue, of the report and of the pipe that two mixers have
abbrev pub ends_of : NormalState → MixerState → EndStates
ends_of normal fast = record { mutator = normal.mutator; reader = normal.reader; from = normal.pipe; observer = fast.observer; writer = fast.writer; to = fast.pipe }

-- the ends are those of the shared objects
pub record AreEndsOf (shared : SharedState) (e : EndStates) : Type 0 where
  pub queue_is : (e.mutator.past.queue ≡ shared.queue) × (e.observer.past.queue ≡ shared.queue)
  pub report_is : (e.reader.cell ≡ shared.report) × (e.writer.cell ≡ shared.report)
  pub pipe_is : (in_made e.from ≡ shared.pipe) × (out_made e.to ≡ shared.pipe)

-- Nothing was done on the ends. The queue's states are for so many frames, its names are those of the streams, and the pipe holds four buffers of so many cycles
pub record AreNewEnds (frames normal : ℕ) (shared : SharedState) (e : EndStates) : Type 0 where
  pub ends : AreEndsOf shared e
  pub names : StreamNames
  pub names_are : names.blocks ≡ shared.streams
  pub mutator : IsNewMutator names (initial frames) e.mutator
  pub observer : IsNewObserver names (initial frames) e.observer × InOrder stream_fits e.observer
  pub reports : (e.reader.events ≡ []) × (e.writer.events ≡ [])
  pub pipe : (shared.pipe.shape.frames ≡ 4 * (normal * frames)) × (shared.pipe.shape.base ≡ 0) × (shared.pipe.shape.wrap ≡ 0)
  pub shape : IsShape shared.pipe.shape
  pub from : (e.from.pass.part ≡ new_client shared.pipe.shape) × (e.from.room ≡ 4 * (normal * frames))
  pub to : (e.to.pass.part ≡ new_server shared.pipe.shape) × (e.to.shown ≡ 0)
