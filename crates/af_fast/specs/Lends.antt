-- What a mixer ends as, once a part that it lent comes back.
use denote.Struct.Tuple.{Tuple}
use Rattle.std.specs.Prelude.{[], ◌∷◌}
use Rattle.std.specs.Borrow.{Lends, LendsBoth, Fml, MutBor}
use Rattle.af_server.specs.Order.{ServerState}
use Rattle.af_stateq.specs.Observes.{Observes}
use Rattle.af_link.specs.declared.names.StreamNames.{StreamNames}
use Rattle.af_server.specs.contracts.server.Server.{the_row as server_row}
use Rattle.af_link.specs.contracts.names.StreamNames.{the_row as names_row}
use Rattle.af_stateq.specs.contracts.observer.Observer.{the_row as observer_row}
use Rattle.af_link.specs.contracts.reports.ReportWriter.{the_row as writer_row}
use Rattle.af_link.specs.contracts.ends.PipeOut.{the_row as pipe_row}
use Rattle.af_link.specs.PipeEnds.{OutSide}
use Rattle.af_link.specs.Reports.{WriterSide}
use Rattle.af_fast.specs.contracts.mixer.FastMixer.{the_row}
use Rattle.af_fast.specs.Fits.{stream_fits}
use Rattle.af_fast.specs.Mixer.{MixerState}

-- the mixer ends with an observer that is the last value written through r
abbrev pub lends_observer : MutBor MixerState → MutBor (Observes ServerState StreamNames) → Fml
lends_observer m r = Lends the_row (observer_row server_row names_row names_row (record { fits = stream_fits })) m r (λ o. record m.now { observer = o })

-- the mixer ends with ends of the report and of the pipe that are the parts of the last value written through r
abbrev pub lends_pair : MutBor MixerState → MutBor (WriterSide × OutSide) → Fml
lends_pair m r = Lends the_row (Tuple (writer_row ∷ pipe_row ∷ [])) m r (λ e. record m.now { writer = e.0; pipe = e.1 })

-- the mixer ends with ends of the report and of the pipe that are the last values written through the two references
abbrev pub lends_ends : MutBor MixerState → MutBor WriterSide × MutBor OutSide → Fml
lends_ends m r = LendsBoth the_row writer_row pipe_row m r (λ w p. record m.now { writer = w; pipe = p })
