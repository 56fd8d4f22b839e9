-- The load of the report is a step of its own: the reader's list grows by it, and nothing else does.
use Rattle.std.proofs.Common.{◌≡◌, ℕ, List, [], ◌∷◌, ◌++◌, sym, ap, ◌∙◌}
use Rattle.af_told_law.proofs.Common.{BlockTold, Load, MixerState, NormalState, PartyState, ReaderEvent, Report, Run, ServerEvent, Session, SessionState, TrackTold, Turn, going, report_of, told_at, with_load}
use Rattle.af_link.specs.Reports.{ReaderSide}
use Rattle.af_told_law.specs.QueueTurned.{QueueKnown}
use Rattle.af_told_law.specs.Tells.{Tells, TellsStream, TellsTrack}
use Rattle.af_told_law.specs.Deeds.{Deeds}
use Rattle.af_judge.proofs.QueueSteps.{ones_stay, twos_more}

-- ## What the reader of the report has no part in

stream_apart : (m : NormalState) (r : ReaderSide) (f : MixerState) (i : ℕ) (b : BlockTold) (deed : List ServerEvent) → TellsStream m f i b deed → TellsStream (record m { reader = r }) f i b deed
stream_apart m r f i b deed h = record {
  home = h.home;
  away = (λ gone. let a = h.away gone in record { held = a.held; goes = a.goes; comes = a.comes; waits = a.waits; back = a.back });
  hand = h.hand;
}

pub track_apart : (s : Session) (m : NormalState) (r : ReaderSide) (f : MixerState) (d : Deeds) (i : ℕ) (t : TrackTold) (p : PartyState) → TellsTrack s m f d i t p → TellsTrack s (record m { reader = r }) f d i t p
track_apart s m r f d i t p h = record { client = h.client; stream = stream_apart m r f i t.stream (d.streams i) h.stream; commands = h.commands; did = h.did }

-- ## The load

-- the reader had this before the load
module _ (s : Session) (run : Run) (y : SessionState) (before : ReaderSide) (e : Turn) where
  abbrev loads : List (ReaderEvent Report)
  loads = going e (Load e.cycle (report_of run.reports e.cycle) ∷ [])

  abbrev unread : NormalState
  unread = record y.normal { reader = before }

  module _ {d : Deeds} where
    -- the run with the load tells the session after the load
    pub load_told : Tells s run d (record y { normal = unread }) → y.normal.reader.events ≡ before.events ++ loads → Tells s (with_load e run) d y
    unfolding with_load
    load_told told grows = record {
      count = told.count;
      tracks = (λ i p is. track_apart s unread y.normal.reader y.fast d i (told_at run i) p (told.tracks i p is));
      shared = record {
        first = told.shared.first;
        mutator = told.shared.mutator;
        observer = told.shared.observer;
        reader = grows ∙ ap (λ (l : List (ReaderEvent Report)). l ++ loads) told.shared.reader ∙ sym (twos_more run.report loads);
        writer = told.shared.writer ∙ sym (ones_stay run.report loads);
        puts = record { told = told.shared.puts.told; words = told.shared.puts.words };
        takes = told.shared.takes;
        taken = told.shared.taken;
        size = told.shared.size;
      };
      normal = record { setup = told.normal.setup; kept = told.normal.kept; hands = told.normal.hands; states = told.normal.states; number = told.normal.number; last = told.normal.last };
      fast = record {
        frames = told.fast.frames;
        cycles = told.fast.cycles;
        current = told.fast.current;
        state = told.fast.state;
        entries = told.fast.entries;
        logged = told.fast.logged;
        exited = told.fast.exited;
        reports = told.fast.reports;
        fresh = told.fast.fresh;
      };
    }

-- the queue is known as before
pub known_loaded : (frames : ℕ) (run : Run) (e : Turn) (m : NormalState) → QueueKnown frames run m → QueueKnown frames (with_load e run) m
unfolding with_load
known_loaded frames run e m known = record { clear = known.clear; beyond = known.beyond; before = known.before }
