-- The reader of the report has no part in the order of the normal mixer, nor the mark for an adopted state in what is told of the fast mixer.
use Rattle.std.proofs.Common.{ℕ, Bool, List}
use Rattle.af_play_law.proofs.Common.{BlockTold, Deeds, Links, MixerState, NormalState, PartyState, Run, ServerEvent, Session, SessionState, Tells, TellsStream, TellsTrack, TrackTold, told_at}
use Rattle.af_normal.specs.Order.{HasNoHands, IsInOrder as IsNormalInOrder}

-- ## The reader of the report

-- a normal mixer is in order with the reader of another one over the same links
pub order_unread : (links : Links) (m n : NormalState) → IsNormalInOrder links m → IsNormalInOrder links n → IsNormalInOrder links (record n { reader = m.reader })
order_unread links m n before h = record {
  tied = record {
    sound = h.tied.sound;
    sizes = h.tied.sizes;
    proxies = h.tied.proxies;
    out = h.tied.out;
    linked = record { names = h.tied.linked.names; queue_is = h.tied.linked.queue_is; report_is = before.tied.linked.report_is; pipe_is = h.tied.linked.pipe_is };
  };
  small = h.small;
  none_yet = (λ none. let was : HasNoHands n = h.none_yet none in record { none = was.none; home = was.home; whole = was.whole });
  hands = h.hands;
  turns = h.turns;
  takes = h.takes;
  idle = h.idle;
  looks = h.looks;
}

-- ## The mark for an adopted state

module _ (m : NormalState) (f : MixerState) (b : Bool) where
  abbrev marked : MixerState
  marked = record f { adopted = b }

  stream_marked : (i : ℕ) (t : BlockTold) (deed : List ServerEvent) → TellsStream m f i t deed → TellsStream m marked i t deed
  stream_marked i t deed h = record {
    home = h.home;
    away = (λ gone. let a = h.away gone in record { held = a.held; goes = a.goes; comes = a.comes; waits = a.waits; back = a.back });
    hand = h.hand;
  }

  track_marked : (s : Session) (d : Deeds) (i : ℕ) (t : TrackTold) (p : PartyState) → TellsTrack s m f d i t p → TellsTrack s m marked d i t p
  track_marked s d i t p h = record { client = h.client; stream = stream_marked i t.stream (d.streams i) h.stream; commands = h.commands; did = h.did }

-- the run tells the session with and without it
pub told_marked : (s : Session) (run : Run) (d : Deeds) (y : SessionState) (b : Bool) → Tells s run d y → Tells s run d (record y { fast = record y.fast { adopted = b } })
told_marked s run d y b h = record {
  count = h.count;
  tracks = (λ i p is. track_marked y.normal y.fast b s d i (told_at run i) p (h.tracks i p is));
  shared = record {
    first = h.shared.first;
    mutator = h.shared.mutator;
    observer = h.shared.observer;
    reader = h.shared.reader;
    writer = h.shared.writer;
    puts = h.shared.puts;
    takes = h.shared.takes;
    taken = h.shared.taken;
    size = h.shared.size;
  };
  normal = h.normal;
  fast = record {
    frames = h.fast.frames;
    cycles = h.fast.cycles;
    current = h.fast.current;
    state = h.fast.state;
    entries = h.fast.entries;
    logged = h.fast.logged;
    exited = h.fast.exited;
    reports = h.fast.reports;
    fresh = h.fast.fresh;
  };
}
