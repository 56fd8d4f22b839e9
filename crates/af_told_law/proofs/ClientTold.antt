-- After a client's turn the run with its calls tells the session.
use Rattle.std.proofs.Common.{Bool, List, Some, ap, arith, if◌then◌else◌, inl, inr, length, length-set, refl, slice_get, slice_set, subst, sym, ℕ, ◌<◌, ◌==◌, ◌∙◌, ◌≡◌, ◌⊎◌}
use Rattle.af_told_law.proofs.Common.{BlockTold, ClientCall, ClientTurned, MixerState, NormalState, PartyState, RoundSeen, Run, ServerEvent, Session, SessionState, Shape, Side, Track, TrackTold, after_calls, called_in_turn, calls_alone, calls_in, cases_eq, client-hand, client-server, client_list, drop, each_long, eq-eqb, file_at, get_set_other, get_set_same, ne_eqb, ops_at, same_Some, server_list, sides_of, slice_get_within, told_at, told_each, track_of, with_side}
use Rattle.af_runs.specs.Blocks.{hand_list}
use Rattle.af_judge.proofs.TracksTold.{sides_called}
use Rattle.af_told_law.specs.Alike.{TellAlike}
use Rattle.af_told_law.specs.Tells.{Tells, TellsTrack, given_of}
use Rattle.af_told_law.specs.Deeds.{DeedTold, Deeds, SawOwnOf}

-- ## A block of which the server did nothing

-- if the run tells the same of a server that did this, it is told as before
pub did_same : (b c : BlockTold) (deed : List ServerEvent) → c.shape ≡ b.shape → server_list c ≡ server_list b → DeedTold b deed → DeedTold c deed
did_same b c deed shape list h = record {
  alike = subst (λ (y : Shape × List ServerEvent). TellAlike y.0 deed y.1) (λ j. (sym shape j, sym list j)) h.alike;
  own = (λ saw. h.own (subst (λ (k : Shape). SawOwnOf k deed) shape saw) ∙ sym list);
}

-- the run tells the session with other tracks and clients, as many, if it tells each of these
pub others_told : (s : Session) (run : Run) {d : Deeds} (x : SessionState) → Tells s run d x → (tracks : List TrackTold) (clients : List PartyState) → length tracks ≡ length run.tracks → length clients ≡ length x.clients
    → ((i : ℕ) (p : PartyState) → slice_get clients i ≡ Some p → TellsTrack s x.normal x.fast d i (told_at (record run { tracks = tracks }) i) p) → Tells s (record run { tracks = tracks }) d (record x { clients = clients })
others_told s run x h tracks clients long many each = record {
  count = (long ∙ h.count.0, many ∙ h.count.1);
  tracks = each;
  shared = record {
    first = h.shared.first;
    mutator = h.shared.mutator;
    observer = h.shared.observer;
    reader = h.shared.reader;
    writer = h.shared.writer;
    puts = record { told = h.shared.puts.told; words = h.shared.puts.words };
    takes = h.shared.takes;
    taken = h.shared.taken;
    size = h.shared.size;
  };
  normal = record { setup = h.normal.setup; kept = h.normal.kept; hands = h.normal.hands; states = h.normal.states; number = h.normal.number; last = h.normal.last };
  fast = record { frames = h.fast.frames; cycles = h.fast.cycles; current = h.fast.current; state = h.fast.state; entries = h.fast.entries; logged = h.fast.logged; exited = h.fast.exited; reports = h.fast.reports; fresh = h.fast.fresh };
}

-- ## The calls

servers_same : (b : BlockTold) (side : Side) → server_list (with_side side b) ≡ server_list b
servers_same b side = client-server b.told (drop (length (client_list b)) side.events)

hand_same : (b : BlockTold) (side : Side) → hand_list (with_side side b) ≡ hand_list b
hand_same b side = client-hand b.told (drop (length (client_list b)) side.events)

module _ (s : Session) (m : NormalState) (f : MixerState) (d : Deeds) (i : ℕ) (t : TrackTold) (p q : PartyState) (calls : List ClientCall) (h : TellsTrack s m f d i t p)
    (turned : track_of (ops_at (given_of s) i) (file_at (given_of s) i) q ≡ after_calls (track_of (ops_at (given_of s) i) (file_at (given_of s) i) p) calls) where
  called_told : TellsTrack s m f d i (called_in_turn calls t) q
  called_told =
      let after : Track = after_calls (sides_of t) calls in
      record {
        client = sides_called t calls ∙ ap (λ (y : Track). after_calls y calls) h.client ∙ sym turned;
        stream = record { home = h.stream.home; away = h.stream.away; hand = h.stream.hand ∙ sym (hand_same t.stream after.stream) };
        commands = (λ c is. let was = h.commands c is in record { server = was.server; whole = was.whole; none = hand_same t.commands after.commands ∙ was.none });
        did = record {
          stream = did_same t.stream (with_side after.stream t.stream) (d.streams i) refl (servers_same t.stream after.stream) h.did.stream;
          commands = did_same t.commands (with_side after.commands t.commands) (d.commands i) refl (servers_same t.commands after.commands) h.did.commands;
        };
      }

module _ (s : Session) (run : Run) (i : ℕ) (round : RoundSeen) {d : Deeds} (x y : SessionState) (h : Tells s run d x) (c : ClientTurned (given_of s) i x y (calls_in round i)) where
  abbrev after : Run
  after = calls_alone i round run

  abbrev change : ℕ → TrackTold → TrackTold
  change n t = if n == i then called_in_turn (calls_in round i) t else t

  long : i < length x.clients
  long = slice_get_within x.clients i c.before c.was

  there : (j : ℕ) (q : PartyState) → (j ≡ i) ⊎ (j ≡ i → ⊥) → slice_get (slice_set x.clients i c.after) j ≡ Some q → j < length run.tracks → TellsTrack s x.normal x.fast d j (told_at after j) q
  there j q (inl e) is low =
      let one : c.after ≡ q = same_Some c.after q (sym (get_set_same x.clients i c.after long) ∙ ap (slice_get (slice_set x.clients i c.after)) (sym e) ∙ is) in
      let told : told_at after i ≡ called_in_turn (calls_in round i) (told_at run i) = told_each change run i (omega (arith, low, e)) ∙ ap (λ (b : Bool). if b then called_in_turn (calls_in round i) (told_at run i) else told_at run i) (eq-eqb i i refl) in
      let mine : TellsTrack s x.normal x.fast d i (told_at after i) c.after =
      subst (λ (t : TrackTold). TellsTrack s x.normal x.fast d i t c.after) (sym told) (called_told s x.normal x.fast d i (told_at run i) c.before c.after (calls_in round i) (h.tracks i c.before c.was) c.turned) in
      subst (λ (z : ℕ × PartyState). TellsTrack s x.normal x.fast d z.0 (told_at after z.0) z.1) (λ k. (sym e k, one k)) mine
  there j q (inr ne) is low =
      let told : told_at after j ≡ told_at run j = told_each change run j low ∙ ap (λ (b : Bool). if b then called_in_turn (calls_in round i) (told_at run j) else told_at run j) (ne_eqb j i ne) in
      subst (λ (t : TrackTold). TellsTrack s x.normal x.fast d j t q) (sym told) (h.tracks j q (sym (get_set_other x.clients i j c.after ne) ∙ is))

  abbrev left : SessionState
  left = record x { clients = slice_set x.clients i c.after }

  left_told : Tells s after d left
  left_told = others_told s run x h after.tracks left.clients (each_long change 0 run.tracks) (length-set x.clients i c.after)
      (λ j q is. there j q (cases_eq j i) is (let w = slice_get_within (slice_set x.clients i c.after) j q is in let n = length-set x.clients i c.after in let a = h.count.0 in let b = h.count.1 in omega (arith, w, n, a, b)))

  pub client_told : Tells s after d y
  client_told = subst (Tells s after d) (sym c.leaves) left_told
