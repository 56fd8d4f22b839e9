-- The cycles of a turn whose polls all find the last state pushed are told, one after the other.
use Rattle.std.proofs.Common.{◌≡◌, ℕ, ◌<◌, ◌≤◌, List, [], ◌∷◌, length, append-nil, Some, sym, ap, subst, ◌∙◌, arith}
use Rattle.af_play_law.proofs.Common.{AreTogether, Deeds, EntrySeen, GoOn, HasStateHistory, LegalEntries, Links, Made, Marks, MixerState, NormalState, Observes, PartyState, Polls, Run, SawOwnBy, SawOwnOf, ServerEvent, ServerState, Session, SessionState, Shape, StartsWith, StreamNames, Tells, Track, client_made, same_Some, slice_get, some_at, told_at, track_count, with_cycle, with_cycles, with_poll}
use Rattle.af_cblk.proofs.Basics.{goes_on}
use Rattle.af_model.specs.ServerCalls.{server_begins}
use Rattle.af_told_law.proofs.MixLooks.{own_split}
use Rattle.af_play_law.proofs.Cycled.{CyclesAre, OneAdded}
use Rattle.af_play_law.proofs.OneCycle.{CycleShown, CycleTold, MayCycle, cycle_told, same_polled}

-- ## The servers go on

pub go_none : (d : Deeds) → GoOn d d
go_none d = record { streams = (λ i. ([], append-nil (d.streams i))); commands = (λ i. ([], append-nil (d.commands i))) }

pub go_then : (a b c : Deeds) → GoOn a b → GoOn b c → GoOn a c
go_then a b c f g = record { streams = (λ i. goes_on (a.streams i) (b.streams i) (c.streams i) (f.streams i) (g.streams i)); commands = (λ i. goes_on (a.commands i) (b.commands i) (c.commands i) (f.commands i) (g.commands i)) }

-- a server that saw its own fronts did so before
pub saw_first : (k : Shape) (es first : List ServerEvent) → StartsWith es first → SawOwnOf k es → SawOwnOf k first
saw_first k es first starts saw = (own_split k (server_begins k) first starts.0 (subst (SawOwnOf k) (sym starts.1) saw)).0

-- ## Runs of one session

-- two runs of one session, whose blocks have the same sizes
pub record SameShapes (s : Session) (a b : Run) : Type 0 where
  pub before : length a.tracks ≡ track_count s
  pub after : length b.tracks ≡ track_count s
  pub streams : (i : ℕ) → i < track_count s → (told_at b i).stream.shape ≡ (told_at a i).stream.shape
  pub commands : (i : ℕ) → i < track_count s → (told_at b i).commands.shape ≡ (told_at a i).commands.shape

pub shapes_then : (s : Session) (a b c : Run) → SameShapes s a b → SameShapes s b c → SameShapes s a c
shapes_then s a b c f g = record { before = f.before; after = g.after; streams = (λ i low. g.streams i low ∙ f.streams i low); commands = (λ i low. g.commands i low ∙ f.commands i low) }

-- the blocks of a run that tells a session have the sizes of the session's links
module _ (links : Links) (s : Session) where
  pub record HasShapes (run : Run) : Type 0 where
    pub many : length run.tracks ≡ track_count s
    pub streams : (i : ℕ) → i < track_count s → (m : Made) × (slice_get links.streams.now i ≡ Some m) × ((told_at run i).stream.shape ≡ m.shape)
    pub commands : (i : ℕ) → i < track_count s → (m : Made) × (slice_get links.commands.now i ≡ Some m) × ((told_at run i).commands.shape ≡ m.shape)

  pub shapes_told : (run : Run) (d : Deeds) (x : SessionState) → Tells s run d x → AreTogether links x → HasShapes run
  shapes_told run d x told together = record { many = told.count.0; streams = streams; commands = commands }
    where
      party : (i : ℕ) → i < track_count s → (p : PartyState) × (slice_get x.clients i ≡ Some p)
      party i low = some_at x.clients i (let c = told.count.1 in omega (arith, low, c))

      streams : (i : ℕ) → i < track_count s → (m : Made) × (slice_get links.streams.now i ≡ Some m) × ((told_at run i).stream.shape ≡ m.shape)
      streams i low = let p = party i low in (client_made p.0.stream.pass, (together.clients i p.0 p.1).stream_is, ap (λ (t : Track). t.stream.shape) (told.tracks i p.0 p.1).client)

      commands : (i : ℕ) → i < track_count s → (m : Made) × (slice_get links.commands.now i ≡ Some m) × ((told_at run i).commands.shape ≡ m.shape)
      commands i low = let p = party i low in (client_made p.0.command.pass, (together.clients i p.0 p.1).command_is, ap (λ (t : Track). t.commands.shape) (told.tracks i p.0 p.1).client)

  same_streams : (a b : Run) → HasShapes a → HasShapes b → (i : ℕ) → i < track_count s → (told_at b i).stream.shape ≡ (told_at a i).stream.shape
  same_streams a b f g i low =
      let m = f.streams i low in
      let n = g.streams i low in
      n.2 ∙ ap (λ (k : Made). k.shape) (same_Some n.0 m.0 (sym n.1 ∙ m.1)) ∙ sym m.2

  same_commands : (a b : Run) → HasShapes a → HasShapes b → (i : ℕ) → i < track_count s → (told_at b i).commands.shape ≡ (told_at a i).commands.shape
  same_commands a b f g i low =
      let m = f.commands i low in
      let n = g.commands i low in
      n.2 ∙ ap (λ (k : Made). k.shape) (same_Some n.0 m.0 (sym n.1 ∙ m.1)) ∙ sym m.2

  pub shapes_same : (a b : Run) → HasShapes a → HasShapes b → SameShapes s a b
  shapes_same a b f g = record { before = f.many; after = g.many; streams = same_streams a b f g; commands = same_commands a b f g }

-- if each front seen by the end of a run is a server's own, so is each seen before
pub saw_back : (s : Session) (marks : Marks) (a b : Run) (d e : Deeds) → SameShapes s a b → GoOn d e → SawOwnBy marks b e → SawOwnBy marks a d
saw_back s marks a b d e same goes saw = record {
  streams = (λ i low on.
      let here : i < track_count s = (let m = same.before in omega (arith, m, low)) in
      let there : i < length b.tracks = (let m = same.after in omega (arith, m, here)) in
      subst (λ (k : Shape). SawOwnOf k (d.streams i)) (same.streams i here) (saw_first (told_at b i).stream.shape (e.streams i) (d.streams i) (goes.streams i) (saw.streams i there on)));
  commands = (λ i low on.
      let here : i < track_count s = (let m = same.before in omega (arith, m, low)) in
      let there : i < length b.tracks = (let m = same.after in omega (arith, m, here)) in
      subst (λ (k : Shape). SawOwnOf k (d.commands i)) (same.commands i here) (saw_first (told_at b i).commands.shape (e.commands i) (d.commands i) (goes.commands i) (saw.commands i there on)));
}

-- a poll changes no block
saw_polled : (marks : Marks) (s : Session) (k : ℕ) (run : Run) (d : Deeds) → SawOwnBy marks run d → SawOwnBy marks (with_poll s k run) d
unfolding with_poll
saw_polled marks s k run d h = record { streams = h.streams; commands = h.commands }

-- ## Cycles one after the other

module _ (links : Links) where
  -- each cycle found the last state that this normal mixer pushed
  abbrev pub AllShown : NormalState → (es : List EntrySeen) → (f g : MixerState) → CyclesAre links es f g → Type 0
  AllShown n [] f g c = Unit {0}
  AllShown n (e ∷ es) f g c = CycleShown n f c.1.once.polled c.0 × AllShown n es c.0 g c.2

  same_past : (f : MixerState) (e : EntrySeen) (g : MixerState) (one : OneAdded links f e g) → g.observer.past ≡ one.once.polled.observer.past
  same_past f e g one = ap (λ (o : Observes ServerState StreamNames). o.past) one.adds.takes.observer

  -- the history goes on by the polls of these cycles
  pub history_after : (n : NormalState) (es : List EntrySeen) (f g : MixerState) (c : CyclesAre links es f g) → AllShown n es f g c → HasStateHistory n.mutator.past.first n.mutator.past.events f.observer.past.events → HasStateHistory n.mutator.past.first n.mutator.past.events g.observer.past.events
  history_after n [] f g c shown h = subst (λ (m : MixerState). HasStateHistory n.mutator.past.first n.mutator.past.events m.observer.past.events) (sym c) h
  history_after n (e ∷ es) f g (next, one, c) (now, later) h =
      history_after n es next g c later (subst (λ (w : Polls ServerState StreamNames). HasStateHistory n.mutator.past.first n.mutator.past.events w.events) (sym (same_past f e next one)) now.history)

  -- the mixer has polled no more states than were pushed, and if it has polled as many, it has the last of them
  abbrev pub Reaches : NormalState → MixerState → Type 0
  Reaches n f = (f.observer.past.number ≤ n.mutator.past.number) × (0 < n.mutator.past.number → f.observer.past.number ≡ n.mutator.past.number → f.observer.past.state ≡ n.mutator.past.last)

  pub reaches_after : (n : NormalState) (es : List EntrySeen) (f g : MixerState) (c : CyclesAre links es f g) → AllShown n es f g c → Reaches n f → Reaches n g
  reaches_after n [] f g c shown h = subst (Reaches n) (sym c) h
  reaches_after n (e ∷ es) f g (next, one, c) (now, later) h = reaches_after n es next g c later (low, same)
    where
      low : next.observer.past.number ≤ n.mutator.past.number
      low = let a : next.observer.past.number ≡ one.once.polled.observer.past.number = ap (λ (w : Polls ServerState StreamNames). w.number) (same_past f e next one) in let b = now.finds.number in omega (arith, a, b)

      same : 0 < n.mutator.past.number → next.observer.past.number ≡ n.mutator.past.number → next.observer.past.state ≡ n.mutator.past.last
      same some all = ap (λ (w : Polls ServerState StreamNames). w.state) (same_past f e next one) ∙ same_polled n f one.once.polled one.once.adopts one.on now.finds h.1 some

  -- a mixer that has polled no state that wasn't pushed yet has the last one once it has polled as many
  pub same_after : (n : NormalState) (es : List EntrySeen) (f g : MixerState) (c : CyclesAre links es f g) → AllShown n es f g c → (0 < n.mutator.past.number → f.observer.past.number ≡ n.mutator.past.number → f.observer.past.state ≡ n.mutator.past.last)
      → 0 < n.mutator.past.number → g.observer.past.number ≡ n.mutator.past.number → g.observer.past.state ≡ n.mutator.past.last
  same_after n [] f g c shown h = subst (λ (m : MixerState). 0 < n.mutator.past.number → m.observer.past.number ≡ n.mutator.past.number → m.observer.past.state ≡ n.mutator.past.last) (sym c) h
  same_after n (e ∷ es) f g (next, one, c) (now, later) h =
      same_after n es next g c later (λ some all. ap (λ (w : Polls ServerState StreamNames). w.state) (same_past f e next one) ∙ same_polled n f one.once.polled one.once.adopts one.on now.finds h some)

  module _ (s : Session) where
    -- the run with these entries tells the session with the mixer g, and each is legal
    pub record CyclesTold (run : Run) (d : Deeds) (y : SessionState) (es : List EntrySeen) (g : MixerState) : Type 0 where
      pub deeds : Deeds
      pub goes : GoOn d deeds
      pub may : MayCycle links s (with_cycles s es run) deeds (record y { fast = g })
      pub legal : (marks : Marks) → SawOwnBy marks (with_cycles s es run) deeds → LegalEntries s marks run es

    pub cycles_told : (es : List EntrySeen) (run : Run) (d : Deeds) (y : SessionState) (g : MixerState) → MayCycle links s run d y → (c : CyclesAre links es y.fast g) → AllShown y.normal es y.fast g c → CyclesTold run d y es g
    cycles_told [] run d y g may c shown = record { deeds = d; goes = go_none d; may = subst (λ (f : MixerState). MayCycle links s run d (record y { fast = f })) (sym c) may; legal = (λ marks saw. tt) }
    cycles_told (e ∷ es) run d y g may (next, one, c) (now, later) =
        let first : CycleTold links s run d y e next = cycle_told links s run d y may e next one now in
        let rest : CyclesTold (with_cycle s run e) first.deeds (record y { fast = next }) es g = cycles_told es (with_cycle s run e) first.deeds (record y { fast = next }) g first.may c later in
        record {
          deeds = rest.deeds;
          goes = go_then d first.deeds rest.deeds first.goes rest.goes;
          may = rest.may;
          legal = (λ marks saw. (
            first.legal marks (saw_polled marks s e.entry.state run first.deeds
                (saw_back s marks run (with_cycles s es (with_cycle s run e)) first.deeds rest.deeds
                (shapes_same links s run (with_cycles s es (with_cycle s run e)) (shapes_told links s run d y may.told may.together)
                (shapes_told links s (with_cycles s es (with_cycle s run e)) rest.deeds (record y { fast = g }) rest.may.told rest.may.together))
                rest.goes saw)),
            rest.legal marks saw,
          ));
        }
