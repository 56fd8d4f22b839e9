use Rattle.std.proofs.Common.{Bool, not, ◌==◌, is_some, ◌≡◌, ℕ, ◌-◌, ◌<◌, ◌≤◌, length, sym, ap, subst, ◌∙◌, arith}
use Rattle.af_normal.proofs.Common.{Links, NormalTake, Push, Report, Roomy, Setup, TrackTurn, TurnEntry, asked, length-map}
use Rattle.af_normal.specs.AllMixed.{HasTakes}
use Rattle.af_normal.specs.Order.{HasTurns, IsGoing, most_turns}
use Rattle.af_normal.specs.State.{NormalState, setup_of}
use Rattle.af_normal.specs.declared.turn.Turn.TheVariants.{Turned}
use Rattle.af_normal.specs.Mutating.{Pushes}
use Rattle.af_normal.specs.Turning.{Learns}
use Rattle.af_normal.proofs.GoesOn.{all_streams_of, same_tracks, may_mutate, is_idle, few_colds, small_sizes, push_idle, push_together, push_room, tied_p, still, play_blocks, play_ready, play_takes, play_none, play_few, play_home, play_sizes, play_room}
use Rattle.af_normal.proofs.OrderTurn.{going_learnt}
use Rattle.af_normal.proofs.Servable.{servable}
use Rattle.af_normal.proofs.mixer.NormalMixer.go_on.Goals as goal

pub learn-room-requires : goal.learn-room-requires
learn-room-requires g c = let l = c.requires.going.tied.linked in record { report = l.report_is; pipe = l.pipe_is }

pub serve_all-requires : goal.serve_all-requires
serve_all-requires g c =
    let t : ℕ = c.args.self.now.turns - 1 in
    let few : t < most_turns = (let f = c.requires.few in let n = c.requires.going.next in omega arith) in
    let y : NormalState = c.learn-room.new.self in
    let a : IsGoing c.args.links.now t y = going_learnt c.args.links.now t c.args.self.now c.requires.going c.learn-room.result.0 c.learn-room.result.1 y c.learn-room.ensures.learns in
    record {
      sizes = (a.tied.sizes.streams_are, a.tied.sizes.settings);
      tracks = servable c.args.links.now t c.args.self.now c.requires.going few c.learn-room.result.0 c.learn-room.result.1 y c.learn-room.ensures.learns;
      turns = a.turns_room;
      none = a.none.0;
    }

pub mutate-requires : goal.mutate-requires
mutate-requires g c =
    let links : Links = c.args.links.now in
    let t : ℕ = c.args.self.now.turns - 1 in
    let few : t < most_turns = (let f = c.requires.few in let n = c.requires.going.next in omega arith) in
    let x : NormalState = c.args.self.now in
    let r : Report = c.learn-room.result.0 in
    let n : ℕ = c.learn-room.result.1 in
    let y : NormalState = c.learn-room.new.self in
    let s : NormalState = c.serve_all.new.self in
    let e = c.serve_all.ensures in
    record {
      idle = is_idle links t x c.requires.going few r n y c.learn-room.ensures.learns s e.serves e.own;
      may = may_mutate links t x c.requires.going few r n y c.learn-room.ensures.learns s e.serves e.own;
      sizes = small_sizes links t x c.requires.going few r n y c.learn-room.ensures.learns s e.serves e.own;
      colds = few_colds links t x c.requires.going few r n y c.learn-room.ensures.learns s e.serves e.own;
    }

pub push-pushed-requires : goal.push-pushed-requires
push-pushed-requires g c =
    let links : Links = c.args.links.now in
    let t : ℕ = c.args.self.now.turns - 1 in
    let few : t < most_turns = (let f = c.requires.few in let n = c.requires.going.next in omega arith) in
    let x : NormalState = c.args.self.now in
    let r : Report = c.learn-room.result.0 in
    let n : ℕ = c.learn-room.result.1 in
    let y : NormalState = c.learn-room.new.self in
    let s : NormalState = c.serve_all.new.self in
    let e = c.serve_all.ensures in
    let z : NormalState = c.mutate.new.self in
    record {
      idle = push_idle links t x c.requires.going few r n y c.learn-room.ensures.learns s e.serves e.own z c.mutate.ensures.edits;
      together = push_together links t x c.requires.going few r n y c.learn-room.ensures.learns s e.serves e.own z c.mutate.ensures.edits;
      room = push_room links t x c.requires.going few r n y c.learn-room.ensures.learns s e.serves e.own z c.mutate.ensures.edits;
    }

pub play-mixed-requires : goal.play-mixed-requires
play-mixed-requires g c =
    let links : Links = c.args.links.now in
    let t : ℕ = c.args.self.now.turns - 1 in
    let few : t < most_turns = (let f = c.requires.few in let n = c.requires.going.next in omega arith) in
    let x : NormalState = c.args.self.now in
    let r : Report = c.learn-room.result.0 in
    let n : ℕ = c.learn-room.result.1 in
    let y : NormalState = c.learn-room.new.self in
    let s : NormalState = c.serve_all.new.self in
    let e = c.serve_all.ensures in
    let z : NormalState = c.mutate.new.self in
    let a : Push = c.push-pushed.result in
    let p : NormalState = c.push-pushed.new.self in
    let tied = tied_p links t x c.requires.going few r n y c.learn-room.ensures.learns s e.serves e.own z c.mutate.ensures.edits a p c.push-pushed.ensures.pushes in
    record {
      tracks = (tied.sizes.few, sym tied.sizes.settings);
      streams = tied.sizes.streams_are;
      blocks = play_blocks links t x c.requires.going few r n y c.learn-room.ensures.learns s e.serves e.own z c.mutate.ensures.edits a p c.push-pushed.ensures.pushes;
      home = play_home links t x c.requires.going few r n y c.learn-room.ensures.learns s e.serves e.own z c.mutate.ensures.edits a p c.push-pushed.ensures.pushes;
      ready = play_ready links t x c.requires.going few r n y c.learn-room.ensures.learns s e.serves e.own z c.mutate.ensures.edits a p c.push-pushed.ensures.pushes;
      few = play_few links t x c.requires.going few r n y c.learn-room.ensures.learns s e.serves e.own z c.mutate.ensures.edits a p c.push-pushed.ensures.pushes;
      takes = play_takes links t x c.requires.going few r n y c.learn-room.ensures.learns s e.serves e.own z c.mutate.ensures.edits a p c.push-pushed.ensures.pushes;
      none = play_none links t x c.requires.going few r n y c.learn-room.ensures.learns s e.serves e.own z c.mutate.ensures.edits a p c.push-pushed.ensures.pushes;
      sizes = play_sizes links t x c.requires.going few r n y c.learn-room.ensures.learns s e.serves e.own z c.mutate.ensures.edits a p c.push-pushed.ensures.pushes;
      pipe = tied.linked.pipe_is;
      room = play_room links t x c.requires.going few r n y c.learn-room.ensures.learns s e.serves e.own z c.mutate.ensures.edits a p c.push-pushed.ensures.pushes;
      scales = tied.sizes.scales;
    }

pub returns : goal.returns
returns g c =
    let links : Links = c.args.links.now in
    let t : ℕ = c.args.self.now.turns - 1 in
    let few : t < most_turns = (let f = c.requires.few in let n = c.requires.going.next in omega arith) in
    let x : NormalState = c.args.self.now in
    let r : Report = c.learn-room.result.0 in
    let n : ℕ = c.learn-room.result.1 in
    let y : NormalState = c.learn-room.new.self in
    let s : NormalState = c.serve_all.new.self in
    let e = c.serve_all.ensures in
    let z : NormalState = c.mutate.new.self in
    let a : Push = c.push-pushed.result in
    let p : NormalState = c.push-pushed.new.self in
    let q : NormalState = c.play-mixed.new.self in
    let w : NormalState = c.note.new.self in
    let g : Pushes a z p = c.push-pushed.ensures.pushes in
    let l : Learns r n x y = c.learn-room.ensures.learns in
    let d = c.play-mixed.ensures in
    let told = c.note.ensures in
    let same = still links t x c.requires.going few r n y l s e.serves e.own z c.mutate.ensures.edits a p g in
    let tied = tied_p links t x c.requires.going few r n y l s e.serves e.own z c.mutate.ensures.edits a p g in
    let long : length w.tracks ≡ length p.tracks = ap (λ (m : NormalState). length m.tracks) told.same ∙ d.long in
    let spare : w.spare_turns ≡ s.spare_turns = ap (λ (m : NormalState). m.spare_turns) told.same ∙ ap (λ (m : NormalState). m.spare_turns) d.plays.same ∙ same.spare_turns in
    let turns : w.entry.tracks ≡ s.entry.tracks = told.lists.0 ∙ ap (λ (m : TurnEntry). m.tracks) d.entry ∙ same.tracks in
    let setup : setup_of w ≡ setup_of p = ap setup_of told.same ∙ ap setup_of d.plays.same in
    let streams_long : length q.streams ≤ length links.streams.now = (let h = length-map q.streams is_some in let i = length-map p.streams is_some in let j = ap length d.there in let k = tied.sizes.streams_are in let b : length p.tracks ≤ length links.streams.now = play_blocks links t x c.requires.going few r n y l s e.serves e.own z c.mutate.ensures.edits a p g in omega arith) in
    record {
      goes = (
        r,
        n,
        a,
        record {
          goes = record {
            learnt = y;
            learns = l;
            served = s;
            serves = e.serves;
            edited = z;
            edits = c.mutate.ensures.edits;
            pushed = p;
            pushes = g;
            played = q;
            plays = d.plays;
            tells = told.tells;
            leaves = told.same;
          };
          own = e.own;
          streams = all_streams_of links.streams.now q.streams streams_long d.ready;
          turns = subst (λ (k : ℕ). HasTurns k w.entry.tracks w.spare_turns) (sym (long ∙ same_tracks links t x c.requires.going few r n y l s e.serves e.own z c.mutate.ensures.edits a p g))
              (subst (λ (m : Roomy TrackTurn). HasTurns (length y.tracks) m w.spare_turns) (sym turns) (subst (HasTurns (length y.tracks) s.entry.tracks) (sym spare) e.turns));
          takes = subst (λ (k : Setup). HasTakes (asked k) (length w.tracks) w.entry.mixes w.spare_takes) (sym setup)
              (subst (λ (k : ℕ). HasTakes (asked (setup_of p)) k w.entry.mixes w.spare_takes) (sym long)
              (subst (λ (m : Roomy NormalTake). HasTakes (asked (setup_of p)) (length p.tracks) m w.spare_takes) (sym told.lists.1)
              (subst (HasTakes (asked (setup_of p)) (length p.tracks) q.entry.mixes) (sym (ap (λ (m : NormalState). m.spare_takes) told.same)) d.takes)));
        },
        ap (λ (b : Bool). Turned b a) (d.mixed ∙ ap (λ (m : Roomy NormalTake). not (length m.items == 0)) (sym told.lists.1)),
      );
    }
