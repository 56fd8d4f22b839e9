use Rattle.std.proofs.Common.{◌≡◌, ◌+◌, ◌-◌, ◌++◌, ℕ, Bool, List, length, map, refl, sym, ap, subst, ◌∙◌, arith}
use Rattle.af_side_by_side.proofs.Common.{CycleEntry, Given, HasPlaces, IsTally, Logged, PartyState, SessionState, Shown, StaysReadyOn, all_noted, given_of, length-append, pcm_of, places_more, slots, turn_of, with_all_calls, with_turn_if}
use Rattle.af_side_by_side.proofs.AloneTurns.{turned_adds}
use Rattle.af_side_by_side.proofs.LogRounds.{are_ends, has_auditor, has_scribe, round_logs}
use Rattle.af_side_by_side.proofs.NotedOfAll.{noted_after}
use Rattle.af_side_by_side.proofs.NotedTurns.{follows_all}
use Rattle.af_session.proofs.CarriedOn.{carried_on, sizes_met}
use Rattle.af_side_by_side.proofs.ReadyOfAll.{all_can, can_cycle, can_mix, few_tracks, played_by_all, ready_of_all}
use Rattle.af_side_by_side.proofs.rounds_of_all.round_of_all.Given.{Over}
use Rattle.af_side_by_side.proofs.rounds_of_all.round_of_all.Goals.{After-all_turns}
use Rattle.af_side_by_side.proofs.rounds_of_all.round_of_all.Goals as goal

-- ## The turns

pub all_turns-requires-clause-clients : goal.all_turns-requires-clause-clients
all_turns-requires-clause-clients g c = λ κs lives. all_can c.args.rig.now.links (given_of c.args.rig.now) c.requires.ready.0 c.args.parties.now c.requires.ready.2 c.requires.ready.1

pub all_turns-requires-clause-few : goal.all_turns-requires-clause-few
all_turns-requires-clause-few g c = λ κs lives. few_tracks c.args.rig.now.links (given_of c.args.rig.now) c.requires.ready.0 c.args.parties.now c.requires.ready.2 c.requires.ready.1

pub all_turns-requires-clause-mixers : goal.all_turns-requires-clause-mixers
all_turns-requires-clause-mixers g c = λ κs lives.
    let links = c.args.rig.now.links in
    let given : Given = given_of c.args.rig.now in
    let was : SessionState = c.args.parties.now in
    let ready = c.requires.ready in
    let log = c.requires.log in
    let places = c.requires.room.places in
    let fits = c.requires.room.bytes in
    let lt = places.1 in
    record {
      normal = can_mix links given ready.0 was ready.2 ready.1;
      fast = record {
        can = can_cycle links given ready.0 was ready.2 ready.1;
        fits = record { buffer = c.requires.room.buffer; bytes = omega (arith, fits); places = (places.0, length was.clients, omega (arith, lt), places.2) };
        scribe = has_scribe log.0 was.fast log.1 c.args.logging.now log.2;
        auditor = has_auditor log.0 was.fast log.1 c.args.logging.now ready.2.together.fast.0.room.entries.0 log.2;
      };
    }

-- after the turns the parties are ready for one round more
stays : (g : Over) (c : After-all_turns g) → StaysReadyOn c.args.rig.now c.args.parties.now c.all_turns.new.parties
stays g c = λ n ready.
    let mixers = c.all_turns.ensures.mixers in
    ready_of_all c.args.rig.now.links (given_of c.args.rig.now) c.args.parties.now c.all_turns.new.parties c.args.room.now.bytes c.all_turns.new.room.bytes
    c.all_turns.ensures.clients mixers.normal mixers.fast.played.turned n ready

-- ## Their notes

pub note_turns-requires : goal.note_turns-requires
note_turns-requires g c =
    let was : SessionState = c.args.parties.now in
    let is : SessionState = c.all_turns.new.parties in
    let next = stays g (goal.at.note_turns-requires g c).After-all_turns c.requires.ready.0 c.requires.ready.2 in
    let long : length was.clients ≡ length is.clients = sym c.requires.ready.2.given.0 ∙ next.given.0 in
    let places = c.requires.room.places in
    let noted = c.all_turns.ensures.mixers.fast.played.noted in
    let room = next.together.fast.0.room in
    let whole = next.together.normal.takes.together in
    let most = next.together.normal.tied.sizes.few in
    record {
      places = (
        places.0,
        length is.fast.log.entries,
        places.1,
        omega (arith, room.entries.0, room.sized.2),
        subst (λ (k : ℕ). HasPlaces places.0 k (length is.fast.log.entries) c.all_turns.new.room.tally) long
            (noted.places places.0 (length was.clients) places.2),
      );
      takes = omega (arith, whole, most);
    }

-- ## The meetings

pub meet_in-requires-clause-ready : goal.meet_in-requires-clause-ready
meet_in-requires-clause-ready g c =
    (c.requires.ready.0 + 1, stays g (goal.at.meet_in-requires-clause-ready g c).After-all_turns c.requires.ready.0 c.requires.ready.2)

pub meet_in-requires-clause-log : goal.meet_in-requires-clause-log
meet_in-requires-clause-log g c = are_ends c.requires.log.0 c.args.parties.now.fast c.all_turns.new.parties.fast c.requires.log.1 c.args.logging.now c.all_turns.new.logging c.requires.log.2 c.all_turns.ensures.mixers.fast.logged

-- ## What came of it

pub returns : goal.returns
returns g c =
    let rig = c.args.rig.now in
    let n : ℕ = c.requires.ready.0 in
    let was : SessionState = c.args.parties.now in
    let is : SessionState = c.all_turns.new.parties in
    let end : SessionState = c.end_clients.new.self in
    let room = c.all_turns.new.room in
    let notes = c.note_turns.ensures in
    let mixers = c.all_turns.ensures.mixers in
    let fast = mixers.fast.played in
    let played = played_by_all rig.links (given_of rig) was is c.args.room.now.bytes room.bytes c.all_turns.ensures.clients mixers.normal fast.turned in
    let on = stays g (goal.at.returns g c).After-all_turns in
    let next = on n c.requires.ready.2 in
    let after = c.meet_in.ensures.ready (n + 1) next in
    let met : length c.meet_in.new.parties.clients ≡ length is.clients = sym after.given.0 ∙ next.given.0 in
    let long : length was.clients ≡ length is.clients = sym c.requires.ready.2.given.0 ∙ next.given.0 in
    let told = noted_after was is c.meet_in.new.parties end c.meet_in.ensures.met met c.end_clients.ensures in
    let same = sizes_met was is c.meet_in.new.parties end c.meet_in.ensures.met met c.end_clients.ensures in
    let ended : c.has_ended-had_ended.result ≡ was.normal.ended = c.has_ended-had_ended.ensures ∙ ap (λ (s : SessionState). s.normal.ended) c.parties.view_is in
    let noted = subst (λ (b : Bool). (run : Shown) → IsTally run room.tally → IsTally (with_turn_if b (turn_of is.normal.entry)
    (with_all_calls (map (λ (p : PartyState). p.calls.items) is.clients) (length is.clients) run)) c.note_turns.new.tally) ended notes.tally in
    let adds = turned_adds rig.links was.fast is.fast fast.turned.added c.requires.ready.2.whole played.fast in
    let more : List CycleEntry = adds.mixes ++ adds.last in
    let both = length-append adds.mixes adds.last in
    let count : length end.fast.log.entries - length was.fast.log.entries ≡ length more =
    (let all = ap length adds.grows.entries in let behind = length-append was.fast.log.entries more in let log = ap (λ (l : Logged). length l.entries) same.2 in
    omega arith) in
    record {
      carried = carried_on was is c.meet_in.new.parties end c.meet_in.ensures.met met c.end_clients.ensures rig (all_noted was is)
          (all_noted was end) c.args.room.now (record room { tally = c.note_turns.new.tally }) told next.together.fast.0 c.meet_in.ensures.ready
          (record {
            ready = on;
            sizes = fast.turned.sizes;
            kept = record { buffer = fast.kept.buffer; bytes = fast.kept.bytes; released = fast.kept.released };
            tally = follows_all was is (turn_of is.normal.entry) c.args.room.now.tally room.tally c.note_turns.new.tally long refl
                (c.requires.room.places.2.tracks_are ∙ long) fast.noted.follows noted;
            places = (λ m held.
                let at = subst (λ (k : ℕ). HasPlaces m k (length is.fast.log.entries) room.tally) long (fast.noted.places m (length was.clients) held) in
                places_more m (length is.clients) (length is.fast.log.entries) slots room.tally c.note_turns.new.tally (omega arith) notes.keeps at);
          });
      round = (
        fast.turned.added,
        fast.turned.written_is,
        record {
          turned = is;
          met = c.meet_in.new.parties;
          links = rig.links;
          plays = played;
          told = told;
          meets = c.meet_in.ensures.met;
          ends = c.end_clients.ensures;
          together = (c.requires.ready.2.together, next.together, after.together);
        },
      );
      sound = λ before sounds. fast.turned.sound before sounds ∙ ap (λ (l : Logged). pcm_of was.fast.frames l) (sym same.2);
      log = λ kept rounds held. round_logs kept was.fast is.fast end.fast rounds
          (all_noted was end) more c.args.logging.now c.all_turns.new.logging c.meet_in.new.logging held mixers.fast.logged c.meet_in.ensures.log
          fast.turned.sizes.0 fast.turned.sizes.1 adds.grows.entries (omega (arith, both, adds.few)) count same.0 same.1 same.2;
    }
