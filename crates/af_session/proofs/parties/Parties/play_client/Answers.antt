use Rattle.std.proofs.Common.{◌≡◌, ◌+◌, ◌<◌, List, [], length, length-set, get_or, slice_get, slice_set, Some, refl, sym, ap, subst, ◌∙◌, arith, ℕ}
use Rattle.af_session.proofs.Common.{AreClientsOf, ClientCall, FollowsRound, Given, HasPlaces, HasPlacesAt, IsReadyOn, IsTally, PartyState, RoundNoted, SessionState, Shown, Turns, given_of, round_told, slice_get_read, with_calls}
use Rattle.af_script.specs.declared.op.TurnSpec.TheVariants as spec
use Rattle.af_session.proofs.FollowingRounds.{follows_client, places_more}
use Rattle.af_session.proofs.ClientRounds.{IsGiven, has_turned, is_given, legal_turn, work_asked, work_left}
use Rattle.af_session.proofs.Ready.{ready_client}
use Rattle.af_session.proofs.parties.Parties.play_client.Given.{Over}
use Rattle.af_session.proofs.parties.Parties.play_client.Goals.{After-index_mut-client}
use Rattle.af_session.proofs.parties.Parties.play_client.Goals as goal

-- the client stands at its place, and is given the ops and the file of its track
asked : (g : Over) (c : After-index_mut-client g)
    → (slice_get c.args.self.now.clients c.args.track ≡ Some c.index_mut-client.result.now)
    × IsGiven (given_of c.args.rig.now) c.args.track c.as_slice-ops.result.now c.frames-file.result.now
asked g c =
    let i = c.args.track in
    let s : SessionState = c.args.self.now in
    let p : PartyState = c.index_mut-client.result.now in
    let long = c.requires.ready.2.given in (
      slice_get_read s.clients (length s.clients) i p refl c.requires.track
          (c.index_mut-client.ensures.value ∙ ap (λ (x : SessionState). get_or x.clients i p) c.self.view_is),
      is_given (given_of c.args.rig.now) i i c.index-tracks-i.result c.as_slice-ops.result.now c.index-files-i.result c.frames-file.result.now refl
          (omega (arith, c.requires.track, long.0), omega (arith, c.requires.track, long.1))
          c.index-tracks-i.is c.as_slice-ops.ensures.ops c.index-files-i.is c.frames-file.ensures,
    )

pub turn-requires : goal.turn-requires
turn-requires g c =
    let i = c.args.track in
    let p : PartyState = c.index_mut-client.result.now in
    let ready = c.requires.ready in
    let is = asked g (goal.at.turn-requires g c).After-index_mut-client in
    let sent = ready.2.few i p is.0 in
    record {
      clients = subst (λ (k : ℕ). AreClientsOf c.args.rig.now.links k p.stream p.command) (sym (ready.2.together.tracks i p is.0))
          (ready.2.together.clients i p is.0);
      work = work_asked (given_of c.args.rig.now) i c.as_slice-ops.result.now c.frames-file.result.now is.1 p (ready.2.works i p is.0);
      few = omega (arith, sent, ready.1);
    }

pub returns : goal.returns
returns g c =
    let i = c.args.track in
    let s : SessionState = c.args.self.now in
    let given : Given = given_of c.args.rig.now in
    let p : PartyState = c.index_mut-client.result.now in
    let q : PartyState = c.turn.new.self in
    let did = c.turn.ensures in
    let is = asked g (goal.at.returns g c).After-index_mut-client in
    let turn = legal_turn given i c.as_slice-ops.result.now c.frames-file.result.now is.1 p q did.legal did.turned in
    let before = c.args.tally.now in
    let after = c.note_calls.new.self in
    let within : i < length before.tracks = omega (arith, c.requires.track, c.requires.places.2.tracks_are) in
    let noted = subst (λ (calls : List ClientCall). (run : Shown) → IsTally run before → IsTally (with_calls run i calls) after)
    (c.as_slice.ensures ∙ ap (λ (p : PartyState). p.calls.items) c.client.view_is) c.note_calls.ensures.tally in
    let turned = ap (λ (x : SessionState). record x { clients = slice_set x.clients i q }) c.self.view_is in
    record {
      ready = λ n ready. subst (IsReadyOn c.args.rig.now (n + 1)) (sym turned)
          (ready_client given c.args.rig.now.links n s ready i p q is.0
          (subst (λ (k : ℕ). AreClientsOf c.args.rig.now.links k q.stream q.command) (did.track ∙ ready.together.tracks i p is.0) did.clients)
          (work_left given i c.as_slice-ops.result.now c.frames-file.result.now is.1 q did.work) did.track did.few);
      same = ap (λ (x : SessionState). x.fast) turned;
      turns = subst (λ (t : SessionState). (r : RoundNoted) × Turns given (spec.Client i) s r [] t) (sym turned) (has_turned given s i p q is.0 turn);
      tally = subst (λ (t : SessionState). FollowsRound (round_told (spec.Client i) s t) s.fast t.fast before after) (sym turned)
          (follows_client s i q before after c.requires.track within noted);
      places = λ n has. subst (λ (t : SessionState). HasPlacesAt (n + 1) t after) (sym turned)
          (subst (λ (k : ℕ). HasPlaces (n + 1) k (length s.fast.log.entries) after) (sym (length-set s.clients i q))
          (places_more n (length s.clients) (length s.fast.log.entries) 0 before after (omega arith) c.note_calls.ensures.keeps has));
    }
