use Rattle.std.proofs.Common.{◌≡◌, ◌+◌, ℕ, [], length, sym, ap, subst, ◌∙◌, append-nil, arith}
use Rattle.af_session.proofs.Common.{FollowsRound, Given, HasPlaces, HasPlacesAt, IsReadyOn, KeepsSizes, RoundNoted, SessionState, Turns, given_of, round_told, with_items_is}
use Rattle.std.specs.Vec.{with_items}
use Rattle.af_script.specs.declared.op.TurnSpec.TheVariants as spec
use Rattle.af_session.proofs.FollowingRounds.{follows_fast, places_still}
use Rattle.af_session.proofs.NormalRounds.{goes_through, stays_exited}
use Rattle.af_session.proofs.Ready.{fast_stays, ready_on}
use Rattle.af_session.proofs.parties.Parties.play_fast.Goals as goal

pub returns-then-has_exited-clause-turns : goal.returns-then-has_exited-clause-turns
returns-then-has_exited-clause-turns g c =
    let given : Given = given_of c.args.rig.now in
    let was : SessionState = record { clients = c.self.inside.clients.items; normal = c.self.inside.normal; fast = c.self.inside.fast } in
    let turn = subst (λ (s : SessionState). (r : RoundNoted) × Turns given (spec.Fast c.args.count) s r [] s) c.self.view_is
    (stays_exited given c.args.count was (sym c.has_exited.ensures ∙ c.if-has_exited.true)) in
    (turn.0, [], (λ i. record { items = sym (append-nil c.args.room.now.bytes.items) i; room = c.args.room.now.bytes.room }), turn.1)

pub returns-then-has_exited-clause-tally : goal.returns-then-has_exited-clause-tally
returns-then-has_exited-clause-tally g c =
    let was : SessionState = record { clients = c.self.inside.clients.items; normal = c.self.inside.normal; fast = c.self.inside.fast } in
    let before = c.args.room.now.tally in
    subst (λ (s : SessionState). FollowsRound (round_told (spec.Fast c.args.count) s s) s.fast s.fast before before) c.self.view_is
    (follows_fast c.args.count was was before before (λ head tracks rounds is. is))

pub returns : goal.returns
returns g c =
    let given : Given = given_of c.args.rig.now in
    let was : SessionState = record { clients = c.deref_mut.result.now; normal = c.self.inside.normal; fast = c.self.inside.fast } in
    let is : was ≡ c.args.self.now = (λ i. record { clients = c.deref_mut.ensures.value i; normal = c.self.inside.normal; fast = c.self.inside.fast }) ∙ c.self.view_is in
    let next = c.fast_turn.new in
    let did = c.fast_turn.ensures in
    let turned = did.turned in
    let now : SessionState = record { clients = next.clients; normal = next.normal; fast = next.fast } in
    let kept = with_items_is c.self.inside.clients next.clients
    (let a = c.fast_turn.auto.clients in let v = ap length c.deref_mut.ensures.value in let o = c.self.inside.clients.ok.0 in omega arith) in
    let back : now ≡ record { clients = (with_items c.self.inside.clients next.clients).items; normal = next.normal; fast = next.fast } =
    (λ i. record { clients = sym kept i; normal = next.normal; fast = next.fast }) in
    let turn = subst (λ (x : SessionState × SessionState). (r : RoundNoted) × Turns given (spec.Fast c.args.count) x.0 r turned.added x.1) (λ i. (is i, back i))
    (goes_through given c.args.count was now turned.added (sym c.has_exited.ensures ∙ c.if-has_exited.false) turned.turn) in
    let before = c.args.room.now.tally in
    let after = next.room.tally in
    let entries : ℕ = length next.fast.log.entries in
    record {
      ready = λ n ready. subst (IsReadyOn c.args.rig.now (n + 1)) back
          (ready_on given c.args.rig.now.links n was (subst (IsReadyOn c.args.rig.now n) (sym is) ready) 0 (n + 1) now (omega arith)
          did.together did.between turned.adds.grows.whole (fast_stays given c.args.count was now turned.added turned.turn));
      sizes = subst (λ (s : SessionState). KeepsSizes s.fast next.fast) is did.sizes;
      turns = (turn.0, turned.added, turned.written_is, turn.1);
      kept = did.kept;
      tally = subst (λ (x : SessionState × SessionState). FollowsRound (round_told (spec.Fast c.args.count) x.0 x.1) x.0.fast x.1.fast before after)
          (λ i. (is i, back i)) (follows_fast c.args.count was now before after did.noted.follows);
      places = λ n has. subst (λ (s : SessionState). HasPlacesAt (n + 1) s after) back
          (subst (λ (k : ℕ). HasPlaces (n + 1) k entries after) (sym c.fast_turn.auto.clients)
          (places_still n (length was.clients) entries after (did.noted.places n (length was.clients)
          (subst (λ (s : SessionState). HasPlacesAt n s before) (sym is) has))));
    }
