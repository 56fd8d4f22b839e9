use Rattle.std.proofs.Common.{◌≡◌, ◌<◌, ℕ, length, slice_get, slice_index_or, Some, sym, ap, subst, arith}
use Rattle.af_session.proofs.Common.{AreClientsOf, PartyState, TrackMet, all_met, met_more, slice_get-get_or}
use Rattle.af_session.proofs.MetTracks.{still_together}
use Rattle.af_session.proofs.meetings.meet.Goals as goal

pub meet_party-requires : goal.meet_party-requires
meet_party-requires g c =
    let l = c.loop-i in
    let inside : l.i < length l.clients = omega arith in
    let p : PartyState = slice_index_or l.clients l.i c.index-clients-i.result in
    let is : slice_get l.clients l.i ≡ Some p = slice_get-get_or l.clients l.i c.index-clients-i.result inside in
    let together = l.invariant.together in
    let track : p.track ≡ l.i = together.tracks l.i p is in
    let count = together.count in
    record {
      party = subst (λ (n : ℕ). AreClientsOf c.args.links.now n p.stream p.command) (sym track) (together.clients l.i p is);
      track = omega (arith, inside, track, count);
      normal = together.normal;
      fast = together.fast;
    }

pub loop-i-preserved : goal.loop-i-preserved
loop-i-preserved g c =
    let l = c.loop-i in
    let now = c.meet_party.new in
    let done = c.meet_party.ensures in
    let inside : l.i < length l.clients = omega arith in
    let p : PartyState = slice_index_or l.clients l.i c.index-clients-i.result in
    let is : slice_get l.clients l.i ≡ Some p = slice_get-get_or l.clients l.i c.index-clients-i.result inside in
    let so_far = l.invariant in
    let track : p.track ≡ l.i = so_far.together.tracks l.i p is in
    record {
      together = still_together c.args.links.now l.clients l.normal now.normal l.fast now.fast l.i p now.party so_far.together is done.normal done.fast
          done.same_normal (ap (λ (z : PartyState). z.track) done.met.same)
          (subst (λ (k : ℕ). AreClientsOf c.args.links.now k now.party.stream now.party.command) track done.party);
      met = met_more TrackMet l.i p.track c.args.clients.now l.clients c.meet_ends.new.normal l.normal now.normal c.meet_ends.new.fast l.fast now.fast p
          now.party so_far.met is track done.same_normal done.same_fast done.met done.others done.items;
    }

pub returns-clause-met : goal.returns-clause-met
returns-clause-met g c =
    let both = all_met TrackMet c.loop-i.i c.args.clients.now c.loop-i.clients c.args.normal.now c.meet_ends.new.normal c.loop-i.normal c.args.fast.now
    c.meet_ends.new.fast c.loop-i.fast (omega arith) c.meet_ends.ensures.met c.meet_ends.ensures.same c.loop-i.invariant.met in
    record { ends = both.0; tracks = both.1 }
