-- The meetings of a round, and the ends of its clients, carry on what its turns did.
use Rattle.std.proofs.Common.{◌≡◌, ℕ, ◌+◌, ◌++◌, ◌∷◌, [], length, sym, ap, subst, ◌∙◌}
use Rattle.af_session.proofs.Common.{CarriesOn, FollowsRound, HasPlaces, IsInOrder, IsReadyOn, IsTally, Logged, Met, MixerState, Room, RoundNoted, SessionState, Shown, Tallied, given_of, shown_at, with_ends}
use Rattle.af_session.proofs.Following.{shown_met}
use Rattle.af_session.proofs.FollowingRounds.{ends_keep}
use Rattle.af_session.proofs.Ready.{ready_ends}
use Rattle.af_session.specs.declared.rig.Rig.{Rig}

module _ (s played met t : SessionState) (meets : Met played met) (long : length met.clients ≡ length played.clients) (ends : t ≡ with_ends met) where
  same_fast : t.fast ≡ met.fast
  same_fast = ap (λ (x : SessionState). x.fast) ends ∙ (ends_keep met).fast

  -- the sizes of the fast mixer stay, and its log
  pub sizes_met : (t.fast.frames ≡ played.fast.frames) × (t.fast.cycles ≡ played.fast.cycles) × (t.fast.log ≡ played.fast.log)
  sizes_met =
      let same : t.fast ≡ _ = same_fast ∙ meets.ends.fast in
      (ap (λ (m : MixerState). m.frames) same, ap (λ (m : MixerState). m.cycles) same, ap (λ (m : MixerState). m.log) same)

  -- a tally that followed the turns follows the round
  follows_met : (told told' : RoundNoted) (a b : Tallied) → told' ≡ told → IsInOrder played.fast → FollowsRound told s.fast played.fast a b → FollowsRound told' s.fast t.fast a b
  follows_met told told' a b same order follows = λ first tracks rounds is.
      let shown : shown_at first tracks (rounds ++ told' ∷ []) t.fast ≡ shown_at first tracks (rounds ++ told ∷ []) played.fast =
      (λ i. shown_at first tracks (rounds ++ same i ∷ []) (same_fast i)) ∙ shown_met first tracks (rounds ++ told ∷ []) played met order meets in
      subst (λ (run : Shown). IsTally run b) (sym shown) (follows first tracks rounds is)

  -- the places of a tally after the turns are those after the round
  places_met : (n : ℕ) (b : Tallied) → HasPlaces n (length played.clients) (length played.fast.log.entries) b → HasPlaces n (length t.clients) (length t.fast.log.entries) b
  places_met n b p =
      let clients : length played.clients ≡ length t.clients = sym (ap (λ (x : SessionState). length x.clients) ends ∙ (ends_keep met).long ∙ long) in
      let log : length played.fast.log.entries ≡ length t.fast.log.entries = sym (ap (λ (l : Logged). length l.entries) sizes_met.2) in
      subst (λ (x : ℕ × ℕ). HasPlaces n x.0 x.1 b) (λ i. (clients i, log i)) p

  -- what the turns carried on the round carries on
  pub carried_on : (rig : Rig) (told told' : RoundNoted) (room room' : Room) → told' ≡ told → IsInOrder played.fast → ((n : ℕ) → IsReadyOn rig n played → IsReadyOn rig n met) → CarriesOn rig told s played room room' → CarriesOn rig told' s t room room'
  carried_on rig told told' room room' same order stays on = record {
    ready = (λ n held. subst (IsReadyOn rig (n + 1)) (sym ends) (ready_ends (given_of rig) rig.links (n + 1) met (stays (n + 1) (on.ready n held))));
    sizes = (sizes_met.0 ∙ on.sizes.0, sizes_met.1 ∙ on.sizes.1);
    kept = on.kept;
    tally = follows_met told told' room.tally room'.tally same order on.tally;
    places = (λ n held. places_met (n + 1) room'.tally (on.places n held));
  }
