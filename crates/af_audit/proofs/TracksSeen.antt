-- What is seen of a track in a legal turn is legal, and so are the looks at its commands.
use Rattle.std.proofs.Common.{◌≡◌, ◌⊎◌, inl, inr, ℕ, ◌<◌, ◌≤◌, nat_lt, Bool, true, false, List, [], length, refl, sym, ap, subst, arith}
use Rattle.af_audit.proofs.Common.{BlockTold, CommandLook, LegalLooks, LegalTrack, LegalTurn, NormalKept, Outside, Setup, TrackSeen, Turn, TurnFound, get_or_past, learnt, listed, nat_tests, nothing_seen, outside_of, track_in, tracks_at}

module _ (c : Setup) (f : TurnFound) (m : NormalKept) (e : Turn) (o : Outside) (n : ℕ) (found : o ≡ record (outside_of c f e) { stream_front = o.stream_front; command_fronts = o.command_fronts }) (legal : LegalTurn c o m e) where
  abbrev told : Outside
  told = outside_of c f e

  abbrev b : BlockTold
  b = f.commands n

  abbrev looks : List CommandLook
  looks = (track_in e n).looks

  -- a track that isn't there is not looked at
  not_there : e.ended ≡ false → nat_lt n (length m.tracks) ≡ false → track_in e n ≡ nothing_seen
  not_there is high = get_or_past e.tracks n nothing_seen (let w = (legal.goes_on is).whole in let h : length m.tracks ≤ n = grind (arith, nat_tests, high) in omega (arith, w, h))

  -- what is seen of a track is legal, if it is looked at
  pub seen_legal : e.ended ≡ false → (track_in e n ≡ nothing_seen) ⊎ LegalTrack c (learnt told) (track_in e n) (tracks_at c (learnt told) m e n) n
  seen_legal is = by_low (nat_lt n (length m.tracks)) refl
    where
      by_low : (x : Bool) → nat_lt n (length m.tracks) ≡ x → (track_in e n ≡ nothing_seen) ⊎ LegalTrack c (learnt told) (track_in e n) (tracks_at c (learnt told) m e n) n
      by_low true low = inr (subst (λ k. LegalTrack c k (track_in e n) (tracks_at c k m e n) n) (ap learnt found) ((legal.goes_on is).tracks n (let l : n < length m.tracks = grind (arith, nat_tests, low) in l)))
      by_low false high = inl (not_there is high)

  pub track_legal : e.ended ≡ false → (looks ≡ []) ⊎ LegalTrack c (learnt told) (track_in e n) (tracks_at c (learnt told) m e n) n
  track_legal is = by_seen (seen_legal is)
    where
      by_seen : (track_in e n ≡ nothing_seen) ⊎ LegalTrack c (learnt told) (track_in e n) (tracks_at c (learnt told) m e n) n → (looks ≡ []) ⊎ LegalTrack c (learnt told) (track_in e n) (tracks_at c (learnt told) m e n) n
      by_seen (inl none) = inl (ap (λ (seen : TrackSeen). seen.looks) none)
      by_seen (inr legal_so) = inr legal_so

  -- the looks at a track's commands are legal, by some fronts
  pub looks_legal : e.ended ≡ false → (fronts : List ℕ) × LegalLooks (listed b) looks fronts
  looks_legal is = by_low (nat_lt n (length m.tracks)) refl
    where
      by_low : (x : Bool) → nat_lt n (length m.tracks) ≡ x → (fronts : List ℕ) × LegalLooks (listed b) looks fronts
      by_low true low = (o.command_fronts n, subst (λ (y : Outside). LegalLooks (y.commands n) looks (o.command_fronts n)) found ((legal.goes_on is).looks n (let l : n < length m.tracks = grind (arith, nat_tests, low) in l)))
      by_low false high = ([], subst (λ (seen : TrackSeen). LegalLooks (listed b) seen.looks []) (sym (not_there is high)) tt)
