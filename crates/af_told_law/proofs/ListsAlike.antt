-- What a turn does on alike lists is told alike, whichever fronts its looks really saw.
use Rattle.std.proofs.Common.{◌≡◌, ℕ, ◌<◌, ◌≤◌, ◌&&◌, not, nat_le, Bool, true, false, if◌then◌else◌, List, [], ◌∷◌, ◌++◌, length, length-append, Option, Some, None, refl, sym, ap, ◌∙◌, subst, arith, append_assoc}
use Rattle.af_told_law.proofs.Common.{AllByRecursion, IsSound, LegalLooks, LegalTurn, Listed, LooksBy, NormalKept, Outside, ServerEvent, Setup, Shape, TakeSeen, TrackKept, Turn, after_edits, all_command_events, asked, command_list, cycle_events, flat_map, front_of, fronts_by, heard, invalid, is_found_shut, is_home, is_mixed_here, learnt, mix_events, status_events, stream_list, take_front, takes_from, track_at, track_in, tracks_at}
use Rattle.af_base.specs.declared.event.ServerEvent.TheVariants as server
use Rattle.af_told_law.proofs.OneTake.{one_take}
use Rattle.af_told_law.specs.Alike.{TellAlike}
use Rattle.af_told_law.proofs.Outsides.{AreAlike, ListAlike}
use Rattle.af_told_law.proofs.KeptAlike.{NoDrops}
use Rattle.af_told_law.proofs.KeptLooks.{all_alike, more_alike, takes_alike}
use Rattle.af_told_law.proofs.LegalAlike.{invalid_same}
use Rattle.af_told_law.proofs.TurnAlike.{learn_alike, tracks_same}
use Rattle.af_told_law.proofs.TurnFronts.{taken_looks}

-- a stream whose proxy did nothing in a turn was not taken from
pub nothing_taken : (c : Setup) (o : Outside) (e : Turn) (tracks : List TrackKept) (i : ℕ) → e.ended ≡ false → stream_list c o e tracks i ≡ [] → takes_from e.mixes i ≡ []
nothing_taken c o e tracks i runs none = by_takes (takes_from e.mixes i) (sym (ap (λ (b : Bool). if b then [] else flags ++ mix_events c o e.mixes i) runs) ∙ none)
  where
    flags : List ServerEvent
    flags = if is_home (track_at tracks i).holder then invalid (learnt o) (track_in e i) tracks i else []

    by_takes : (takes : List TakeSeen) → flags ++ flat_map (λ (take : TakeSeen). cycle_events (asked c) (o.streams i) take.slot (o.stream_front i)) takes ≡ [] → takes ≡ []
    by_takes [] is = refl
    by_takes (take ∷ takes) is =
        let rest : List ServerEvent = flat_map (λ (take : TakeSeen). cycle_events (asked c) (o.streams i) take.slot (o.stream_front i)) (take ∷ takes) in
        let l : length (flags ++ rest) ≡ 0 = ap (λ (es : List ServerEvent). length es) is in
        let a = length-append flags rest in
        let some : 1 ≤ length rest = some_events (cycle_events (asked c) (o.streams i) take.slot (o.stream_front i)) (flat_map (λ (take : TakeSeen). cycle_events (asked c) (o.streams i) take.slot (o.stream_front i)) takes) (omega arith) in
        absurd (omega (arith, l, a, some))
      where
        some_events : (es more : List ServerEvent) → 1 ≤ length es → 1 ≤ length (es ++ more)
        some_events es more some = let a = length-append es more in omega (arith, a, some)

flag_drops : (b : Bool) → NoDrops (if b then server.SetFlags 4 ∷ [] else [])
flag_drops true = tt
flag_drops false = tt

status_drops : (o : Option ℕ) → NoDrops (status_events o)
status_drops None = tt
status_drops (Some word) = tt

module _ (c : Setup) (m : NormalKept) (e : Turn) (o p : Outside) (sound : IsSound m.tracks m.draft) (alike : AreAlike m e o p) (legal : LegalTurn c o m e) (runs : e.ended ≡ false) where
  flags_same : (i : ℕ) → i < length m.tracks → (if is_home (track_at (tracks_at c (learnt o) m e i) i).holder then invalid (learnt o) (track_in e i) (tracks_at c (learnt o) m e i) i else [])
      ≡ (if is_home (track_at (tracks_at c (learnt p) m e i) i).holder then invalid (learnt p) (track_in e i) (tracks_at c (learnt p) m e i) i else [])
  flags_same i low = λ j. if is_home (track_at (tracks_same c (learnt o) (learnt p) m e sound (learn_alike m e o p alike) i j) i).holder then invalid_same c m e o p sound alike i low j else []

  -- the list of a stream tells alike, if the other outside's front is that told
  pub stream_list_alike : (i : ℕ) → i < length m.tracks → ListAlike (o.streams i) (p.streams i) → p.stream_front i ≡ take_front (front_of (asked c)) (p.streams i) (takes_from e.mixes i)
      → TellAlike (p.streams i).shape ((o.streams i).events ++ stream_list c o e (tracks_at c (learnt o) m e i) i) ((p.streams i).events ++ stream_list c p e (tracks_at c (learnt p) m e i) i)
  stream_list_alike i low near front =
      let k : Shape = (p.streams i).shape in
      let s : TrackKept = track_at (tracks_at c (learnt o) m e i) i in
      let home : Bool = is_home s.holder in
      let shut : Bool = not s.life.ended && is_found_shut (heard (learnt o) i s) (track_in e i).looks in
      let flags : List ServerEvent = if home then (if shut then server.SetFlags 4 ∷ [] else []) else [] in
      let takes : List TakeSeen = takes_from e.mixes i in
      let as_told : o.streams i ≡ record { shape = k; events = (o.streams i).events } = λ j. record { shape = near.shape j; events = (o.streams i).events } in
      let due = (legal.goes_on runs).due in
      let one = one_take (λ (j : ℕ). is_mixed_here (track_at (after_edits c (learnt o) e m).tracks j)) (length (after_edits c (learnt o) e m).tracks) i e.mixes (nat_le (asked c) e.room) due in
      let looks : AllByRecursion (λ (take : TakeSeen). LooksBy (asked c) (o.streams i) take.slot (o.stream_front i)) takes = taken_looks c o i e.mixes (legal.goes_on runs).takes in
      let base : TellAlike k ((o.streams i).events ++ (flags ++ mix_events c o e.mixes i)) ((p.streams i).events ++ (flags ++ mix_events c p e.mixes i)) =
      subst (λ (y : Listed × ℕ). TellAlike k ((o.streams i).events ++ (flags ++ flat_map (λ (take : TakeSeen). cycle_events (asked c) y.0 take.slot (o.stream_front i)) takes)) ((p.streams i).events ++ (flags ++ flat_map (λ (take : TakeSeen). cycle_events (asked c) (p.streams i) take.slot y.1) takes))) (λ j. (sym as_told j, sym front j))
      (takes_alike k (o.streams i).events (p.streams i).events near.alike (asked c) home shut takes (o.stream_front i) one
      (λ take rest is. subst (λ (l : Listed). LooksBy (asked c) l take.slot (o.stream_front i)) as_told (subst (AllByRecursion (λ (take : TakeSeen). LooksBy (asked c) (o.streams i) take.slot (o.stream_front i))) is looks).0)) in
      subst (λ (z : List ServerEvent × List ServerEvent). TellAlike k ((o.streams i).events ++ z.0) ((p.streams i).events ++ z.1))
      (λ j. (
        sym (ap (λ (b : Bool). if b then [] else flags ++ mix_events c o e.mixes i) runs) j,
        (ap (λ (fs : List ServerEvent). fs ++ mix_events c p e.mixes i) (flags_same i low)
            ∙ sym (ap (λ (b : Bool). if b then [] else (if is_home (track_at (tracks_at c (learnt p) m e i) i).holder then invalid (learnt p) (track_in e i) (tracks_at c (learnt p) m e i) i else []) ++ mix_events c p e.mixes i) runs)) j,
      )) base

  -- the list of a command block tells alike
  pub command_list_alike : (i : ℕ) → i < length m.tracks → p.command_fronts i ≡ fronts_by front_of (p.commands i) (track_in e i).looks
      → TellAlike (p.commands i).shape ((o.commands i).events ++ command_list c o e (tracks_at c (learnt o) m e i) i) ((p.commands i).events ++ command_list c p e (tracks_at c (learnt p) m e i) i)
  command_list_alike i low fronts =
      let near = alike.commands i low in
      let k : Shape = (p.commands i).shape in
      let xs : List ServerEvent = (o.commands i).events in
      let ys : List ServerEvent = (p.commands i).events in
      let s : TrackKept = track_at (tracks_at c (learnt o) m e i) i in
      let shut : Bool = not s.life.ended && is_found_shut (heard (learnt o) i s) (track_in e i).looks in
      let inv : List ServerEvent = if shut then server.SetFlags 4 ∷ [] else [] in
      let status : List ServerEvent = status_events (track_in e i).status in
      let as_told : o.commands i ≡ record { shape = k; events = xs } = λ j. record { shape = near.shape j; events = xs } in
      let es : List ServerEvent = all_command_events (o.commands i) (track_in e i).looks (o.command_fronts i) in
      let fs : List ServerEvent = all_command_events (p.commands i) (track_in e i).looks (p.command_fronts i) in
      let looks : TellAlike k (xs ++ es) (ys ++ fs) =
      subst (λ (y : Listed × List ℕ). TellAlike k (xs ++ all_command_events y.0 (track_in e i).looks (o.command_fronts i)) (ys ++ all_command_events (p.commands i) (track_in e i).looks y.1)) (λ j. (sym as_told j, sym fronts j))
      (all_alike k xs ys near.alike (track_in e i).looks (o.command_fronts i) (subst (λ (l : Listed). LegalLooks l (track_in e i).looks (o.command_fronts i)) as_told ((legal.goes_on runs).looks i low))) in
      let all : TellAlike k (((xs ++ es) ++ inv) ++ status) (((ys ++ fs) ++ inv) ++ status) =
      more_alike k ((xs ++ es) ++ inv) ((ys ++ fs) ++ inv) status (status_drops (track_in e i).status) (more_alike k (xs ++ es) (ys ++ fs) inv (flag_drops shut) looks) in
      let joined : (zs gs : List ServerEvent) → ((zs ++ gs) ++ inv) ++ status ≡ zs ++ ((gs ++ inv) ++ status) = λ zs gs. ap (λ (l : List ServerEvent). l ++ status) (append_assoc zs gs inv) ∙ append_assoc zs (gs ++ inv) status in
      subst (λ (z : List ServerEvent × List ServerEvent). TellAlike k z.0 z.1)
      (λ j. (
        (joined xs es ∙ ap (λ (zs : List ServerEvent). xs ++ zs) (sym (ap (λ (b : Bool). if b then [] else (es ++ inv) ++ status) runs))) j,
        (joined ys fs ∙ ap (λ (zs : List ServerEvent). ys ++ zs) (ap (λ (flags : List ServerEvent). (fs ++ flags) ++ status) (invalid_same c m e o p sound alike i low)
            ∙ sym (ap (λ (b : Bool). if b then [] else (fs ++ invalid (learnt p) (track_in e i) (tracks_at c (learnt p) m e i) i) ++ status) runs))) j,
      )) all
