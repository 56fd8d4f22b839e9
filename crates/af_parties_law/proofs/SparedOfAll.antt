-- A round of all parties at once spares the tracks whose clients have not poked.
use Rattle.std.proofs.Common.{◌≡◌, ℕ, zero, suc, ◌+◌, ◌<◌, Bool, true, false, if◌then◌else◌, MatchBool, List, [], ◌∷◌, ◌++◌, length, map, slice_get, get_or, Some, None, refl, sym, ap, subst, ◌∙◌, arith}
use Rattle.af_parties_law.proofs.Common.{ClientPlayed, Given, IsRoundOfAll, PartyState, RoundNoted, ServerState, SessionState, Turn, TurnPlayed, after_calls, both_true, file_at, has_no_poke, list_all, none-some, ops_at, same_Some, slice_get-get_or, slice_get_within, slice_index_or, track_of, turn_in, turn_of, zip_at}
use Rattle.af_audit.specs.Spared.{none_corrupt}
use Rattle.af_parties_law.specs.Hostile.{is_spared_in_turn}
use Rattle.af_parties_law.proofs.Meeting.{Follows, command_open, follows_close, open_after, stream_open, tame_before}
use Rattle.af_parties_law.proofs.OpenCalls.{AreOpen, AreTame, IsTame, open_turn, tame_turn}
use Rattle.af_parties_law.proofs.SparedRounds.{RoundSpares, SparesSoFar, calls_in_round, spares_more}
use Rattle.af_parties_law.proofs.SparedTurns.{turn_spares}

-- the calls that a round notes of a client
called_at : (ps : List PartyState) (i : ℕ) (p : PartyState) → slice_get ps i ≡ Some p → slice_index_or (map (λ (x : PartyState). x.calls.items) ps) i [] ≡ p.calls.items
called_at [] i p at = absurd (none-some p at)
called_at (x ∷ ps) zero p at = ap (λ (y : PartyState). y.calls.items) (same_Some x p at)
called_at (x ∷ ps) (suc i) p at = called_at ps i p at

module _ (g : Given) (s : SessionState) (r : RoundNoted) (bytes : List ℕ) (t : SessionState) (round : IsRoundOfAll g s r bytes t) where
  abbrev turned : SessionState
  turned = round.turned

  close : Follows turned t
  close = follows_close round.links turned round.met t round.meets round.ends round.together.2

  -- the client of a track before its turn and after it
  record Played (i : ℕ) (q : PartyState) : Type 0 where
    party' : PartyState
    is : slice_get turned.clients i ≡ Some party'
    stays : IsTame party' → IsTame q
    party : PartyState
    was : slice_get s.clients i ≡ Some party
    played : ClientPlayed g party party'

  played_by : (i : ℕ) (q : PartyState) → slice_get t.clients i ≡ Some q → Played i q
  played_by i q at =
      let y = close i q at in
      let x = zip_at (ClientPlayed g) s.clients turned.clients i y.0 round.plays.clients y.1 in
      record { party' = y.0; is = y.1; stays = y.2; party = x.0; was = x.1; played = x.2 }

  calls_are : (i : ℕ) (p : PartyState) → slice_get turned.clients i ≡ Some p → calls_in_round r i ≡ p.calls.items
  calls_are i p at = ap (λ (x : RoundNoted). calls_in_round x i) round.told ∙ called_at turned.clients i p at

  tame_still : (i : ℕ) (q : PartyState) (at : slice_get t.clients i ≡ Some q) → has_no_poke (calls_in_round r i) ≡ true → IsTame (played_by i q at).party → IsTame q
  tame_still i q at calm tame =
      let x = played_by i q at in
      let ops = ops_at g x.party.track in
      let file = file_at g x.party.track in
      let quiet : has_no_poke x.party'.calls.items ≡ true = ap has_no_poke (sym (calls_are i x.party' x.is)) ∙ calm in
      let all : AreTame (after_calls (track_of ops file x.party) x.party'.calls.items) = tame_turn (track_of ops file x.party) x.party'.calls.items quiet tame in
      let same : AreTame (track_of ops file x.party') = subst AreTame (sym x.played.turned) all in
      x.stays (same.0, same.1)

  module _ (i : ℕ) (q : PartyState) (at : slice_get t.clients i ≡ Some q) (tame : IsTame q) where
    x : Played i q
    x = played_by i q at

    calls_spared : none_corrupt (calls_in_round r i) ≡ true
    calls_spared =
        let ops = ops_at g x.party.track in
        let file = file_at g x.party.track in
        let fine = open_after round.links turned round.met t round.meets round.ends round.together.2 i q at tame x.party' x.is in
        let all = open_turn (track_of ops file x.party) x.party'.calls.items x.played.legal (subst AreOpen x.played.turned fine) in
        ap none_corrupt (calls_are i x.party' x.is) ∙ all

    by_ended : (b : Bool) → MatchBool b (turned.normal ≡ s.normal) (TurnPlayed s.normal turned.normal)
        → list_all (is_spared_in_turn i) (turn_in (if b then None else Some (turn_of turned.normal.entry))) ≡ true
    by_ended true none = refl
    by_ended false (o, legal, made) =
        let e : Turn = turn_of turned.normal.entry in
        let tame' : IsTame x.party' = tame_before round.links turned round.met t round.meets round.ends round.together.2 i q at tame x.party' x.is in
        let lt : i < length s.normal.tracks = omega (arith, slice_get_within s.clients i x.party x.was, round.together.0.count) in
        let command = command_open round.links turned round.met t round.meets round.ends round.together.2 i q at x.party' x.is tame' in
        let stream = stream_open round.links turned round.met t round.meets round.ends round.together.2 i q at x.party' x.is tame' in
        let inside : i < length s.normal.commands = omega (arith, lt, round.together.0.normal.tied.sizes.commands_are) in
        let first : ServerState = get_or s.normal.commands i command.0 in
        let spares = turn_spares round.links s.normal turned.normal round.together.0.normal o legal i lt first command.0 (slice_get-get_or s.normal.commands i command.0 inside) command.1 command.2 stream in
        both_true (is_spared_in_turn i e) true spares refl

    turn_spared : list_all (is_spared_in_turn i) (turn_in r.turn) ≡ true
    turn_spared = ap (λ (y : RoundNoted). list_all (is_spared_in_turn i) (turn_in y.turn)) round.told ∙ by_ended s.normal.ended round.plays.normal

  all_spare : RoundSpares r s t
  all_spare = record {
    tame = (λ i q at. ((played_by i q at).party, (played_by i q at).was, tame_still i q at));
    spared = (λ i p q was at old new. (calls_spared i q at new, turn_spared i q at new));
  }

  -- one round more spares these tracks too
  pub spares_of_all : (rounds : List RoundNoted) → SparesSoFar rounds s → SparesSoFar (rounds ++ r ∷ []) t
  spares_of_all rounds so_far = spares_more rounds r s t so_far all_spare
