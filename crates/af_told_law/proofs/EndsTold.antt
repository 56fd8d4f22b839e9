-- Once the normal mixer has ended all clients have, in the session and in the run.
use Rattle.std.proofs.Common.{◌≡◌, ℕ, ◌<◌, Bool, true, false, if◌then◌else◌, map, length, slice_get, Some, sym, ap, ◌∙◌, subst, arith}
use Rattle.af_told_law.proofs.Common.{NormalKept, PartyState, Run, Session, SessionState, Track, TrackTold, each_long, each_track, end_party, ends, length-map, option_map, same_Some, slice_get-map, slice_get_within, some_at, told_at, told_each, with_ends}
use Rattle.af_session.specs.Rounds as parties
use Rattle.af_told_law.specs.Tells.{Tells, TellsTrack}
use Rattle.af_told_law.specs.Deeds.{Deeds}
use Rattle.af_told_law.proofs.ClientTold.{others_told}

module _ (s : Session) (run : Run) {d : Deeds} (x : SessionState) (h : Tells s run d x) where
  abbrev ended_track : ℕ → TrackTold → TrackTold
  ended_track n t = record t { client = ends t.client }

  all_ended : Tells s (each_track ended_track run) d (record x { clients = map end_party x.clients })
  all_ended = others_told s run x h (each_track ended_track run).tracks (map end_party x.clients) (each_long ended_track 0 run.tracks) (length-map x.clients end_party) ended_at
    where
      ended_at : (i : ℕ) (q : PartyState) → slice_get (map end_party x.clients) i ≡ Some q → TellsTrack s x.normal x.fast d i (told_at (each_track ended_track run) i) q
      ended_at i q is =
          let within : i < length x.clients = (let w = slice_get_within (map end_party x.clients) i q is in let n = length-map x.clients end_party in omega (arith, w, n)) in
          let p = some_at x.clients i within in
          let one : end_party p.0 ≡ q = same_Some (end_party p.0) q (sym (slice_get-map end_party x.clients i ∙ ap (option_map end_party) p.1) ∙ is) in
          let told : TellsTrack s x.normal x.fast d i (told_at run i) p.0 = h.tracks i p.0 p.1 in
          let now : told_at (each_track ended_track run) i ≡ ended_track i (told_at run i) = told_each ended_track run i (let a = h.count.0 in let b = h.count.1 in omega (arith, within, a, b)) in
          subst (λ (y : TrackTold × PartyState). TellsTrack s x.normal x.fast d i y.0 y.1) (λ j. (sym now j, one j))
          (record { client = ap (λ (t : Track). let u : Track = record t { client = ends t.client } in u) told.client; stream = told.stream; commands = told.commands; did = record { stream = told.did.stream; commands = told.did.commands } })

  by_end : (b : Bool) → Tells s (if b then each_track ended_track run else run) d (if b then record x { clients = map end_party x.clients } else x)
  by_end true = all_ended
  by_end false = h

  -- the clients end in the session and in the run
  pub ends_told : Tells s (with_ends run) d (parties.with_ends x)
  unfolding with_ends
  ends_told =
      let same : x.normal.ended ≡ run.normal.ended = ap (λ (k : NormalKept). k.ended) h.normal.kept in
      subst (λ (b : Bool). Tells s (if b then each_track ended_track run else run) d (if x.normal.ended then record x { clients = map end_party x.clients } else x)) same (by_end x.normal.ended)
