-- After the meetings of all parties the run after its meetings tells the session, and its lists have their histories.
use Rattle.std.proofs.Common.{List, Some, ap, arith, false, is_some, length, refl, slice_get, subst, sym, true, ℕ, ◌<◌, ◌∙◌, ◌≡◌}
use Rattle.af_told_law.proofs.Common.{AreTogether, HaveHistories, KeepsHistory, Links, Met, PartyState, Run, Session, SessionState, TrackHistories, TrackKept, TrackTold, is_tame, met, met_many, server_list, slice_get_within, some_at, takes_part, told_at, track_count, track_met}
use Rattle.af_judge.proofs.BlocksMeet.{met_at}
use Rattle.af_told_law.specs.Tells.{Tells, TellsNormal, TellsTrack}
use Rattle.af_told_law.proofs.SharedMeets.{fast_met, kept_met, shared_histories, shared_met}
use Rattle.af_told_law.proofs.TrackMeets.{commands_history, deeds_met, stream_now, track_now, tracks_are}
use Rattle.af_told_law.specs.Deeds.{Deeds}
use Rattle.af_turn_law.proofs.Basics.{tame_met}

-- what the servers that take part in the next meetings did is told, on each block that wasn't poked
pub record MetTold (s : Session) (run : Run) (d : Deeds) : Type 0 where
  pub streams : (i : ℕ) → i < track_count s → takes_part s run i ≡ true → is_tame (told_at run i).stream ≡ true → d.streams i ≡ server_list (told_at run i).stream
  pub commands : (i : ℕ) → i < track_count s → is_tame (told_at run i).commands ≡ true → d.commands i ≡ server_list (told_at run i).commands

module _ (links : Links) (s : Session) (run : Run) {d : Deeds} (a b : SessionState) (together : AreTogether links a) (still : AreTogether links b) (h : Tells s run d a) (m : Met a b) where
  as_many : length b.clients ≡ length a.clients
  as_many = still.count ∙ ap (λ (ts : List TrackKept). length ts) (tracks_are a b m) ∙ sym together.count

  module _ (i : ℕ) (low : i < track_count s) where
    before : (p : PartyState) × (slice_get a.clients i ≡ Some p)
    before = some_at a.clients i (let c = h.count.1 in omega (arith, low, c))

    after : (q : PartyState) × (slice_get b.clients i ≡ Some q)
    after = some_at b.clients i (let c = h.count.1 in let n = as_many in omega (arith, low, c, n))

    within : i < length a.clients
    within = let c = h.count.1 in omega (arith, low, c)

    there : i < length run.tracks
    there = let c = h.count.0 in omega (arith, low, c)

    told_is : told_at (met s run) i ≡ track_met s run i (told_at run i)
    told_is = met_at s run i there

    same_part : takes_part s (met s run) i ≡ takes_part s run i
    unfolding met
    same_part = refl

    handed_now : is_some (slice_get b.normal.hands i) ≡ (met s run).handed
    unfolding met
    handed_now = (stream_now s run links a b together h m i low before.0 after.0 before.1 (m.tracks.met i before.0 after.0 within before.1 after.1)).handed

    histories_now : MetTold s run d → TrackHistories s (met s run) i
    histories_now lists =
        let t = m.tracks.met i before.0 after.0 within before.1 after.1 in
        let both : KeepsHistory (takes_part s (met s run) i) (told_at (met s run) i).stream × KeepsHistory true (told_at (met s run) i).commands =
        subst (λ (y : TrackTold). KeepsHistory (takes_part s (met s run) i) y.stream × KeepsHistory true y.commands) (sym told_is) (
          (λ part tame.
              (stream_now s run links a b together h m i low before.0 after.0 before.1 t).history (lists.streams i low (sym same_part ∙ part) (tame_met (takes_part s run i) run.handed (told_at run i).stream tame)) (sym same_part ∙ part) tame),
          (λ part tame. commands_history s run links a b together h m i low before.0 after.0 before.1 t (lists.commands i low (tame_met true false (told_at run i).commands tame)) tame),
        ) in
        record { stream = both.0; commands = both.1 }

  normal_now : TellsNormal s (met s run) b.normal
  normal_now = let k = kept_met s run a b h m in record { setup = k.0; kept = k.1; hands = handed_now; states = k.2; number = k.3; last = k.4 }

  pub tells_met : Tells s (met s run) (deeds_met s run d) b
  tells_met = record {
    count = (met_many s run ∙ h.count.0, as_many ∙ h.count.1);
    tracks = (λ i q is.
        let low : i < track_count s = (let w = slice_get_within b.clients i q is in let c = h.count.1 in let n = as_many in omega (arith, w, c, n)) in
        let p = before i low in
        subst (λ (t : TrackTold). TellsTrack s b.normal b.fast (deeds_met s run d) i t q) (sym (told_is i low))
        (track_now s run links a b together h m i low p.0 q p.1 (m.tracks.met i p.0 q (within i low) p.1 is)));
    shared = shared_met s run a b h m;
    normal = normal_now;
    fast = fast_met s run a b h m;
  }

  pub met_histories : MetTold s run d → HaveHistories s (met s run)
  met_histories lists = record { blocks = (λ i low. histories_now i low lists); shared = shared_histories s run a b h m }
