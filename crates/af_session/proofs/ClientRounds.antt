-- The turn of a client in a session: what it is given, and what it leaves.
use Rattle.std.proofs.Common.{◌≡◌, ℕ, ◌<◌, List, [], length, get_or, slice_get, slice_set, Some, refl, sym, ap, subst, ◌∙◌, arith}
use Rattle.af_session.proofs.Common.{CanWork, Frame, Given, LegalClientTurn, Op, PartyState, RoundNoted, SessionState, TrackSpec, Turns, after_calls, client_round, file_at, get_or_default, ops_at, ops_of, slice_get_read, track_of}
use Rattle.af_script.specs.declared.op.TurnSpec.TheVariants as spec

-- the ops and the file are those that the client of this track is given
pub record IsGiven (g : Given) (i : ℕ) (ops : List Op) (file : List Frame) : Type 0 where
  pub ops_are : ops ≡ ops_at g i
  pub file_is : file ≡ file_at g i

-- what is read at the client's number is what it is given
pub is_given : (g : Given) (i n : ℕ) (t : TrackSpec) (ops : List Op) (pcm file : List Frame) → n ≡ i → (i < length g.tracks) × (i < length g.files)
    → t ≡ get_or g.tracks n t → ops ≡ (get_or g.tracks n t).ops
    → pcm ≡ get_or g.files n pcm → file ≡ pcm → IsGiven g i ops file
is_given g i n t ops pcm file same there t_is ops_are pcm_is file_is = subst (λ (k : ℕ). IsGiven g k ops file) same (record {
  ops_are = ops_are ∙ ap (λ (x : TrackSpec). x.ops) (sym t_is) ∙ sym (ap ops_of
      (slice_get_read g.tracks (length g.tracks) n t refl (omega (arith, same, there.0)) t_is));
  file_is = file_is ∙ pcm_is ∙ get_or_default g.files n pcm [] (omega (arith, same, there.1));
})

module _ (g : Given) (i : ℕ) (ops : List Op) (file : List Frame) (given : IsGiven g i ops file) where
  -- a client can do the same work by what it is given as by the ops and the file of its track
  pub work_asked : (p : PartyState) → CanWork (ops_at g i) (length (file_at g i)) p → CanWork ops (length file) p
  work_asked p can = subst (λ (x : List Op × List Frame). CanWork x.0 (length x.1) p) (λ k. (sym given.ops_are k, sym given.file_is k)) can

  pub work_left : (p : PartyState) → CanWork ops (length file) p → CanWork (ops_at g i) (length (file_at g i)) p
  work_left p can = subst (λ (x : List Op × List Frame). CanWork x.0 (length x.1) p) (λ k. (given.ops_are k, given.file_is k)) can

  -- a turn by what the client is given is one by the ops and the file of its track
  pub legal_turn : (p q : PartyState) → LegalClientTurn (track_of ops file p) q.calls.items
      → track_of ops file q ≡ after_calls (track_of ops file p) q.calls.items
      → LegalClientTurn (track_of (ops_at g i) (file_at g i) p) q.calls.items
      × (track_of (ops_at g i) (file_at g i) q ≡ after_calls (track_of (ops_at g i) (file_at g i) p) q.calls.items)
  legal_turn p q legal turned = subst (λ (x : List Op × List Frame). LegalClientTurn (track_of x.0 x.1 p) q.calls.items
      × (track_of x.0 x.1 q ≡ after_calls (track_of x.0 x.1 p) q.calls.items)) (λ k. (given.ops_are k, given.file_is k)) (legal, turned)

-- legal calls of the client make its turn in the session
pub has_turned : (g : Given) (s : SessionState) (i : ℕ) (p q : PartyState) → slice_get s.clients i ≡ Some p
    → LegalClientTurn (track_of (ops_at g i) (file_at g i) p) q.calls.items
    × (track_of (ops_at g i) (file_at g i) q ≡ after_calls (track_of (ops_at g i) (file_at g i) p) q.calls.items)
    → (r : RoundNoted) × Turns g (spec.Client i) s r [] (record s { clients = slice_set s.clients i q })
has_turned g s i p q here turn = (
  client_round s i q.calls.items,
  (
    refl,
    q.calls.items,
    refl,
    record { before = p; was = here; after = q; made = refl; legal = turn.0; turned = turn.1; leaves = refl },
  ),
)
