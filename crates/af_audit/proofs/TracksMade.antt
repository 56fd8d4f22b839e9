-- The tracks of a script are made one after the other.
use Rattle.std.proofs.Common.{◌≡◌, ◌⊎◌, inl, inr, ℕ, ◌+◌, ◌<◌, ◌≤◌, ◌^◌, Bool, true, false, List, [], ◌∷◌, ◌++◌, length, arith, sym, ap, subst, ◌∙◌}
use Rattle.af_audit.proofs.Common.{KeepsTrack, Op, RoundSeen, ScriptData, TrackJudge, TrackSpec, below_or_at, command_shape, get_or-append_seam, get_or_append_left, is_lawful_block, new_client, new_judged, new_side, no_spec, slice_index_or, stream_shape}
use Rattle.af_audit.specs.RunKept.{AreNewTracks, IsNewTrack}

-- a track is made by its spec
record Made (k : TrackJudge) (version : ℕ) (spec : TrackSpec) (stream commands : Bool) : Type 0 where
  kept : (ops : List Op) (words : List ℕ) → KeepsTrack ops k (record { file = words; client = new_client ops; stream = new_side (stream_shape version spec); commands = new_side command_shape })
  blocks : (k.stream ≡ new_judged (stream_shape version spec) stream) × (k.commands ≡ new_judged command_shape commands)
  wrap : (stream_shape version spec).wrap ≤ 2 ^ 31
  few : spec.frames ≤ 65536

pub made : (script : ScriptData) (rounds : List RoundSeen) (at : ℕ) (k : TrackJudge) (version : ℕ) (spec : TrackSpec) (stream commands : Bool)
    → version ≡ script.version → spec ≡ slice_index_or script.tracks at no_spec → stream ≡ is_lawful_block false rounds at → commands ≡ is_lawful_block true rounds at
    → ((ops : List Op) (words : List ℕ) → KeepsTrack ops k (record { file = words; client = new_client ops; stream = new_side (stream_shape version spec); commands = new_side command_shape }))
    → (k.stream ≡ new_judged (stream_shape version spec) stream) × (k.commands ≡ new_judged command_shape commands) → (stream_shape version spec).wrap ≤ 2 ^ 31 → spec.frames ≤ 65536 → IsNewTrack script rounds at k
made script rounds at k version spec stream commands is_version is_spec is_stream is_commands kept blocks wrap few = record {
  client = λ words. moved.kept (slice_index_or script.tracks at no_spec).ops words;
  stream = moved.blocks.0;
  commands = moved.blocks.1;
  wrap = moved.wrap;
  few = moved.few;
}
  where
    moved : Made k script.version (slice_index_or script.tracks at no_spec) (is_lawful_block false rounds at) (is_lawful_block true rounds at)
    moved = subst (λ (b : Bool). Made k script.version (slice_index_or script.tracks at no_spec) (is_lawful_block false rounds at) b) is_commands
        (subst (λ (b : Bool). Made k script.version (slice_index_or script.tracks at no_spec) b commands) is_stream
        (subst (λ (s : TrackSpec). Made k script.version s stream commands) is_spec
        (subst (λ (v : ℕ). Made k v spec stream commands) is_version (record { kept = kept; blocks = blocks; wrap = wrap; few = few }))))

pub made_more : (script : ScriptData) (rounds : List RoundSeen) (at : ℕ) (tracks : List TrackJudge) (k : TrackJudge) → length tracks ≡ at → AreNewTracks script rounds at tracks → IsNewTrack script rounds at k → AreNewTracks script rounds (at + 1) (tracks ++ k ∷ [])
made_more script rounds at tracks k many are new i t below here = by_place (below_or_at i at below)
  where
    by_place : (i < at) ⊎ (i ≡ at) → IsNewTrack script rounds i t
    by_place (inl lt) =
        let low : i < length tracks = omega (arith, lt, many) in
        are i t lt (low, here.1 ∙ get_or_append_left tracks (k ∷ []) t i low)
    by_place (inr same) =
        let last : t ≡ k = here.1 ∙ (ap (λ (n : ℕ). slice_index_or (tracks ++ k ∷ []) n t) (same ∙ sym many) ∙ get_or-append_seam tracks k [] t) in
        subst (λ (n : ℕ). IsNewTrack script rounds n t) (sym same) (subst (IsNewTrack script rounds at) (sym last) new)
