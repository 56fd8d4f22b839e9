-- The script of the session that the generator makes: eight tracks, which all play their files to the end.
use Rattle.std.specs.Prelude.{ℕ, zero, suc, ◌+◌, ◌%◌, ◌==◌, nat_lt, List, [], ◌∷◌, ◌++◌, map, codes}
use Rattle.std.specs.List.{range_with_len}
use Rattle.af_script.specs.Data.{ScriptData}
use Rattle.af_script.specs.declared.op.Op.{Op}
use Rattle.af_script.specs.declared.op.Op.TheVariants.{OpenTrack, Start, Stop, Drain, Remove, Gain, Write}
use Rattle.af_script.specs.declared.op.TurnSpec.{TurnSpec}
use Rattle.af_script.specs.declared.op.TurnSpec.TheVariants.{Client, Normal, Fast}
use Rattle.af_script.specs.declared.track.TrackSpec.{TrackSpec}

-- some items so many times, one after the other
unfoldable pub repeated : {X : Type 0} → ℕ → List X → List X
repeated zero xs = []
repeated (suc n) xs = xs ++ repeated n xs

-- what each client does: it writes 100000 frames, 500 at a time
unfoldable pub generated_ops : List Op
generated_ops = (OpenTrack ∷ Start ∷ Gain 2048 2048 ∷ []) ++ (repeated 200 (Write 500 ∷ []) ++ (Stop ∷ Drain ∷ Remove ∷ []))

-- the file of a track below 8: `g0.pcm` to `g7.pcm`
abbrev pub generated_name : ℕ → List ℕ
generated_name track = codes "g" ++ (48 + track) ∷ codes ".pcm"

-- the first four tracks are fast; those of even numbers have one channel, and the others two
unfoldable pub generated_track : ℕ → TrackSpec
generated_track track = record {
  fast = nat_lt track 4;
  frames = 512;
  mono = track % 2 == 0;
  base = 0;
  scale = 4096;
  file = generated_name track;
  ops = generated_ops;
}

-- a round: each client, the normal mixer, and four cycles
abbrev pub generated_round : List TurnSpec
generated_round = map Client (range_with_len 0 8) ++ Normal ∷ Fast 4 ∷ []

-- the tracks
unfoldable pub generated_tracks : List TrackSpec
generated_tracks = map generated_track (range_with_len 0 8)

-- 420 rounds
unfoldable pub generated_turns : List TurnSpec
generated_turns = repeated 420 generated_round

-- the script
abbrev pub generated_script : ScriptData
generated_script = record {
  version = 1;
  frames = 64;
  normal = 4;
  cycles = 2000;
  tracks = generated_tracks;
  turns = generated_turns;
}
