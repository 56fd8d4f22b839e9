-- The session that the generator makes of a number: what it draws, and the files that it writes.
use Rattle.std.specs.Prelude.{ℕ, zero, suc, ◌+◌, ◌*◌, ◌/◌, ◌%◌, ◌==◌, ℤ, pos, ◌-ℤ◌, List, [], ◌∷◌, ◌++◌, map}
use Rattle.std.specs.List.{range_with_len}
use Rattle.af_base.specs.declared.frame.Frame.{Frame}
use Rattle.af_base.specs.Sample.{sample_bytes}
use Rattle.af_io.specs.Outputs.{NamedFile}
use Rattle.af_io.specs.Pcm.{frames_from}
use Rattle.af_script.specs.Generated.{generated_name, generated_script}
use Rattle.af_script.specs.Printing.{printed_script}

-- ## Draws

-- the state after one draw
unfoldable pub next_draw : ℕ → ℕ
next_draw x = (x * 1103515245 + 12345) % 2147483648

-- the state after so many draws
unfoldable pub drawn : ℕ → ℕ → ℕ
drawn x zero = x
drawn x (suc count) = drawn (next_draw x) count

-- the sample of a state, from -8192 to 8191
unfoldable pub sample_of : ℕ → ℤ
sample_of x = pos (x / 256 % 16384) -ℤ pos 8192

-- the bytes of the samples of so many draws, one for each
unfoldable pub drawn_bytes : ℕ → ℕ → List ℕ
drawn_bytes x zero = []
drawn_bytes x (suc count) = sample_bytes (sample_of (next_draw x)) ++ drawn_bytes (next_draw x) count

-- ## Files

-- the bytes of a track's file, of 100000 frames of one channel, or of two if its number is odd: the first file is drawn from the number on, and each from where the one before it ended
unfoldable pub generated_file : ℕ → ℕ → List ℕ
generated_file number track = drawn_bytes (drawn number (100000 * (track + track / 2))) (100000 * (1 + track % 2))

-- the files of some first tracks
unfoldable pub drawn_files : ℕ → ℕ → List NamedFile
drawn_files number tracks = map (λ track. record { name = generated_name track; bytes = generated_file number track }) (range_with_len 0 tracks)

-- what is written before the session is played: the files of its eight tracks, and then its script
abbrev pub generated_files : ℕ → List ℕ → List NamedFile
generated_files number name = drawn_files number 8 ++ record { name = name; bytes = printed_script generated_script } ∷ []

-- the frames of the tracks' files
unfoldable pub generated_frames : ℕ → List (List Frame)
generated_frames number = map (λ track. frames_from (track % 2 == 0) (generated_file number track)) (range_with_len 0 8)
