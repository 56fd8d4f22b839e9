-- The bounds of a script's numbers.
use Rattle.std.specs.Prelude.{ℕ}

-- the version of the rules
abbrev pub most_version : ℕ
most_version = 2

-- the frames of a cycle, the buffers of a normal turn and the cycles of a run
abbrev pub most_frames : ℕ
most_frames = 1024

abbrev pub most_normal : ℕ
most_normal = 16

abbrev pub most_cycles : ℕ
most_cycles = 100000

-- the frames of all cycles of a run
abbrev pub most_product : ℕ
most_product = 2097152

-- the tracks of a script, and the frames of a track's buffer
abbrev pub most_tracks : ℕ
most_tracks = 32

abbrev pub most_buffer : ℕ
most_buffer = 8192

-- where the positions of a track may start
abbrev pub most_base : ℕ
most_base = 4294967295

-- unity in 4.12
abbrev pub unity_scale : ℕ
unity_scale = 4096

-- the ops of a track and the turns of a script as they are written
abbrev pub most_ops : ℕ
most_ops = 4096

abbrev pub most_turns : ℕ
most_turns = 100000

-- the numbers of ops and turns
abbrev pub most_gain : ℕ
most_gain = 65535

abbrev pub most_write : ℕ
most_write = 4194304

abbrev pub most_value : ℕ
most_value = 4294967295

abbrev pub most_fast : ℕ
most_fast = 16

-- the words of a control block before its cells, and the frames of a command block
abbrev pub header_words : ℕ
header_words = 7

abbrev pub command_frames : ℕ
command_frames = 128
