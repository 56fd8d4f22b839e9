-- What the words ask for, of the files that are there: what is to be made, or the first refusal in order.
use Rattle.std.specs.Prelude.{ℕ, ◌+◌, ◌%◌, ◌^◌, nat_le, ◌==◌, Bool, false, List, [], ◌∷◌, length, Option, Some, None, ok_or, Result, Ok, Err, if◌then◌else◌}
use Rattle.af_base.specs.declared.frame.Frame.{Frame}
use Rattle.af_base.specs.Sample.{pcm_bytes}
use Rattle.af_io.specs.Files.{Files}
use Rattle.af_io.specs.Outputs.{NamedFile}
use Rattle.af_io.specs.Pcm.{frames_from, frame_width}
use Rattle.af_script.specs.Data.{ScriptData}
use Rattle.af_script.specs.Generated.{generated_script}
use Rattle.af_script.specs.Reading.{script_of}
use Rattle.af_script.specs.declared.track.TrackSpec.{TrackSpec}
use Rattle.af_script.specs.declared.fault.ScriptFault.{ScriptFault}
use Rattle.af_runs.specs.Sessions.{Session as Loaded}
use Rattle.af_party.specs.Works.{frames_to_come}
use Rattle.af_offline.specs.declared.status.Refusal.{Refusal}
use Rattle.af_offline.specs.declared.status.Refusal.TheVariants.{Usage, Script, File}
use Rattle.af_offline.specs.declared.status.Role.{Role}
use Rattle.af_offline.specs.declared.status.Role.TheVariants as role
use Rattle.af_offline.specs.declared.status.Why.TheVariants.{Missing, Long, Ragged, Short, Total}
use Rattle.af_words.specs.declared.request.Sizes.{Sizes}
use Rattle.af_words.specs.declared.request.Turns.{Turns}
use Rattle.af_words.specs.Requests.{Request, Render, Record, Loop, Generate, Play, Verify, Trace, request_of}
use Rattle.af_offline.specs.Recorded.{frames_heard, recording_of, counts_of}
use Rattle.af_offline.specs.Looped.{looped, rolls_of}
use Rattle.af_offline.specs.Generated.{generated_files, generated_frames}
use Rattle.af_offline.specs.Line.{counts_text, rolls_text}

-- one step and then another, up to the first refusal
infixl 10 ◌>>=◌
abbrev pub ◌>>=◌ : {X Y : Type 0} → Result X Refusal → (X → Result Y Refusal) → Result Y Refusal
Ok x >>= next = next x
Err refusal >>= next = Err refusal

-- what is to be made. `Exact`: these bytes and this line. `Session`: what the turns of a script come to with the frames of its tracks' files. `Rounds`: what its parties come to in rounds, with the journal in a file of this name. `Judge`: nothing, as a sound and the text of its journal are judged by a script and the frames of its tracks' files. `Traced`: what the parties come to in rounds, with the journal and the log in files of these names, and this room for the log
pub data Work : Type 0 where
  Exact : List ℕ → List ℕ → Work
  Session : ScriptData → List (List Frame) → Work
  Rounds : ScriptData → List (List Frame) → List ℕ → Work
  Judge : ScriptData → List (List Frame) → List ℕ → List ℕ → Work
  Traced : ScriptData → List (List Frame) → List ℕ → List ℕ → ℕ → Work

-- the files that are made first, the output's name, and what is to be made
pub record Job : Type 0 where
  pub first : List NamedFile
  pub target : List ℕ
  pub work : Work

-- ## Files

-- the limits of a file and of all files, in bytes
abbrev pub most_file : ℕ
most_file = 2 ^ 23

-- a file of at most so many bytes
abbrev pub file_within : Role → ℕ → Option (List ℕ) → Result (List ℕ) Refusal
file_within part limit None = Err (File (record { role = part; why = Missing }))
file_within part limit (Some bytes) = if nat_le (length bytes) limit then Ok bytes else Err (File (record { role = part; why = Long }))

-- a file's bytes, if those of all files up to it are not too many
abbrev pub bytes_within : ℕ → ℕ → List ℕ → Result (List ℕ) Refusal
bytes_within number total bytes =
    if nat_le (total + length bytes) (2 ^ 24) then Ok bytes else Err (File (record { role = role.Track number; why = Total (total + length bytes) }))

-- the frames of a track's file, if its bytes are whole frames
abbrev pub frames_in : ℕ → Bool → List ℕ → Result (List Frame) Refusal
frames_in number mono bytes =
    if length bytes % frame_width mono == 0 then Ok (frames_from mono bytes) else Err (File (record { role = role.Track number; why = Ragged (length bytes) }))

-- the frames of a track's file, if they are at least as many as its client writes
abbrev pub enough_of : ℕ → ℕ → List Frame → Result (List Frame) Refusal
enough_of number asked frames =
    if nat_le asked (length frames) then Ok frames else Err (File (record { role = role.Track number; why = Short (length frames) asked }))

-- ## Scripts

-- a script, or the line of its first fault
abbrev pub script_or : Result ScriptData ScriptFault → Result ScriptData Refusal
script_or (Ok script) = Ok script
script_or (Err fault) = Err (Script fault)

-- the frames of the file of a track with a number, behind files of so many bytes, and the bytes of the files up to it
abbrev pub track_file_in : Files → ℕ → ℕ → TrackSpec → Result (List Frame × ℕ) Refusal
track_file_in files number total track =
    file_within (role.Track number) most_file (files track.file) >>= bytes_within number total >>= (λ bytes. frames_in number track.mono bytes >>= enough_of number (frames_to_come track.ops) >>= (λ frames.
    Ok (frames, total + length bytes)))

-- the frames of the files of tracks, from a number on
abbrev pub tracks_in : Files → ℕ → ℕ → List TrackSpec → Result (List (List Frame)) Refusal
tracks_in files number total [] = Ok []
tracks_in files number total (track ∷ rest) =
    track_file_in files number total track >>= (λ one. tracks_in files (number + 1) one.1 rest >>= (λ xs. Ok (one.0 ∷ xs)))

-- a script, with the frames of its tracks' files
abbrev pub session_in : Files → ScriptData → Result Loaded Refusal
session_in files script = tracks_in files 0 0 script.tracks >>= (λ frames. Ok (record { script = script; files = frames }))

-- the script in a file of at most 2 ^ 20 bytes, with the frames of its tracks' files
abbrev pub loaded_of : Files → List ℕ → Result Loaded Refusal
loaded_of files name = file_within role.Script (2 ^ 20) (files name) >>= (λ bytes. script_or (script_of bytes) >>= session_in files)

-- a script is played
abbrev pub session_job : List ℕ → Loaded → Job
session_job target l = record { first = []; target = target; work = Session l.script l.files }

-- a script is played in rounds, with its journal in a file of this name
abbrev pub play_job : List ℕ → List ℕ → Loaded → Job
play_job target journal l = record { first = []; target = target; work = Rounds l.script l.files journal }

-- a sound and the text of its journal, with the script and the files that they are judged by
pub record JudgedCase : Type 0 where
  pub loaded : Loaded
  pub pcm : List ℕ
  pub text : List ℕ

-- a script is played in rounds, with its journal and its log in files of these names, and this room for the log
abbrev pub trace_job : List ℕ → List ℕ → List ℕ → ℕ → Loaded → Job
trace_job target journal log room l = record { first = []; target = target; work = Traced l.script l.files journal log room }

-- ## Recordings and loops

-- one frame or more
abbrev pub some_frames : List Frame → Result (List Frame) Refusal
some_frames [] = Err (File (record { role = role.Track 0; why = Short 0 1 }))
some_frames (frame ∷ frames) = Ok (frame ∷ frames)

-- the frames of a stereo file that has some
abbrev pub buffer_in : List ℕ → Result (List Frame) Refusal
buffer_in bytes = frames_in 0 false bytes >>= some_frames

-- ## Sessions that are generated

-- the session of a number is played, once its tracks' files and its script are written
abbrev pub generated_job : ℕ → List ℕ → List ℕ → Job
generated_job number script target = record { first = generated_files number script; target = target; work = Session generated_script (generated_frames number) }

-- ## Requests

-- what is made of a script, for an output of this name
abbrev pub render_asked : Files → List ℕ → List ℕ → Result Job Refusal
render_asked files script target = loaded_of files script >>= (λ l. Ok (session_job target l))

-- what is made of a script that is played, for an output and a journal of these names
abbrev pub play_asked : Files → List ℕ → List ℕ → List ℕ → Result Job Refusal
play_asked files script target journal = loaded_of files script >>= (λ l. Ok (play_job target journal l))

-- what is judged: a sound and a journal, of at most 2 ^ 30 bytes, in files of these names, behind the script and its tracks' files
abbrev pub case_of : Files → List ℕ → List ℕ → List ℕ → Result JudgedCase Refusal
case_of files script sound journal =
    loaded_of files script >>= (λ l. file_within role.Pcm most_file (files sound) >>= (λ pcm. file_within role.Journal (2 ^ 30) (files journal) >>= (λ text.
    Ok (record { loaded = l; pcm = pcm; text = text }))))

-- what is made of a sound and the text of its journal: they are judged
abbrev pub verify_asked : Files → List ℕ → List ℕ → List ℕ → Result Job Refusal
verify_asked files script sound journal =
    case_of files script sound journal >>= (λ c. Ok (record { first = []; target = sound; work = Judge c.loaded.script c.loaded.files c.pcm c.text }))

-- what is made of a script that is traced, for an output, a journal and a log of these names, and this room for the log
abbrev pub trace_asked : Files → List ℕ → List ℕ → List ℕ → List ℕ → ℕ → Result Job Refusal
trace_asked files script target journal log room = loaded_of files script >>= (λ l. Ok (trace_job target journal log room l))

-- what is made of a file that is recorded: the bytes of its frames as they are heard, and the line of their counts
abbrev pub record_asked : Files → List ℕ → List ℕ → Sizes → Result Job Refusal
record_asked files input target sizes =
    file_within (role.Track 0) most_file (files input) >>= frames_in 0 false >>= (λ frames.
    Ok (record { first = []; target = target; work = Exact (pcm_bytes (frames_heard (recording_of sizes frames))) (counts_text (counts_of sizes frames)) }))

-- what is made of a file that is looped, of at most 2 ^ 15 bytes, which are 8192 frames: the bytes that are heard, and the line of the rolls
abbrev pub loop_asked : Files → List ℕ → List ℕ → Turns → Result Job Refusal
loop_asked files input target turns =
    file_within (role.Track 0) (2 ^ 15) (files input) >>= (λ bytes. buffer_in bytes) >>= (λ frames.
    Ok (record { first = []; target = target; work = Exact (pcm_bytes (looped turns frames)) (rolls_text (rolls_of turns frames)) }))

-- what a request asks for
abbrev pub job_of : Files → Request → Result Job Refusal
job_of files (Render script target) = render_asked files script target
job_of files (Record input target sizes) = record_asked files input target sizes
job_of files (Loop input target turns) = loop_asked files input target turns
job_of files (Generate number script target) = Ok (generated_job number script target)
job_of files (Play script target journal) = play_asked files script target journal
job_of files (Verify script sound journal) = verify_asked files script sound journal
job_of files (Trace script target journal log room) = trace_asked files script target journal log room

-- what the words ask for
abbrev pub asked_of : Files → List (List ℕ) → Result Job Refusal
asked_of files words = ok_or (request_of words) Usage >>= job_of files
