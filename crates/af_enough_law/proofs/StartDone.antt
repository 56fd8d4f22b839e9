-- Three rounds after all tracks are carried the middle begins.
use Rattle.std.proofs.Common.{◌≡◌, ℕ, ◌+◌, ◌≤◌, ◌<◌, true, false, All, None, List, [], ◌∷◌, length, drop, ap, arith}
use Rattle.af_enough_law.proofs.Common.{Frame, IsScript, LegalRounds, Marks, Op, RoundSeen, Run, ScriptData, Session, Setting, after_round, all_play_through, plays, scales_of, session_of, setup_of, spec_of, track_at, track_count}
use Rattle.af_enough_law.proofs.Carried.{SessionCarried}
use Rattle.af_enough_law.proofs.Ends.{AllOver}
use Rattle.af_enough_law.proofs.Playing.{way_ops, way_frames}
use Rattle.af_enough_law.proofs.AbleKept.{none_drafted}
use Rattle.af_enough_law.proofs.Carrying.{TrackIs, track_on}
use Rattle.af_enough_law.proofs.CarryBegins.{settings_long}
use Rattle.af_enough_law.proofs.HomeStill.{HasNone}
use Rattle.af_enough_law.proofs.MiddleNever.{Starts}
use Rattle.af_enough_law.proofs.PipeKept.{PipeKept, IsSized, sized}
use Rattle.af_enough_law.proofs.RunBegins.{Plays, track_plays}
use Rattle.af_enough_law.proofs.StartCounts.{known_start}
use Rattle.af_enough_law.proofs.Starting.{Begins, session_then, begins_round}
use Rattle.af_enough_law.proofs.StartMiddle.{MiddleTrack, middle_track}
use Rattle.af_enough_law.proofs.StartPipe.{drafts_last, mix_ordered, ready_round, mixes_round, pipe_kept}
use Rattle.af_enough_law.proofs.StartSends.{HasSent, HasStarted, sends_round, starts_round}
use Rattle.af_enough_law.proofs.StartSilent.{heard_before}
use Rattle.af_enough_law.proofs.TrackAble.{AllAble}

-- what a track has to do after its OPEN and START: its ops, and its frames past its base
abbrev pub most_of : Session → ℕ → ℕ
most_of s i = way_ops (drop 2 (spec_of s i).ops)

abbrev pub total_of : Session → ℕ → ℕ
total_of s i = (spec_of s i).base + way_frames (drop 2 (spec_of s i).ops)

module _ (script : ScriptData) (files : List (List Frame)) (marks : Marks) (form : IsScript script) (through : all_play_through script ≡ true) (lawful : (i : ℕ) → i < length script.tracks → marks.commands i ≡ true) (run : Run) (a b c d : RoundSeen) (legal : LegalRounds false (session_of script files) marks run (a ∷ b ∷ c ∷ d ∷ []))
    (begins : Begins (session_of script files) run 46) (carried : SessionCarried (session_of script files) run) (tracks : (i : ℕ) → i < length script.tracks → TrackIs (session_of script files) run i (most_of (session_of script files) i) (total_of (session_of script files) i)) where
  abbrev s : Session
  s = session_of script files

  abbrev scales : All (λ (x : Setting). x.scale ≤ 4096) (setup_of s).settings
  scales = scales_of s form

  abbrev long : length (setup_of s).settings ≡ track_count s
  long = settings_long s

  abbrev sizes : IsSized s
  sizes = sized s form

  abbrev small : s.script.normal ≤ 16
  small = form.normal.1

  abbrev one : Run
  one = after_round s run a

  abbrev two : Run
  two = after_round s one b

  abbrev three : Run
  three = after_round s two c

  module _ (never_one : AllOver (after_round (session_of script files) run a).normal.tracks → ⊥) (never_two : AllOver (after_round (session_of script files) (after_round (session_of script files) run a) b).normal.tracks → ⊥)
      (never_three : AllOver (after_round (session_of script files) (after_round (session_of script files) (after_round (session_of script files) run a) b) c).normal.tracks → ⊥) where
    b_one : Begins s one 45
    b_one = begins_round s marks form lawful run a legal.0 45 (omega arith) begins never_one

    c_one : SessionCarried s one
    c_one = session_then s marks form lawful run a legal.0 45 (omega arith) begins never_one

    b_two : Begins s two 44
    b_two = begins_round s marks form lawful one b legal.1.0 44 (omega arith) b_one never_two

    c_two : SessionCarried s two
    c_two = session_then s marks form lawful one b legal.1.0 44 (omega arith) b_one never_two

    c_three : SessionCarried s three
    c_three = session_then s marks form lawful two c legal.1.1.0 43 (omega arith) b_two never_three

    module _ (i : ℕ) (named : i < length script.tracks) where
      abbrev most : ℕ
      most = most_of s i

      abbrev total : ℕ
      total = total_of s i

      p : Plays (spec_of s i).ops
      p = track_plays script files i form through named

      rest_is : drop 2 (spec_of s i).ops ≡ p.rest
      rest_is = ap (λ (ops : List Op). drop 2 ops) p.whole

      total_is : total ≡ (spec_of s i).base + way_frames p.rest
      total_is = ap (λ (ops : List Op). (spec_of s i).base + way_frames ops) rest_is

      few_run : 2 ≤ (track_at run.normal.tracks i).life.retries
      few_run = let x = begins.retries i named in omega (arith, x)

      few_one : 2 ≤ (track_at one.normal.tracks i).life.retries
      few_one = let x = b_one.retries i named in omega (arith, x)

      few_two : 2 ≤ (track_at two.normal.tracks i).life.retries
      few_two = let x = b_two.retries i named in omega (arith, x)

      is_one : TrackIs s one i most total
      is_one = (track_on s marks scales long run a legal.0 carried b legal.1.0 i most total named (lawful i named) few_run (tracks i named)).is

      is_two : TrackIs s two i most total
      is_two = (track_on s marks scales long one b legal.1.0 c_one c legal.1.1.0 i most total named (lawful i named) few_one is_one).is

      is_three : TrackIs s three i most total
      is_three = (track_on s marks scales long two c legal.1.1.0 c_two d legal.1.1.1.0 i most total named (lawful i named) few_two is_two).is

      sent_one : HasSent one i
      sent_one = sends_round s marks scales long small sizes run a legal.0 carried b legal.1.0 i most total named (lawful i named) few_run (tracks i named)

      started_two : HasStarted two i
      started_two =
          starts_round s marks scales long small sizes one b legal.1.0 c_one c legal.1.1.0 i most total named (lawful i named) few_one is_one (known_start s marks scales long run a legal.0 carried.stands i named (lawful i named) (begins.counting i named).opens).knows
          (b_one.counting i named).block.counted sent_one

      -- the last state has nothing of a track without a slot
      out : (track_at two.normal.tracks i).slot ≡ None → (track_at three.normal.tracks i).slot ≡ None → HasNone i three.normal.last
      out none none_then =
          drafts_last s marks scales long one b legal.1.0 c_one.stands b_one.under (HasNone i) c legal.1.1.0 c_two.stands (none_drafted two.normal i c_two.stands.order none) (none_drafted three.normal i c_three.stands.order none_then)

      track_three : MiddleTrack s three i p.rest
      track_three =
          middle_track s marks scales long small sizes two c legal.1.1.0 c_two d legal.1.1.1.0 i most total named (lawful i named) (let x = b_two.retries i named in omega (arith, x)) p.rest (ap way_ops rest_is) total_is (b_two.counting i named) out
          (known_start s marks scales long one b legal.1.0 c_one.stands i named (lawful i named) (b_one.counting i named).opens).met is_two started_two

      pipe_three : plays (track_at three.normal.tracks i).life ≡ true → PipeKept s three
      pipe_three heard =
          let heard_two = heard_before s marks scales long small sizes two c legal.1.1.0 c_two d legal.1.1.1.0 i most total named (lawful i named) few_two is_two started_two heard in
          let ready = ready_round s marks scales long one b legal.1.0 c_one.stands b_one.under (mix_ordered s marks scales long one b legal.1.0 c_one.stands b_one.under i heard_two) sizes b_one.carried b_one.pipe in
          pipe_kept s marks scales long two c legal.1.1.0 c_two.stands b_two.under
          (mixes_round s marks scales long two c legal.1.1.0 c_two.stands b_two.under (mix_ordered s marks scales long two c legal.1.1.0 c_two.stands b_two.under i heard) sizes b_two.carried ready)

    -- after these rounds the middle begins
    pub start_done : Starts s three (most_of s) (total_of s) (AllAble s)
    start_done = record {
      carried = record { session = c_three; tracks = λ i named. is_three i named };
      pipe = λ i named heard. pipe_three i named heard;
      tracks = λ i named. (p i named, total_is i named, (track_three i named).starts);
      able = λ i named. (track_three i named).able;
    }
