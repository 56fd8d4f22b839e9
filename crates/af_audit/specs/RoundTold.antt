-- What a judge is told of a round, step by step: the calls, the entries before the turn, the turn, the entries behind it, and the meetings.
use Rattle.std.specs.Prelude.{◌≡◌, ◌↔◌, ℕ, ◌-◌, ◌<◌, ◌≤◌, ◌&&◌, not, min, nat_le, Bool, true, IsTrue, if◌then◌else◌, List, [], length, map, take, drop, slice_index_or, Option, Some, None}
use Rattle.std.specs.List.{prefix_len}
use Rattle.af_base.specs.declared.frame.Frame.{Frame}
use Rattle.af_base.specs.declared.log.CycleEntry.{CycleEntry}
use Rattle.af_base.specs.declared.report.Report.{Report}
use Rattle.af_base.specs.declared.state.FastState.{FastState}
use Rattle.af_base.specs.Turn.{Turn}
use Rattle.af_judge.specs.declared.track_judge.TrackJudge.{TrackJudge}
use Rattle.af_judge.specs.EntriesTold.{AreEntriesRight, MayEnter, Playing, entries_leave, playing}
use Rattle.af_judge.specs.FastKept.{FastKept, number_found}
use Rattle.af_judge.specs.Foresight.{entries_foreseen, foreseen, servers_at}
use Rattle.af_judge.specs.NormalJudged.{NormalJudged}
use Rattle.af_judge.specs.NormalTold.{IsRight}
use Rattle.af_judge.specs.PipeKept.{PipeKept, front_by_room, saw_front, with_put}
use Rattle.af_judge.specs.QueueNumbers.{turn_steps, with_steps}
use Rattle.af_judge.specs.ReportKept.{ReportKept}
use Rattle.af_judge.specs.TurnJudged.{TurnJudged}
use Rattle.af_life.specs.Kept.{Setup}
use Rattle.af_life.specs.Plays.{put_by}
use Rattle.af_judge.specs.SharedTold.{AreRight}
use Rattle.af_model.specs.Journals.{RoundSeen}
use Rattle.af_runs.specs.Runs.{calls_in}
use Rattle.af_script.specs.declared.track.TrackSpec.{TrackSpec}
use Rattle.af_audit.specs.declared.run_judge.Found.{Found}
use Rattle.af_audit.specs.declared.run_judge.RunJudge.{RunJudge}
use Rattle.af_audit.specs.MeetingsJudged.{TracksMet, mixers_met}
use Rattle.af_audit.specs.RunKept.{CallsJudged}

-- ## The turn

-- the report of a number, if some entries are still to come
pub record IsReportOf (f : FastKept) (states : List FastState) (tracks : List TrackJudge) (later : List CycleEntry) (number : ℕ) (report : Report) : Type 0 where
  pub before : number ≤ f.before.cycle → report ≡ f.before
  pub ahead : f.before.cycle < number → f.told.report.cycle < number → report ≡ (entries_foreseen states (take (min (length later) (number - f.told.report.cycle)) later) (foreseen (servers_at tracks) f.told)).told.report
  pub told : f.before.cycle < number → number ≤ f.told.report.cycle → report ≡ slice_index_or f.reports (number - f.before.cycle - 1) f.before

-- the pipe after a turn of a mixer: the room is seen, and a buffer put. A turn that says that the mixer ended leaves the pipe as it was
abbrev pub pipe_turned : Setup → Turn → PipeKept → PipeKept
pipe_turned c e p = if e.ended then p else with_put (put_by c e.mixes) (saw_front (front_by_room p.size (length p.put) e.room) p)

-- the report's cell after a turn: the number is loaded. A turn that says that the mixer ended leaves the cell as it was
abbrev pub report_turned : Turn → ReportKept → ReportKept
report_turned e r = if e.ended then r else record r { loaded = Some e.cycle }

-- what the fast mixer's judge keeps after a turn that left this draft: the draft, the looks at the queue, the push, and the pipe
abbrev pub fast_turned : NormalJudged → FastState → Turn → FastKept → FastKept
fast_turned j draft e f = record f { told = record f.told { draft = draft }; queue = with_steps (turn_steps (length j.states) e.ended e.ack e.push) f.queue; pipe = pipe_turned j.setup e f.pipe }

-- the judge was told of a turn, before these entries of its round; the turn is right if it is legal and the mixer hadn't ended
pub record TurnTold (j : RunJudge) (tracks : List TrackJudge) (later : List CycleEntry) (e : Turn) (right : Bool) (k : RunJudge) (after : List TrackJudge) : Type 0 where
  pub report : Report
  pub report_is : IsReportOf j.fast j.normal.states tracks later (number_found j.fast e.cycle) report
  pub legal : Bool
  pub legal_is : IsTrue legal ↔ IsRight j.normal.plain.setup report tracks j.normal.plain.kept e
  pub right_is : right ≡ (legal && not j.normal.plain.kept.ended)
  pub mixer : TurnJudged report e tracks after j.normal k.normal
  pub fast : k.fast ≡ fast_turned j.normal k.normal.plain.kept.draft e j.fast
  pub reported : k.report ≡ report_turned e j.report
  pub cycles : k.cycles ≡ j.cycles

-- the judge was told of no turn: all is as before, which is right exactly if the mixer has ended
abbrev pub IsUntold : RunJudge → List TrackJudge → Bool → RunJudge → List TrackJudge → Type 0
IsUntold j tracks right k after = (right ≡ j.normal.plain.kept.ended) × (k ≡ j) × (after ≡ tracks)

-- the judge was told of the turn of a round, if the round has one
abbrev pub TurnIfTold : RunJudge → List TrackJudge → List CycleEntry → Option Turn → Bool → RunJudge → List TrackJudge → Type 0
TurnIfTold j tracks later None right k after = IsUntold j tracks right k after
TurnIfTold j tracks later (Some e) right k after = TurnTold j tracks later e right k after

-- ## Both mixers

-- how many entries come before the turn
abbrev pub early_of : RunJudge → List CycleEntry → ℕ
early_of j entries = prefix_len (λ entry. nat_le entry.state (length j.normal.states)) entries

-- The judge was told of both mixers' turns in a round: the entries of states pushed before, the turn, and the other entries
pub record MixersTold (frames : List Frame) (entries : List CycleEntry) (turn : Option Turn) (j : RunJudge) (tracks : List TrackJudge) (normal fast : Bool) (k : RunJudge) (after : List TrackJudge) : Type 0 where
  pub turned : RunJudge
  pub between : List TrackJudge
  pub early : Playing
  pub early_is : early ≡ entries_leave j.normal.states frames (take (early_of j entries) entries) (playing j.fast tracks)
  pub turn_is : TurnIfTold (record j { fast = early.fast }) early.tracks (drop (early_of j entries) entries) turn normal turned between
  pub late : Playing
  pub late_is : late ≡ entries_leave turned.normal.states frames (drop (early_of j entries) entries) (playing turned.fast between)
  pub kept : k ≡ record turned { fast = late.fast }
  pub tracks_are : after ≡ late.tracks
  pub fast_is : IsTrue fast ↔ (AreEntriesRight j.normal.states frames (take (early_of j entries) entries) (playing j.fast tracks) × AreEntriesRight turned.normal.states frames (drop (early_of j entries) entries) (playing turned.fast between))

-- ## The ends

-- a track whose client has ended
abbrev pub ended_track : TrackJudge → TrackJudge
ended_track t = record t { client = record t.client { client = record t.client.client { ended = true } } }

-- the tracks; if the normal mixer has ended, the client of each has ended
abbrev pub tracks_ended : Bool → List TrackJudge → List TrackJudge
tracks_ended ended tracks = if ended then map ended_track tracks else tracks

-- ## The round

-- the fast mixer as a round begins
abbrev pub begun : FastKept → FastKept
begun f = record f { before = f.told.report; reports = [] }

-- the judge was told of a round: the calls, both mixers' turns, and the meetings; and `f` was found of it
pub record RoundPlayed (cut : Bool) (specs : List TrackSpec) (files : List (List Frame)) (frames : List Frame) (log : List CycleEntry) (first : ℕ) (round : RoundSeen) (j : RunJudge) (tracks : List TrackJudge) (f : Found) (k : RunJudge) (after : List TrackJudge) : Type 0 where
  pub called : List TrackJudge
  pub many : length called ≡ length tracks
  pub calls : CallsJudged (length tracks) specs files (calls_in round) tracks called f.caller
  pub may : Bool
  pub may_is : IsTrue may ↔ MayEnter cut (begun j.fast) j.cycles log first (length round.entries)
  pub right : Bool
  pub entered : Bool
  pub mixed : RunJudge
  pub played : List TrackJudge
  pub mixers : MixersTold frames (map (λ e. e.entry) round.entries) round.turn (record j { fast = begun j.fast }) called right entered mixed played
  pub met : List TrackJudge
  pub as_many : length met ≡ length played
  pub tracks_met : TracksMet mixed (length played) played met f.met
  pub shared : Bool
  pub shared_is : IsTrue shared ↔ AreRight mixed.fast.told.report.cycle mixed.fast.queue mixed.report mixed.fast.pipe
  pub left : k ≡ mixers_met mixed
  pub ended : after ≡ tracks_ended mixed.normal.plain.kept.ended met
  pub normal_is : IsTrue f.normal ↔ (IsTrue right × IsTrue shared)
  pub fast_is : IsTrue f.fast ↔ (IsTrue entered × IsTrue may)
