-- The ends of a play keep the lists of the run that its rounds tell: each proxy that is home at the end met its client in the last round.
use Rattle.std.proofs.Common.{◌≡◌, ℕ, ◌<◌, true, false, is_some, List, [], ◌∷◌, length, Some, sym, ap, subst, ◌∙◌, arith}
use Rattle.af_play_law.proofs.Common.{Deeds, Links, Marks, NormalKept, NormalState, RoundSeen, Run, SawOwnOf, ServerState, Session, SessionState, Shape, Tells, TrackKept, TrackTold, after_round, all_played, ends_keep, observer_holds, is_home, is_tame, marks_of, met, met_at, met_many, new_run, no_deeds, or_left, run_from, session_of, stream_at, takes_part, tame_met, told_at, track_at, track_count, with_ends as run_ends}
use Rattle.af_session.specs.Ends.{ends_from}
use Rattle.af_session.specs.Rounds.{with_ends}
use Rattle.af_told_law.specs.KeptEnds.{KeepsLists}
use Rattle.af_told_law.proofs.EndsKept.{SawAtHome, ends_keep_lists}
use Rattle.af_told_law.proofs.TrackMeets.{tracks_are}
use Rattle.af_play_law.specs.KeptPlays.{PlaysKeepTheirLists}
use Rattle.af_play_law.specs.PlayRuns.{PlaysOn}
use Rattle.af_play_law.specs.RoundPlayed.{PlayStands, RoundPlayed}
use Rattle.af_play_law.proofs.Words.{HearsForeseen}
use Rattle.af_play_law.specs.Rounds.{RoundStands}
use Rattle.af_play_law.proofs.Foreseen.{hears_foreseen}
use Rattle.af_play_law.proofs.PlayEnds.{after_normal}
use Rattle.af_play_law.proofs.PlayTold.{holds_first}
use Rattle.af_play_law.proofs.RoundLoaded.{told_loaded}
use Rattle.af_play_law.proofs.RoundMarked.{ends_at}
use Rattle.af_play_law.proofs.RoundMet.{shapes_behind}
use Rattle.af_play_law.proofs.StandsAfter.{round_stands}

-- a block that wasn't poked up to the end of a round wasn't before its meetings
module _ (s : Session) (played : Run) (i : ℕ) (low : i < length played.tracks) where
  low_met : i < length (met s played).tracks
  low_met = let m = met_many s played in omega (arith, low, m)

  stream_before : is_tame (told_at (run_ends (met s played)) i).stream ≡ true → is_tame (told_at played i).stream ≡ true
  stream_before tame = tame_met (takes_part s played i) played.handed (told_at played i).stream
      (ap (λ (t : TrackTold). is_tame t.stream) (sym (met_at s played i low)) ∙ ap is_tame (sym (ends_at (met s played) i low_met).0) ∙ tame)

  commands_before : is_tame (told_at (run_ends (met s played)) i).commands ≡ true → is_tame (told_at played i).commands ≡ true
  commands_before tame = tame_met true false (told_at played i).commands
      (ap (λ (t : TrackTold). is_tame t.commands) (sym (met_at s played i low)) ∙ ap is_tame (sym (ends_at (met s played) i low_met).1) ∙ tame)

module _ (links : Links) (s : Session) (run : Run) (d : Deeds) (x u z : SessionState) (bytes : List ℕ) (round : RoundSeen) (stands : PlayStands s run d x) (w : RoundPlayed links s x u z bytes round) (hears : HearsForeseen s run x u round) where
  abbrev played : Run
  played = all_played s run round

  abbrev after : Run
  after = after_round s run round

  told : RoundStands s run d round (with_ends z)
  told = round_stands links s run d x u z bytes round stands w hears

  abbrev deeds : Deeds
  deeds = told.told.left.deeds

  told_after : Tells s after deeds (with_ends z)
  told_after = told.told.left.told

  -- there are as many tracks as the session has
  few : length played.tracks ≡ track_count s
  few = (told_loaded links s run d x u z bytes round stands w hears).count.0

  many : length z.normal.tracks ≡ track_count s
  many = ap (λ (ts : List TrackKept). length ts) (tracks_are u z w.meets) ∙ sym w.turned.count ∙ (told_loaded links s run d x u z bytes round stands w hears).count.1

  -- a stream proxy that is home behind the meetings took part in them
  took_part : (i : ℕ) (t : ServerState) → i < track_count s → stream_at (with_ends z).normal.streams i ≡ Some t → takes_part s played i ≡ true
  took_part i t low here =
      let there : stream_at z.normal.streams i ≡ Some t = ap (λ (n : NormalState). stream_at n.streams i) (sym (ends_keep z).normal) ∙ here in
      let home : is_home (track_at z.normal.tracks i).holder ≡ true = sym (w.met.normal.tied.proxies.there i (let m = many in omega (arith, low, m))) ∙ ap is_some there in
      let kept : is_home (track_at z.normal.tracks i).holder ≡ is_home (track_at played.normal.tracks i).holder =
      ap (λ (n : NormalState). is_home (track_at n.tracks i).holder) (sym (ends_keep z).normal)
      ∙ ap (λ (m : NormalKept). is_home (track_at m.tracks i).holder) (told_after.normal.kept ∙ after_normal s run round) in
      or_left (is_home (track_at played.normal.tracks i).holder) (observer_holds s played i) (sym kept ∙ home)

  saw_home : SawAtHome s after deeds (with_ends z)
  saw_home =
      let behind = shapes_behind links s run d x u z bytes round stands w hears in
      record {
        streams = (λ i t low here tame.
            subst (λ (k : Shape). SawOwnOf k (deeds.streams i)) (sym (behind.streams i low))
            (told.told.streams i low (took_part i t low here) (stream_before s played i (let f = few in omega (arith, low, f)) tame)));
        commands = (λ i low tame.
            subst (λ (k : Shape). SawOwnOf k (deeds.commands i)) (sym (behind.commands i low))
            (told.told.commands i low (commands_before s played i (let f = few in omega (arith, low, f)) tame)));
      }

  stands_again : PlayStands s after deeds (with_ends z)
  stands_again = told.stands

-- the rounds of a play keep the lists, up to its ends
kept_from : (s : Session) (marks : Marks) (rounds : List RoundSeen) (run : Run) (d : Deeds) (x t : SessionState) → PlayStands s run d x → SawAtHome s run d x → PlaysOn s marks x rounds t → KeepsLists (run_from s run rounds) (ends_from t)
kept_from s marks [] run d x t stands saw same = subst (λ (y : SessionState). KeepsLists run (ends_from y)) (sym same) (ends_keep_lists s run d x stands.told saw)
kept_from s marks (round ∷ rounds) run d x t stands saw (links, u, z, bytes, goes, free, w, rest) =
    let hears = hears_foreseen links s run d x u z bytes round stands w stands.carried in
    kept_from s marks rounds (after_round s run round) _ (with_ends z) t (stands_again links s run d x u z bytes round stands w hears) (saw_home links s run d x u z bytes round stands w hears) rest

-- nothing was seen in a new session
none_saw : (s : Session) (run : Run) (x : SessionState) → SawAtHome s run no_deeds x
none_saw s run x = record { streams = (λ i t low here tame. tt); commands = (λ i low tame. tt) }

pub plays_keep : PlaysKeepTheirLists
plays_keep script files shared x t rounds new plays =
    let s = session_of script files in
    kept_from s (marks_of rounds) rounds (new_run s) no_deeds x t (holds_first script files shared x new (marks_of rounds)).stands (none_saw s (new_run s) x) plays
