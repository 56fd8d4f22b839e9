-- The turns of a round of all parties in the room that they are lent: what each needs before it, and what it leaves.
use Rattle.std.specs.Prelude.{ℕ, ◌++◌, List, [], ◌∷◌, length, map, Bool, Option}
use Rattle.af_base.specs.Turn.{turn_of}
use Rattle.af_fast.specs.Mixer.{MixerState}
use Rattle.af_link.specs.declared.links.Links.{Links}
use Rattle.af_model.specs.Journals.{RoundNoted}
use Rattle.af_normal.specs.State.{NormalState}
use Rattle.af_party.specs.Parties.{PartyState}
use Rattle.af_session.specs.Rooms.{CanCycle, HasAdded, HasNotedOn, HasRoom, KeepsRoom}
use Rattle.af_session.specs.declared.room.Room.{Room}
use Rattle.af_session.specs.Rounds.{Given}
use Rattle.af_session.specs.Together.{SessionState}
use Rattle.af_side_by_side.specs.Logging.{HasBothLogged, HasLogged, IsAuditor, IsScribe, LoggingState, LogsPlay, ScribeState}
use Rattle.af_side_by_side.specs.SideBySide.{CanMixOn, HasCycledOn, HasMixedOn, IsRoundOfAll, all_noted, with_all_calls, with_turn_if}
use Rattle.af_tally.specs.Summaries.{Shown}

-- ## A turn of the fast mixer

-- the fast mixer made its turn in this room, whose tally follows it
pub record FastPlayed (links : Links) (m m' : MixerState) (room room' : Room) : Type 0 where
  pub turned : HasCycledOn links m m' room.bytes room'.bytes
  pub noted : HasNotedOn m m' room.tally room'.tally
  pub kept : KeepsRoom room room'

-- the fast mixer made its turn, and its party noted each entry in the log if one is kept
pub record FastLogged (links : Links) (m m' : MixerState) (room room' : Room) (s s' : ScribeState) : Type 0 where
  pub played : FastPlayed links m m' room room'
  pub logged : HasLogged (length m.log.entries) m' s s'

-- the fast mixer can make its turn, and both parties of the log theirs
pub record CanPlayFast (links : Links) (m : MixerState) (room : Room) (l : LoggingState) : Type 0 where
  pub can : CanCycle links m
  pub fits : HasRoom 16 m room
  pub scribe : IsScribe l.log (length m.log.entries) l.scribe
  pub auditor : IsAuditor l.log l.auditor

-- the fast mixer made its turn, and both parties of the log theirs
pub record FastAudited (links : Links) (m m' : MixerState) (room room' : Room) (l l' : LoggingState) : Type 0 where
  pub played : FastPlayed links m m' room room'
  pub logged : HasBothLogged (length m.log.entries) m' l l'

-- ## The turns of both mixers

-- both mixers can make their turns
pub record CanPlayMixers (links : Links) (n : NormalState) (m : MixerState) (room : Room) (l : LoggingState) : Type 0 where
  pub normal : CanMixOn links n
  pub fast : CanPlayFast links m room l

-- both mixers made their turns
pub record MixersPlayed (links : Links) (n n' : NormalState) (m m' : MixerState) (room room' : Room) (l l' : LoggingState) : Type 0 where
  pub normal : HasMixedOn links n n'
  pub fast : FastAudited links m m' room room' l l'

-- ## A round

-- it was a round of all parties, and the bytes that came stand in the room behind the others
abbrev pub PlaysRound : Given → SessionState → SessionState → Room → Room → Type 0
PlaysRound g s t room room' = (added : List ℕ) × HasAdded room added room' × IsRoundOfAll g s (all_noted s t) added t

-- a log that was kept for the rounds before is kept for this round more
abbrev pub LogsRound : SessionState → SessionState → LoggingState → LoggingState → Type 0
LogsRound s t l l' = (kept : Option ℕ) (rounds : List RoundNoted) → LogsPlay kept s.fast rounds l → LogsPlay kept t.fast (rounds ++ all_noted s t ∷ []) l'

-- a run goes on by the calls of the last turn of each of these clients, and by that of the normal mixer if it hadn't ended
abbrev pub with_turns : Bool → SessionState → Shown → Shown
with_turns had_ended s run = with_turn_if had_ended (turn_of s.normal.entry) (with_all_calls (map (λ (p : PartyState). p.calls.items) s.clients) (length s.clients) run)
