-- When a turn of the normal mixer reads the same of two outsides.
use Rattle.std.specs.Prelude.{List, [], false, is_some, length, true, ℕ, ◌++◌, ◌<◌, ◌∷◌, ◌≡◌, ◌⊎◌}
use Rattle.af_told_law.proofs.Common.{CommandLook, Learnt, LegalLooks, Listed, LooksBy, NormalKept, Outside, Setup, SlotEntry, TakeSeen, TrackKept, Turn, TurnFound, after_ack, asked, command_events, did, front_of, fronts_by, is_home, kept, lawful_front, listed, take_front, takes_from, track_at, track_in}
use Rattle.af_told_law.specs.Alike.{TellAlike}
use Rattle.af_told_law.specs.Deeds.{SawOwnOf, commands_by, stream_by}
use Rattle.af_told_law.specs.NormalLaws.{HeardAlike}

-- each stream proxy that is home knows the same by both
abbrev pub OwnAlike : List TrackKept → Learnt → Learnt → Type 0
OwnAlike tracks k l = (i : ℕ) → i < length tracks → is_home (track_at tracks i).holder ≡ true → k.own i ≡ l.own i

-- of each stream proxy the same is learnt, by the report or by what it knows
pub record LearnAlike (tracks : List TrackKept) (k l : Learnt) : Type 0 where
  pub report : HeardAlike tracks k.report l.report
  pub own : OwnAlike tracks k l

-- the front of a look is the same, if it was made: a server that was shut makes none
abbrev pub SameFront : Listed → ℕ → ℕ → Type 0
SameFront s f g = is_some (kept s).shut ≡ false → f ≡ g

-- the fronts of looks at a command block are the same, if these were made
abbrev pub SameFronts : Listed → List CommandLook → List ℕ → List ℕ → Type 0
SameFronts s [] [] [] = Unit {0}
SameFronts s (look ∷ looks) (f ∷ fs) (g ∷ gs) = SameFront s f g × SameFronts (did s (command_events s look f)) looks fs gs
SameFronts s _ _ _ = ⊥

-- two lists of one block tell alike
pub record ListAlike (s t : Listed) : Type 0 where
  pub shape : s.shape ≡ t.shape
  pub alike : TellAlike t.shape s.events t.events

-- Of the stream proxies that aren't home once the acknowledgement was seen the reports say the same, and the lists of those that are, and those of the command proxies, tell alike
pub record AreAlike (m : NormalKept) (e : Turn) (o p : Outside) : Type 0 where
  pub report : HeardAlike (after_ack e.ack m).tracks o.report p.report
  pub streams : (i : ℕ) → i < length m.tracks → is_home (track_at (after_ack e.ack m).tracks i).holder ≡ true → ListAlike (o.streams i) (p.streams i)
  pub commands : (i : ℕ) → i < length m.tracks → ListAlike (o.commands i) (p.commands i)

-- the takes and looks of a turn that fit the fronts of the one outside fit those of the other
pub record AnswerAlike (c : Setup) (m : NormalKept) (e : Turn) (o p : Outside) : Type 0 where
  pub takes : (i : ℕ) → (takes_from e.mixes i ≡ []) ⊎ ((slot : SlotEntry) → LooksBy (asked c) (o.streams i) slot (o.stream_front i) → LooksBy (asked c) (p.streams i) slot (p.stream_front i))
  pub looks : (i : ℕ) → i < length m.tracks → LegalLooks (o.commands i) (track_in e i).looks (o.command_fronts i) → LegalLooks (p.commands i) (track_in e i).looks (p.command_fronts i)

-- ## What a run tells of the fronts

-- the front of a stream from which these takes were made is the one told, and both rules tell the same
abbrev pub TakeTold : Setup → Listed → ℕ → List TakeSeen → Type 0
TakeTold c s f takes = ((takes ≡ []) ⊎ SameFront s f (take_front (front_of (asked c)) s takes)) × (take_front (front_of (asked c)) s takes ≡ take_front (lawful_front (asked c)) s takes)

-- the fronts of looks at a command block are those told, and both rules tell the same
abbrev pub LooksTold : Listed → List CommandLook → List ℕ → Type 0
LooksTold s looks fs = SameFronts s looks fs (fronts_by front_of s looks) × (fronts_by front_of s looks ≡ fronts_by lawful_front s looks)

-- each front that the stream server of a track saw up to the end of the turn is its own, and each that its command server saw
abbrev pub SawStream : Setup → NormalKept → Turn → Outside → ℕ → Type 0
SawStream c m e o i = SawOwnOf (o.streams i).shape ((o.streams i).events ++ stream_by c m o e i)

abbrev pub SawCommands : Setup → NormalKept → Turn → Outside → ℕ → Type 0
SawCommands c m e o i = SawOwnOf (o.commands i).shape ((o.commands i).events ++ commands_by c m o e i)

-- What a turn saw is what was found: what the report says of the stream proxies that aren't home once the acknowledgement was seen, and what the lists of those that are, and those of the command proxies, tell. If each front that a server saw up to the end of the turn is its own, the lists and the fronts are the same
pub record IsFound (c : Setup) (m : NormalKept) (e : Turn) (o : Outside) (f : TurnFound) : Type 0 where
  pub report : HeardAlike (after_ack e.ack m).tracks o.report f.report
  pub streams : (i : ℕ) → i < length m.tracks → is_home (track_at (after_ack e.ack m).tracks i).holder ≡ true → ListAlike (o.streams i) (listed (f.streams i))
  pub commands : (i : ℕ) → i < length m.tracks → ListAlike (o.commands i) (listed (f.commands i))
  pub same_streams : (i : ℕ) → i < length m.tracks → is_home (track_at (after_ack e.ack m).tracks i).holder ≡ true → SawStream c m e o i → o.streams i ≡ listed (f.streams i)
  pub same_commands : (i : ℕ) → i < length m.tracks → SawCommands c m e o i → o.commands i ≡ listed (f.commands i)
  pub takes : (i : ℕ) → i < length m.tracks → SawStream c m e o i → TakeTold c (o.streams i) (o.stream_front i) (takes_from e.mixes i)
  pub looks : (i : ℕ) → i < length m.tracks → SawCommands c m e o i → LooksTold (o.commands i) (track_in e i).looks (o.command_fronts i)
