-- The looks at a command block: how each answers, and the events that they make.
use Rattle.std.specs.Prelude.{◌≡◌, ℕ, ◌+◌, if◌then◌else◌, is_some, MatchBool, List, [], ◌∷◌, ◌++◌}
use Rattle.af_base.specs.declared.event.ServerEvent.{ServerEvent}
use Rattle.af_base.specs.declared.event.ServerEvent.TheVariants as server
use Rattle.af_base.specs.declared.log.SlotEntry.{SlotEntry}
use Rattle.af_base.specs.declared.turn.CommandLook.{CommandLook}
use Rattle.af_model.specs.Cycles.{Listed, kept, LooksBy}
use Rattle.af_model.specs.ServerCalls.{look_events}
use Rattle.af_life.specs.Obeys.{shows_command}

-- the look as one of a slot
abbrev pub as_slot : CommandLook → SlotEntry
as_slot look = record { gains = 0; flush = look.flush; rear = look.rear; seen = look.seen; first = 0 }

-- a command's two frames are taken
abbrev pub takes_command : CommandLook → List ServerEvent
takes_command look = if shows_command look.seen then server.Take 2 ∷ [] else []

-- the events of one look, by a server that wasn't shut
abbrev pub command_events : Listed → CommandLook → ℕ → List ServerEvent
command_events s look front = (if is_some (kept s).shut then [] else look_events look.seen look.flush look.rear front) ++ takes_command look

-- the server with some events more
abbrev pub did : Listed → List ServerEvent → Listed
did s events = record s { events = s.events ++ events }

-- the events of all looks, each with its front
abbrev pub all_command_events : Listed → List CommandLook → List ℕ → List ServerEvent
all_command_events s (look ∷ looks) (front ∷ fronts) = let events = command_events s look front in
    events ++ all_command_events (did s events) looks fronts
all_command_events s _ _ = []

-- the words of a command that was taken, and else 0
abbrev pub HasWords : CommandLook → Type 0
HasWords look = MatchBool (shows_command look.seen) (Unit {0}) ((look.code ≡ 0) × (look.argument ≡ 0))

-- each look answers by its words and the list before it
abbrev pub LegalLooks : Listed → List CommandLook → List ℕ → Type 0
LegalLooks s [] [] = Unit {0}
LegalLooks s (look ∷ looks) (front ∷ fronts) = LooksBy 2 s (as_slot look) front × HasWords look × LegalLooks (did s (command_events s look front)) looks fronts
LegalLooks s _ _ = ⊥

-- the words that the looks took
abbrev pub words_taken : List CommandLook → List ℕ
words_taken [] = []
words_taken (look ∷ looks) = (if shows_command look.seen then look.code ∷ look.argument ∷ [] else []) ++ words_taken looks

-- ## The fronts on a block whose client has not poked
