-- The lists of a client that keeps to its calls.
use Rattle.std.proofs.Common.{Bool, true, false, if◌then◌else◌, ℕ, fold, List, [], ◌∷◌}
use Rattle.af_judge.proofs.Common.{AnswersOn, BlockTold, ClientCall, LegalClientTurn, Side, Track, after_call, after_calls, called, client_list, is_of_commands, released_by, stream_met}
use Rattle.af_model.specs.ClientCalls as list
use Rattle.af_judge.specs.Tracks.{AreMade, AreSpelled, IsCallOf, IsSpelled}
use Rattle.af_judge.proofs.TurnCalls.{turn_makes}

spelled-side : (b : Side) (answer : ClientCall) (asked : ℕ) (words : List ℕ) → IsSpelled b.shape b.events → AnswersOn b asked answer → IsSpelled b.shape (called answer words b).events
spelled-side b answer asked words h answers = list.calls b.events asked answer h answers

spelled-by : (of_commands : Bool) (t : Track) (answer : ClientCall) (asked : ℕ) (words : List ℕ) → AreSpelled t → AnswersOn (if of_commands then t.commands else t.stream) asked answer
    → AreSpelled (if of_commands then record t { commands = called answer words t.commands } else record t { stream = called answer words t.stream })
spelled-by true t answer asked words h answers = record { stream = h.stream; commands = spelled-side t.commands answer asked words h.commands answers }
spelled-by false t answer asked words h answers = record { stream = spelled-side t.stream answer asked words h.stream answers; commands = h.commands }

spelled-call : (t : Track) (answer : ClientCall) → AreSpelled t → IsCallOf t answer → AreSpelled (after_call t answer)
spelled-call t answer h call = let s = spelled-by (is_of_commands answer) t answer _ (released_by t answer) h call.made.1 in record { stream = s.stream; commands = s.commands }

spelled-calls : (t : Track) (calls : List ClientCall) → AreSpelled t → AreMade t calls → AreSpelled (fold after_call t calls)
spelled-calls t [] h made = h
spelled-calls t (c ∷ calls) h made = spelled-calls (after_call t c) calls (spelled-call t c h made.0) made.1

-- a legal turn keeps both spelled
pub spelled_turn : (t : Track) (calls : List ClientCall) → AreSpelled t → LegalClientTurn t calls → AreSpelled (after_calls t calls)
spelled_turn t calls h legal = let s = spelled-calls t calls h (turn_makes t calls legal).made in record { stream = s.stream; commands = s.commands }

-- the meetings leave the client's list spelled
pub spelled_met : (server_there hand_there : Bool) (b : BlockTold) → IsSpelled b.shape (client_list b) → IsSpelled b.shape (client_list (stream_met server_there hand_there b))
spelled_met true true b h = list.meets (client_list b) _ h
spelled_met true false b h = list.meets (client_list b) _ h
spelled_met false true b h = h
spelled_met false false b h = h
