-- The history of a recording: which order of its two ends' events is legal, and what each end does by itself.
use Rattle.std.specs.Prelude.{◌≡◌, ℕ, ◌==◌, bit_and, Bool, true, List, length, take}
use Rattle.std.specs.List.{list_all}
use Rattle.af_base.specs.declared.event.ClientEvent.{ClientEvent}
use Rattle.af_base.specs.declared.event.ClientEvent.TheVariants as client
use Rattle.af_base.specs.declared.event.ServerEvent.{ServerEvent}
use Rattle.af_base.specs.declared.event.ServerEvent.TheVariants as server
use Rattle.af_model.specs.Order.{Event, one, two, Legal, point_after, HasOrder}
use Rattle.af_model.specs.PipeHistory.{PipePoint, start_of_pipe, next_in_pipe, PutKept, nothing_put, may_put, after_put, is_taking}
use Rattle.af_model.specs.PipeHistory as pipe

-- Which event is legal, as in a pipe, but that the end that supplies also looks at the flags, and the end that reads at the flush word. No flags seen have INVALID, each flush word seen is 0, and nothing is dropped
abbrev pub legal : ℕ → PipePoint → Event ClientEvent ServerEvent → Type 0
legal size p (one (client.SawFlags flags)) = bit_and flags 4 ≡ 0
legal size p (one e) = pipe.legal_in_pipe size p (one e)
legal size p (two (server.SawFlush flush)) = flush ≡ 0
legal size p (two e) = pipe.legal_in_pipe size p (two e)

-- There is a legal order of both ends' events. The frames put and taken are as many as these say, and those taken begin those put
pub record HasTapeHistory (size : ℕ) (puts : List ClientEvent) (put : List ℕ) (takes : List ServerEvent) (taken : List ℕ) : Type 0 where
  pub history : HasOrder (legal size) next_in_pipe start_of_pipe puts takes
  pub put_is : (point_after (legal size) next_in_pipe start_of_pipe history.order).put ≡ length put
  pub taken_is : (point_after (legal size) next_in_pipe start_of_pipe history.order).taken ≡ length taken
  pub begins : taken ≡ take (length taken) put

-- ## What each end does by itself

-- the end that supplies looks at the flags, and else does what the end of a pipe does that puts
abbrev pub may_supply : ℕ → PutKept → ClientEvent → Type 0
may_supply size k (client.SawFlags flags) = Unit {0}
may_supply size k e = may_put size k e

-- the list of an end that supplies
abbrev pub IsSupplyList : ℕ → List ClientEvent → Type 0
IsSupplyList size events = Legal (may_supply size) after_put nothing_put events

-- the end that reads looks at the flush word, may drop, and else does what the end of a pipe does that takes
abbrev pub is_reading : ServerEvent → Bool
is_reading (server.SawFlush flush) = true
is_reading (server.Drop to) = true
is_reading e = is_taking e

-- the list of an end that reads
abbrev pub IsReadList : List ServerEvent → Type 0
IsReadList events = list_all is_reading events ≡ true

-- ## What is seen if nothing disturbs the two ends

-- no look at the flags shows INVALID
abbrev pub is_alive : ClientEvent → Bool
is_alive (client.SawFlags flags) = bit_and flags 4 == 0
is_alive _ = true

-- each flush word seen is 0, and nothing is dropped
abbrev pub is_calm : ServerEvent → Bool
is_calm (server.SawFlush flush) = flush == 0
is_calm e = is_taking e
