-- What a flush discards on a positional block: what was released before it, and no more.
use Rattle.std.specs.Prelude.{ℕ, ◌<◌, ◌≤◌, List, [], ◌∷◌}
use Rattle.af_base.specs.declared.event.ClientEvent.{ClientEvent}
use Rattle.af_base.specs.declared.event.ClientEvent.TheVariants as client
use Rattle.af_base.specs.declared.event.ServerEvent.{ServerEvent}
use Rattle.af_base.specs.declared.event.ServerEvent.TheVariants as server
use Rattle.af_model.specs.declared.shape.Shape.{Shape}
use Rattle.af_model.specs.Point.{start, after_server}
use Rattle.af_model.specs.History.{Moment, by_client, by_server, by_hand, after}

-- where the last flush stands after one more event of the client, which has released up to `released`
abbrev pub flush_by : (released before : ℕ) → ClientEvent → ℕ
flush_by released before client.Flush = released
flush_by released before _ = before

-- up to which position the client had released at the last flush of an order, and 0 if there is none
abbrev pub last_flush : Shape → List Moment → ℕ
last_flush k [] = 0
last_flush k (by_client e ∷ order) = flush_by (after (start k) order).released (last_flush k order) e
last_flush k (by_server e ∷ order) = last_flush k order
last_flush k (by_hand e ∷ order) = last_flush k order

-- where the flush seen last stands after one more event of the server
abbrev pub seen_by : (last before : ℕ) → ServerEvent → ℕ
seen_by last before (server.SawFlush flush) = last
seen_by last before _ = before

-- up to which position the client had released at the flush that the server's last look at the flush word saw
abbrev pub seen_flush : Shape → List Moment → ℕ
seen_flush k [] = 0
seen_flush k (by_client e ∷ order) = seen_flush k order
seen_flush k (by_server e ∷ order) = seen_by (last_flush k order) (seen_flush k order) e
seen_flush k (by_hand e ∷ order) = seen_flush k order

-- each frame that a drop covers was released before the flush that its look saw, and after the drop none of those waits
abbrev pub DropsBefore : Shape → List Moment → ServerEvent → Type 0
DropsBefore k order (server.Drop to) =
    let p = after (start k) order in
    let q = after_server p (server.Drop to) in
    ((position : ℕ) → p.consumed ≤ position → position < q.consumed → position < seen_flush k order) × (seen_flush k order ≤ q.consumed)
DropsBefore k order _ = Unit {0}

-- each drop of an order covers only frames released before its flush, and after it none of those waits
abbrev pub DiscardsBefore : Shape → List Moment → Type 0
DiscardsBefore k [] = Unit {0}
DiscardsBefore k (by_client e ∷ order) = DiscardsBefore k order
DiscardsBefore k (by_server e ∷ order) = DropsBefore k order e × DiscardsBefore k order
DiscardsBefore k (by_hand e ∷ order) = DiscardsBefore k order
