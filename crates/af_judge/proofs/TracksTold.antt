-- What is kept of a track of a run follows a turn of its client.
use Rattle.std.proofs.Common.{◌≡◌, Bool, true, false, if◌then◌else◌, fold, ℕ, List, [], ◌∷◌, ◌++◌, length, drop, refl, sym, ap, ◌∙◌, subst, append_assoc, append-nil}
use Rattle.af_judge.proofs.Common.{BlockTold, ClientCall, ClientEvent, Op, Side, Track, TrackTold, after_call, after_calls, called, client_does, client_events_of, client_list, drop_at, is_of_commands, released_by, client_side, sides_of, with_side}
use Rattle.af_runs.specs.Runs as run
use Rattle.af_judge.specs.declared.track_judge.TrackJudge.{TrackJudge}
use Rattle.af_judge.specs.Blocks.{BlockJudged, IsBlockOf, client_more, released_more}
use Rattle.af_judge.specs.Judging.{sides_kept}
use Rattle.af_judge.specs.Tracks.{IsSideOf, IsTrackOf, KeepsTrack, SameServers}
use Rattle.af_judge.proofs.BlocksTold.{client-client, client_told}

-- ## A client's side only grows

record Grows (x y : Side) : Type 0 where
  shape : y.shape ≡ x.shape
  more : List ClientEvent
  events : y.events ≡ x.events ++ more
  words : List ℕ
  released : y.released ≡ x.released ++ words

grows-not : (x : Side) → Grows x x
grows-not x = record { shape = refl; more = []; events = sym (append-nil x.events); words = []; released = sym (append-nil x.released) }

grows-call : (x : Side) (answer : ClientCall) (words : List ℕ) → Grows x (called answer words x)
grows-call x answer words = record { shape = refl; more = client_events_of x.shape.frames x.shape.base x.events answer; events = refl; words = words; released = refl }

grows-both : (x y z : Side) → Grows x y → Grows y z → Grows x z
grows-both x y z a b = record {
  shape = b.shape ∙ a.shape;
  more = a.more ++ b.more;
  events = b.events ∙ (ap (λ (es : List ClientEvent). es ++ b.more) a.events ∙ append_assoc x.events a.more b.more);
  words = a.words ++ b.words;
  released = b.released ∙ (ap (λ (ws : List ℕ). ws ++ b.words) a.released ∙ append_assoc x.released a.words b.words);
}

record GrowBoth (t u : Track) : Type 0 where
  stream : Grows t.stream u.stream
  commands : Grows t.commands u.commands

grow-by : (b : Bool) (t : Track) (answer : ClientCall) (words : List ℕ) → GrowBoth t (if b then record t { commands = called answer words t.commands } else record t { stream = called answer words t.stream })
grow-by true t answer words = record { stream = grows-not t.stream; commands = grows-call t.commands answer words }
grow-by false t answer words = record { stream = grows-call t.stream answer words; commands = grows-not t.commands }

grow-call : (t : Track) (answer : ClientCall) → GrowBoth t (after_call t answer)
grow-call t answer = let g = grow-by (is_of_commands answer) t answer (released_by t answer) in record { stream = g.stream; commands = g.commands }

grow-calls : (t : Track) (calls : List ClientCall) → GrowBoth t (fold after_call t calls)
grow-calls t [] = record { stream = grows-not t.stream; commands = grows-not t.commands }
grow-calls t (c ∷ calls) =
    let one = grow-call t c in
    let more = grow-calls (after_call t c) calls in
    let last = fold after_call (after_call t c) calls in
    record { stream = grows-both t.stream (after_call t c).stream last.stream one.stream more.stream; commands = grows-both t.commands (after_call t c).commands last.commands one.commands more.commands }

-- ## The side of a block

-- what the client did more
more-is : (b : BlockTold) (y : Side) (g : Grows (client_side b) y) → drop (length (client_list b)) y.events ≡ g.more
more-is b y g = ap (drop (length (client_list b))) g.events ∙ drop_at (client_list b) g.more (length (client_list b)) refl

side-is : (b : BlockTold) (y : Side) → Grows (client_side b) y → client_side (with_side y b) ≡ y
side-is b y g =
    let events : client_list (with_side y b) ≡ y.events =
    client-client b.told (drop (length (client_list b)) y.events) ∙ (ap (λ (es : List ClientEvent). client_list b ++ es) (more-is b y g) ∙ sym g.events) in
    λ i. record { shape = sym g.shape i; events = events i; released = y.released }

block-is : (j k : BlockJudged) (b : BlockTold) (y : Side) → Grows (client_side b) y → IsBlockOf j b → IsSideOf k y → k ≡ record j { client = k.client; released = k.released } → IsBlockOf k (with_side y b)
block-is j k b y g h side is =
    let here = client_told j b (drop (length (client_list b)) y.events) g.words h in
    let words : b.released ++ g.words ≡ y.released = sym g.released in
    let client : k.client ≡ j.client ++ drop (length (client_list b)) y.events =
    side.events ∙ (g.events ∙ ap (λ (x : List ClientEvent × List ClientEvent). x.0 ++ x.1) (λ i. (sym h.client i, sym (more-is b y g) i))) in
    let released : k.released ≡ j.released ++ g.words = side.released ∙ (g.released ∙ ap (λ (ws : List ℕ). ws ++ g.words) (sym h.released)) in
    let k_is : k ≡ released_more g.words (client_more (drop (length (client_list b)) y.events) j) =
    is ∙ ap (λ (x : List ClientEvent × List ℕ). let r : BlockJudged = record j { client = x.0; released = x.1 } in r) (λ i. (client i, released i)) in
    let P : BlockJudged × List ℕ → Type 0 = λ x. IsBlockOf x.0 (record (client_does (drop (length (client_list b)) y.events) b) { released = x.1 }) in
    subst P (λ i. (sym k_is i, words i)) here

-- ## The track

-- what is kept of it is kept of its client's sides
pub keeps_of : (ops : List Op) (j : TrackJudge) (t : TrackTold) → IsTrackOf ops j t → KeepsTrack ops j (sides_of t)
keeps_of ops j t h = record {
  client = h.client;
  stream = record { shape = h.stream.shape; events = h.stream.client; released = h.stream.released };
  commands = record { shape = h.commands.shape; events = h.commands.client; released = h.commands.released };
}

-- what is kept of a track follows a turn of its client
pub turn_told : (ops : List Op) (j k : TrackJudge) (t : TrackTold) (calls : List ClientCall) → IsTrackOf ops j t → KeepsTrack ops k (after_calls (sides_of t) calls) → SameServers j k → IsTrackOf ops k (run.called_in_turn calls t)
turn_told ops j k t calls h keeps same =
    let after = after_calls (sides_of t) calls in
    let grow = grow-calls (sides_of t) calls in
    let sides : sides_kept (sides_of (run.called_in_turn calls t)) ≡ sides_kept after =
    ap (λ (x : Side × Side). sides_kept (record after { stream = x.0; commands = x.1 })) (λ i. (side-is t.stream after.stream grow.stream i, side-is t.commands after.commands grow.commands i)) in
    record {
      client = record { client = keeps.client.client; sides = keeps.client.sides ∙ sym sides };
      stream = block-is j.stream k.stream t.stream after.stream grow.stream h.stream keeps.stream same.stream;
      commands = block-is j.commands k.commands t.commands after.commands grow.commands h.commands keeps.commands same.commands;
    }

-- a client's turn keeps its file
calls-file : (t : Track) (calls : List ClientCall) → (fold after_call t calls).file ≡ t.file
calls-file t [] = refl
calls-file t (c ∷ calls) = calls-file (after_call t c) calls ∙ call-file (is_of_commands c)
  where
    call-file : (b : Bool) → (if b then record t { commands = called c (released_by t c) t.commands } else record t { stream = called c (released_by t c) t.stream }).file ≡ t.file
    call-file true = refl
    call-file false = refl

-- the client's sides after a turn
pub sides_called : (t : TrackTold) (calls : List ClientCall) → sides_of (run.called_in_turn calls t) ≡ after_calls (sides_of t) calls
sides_called t calls =
    let after = after_calls (sides_of t) calls in
    let grow = grow-calls (sides_of t) calls in
    λ i. record { file = sym (calls-file (sides_of t) calls) i; client = after.client; stream = side-is t.stream after.stream grow.stream i; commands = side-is t.commands after.commands grow.commands i }

-- the shapes stay
pub shapes_called : (t : Track) (calls : List ClientCall) → ((after_calls t calls).stream.shape ≡ t.stream.shape) × ((after_calls t calls).commands.shape ≡ t.commands.shape)
shapes_called t calls = let g = grow-calls t calls in (g.stream.shape, g.commands.shape)
