-- What is kept of a track after a call and after a turn.
use Rattle.std.proofs.Common.{◌≡◌, inl, inr, ne_eqb, ℕ, ◌+◌, ◌-◌, ◌<◌, ◌≤◌, ◌==◌, MatchBool, fold, arith, get_or, Bool, true, false, if◌then◌else◌, is_some, List, [], ◌∷◌, ◌++◌, length, take, drop, map, refl, ap, sym, ◌∙◌, subst}
use Rattle.af_judge.proofs.Common.{Client, ClientCall, ClientEvent, Frame, LegalClientTurn, Op, Side, Track, after_call, after_calls, at_next_turn, begun, called, client_call_events, client_kept, drop-map, is_of_commands, most_calls, next_want, packed_word, released_by, take-map, take_more, wanted_of}
use Rattle.af_base.specs.declared.event.ClientCall.TheVariants as call
use Rattle.af_runs.specs.Kept.{client_of}
use Rattle.af_judge.specs.declared.track_judge.TrackJudge.{TrackJudge}
use Rattle.af_judge.specs.Blocks.{BlockJudged, client_more, released_more}
use Rattle.af_judge.specs.Judging.{ClientJudged, SidesKept, kept_for, sides_kept}
use Rattle.af_judge.specs.Tracks.{AreMade, Ends, EndsTurn, IsCallOf, IsSideOf, KeepsTrack, Makes, SameServers, TurnEnds, blocks_told, ended_after, words_by}
use Rattle.af_judge.proofs.TurnCalls.{fold_more, made_at, made_more, turn_makes, turn_of}

-- the frames of a list from a place on
pub words_from : (frames : List Frame) (at count : ℕ) → map packed_word (take count (drop at frames)) ≡ take count (drop at (map packed_word frames))
words_from frames at count = sym (ap (take count) (drop-map packed_word at frames) ∙ take-map packed_word count (drop at frames))

words-released : (t : Track) (answer : ClientCall) → words_by (length t.stream.released) t.file answer ≡ released_by t answer
words-released t (call.Put front count) = refl
words-released t _ = refl

side-more : (b : BlockJudged) (s : Side) (answer : ClientCall) (was_shut : Bool) (words more : List ℕ) → IsSideOf b s → was_shut ≡ is_some (client_kept s.shape.frames s.shape.base s.events).shut → words ≡ more
    → IsSideOf (released_more words (client_more (client_call_events was_shut answer) b)) (called answer more s)
side-more b s answer was_shut words more h shut is = record {
  shape = h.shape;
  events = ap (λ (x : List ClientEvent × Bool). x.0 ++ client_call_events x.1 answer) (λ i. (h.events i, shut i));
  released = ap (λ (x : List ℕ × List ℕ). x.0 ++ x.1) (λ i. (h.released i, is i));
}

-- the client's sides of both blocks
pub record AreSides (j : TrackJudge) (t : Track) : Type 0 where
  pub stream : IsSideOf j.stream t.stream
  pub commands : IsSideOf j.commands t.commands

sides-by : (of_commands : Bool) (t : Track) (answer : ClientCall) (j : TrackJudge) (was_shut : Bool) (words more : List ℕ) → AreSides j t → words ≡ more
    → was_shut ≡ is_some ((if of_commands then (sides_kept t).commands else (sides_kept t).stream).kept.shut)
    → AreSides (let told : BlockJudged → BlockJudged = λ b. released_more words (client_more (client_call_events was_shut answer) b) in if of_commands then record j { commands = told j.commands } else record j { stream = told j.stream })
    (if of_commands then record t { commands = called answer more t.commands } else record t { stream = called answer more t.stream })
sides-by true t answer j was_shut words more h is shut = record { stream = h.stream; commands = side-more j.commands t.commands answer was_shut words more h.commands shut is }
sides-by false t answer j was_shut words more h is shut = record { stream = side-more j.stream t.stream answer was_shut words more h.stream shut is; commands = h.commands }

-- the blocks after a call
pub sides_told : (t : Track) (answer : ClientCall) (sides : SidesKept) (j k : TrackJudge) (file : List ℕ) (was_shut : Bool) (released : ℕ) → t.file ≡ file → AreSides j t → sides ≡ sides_kept t
    → was_shut ≡ is_some (kept_for sides answer).kept.shut → released ≡ sides.stream.words → k ≡ blocks_told was_shut released file answer j → AreSides k (after_call t answer)
sides_told t answer sides j k file was_shut released file_is h kept shut words told =
    let words_is : words_by released file answer ≡ released_by t answer =
    ap (λ (x : ℕ × List ℕ). words_by x.0 x.1 answer) (λ i. ((words ∙ ap (λ (s : SidesKept). s.stream.words) kept) i, (sym file_is) i)) ∙ words-released t answer in
    let shut_is : was_shut ≡ is_some (kept_for (sides_kept t) answer).kept.shut = shut ∙ ap (λ (s : SidesKept). is_some (kept_for s answer).kept.shut) kept in
    let made = sides-by (is_of_commands answer) t answer j was_shut (words_by released file answer) (released_by t answer) h words_is shut_is in
    let both : AreSides (blocks_told was_shut released file answer j) (after_call t answer) = record { stream = made.stream; commands = made.commands } in
    subst (λ (x : TrackJudge). AreSides x (after_call t answer)) (sym told) both

-- ## The end of a turn

-- what is kept of a client that ended its turn since nothing was wanted
pub rest_kept : (ops : List Op) (j : TrackJudge) (d : ClientJudged) (t : Track) (count : ℕ) → KeepsTrack ops j t → (count == 64) ≡ false → client_of ops d.client ≡ at_next_turn false (client_of ops j.client.client) → d.sides ≡ j.client.sides
    → KeepsTrack ops (record j { client = d }) (ended_after count t)
rest_kept ops j d t count h short client sides =
    record {
      client = record {
        client = client ∙ ap (λ (x : Bool × Client). at_next_turn x.0 x.1) (λ i. ((sym short) i, h.client.client i));
        sides = sides ∙ h.client.sides;
      };
      stream = h.stream;
      commands = h.commands;
    }

-- what is wanted of the track is what is wanted of what is kept
pub wants_kept : (ops : List Op) (j : TrackJudge) (t : Track) → KeepsTrack ops j t → next_want (begun (client_of ops j.client.client)) ≡ wanted_of t
wants_kept ops j t h = ap (λ (c : Client). next_want (begun c)) h.client.client

-- a turn that isn't cut ends if nothing is wanted
pub rests : (b : Bool) (count : ℕ) (ops : List Op) (j : TrackJudge) (d : ClientJudged) (t : Track) → count ≤ 64 → (count ≡ 64 → ⊥) → EndsTurn b ops j.client d → KeepsTrack ops j t
    → MatchBool b (Ends (most_calls - count) t × KeepsTrack ops (record j { client = d }) (ended_after count t)) (Ends (most_calls - count) t → ⊥)
rests true count ops j d t few short ends h = (inr (sym (wants_kept ops j t h) ∙ ends.0), rest_kept ops j d t count h (ne_eqb count 64 short) ends.1 ends.2)
rests false count ops j d t few short ends h = λ (e : Ends (most_calls - count) t). elim e [ inl none ↦ short (omega (arith, few, none)) | inr none ↦ ends (wants_kept ops j t h ∙ none) ]

-- ## The file

file-by : (b : Bool) (t : Track) (s d : Side) → (if b then record t { commands = s } else record t { stream = d }).file ≡ t.file
file-by true t s d = refl
file-by false t s d = refl

-- a call leaves the file as it is
pub after_call-file : (t : Track) (answer : ClientCall) → (after_call t answer).file ≡ t.file
after_call-file t answer = file-by (is_of_commands answer) t (called answer (released_by t answer) t.commands) (called answer (released_by t answer) t.stream)

pub fold-file : (t : Track) (calls : List ClientCall) → (fold after_call t calls).file ≡ t.file
fold-file t [] = refl
fold-file t (c ∷ calls) = fold-file (after_call t c) calls ∙ after_call-file t c

-- one call more is made
pub makes_more : (ops : List Op) (file : List ℕ) (calls : List ClientCall) (at : ℕ) (answer d : ClientCall) (j k l : TrackJudge) → at < length calls → answer ≡ get_or calls at d
    → ((t : Track) → t.file ≡ file → KeepsTrack ops j t → AreMade t (take at calls) × KeepsTrack ops k (fold after_call t (take at calls)))
    → ((t : Track) → t.file ≡ file → KeepsTrack ops k t → IsCallOf t answer × KeepsTrack ops l (after_call t answer))
    → (t : Track) → t.file ≡ file → KeepsTrack ops j t → AreMade t (take (at + 1) calls) × KeepsTrack ops l (fold after_call t (take (at + 1) calls))
makes_more ops file calls at answer d j k l inside is before one t long h =
    let sofar = take at calls in
    let b = before t long h in
    let o = one (fold after_call t sofar) (fold-file t sofar ∙ long) b.1 in
    let more : take (at + 1) calls ≡ sofar ++ answer ∷ [] = take_more calls at d inside ∙ ap (λ (a : ClientCall). sofar ++ a ∷ []) (sym is) in
    let P : List ClientCall → Type 0 = λ cs. AreMade t cs × KeepsTrack ops l (fold after_call t cs) in
    let K : Track → Type 0 = λ u. KeepsTrack ops l u in
    subst P (sym more) (made_more t sofar answer b.0 o.0, subst K (sym (fold_more t sofar answer)) o.1)

-- a call that isn't made
pub makes_none : (ops : List Op) (file : List ℕ) (calls : List ClientCall) (at : ℕ) (answer d : ClientCall) (j k : TrackJudge) → at < length calls → answer ≡ get_or calls at d
    → ((t : Track) → t.file ≡ file → KeepsTrack ops j t → AreMade t (take at calls) × KeepsTrack ops k (fold after_call t (take at calls)))
    → ((t : Track) → t.file ≡ file → KeepsTrack ops k t → IsCallOf t answer → ⊥)
    → (t : Track) → t.file ≡ file → KeepsTrack ops j t → AreMade t calls → ⊥
makes_none ops file calls at answer d j k inside is before none t long h made =
    let sofar = take at calls in
    none (fold after_call t sofar) (fold-file t sofar ∙ long) (before t long h).1 (made_at t calls at answer d inside is made)

-- ## The turn

-- calls that are made and end are a turn
pub turn_made : (ops : List Op) (file : List ℕ) (calls : List ClientCall) (b : Bool) (j k l : TrackJudge) → length calls ≤ 64 → Makes true ops file calls j k → TurnEnds b (length calls) ops k l
    → (t : Track) → t.file ≡ file → KeepsTrack ops j t → MatchBool b (LegalClientTurn t calls × KeepsTrack ops l (after_calls t calls)) (LegalClientTurn t calls → ⊥)
turn_made ops file calls true j k l few makes ends t long h =
    let m = makes t long h in
    let e = ends (fold after_call t calls) m.1 in
    (turn_of t calls (record { made = m.0; few = few; ends = e.0 }), e.1)
turn_made ops file calls false j k l few makes ends t long h = λ (legal : LegalClientTurn t calls).
    let m = makes t long h in
    ends (fold after_call t calls) m.1 (turn_makes t calls legal).ends

-- more calls than a turn has are none
pub turn_long : (t : Track) (calls : List ClientCall) → 64 < length calls → LegalClientTurn t calls → ⊥
turn_long t calls long legal = let f = (turn_makes t calls legal).few in omega (arith, long, f)

-- calls of which one isn't made are none
pub turn_unmade : (ops : List Op) (file : List ℕ) (calls : List ClientCall) (j k : TrackJudge) → Makes false ops file calls j k → (t : Track) → t.file ≡ file → KeepsTrack ops j t → LegalClientTurn t calls → ⊥
turn_unmade ops file calls j k none t long h legal = none t long h (turn_makes t calls legal).made

-- ## The servers

-- the servers are the same after both
pub same_trans : (i j k : TrackJudge) → SameServers i j → SameServers j k → SameServers i k
same_trans i j k one two = record {
  stream = two.stream ∙ ap (λ (b : BlockJudged). let x : BlockJudged = record b { client = k.stream.client; released = k.stream.released } in x) one.stream;
  commands = two.commands ∙ ap (λ (b : BlockJudged). let x : BlockJudged = record b { client = k.commands.client; released = k.commands.released } in x) one.commands;
}
