-- A call of a proxy, as one of its party.
use Rattle.std.proofs.Common.{◌≡◌, ℕ, ◌≤◌, Bool, true, false, if◌then◌else◌, List, map, take, drop, length, refl, ap, sym, ◌∙◌, subst, arith}
use Rattle.af_party.proofs.Common.{AnswersOn, Client, ClientCall, ClientState, Frame, IsClientOf, Made, Side, Track, called, drop-map, false≢true, is_of_commands, is_write, released_by, take-map, take-take, true≢false, with_call}
use Rattle.af_base.specs.declared.event.ClientCall.TheVariants as call
use Rattle.af_base.specs.Sample.{packed_word}
use Rattle.af_party.specs.Asking.{Asked, HasBlocks, Makes, grown_by, track_with, written_by}
use Rattle.af_party.specs.Parties.{PartyState}

-- ## What a call grows

stream-grown : (a : ClientCall) → is_of_commands a ≡ false → grown_by a ≡ written_by a
stream-grown (call.Sent front code argument) h = absurd (true≢false h)
stream-grown (call.Put front count) h = refl
stream-grown _ h = refl

-- ## The two sides

-- a track with other sides of its blocks
abbrev with_stream : Track → Side → Track
with_stream t b = record t { stream = b }

abbrev with_commands : Track → Side → Track
with_commands t b = record t { commands = b }

on_stream : (t : Track) (a : ClientCall) → is_of_commands a ≡ false → with_call t a ≡ with_stream t (called a (released_by t a) t.stream)
on_stream t a h = ap (λ (b : Bool). if b then with_commands t (called a (released_by t a) t.commands) else with_stream t (called a (released_by t a) t.stream)) h

-- a call on the stream's block
pub made_on_stream : (file : List Frame) (asked : ℕ) (answer : ClientCall) (words : List ℕ) (p : PartyState) (d : ClientState) → Asked false asked answer words p.stream d
    → ((c : Client) → released_by (track_with c file p) answer ≡ words) → Makes file answer p (record p { stream = d })
made_on_stream file asked answer words p d does spelled = record {
  same = refl;
  sides = λ c. let t : Track = track_with c file p in
      ap (with_stream t) does.grows ∙ ap (λ (ws : List ℕ). with_stream t (called answer ws t.stream)) (sym (spelled c)) ∙ sym (on_stream t answer does.on);
  flushes = does.flushes;
  written = omega (arith, does.released, stream-grown answer does.on);
  commands = omega arith;
}

-- ## The blocks

-- the stream's proxy alone changed
pub blocks_stream : (stream command : Made) (p q : PartyState) → q ≡ (record p { stream = q.stream }) → HasBlocks stream command p → IsClientOf stream q.stream → HasBlocks stream command q
blocks_stream stream command p q same old new = (new, subst (IsClientOf command) (sym (ap (λ (x : PartyState). x.command) same)) old.1)

-- the command proxy alone changed
pub blocks_command : (stream command : Made) (p q : PartyState) → q ≡ (record p { command = q.command }) → HasBlocks stream command p → IsClientOf command q.command → HasBlocks stream command q
blocks_command stream command p q same old new = (subst (IsClientOf stream) (sym (ap (λ (x : PartyState). x.stream) same)) old.0, new)

-- ## The words of a write

-- a write puts no more than it was given
pub few_written : (b : Side) (asked : ℕ) (a : ClientCall) → AnswersOn b asked a → written_by a ≤ asked
few_written b asked (call.Put front count) h = omega (arith, h.2)
few_written b asked _ h = omega arith

-- the words that a write releases are those of the frames that it was given
pub write_words : (t : Track) (file frames : List Frame) (count : ℕ) (a : ClientCall) → is_write a ≡ true → t.file ≡ map packed_word file → frames ≡ take count (drop (length t.stream.released) file)
    → written_by a ≤ count → released_by t a ≡ map packed_word (take (written_by a) frames)
write_words t file frames count (call.Put front n) h is given few =
    ap (λ (ws : List ℕ). take n (drop (length t.stream.released) ws)) is ∙ ap (take n) (drop-map packed_word (length t.stream.released) file) ∙ take-map packed_word n (drop (length t.stream.released) file)
    ∙ ap (map packed_word) (sym (take-take n count (drop (length t.stream.released) file) few) ∙ ap (take n) (sym given))
write_words t file frames count (call.Sent front code argument) h is given few = absurd (false≢true h)
write_words t file frames count _ h is given few = refl
