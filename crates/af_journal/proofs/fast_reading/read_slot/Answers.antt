use Rattle.std.proofs.Common.{rules, ◌≡◌, inr, ◌∷◌, [], length, map}
use Rattle.af_journal.proofs.Common.{IsSeen, count_seen, packed_word, place_of}
use Rattle.af_journal.specs.declared.line.Line.TheVariants as line
use Rattle.af_journal.specs.Lines.{numbers}
use Rattle.af_journal.specs.Mixes.{IsGot, SlotGot}
use Rattle.af_journal.specs.Ranges.{IsLine}
use Rattle.af_journal.specs.Taken.{Leaves}
use Rattle.af_journal.specs.Texts.{words_after}
use Rattle.af_journal.proofs.LinesLeft.{seen_is}
use Rattle.af_journal.proofs.MixReading.{leaves-slot}
use Rattle.af_journal.proofs.fast_reading.read_slot.Goals as goal

pub returns-in_ok-extend_from_slice-in-Some-Slot-default : goal.returns-in_ok-extend_from_slice-in-Some-Slot-default
returns-in_ok-extend_from_slice-in-Some-Slot-default c =
    let x = c.in-Some-Slot-default in
    let frames = c.args.frames.now.items in
    let taken = c.in_ok-taken-in-Some-Slot-default.taken.items in
    let before = c.args.left.now.rest.now in
    let after = c.read_frames.new.left.rest.now in
    let own : x.own ≡ c.args.slot = search rules in
    let one : Leaves before (numbers (line.Slot x.own x.scale x.mono x.gains x.flush x.rear x.seen) ∷ []) x.after.now = search rules in
    let two : Leaves x.after.now (words_after (map packed_word taken)) after = search rules in
    let fits : IsLine (line.Slot x.own x.scale x.mono x.gains x.flush x.rear x.seen) = search rules in
    let seen : IsSeen x.seen = seen_is x.seen fits.3 in
    let first : c.place_of-first.result ≡ place_of (length frames) x.seen = search rules in
    let count : length taken ≡ count_seen x.seen = search rules in
    let g : SlotGot = record { slot = record { gains = x.gains; flush = x.flush; rear = x.rear; seen = x.seen; first = c.place_of-first.result }; scale = x.scale; mono = x.mono; frames = taken } in
    let is : IsGot (length frames) g = record { other = inr seen; first = first; count = count; are = c.in_ok-taken-in-Some-Slot-default.ensures.samples } in
    (taken, is, search rules, leaves-slot before x.after.now after c.args.slot x.own g own seen one two)
