use Rattle.std.proofs.Common.{rules, ◌≡◌, ◌∙◌, ap, sym, subst, List, ◌+◌, ◌<◌, ◌≤◌, ◌∷◌, [], ◌++◌, All, map, length, arith, refl}
use Rattle.af_journal.proofs.Common.{IsTake, TakeSeen, count_seen, flat_map, length-map, map_last, packed_word, take_seen}
use Rattle.af_base.specs.declared.turn.NormalTake.{NormalTake}
use Rattle.af_journal.specs.declared.line.Line.TheVariants as line
use Rattle.af_journal.specs.Lines.{numbers}
use Rattle.af_journal.specs.Ranges.{IsLine}
use Rattle.af_journal.specs.Taken.{Leaves}
use Rattle.af_journal.specs.Texts.{take_lines, words_after}
use Rattle.af_journal.proofs.Leaving.{all-more, leaves-more, leaves-then}
use Rattle.af_journal.proofs.LinesLeft.{seen_is}
use Rattle.af_journal.proofs.Rising.{RiseTo, rise-all, rise-few, rise-more}
use Rattle.af_journal.proofs.turn_reading.read_takes.Goals as goal

pub push-requires : goal.push-requires
push-requires c =
    let few = rise-few 0 c.takes.low (map take_seen c.takes.takes.items) c.takes.invariant.rise in
    let count = length-map c.takes.takes.items take_seen in
    let low : c.takes.low ≤ c.in-Some-Take-default.track = search rules in
    let track : c.in-Some-Take-default.track < c.args.tracks = search rules in
    record { room = omega (arith, few, count, low, track, c.takes.invariant.room) }

pub takes-preserved : goal.takes-preserved
takes-preserved c =
    let x = c.in-Some-Take-default in
    let tracks = c.args.tracks in
    let takes = c.takes.takes.items in
    let first = c.args.left.now.rest.now in
    let before = c.takes.left.rest.now in
    let after = c.read_frames.new.left.rest.now in
    let frames = c.in_ok-frames.frames.items in
    let t : TakeSeen = record { track = x.track; slot = record { gains = x.gains; flush = x.flush; rear = x.rear; seen = x.seen; first = 0 }; frames = frames } in
    let item : NormalTake = record { track = x.track; slot = t.slot; frames = c.in_ok-frames.frames } in
    let items : c.push.new.self.items ≡ takes ++ item ∷ [] = search rules in
    let seen : map take_seen c.push.new.self.items ≡ map take_seen takes ++ t ∷ [] = ap (λ (l : List NormalTake). map take_seen l) items ∙ map_last take_seen takes item in
    let one : Leaves before (numbers (line.Take x.track x.gains x.flush x.rear x.seen) ∷ []) x.after.now = search rules in
    let two : Leaves x.after.now (words_after (map packed_word frames)) after = search rules in
    let fits : IsLine (line.Take x.track x.gains x.flush x.rear x.seen) = search rules in
    let low : c.takes.low ≤ x.track = search rules in
    let below : x.track < tracks = search rules in
    let count : length frames ≡ count_seen x.seen = search rules in
    let is : IsTake tracks t = record { track = below; look = seen_is x.seen fits.1; first = refl; frames = count; samples = c.in_ok-frames.ensures.samples } in
    record {
      lines = subst (λ (l : List TakeSeen). Leaves first (flat_map take_lines l) after) (sym seen)
          (leaves-more take_lines first before after (map take_seen takes) t c.takes.invariant.lines (leaves-then before x.after.now after (numbers (line.Take x.track x.gains x.flush x.rear x.seen) ∷ []) (words_after (map packed_word frames)) one two));
      form = subst (λ (l : List TakeSeen). All (IsTake tracks) l) (sym seen) (all-more (IsTake tracks) (map take_seen takes) t c.takes.invariant.form is);
      rise = subst (λ (l : List TakeSeen). RiseTo 0 (x.track + 1) l) (sym seen) (rise-more 0 c.takes.low (map take_seen takes) t c.takes.invariant.rise low);
      room = search rules;
      below = omega (arith, below);
    }

pub returns-clause-rise : goal.returns-clause-rise
returns-clause-rise c = rise-all 0 c.takes.low (map take_seen c.takes.takes.items) c.takes.invariant.rise
