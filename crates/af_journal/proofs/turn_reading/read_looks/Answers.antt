use Rattle.std.proofs.Common.{rules, ◌≡◌, ◌≤◌, ◌∙◌, ap, sym, subst, List, ◌∷◌, [], ◌++◌, length, take}
use Rattle.af_journal.proofs.Common.{All-nil, CommandLook, IsCommandLook}
use Rattle.af_journal.specs.declared.line.Line.TheVariants as line
use Rattle.af_journal.specs.Lines.{numbers}
use Rattle.af_journal.specs.Taken.{Leaves}
use Rattle.af_journal.specs.Texts.{command_words, look_lines, words_after}
use Rattle.af_journal.proofs.Judged.{take-few, take-more, take-none}
use Rattle.af_journal.proofs.Leaving.{all-more, leaves-look, leaves-more, leaves-none}
use Rattle.af_journal.proofs.turn_reading.read_looks.Goals as goal

pub looks-init : goal.looks-init
looks-init c = let none : c.new-looks.result.items ≡ [] = search rules in ([], none ∙ sym (take-none c.args.most), All-nil IsCommandLook, leaves-none c.args.left.now.rest.now)

pub keep-requires : goal.keep-requires
keep-requires c = let inv = c.looks.invariant in subst (λ (l : List CommandLook). length l ≤ c.args.most) (sym inv.1) (take-few c.args.most inv.0)

pub looks-preserved : goal.looks-preserved
looks-preserved c =
    let x = c.in-Some-Look-default in
    let look = c.in_ok-look.look in
    let track = c.args.track in
    let inv = c.looks.invariant in
    let first = c.args.left.now.rest.now in
    let before = c.looks.left.rest.now in
    let after = c.read_command.new.left.rest.now in
    let own : x.own ≡ track = search rules in
    let one : Leaves before (numbers (line.Look x.own x.flush x.rear x.seen) ∷ []) x.after.now = search rules in
    let two : Leaves x.after.now (words_after (command_words look)) after = search rules in
    let is : (look.flush ≡ x.flush) × (look.rear ≡ x.rear) × (look.seen ≡ x.seen) = c.in_ok-look.ensures.look in
    let kept : c.keep.new.looks.items ≡ take c.args.most (c.looks.looks.items ++ look ∷ []) = search rules in (
      inv.0 ++ look ∷ [],
      kept ∙ ap (λ (l : List CommandLook). take c.args.most (l ++ look ∷ [])) inv.1 ∙ take-more c.args.most inv.0 look,
      all-more IsCommandLook inv.0 look inv.2 c.in_ok-look.ensures.form,
      leaves-more (look_lines track) first before after inv.0 look inv.3 (leaves-look before x.after.now after track x.own x.flush x.rear x.seen look own is one two),
    )

pub returns : goal.returns
returns c = let inv = c.looks.invariant in (inv.0, search rules, inv.2, inv.3)
