use Rattle.af_journal.proofs.Rows.{eight-digits}
use Rattle.af_journal.proofs.packed.digits_of.Goals as goal

pub returns : goal.returns
returns c = eight-digits c.args.word c.to_be_bytes.result _ _ _ _ _ _ _ _ c.to_be_bytes.ensures c.digit_of.ensures c.digit_of-2.ensures c.digit_of-3.ensures c.digit_of-4.ensures c.digit_of-5.ensures c.digit_of-6.ensures c.digit_of-7.ensures c.digit_of-8.ensures
