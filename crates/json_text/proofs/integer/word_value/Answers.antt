use Rattle.std.proofs.Common.{arith}
use Rattle.json_text.proofs.DigitWords.{digits_in_word, fits_less, fits_pairs, value_of_pairs}
use Rattle.json_text.proofs.integer.word_value.Goals as goal

pub overflow_sub-digits : goal.overflow_sub-digits
overflow_sub-digits c =
    let r = digits_in_word c.args.bytes.now c.args.from c.args.count c.from_be_bytes-word.result c.type_inv.bytes c.requires.few.1 (omega arith) c.requires.digits c.from_be_bytes-word.ensures in
    fits_less _ _ _ r

pub overflow_add-pairs : goal.overflow_add-pairs
overflow_add-pairs c =
    let r = digits_in_word c.args.bytes.now c.args.from c.args.count c.from_be_bytes-word.result c.type_inv.bytes c.requires.few.1 (omega arith) c.requires.digits c.from_be_bytes-word.ensures in
    let p = fits_pairs _ _ _ r in
    omega arith

pub returns : goal.returns
returns c =
    let r = digits_in_word c.args.bytes.now c.args.from c.args.count c.from_be_bytes-word.result c.type_inv.bytes c.requires.few.1 (omega arith) c.requires.digits c.from_be_bytes-word.ensures in
    value_of_pairs _ _ _ r
