use Rattle.std.proofs.Common.{◌≡◌, inr, ◌+◌, ◌-◌, ◌∙◌, true, sym, ap, subst, arith}
use Rattle.std.specs.Str.{all_ascii_digits}
use Rattle.std.specs.Str.Parse.{digits_value}
use Rattle.json_grammar.specs.Given.{piece}
use Rattle.json_text.proofs.Integers.{counted_digits}
use Rattle.json_text.proofs.LongDigits.{not_digits}
use Rattle.json_text.proofs.integer.read_digits.Goals as goal

pub returns-then-digits-eq-BLOCK-clause-unread : goal.returns-then-digits-eq-BLOCK-clause-unread
returns-then-digits-eq-BLOCK-clause-unread c = λ _.
    let d = c.digits_in_block-digits in
    inr (counted_digits c.args.bytes.now c.args.from 16 d.result (omega arith) (omega arith) d.ensures.each)

pub returns-then-digits-count-clause-none : goal.returns-then-digits-count-clause-none
returns-then-digits-count-clause-none c = λ _.
    let d = c.digits_in_block-digits in
    not_digits c.args.bytes.now c.args.from (c.args.from + d.result) c.args.end (omega arith) (omega arith) c.requires.within (d.ensures.stop (omega arith))

pub block_value-requires-clause-digits : goal.block_value-requires-clause-digits
block_value-requires-clause-digits c =
    let d = c.digits_in_block-digits in
    counted_digits c.args.bytes.now c.args.from (c.args.end - c.args.from) d.result (omega arith) (omega arith) d.ensures.each

pub returns-clause-value : goal.returns-clause-value
returns-clause-value c = λ v e.
    let d = c.digits_in_block-digits in
    let b = c.args.bytes.now in
    let f : c.block_value.result ≡ v = cc in
    let s : c.args.from + (c.args.end - c.args.from) ≡ c.args.end = omega arith in
    let n = counted_digits b c.args.from (c.args.end - c.args.from) d.result (omega arith) (omega arith) d.ensures.each in (
      subst (λ j. all_ascii_digits (piece b c.args.from j) ≡ true) s n,
      sym f ∙ c.block_value.ensures ∙ ap (λ j. digits_value 10 (piece b c.args.from j)) s,
    )
