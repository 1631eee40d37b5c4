use Rattle.std.proofs.Common.{string_bytes, bytes_eq, sym, ◌∙◌, arith, ◌≡◌, length}
use Rattle.json_patch.proofs.Members.{prefix_end, prefix_short, prefix_differs, not_true}
use Rattle.json_patch.proofs.operation.is_prefix.Goals.{then-i-tokens-via-then-i-tokens, then-i-tokens-via-else-i-tokens+then-ne}
use Rattle.json_patch.proofs.operation.is_prefix.Goals as goal

pub returns-then-i-tokens : goal.returns-then-i-tokens
returns-then-i-tokens c =
    let xs = c.args.prefix.now in
    let ys = c.args.tokens.now in
    let i = c.prefix.i in
    elim c.then-i-tokens.branch [
      | then-i-tokens-via-then-i-tokens w ↦ sym (c.prefix.invariant.0 ∙ prefix_short string_bytes xs ys i c.prefix-test.true w.if-i-tokens.true)
      | then-i-tokens-via-else-i-tokens+then-ne w ↦
          let apart = not_true (bytes_eq w.as_str.result.now w.as_str-else-i-tokens.result.now) (sym w.ne.ensures ∙ w.if-ne.true) in
          let differs = rw (w.as_str.ensures.value, w.as_str-else-i-tokens.ensures.value) at apart in
          sym (c.prefix.invariant.0 ∙ prefix_differs string_bytes xs ys i w.index-prefix-i.result c.prefix-test.true w.index-prefix-i.is w.index-tokens-i.result w.if-i-tokens.false w.index-tokens-i.is differs)
    ]

pub returns : goal.returns
returns c =
    let e : c.prefix.i ≡ length c.args.prefix.now = omega (arith, c.prefix-test.false, c.prefix.auto.i-end) in
    sym (c.prefix.invariant.0 ∙ prefix_end string_bytes c.args.prefix.now c.args.tokens.now c.prefix.i e)
