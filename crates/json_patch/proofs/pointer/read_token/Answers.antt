use Rattle.std.proofs.Common.{rules, string_bytes, arith, ap, ◌∙◌, ◌++◌, ◌∷◌, []}
use Rattle.std.proofs.lemmas.Str.{encode_ascii}
use Rattle.std.proofs.lemmas.Str.Pattern.{split_parts, strip_prefix_char}
use Rattle.json_patch.proofs.PointerParsing.{tilde_read, slash_read, other_refused, rest_read}
use Rattle.json_patch.proofs.pointer.read_token.Goals as goal

pub tildes-preserved-in-Some-strip_prefix : goal.tildes-preserved-in-Some-strip_prefix
tildes-preserved-in-Some-strip_prefix c =
    let parts = rw c.in-Some.is at (split_parts 126 c.tildes.remaining.now c.split_once.result c.split_once.ensures.cases (omega arith)) in
    let zero = rw c.in-Some-strip_prefix.is at (strip_prefix_char 48 c.in-Some.after.now c.strip_prefix.result c.strip_prefix.ensures.cases (omega arith)) in (
      search rules,
      tilde_read c.args.part.now (string_bytes c.tildes.token) c.tildes.remaining.now c.in-Some.plain.now c.in-Some.after.now _ _ c.tildes.invariant.1 parts.0 parts.1 zero
          (c.in_ok-push.ensures.bytes ∙ ap (λ s. string_bytes c.push_str.new.self ++ s) (encode_ascii 126 (omega arith)) ∙ ap (λ s. s ++ (126 ∷ [])) c.in_ok-push_str.ensures.bytes),
    )

pub tildes-preserved : goal.tildes-preserved
tildes-preserved c =
    let parts = rw c.in-Some.is at (split_parts 126 c.tildes.remaining.now c.split_once.result c.split_once.ensures.cases (omega arith)) in
    let one = rw c.in-Some-strip_prefix-2.is at (strip_prefix_char 49 c.in-Some.after.now c.strip_prefix-in_default-strip_prefix.result c.strip_prefix-in_default-strip_prefix.ensures.cases (omega arith)) in (
      search rules,
      slash_read c.args.part.now (string_bytes c.tildes.token) c.tildes.remaining.now c.in-Some.plain.now c.in-Some.after.now _ _ c.tildes.invariant.1 parts.0 parts.1 one
          (c.in_ok-push-2.ensures.bytes ∙ ap (λ s. string_bytes c.push_str.new.self ++ s) (encode_ascii 47 (omega arith)) ∙ ap (λ s. s ++ (47 ∷ [])) c.in_ok-push_str.ensures.bytes),
    )

pub returns-in_default-strip_prefix-2-clause-refused : goal.returns-in_default-strip_prefix-2-clause-refused
returns-in_default-strip_prefix-2-clause-refused c =
    let parts = rw c.in-Some.is at (split_parts 126 c.tildes.remaining.now c.split_once.result c.split_once.ensures.cases (omega arith)) in
    let no_zero = rw c.in_default-strip_prefix.is at (strip_prefix_char 48 c.in-Some.after.now c.strip_prefix.result c.strip_prefix.ensures.cases (omega arith)) in
    let no_one = rw c.in_default-strip_prefix-2.is at (strip_prefix_char 49 c.in-Some.after.now c.strip_prefix-in_default-strip_prefix.result c.strip_prefix-in_default-strip_prefix.ensures.cases (omega arith)) in
    rw c.bad_pointer.ensures (other_refused c.args.part.now (string_bytes c.tildes.token) c.tildes.remaining.now c.in-Some.plain.now c.in-Some.after.now c.tildes.invariant.1 parts.0 parts.1 no_zero no_one)

pub returns-clause-ok : goal.returns-clause-ok
returns-clause-ok c =
    let none = rw c.in_default.is at (split_parts 126 c.tildes.remaining.now c.split_once.result c.split_once.ensures.cases (omega arith)) in
    rest_read c.args.part.now (string_bytes c.tildes.token) c.tildes.remaining.now _ c.tildes.invariant.1 none c.in_ok-push_str-2.ensures.bytes
