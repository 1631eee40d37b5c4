use Rattle.std.proofs.Common.{rules, arith, ap, ◌∙◌, false, map, string_bytes}
use Rattle.std.proofs.lemmas.List.{map_push}
use Rattle.std.proofs.lemmas.Result.{err_from_is_err_and}
use Rattle.std.proofs.lemmas.Str.Pattern.{split_parts}
use Rattle.json_patch.specs.Pointer.{unescaped_after, unescaped_tokens, split_at_slashes}
use Rattle.json_patch.proofs.Errors.{pointer_fails_as}
use Rattle.json_patch.proofs.PointerParsing.{part_read, part_refused, last_read, last_refused}
use Rattle.json_patch.proofs.pointer.read_tokens.Goals as goal

pub returns-in_err-token-clause-refused : goal.returns-in_err-token-clause-refused
returns-in_err-token-clause-refused c =
    let parts = rw c.in-Some.is at (split_parts 47 c.parts.remaining.now c.split_once.result c.split_once.ensures.cases (omega arith)) in
    let p = err_from_is_err_and c.from_residual.result c.from_residual.ensures.1 in
    rw (p.1, p.2)
    (
    pointer_fails_as (unescaped_after false c.in-Some.part.now) (unescaped_tokens (split_at_slashes c.args.parts.now))
    (part_refused c.args.parts.now c.parts.remaining.now c.in-Some.part.now c.in-Some.after.now (map string_bytes c.parts.tokens.items) c.parts.invariant.1 parts.0 parts.1) _ _ c.in_err-token.ensures.refused
    )

pub parts-preserved : goal.parts-preserved
parts-preserved c =
    let parts = rw c.in-Some.is at (split_parts 47 c.parts.remaining.now c.split_once.result c.split_once.ensures.cases (omega arith)) in (
      search rules,
      part_read c.args.parts.now c.parts.remaining.now c.in-Some.part.now c.in-Some.after.now (map string_bytes c.parts.tokens.items) _ (string_bytes c.in_ok-token.token) c.parts.invariant.1 parts.0 parts.1 c.in_ok-token.ensures.ok
          (ap (map string_bytes) c.in_ok-push.ensures.items ∙ map_push string_bytes c.parts.tokens.items c.in_ok-token.token),
    )

pub returns-in_err-last-clause-refused : goal.returns-in_err-last-clause-refused
returns-in_err-last-clause-refused c =
    let none = rw c.in_default.is at (split_parts 47 c.parts.remaining.now c.split_once.result c.split_once.ensures.cases (omega arith)) in
    let p = err_from_is_err_and c.from_residual-in_err-last.result c.from_residual-in_err-last.ensures.1 in
    rw (p.1, p.2)
    (
    pointer_fails_as (unescaped_after false c.parts.remaining.now) (unescaped_tokens (split_at_slashes c.args.parts.now)) (last_refused c.args.parts.now c.parts.remaining.now (map string_bytes c.parts.tokens.items) c.parts.invariant.1 none) _ _
    c.in_err-last.ensures.refused
    )

pub returns-clause-ok : goal.returns-clause-ok
returns-clause-ok c =
    let none = rw c.in_default.is at (split_parts 47 c.parts.remaining.now c.split_once.result c.split_once.ensures.cases (omega arith)) in
    last_read c.args.parts.now c.parts.remaining.now (map string_bytes c.parts.tokens.items) _ (string_bytes c.in_ok-last.last) c.parts.invariant.1 none c.in_ok-last.ensures.ok
    (ap (map string_bytes) c.in_ok-push-2.ensures.items ∙ map_push string_bytes c.parts.tokens.items c.in_ok-last.last)
