use Rattle.std.proofs.Common.{rules, string_bytes, arith, ap, ◌∙◌, ◌++◌, ◌∷◌, [], refl}
use Rattle.std.proofs.lemmas.Str.Pattern.{split_parts}
use Rattle.json_value.proofs.AppliedTrees.{anyway}
use Rattle.json_patch.proofs.PointerWriting.{slash_escaped, end_escaped, front_stays, plain_front, slash_front, front_none}
use Rattle.json_patch.specs.Pointer.{escaped_token}
use Rattle.json_patch.proofs.pointer.push_slashes.Goals as goal

pub slashes-init : goal.slashes-init
slashes-init c = (search rules, c.requires, refl, front_none (string_bytes c.args.text.now) (escaped_token c.args.part.now))

pub slashes-preserved : goal.slashes-preserved
slashes-preserved c =
    let parts = rw c.in-Some.is at (split_parts 47 c.slashes.remaining.now c.split_once.result c.split_once.ensures.cases (omega arith)) in
    let text = c.in_ok-push_str-2.ensures.bytes ∙ ap (λ s. s ++ (126 ∷ 49 ∷ [])) c.in_ok-push_str.ensures.bytes in
    let h = slash_escaped _ (string_bytes c.slashes.text) c.slashes.remaining.now c.in-Some.plain.now c.in-Some.after.now _ c.slashes.invariant.2 parts.0 c.slashes.invariant.1 parts.1 text in (
      search rules,
      h.1,
      h.0,
      slash_front _ (string_bytes c.slashes.text) _ c.slashes.remaining.now c.in-Some.plain.now c.in-Some.after.now c.slashes.invariant.3 parts.0 c.slashes.invariant.1 parts.1 _ text,
    )

pub returns-in_err-push_str-clause-kept : goal.returns-in_err-push_str-clause-kept
returns-in_err-push_str-clause-kept c = anyway _ (front_stays _ (string_bytes c.slashes.text) _ _ _ c.slashes.invariant.3 c.in_err-push_str.ensures.bytes)

pub returns-in_err-push_str-2-clause-kept : goal.returns-in_err-push_str-2-clause-kept
returns-in_err-push_str-2-clause-kept c =
    let parts = rw c.in-Some.is at (split_parts 47 c.slashes.remaining.now c.split_once.result c.split_once.ensures.cases (omega arith)) in
    anyway _ (front_stays _ _ _ _ _ (plain_front _ (string_bytes c.slashes.text) _ c.slashes.remaining.now c.in-Some.plain.now c.in-Some.after.now c.slashes.invariant.3 parts.0 c.slashes.invariant.1 parts.1) (c.in_err-push_str-2.ensures.bytes ∙ c.in_ok-push_str.ensures.bytes))

pub returns-in_err-push_str-3-clause-kept : goal.returns-in_err-push_str-3-clause-kept
returns-in_err-push_str-3-clause-kept c = anyway _ (front_stays _ (string_bytes c.slashes.text) _ _ _ c.slashes.invariant.3 c.in_err-push_str-3.ensures.bytes)

pub returns-clause-ok : goal.returns-clause-ok
returns-clause-ok c =
    let none = rw c.in_default.is at (split_parts 47 c.slashes.remaining.now c.split_once.result c.split_once.ensures.cases (omega arith)) in
    end_escaped _ (string_bytes c.slashes.text) c.slashes.remaining.now _ c.slashes.invariant.2 c.slashes.invariant.1 none c.in_ok-push_str-3.ensures.bytes
