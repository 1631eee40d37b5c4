use Rattle.std.proofs.Common.{rules, string_bytes, arith, ap, ◌∙◌, ◌++◌, ◌∷◌, [], refl}
use Rattle.std.proofs.lemmas.Result.{on_err_weaker}
use Rattle.std.proofs.lemmas.Str.Pattern.{split_parts}
use Rattle.json_value.proofs.AppliedTrees.{anyway}
use Rattle.json_patch.specs.Pointer.{escaped_token}
use Rattle.json_patch.proofs.PointerWriting.{tilde_escaped, front_stays, front_of_piece, piece_next, piece_front, tilde_front, last_piece, front_none}
use Rattle.json_patch.proofs.pointer.push_escaped.Goals as goal

pub push_slashes-requires : goal.push_slashes-requires
push_slashes-requires c = let parts = rw c.in-Some.is at (split_parts 126 c.tildes.remaining.now c.split_once.result c.split_once.ensures.cases (omega arith)) in parts.1

pub tildes-init : goal.tildes-init
tildes-init c = (search rules, refl, front_none (string_bytes c.args.text.now) (escaped_token c.args.token.now))

pub tildes-preserved : goal.tildes-preserved
tildes-preserved c =
    let parts = rw c.in-Some.is at (split_parts 126 c.tildes.remaining.now c.split_once.result c.split_once.ensures.cases (omega arith)) in
    let text = c.in_ok-push_str.ensures.bytes ∙ ap (λ s. s ++ (126 ∷ 48 ∷ [])) c.in_ok-push_slashes.ensures.ok in (
      search rules,
      tilde_escaped _ (string_bytes c.tildes.text) c.tildes.remaining.now c.in-Some.plain.now c.in-Some.after.now _ c.tildes.invariant.1 parts.0 text,
      tilde_front _ (string_bytes c.tildes.text) _ c.tildes.remaining.now c.in-Some.plain.now c.in-Some.after.now c.tildes.invariant.2 parts.0 _ text,
    )

pub returns-in_err-push_slashes-clause-kept : goal.returns-in_err-push_slashes-clause-kept
returns-in_err-push_slashes-clause-kept c =
    let parts = rw c.in-Some.is at (split_parts 126 c.tildes.remaining.now c.split_once.result c.split_once.ensures.cases (omega arith)) in
    anyway _ (front_of_piece _ (string_bytes c.tildes.text) _ (escaped_token c.in-Some.plain.now) (126 ∷ 48 ∷ escaped_token c.in-Some.after.now) _ (piece_next _ (string_bytes c.tildes.text) _ c.tildes.remaining.now c.in-Some.plain.now c.in-Some.after.now c.tildes.invariant.2 parts.0) c.in_err-push_slashes.ensures.kept)

pub returns-in_err-push_str-clause-kept : goal.returns-in_err-push_str-clause-kept
returns-in_err-push_str-clause-kept c =
    let parts = rw c.in-Some.is at (split_parts 126 c.tildes.remaining.now c.split_once.result c.split_once.ensures.cases (omega arith)) in
    anyway _ (front_stays _ _ _ _ _ (piece_front _ (string_bytes c.tildes.text) _ c.tildes.remaining.now c.in-Some.plain.now c.in-Some.after.now c.tildes.invariant.2 parts.0) (c.in_err-push_str.ensures.bytes ∙ c.in_ok-push_slashes.ensures.ok))

pub push_slashes-requires-2 : goal.push_slashes-requires-2
push_slashes-requires-2 c = rw c.in_default.is at (split_parts 126 c.tildes.remaining.now c.split_once.result c.split_once.ensures.cases (omega arith))

pub returns-clause-kept : goal.returns-clause-kept
returns-clause-kept c = on_err_weaker c.push_slashes-2.result (last_piece _ (string_bytes c.tildes.text) _ (escaped_token c.tildes.remaining.now) _ c.tildes.invariant.2) c.push_slashes-2.ensures.kept
