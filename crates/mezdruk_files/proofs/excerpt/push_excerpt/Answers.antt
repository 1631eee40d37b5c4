use Rattle.std.proofs.Common.{◌==◌, ap, ◌∙◌, arith}
use Rattle.std.specs.List.{after_last, before_first}
use Rattle.std.proofs.lemmas.Result.{on_ok_weaker}
use Rattle.mezdruk_files.proofs.CutLines.{excerpt_of, shown_after}
use Rattle.mezdruk_files.proofs.excerpt.push_excerpt.Goals as goal

pub returns-clause-ok : goal.returns-clause-ok
returns-clause-ok c =
    let is_before = c.last_line-line_before.ensures ∙ ap (after_last (λ x. x == 10)) c.split_at.ensures.front in
    let is_after = c.excerpt_line-line_after.ensures ∙ ap (before_first (λ x. x == 10)) c.split_at.ensures.back in
    on_ok_weaker c.push_lines.result (λ is. (_, excerpt_of c.args.bytes.now c.args.offset _ _ _ _ c.min.result (omega arith) (omega arith) is_before is_after c.first_bytes-after.ensures c.last_bytes-before.ensures, is ∙ shown_after c.args.text.now.items c.last_bytes-before.result.now c.first_bytes-after.result.now)) c.push_lines.ensures.ok
