use Rattle.std.proofs.Common.{◌∷◌, ◌++◌, ◌∙◌, [], cond, ap, sym}
use Rattle.json_lines.specs.Csv.{quotes_doubled}
use Rattle.json_lines.proofs.TextWriting.{WritesText-is}
use Rattle.json_lines.proofs.csv.write_field.Goals as goal

pub returns-then-is_quoted : goal.returns-then-is_quoted
returns-then-is_quoted g c =
    let text = c.args.text.now in
    WritesText-is _ _ _ _ c.write_quoted.result (ap (λ b. cond b (34 ∷ (quotes_doubled text ++ 34 ∷ [])) text) (sym c.if-is_quoted.true ∙ c.is_quoted.ensures)) c.write_quoted.ensures

pub returns-else-is_quoted : goal.returns-else-is_quoted
returns-else-is_quoted g c =
    let text = c.args.text.now in
    WritesText-is _ _ _ _ c.write_bytes.result (ap (λ b. cond b (34 ∷ (quotes_doubled text ++ 34 ∷ [])) text) (sym c.if-is_quoted.false ∙ c.is_quoted.ensures)) c.write_bytes.ensures
