use Rattle.std.proofs.lemmas.Grind.{common_steps}
use Rattle.std.proofs.Common.{arith, ◌≡◌, string_bytes, ap, ◌∙◌}
use Rattle.json_patch.specs.Lookups.{pointer_tokens}
use Rattle.json_patch.specs.Pointer.{pointer_of, pointer_text}
use Rattle.json_patch.proofs.PointerTexts.{pointer_text_parses}
use Rattle.json_patch.proofs.pointer.Pointer.to_text.Goals as goal

pub returns-clause-parses : goal.returns-clause-parses
returns-clause-parses c =
    let text : string_bytes c.loop-token.text ≡ pointer_text (pointer_tokens c.args.self.now) = grind (arith, common_steps) in
    ap pointer_of text ∙ pointer_text_parses (pointer_tokens c.args.self.now)
