use Rattle.std.proofs.Common.{subst}
use Rattle.json_grammar.specs.Proper.{IsProper}
use Rattle.json_value.specs.Seen.{seen}
use Rattle.json_value.proofs.GivenTrees.{seen_proper}
use Rattle.json_number.proofs.Forms.{reads}
use Rattle.json_tokens.proofs.ValueViews.{literal_num, one_number}
use Rattle.json_tokens.proofs.view_tokens.scalar_token.Goals as goal

pub returns-in-Some : goal.returns-in-Some
returns-in-Some c = λ x e. let r = reads c.in-Some.number in (one_number (seen c.args.view) x _ e c.in-Some.ensures.text, r.1, r.0)

pub returns-in-Some-literal : goal.returns-in-Some-literal
returns-in-Some-literal c = λ x e.
    let r = literal_num (seen c.args.view) c.in-Some-literal.literal.now c.in-Some-literal.ensures in
    (one_number (seen c.args.view) x _ e r.0, r.1, subst IsProper r.0 (seen_proper c.args.view))
