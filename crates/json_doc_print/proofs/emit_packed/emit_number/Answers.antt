use Rattle.std.proofs.Common.{[], ◌∷◌, SFits, w64, to_z, of_z, to_z-of_z, rules, sym, ap, ◌∙◌}
use Rattle.std.specs.Int.{w128}
use Rattle.json_print.specs.Given.{given_integer}
use Rattle.json_doc_print.proofs.Walking.{walks_one}
use Rattle.json_doc_print.proofs.GivenTokens.{number_is, widened}
use Rattle.json_doc_print.proofs.emit_packed.emit_number.Goals as goal

pub returns-in-Unsigned : goal.returns-in-Unsigned
returns-in-Unsigned g c = walks_one _ _ (number_is c.args.number ∙ ap (λ z. given_integer z ∷ []) (sym c.in-Unsigned.ensures.value)) c.events_result.ensures c.uint.ensures

pub returns-in-Negative : goal.returns-in-Negative
returns-in-Negative g c =
    let z = c.in-Negative.n in
    let fits : SFits w64 z = search rules in
    let same = ap (λ y. to_z w128 (of_z w128 y)) (to_z-of_z fits) ∙ to_z-of_z (widened z fits) in
    walks_one _ _ (number_is c.args.number ∙ ap (λ z. given_integer z ∷ []) (sym c.in-Negative.ensures.value ∙ sym same)) c.events_result-in-Negative.ensures c.int.ensures
