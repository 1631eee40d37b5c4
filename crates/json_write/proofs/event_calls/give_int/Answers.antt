use Rattle.json_print.specs.Given.{given_integer}
use Rattle.std.proofs.Common.{◌∷◌, [], Some, sym, ap, subst, to_z-of_z}
use Rattle.std.specs.Fmt.{signed_decimal}
use Rattle.json_grammar.specs.Grammar.{number}
use Rattle.json_write.proofs.Decimals.{signed_number}
use Rattle.json_write.proofs.Parts.{writes_token, writes_same}
use Rattle.json_write.proofs.event_calls.give_int.Goals as goal

pub returns : goal.returns
returns g c =
    let same = to_z-of_z c.ranges.n in
    writes_same (writes_token (subst (λ z. number (signed_decimal z)) (sym same) (signed_number c.args.n c.ranges.n)) c.int.ensures) (ap (λ z. Some (given_integer z) ∷ []) same)
