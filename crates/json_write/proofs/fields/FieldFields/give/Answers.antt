use Rattle.std.proofs.Common.{◌∷◌, Some, sym, ap, append-nil}
use Rattle.std.proofs.lemmas.Result.{err_from_is_err_and}
use Rattle.json_grammar.specs.Tree.{key_token}
use Rattle.json_print.specs.Data.{parts}
use Rattle.json_print.specs.Given.{given}
use Rattle.json_write.proofs.FieldRows.{key_takes, after_key}
use Rattle.json_write.proofs.Parts.{writes_err, writes_stop, writes_same, writes_then, wrote}
use Rattle.json_write.proofs.fields.FieldFields.give.Goals as goal

pub give_key-requires : goal.give_key-requires
give_key-requires g c = λ f. key_takes (c.requires f)

pub returns-in_err-give_key : goal.returns-in_err-give_key
returns-in_err-give_key g c = writes_err (writes_stop c.in_err-give_key.ensures _) (err_from_is_err_and c.from_residual.result c.from_residual.ensures.1)

pub serialize-requires : goal.serialize-requires
serialize-requires g c = λ f. after_key g.E.Events.token_state _ g.met.E.Events.moves (wrote c.in_ok-give_key.ensures)

pub returns : goal.returns
returns g c =
    writes_same (writes_then (wrote c.in_ok-give_key.ensures) c.serialize.ensures) (ap (λ ps. Some (given (key_token c.args.self.now.name.now)) ∷ ps) (sym (append-nil (parts (g.V.Serialize.datum c.args.self.now.value.now)))))
