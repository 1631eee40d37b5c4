use Rattle.std.proofs.Common.{ap, refl, subst, sym}
use Rattle.std.specs.Prelude.{string_bytes}
use Rattle.std.proofs.lemmas.Result.{err_from_is_err_and}
use Rattle.json_grammar.specs.Proper.{IsProper}
use Rattle.json_io.specs.Outside.{SinkState}
use Rattle.json_value.specs.Seen.{seen}
use Rattle.json_value.proofs.PrintedTexts.{print_failed, gained_utf8, returned_text}
use Rattle.json_value.proofs.ProperValues.{value_proper}
use Rattle.json_value.proofs.value.Value.to_string.Goals as goal

pub returns-in_err-print-clause-only : goal.returns-in_err-print-clause-only
returns-in_err-print-clause-only c =
    let p = err_from_is_err_and c.from_residual-in_err-print.result c.from_residual-in_err-print.ensures.1 in rw (p.1, p.2) (print_failed _ _ _ _ refl refl c.in_err-print.ensures.text)

pub text_written-requires : goal.text_written-requires
text_written-requires c =
    gained_utf8 _ _ (seen c.view.result) tt c.in_ok-print.ensures.text (ap (λ (s : SinkState). s.gained) c.in_ok-out.ensures.starts) (subst IsProper (sym c.view.ensures.tree) (value_proper c.args.self.now))

pub returns-clause-ok : goal.returns-clause-ok
returns-clause-ok c =
    rw (← c.view.ensures.tree) (returned_text string_bytes _ _ _ _ tt c.in_ok-print.ensures.text (ap (λ (s : SinkState). s.gained) c.in_ok-out.ensures.starts) c.text_written.ensures.ok)
