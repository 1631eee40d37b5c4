use Rattle.std.proofs.Common.{ap, refl}
use Rattle.std.specs.Prelude.{string_bytes}
use Rattle.std.proofs.lemmas.Result.{err_from_is_err_and}
use Rattle.json_grammar.specs.Tree.{pairs, list_pairs}
use Rattle.json_io.specs.Outside.{SinkState}
use Rattle.json_value.specs.Denotes.{pairs_in}
use Rattle.json_value.proofs.PrintedTexts.{print_failed, gained_utf8, returned_text, object_proper}
use Rattle.json_value.proofs.object.Container+Keyed+Value.to_string.Goals as goal

pub returns-in_err-answered-clause-only : goal.returns-in_err-answered-clause-only
returns-in_err-answered-clause-only c =
    let p = err_from_is_err_and c.from_residual-in_err-answered.result c.from_residual-in_err-answered.ensures.1 in
    rw (p.1, p.2) (print_failed _ _ _ _ refl refl (c.in_err-answered.ensures.text 0 _ _ _ c.show_object.ensures))

pub text_written-requires : goal.text_written-requires
text_written-requires c =
    gained_utf8 _ _ (pairs (list_pairs (pairs_in c.args.self.now))) tt (c.in_ok-answered.ensures.text 0 _ _ _ c.show_object.ensures)
    (ap (λ (s : SinkState). s.gained) c.in_ok-out.ensures.starts) (object_proper c.args.self.now)

pub returns-clause-ok : goal.returns-clause-ok
returns-clause-ok c =
    returned_text string_bytes _ _ _ _ tt (c.in_ok-answered.ensures.text 0 _ _ _ c.show_object.ensures) (ap (λ (s : SinkState). s.gained) c.in_ok-out.ensures.starts) c.text_written.ensures.ok
