use Rattle.std.proofs.Common.{◌∙◌, ap}
use Rattle.std.specs.Float.{binary64}
use Rattle.json_grammar.specs.Tree.{num}
use Rattle.json_number.specs.Floats.{float_in}
use Rattle.json_number.specs.Numbers.{text_of_number}
use Rattle.json_tokens.proofs.Steps.{peek_tree}
use Rattle.json_data.proofs.Exits.{out_of_range}
use Rattle.json_data.proofs.FloatData.{float_given, float_beyond}
use Rattle.json_data.proofs.floats.F64DeserializeFrom.deserialize.Goals as goal

pub returns-in-Some-clause-ok : goal.returns-in-Some-clause-ok
returns-in-Some-clause-ok g c =
    record {
      tree = num (text_of_number c.in_ok-n.n);
      takes = peek_tree c.in_ok-kind.ensures.ok c.in_ok-kind.ensures.none c.in_ok-n.ensures.ok;
      answer = float_given binary64 _ _ _ c.integer_f64.ensures c.in-Some.is;
    }

pub returns-in-None-clause-err : goal.returns-in-None-clause-err
returns-in-None-clause-err g c =
    out_of_range c.error_without_place.ensures (peek_tree c.in_ok-kind.ensures.ok c.in_ok-kind.ensures.none c.in_ok-n.ensures.ok) (float_beyond binary64 _ _ c.integer_f64.ensures c.in-None.is)

pub returns-in-Some-f64_of-clause-ok : goal.returns-in-Some-f64_of-clause-ok
returns-in-Some-f64_of-clause-ok g c =
    let l = g.S.InputStr.bytes c.in_ok-literal.literal in
    record {
      tree = num l;
      takes = peek_tree c.in_ok-kind.ensures.ok c.in_ok-kind.ensures.none c.in_ok-literal.ensures.ok;
      answer = float_given binary64 l _ _ (c.f64_of.ensures.double ∙ ap (float_in binary64) c.as_text.ensures) c.in-Some-f64_of.is;
    }

pub returns-in-None-f64_of-clause-err : goal.returns-in-None-f64_of-clause-err
returns-in-None-f64_of-clause-err g c =
    let l = g.S.InputStr.bytes c.in_ok-literal.literal in
    out_of_range c.error_without_place-in-None-f64_of.ensures (peek_tree c.in_ok-kind.ensures.ok c.in_ok-kind.ensures.none c.in_ok-literal.ensures.ok)
    (float_beyond binary64 l _ (c.f64_of.ensures.double ∙ ap (float_in binary64) c.as_text.ensures) c.in-None-f64_of.is)
