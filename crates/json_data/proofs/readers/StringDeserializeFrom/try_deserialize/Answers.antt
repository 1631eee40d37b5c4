use Rattle.std.proofs.Common.{ap, List, ℕ}
use Rattle.json_grammar.specs.Tree.{text}
use Rattle.json_model.specs.Datum.{text_datum}
use Rattle.json_data.specs.Reading.{gives}
use Rattle.json_data.proofs.readers.StringDeserializeFrom.try_deserialize.Goals as goal

pub returns-in_ok-copy-in-Some-clause-ok : goal.returns-in_ok-copy-in-Some-clause-ok
returns-in_ok-copy-in-Some-clause-ok g c =
    let r = c.in-Some.ensures.takes in
    record {
      tree = text r.text;
      takes = r.takes;
      answer = ap (λ (s : List ℕ). gives (text_datum s)) (c.in_ok-copy-in-Some.ensures.ok r.text r.said);
      some = λ e. cc;
    }
