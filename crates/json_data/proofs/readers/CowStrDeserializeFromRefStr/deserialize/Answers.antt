use Rattle.std.proofs.Common.{ap, List, ℕ}
use Rattle.std.proofs.lemmas.Result.{IfOk-weaker}
use Rattle.json_grammar.specs.Tree.{text}
use Rattle.json_model.specs.Datum.{text_datum}
use Rattle.json_data.specs.Reading.{gives}
use Rattle.json_data.proofs.readers.CowStrDeserializeFromRefStr.deserialize.Goals as goal

pub returns-clause-ok : goal.returns-clause-ok
returns-clause-ok g c =
    let r = c.in_ok-piece.ensures.ok in
    IfOk-weaker c.lend.result _ _
    (λ v said. record {
      tree = text r.text;
      takes = r.takes;
      answer = ap (λ (s : List ℕ). gives (text_datum s)) (said r.text r.said);
    })
    c.lend.ensures.ok
