use Rattle.std.proofs.lemmas.Result.{on_ok_weaker}
use Rattle.json_text.specs.Ruled.{rules_of}
use Rattle.json_doc.proofs.Keeping.{differ_on}
use Rattle.json_doc.proofs.reader.check_names.Goals as goal

pub returns-clause-ok : goal.returns-clause-ok
returns-clause-ok c =
    on_ok_weaker c.refuse_repeated.result (λ h x ts m d. differ_on (rules_of c.args.rules) c.args.keys.now c.refuse_repeated.new.keys ts x (h x m) d) c.refuse_repeated.ensures.ok
