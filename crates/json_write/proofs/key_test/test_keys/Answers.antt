use Rattle.json_write.proofs.Testing.{tested_ok, tested_err}
use Rattle.json_write.proofs.key_test.test_keys.Goals as goal

pub returns-clause-ok : goal.returns-clause-ok
returns-clause-ok g c = tested_ok (g.T.Serialize.datum c.args.value.now) _ _ _ _ _ c.serialize.ensures

pub returns-clause-err : goal.returns-clause-err
returns-clause-err g c = tested_err (g.T.Serialize.datum c.args.value.now) _ _ _ _ _ c.new-test.ensures.fresh c.serialize.ensures
