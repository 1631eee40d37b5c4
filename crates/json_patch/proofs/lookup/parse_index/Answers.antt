use Rattle.std.proofs.Common.{◌≡◌, true, rules}
use Rattle.json_patch.specs.Lookups.{has_index_start}
use Rattle.json_patch.proofs.Lookups.{index_of_token-parsed, index_of_token-unparsed}
use Rattle.json_patch.proofs.lookup.parse_index.Goals as goal

pub returns-in-Ok : goal.returns-in-Ok
returns-in-Ok c =
    let p : has_index_start c.args.token.now ≡ true = search rules in
    index_of_token-parsed c.args.token.now c.parse.result c.in-Ok.i p c.parse.ensures.value.0 c.in-Ok.is

pub returns-in-Err : goal.returns-in-Err
returns-in-Err c =
    let p : has_index_start c.args.token.now ≡ true = search rules in
    index_of_token-unparsed c.args.token.now c.parse.result _ p c.parse.ensures.value.0 c.in-Err.is
