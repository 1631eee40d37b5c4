use Rattle.std.proofs.Common.{◌<◌, length, sym, subst, arith}
use Rattle.json_grammar.specs.Grammar.{ws}
use Rattle.json_layout.proofs.Spaces.{ws_at}
use Rattle.json_layout.proofs.style.Style.new.Goals as goal

pub returns-in-Some : goal.returns-in-Some
returns-in-Some c = λ whitespace.
    let spaces : ws c.in-Some.spaces.now = rw c.in-Some.is at whitespace in
    let within = subst ws (sym c.as_bytes.ensures.value) spaces in
    let below : c.ws_run.result < length c.as_bytes.result.now = omega (arith, c.if-ws_run-spaces.true, c.as_bytes.ensures.len) in
    c.ws_run.ensures.ends.stop below (ws_at _ c.ws_run.result below within)
