use Rattle.std.proofs.Common.{inr, false, sym, subst}
use Rattle.json_grammar.specs.Tree.{key_token}
use Rattle.json_text.specs.declared.event.Event.TheVariants as event
use Rattle.json_doc.specs.OpenNames.{TakesIn}
use Rattle.json_doc.proofs.Following.{means_at}
use Rattle.json_doc.proofs.reader.refuse_repeated.Goals as goal

pub returns-then-branch-clause-err : goal.returns-then-branch-clause-err
returns-then-branch-clause-err c = inr (c.in-Key.name, c.in-Key.is, (λ s all k h. (c.in_ok-take_key-in-Key.ensures.ok s k all h).0.0 c.if-branch.true), c.repeated_name_error.ensures)

pub returns-else-branch-clause-ok : goal.returns-else-branch-clause-ok
returns-else-branch-clause-ok c x m =
    let t = means_at c.args.event (event.Key c.in-Key.name) x c.in-Key.is m in
    let old = c.args.keys.now in
    let new = c.take_key.new.self in
    subst (TakesIn false old new) (sym t.2) (subst (λ had. TakesIn had old new (key_token t.0)) c.if-branch.false (c.in_ok-take_key-in-Key.ensures.ok t.0 t.1))
