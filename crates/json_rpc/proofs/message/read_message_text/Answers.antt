use Rattle.std.proofs.Common.{◌≡◌, inr, sym, subst, ◌∙◌, ap, ◌≤◌, false}
use Rattle.json_grammar.specs.Tree.{depth}
use Rattle.json_grammar.specs.Grammar.{is_text}
use Rattle.json_doc.specs.Docs.{doc_tree, doc_root}
use Rattle.json_value.specs.Denotes.{tree_of}
use Rattle.json_rpc.specs.Serving.{max_levels}
use Rattle.json_rpc.proofs.Messages.{fails_no_text}
use Rattle.json_command.proofs.Documents.{root_is}
use Rattle.json_rpc.proofs.message.read_message_text.Goals as goal

pub returns-in_ok-value-in-Ok-clause-ok : goal.returns-in_ok-value-in-Ok-clause-ok
returns-in_ok-value-in-Ok-clause-ok c =
    let d = c.in-Ok.ensures.ok in
    let at : c.root.result ≡ doc_root c.in-Ok.doc.value = c.root.ensures.place ∙ ap doc_root c.deref.ensures in
    let e : tree_of c.in_ok-value-in-Ok.value ≡ d.0 = c.in_ok-value-in-Ok.ensures.tree ∙ ap (doc_tree c.in-Ok.doc.value) at ∙ root_is c.in-Ok.doc.value d.0 d.3 in
    (c.requires.size, subst (λ u. is_text false u c.args.text.now) (sym e) d.1, subst (λ u. depth u ≤ max_levels) (sym e) d.2)

pub returns-in_default : goal.returns-in_default
returns-in_default c = record { ok = inr (c.requires.full, fails_no_text c.args.text.now c.in-Err.error.code c.in-Err.error.place c.in_default.not-NoMemory c.in-Err.ensures.err); only = tt }
