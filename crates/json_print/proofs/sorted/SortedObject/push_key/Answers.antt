use Rattle.std.proofs.Common.{ap, ◌∙◌, ◌++◌}
use Rattle.json_print.specs.Members.{layer_of}
use Rattle.json_print.specs.Printer.{Layer}
use Rattle.json_print.proofs.Members.{hold_keys, layer_keys}
use Rattle.json_print.proofs.sorted.SortedObject.push_key.Goals as goal

pub invariant_of-self-2 : goal.invariant_of-self-2
invariant_of-self-2 c = rw c.in_ok-push_str.ensures.bytes (hold_keys _ _ _ _ _ _ c.utf8.key c.self.invariant)

pub returns-clause-ok : goal.returns-clause-ok
returns-clause-ok c =
    ap (λ keys. layer_of keys c.self.inside.texts.bytes.items c.self.inside.members.items c.self.inside.key_from c.self.inside.text_from) c.in_ok-push_str.ensures.bytes
    ∙ layer_keys _ _ c.args.key.now _ _ _ c.self.invariant ∙ ap (λ (l : Layer). let r : Layer = record l { key = l.key ++ c.args.key.now } in r) c.self.view_is
