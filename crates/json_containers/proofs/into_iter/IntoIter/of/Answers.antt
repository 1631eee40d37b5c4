use Rattle.std.proofs.Common.{◌≡◌, ◌-◌, take, drop, Vec, Global, arith, sym, ap, ◌∙◌, subst}
use Rattle.std.proofs.lemmas.List.{take_all}
use Rattle.json_value.specs.Written.{FirstElements}
use Rattle.json_value.specs.declared.value.Value.{Value}
use Rattle.json_containers.proofs.into_iter.IntoIter.of.Goals as goal

pub returns-clause-children : goal.returns-clause-children
returns-clause-children c =
    let items = c.replace-list.result.items in
    let all : take (c.len-back.result - 0) (drop 0 items) ≡ items = take_all (c.len-back.result - 0) items (omega (arith, c.len-back.ensures, c.replace-list.result.ok.0)) in
    subst (FirstElements c.args.array) (sym (all ∙ ap (λ (v : Vec Value Global). v.items) c.replace-list.ensures.value)) c.in_ok-list_mut.ensures.children
