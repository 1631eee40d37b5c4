use Rattle.std.proofs.Common.{◌<◌, ◌/◌, ◌∙◌, sym, ap, length, arith, ◌∷◌}
use Rattle.json_text.specs.Stack.{top}
use Rattle.json_text.proofs.Stacks.{kinds_length, pushed}
use Rattle.json_text.proofs.stack.ContainerStack.push.Goals as goal

pub bounds-self-inside-at : goal.bounds-self-inside-at
bounds-self-inside-at c = let h = kinds_length c.self.inside.bits c.self.inside.len in let i = ap length c.self.view_is in let r = c.requires in omega arith

pub bounds-self-inside-at-2 : goal.bounds-self-inside-at-2
bounds-self-inside-at-2 c = let h = kinds_length c.self.inside.bits c.self.inside.len in let i = ap length c.self.view_is in let r = c.requires in omega arith

pub invariant_of-self : goal.invariant_of-self
invariant_of-self c =
    let h = kinds_length c.self.inside.bits c.self.inside.len in let i = ap length c.self.view_is in let r = c.requires in
    let l : c.self.inside.len / 64 < length c.self.inside.bits = omega arith in
    (omega arith, sym (ap top (pushed c.self.inside.bits c.self.inside.len c.with_bit.result c.args.kind l c.with_bit.ensures.same c.with_bit.ensures.others)))

pub returns : goal.returns
returns c =
    let h = kinds_length c.self.inside.bits c.self.inside.len in let i = ap length c.self.view_is in let r = c.requires in
    let l : c.self.inside.len / 64 < length c.self.inside.bits = omega arith in
    pushed c.self.inside.bits c.self.inside.len c.with_bit.result c.args.kind l c.with_bit.ensures.same c.with_bit.ensures.others ∙ ap (λ x. c.args.kind ∷ x) c.self.view_is
