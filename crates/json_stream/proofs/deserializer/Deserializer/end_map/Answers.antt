use Rattle.std.proofs.Common.{◌∙◌}
use Rattle.json_grammar.specs.declared.Kind.TheVariants.{Object as object}
use Rattle.json_stream.proofs.Values.{past_end, within_same, same_text, lacks_within}
use Rattle.json_stream.proofs.deserializer.Deserializer.end_map.Goals as goal

pub invariant_of-self : goal.invariant_of-self
invariant_of-self c =
    let i = rw c.in-Ok.is at c.self.invariant in
    let p = c.at-parser in
    rw c.in-Ok.is
    (i.0, past_end object c.self.inside.bytes.now c.in-Ok.text.now c.self.inside.at c.index-self-inside.result p.result c.end_map.new.self p.ensures.text i.1 c.in-Ok-end_map.ensures.ok c.index-self-inside.ensures)

pub at_input_place-requires : goal.at_input_place-requires
at_input_place-requires c =
    let i = rw c.in-Ok.is at c.self.invariant in
    let b = c.self.inside.bytes.now in
    let p = c.at-parser in
    let e = c.in-Err-end_map.error in
    within_same c.self.inside.repaired b e.place (same_text _ c.self.inside.repaired b i.0) (lacks_within object p.result b e (p.ensures.text ∙ i.1.same) c.in-Err-end_map.ensures.err)
