use Rattle.std.proofs.Common.{◌∙◌}
use Rattle.json_grammar.specs.declared.Kind.TheVariants.{Array as array}
use Rattle.json_stream.proofs.Values.{past_end, within_same, same_text, lacks_within}
use Rattle.json_stream.proofs.deserializer.Deserializer.end_seq.Goals as goal

pub invariant_of-self : goal.invariant_of-self
invariant_of-self c =
    let i = rw c.in-Ok.is at c.self.invariant in
    let p = c.at-parser in
    rw c.in-Ok.is
    (i.0, past_end array c.self.inside.bytes.now c.in-Ok.text.now c.self.inside.at c.index-self-inside.result p.result c.end_seq.new.self p.ensures.text i.1 c.in-Ok-end_seq.ensures.ok c.index-self-inside.ensures)

pub at_input_place-requires : goal.at_input_place-requires
at_input_place-requires c =
    let i = rw c.in-Ok.is at c.self.invariant in
    let b = c.self.inside.bytes.now in
    let p = c.at-parser in
    let e = c.in-Err-end_seq.error in
    within_same c.self.inside.repaired b e.place (same_text _ c.self.inside.repaired b i.0) (lacks_within array p.result b e (p.ensures.text ∙ i.1.same) c.in-Err-end_seq.ensures.err)
