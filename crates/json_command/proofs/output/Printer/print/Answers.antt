use Rattle.std.proofs.Common.{◌≡◌, ◌∙◌, false, rules}
use Rattle.json_io.specs.Outside.{SinkState}
use Rattle.json_layout.specs.Styles.{is_sorted, printed}
use Rattle.json_value.specs.Denotes.{tree_of}
use Rattle.json_command.proofs.Printing.{same_sink, printed_through, lent_ran_out}
use Rattle.json_command.proofs.output.Printer.print.Goals as goal

-- the returned sink is the borrowed one
pub returns-clause-prints : goal.returns-clause-prints
returns-clause-prints g c =
    let old : SinkState = g.K.Sink.state c.args.sink.now in
    let now : SinkState = g.K.Sink.state c.into_inner-sink.result.now in
    let text = printed c.args.style (tree_of c.args.value.now) in
    let began = c.with_buffer-writer.ensures.starts ∙ c.new.ensures.lent in
    let name = same_sink old now _ _ _ _ c.into_inner-sink.result.ghost_name c.into_parts-lent.ensures.0 text c.sent-writer.result.1 began c.sent-writer.ensures.text c.into_parts-lent.ensures.1 c.into_inner-sink.ensures.back in
    let prints = printed_through old now _ _ _ _ c.into_inner-sink.result.ghost_name c.into_parts-lent.ensures.0 text c.sent-writer.result.1 began c.sent-writer.ensures.text c.into_parts-lent.ensures.1 c.into_inner-sink.ensures.back in
    search (rules, name, prints)

pub returns-clause-ran_out : goal.returns-clause-ran_out
returns-clause-ran_out g c =
    let old : SinkState = g.K.Sink.state c.args.sink.now in
    let now : SinkState = g.K.Sink.state c.into_inner-sink.result.now in
    let text = printed c.args.style (tree_of c.args.value.now) in
    let began = c.with_buffer-writer.ensures.starts ∙ c.new.ensures.lent in
    let name = same_sink old now _ _ _ _ c.into_inner-sink.result.ghost_name c.into_parts-lent.ensures.0 text c.sent-writer.result.1 began c.sent-writer.ensures.text c.into_parts-lent.ensures.1 c.into_inner-sink.ensures.back in
    let ran_out =
    λ (s : is_sorted c.args.style ≡ false).
    lent_ran_out old now _ _ c.into_inner-sink.result.ghost_name c.into_parts-lent.ensures.0 _ c.sent-writer.result.1 c.into_parts-lent.ensures.1 c.into_inner-sink.ensures.back (c.sent-writer.ensures.ran_out s) in
    search (rules, name, ran_out)
