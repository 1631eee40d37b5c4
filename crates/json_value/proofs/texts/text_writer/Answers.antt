use Rattle.json_value.proofs.texts.text_writer.Goals as goal

pub returns-clause-starts : goal.returns-clause-starts
returns-clause-starts c = rw (← c.new-sink.ensures) c.new.ensures.starts
