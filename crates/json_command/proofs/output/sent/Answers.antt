use Rattle.json_command.proofs.output.sent.Goals as goal

pub returns : goal.returns
returns g c =
    record {
      text = c.flushed.ensures.text _ _ c.styled-written.ensures.text;
      ran_out = λ s. c.flushed.ensures.ran_out _ (c.styled-written.ensures.ran_out s);
    }
