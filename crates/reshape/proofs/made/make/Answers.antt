use Rattle.std.proofs.Common.{refl, ap, ◌∙◌, ◌++◌, ◌+◌}
use Rattle.reshape.proofs.MadeInput.{record_pushed}
use Rattle.reshape.proofs.made.make.Goals as goal

pub records-preserved : goal.records-preserved
records-preserved c =
    record_pushed c.records.number (c.records.number + 1) c.records.text.items c.extend_from_slice.new.self.items c.push_record.new.text.items refl c.records.invariant
    (c.in_ok-extend_from_slice.ensures.items ∙ ap (λ l. c.records.text.items ++ l) c.separator.ensures) c.in_ok-push_record.ensures.ok
