use Rattle.std.proofs.Common.{◌∙◌, ap}
use Rattle.std.specs.List.{list_any}
use Rattle.mezdruk_arguments.specs.Arguments.{is_standard_input}
use Rattle.mezdruk_arguments.proofs.Lines.{any_words}
use Rattle.mezdruk_arguments.proofs.line.ArgumentLine.changes_input.Goals as goal

pub returns-in-InPlace : goal.returns-in-InPlace
returns-in-InPlace c = λ s h. rw c.in-InPlace.is (c.has_standard_input.ensures ∙ ap (list_any _) c.deref.ensures.value ∙ any_words is_standard_input c.args.self.now.files.items ∙ ap (list_any is_standard_input) h.files)
