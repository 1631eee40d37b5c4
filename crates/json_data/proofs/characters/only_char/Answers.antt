use Rattle.std.proofs.Common.{◌∙◌, sym}
use Rattle.json_data.proofs.CharTexts.{only_one, one_more}
use Rattle.json_data.proofs.characters.only_char.Goals as goal

pub returns-in-Some : goal.returns-in-Some
returns-in-Some c =
    one_more c.args.text.now c.next.new.self.rest.now c.in_ok-first.first c.in-Some.field-0 c.utf8.text (sym c.chars-all.ensures.rest ∙ c.in_ok-first.ensures.steps.0) (sym c.in-Some.ensures.steps.2)

pub returns-in-None : goal.returns-in-None
returns-in-None c =
    only_one c.args.text.now c.next.new.self.rest.now c.in_ok-first.first c.utf8.text (sym c.chars-all.ensures.rest ∙ c.in_ok-first.ensures.steps.0) c.in-None.ensures.steps.0.0
