use Rattle.std.proofs.Common.{◌≡◌, ◌∙◌, Some, sym, ap, subst, option_map}
use Rattle.json_grammar.specs.Grammar.{number}
use Rattle.json_grammar.specs.Tree.{num_token}
use Rattle.json_text.specs.declared.event.Event.{Event}
use Rattle.json_text.specs.Events.{Means}
use Rattle.json_number.specs.Integers.{integer_in}
use Rattle.json_number.specs.Numbers.{value_of, text_of_number}
use Rattle.json_number.proofs.Integers.{prints_its_literal}
use Rattle.json_tokens.specs.Text.{event_integer}
use Rattle.json_tokens.proofs.ahead.Ahead.token.Goals as goal
use Rattle.json_doc.specs.Reading.{EventIsNumber}

pub returns-in-Some : goal.returns-in-Some
returns-in-Some c = λ x m.
    let l = c.in-Number.literal.now in
    let n = c.in-Some.number in
    let k : number l = subst EventIsNumber c.in-Number.is c.requires.number in
    let i : integer_in l ≡ Some (value_of n) = sym (ap event_integer c.in-Number.is) ∙ sym c.args.self.valued ∙ ap (option_map value_of) c.in-Some.is in
    let e : text_of_number n ≡ l = prints_its_literal l (value_of n) k i in
    let f : x ≡ num_token l = subst (λ (e : Event). Means e x) c.in-Number.is m in
    (f ∙ ap num_token (sym e), ap integer_in e ∙ i, subst number (sym e) k)
