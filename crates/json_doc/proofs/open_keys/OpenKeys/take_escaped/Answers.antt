use Rattle.std.proofs.Common.{◌≡◌, ◌++◌, sym, ap, ◌∙◌, subst, IsUtf8}
use Rattle.std.proofs.lemmas.Result.{IfOk-weaker}
use Rattle.std.specs.String.{string_bytes}
use Rattle.json_grammar.proofs.Texts.{chars_utf8}
use Rattle.json_grammar.specs.Tree.{key_token}
use Rattle.json_doc.specs.OpenNames.{TakesIn}
use Rattle.json_doc.proofs.open_keys.OpenKeys.take_escaped.Goals as goal

pub from_utf8_unchecked-name-requires : goal.from_utf8_unchecked-name-requires
from_utf8_unchecked-name-requires c =
    let s = c.requires.spelled in
    subst IsUtf8 (sym (c.unescape_into.ensures.text s.0 s.1 ∙ ap (λ z. z ++ s.0) c.in_ok-bytes.ensures.items)) (chars_utf8 _ s.1)

pub returns-clause-ok : goal.returns-clause-ok
returns-clause-ok c =
    let name = c.from_utf8_unchecked-name.result in
    let whole : string_bytes name ≡ c.unescape_into.new.out.items = cc in
    IfOk-weaker c.take_into_set.result _ _
    (λ had h t k. subst (λ u. TakesIn had c.args.self.now c.take_into_set.new.self (key_token u)) (whole ∙ c.unescape_into.ensures.text t k ∙ ap (λ z. z ++ t) c.in_ok-bytes.ensures.items) h)
    c.take_into_set.ensures.ok
