use Rattle.std.proofs.Common.{inr, [], length, sym, subst, ◌∙◌}
use Rattle.std.proofs.lemmas.Result.{MatchResult-weaker, err_from_is_err_and}
use Rattle.json_query.specs.Reading.{ClassAt}
use Rattle.json_query.specs.TextStates.{before_selector, class_of, in_string}
use Rattle.json_query.specs.declared.error.QueryCode.TheVariants as code
use Rattle.json_query.proofs.TextChars.{class_at_char, refused_as}
use Rattle.json_query.proofs.TextParts.{filter_halts, first_colon_read, mark_from_class, mark_read, selector_halts, star_read, stops_alike}
use Rattle.json_query.proofs.parse.read_selector.Goals as goal

pub returns-then-begins_integer-clause-read : goal.returns-then-begins_integer-clause-read
returns-then-begins_integer-clause-read c = λ o. MatchResult-weaker c.read_index_or_slice.result (c.read_index_or_slice.ensures.read o) (λ r e. e) (λ f e. inr e)

pub read_quoted-requires : goal.read_quoted-requires
read_quoted-requires c = mark_from_class c.in-Some.c (sym c.class_of.ensures ∙ c.in-QuotationMark.is)

pub returns-in_err-name-in-QuotationMark-clause-read : goal.returns-in_err-name-in-QuotationMark-clause-read
returns-in_err-name-in-QuotationMark-clause-read c = λ o.
    let p = err_from_is_err_and c.from_residual.result c.from_residual.ensures.1 in
    rw (p.1, p.2)
    (stops_alike (before_selector o) (in_string c.in-Some.c o []) c.args.text.now c.in-Some.rest.now _
    (mark_read o c.in-Some.c c.args.text.now c.in-Some.rest.now c.in-Some.ensures (sym c.class_of.ensures ∙ c.in-QuotationMark.is))
    (c.in_err-name-in-QuotationMark.ensures.read o))

pub returns-in_ok-name-in-QuotationMark-clause-read : goal.returns-in_ok-name-in-QuotationMark-clause-read
returns-in_ok-name-in-QuotationMark-clause-read c = λ o.
    mark_read o c.in-Some.c c.args.text.now c.in-Some.rest.now c.in-Some.ensures (sym c.class_of.ensures ∙ c.in-QuotationMark.is) ∙ c.in_ok-name-in-QuotationMark.ensures.read o

pub returns-in-Star-clause-read : goal.returns-in-Star-clause-read
returns-in-Star-clause-read c = λ o.
    let at = class_at_char c.in-Some.c c.args.text.now c.in-Some.rest.now c.in-Some.ensures in
    star_read o c.args.text.now c.in-Some.rest.now (subst (λ k. ClassAt k c.args.text.now c.in-Some.rest.now) (sym c.class_of.ensures ∙ c.in-Star.is) at)

pub returns-in-Colon-clause-read : goal.returns-in-Colon-clause-read
returns-in-Colon-clause-read c = λ o.
    let at = class_at_char c.in-Some.c c.args.text.now c.in-Some.rest.now c.in-Some.ensures in
    let first = first_colon_read o c.args.text.now c.in-Some.rest.now (subst (λ k. ClassAt k c.args.text.now c.in-Some.rest.now) (sym c.class_of.ensures ∙ c.in-Colon.is) at) in
    MatchResult-weaker c.read_slice.result (c.read_slice.ensures.read o) (λ r e. first ∙ e) (λ f e. inr (first ∙ e))

pub returns-in-Question-clause-read : goal.returns-in-Question-clause-read
returns-in-Question-clause-read c = λ o.
    let at = class_at_char c.in-Some.c c.args.text.now c.in-Some.rest.now c.in-Some.ensures in
    inr (filter_halts o c.args.text.now c.in-Some.rest.now (class_of c.in-Some.c) at (sym c.class_of.ensures ∙ c.in-Question.is)
    ∙ refused_as c.before-in-Question.result code.Filter (length c.args.text.now) c.before-in-Question.ensures.code c.before-in-Question.ensures.left)

pub returns-in_default : goal.returns-in_default
returns-in_default c =
    let at = class_at_char c.in-Some.c c.args.text.now c.in-Some.rest.now c.in-Some.ensures in
    let is = c.class_of.ensures in
    let fault = refused_as c.before-in_default.result code.ExpectedSelector (length c.args.text.now) c.before-in_default.ensures.code c.before-in_default.ensures.left in
    record {
      read = λ o. inr (selector_halts o c.args.text.now c.in-Some.rest.now (class_of c.in-Some.c) at c.requires c.if-begins_integer.ensures (λ e. c.in_default.not-QuotationMark (is ∙ e)) (λ e. c.in_default.not-Star (is ∙ e)) (λ e. c.in_default.not-Colon (is ∙ e)) (λ e. c.in_default.not-Question (is ∙ e)) ∙ fault);
      within = tt;
    }
