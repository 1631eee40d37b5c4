use Rattle.std.proofs.Common.{◌≢◌, length, sym, ◌∙◌, arith}
use Rattle.json_query.specs.declared.error.QueryCode.TheVariants as code
use Rattle.json_query.proofs.TextChars.{refused_as}
use Rattle.json_query.proofs.TextEscapes.{short_halts, short_read}
use Rattle.json_query.proofs.strings.read_escape.Goals as goal

pub returns-in-Some-short_escape-clause-read : goal.returns-in-Some-short_escape-clause-read
returns-in-Some-short_escape-clause-read c = λ o k.
    let other : c.in-Some.c ≢ 117 = omega arith in
    short_read c.args.mark o k c.args.text.now c.in-Some.rest.now c.in-Some.c c.in-Some-short_escape.denoted c.requires c.in-Some.ensures other (sym c.short_escape.ensures ∙ c.in-Some-short_escape.is)

pub returns-in-None-short_escape-clause-read : goal.returns-in-None-short_escape-clause-read
returns-in-None-short_escape-clause-read c = λ o k.
    let other : c.in-Some.c ≢ 117 = omega arith in
    short_halts c.args.mark o k c.args.text.now c.in-Some.rest.now c.in-Some.c c.requires c.in-Some.ensures other (sym c.short_escape.ensures ∙ c.in-None-short_escape.is)
    ∙ refused_as c.before-in-None-short_escape.result code.InvalidEscape (length c.args.text.now) c.before-in-None-short_escape.ensures.code c.before-in-None-short_escape.ensures.left
