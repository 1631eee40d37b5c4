use Rattle.std.proofs.Common.{◌≢◌, arith}
use Rattle.json_query.proofs.TextChars.{char_shorter}
use Rattle.json_query.proofs.TextEscapes.{char_read}
use Rattle.json_query.proofs.strings.read_string_char.Goals as goal

pub returns-else-c-lt32-clause-read : goal.returns-else-c-lt32-clause-read
returns-else-c-lt32-clause-read c = λ o k.
    let not_backslash : c.in-Some.c ≢ 92 = omega arith in
    let not_mark : c.in-Some.c ≢ c.args.mark = omega arith in
    char_read c.args.mark o k c.args.text.now c.in-Some.rest.now c.in-Some.c c.requires c.in-Some.ensures not_backslash not_mark (omega arith)

pub returns-else-c-lt32-clause-within : goal.returns-else-c-lt32-clause-within
returns-else-c-lt32-clause-within c = char_shorter c.in-Some.c c.args.text.now c.in-Some.rest.now c.in-Some.ensures
