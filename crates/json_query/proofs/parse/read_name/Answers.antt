use Rattle.std.proofs.Common.{◌<◌, length, sym, ap, ◌∙◌, arith, rules, string_bytes}
use Rattle.json_query.specs.TextStates.{in_name, outcome}
use Rattle.json_query.proofs.TextChars.{char_shorter}
use Rattle.json_query.proofs.TextParts.{name_char_read, name_ends}
use Rattle.json_query.proofs.parse.read_name.Goals as goal

pub characters-smaller : goal.characters-smaller
characters-smaller c = char_shorter c.in-Some.c c.characters.rest.now c.in-Some.after.now c.in-Some.ensures.1

pub characters-preserved : goal.characters-preserved
characters-preserved c =
    let rest = c.characters.rest.now in
    let after = c.in-Some.after.now in
    let shorter : length after < length rest = char_shorter c.in-Some.c rest after c.in-Some.ensures.1 in
    record {
      text = search rules;
      read = λ qs d. c.characters.invariant.read qs d
          ∙ name_char_read qs d (string_bytes c.characters.name) rest after c.in-Some.c c.in-Some.ensures.1 c.in-Some.ensures.0
          ∙ ap (λ k. outcome (in_name qs d k) after) (sym c.in_ok-push.ensures.bytes);
      within = omega (arith, c.characters.invariant.within);
    }

pub returns-clause-read : goal.returns-clause-read
returns-clause-read c = λ qs d. c.characters.invariant.read qs d ∙ name_ends qs d (string_bytes c.characters.name) c.characters.rest.now c.in_default.ensures
