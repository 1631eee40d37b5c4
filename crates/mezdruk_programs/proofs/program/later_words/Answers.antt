use Rattle.std.proofs.Common.{◌∙◌, ◌<◌, [], ◌∷◌, ◌++◌, length, take, drop, sym, ap, arith, rules}
use Rattle.std.proofs.lemmas.List.{take_more, drop-append-le, length-take-le}
use Rattle.std.proofs.lemmas.Option.{get_or_from_slice_get}
use Rattle.mezdruk_programs.proofs.program.later_words.Goals as goal

pub loop-i-preserved : goal.loop-i-preserved
loop-i-preserved c =
    let words = c.args.words.now in let i = c.loop-i.i in let word = c.word.result.now in
    let few : i < length words = omega (arith, c.loop-i-test.true, c.len-i-end.ensures) in
    let same = get_or_from_slice_get words i word [] c.word.ensures in
    let size = length-take-le i words (omega arith) in
    let more = drop-append-le 1 (take i words) (word ∷ []) (let f = c.loop-i.invariant.from in omega arith) in
    record {
      copied = search rules ∙ ap (λ l. l ++ word ∷ []) c.loop-i.invariant.copied ∙ sym (ap (drop 1) (take_more words i [] few ∙ ap (λ w. take i words ++ w ∷ []) same) ∙ more);
      from = let f = c.loop-i.invariant.from in omega arith;
    }
