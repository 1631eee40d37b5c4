use Rattle.std.proofs.Common.{inl, inr}
use Rattle.reshape.proofs.Spelled.{word_spells, none_spelled}
use Rattle.reshape.proofs.words.read_word.Goals as goal

pub returns-in-Ok-clause-ok : goal.returns-in-Ok-clause-ok
returns-in-Ok-clause-ok c = word_spells c.args.word.now c.in-Ok.list.items (λ l. cc (c.in-Ok.ensures.large l)) c.in-Ok.ensures.ok

pub returns-in-Err-clause-err : goal.returns-in-Err-clause-err
returns-in-Err-clause-err c =
    elim c.arguments_error.ensures.either [ inl m ↦ inl m | inr w ↦ inr (w.0, none_spelled c.args.word.now c.in-Err.error.code c.in-Err.error.place w.1 c.in-Err.ensures.err) ]
