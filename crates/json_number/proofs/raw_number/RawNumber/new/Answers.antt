use Rattle.std.proofs.Common.{◌≡◌, ◌⊎◌, inl, inr, refl, List, ℕ, Result, Ok, Err}
use Rattle.std.specs.Result.{IfErr, OnOk}
use Rattle.std.proofs.lemmas.Bool.{both_ways}
use Rattle.json_grammar.specs.Grammar.{number}
use Rattle.json_io.specs.Errors.{no_memory}
use Rattle.json_io.specs.declared.error.Error.{Error}
use Rattle.json_number.specs.Errors.{invalid_number}
use Rattle.json_number.specs.declared.raw_number.RawNumber.{RawNumber}
use Rattle.json_number.proofs.raw_number.RawNumber.new.Goals as goal

pub returns-then-not-is_number-clause-err : goal.returns-then-not-is_number-clause-err
returns-then-not-is_number-clause-err c = inl (refl, λ n. both_ways _ c.if-not-is_number.true (c.is_number.ensures.1 n))

of_number : (l : List ℕ) (r : Result RawNumber Error) → number l → OnOk r (number l)
of_number l (Ok x) n = n
of_number l (Err e) n = tt

no_room : (l : List ℕ) (r : Result RawNumber Error) → number l → IfErr r (λ e. e ≡ no_memory) → IfErr r (λ e. ((e ≡ invalid_number) × ¬ (number l)) ⊎ ((e ≡ no_memory) × number l))
no_room l (Ok x) n h = tt
no_room l (Err e) n h = inr (h, n)

pub returns-clause-number : goal.returns-clause-number
returns-clause-number c = of_number c.args.literal.now c.from_literal.result (c.is_number.ensures.0 c.if-not-is_number.false)

pub returns-clause-err : goal.returns-clause-err
returns-clause-err c = no_room c.args.literal.now c.from_literal.result (c.is_number.ensures.0 c.if-not-is_number.false) c.from_literal.ensures.err
