-- At most one argument is the first that is invalid, and a line that names it.
use Rattle.std.proofs.Common.{◌≡◌, ℕ, ◌<◌, List, Some, subst, ◌∙◌, ap, arith}
use Rattle.std.specs.Prelude.{slice_get}
use Rattle.mezdruk_help.specs.declared.usage.Usage.{Usage}
use Rattle.mezdruk_help.specs.Usage.{FirstInvalid, Names, argument_name, report_line}

not_below : (usage : Usage) (ws : List (List ℕ)) (i j : ℕ) → FirstInvalid usage ws i → FirstInvalid usage ws j → ¬ (i < j)
not_below usage ws i j a b less = a.invalid (b.before i less)

one_first : (usage : Usage) (ws : List (List ℕ)) (i j : ℕ) → FirstInvalid usage ws i → FirstInvalid usage ws j → i ≡ j
one_first usage ws i j a b = omega (arith, not_below usage ws i j a b, not_below usage ws j i b a)

-- a line that names the argument of an index, which is the first that is invalid
pub named : (usage : Usage) (ws : List (List ℕ)) (k i : ℕ) (w argument before after line : List ℕ) → FirstInvalid usage ws k → slice_get ws k ≡ Some w → argument ≡ argument_name k w → line ≡ report_line usage.program.now before argument after → FirstInvalid usage ws i → Names usage.program.now ws i line
named usage ws k i w argument before after line this is called says first =
    subst (λ (n : ℕ). Names usage.program.now ws n line) (one_first usage ws k i this first) (record { word = w; is = is; before = before; after = after; line = says ∙ ap (λ (a : List ℕ). report_line usage.program.now before a after) called })
