-- Numbers and lists of them, read element by element.
use Rattle.std.proofs.Common.{◌≡◌, refl, sym, ap}
use Rattle.json_grammar.specs.Tree.{Trees, no_trees, tree_and}
use Rattle.json_data.specs.Reading.{Series, each, prepend_reading}
use Rattle.test_samples.specs.Nested.{read_nested, each_nested}

pub each-read : (ts : Trees) → each_nested ts ≡ each read_nested ts
each-read no_trees = refl
each-read (tree_and t ts) = ap (λ (s : Series). prepend_reading (read_nested t) s) (each-read ts)
