-- The tree of what may be missing, and what is read of the number that a tree is.
use Rattle.std.specs.Prelude.{ℕ, ℤ, List, Option, None, Some, Result, Ok, Err, option_and_then}
use Rattle.json_grammar.specs.Tree.{Tree, null, num}
use Rattle.json_number.specs.Integers.{in_i64, in_u64}
use Rattle.json_doc.specs.Readings.{integer_in_tree}

-- the tree of the value, where there is one, and null where there is none
abbrev pub option_tree : {V : Type 0} → (V → Tree) → Option V → Tree
option_tree tree None = null
option_tree tree (Some v) = tree v

-- so where there is an error
abbrev pub result_tree : {V E : Type 0} → (V → Tree) → Result V E → Tree
result_tree tree (Ok v) = tree v
result_tree tree (Err e) = null

-- what the value gives, where there is one, and nothing where there is an error
abbrev pub result_value : {V E A : Type 0} → (V → Option A) → Result V E → Option A
result_value f (Ok v) = f v
result_value f (Err e) = None

-- the literal of the number
abbrev pub spelling : Tree → Option (List ℕ)
spelling (num l) = Some l
spelling _ = None

-- the integer of the number, where it lies in `i64`, and where it lies in `u64`
abbrev pub i64_of : Tree → Option ℤ
i64_of t = option_and_then in_i64 (integer_in_tree t)

abbrev pub u64_of : Tree → Option ℕ
u64_of t = option_and_then in_u64 (integer_in_tree t)
