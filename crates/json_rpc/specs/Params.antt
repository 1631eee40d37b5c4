-- The params of a request (JSON-RPC 2.0, section 4.2), by position or by name.
use Rattle.std.specs.Prelude.{ℕ, suc, List, [], ◌∷◌, length, ◌==◌, cond, Option, Some, None, slice_get, option_map, option_and_then}
use Rattle.json_grammar.specs.Tree.{Tree, list, trees_list}
use Rattle.json_doc.specs.Readings.{children}
use Rattle.json_rpc.specs.Requests.{named_member}

-- the param of a position and a name: the element there, or the value of the member
abbrev pub param_at : ℕ → List ℕ → Tree → Option Tree
param_at i name (list ts) = slice_get (trees_list ts) i
param_at i name t = named_member name t

-- the params of these names, of which the first has the position i
abbrev pub params_from : ℕ → List (List ℕ) → Tree → Option (List Tree)
params_from i [] t = Some []
params_from i (name ∷ names) t = option_and_then (λ u. option_map (λ us. u ∷ us) (params_from (suc i) names t)) (param_at i name t)

-- the params of these names where a request has none: only a method without names takes that
abbrev pub omitted_params : List (List ℕ) → Option (List Tree)
omitted_params [] = Some []
omitted_params (name ∷ names) = None

-- the params of these names in the order of their positions, if each is there and no other is
abbrev pub positional_params : List (List ℕ) → Option Tree → Option (List Tree)
positional_params names None = omitted_params names
positional_params names (Some t) = cond (length (children t) == length names) (params_from 0 names t) None
