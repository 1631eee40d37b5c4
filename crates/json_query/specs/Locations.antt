-- What is at a location (RFC 9535, section 1.1): the value there, and of a view what a view of it is
-- of.
use Rattle.std.specs.Prelude.{ℕ, List, [], ◌∷◌, map, cond, Option, None, Some, option_and_then, slice_get, bytes_eq}
use Rattle.json_grammar.specs.Tree.{Tree, list, pairs, trees_list, pairs_list}
use Rattle.json_value.specs.TargetParts.{target_elements, target_members}
use Rattle.json_value.specs.ViewTargets.{ViewTarget}
use Rattle.json_query.specs.Nodes.{Nodelist, Node, LocationStep, element_at, member_at, Location}

-- what the member has, if its name is k
abbrev pub value_if_named : {X : Type 0} → List ℕ → Option (List ℕ × X) → Option X
value_if_named k None = None
value_if_named k (Some m) = cond (bytes_eq m.0 k) (Some m.1) None

-- the value to which a step leads
abbrev pub value_at_step : LocationStep → Tree → Option Tree
value_at_step (element_at i) (list ts) = slice_get (trees_list ts) i
value_at_step (member_at i k) (pairs ps) = value_if_named k (slice_get (pairs_list ps) i)
value_at_step _ _ = None

-- the value at a location
abbrev pub value_at : Location → Tree → Option Tree
value_at [] t = Some t
value_at (s ∷ l) t = option_and_then (value_at l) (value_at_step s t)

-- what a view of that value is of, by what the view of the whole is of
abbrev pub target_at_step : LocationStep → ViewTarget → Option ViewTarget
target_at_step (element_at i) v = option_and_then (λ ts. slice_get ts i) (target_elements v)
target_at_step (member_at i k) v = option_and_then (λ ms. value_if_named k (slice_get ms i)) (target_members v)

abbrev pub target_at : Location → ViewTarget → Option ViewTarget
target_at [] v = Some v
target_at (s ∷ l) v = option_and_then (target_at l) (target_at_step s v)

-- the same at the location of each node
abbrev pub node_targets : ViewTarget → Nodelist → List (Option ViewTarget)
node_targets v ns = map (λ (n : Node). target_at n.location v) ns
