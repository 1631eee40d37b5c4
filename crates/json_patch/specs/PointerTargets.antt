-- What a pointer leads to of what is seen: the place itself.
use Rattle.std.specs.Prelude.{ℕ, List, Option, option_and_then, option_map}
use Rattle.std.specs.Result.{result_ok}
use Rattle.json_grammar.specs.Tree.{Tree}
use Rattle.json_value.specs.Seen.{first_of}
use Rattle.json_value.specs.TargetParts.{target_after, target_along}
use Rattle.json_value.specs.ViewTargets.{ViewTarget}
use Rattle.json_patch.specs.Pointer.{ReferenceToken, step_of_token, path_of_tokens}

-- where a token leads to, from what is seen of this tree
abbrev pub target_at_token : ReferenceToken → Tree → ViewTarget → Option ViewTarget
target_at_token k t s = option_and_then (λ x. target_after x s) (result_ok (step_of_token k t))

-- where the path that the tokens are leads to
abbrev pub target_at_pointer : List ReferenceToken → Tree → ViewTarget → Option ViewTarget
target_at_pointer p t s = option_and_then (λ q. target_along q s) (result_ok (path_of_tokens p t))

-- what is seen of the first member of a key
abbrev pub first_target : List ℕ → List (List ℕ × ViewTarget) → Option ViewTarget
first_target k ms = option_map (λ (m : List ℕ × ViewTarget). m.1) (first_of k ms)
