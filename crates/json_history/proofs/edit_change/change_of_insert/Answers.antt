use Rattle.std.proofs.Common.{ℕ, List, [], ◌∷◌, ◌++◌, Some, None, sym, ap, ◌∙◌}
use Rattle.std.specs.Prelude.{option_map}
use Rattle.json_grammar.specs.Tree.{Tree}
use Rattle.json_model.specs.Edit.{key_step}
use Rattle.json_value.specs.Denotes.{tree_of, text_bytes}
use Rattle.json_value.specs.Edits.{path_steps}
use Rattle.json_value.specs.Seen.{seen, members_seen, first_of}
use Rattle.json_value.specs.TargetParts.{members_targets, target_along}
use Rattle.json_value.specs.ViewTargets.{ViewTarget, view_target}
use Rattle.json_history.specs.Change.{put, drop_last}
use Rattle.json_history.proofs.EditChanges.{insert_change_found}
use Rattle.json_history.proofs.SharedTargets.{target_one_more, target_of_key}
use Rattle.json_history.proofs.edit_change.change_of_insert.Goals as goal

pub returns-in_ok-path-in-Some-get-clause-tree_change : goal.returns-in_ok-path-in-Some-get-clause-tree_change
returns-in_ok-path-in-Some-get-clause-tree_change c =
    let p = path_steps c.args.path.now in
    let k = text_bytes c.args.key.now in
    let ms = members_seen c.in-Some.object in
    ap (λ q. Some (put q (tree_of c.in_ok-old-in-Some-get.old))) c.in_ok-path-in-Some-get.ensures.path
    ∙ ap (λ t. Some (put (p ++ key_step k ∷ []) t)) c.in_ok-old-in-Some-get.ensures.tree
    ∙ insert_change_found p k (seen c.args.target) ms (Some (seen c.in-Some-get.old)) (sym c.in-Some.ensures.trees)
    (ap (λ n. option_map (λ (q : List ℕ × Tree). q.1) (first_of n ms)) (sym c.as_str.ensures) ∙ sym c.in-Some-get.ensures.tree)

pub returns-in_ok-path-in-None-clause-tree_change : goal.returns-in_ok-path-in-None-clause-tree_change
returns-in_ok-path-in-None-clause-tree_change c =
    let p = path_steps c.args.path.now in
    let k = text_bytes c.args.key.now in
    let ms = members_seen c.in-Some.object in
    ap (λ q. Some (drop_last q)) c.in_ok-path-in-None.ensures.path
    ∙ insert_change_found p k (seen c.args.target) ms None (sym c.in-Some.ensures.trees)
    (ap (λ n. option_map (λ (q : List ℕ × Tree). q.1) (first_of n ms)) (sym c.as_str.ensures) ∙ sym c.in-None.ensures.tree)

pub returns-in_ok-path-in-Some-get-clause-shares : goal.returns-in_ok-path-in-Some-get-clause-shares
returns-in_ok-path-in-Some-get-clause-shares c root there =
    let p = path_steps c.args.path.now in
    let k = text_bytes c.args.key.now in
    let target = view_target c.args.target in
    let ms = members_targets c.in-Some.object in
    let old = view_target c.in-Some-get.old in
    let found = target_of_key k target old ms (sym c.in-Some.ensures.targets) (ap (λ n. option_map (λ (q : List ℕ × ViewTarget). q.1) (first_of n ms)) (sym c.as_str.ensures) ∙ sym c.in-Some-get.ensures.target) in
    record {
      target = old;
      there = ap (λ q. target_along q root) c.in_ok-path-in-Some-get.ensures.path ∙ target_one_more p (key_step k) root target old there found;
      shared = (c.in_ok-old-in-Some-get.ensures.position, c.in_ok-old-in-Some-get.ensures.places);
    }
