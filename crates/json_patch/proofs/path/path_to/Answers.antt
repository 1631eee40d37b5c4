use Rattle.std.proofs.Common.{◌≡◌, List, Ok, sym, ap, ◌∙◌, subst, ◌∷◌, ◌++◌, ◌+◌, map, drop, string_bytes}
use Rattle.json_model.specs.Edit.{within, Step}
use Rattle.json_patch.specs.ValuesAt.{value_at_path}
use Rattle.json_patch.specs.Pointer.{ReferenceToken, path_of_tokens, step_of_token}
use Rattle.json_value.specs.Edits.{step_of as node_step, path_steps}
use Rattle.json_value.specs.Seen.{seen}
use Rattle.json_patch.specs.Lookups.{value_at_token}
use Rattle.json_patch.proofs.Lookups.{drop_item, path_of_tokens-next, value_at_path-next}
use Rattle.json_patch.proofs.path.path_to.Goals as goal

pub loop-token-preserved : goal.loop-token-preserved
loop-token-preserved c =
    let i = c.loop-token.token-index in
    let ks = c.args.tokens.now in
    let k = string_bytes c.token-item.result in
    let e : map string_bytes (drop i ks) ≡ k ∷ map string_bytes (drop (i + 1) ks) = ap (map string_bytes) (drop_item ks i c.token-item.result c.loop-token-test.true c.token-item.is) in
    let p = map string_bytes (drop (i + 1) ks) in
    let step = node_step c.in_ok-node.node in
    let a = path_steps c.loop-token.path in
    let named = subst (λ (b : ReferenceToken). value_at_token b (seen c.loop-token.here) ≡ Ok (seen c.in_ok-next.next)) c.deref.ensures (sym c.in_ok-next.ensures.tree) in
    let step_named = subst (λ (b : ReferenceToken). step_of_token b (seen c.loop-token.here) ≡ Ok step) c.deref-in-loop-token.ensures c.in_ok-node.ensures.ok in
    let so_far = c.loop-token.invariant.0 ∙ ap (λ (q : List ReferenceToken). within (λ r. a ++ r) (path_of_tokens q (seen c.loop-token.here))) e in (
      path_of_tokens-next k p (seen c.loop-token.here) (seen c.in_ok-next.next) step a (path_of_tokens (map string_bytes ks) (seen c.args.root)) so_far step_named named
          ∙ ap (λ (b : List Step). within (λ r. b ++ r) (path_of_tokens p (seen c.in_ok-next.next))) (sym c.in_ok-push.ensures.ok),
      ap (λ (b : List Step). value_at_path b (seen c.args.root)) c.in_ok-push.ensures.ok
          ∙ value_at_path-next k (seen c.loop-token.here) (seen c.in_ok-next.next) (seen c.args.root) step a c.loop-token.invariant.1 step_named named,
    )
