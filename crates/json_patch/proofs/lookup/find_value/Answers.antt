use Rattle.std.proofs.Common.{◌≡◌, List, Ok, Some, sym, ap, ◌∙◌, subst, ◌∷◌, ◌+◌, map, drop, string_bytes}
use Rattle.json_model.specs.Edit.{and_then}
use Rattle.json_value.specs.Seen.{seen}
use Rattle.json_value.specs.ViewTargets.{view_target}
use Rattle.json_patch.specs.Lookups.{value_at_token}
use Rattle.json_patch.specs.Pointer.{ReferenceToken, value_at_pointer}
use Rattle.json_patch.specs.PointerTargets.{target_at_token, target_at_pointer}
use Rattle.json_patch.proofs.Lookups.{drop_item, value_at_pointer-cons}
use Rattle.json_patch.proofs.PointerTargets.{target_at_pointer-next}
use Rattle.json_patch.proofs.lookup.find_value.Goals as goal

pub loop-token-preserved : goal.loop-token-preserved
loop-token-preserved c =
    let i = c.loop-token.token-index in
    let ks = c.args.tokens.now in
    let k = string_bytes c.token-item.result in
    let p = map string_bytes (drop (i + 1) ks) in
    let here = c.loop-token.here in
    let next = c.in_ok-here.here in
    let e : map string_bytes (drop i ks) ≡ k ∷ p = ap (map string_bytes) (drop_item ks i c.token-item.result c.loop-token-test.true c.token-item.is) in
    let named = subst (λ (b : ReferenceToken). value_at_token b (seen here) ≡ Ok (seen next)) c.deref.ensures (sym c.in_ok-here.ensures.tree) in
    let placed = subst (λ (b : ReferenceToken). target_at_token b (seen here) (view_target here) ≡ Some (view_target next)) c.deref.ensures c.in_ok-here.ensures.target in
    record {
      tree = c.loop-token.invariant.tree ∙ ap (λ q. value_at_pointer q (seen here)) e ∙ value_at_pointer-cons k p (seen here) ∙ ap (λ r. and_then r (value_at_pointer p)) named;
      target = c.loop-token.invariant.target ∙ ap (λ q. target_at_pointer q (seen here) (view_target here)) e ∙ target_at_pointer-next k p (seen here) (seen next) (view_target here) (view_target next) named placed;
    }
