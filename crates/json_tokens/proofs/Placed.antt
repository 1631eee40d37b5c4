-- The position of a value that a source returns.
use Rattle.std.proofs.Common.{◌≡◌, ◌∙◌, Option, Some, None, IfSome, sym, ap, subst}
use Rattle.std.specs.Prelude.{option_map}
use Rattle.json_value.specs.Places.{places_in}
use Rattle.json_value.specs.ViewTargets.{ViewTarget, view_target}
use Rattle.json_value.specs.Positions.{doc_position}
use Rattle.json_value.specs.ViewPositions.{view_value_position, places_kept}
use Rattle.json_value.specs.declared.value.Value.{Value}
use Rattle.json_value.specs.declared.view.View.{View}
use Rattle.json_tokens.specs.declared.level.Level.{Level}
use Rattle.json_tokens.specs.declared.value_tokens.ValueTokens.{ValueTokens}
use Rattle.json_tokens.specs.Values.{next_target, IsMadeOf, value_placed}

stays : (P : ViewTarget → Type 0) (o : Option View) (l : Level) (x : Option ViewTarget) → option_map view_target o ≡ x → IfSome (next_target o l) P → IfSome x P
stays P (Some v) l x e h = subst (λ (y : Option ViewTarget). IfSome y P) e h
stays P None l x e h = subst (λ (y : Option ViewTarget). IfSome y P) e tt

-- reaching it changes nothing of that
pub placed_before : (a m : ValueTokens) → option_map view_target m.next ≡ next_target a.next a.inner → (v : Value) → value_placed m v → value_placed a v
placed_before a m e v h = stays (λ g. IsMadeOf g v) m.next m.inner (next_target a.next a.inner) e h

-- the value that is made of the next view
pub made_of_next : (a m : ValueTokens) (w : View) (v : Value) → option_map view_target m.next ≡ next_target a.next a.inner → m.next ≡ Some w
    → doc_position v ≡ view_value_position w → IfSome (places_kept w) (λ places. places_in v ≡ places) → value_placed a v
made_of_next a m w v e n s p =
    subst (λ (x : Option ViewTarget). IfSome x (λ g. IsMadeOf g v)) (sym (ap (option_map view_target) n) ∙ e) (record { expected = s; parts = p })
