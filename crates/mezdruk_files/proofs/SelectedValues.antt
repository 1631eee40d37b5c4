-- The values of views that a query selects, one more at a time, and how many there are.
use Rattle.std.proofs.Common.{◌≡◌, ℕ, ◌+◌, ◌<◌, List, [], ◌∷◌, ◌++◌, length, drop, map, get_or, sym, ap, ◌∙◌, append_assoc}
use Rattle.std.proofs.lemmas.List.{drop_more, length-map, map-append}
use Rattle.json_query.specs.Nodes.{Node, Nodelist, node_values}
use Rattle.json_value.specs.Denotes.{tree_of}
use Rattle.json_value.specs.Seen.{seen}
use Rattle.json_value.specs.declared.value.Value.{Value}
use Rattle.json_value.specs.declared.view.View.{View}

-- one more value, that of the view at i
pub one_more : (views : List View) (i : ℕ) (view : View) (values next : List Value) (v : Value) → i < length views → view ≡ get_or views i view → tree_of v ≡ seen view → next ≡ values ++ v ∷ []
    → map tree_of values ++ map seen (drop i views) ≡ map seen views → map tree_of next ++ map seen (drop (i + 1) views) ≡ map seen views
one_more views i view values next v l is same e h =
    let left = map seen (drop (i + 1) views) in
    ap (λ vs. map tree_of vs ++ left) e ∙ ap (λ ts. ts ++ left) (map-append tree_of values (v ∷ []))
    ∙ append_assoc (map tree_of values) (tree_of v ∷ []) left
    ∙ ap (λ t. map tree_of values ++ t ∷ left) same
    ∙ ap (λ vs. map tree_of values ++ map seen vs) (sym (drop_more views i view l ∙ ap (λ x. x ∷ drop (i + 1) views) (sym is)))
    ∙ h

-- as many views as nodes
pub as_many_views : (views : List View) (ns : Nodelist) → map seen views ≡ node_values ns → length ns ≡ length views
as_many_views views ns e = sym (length-map ns (λ (n : Node). n.value)) ∙ sym (ap length e) ∙ length-map views seen
