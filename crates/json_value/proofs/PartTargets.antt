-- What the views of parts are of, one part at a time.
use Rattle.std.proofs.Common.{◌≡◌, ℕ, zero, suc, ◌+◌, List, [], ◌∷◌, Option, Some, None, length, map, refl, sym, ap, ◌∙◌, arith}
use Rattle.std.specs.Prelude.{slice_get}
use Rattle.std.specs.List.{enumerate_from}
use Rattle.std.proofs.lemmas.List.{length-map}
use Rattle.std.proofs.lemmas.List.FromFn.{length-enumerate_from}
use Rattle.json_grammar.specs.Tree.{Tree}
use Rattle.json_doc.specs.Seen.{child_place, view_doc, view_place}
use Rattle.json_doc.specs.declared.doc.Doc.{Doc}
use Rattle.json_doc.specs.declared.view.DocView.{DocView}
use Rattle.json_value.specs.Denotes.{text_bytes}
use Rattle.json_value.specs.ViewTargets.{ViewTarget, doc_held, form_target}
use Rattle.json_value.specs.TargetParts.{child_target, elements_at, members_at, pair_target}
use Rattle.json_value.specs.declared.packed_view.PackedView.{PackedView}
use Rattle.json_value.specs.declared.pair.Keyed.{Keyed}
use Rattle.json_value.specs.declared.value.Value.{Value}
use Rattle.json_value.specs.declared.view.ViewForm.TheVariants as whole
use Rattle.json_doc_print.proofs.Items.{map_there}

-- the items of a list, seen with their numbers
got_numbered : {X Y : Type 0} (f : ℕ × X → Y) (xs : List X) (n i : ℕ) (x : X) → slice_get xs i ≡ Some x → slice_get (map f (enumerate_from n xs)) i ≡ Some (f (n + i, x))
got_numbered f [] n i x e = absurd (cc)
got_numbered f (y ∷ ys) n zero x e = let s : y ≡ x = cc in let z : n ≡ n + zero = omega arith in ap (λ z. Some (f (n, z))) s ∙ ap (λ m. Some (f (m, x))) z
got_numbered f (y ∷ ys) n (suc i) x e = let z : (n + 1) + i ≡ n + suc i = omega arith in got_numbered f ys (n + 1) i x e ∙ ap (λ m. Some (f (m, x))) z

none_numbered : {X Y : Type 0} (f : ℕ × X → Y) (xs : List X) (n i : ℕ) → slice_get xs i ≡ None → slice_get (map f (enumerate_from n xs)) i ≡ None
none_numbered f [] n zero e = refl
none_numbered f [] n (suc i) e = refl
none_numbered f (y ∷ ys) n zero e = absurd (cc)
none_numbered f (y ∷ ys) n (suc i) e = none_numbered f ys (n + 1) i e

from_zero : (i : ℕ) → 0 + i ≡ i
from_zero i = omega arith

-- an element of a packed array
pub element_got : (d : Doc) (held : Option Doc) (at : ℕ) (ts : List Tree) (i : ℕ) (t : Tree) → slice_get ts i ≡ Some t → slice_get (elements_at d held at ts) i ≡ Some (child_target d held at i)
element_got d held at ts i t e = got_numbered (λ (q : ℕ × Tree). child_target d held at q.0) ts 0 i t e ∙ ap (λ m. Some (child_target d held at m)) (from_zero i)

pub no_element_got : (d : Doc) (held : Option Doc) (at : ℕ) (ts : List Tree) (i : ℕ) → slice_get ts i ≡ None → slice_get (elements_at d held at ts) i ≡ None
no_element_got d held at ts i e = none_numbered (λ (q : ℕ × Tree). child_target d held at q.0) ts 0 i e

-- a member of a packed object
pub member_got : (d : Doc) (held : Option Doc) (at : ℕ) (ps : List (List ℕ × Tree)) (i : ℕ) (k : List ℕ) (t : Tree) → slice_get ps i ≡ Some (k, t) → slice_get (members_at d held at ps) i ≡ Some (k, child_target d held at i)
member_got d held at ps i k t e = got_numbered (λ (q : ℕ × (List ℕ × Tree)). (q.1.0, child_target d held at q.0)) ps 0 i (k, t) e ∙ ap (λ m. Some (k, child_target d held at m)) (from_zero i)

pub no_member_got : (d : Doc) (held : Option Doc) (at : ℕ) (ps : List (List ℕ × Tree)) (i : ℕ) → slice_get ps i ≡ None → slice_get (members_at d held at ps) i ≡ None
no_member_got d held at ps i e = none_numbered (λ (q : ℕ × (List ℕ × Tree)). (q.1.0, child_target d held at q.0)) ps 0 i e

-- the view of a child of what is seen of a document
pub child_shown : (p b : PackedView) (e : DocView) (i : ℕ) → b.view ≡ e → b.holder ≡ p.holder → view_doc e ≡ view_doc p.view → view_place e ≡ child_place (view_doc p.view) (view_place p.view) i
    → form_target (whole.Packed b) ≡ child_target (view_doc p.view) (doc_held p.holder) (view_place p.view) i
child_shown p b e i v h d a = cc
