-- Operations that a writer of a patch appends in turn.
use Rattle.std.proofs.Common.{◌≡◌, ℕ, List, [], ◌∷◌, ◌++◌, append_assoc, append-nil, length, map, take, Option, sym, ap, ap₂, ◌∙◌, codes, string_bytes}
use Rattle.std.proofs.lemmas.List.{map-append, take_at}
use Rattle.json_grammar.specs.Tree.{Tree, text, no_pairs, pair_and}
use Rattle.json_patch.specs.Pointer.{ReferenceToken, slash, escaped_token}
use Rattle.json_patch.specs.Patch.{Operation, replace}
use Rattle.json_diff.specs.DiffDocument.{operation_members, operation_below}
use Rattle.json_diff.specs.DiffParts.{child_operations, operations_at}
use Rattle.json_diff.specs.DiffWriting.{AppendsTrees, AppendsOperations}
use Rattle.json_diff.specs.declared.between.PatchWriter.{PatchWriter}
use Rattle.json_value.specs.Denotes.{tree_of}
use Rattle.json_diff.proofs.DiffParts.{child_below}

abbrev trees : PatchWriter → List Tree
trees w = map tree_of w.operations.items

abbrev pointer : PatchWriter → List ℕ
pointer w = string_bytes w.path

-- what is appended, and the operations that remain, are all of them
abbrev pub Remains : PatchWriter → PatchWriter → List Operation → List Operation → Type 0
Remains old new rest all = (map tree_of new.operations.items ++ map (operation_below (string_bytes old.path)) rest ≡ map tree_of old.operations.items ++ map (operation_below (string_bytes old.path)) all) × (string_bytes new.path ≡ string_bytes old.path)

-- ---- one after another

joined : (xs : List Tree) (b : List ℕ) (os ps : List Operation) → (xs ++ map (operation_below b) os) ++ map (operation_below b) ps ≡ xs ++ map (operation_below b) (os ++ ps)
joined xs b os ps = append_assoc xs (map (operation_below b) os) (map (operation_below b) ps) ∙ ap (λ ts. xs ++ ts) (sym (map-append (operation_below b) os ps))

pub writes_both : (old mid new : PatchWriter) (os ps all : List Operation) → all ≡ os ++ ps → AppendsOperations old mid os → AppendsOperations mid new ps → AppendsOperations old new all
writes_both old mid new os ps all e h g =
    (g.0 ∙ ap₂ (λ ts b. ts ++ map (operation_below b) ps) h.0 h.1 ∙ joined (trees old) (pointer old) os ps ∙ ap (λ qs. trees old ++ map (operation_below (pointer old)) qs) (sym e), g.1 ∙ h.1)

pub writes_as : (old new : PatchWriter) (os ps : List Operation) → ps ≡ os → AppendsOperations old new os → AppendsOperations old new ps
writes_as old new os ps e h = (h.0 ∙ ap (λ qs. trees old ++ map (operation_below (pointer old)) qs) (sym e), h.1)

pub remains_as : (old new : PatchWriter) (os ps all : List Operation) → os ≡ ps → Remains old new os all → Remains old new ps all
remains_as old new os ps all e h = (ap (λ qs. trees new ++ map (operation_below (pointer old)) qs) (sym e) ∙ h.0, h.1)

pub remains_more : (old mid new : PatchWriter) (os rest left all : List Operation) → left ≡ os ++ rest → Remains old mid left all → AppendsOperations mid new os → Remains old new rest all
remains_more old mid new os rest left all e h g = (
  ap (λ ts. ts ++ map (operation_below (pointer old)) rest) (g.0 ∙ ap (λ b. trees mid ++ map (operation_below b) os) h.1) ∙ joined (trees mid) (pointer old) os rest
      ∙ ap (λ qs. trees mid ++ map (operation_below (pointer old)) qs) (sym e) ∙ h.0,
  g.1 ∙ h.1,
)

pub remains_last : (old mid new : PatchWriter) (os left all : List Operation) → left ≡ os → Remains old mid left all → AppendsOperations mid new os → AppendsOperations old new all
remains_last old mid new os left all e h g = (g.0 ∙ ap₂ (λ b ps. trees mid ++ map (operation_below b) ps) h.1 (sym e) ∙ h.0, g.1 ∙ h.1)

-- ---- one operation

pub writes_replaced : (old new : PatchWriter) (u : Tree) → AppendsTrees old new (operation_members (codes "replace") (text (string_bytes old.path)) (pair_and (codes "value") u no_pairs) ∷ []) → AppendsOperations old new (replace [] u ∷ [])
writes_replaced old new u h = (h.0 ∙ ap (λ p. trees old ++ operation_members (codes "replace") (text p) (pair_and (codes "value") u no_pairs) ∷ []) (sym (append-nil (pointer old))), h.1)

-- ---- below a token: it is appended to the pointer, and taken off again

below_token : (old mid next new : PatchWriter) (k : ReferenceToken) (n : ℕ) (os ps : List Operation) → map (operation_below (string_bytes old.path ++ (slash ∷ escaped_token k))) os ≡ map (operation_below (string_bytes old.path)) ps
    → string_bytes mid.path ≡ string_bytes old.path ++ (slash ∷ escaped_token k) → mid.operations ≡ old.operations → n ≡ length (string_bytes old.path) → AppendsOperations mid next os → new.operations ≡ next.operations → string_bytes new.path ≡ take n (string_bytes next.path)
    → AppendsOperations old new ps
below_token old mid next new k n os ps same token kept len h out back = (
  ap (λ v. map tree_of v.items) out ∙ h.0 ∙ ap₂ (λ v b. map tree_of v.items ++ map (operation_below b) os) kept token ∙ ap (λ ts. trees old ++ ts) same,
  back ∙ ap (take n) (h.1 ∙ token) ∙ take_at (pointer old) (slash ∷ escaped_token k) n (sym len),
)

pub writes_child : (old mid next new : PatchWriter) (k : ReferenceToken) (n : ℕ) (o : Option Tree) (u : Tree) → string_bytes mid.path ≡ string_bytes old.path ++ (slash ∷ escaped_token k) → mid.operations ≡ old.operations → n ≡ length (string_bytes old.path)
    → AppendsOperations mid next (child_operations o u) → new.operations ≡ next.operations → string_bytes new.path ≡ take n (string_bytes next.path) → AppendsOperations old new (operations_at k o u)
writes_child old mid next new k n o u = below_token old mid next new k n (child_operations o u) (operations_at k o u) (child_below (pointer old) k o u)
