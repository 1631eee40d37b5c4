-- A string that is put between quotes: what is before it, its blocks, and what is left of it.
use Rattle.std.proofs.Common.{◌≡◌, ℕ, List, [], ◌∷◌, ◌++◌, take, drop, Bool, Ok, Err, Result, sym, ap, subst, ◌∙◌, append_assoc, append-nil}
use Rattle.std.proofs.lemmas.List.{take-append-drop}
use Rattle.json_model.specs.Print.{quoted, shown_bytes}
use Rattle.json_model.proofs.Printing.{shown_append}
use Rattle.json_io.specs.declared.sink.SinkError.{SinkError}
use Rattle.json_io.specs.Outside.{SinkState}
use Rattle.json_layout.specs.Adding.{Adds}
use Rattle.json_layout.specs.Pieces.{comma}
use Rattle.json_layout.proofs.Escapes.{shown_failed}
use Rattle.json_layout.proofs.Pieces.{Adds-first, Adds-then}

parts : (lead text : List ℕ) (at : ℕ) → (lead ++ 34 ∷ []) ++ (shown_bytes (take at text) ++ (shown_bytes (drop at text) ++ 34 ∷ [])) ≡ lead ++ quoted text
parts lead text at =
    append_assoc lead (34 ∷ []) (shown_bytes (take at text) ++ (shown_bytes (drop at text) ++ 34 ∷ []))
    ∙ ap (λ x. lead ++ 34 ∷ x) (sym (append_assoc (shown_bytes (take at text)) (shown_bytes (drop at text)) (34 ∷ []))
    ∙ ap (λ x. x ++ 34 ∷ []) (sym (shown_append (take at text) (drop at text)) ∙ ap shown_bytes (take-append-drop at text)))

pub quoted_whole : (a b c d : SinkState) (first : Bool) (text rest : List ℕ) (at : ℕ) (u v : Unit {0}) (r : Result (Unit {0}) SinkError) → rest ≡ drop at text
    → Adds a b (comma first ++ 34 ∷ []) (Ok u) → Adds b c (shown_bytes (take at text)) (Ok v) → Adds c d (shown_bytes rest ++ 34 ∷ []) r → Adds a d (comma first ++ quoted text) r
quoted_whole a b c d first text rest at u v r e p q s =
    let last : Adds c d (shown_bytes (drop at text) ++ 34 ∷ []) r = subst (λ x. Adds c d (shown_bytes x ++ 34 ∷ []) r) e s in
    subst (λ x. Adds a d x r) (parts (comma first) text at) (Adds-then a b d _ _ u r p (Adds-then b c d _ _ v r q last))

pub lead_failed : (a b : SinkState) (first : Bool) (text : List ℕ) (e : SinkError) → Adds a b (comma first ++ 34 ∷ []) (Err e) → Adds a b (comma first ++ quoted text) (Err e)
lead_failed a b first text e h =
    let rest = shown_bytes text ++ 34 ∷ [] in subst (λ x. Adds a b x (Err e)) (append_assoc (comma first) (34 ∷ []) rest) (Adds-first a b (comma first ++ 34 ∷ []) rest e h)

pub blocks_failed : (a b c : SinkState) (first : Bool) (text : List ℕ) (u : Unit {0}) (e : SinkError) → Adds a b (comma first ++ 34 ∷ []) (Ok u) → Adds b c (shown_bytes text) (Err e) → Adds a c (comma first ++ quoted text) (Err e)
blocks_failed a b c first text u e p q =
    let rest = shown_bytes text ++ 34 ∷ [] in
    subst (λ x. Adds a c x (Err e)) (append_assoc (comma first) (34 ∷ []) rest) (Adds-then a b c (comma first ++ 34 ∷ []) rest u (Err e) p (Adds-first b c (shown_bytes text) (34 ∷ []) e q))

-- no room could be made after the first blocks
pub block_failed : (a b c : SinkState) (text : List ℕ) (at : ℕ) (e : SinkError) → Adds a b (shown_bytes (take at text)) (Ok tt) → Adds b c [] (Err e) → Adds a c (shown_bytes text) (Err e)
block_failed a b c text at e p q =
    shown_failed a c text at e (subst (λ x. Adds a c x (Err e)) (append-nil (shown_bytes (take at text))) (Adds-then a b c (shown_bytes (take at text)) [] tt (Err e) p q))
