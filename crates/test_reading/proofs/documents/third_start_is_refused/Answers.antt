use Rattle.std.proofs.Common.{◌≡◌, Bool, true, false, List, [], ◌∷◌, ◌++◌, refl, sym, ap, ◌∙◌}
use Rattle.std.specs.Bool.{OnTrue}
use Rattle.json_grammar.specs.declared.Kind.TheVariants.{Array as array}
use Rattle.json_grammar.specs.Tree.{Tree, list, no_trees, tree_and, Token, begin}
use Rattle.json_grammar.specs.TokenStates.{BeginsTree}
use Rattle.json_doc.specs.State.{VisitorState, after_event, HoldsMore}
use Rattle.json_doc.specs.Recorded.{visitor_state, Holds}
use Rattle.json_doc.specs.declared.document_visitor.DocumentVisitor.{DocumentVisitor}
use Rattle.test_reading.proofs.documents.third_start_is_refused.Goals as goal

nested : Tree → Tree
nested t = list (tree_and t no_trees)

one_start : BeginsTree (begin array ∷ [])
one_start = (list no_trees, _, refl)

two_starts : BeginsTree (begin array ∷ begin array ∷ [])
unfolding nested
two_starts = (nested (list no_trees), _, refl)

three_starts : BeginsTree (begin array ∷ begin array ∷ begin array ∷ [])
unfolding nested
three_starts = (nested (nested (list no_trees)), _, refl)

still_open : (old new : DocumentVisitor) (r : Bool) → visitor_state new ≡ after_event r 1 0 (visitor_state old) → new.full ≡ false → old.full ≡ false
still_open old new true after e = sym (ap (λ (s : VisitorState). s.full) after) ∙ e
still_open old new false after e = let both : true ≡ false = sym (ap (λ (s : VisitorState). s.full) after) ∙ e in absurd (cc)

then_holds : (old new : DocumentVisitor) (r : Bool) (ts : List Token) (x : Token) → visitor_state new ≡ after_event r 1 0 (visitor_state old) → OnTrue r (HoldsMore (Holds old) (Holds new) x)
    → Holds old ts → BeginsTree (ts ++ x ∷ []) → new.full ≡ false → Holds new (ts ++ x ∷ [])
then_holds old new true ts x after more held b e = more ts held b
then_holds old new false ts x after more held b e = let both : true ≡ false = sym (ap (λ (s : VisitorState). s.full) after) ∙ e in absurd (cc)

pub visit_array_start-requires : goal.visit_array_start-requires
visit_array_start-requires g c full = ([], c.in_ok-visitor.ensures.held, one_start)

pub visit_array_start-requires-2 : goal.visit_array_start-requires-2
visit_array_start-requires-2 g c full =
    let v = c.visit_array_start in
    (begin array ∷ [], then_holds c.in_ok-visitor.visitor v.new.self v.result [] (begin array) v.ensures.state v.ensures.held c.in_ok-visitor.ensures.held one_start full, two_starts)

pub visit_array_start-requires-3 : goal.visit_array_start-requires-3
visit_array_start-requires-3 g c full =
    let v = c.visit_array_start in
    let w = c.visit_array_start-2 in
    let open_before = still_open v.new.self w.new.self w.result w.ensures.state full in
    let held = then_holds c.in_ok-visitor.visitor v.new.self v.result [] (begin array) v.ensures.state v.ensures.held c.in_ok-visitor.ensures.held one_start open_before in
    (begin array ∷ begin array ∷ [], then_holds v.new.self w.new.self w.result (begin array ∷ []) (begin array) w.ensures.state w.ensures.held held two_starts full, three_starts)
