-- The text of a datum that is appended to memory.
use Rattle.std.proofs.Common.{◌≡◌, ℕ, ◌⊎◌, inl, inr, List, Option, Some, None, option_map, Ok, Err, sym, ap, subst, ◌∙◌, IsUtf8}
use Rattle.json_grammar.specs.Tree.{Tree}
use Rattle.json_model.specs.Datum.{Datum, tree_of_datum}
use Rattle.json_model.specs.Print.{shown}
use Rattle.json_io.specs.declared.error.Error.{Error}
use Rattle.json_io.specs.Errors.{no_memory, key_has_no_text}
use Rattle.json_print.specs.Data.{parts, before_gap}
use Rattle.json_print.specs.Taking.{after_all}
use Rattle.json_print.proofs.Data.{whole_tree, gap_tree}
use Rattle.json_buffer.specs.TextState.{TextState, token_put, given_put, StopsAtMemory, empty_text}
use Rattle.json_write.specs.Writing.{WritesDatumTokens}
use Rattle.json_write.proofs.Parts.{wrote}
use Rattle.json_write.proofs.Proper.{shown_utf8}
use Rattle.json_write.proofs.Refused.{refused_or}
use Rattle.json_buffer.proofs.TextLaws.{tree_put, given_all}

pub record TextOf (d : Datum) (bytes : List ℕ) : Type 0 where
  pub tree : Tree
  pub is : tree_of_datum d ≡ Some tree
  pub text : bytes ≡ shown None 0 tree
  pub utf8 : IsUtf8 bytes

-- all of it was appended
pub text_put : {old new : TextState} {err failed : Option Error} {u : Unit {0}} (d : Datum) → old ≡ empty_text → WritesDatumTokens given_put StopsAtMemory old new err failed (parts d) (Ok u) → TextOf d new.bytes
text_put {old = old} {new = new} d starts h =
    let v = wrote h in let t = whole_tree d v.whole in
    let text : new.bytes ≡ shown None 0 t.tree =
    ap (λ (s : TextState). s.bytes) (v.state ∙ ap (λ s. after_all given_put s (before_gap (parts d))) starts ∙ given_all empty_text (before_gap (parts d)) ∙ ap (λ ts. after_all token_put empty_text ts) t.spelled ∙ tree_put 0 t.tree empty_text) in
    record { tree = t.tree; is = t.is; text = text; utf8 = subst IsUtf8 (sym text) (shown_utf8 None t.tree (before_gap (parts d)) tt t.spelled v.proper) }

pub text_is : (d : Datum) (bytes : List ℕ) → TextOf d bytes → option_map (shown None 0) (tree_of_datum d) ≡ Some bytes
text_is d bytes t = ap (option_map (shown None 0)) t.is ∙ ap Some (sym t.text)

pub text_refused : {old new : TextState} {err failed : Option Error} {e : Error} (d : Datum) → err ≡ None → WritesDatumTokens given_put StopsAtMemory old new err failed (parts d) (Err e) → (e ≡ no_memory) ⊎ ((e ≡ key_has_no_text) × (tree_of_datum d ≡ None))
text_refused d n h = elim (refused_or n h) [ inl q ↦ inr (q.is, gap_tree d q.gap) | inr s ↦ inl s.left ]
