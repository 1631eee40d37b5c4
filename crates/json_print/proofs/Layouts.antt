-- The layouts of the two formatters.
use Rattle.std.proofs.Common.{◌≡◌, ℕ, List, [], ◌∷◌, ◌++◌, ◌∙◌, sym, ap, ap₂, refl, Bool, true, false, Some, None}
use Rattle.std.specs.Fmt.{decimal}
use Rattle.json_layout.specs.IndentBytes.{indent_bytes}
use Rattle.json_grammar.specs.Place.{closing}
use Rattle.json_layout.specs.Pieces.{closing_line, byte_elements, comma, holds_any}
use Rattle.json_print.specs.Calls.{FormatterCall, null_call, boolean_call, number_call, string_call, bytes_call, begin_string, end_string, begin_call, end_call, begin_element, end_element, begin_key, end_key, begin_member, end_member, raw_call, piece_of, level_after, flag_after, up, down}
use Rattle.json_print.specs.declared.pretty.PrettyFormatter.{PrettyFormatter}
use Rattle.json_print.specs.Layouts.{LaidOut, plain_form, pretty_form, pieces, pieces_of}

-- ---- without an indent the level and the flag change nothing

plain_end : (b : Bool) (d : ℕ) → closing_line b None d ≡ []
plain_end true d = refl
plain_end false d = refl

plain_elements : (d e : ℕ) (first : Bool) (bytes : List ℕ) → byte_elements None d first bytes ≡ byte_elements None e first bytes
plain_elements d e first [] = refl
plain_elements d e first (x ∷ bytes) = ap (λ l. comma first ++ (decimal x ++ l)) (plain_elements d e false bytes)

plain_piece : (d : ℕ) (b : Bool) (c : FormatterCall) → piece_of None 0 false c ≡ piece_of None d b c
plain_piece d b null_call = refl
plain_piece d b (boolean_call x) = refl
plain_piece d b (number_call x) = refl
plain_piece d b (string_call q x) = refl
plain_piece d b (bytes_call x) = ap₂ (λ p q. 91 ∷ (p ++ (q ++ 93 ∷ []))) (plain_elements (up 0) (up d) true x) (plain_end (holds_any x) (down (up 0)) ∙ sym (plain_end (holds_any x) (down (up d))))
plain_piece d b begin_string = refl
plain_piece d b end_string = refl
plain_piece d b (begin_call k) = refl
plain_piece d b (end_call k) = ap (λ p. p ++ closing k ∷ []) (sym (plain_end b (down d)))
plain_piece d b (begin_element first) = refl
plain_piece d b end_element = refl
plain_piece d b (begin_key first) = refl
plain_piece d b end_key = refl
plain_piece d b begin_member = refl
plain_piece d b end_member = refl
plain_piece d b (raw_call x) = refl

plain_from : {F : Type 0} (f : F) (d : ℕ) (b : Bool) (cs : List FormatterCall) → pieces plain_form f cs ≡ pieces_of None d b cs
plain_from f d b [] = refl
plain_from f d b (c ∷ cs) = ap₂ (λ x xs. x ∷ xs) (plain_piece d b c) (plain_from f (level_after d c) (flag_after b c) cs)

pub plain_laid : {F : Type 0} (f : F) → LaidOut plain_form f None 0 false
plain_laid f = plain_from f 0 false

pub pretty_from : (s : PrettyFormatter) (cs : List FormatterCall) → pieces pretty_form s cs ≡ pieces_of (Some (indent_bytes s.indent)) s.level s.flag cs
pretty_from s [] = refl
pretty_from s (c ∷ cs) = ap (λ xs. piece_of (Some (indent_bytes s.indent)) s.level s.flag c ∷ xs) (pretty_from (record s { level = level_after s.level c; flag = flag_after s.flag c }) cs)
