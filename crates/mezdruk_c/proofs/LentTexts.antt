-- What a document lends is the text.
use Rattle.std.proofs.Common.{◌≡◌, ◌≢◌, ℕ, ◌+◌, ◌-◌, ◌<◌, ◌≤◌, List, length, take, drop, get_or, Bool, true, false, Option, Some, None, MatchOption, IsSomeAnd, option_map, refl, sym, ap, subst, ◌∙◌, arith}
use Rattle.std.specs.Prelude.{slice_get, slice_range, nat_lt}
use Rattle.std.specs.Option.{option_and_then}
use Rattle.std.proofs.lemmas.Bool.{lt-ltb}
use Rattle.std.proofs.lemmas.List.{length-take-le, length-drop}
use denote.RawPtr.{◌+ₚ◌}
use Rattle.json_grammar.specs.Tree.{Tree, null, boolean, num, text, list, pairs}
use Rattle.json_number.specs.Integers.{integer_in}
use Rattle.json_doc.specs.Docs.{doc_cells, doc_text, doc_tree}
use Rattle.json_doc.specs.Readings.{literal_of, literal_unless, string_of, object_keys}
use Rattle.json_doc.specs.Shape.{first_byte, span_of}
use Rattle.json_doc.specs.declared.cell.Cell.{Cell}
use Rattle.json_doc.specs.declared.cell.Cell.TheVariants as cell
use Rattle.json_doc.specs.declared.doc.Doc.{Doc}
use Rattle.json_doc.proofs.Shown.{text_tree_at, num_at, raw_at, no_string_at, no_literal_at}
use Rattle.mezdruk_c.specs.Lending.{LendsText}
use Rattle.mezdruk_c.specs.Payloads.{tree_if, tree_at_node, node_text, member_name}
use Rattle.mezdruk_c.specs.Trees.{text_or_literal}
use Rattle.mezdruk_c.specs.declared.parsed.BorrowedBytes.{BorrowedBytes}
use Rattle.mezdruk_c.specs.declared.parsed.Parsed.{Parsed}

-- a range within a list is as long as it says
range_length : (bytes : List ℕ) (start len : ℕ) → start + len ≤ length bytes → length (slice_range bytes start (start + len)) ≡ len
range_length bytes start len h =
    let n : (start + len) - start ≤ length (drop start bytes) = omega (arith, length-drop start bytes) in length-take-le ((start + len) - start) (drop start bytes) n ∙ omega arith

-- so many bytes from there on are the text of that range
pub range_lent : (p : Parsed) (o : Option (List ℕ)) (start len : ℕ) (l : BorrowedBytes) → o ≡ Some (slice_range (doc_text p.doc.value) start (start + len)) → start + len ≤ length (doc_text p.doc.value) → l.bytes ≡ p.texts +ₚ start → l.length ≡ len
    → MatchOption o (Some l ≡ None) (λ s. IsSomeAnd (Some l) (λ l. LendsText p s l.bytes l.length))
range_lent p o start len l is within at n =
    subst (λ (o : Option (List ℕ)). MatchOption o (Some l ≡ None) (λ s. IsSomeAnd (Some l) (λ l. LendsText p s l.bytes l.length))) (sym is)
    (record { start = start; counted = n ∙ sym (range_length (doc_text p.doc.value) start len within); among = ap (λ (k : ℕ). slice_range (doc_text p.doc.value) start (start + k)) n; at = at })

abbrev nothing : Option BorrowedBytes
nothing = None

-- no text is lent where there is none
pub none_lent : (p : Parsed) (o : Option (List ℕ)) → o ≡ None → MatchOption o (nothing ≡ None) (λ s. IsSomeAnd nothing (λ l. LendsText p s l.bytes l.length))
none_lent p o e = subst (λ (o : Option (List ℕ)). MatchOption o (nothing ≡ None) (λ s. IsSomeAnd nothing (λ l. LendsText p s l.bytes l.length))) (sym e) refl

no_text : (t : Tree) → string_of t ≡ None → literal_of t ≡ None → text_or_literal t ≡ None
no_text (text s) h k = h
no_text (num l) h k = k
no_text null h k = refl
no_text (boolean b) h k = refl
no_text (list ts) h k = refl
no_text (pairs ps) h k = refl

module _ (d : Doc) (node : ℕ) (inside : node < length (doc_cells d)) where
  pub tree_here : tree_at_node d node ≡ Some (doc_tree d node)
  tree_here = ap (λ (b : Bool). tree_if b (doc_tree d node)) (lt-ltb node (length (doc_cells d)) inside)

  text_here : node_text d node ≡ text_or_literal (doc_tree d node)
  text_here = ap (option_and_then text_or_literal) tree_here

  module _ (c : Cell) (is : c ≡ get_or (doc_cells d) node cell.Null) where
    pub within : (start len : ℕ) → first_byte c ≡ start → span_of c ≡ len → start + len ≤ length (doc_text d)
    within start len e f = let h = (d.in_place node inside).ends.0 in let g : first_byte c + span_of c ≤ length (doc_text d) = subst (λ (c : Cell). first_byte c + span_of c ≤ length (doc_text d)) (sym is) h in omega (arith, g, e, f)

    pub string_here : (start len : ℕ) → c ≡ cell.Str start len → node_text d node ≡ Some (slice_range (doc_text d) start (start + len))
    string_here start len e = text_here ∙ ap text_or_literal (text_tree_at d node c inside is start len e)

    pub literal_here : (start len : ℕ) → c ≡ cell.Raw start len → node_text d node ≡ Some (slice_range (doc_text d) start (start + len))
    literal_here start len e =
        let l = slice_range (doc_text d) start (start + len) in
        text_here ∙ ap text_or_literal (num_at d node c inside is start len e) ∙ ap (λ (o : Option _). literal_unless o l) (raw_at d node c inside is start len e)

    pub no_text_here : ((start len : ℕ) → c ≢ cell.Str start len) → ((start len : ℕ) → c ≢ cell.Raw start len) → node_text d node ≡ None
    no_text_here h k = text_here ∙ no_text (doc_tree d node) (no_string_at d node c inside is h) (no_literal_at d node c inside is k)
