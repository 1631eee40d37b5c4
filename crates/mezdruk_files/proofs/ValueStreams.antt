-- A value that is read from a place on.
use Rattle.std.proofs.Common.{◌≡◌, ℕ, ◌+◌, ◌-◌, ◌<◌, ◌≤◌, List, [], length, take, drop, Bool, false, refl, sym, ap, ap₂, ◌∙◌, subst, arith, append-nil, length-take, length-drop, IsUtf8}
use Rattle.std.specs.Str.{IsCharBoundary}
use Rattle.std.proofs.lemmas.Str.{IsUtf8-drop, IsCharBoundary-from_take, IsCharBoundary-from_rest}
use Rattle.json_grammar.specs.Fault.{reads}
use Rattle.json_grammar.specs.Grammar.{is_text}
use Rattle.json_grammar.specs.Tree.{Tree, depth}
use Rattle.json_grammar.proofs.OneValue.{value_text}
use Rattle.json_grammar.proofs.Sizes.{nodes_some, text_fits}
use Rattle.json_grammar.proofs.TextUtf8.{text_utf8}
use Rattle.json_io.specs.declared.error.ErrorCode.{ErrorCode}
use Rattle.json_io.specs.declared.error.ErrorCode.TheVariants.{NoMemory}
use Rattle.json_io.specs.declared.error.Place.{Place}
use Rattle.json_io.specs.declared.error.Place.TheVariants.{None as nowhere}
use Rattle.json_text.specs.Faults.{ValueFaultFrom}
use Rattle.json_text.specs.Parsing.{ParserState, input, consumed}
use Rattle.json_doc.specs.declared.doc.Doc.{Doc}
use Rattle.json_doc.specs.Docs.{IsDocOf, doc_tree, doc_root}
use Rattle.json_doc.specs.Reading.{FrontFails}
use Rattle.json_command.proofs.Documents.{root_is}
use Rattle.mezdruk_files.specs.Streams.{ReadsAt, ValueFails}

value_is_text : (b : List ℕ) (t : Tree) (n : ℕ) → reads false b t n → is_text false t (take n b)
value_is_text b t n r = subst (is_text false t) (append-nil (take n b)) (value_text false t (take n b) [] r.spells tt)

reads_some : (b : List ℕ) (t : Tree) (n : ℕ) → reads false b t n → 0 < n
reads_some b t n r =
    let l = (text_fits false t (take n b) (value_is_text b t n r)).0 in
    let s = nodes_some t in
    let f = r.fits in
    omega (arith, length-take n b)

-- a character begins after a value
boundary_after : (b : List ℕ) (i n : ℕ) (t : Tree) → IsUtf8 b → IsCharBoundary b i → reads false (drop i b) t n → IsCharBoundary b (i + n)
boundary_after b i n t u h r =
    let c = drop i b in
    IsCharBoundary-from_rest b i n h.0 (IsCharBoundary-from_take c n (IsUtf8-drop b i u h) r.fits (text_utf8 false t (take n c) (value_is_text c t n r)))

module _ (b : List ℕ) (i j : ℕ) (t : Tree) where
  pub reads_at : i ≤ length b → i ≤ j → reads false (drop i b) t (j - i) → depth t ≤ 254 → ReadsAt b i t j
  reads_at start order r levels =
      let some = reads_some (drop i b) t (j - i) r in
      let f = r.fits in
      record { value = r; levels = levels; forward = omega (arith, some); within = omega (arith, f, length-drop i b) }

  pub boundary_at : IsUtf8 b → IsCharBoundary b i → i ≤ j → reads false (drop i b) t (j - i) → IsCharBoundary b j
  boundary_at u h order r = let same : i + (j - i) ≡ j = omega arith in subst (IsCharBoundary b) same (boundary_after b i (j - i) t u h r)

-- ---- by a parser

-- a parser that began at i read a value and is after it
module _ (b : List ℕ) (i : ℕ) (old new : ParserState) (text : old.text ≡ b) (start : old.start ≡ i) (lossy : old.lossy ≡ false) (limit : old.limit ≡ 254) where
  front_value : (t : Tree) → reads old.lossy (input old) t (consumed new) → new.start ≡ old.start → reads false (drop i b) t (new.index - i)
  front_value t r same =
      let in_text : input old ≡ drop i b = ap₂ drop start text in
      let size : consumed new ≡ new.index - i = ap (λ s. new.index - s) (same ∙ start) in
      subst (λ n. reads false (drop i b) t n) size (subst (λ x. reads false x t (consumed new)) in_text (subst (λ l. reads l (input old) t (consumed new)) lossy r))

  pub front_read : (d : Doc) → IsCharBoundary b i → new.start ≡ old.start → (t : Tree) × reads old.lossy (input old) t (consumed new) × (depth t ≤ old.limit) × IsDocOf d t → ReadsAt b i (doc_tree d (doc_root d)) new.index
  front_read d h same (t, r, levels, doc) =
      let value = front_value t r same in
      let some = reads_some (drop i b) t (new.index - i) value in
      subst (λ x. ReadsAt b i x new.index) (sym (root_is d t doc)) (reads_at b i new.index t h.0 (omega (arith, some)) value (subst (λ n. depth t ≤ n) limit levels))

  pub front_boundary : (d : Doc) → IsUtf8 b → IsCharBoundary b i → new.start ≡ old.start → (t : Tree) × reads old.lossy (input old) t (consumed new) × (depth t ≤ old.limit) × IsDocOf d t → IsCharBoundary b new.index
  front_boundary d u h same (t, r, levels, doc) =
      let value = front_value t r same in
      let some = reads_some (drop i b) t (new.index - i) value in
      boundary_at b i new.index t u h (omega (arith, some)) value

  fault_is : (code : ErrorCode) (place : Place) → ValueFaultFrom old.lossy old.limit old.start old.text code place → ValueFaultFrom false 254 i b code place
  fault_is code place h =
      subst (λ l. ValueFaultFrom l 254 i b code place) lossy
      (subst (λ m. ValueFaultFrom old.lossy m i b code place) limit (subst (λ s. ValueFaultFrom old.lossy old.limit s b code place) start (subst (λ x. ValueFaultFrom old.lossy old.limit old.start x code place) text h)))

  pub front_fails : (code : ErrorCode) (place : Place) → FrontFails old code place → ValueFails b i code place
  front_fails NoMemory nowhere h = tt
  front_fails code place h = fault_is code place h
