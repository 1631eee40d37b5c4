-- From the bytes of a source to a document.
use Rattle.std.proofs.Common.{◌≡◌, ◌≢◌, refl, ℕ, ◌≤◌, List, length, false, sym, subst, IsUtf8}
use Rattle.json_grammar.specs.Tree.{Tree}
use Rattle.json_grammar.specs.Grammar.{is_text}
use Rattle.json_grammar.specs.Rules.{Rules, fits}
use Rattle.json_io.specs.declared.error.ErrorCode.{ErrorCode}
use Rattle.json_io.specs.declared.error.ErrorCode.TheVariants.{NoMemory, Io, TooLarge, InvalidUTF8}
use Rattle.json_io.specs.declared.error.Place.{Place}
use Rattle.json_io.specs.declared.error.Place.TheVariants.{None as nowhere, Reading}
use Rattle.json_io.specs.Outside.{SourceState}
use Rattle.json_io.specs.Transfer.{ReadsWithin}
use Rattle.json_io.specs.Utf8.{Utf8Cause}
use Rattle.json_doc.specs.declared.doc.Doc.{Doc}
use Rattle.json_doc.specs.Docs.{IsDocOf, doc_tree, doc_root, doc_cells, doc_text}
use Rattle.json_doc.specs.Reading.{ReadingFailsWith}
use Rattle.json_doc.proofs.Trees.{spelled}
use Rattle.json_text.specs.Ruled.{usual_rules}
use Rattle.json_command.specs.Input.{max_bytes, IsInput, IsValid, InputFault, not_utf8, no_text}
use Rattle.json_command.proofs.Inputs.{valid_no_fault}
use Rattle.json_command.specs.Reading.{ReadsInput, InputFails}

-- the tree at the root of a document of a tree is that tree
pub root_is : (d : Doc) (t : Tree) → IsDocOf d t → doc_tree d (doc_root d) ≡ t
root_is d t h = spelled (doc_cells d) (doc_text d) d.in_place (doc_root d) (length (doc_cells d)) t h.spelled

module _ (rules : Rules) where
  -- bytes that are not UTF-8
  pub utf8_fails : (source source' : SourceState) (bytes seen : List ℕ) (code : ErrorCode) (place : Place) → ReadsWithin max_bytes source source' bytes → seen ≡ bytes → Utf8Cause seen code place → InputFails rules source source' code place
  utf8_fails source source' bytes seen InvalidUTF8 place read same h =
      record { bytes = bytes; all = read; fault = not_utf8 read.within (subst (λ b. Utf8Cause b InvalidUTF8 place) same h) }
  utf8_fails source source' bytes seen code place read same h = absurd h

  -- a text with a fault
  pub text_fails : (source source' : SourceState) (bytes seen : List ℕ) (code : ErrorCode) (place : Place) → ReadsWithin max_bytes source source' bytes → seen ≡ bytes → IsUtf8 seen → ReadingFailsWith rules seen code place → InputFails rules source source' code place
  text_fails source source' bytes seen NoMemory nowhere read same u h = tt
  text_fails source source' bytes seen Io Reading read same u h = absurd h.2
  text_fails source source' bytes seen TooLarge nowhere read same u h = absurd h.2
  text_fails source source' bytes seen code place read same u h =
      record { bytes = bytes; all = read; fault = subst (λ b. InputFault rules b code place) same (no_text (subst (λ b. length b ≤ max_bytes) (sym same) read.within) u h) }

  -- what read_document_with promises of a document
  abbrev Documents : List ℕ → Doc → Type 0
  Documents seen d = (t : Tree) × is_text false t seen × fits t rules × IsDocOf d t

  pub doc_reads : (source source' : SourceState) (bytes seen : List ℕ) (d : Doc) → ReadsWithin max_bytes source source' bytes → seen ≡ bytes → Documents seen d → ReadsInput rules source source' (doc_tree d (doc_root d))
  doc_reads source source' bytes seen d read same (t, text, fit, doc) =
      subst (λ u. ReadsInput rules source source' u) (sym (root_is d t doc)) (record { bytes = bytes; all = read; input = record { short = read.within; text = subst (λ b. is_text false t b) same text; fit = fit } })

-- ---- an argument that is read by the usual rules

pub document_input : (rules : Rules) (b : List ℕ) (d : Doc) → rules ≡ usual_rules → length b ≤ max_bytes → (t : Tree) × is_text false t b × fits t rules × IsDocOf d t → IsInput usual_rules b (doc_tree d (doc_root d))
document_input rules b d e short (t, spelt, fit, doc) = subst (IsInput usual_rules b) (sym (root_is d t doc)) (record { short = short; text = spelt; fit = subst (fits t) e fit })

failing_fault : (b : List ℕ) (code : ErrorCode) (place : Place) → length b ≤ max_bytes → IsUtf8 b → code ≢ NoMemory → ReadingFailsWith usual_rules b code place → InputFault usual_rules b code place
failing_fault b NoMemory place s u n h = absurd (n refl)
failing_fault b code place s u n h = no_text s u h

-- what is not read is no text by the usual rules
pub no_input : (rules : Rules) (b : List ℕ) (code : ErrorCode) (place : Place) → rules ≡ usual_rules → length b ≤ max_bytes → IsUtf8 b → code ≢ NoMemory → ReadingFailsWith rules b code place → ¬ (IsValid usual_rules b)
no_input rules b code place e s u n h valid =
    valid_no_fault usual_rules b code place valid (failing_fault b code place s u n (subst (λ (r : Rules). ReadingFailsWith r b code place) e h))
