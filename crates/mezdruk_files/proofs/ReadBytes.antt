-- From bytes to a document, and to its value.
use Rattle.std.proofs.Common.{◌≡◌, ℕ, ◌≤◌, List, length, false, subst, sym, IsUtf8}
use Rattle.json_grammar.specs.Tree.{Tree}
use Rattle.json_grammar.specs.Grammar.{is_text}
use Rattle.json_grammar.specs.Rules.{Rules, fits}
use Rattle.json_io.specs.declared.error.ErrorCode.{ErrorCode}
use Rattle.json_io.specs.declared.error.ErrorCode.TheVariants.{NoMemory, InvalidUTF8}
use Rattle.json_io.specs.declared.error.Place.{Place}
use Rattle.json_io.specs.declared.error.Place.TheVariants.{None as nowhere}
use Rattle.json_text.specs.Faults.{FaultWithAt}
use Rattle.json_io.specs.Utf8.{Utf8Cause}
use Rattle.json_doc.specs.declared.doc.Doc.{Doc}
use Rattle.json_doc.specs.Docs.{IsDocOf, doc_tree, doc_root}
use Rattle.json_doc.specs.Reading.{ReadingFailsWith}
use Rattle.json_command.specs.Input.{max_bytes, IsInput, not_utf8, no_text}
use Rattle.json_command.proofs.Documents.{root_is}
use Rattle.mezdruk_files.specs.Running.{ReadingDocumentFails}

module _ (rules : Rules) (b : List ℕ) (short : length b ≤ max_bytes) where
  -- bytes that are not UTF-8
  pub utf8_fails : (code : ErrorCode) (place : Place) → Utf8Cause b code place → ReadingDocumentFails rules b code place
  utf8_fails InvalidUTF8 place h = not_utf8 short h
  utf8_fails code place h = absurd h

  -- a text with a fault
  pub text_fails : (seen : List ℕ) (code : ErrorCode) (place : Place) → seen ≡ b → IsUtf8 b → ReadingFailsWith rules seen code place → ReadingDocumentFails rules b code place
  text_fails seen NoMemory nowhere same u h = tt
  text_fails seen code place same u h = no_text short u (subst (λ s. FaultWithAt false rules s code place) same h)

  -- a text
  pub document_read : (seen : List ℕ) (d : Doc) → seen ≡ b → (t : Tree) × is_text false t seen × fits t rules × IsDocOf d t → IsInput rules b (doc_tree d (doc_root d))
  document_read seen d same (t, text, fit, doc) = subst (IsInput rules b) (sym (root_is d t doc)) (record { short = short; text = subst (is_text false t) same text; fit = fit })
