-- What reading a text comes to.
use Rattle.std.proofs.Common.{◌≡◌, ℕ, ◌<◌, ◌≤◌, List, length, false, sym, subst, IsUtf8}
use Rattle.json_grammar.specs.Tree.{Tree}
use Rattle.json_grammar.specs.Grammar.{is_text}
use Rattle.json_grammar.specs.Rules.{Rules, fits}
use Rattle.json_io.specs.declared.error.ErrorCode.{ErrorCode}
use Rattle.json_io.specs.declared.error.ErrorCode.TheVariants.{NoMemory, TooLarge, InvalidUTF8}
use Rattle.json_io.specs.declared.error.Place.{Place}
use Rattle.json_io.specs.declared.error.Place.TheVariants.{None as nowhere}
use Rattle.json_io.specs.Utf8.{Utf8Cause}
use Rattle.json_doc.specs.declared.doc.Doc.{Doc}
use Rattle.json_doc.specs.Docs.{IsDocOf, doc_cells, doc_root, doc_text, doc_tree}
use Rattle.json_doc.specs.Reading.{ReadingFailsWith}
use Rattle.json_doc.proofs.Trees.{spelled}
use Rattle.json_command.specs.Input.{max_bytes, IsInput, too_large, not_utf8, no_text}
use Rattle.mezdruk_c.specs.Texts.{ReadingTextFails}

-- the tree at the root of a document of a tree is that tree
root_is : (d : Doc) (t : Tree) → IsDocOf d t → doc_tree d (doc_root d) ≡ t
root_is d t h = spelled (doc_cells d) (doc_text d) d.in_place (doc_root d) (length (doc_cells d)) t h.spelled

module _ (rules : Rules) where
  -- the document of a text has its tree
  pub text_read : (b seen : List ℕ) (d : Doc) → length b ≤ max_bytes → seen ≡ b → (t : Tree) × is_text false t seen × fits t rules × IsDocOf d t → IsInput rules b (doc_tree d (doc_root d))
  text_read b seen d short same (t, spelt, fit, doc) =
      subst (λ u. IsInput rules b u) (sym (root_is d t doc)) (record { short = short; text = subst (λ b. is_text false t b) same spelt; fit = fit })

  -- too many bytes
  pub text_large : (b : List ℕ) → max_bytes < length b → ReadingTextFails rules b TooLarge nowhere
  text_large b h = too_large h

  -- bytes that are not UTF-8
  pub text_not_utf8 : (b : List ℕ) (code : ErrorCode) (place : Place) → length b ≤ max_bytes → Utf8Cause b code place → ReadingTextFails rules b code place
  text_not_utf8 b InvalidUTF8 place short h = not_utf8 short h
  text_not_utf8 b code place short h = absurd h

  -- a text with a fault
  text_faulty : (b : List ℕ) (code : ErrorCode) (place : Place) → length b ≤ max_bytes → IsUtf8 b → ReadingFailsWith rules b code place → ReadingTextFails rules b code place
  text_faulty b NoMemory nowhere short u h = tt
  text_faulty b code place short u h = no_text short u h

  pub text_not_read : (b seen : List ℕ) (code : ErrorCode) (place : Place) → length b ≤ max_bytes → seen ≡ b → IsUtf8 b → ReadingFailsWith rules seen code place → ReadingTextFails rules b code place
  text_not_read b seen code place short same u h = text_faulty b code place short u (subst (λ b. ReadingFailsWith rules b code place) same h)
