-- What an edits word spells.
use Rattle.std.proofs.Common.{◌≡◌, ◌≢◌, ◌∙◌, false, ℕ, ◌≤◌, ◌^◌, List, [], ◌∷◌, length, map, Some, None, refl, sym, ap, arith}
use Rattle.json_grammar.specs.Tree.{Tree, null, boolean, num, text, list, pairs}
use Rattle.json_grammar.proofs.TextUtf8.{text_utf8}
use Rattle.json_grammar.proofs.Values.{one_tree}
use Rattle.json_io.specs.declared.error.ErrorCode.{ErrorCode}
use Rattle.json_io.specs.declared.error.ErrorCode.TheVariants.{NoMemory, TooLarge, InvalidUTF8, TypeUnmatched, NumberOutOfRange, ExpectedNumericKey}
use Rattle.json_io.specs.declared.error.Place.{Place}
use Rattle.json_io.specs.declared.error.Place.TheVariants.{None as nowhere}
use Rattle.json_text.proofs.NoText.{no_text}
use Rattle.json_model.specs.Datum.{Datum, list_datum, list_data}
use Rattle.json_model.specs.Edit.{Edit}
use Rattle.json_value.specs.declared.path.Edit.{Edit as ValueEdit}
use Rattle.json_value.specs.Edits.{edit_of}
use Rattle.json_value.specs.EditTrees.{edits_in}
use Rattle.json_data.specs.Calls.{ReadsTypedText, TreeRefused, TypedReadingFails}
use Rattle.json_data.specs.Reading.{gives, refuses, read_list}
use Rattle.json_data.specs.ReadingValues.{edit_datum, read_edit}
use Rattle.json_data.proofs.ValueData.{list_edits, list_none}
use Rattle.reshape.specs.Words.{SpellsEdits}
use Rattle.json_command.proofs.Inputs.{utf8_no_fault}

none_some : {A : Type 0} {x : A} → None ≡ Some x → ⊥
none_some e = cc

-- the edits that were read are those that the tree spells
edits_read : (t : Tree) (es : List Edit) → read_list read_edit t ≡ gives (list_datum (list_data (map edit_datum es))) → edits_in t ≡ Some es
edits_read (list ts) es e = list_edits ts es e
edits_read null es e = absurd (cc)
edits_read (boolean b) es e = absurd (cc)
edits_read (num l) es e = absurd (cc)
edits_read (text s) es e = absurd (cc)
edits_read (pairs ps) es e = absurd (cc)

-- a tree that is refused spells none
edits_refused : (t : Tree) (c : ErrorCode) → read_list read_edit t ≡ refuses c → edits_in t ≡ None
edits_refused (list ts) c e = list_none ts c e
edits_refused null c e = refl
edits_refused (boolean b) c e = refl
edits_refused (num l) c e = refl
edits_refused (text s) c e = refl
edits_refused (pairs ps) c e = refl

mapped : (es : List ValueEdit) → map (λ e. edit_datum (edit_of e)) es ≡ map edit_datum (map edit_of es)
mapped [] = refl
mapped (e ∷ es) = ap (λ (ds : List Datum). edit_datum (edit_of e) ∷ ds) (mapped es)

pub word_spells : (word : List ℕ) (es : List ValueEdit) → ¬ (2 ^ 32 ≤ length word)
    → ReadsTypedText 254 (read_list read_edit) word (gives (list_datum (list_data (map (λ e. edit_datum (edit_of e)) es)))) → SpellsEdits word (map edit_of es)
word_spells word es l (t, i, d, e) = record {
  tree = t;
  input = record { short = omega (arith, l); text = i; fit = (d, λ u. absurd (cc)) };
  edits = edits_read t (map edit_of es) (e ∙ ap (λ (ds : List Datum). gives (list_datum (list_data ds))) (mapped es));
}

refused_none : (word : List ℕ) (c : ErrorCode) (place : Place) → TreeRefused 254 (read_list read_edit) word c place → (es : List Edit) → ¬ (SpellsEdits word es)
refused_none word c place ((t, i, d, e), b) es s = none_some (sym (edits_refused t c e) ∙ ap edits_in (one_tree false t s.tree word i s.input.text) ∙ s.edits)

-- a word of which no edits are read spells none
pub none_spelled : (word : List ℕ) (c : ErrorCode) (place : Place) → c ≢ NoMemory → TypedReadingFails 254 (read_list read_edit) word c place → (es : List Edit) → ¬ (SpellsEdits word es)
none_spelled word NoMemory place n h es s = absurd (n refl)
none_spelled word TooLarge nowhere n h es s = omega (arith, h, s.input.short)
none_spelled word InvalidUTF8 place n h es s = utf8_no_fault word h.0 h.1 (text_utf8 false s.tree word s.input.text)
none_spelled word TypeUnmatched place n h es s = refused_none word TypeUnmatched place h es s
none_spelled word NumberOutOfRange place n h es s = refused_none word NumberOutOfRange place h es s
none_spelled word ExpectedNumericKey place n h es s = refused_none word ExpectedNumericKey place h es s
none_spelled word c place n h es s = no_text false 254 word c h.1.0 h.1.2 s.tree s.input.text s.input.fit.0
