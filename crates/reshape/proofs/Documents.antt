-- From the bytes of a source to a document.
use Rattle.std.proofs.Common.{Bool, true, cond, ◌≡◌, ◌⊎◌, inl, inr, ℕ, List, length, false, Ok, Err, Result, OnOk, IfErr, refl, sym, ◌∙◌, ap}
use Rattle.json_grammar.specs.Tree.{Tree}
use Rattle.json_grammar.specs.Rules.{Rules}
use Rattle.json_grammar.specs.Proper.{IsProper}
use Rattle.json_grammar.proofs.Values.{one_tree}
use Rattle.json_model.specs.Edit.{Edit, edited}
use Rattle.json_model.specs.Sort.{sorted}
use Rattle.json_model.specs.Print.{IsIndent}
use Rattle.json_model.proofs.Proper.{sorted_proper}
use Rattle.json_model.proofs.Printing.{shown_text}
use Rattle.json_io.specs.declared.error.Error.{Error}
use Rattle.json_io.specs.Known.{Appends}
use Rattle.json_io.specs.declared.error.ErrorCode.{ErrorCode}
use Rattle.json_io.specs.declared.error.ErrorCode.TheVariants.{NoMemory, Io}
use Rattle.json_io.specs.declared.error.Place.{Place}
use Rattle.json_io.specs.declared.error.Place.TheVariants.{None as nowhere, Writing}
use Rattle.json_io.specs.Outside.{SourceState, SinkState}
use Rattle.json_doc.specs.declared.doc.Doc.{Doc}
use Rattle.json_doc.specs.Docs.{doc_tree, doc_root}
use Rattle.json_value.specs.declared.value.Value.{Value}
use Rattle.json_value.specs.Denotes.{tree_of}
use Rattle.json_command.specs.Reading.{ReadsInput}
use Rattle.json_command.specs.Printing.{HasRunOut, PrintingFails, Prints, RunsOutOnlyWith}
use Rattle.reshape.specs.Reshape.{TextLayout, laid_out, ordered, Reshapes, ReshapingRefuses}

module _ (rules : Rules) where
  -- the edits of the value at the root are those of the document's tree
  pub applied_to : (es : List Edit) (d d' : Doc) (v w : Value) (at : ℕ) → tree_of v ≡ doc_tree d at → at ≡ doc_root d' → d' ≡ d → edited es (tree_of v) ≡ Ok (tree_of w) → edited es (doc_tree d (doc_root d)) ≡ Ok (tree_of w)
  applied_to es d d' v w at t p s h = ap (edited es) (sym (t ∙ ap (doc_tree d) (p ∙ ap doc_root s))) ∙ h

  -- what is sorted is proper too
  ordered_proper : (l : TextLayout) (tree : Tree) → IsProper tree → IsProper (ordered l tree)
  ordered_proper l tree h = by l.sorts
    where
      by : (s : Bool) → IsProper (cond s (sorted tree) tree)
      by true = sorted_proper tree h
      by false = h

  -- the text was read, the edits applied, and the text of the edited tree was gained and flushed
  pub reshaped : (es : List Edit) (l : TextLayout) (source source' : SourceState) (sink sink' : SinkState) (tree changed : Tree) (r : Result (Unit {0}) Error) → ReadsInput rules source source' tree → IsIndent l.indent → IsProper changed → edited es tree ≡ Ok changed
      → OnOk r (Appends sink.gained sink'.gained (laid_out l changed)) → OnOk r (sink'.unflushed ≡ false) → OnOk r (Reshapes rules es l source source' sink sink')
  reshaped es l source source' sink sink' tree changed (Ok u) reads indent proper applied gains flushed =
      record {
        tree = tree;
        reads = reads;
        only = λ other h. one_tree false other tree reads.bytes h reads.input.text;
        changed = changed;
        applied = applied;
        gains = gains;
        is_text_of_it = shown_text false l.indent (ordered l changed) indent (ordered_proper l changed proper);
        flushed = flushed;
      }
  reshaped es l source source' sink sink' tree changed (Err e) reads indent proper applied gains flushed = tt

  -- what holds where members are not sorted, by cases on whether they are
  unless_sorted : (s : Bool) (A B : Type 0) → (s ≡ false → A ⊎ B) → A ⊎ (s ≡ false → B)
  unless_sorted true A B h = inr (λ e. absurd (cc))
  unless_sorted false A B h = elim (h refl) [ inl a ↦ inl a | inr b ↦ inr (λ e. b) ]

  -- the text was not written whole
  printing_refused : (es : List Edit) (l : TextLayout) (source source' : SourceState) (sink sink' : SinkState) (tree changed : Tree) (code : ErrorCode) (place : Place) → ReadsInput rules source source' tree → edited es tree ≡ Ok changed
      → (l.sorts ≡ false → RunsOutOnlyWith {A = Unit {0}} sink sink' (length (laid_out l changed)) (Err (record { code = code; place = place })))
      → PrintingFails sink sink' (laid_out l changed) code place → ReshapingRefuses rules es l source source' sink sink' code place
  printing_refused es l source source' sink sink' tree changed NoMemory nowhere r a k (inl same) = inl same
  printing_refused es l source source' sink sink' tree changed NoMemory nowhere r a k (inr gains) =
      elim (unless_sorted l.sorts (sink' ≡ sink) (HasRunOut sink' (length (laid_out l changed))) (λ s. k s refl)) [
        | inl same ↦ inl same
        | inr out ↦ inr (record { front = record { tree = tree; reads = r; changed = changed; applied = a; gains = gains }; cause = out })
      ]
  printing_refused es l source source' sink sink' tree changed Io Writing r a k h = (h.0, record { tree = tree; reads = r; changed = changed; applied = a; gains = h.1 })
  printing_refused es l source source' sink sink' tree changed code place r a k h = absurd h

  pub print_refused : (es : List Edit) (l : TextLayout) (source source' : SourceState) (sink sink' : SinkState) (tree changed : Tree) (r : Result (Unit {0}) Error) → ReadsInput rules source source' tree → edited es tree ≡ Ok changed → Prints sink sink' (laid_out l changed) r
      → (l.sorts ≡ false → RunsOutOnlyWith sink sink' (length (laid_out l changed)) r) → IfErr r (λ e. ReshapingRefuses rules es l source source' sink sink' e.code e.place)
  print_refused es l source source' sink sink' tree changed (Ok u) read a p k = tt
  print_refused es l source source' sink sink' tree changed (Err e) read a p k = printing_refused es l source source' sink sink' tree changed e.code e.place read a k p.err
