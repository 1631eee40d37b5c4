-- From the bytes of a source to those of a sink, by the calls of a history.
use Rattle.std.proofs.Common.{◌≡◌, inl, inr, ℕ, List, Ok, Err, Result, OnOk, IfErr, None, false, sym, subst, ◌∙◌, ap}
use Rattle.std.proofs.lemmas.Result.{IfErr-weaker}
use Rattle.json_grammar.specs.Tree.{Tree}
use Rattle.json_grammar.specs.Rules.{Rules}
use Rattle.json_doc.specs.declared.doc.Doc.{Doc}
use Rattle.json_doc.specs.Docs.{doc_tree, doc_root}
use Rattle.json_value.specs.Denotes.{tree_of}
use Rattle.json_value.specs.declared.value.Value.{Value}
use Rattle.json_grammar.specs.Proper.{IsProper}
use Rattle.json_grammar.proofs.Values.{one_tree}
use Rattle.json_model.proofs.Printing.{shown_text}
use Rattle.json_text.specs.Ruled.{usual_rules}
use Rattle.json_io.specs.declared.error.Error.{Error}
use Rattle.json_io.specs.Known.{Appends}
use Rattle.json_io.specs.declared.error.ErrorCode.{ErrorCode}
use Rattle.json_io.specs.declared.error.ErrorCode.TheVariants.{NoMemory, Io}
use Rattle.json_io.specs.declared.error.Place.{Place}
use Rattle.json_io.specs.declared.error.Place.TheVariants.{None as nowhere, Writing}
use Rattle.json_io.specs.Outside.{SourceState, SinkState}
use Rattle.json_command.specs.Printing.{PrintingFails, Prints}
use Rattle.json_command.specs.Reading.{ReadsInput}
use Rattle.json_layout.specs.Styles.{indent_of, is_sorted, printed}
use Rattle.json_layout.specs.Shown.{shown_as}
use Rattle.json_layout.specs.declared.style.Style.{Style}
use Rattle.json_history.specs.History.{TreeHistory, TreeCall, run_calls, run_calls_from, new_history}
use Rattle.json_history.specs.Replay.{compact, Replays, ReplayFails}

-- the text was read, the calls made, and the text of the tree after them gained and flushed
pub replay_ok : (cs : List TreeCall) (source source' : SourceState) (sink sink' : SinkState) (tree : Tree) (left : TreeHistory) (r : Result (Unit {0}) Error) → ReadsInput usual_rules source source' tree → IsProper left.now → run_calls tree cs ≡ Ok left
    → OnOk r (Appends sink.gained sink'.gained (compact left.now)) → OnOk r (sink'.unflushed ≡ false) → OnOk r (Replays cs source source' sink sink')
replay_ok cs source source' sink sink' tree left (Ok u) reads proper made gains flushed =
    record {
      tree = tree;
      reads = reads;
      only = λ other h. one_tree false other tree reads.bytes h reads.input.text;
      left = left;
      made = made;
      gains = gains;
      is_text_of_it = shown_text false None left.now tt proper;
      flushed = flushed;
    }
replay_ok cs source source' sink sink' tree left (Err e) reads proper made gains flushed = tt

-- writing failed, and a prefix of the text was written
pub printing_fails : (cs : List TreeCall) (source source' : SourceState) (sink sink' : SinkState) (tree : Tree) (left : TreeHistory) (code : ErrorCode) (place : Place) → ReadsInput usual_rules source source' tree → run_calls tree cs ≡ Ok left
    → PrintingFails sink sink' (compact left.now) code place → ReplayFails cs source source' sink sink' code place
printing_fails cs source source' sink sink' tree left NoMemory nowhere r a (inl same) = inl same
printing_fails cs source source' sink sink' tree left NoMemory nowhere r a (inr gains) = inr (record { tree = tree; reads = r; left = left; made = a; gains = gains })
printing_fails cs source source' sink sink' tree left Io Writing r a h = (h.0, record { tree = tree; reads = r; left = left; made = a; gains = h.1 })
printing_fails cs source source' sink sink' tree left code place r a h = absurd h

-- ---- from documents and values

-- the calls of the value at the root are those of the document's tree
pub calls_of_document : (cs : List TreeCall) (d d' : Doc) (v : Value) (at : ℕ) (h left : TreeHistory) → h ≡ new_history (tree_of v) → tree_of v ≡ doc_tree d at → at ≡ doc_root d' → d' ≡ d → run_calls_from 0 h cs ≡ Ok left → run_calls (doc_tree d (doc_root d)) cs ≡ Ok left
calls_of_document cs d d' v at h left new t p s so =
    sym (ap (λ u. run_calls_from 0 (new_history u) cs) (t ∙ ap (doc_tree d) (p ∙ ap doc_root s))) ∙ ap (λ g. run_calls_from 0 g cs) (sym new) ∙ so

-- the style without an indent, in the order of the value
printed_compact : (s : Style) (t : Tree) → indent_of s ≡ None → is_sorted s ≡ false → printed s t ≡ compact t
printed_compact s t a b = ap (λ i. shown_as i (is_sorted s) t) a ∙ ap (λ z. shown_as None z t) b

module _ (rules : Rules) (usual : rules ≡ usual_rules) (cs : List TreeCall) (source source' : SourceState) (sink sink' : SinkState) (tree shown : Tree) (left : TreeHistory) (same : shown ≡ left.now) (style : Style) (plain : indent_of style ≡ None) (unsorted : is_sorted style ≡ false) (r : Result (Unit {0}) Error)
    (reads : ReadsInput rules source source' tree) (made : run_calls tree cs ≡ Ok left) (prints : Prints sink sink' (printed style shown) r) where
  text : printed style shown ≡ compact left.now
  text = printed_compact style shown plain unsorted ∙ ap compact same

  pub replay_ok_by_rules : IsProper shown → OnOk r (Replays cs source source' sink sink')
  replay_ok_by_rules proper =
      replay_ok cs source source' sink sink' tree left r (subst (λ u. ReadsInput u source source' tree) usual reads) (subst IsProper same proper) made
      (subst (λ x. OnOk r (Appends sink.gained sink'.gained x)) text prints.ok) prints.flushed

  pub printing_fails_by_rules : IfErr r (λ e. ReplayFails cs source source' sink sink' e.code e.place)
  printing_fails_by_rules =
      IfErr-weaker r (λ e. PrintingFails sink sink' (printed style shown) e.code e.place) (λ e. ReplayFails cs source source' sink sink' e.code e.place)
      (λ e h.
      printing_fails cs source source' sink sink' tree left e.code e.place (subst (λ u. ReadsInput u source source' tree) usual reads) made
      (subst (λ x. PrintingFails sink sink' x e.code e.place) text h)) prints.err
