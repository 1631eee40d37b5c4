-- What parsing a text leaves.
use Rattle.std.specs.Prelude.{◌≡◌, ℕ, List, Some, Result, Ok, Err}
use Rattle.json_grammar.specs.Tree.{Tree}
use Rattle.mezdruk_c.specs.declared.document.Document.{Document}
use Rattle.mezdruk_c.specs.declared.failure.Failure.{Failure}
use Rattle.mezdruk_c.specs.declared.options.Options.{Options}
use Rattle.mezdruk_c.specs.Asked.{rules_of_options}
use Rattle.mezdruk_c.specs.Documents.{document_node_tree}
use Rattle.json_command.specs.Input.{IsInput}

-- the text is one of a tree by the rules of the options, and the root of the document is that tree
pub record IsDocumentOf (o : Options) (text : List ℕ) (document : Document) : Type 0 where
  pub tree : Tree
  pub input : IsInput (rules_of_options o) text tree
  pub root : document_node_tree document document.root ≡ Some tree

-- a document takes the place of the old one, or a failure leaves that
abbrev pub KeepsDocument : Result Document Failure → Document → Document → Result (Unit {0}) Failure → Type 0
KeepsDocument (Ok d) old new (Ok done) = new ≡ d
KeepsDocument (Err failure) old new (Err same) = (same ≡ failure) × (new ≡ old)
KeepsDocument outcome old new result = ⊥
