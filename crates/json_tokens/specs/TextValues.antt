-- What a value that is read from a text is.
use Rattle.std.specs.Prelude.{◌≡◌}
use Rattle.json_doc.specs.declared.doc.Doc.{Doc}
use Rattle.json_doc.specs.Docs.{doc_root}
use Rattle.json_value.specs.declared.value.Value.{Value}
use Rattle.json_value.specs.Positions.{doc_position, read_position}

-- it is the root of a document, and each container in it that has members is a place of that
-- document
abbrev pub IsPackedAtRoot : Value → Type 0
IsPackedAtRoot v = (d : Doc) × (doc_position v ≡ read_position d (doc_root d))
