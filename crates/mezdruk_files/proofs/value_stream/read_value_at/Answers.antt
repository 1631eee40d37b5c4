use Rattle.std.proofs.Common.{subst, sym}
use Rattle.std.specs.Str.{IsCharBoundary}
use Rattle.json_doc.specs.Docs.{doc_tree, doc_root}
use Rattle.mezdruk_files.specs.Streams.{ReadsAt}
use Rattle.mezdruk_files.proofs.ValueStreams.{front_read, front_boundary, front_fails}
use Rattle.mezdruk_files.proofs.value_stream.read_value_at.Goals as goal

pub returns-in-Ok-clause-ok : goal.returns-in-Ok-clause-ok
returns-in-Ok-clause-ok c =
    subst (ReadsAt c.args.text.now c.args.offset (doc_tree c.in-Ok.doc.value (doc_root c.in-Ok.doc.value))) (sym c.index.ensures)
    (front_read c.args.text.now c.args.offset c.at-parser.result c.read_front.new.parser c.at-parser.ensures.text c.at-parser.ensures.start.0 c.at-parser.ensures.strict c.at-parser.ensures.limit c.in-Ok.doc.value c.requires c.in-Ok.ensures.same.start c.in-Ok.ensures.ok)

pub returns-in-Ok-clause-boundary : goal.returns-in-Ok-clause-boundary
returns-in-Ok-clause-boundary c =
    subst (IsCharBoundary c.args.text.now) (sym c.index.ensures)
    (front_boundary c.args.text.now c.args.offset c.at-parser.result c.read_front.new.parser c.at-parser.ensures.text c.at-parser.ensures.start.0 c.at-parser.ensures.strict c.at-parser.ensures.limit c.in-Ok.doc.value c.utf8.text c.requires c.in-Ok.ensures.same.start c.in-Ok.ensures.ok)

pub returns-in-Err-clause-err : goal.returns-in-Err-clause-err
returns-in-Err-clause-err c =
    front_fails c.args.text.now c.args.offset c.at-parser.result c.read_front.new.parser c.at-parser.ensures.text c.at-parser.ensures.start.0 c.at-parser.ensures.strict c.at-parser.ensures.limit c.in-Err.error.code c.in-Err.error.place c.in-Err.ensures.err
