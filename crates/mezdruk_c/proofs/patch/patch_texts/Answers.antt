use Rattle.std.proofs.Common.{◌≡◌, ◌^◌, ◌<◌, length, sym, subst, ap, ◌∙◌}
use Rattle.json_doc.specs.Docs.{doc_root, doc_tree}
use Rattle.json_doc.specs.Readings.{elements}
use Rattle.json_doc.specs.declared.doc.Doc.{Doc}
use Rattle.json_grammar.specs.Tree.{Tree}
use Rattle.json_text.specs.Ruled.{usual_rules}
use Rattle.json_value.specs.Seen.{seen}
use Rattle.mezdruk_c.proofs.PatchedTexts.{few_operations}
use Rattle.mezdruk_c.proofs.patch.patch_texts.Goals as goal

pub apply_patch-requires : goal.apply_patch-requires
apply_patch-requires c =
    let d = c.in-Ok.doc.value in
    let same : seen c.packed.result ≡ doc_tree d (doc_root d) = c.packed.ensures.tree ∙ c.view.ensures.tree ∙ ap (λ (d : Doc). doc_tree d (doc_root d)) c.deref.ensures in
    record { few = subst (λ (t : Tree). length (elements t) < 2 ^ 32) (sym same) (few_operations usual_rules c.args.patch.now (doc_tree d (doc_root d)) c.in-Ok.ensures.ok) }
