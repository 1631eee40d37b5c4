use Rattle.std.proofs.lemmas.Option.{IfSome_then}
use Rattle.json_doc.specs.Docs.{doc_tree}
use Rattle.json_value.proofs.PlaceReadings.{array_leads, object_leads}
use Rattle.json_value.proofs.value.Value.place.Goals as goal

pub returns-in-Packed-form-2-clause-tree : goal.returns-in-Packed-form-2-clause-tree
returns-in-Packed-form-2-clause-tree c = IfSome_then _ c.of_kind-in-Packed-form-2.ensures.tree (λ p. array_leads _ c.in-Array.array _ c.in-Array.is c.in-Packed-form-2.is (doc_tree p.0.now p.1))

pub returns-in-Packed-form-3-clause-tree : goal.returns-in-Packed-form-3-clause-tree
returns-in-Packed-form-3-clause-tree c = IfSome_then _ c.of_kind-in-Packed-form-3.ensures.tree (λ p. object_leads _ c.in-Object.object _ c.in-Object.is c.in-Packed-form-3.is (doc_tree p.0.now p.1))
