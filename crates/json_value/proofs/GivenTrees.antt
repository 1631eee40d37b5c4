-- What is given of a literal, and the trees that are seen.
use Rattle.std.proofs.Common.{◌≡◌, [], ◌∷◌, ap, ◌∙◌}
use Rattle.json_grammar.specs.Proper.{IsProper}
use Rattle.json_grammar.specs.Tree.{num_token}
use Rattle.json_print.specs.Given.{given}
use Rattle.json_doc.proofs.Properness.{view_proper}
use Rattle.json_value.specs.Denotes.{tree_of, literal_bytes}
use Rattle.json_doc_print.specs.Emitting.{number_given, tree_given}
use Rattle.json_value.specs.Seen.{seen, form_seen}
use Rattle.json_value.specs.declared.literal.Literal.{Literal}
use Rattle.json_value.specs.declared.value.Value.{Value, Raw}
use Rattle.json_value.specs.declared.view.View.{View}
use Rattle.json_value.specs.declared.view.ViewForm.{ViewForm}
use Rattle.json_value.specs.declared.view.ViewForm.TheVariants.{Packed, Whole, Absent}
use Rattle.json_value.proofs.ProperValues.{value_proper}
use Rattle.json_value.proofs.WholeTrees.{literal_in}

-- a literal is no integer by value
pub literal_given : (v : Value) (l : Literal) → v ≡ Raw l → tree_given (tree_of v) ≡ given (num_token (literal_bytes l)) ∷ []
literal_given v l e = ap tree_given (literal_in v l e) ∙ ap (λ o. number_given o (literal_bytes l) ∷ []) l.raw

form_proper : (f : ViewForm) → IsProper (form_seen f)
form_proper (Packed p) = view_proper p.view
form_proper (Whole v) = value_proper v.now
form_proper Absent = tt

-- the tree of a view is proper
pub seen_proper : (v : View) → IsProper (seen v)
seen_proper v = form_proper v.form
