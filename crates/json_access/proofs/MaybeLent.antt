-- The row of a place that is lent, or of none, or of a refusal, and what stays where none is lent.
use Rattle.json_value.proofs.HandProofs.{◌≡◌, refl, ap, named, Laws, MutRef}
use mathlib.Core.Option as maybe
use base.Fml.{Lft, GName}
use denote.Builtin.{One}
use denote.Ref.{NamedLft}
use denote.RattleType.{RattleType}
use denote.Struct.Field.{mut_ref_field}
use denote.Struct.Laws.{mut_ref_laws}
use denote.Param.Laws.{of_field, row_shared}
use denote.Param.Shared.{mut_ref_shared}
use Rattle.std.specs.contracts.option.Option as option
use Rattle.std.specs.contracts.result.Result as result
use Rattle.std.proofs.option.Option.TheLaws.{the_row_laws as option_laws}
use Rattle.std.proofs.result.Result.TheLaws.{the_row_laws as result_laws}
use Rattle.json_io.specs.contracts.error.Error.{the_row as refusal}
use Rattle.json_io.proofs.error.Error.TheLaws.{the_row_laws as refusal_laws}
use Rattle.json_value.specs.Denotes.{tree_of}
use Rattle.json_value.specs.Lending.{UnlessLent}
use Rattle.json_value.specs.declared.value.Value.{Value}

abbrev pub maybe_lent : RattleType → Lft → RattleType
maybe_lent T κ = result.the_row (option.the_row (MutRef (named 0) κ T)) refusal

pub maybe_lent_laws : (T : RattleType) (κ : Lft) → One T.mir → Laws T → Laws (maybe_lent T κ)
maybe_lent_laws T κ one L =
    let b : NamedLft = record { mir = named 0; lft = κ } in
    let F = mut_ref_field b T one in
    let ref-laws = of_field F (mut_ref_laws b T one) refl (mut_ref_shared b T one (row_shared T L)) in
    result_laws (option.the_row F.row) refusal (option_laws F.row ref-laws) refusal_laws

-- a value that is as it was has the tree that it had
pub same_tree : (m : maybe.Option GName) (old new : Value) → UnlessLent m (new ≡ old) → UnlessLent m ((tree_of new ≡ tree_of old) × (new ≡ old))
same_tree maybe.none old new e = (ap tree_of e, e)
same_tree (maybe.some g) old new e = tt
