-- The tokens of a pointer, and the value that a token references.
use Rattle.std.specs.Prelude.{ℕ, List, Bool, map, string_bytes, Result, Ok, Err, bytes_eq, codes, ◌||◌, ◌&&◌, nat_le, slice_index}
use Rattle.json_grammar.specs.Tree.{Tree}
use Rattle.json_model.specs.Edit.{Changed, EditRefusal, not_found, type_unmatched, and_then}
use Rattle.json_io.specs.declared.error.Error.{Error}
use Rattle.json_io.specs.declared.error.ErrorCode.TheVariants as code
use Rattle.json_io.specs.declared.error.Place.TheVariants as place
use Rattle.json_patch.specs.ValuesAt.{value_at_step}
use Rattle.json_patch.specs.Pointer.{ReferenceToken, step_of_token}
use Rattle.json_value.specs.Seen.{seen}
use Rattle.json_value.specs.declared.view.View.{View}
use Rattle.json_patch.specs.declared.lookup.LookupError.{LookupError}
use Rattle.json_patch.specs.declared.lookup.LookupError.TheVariants.{NotFound, TypeUnmatched}
use Rattle.json_patch.specs.declared.pointer.Pointer.{Pointer}

-- the tokens of a pointer
abbrev pub pointer_tokens : Pointer → List ReferenceToken
pointer_tokens p = map string_bytes p.tokens.items

-- the token is `0`, or begins with a digit from 1 to 9
abbrev pub has_index_start : List ℕ → Bool
has_index_start d = bytes_eq d (codes "0") || (nat_le 49 (slice_index d 0) && nat_le (slice_index d 0) 57)

-- the member's value or the element that a token references
abbrev pub value_at_token : ReferenceToken → Tree → Changed Tree
value_at_token k t = and_then (step_of_token k t) (λ s. value_at_step s t)

-- the refusal of a tree for a lookup error, and the error that a call returns for it
abbrev pub refusal_of_lookup : LookupError → EditRefusal
refusal_of_lookup NotFound = not_found
refusal_of_lookup TypeUnmatched = type_unmatched

abbrev pub error_of_lookup : LookupError → Error
error_of_lookup NotFound = record { code = code.NotFound; place = place.None }
error_of_lookup TypeUnmatched = record { code = code.TypeUnmatched; place = place.None }

-- the tree of the value that was found, or why none was
abbrev pub found_value : Result View LookupError → Changed Tree
found_value (Ok v) = Ok (seen v)
found_value (Err m) = Err (refusal_of_lookup m)
