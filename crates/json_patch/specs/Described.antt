-- What is said of the errors of pointers and patches, for people.
use Rattle.std.specs.Prelude.{ℕ, List, [], ◌++◌, codes, decimal, Option, None, Some, option_and_then, slice_get}
use Rattle.json_grammar.specs.Tree.{Tree, list_pairs}
use Rattle.json_value.specs.Seen.{list_of, object_pairs}
use Rattle.json_patch.specs.Patch.{single_value, string_in}
use Rattle.json_patch.specs.declared.error.PatchCode.{PatchCode}
use Rattle.json_patch.specs.declared.error.PatchCode.TheVariants.{NoMemory, NotFound, TypeUnmatched, BadPointer, BadPatch, TestFailed}

abbrev pub patch_code_name : PatchCode → List ℕ
patch_code_name NoMemory = codes "NoMemory"
patch_code_name NotFound = codes "NotFound"
patch_code_name TypeUnmatched = codes "TypeUnmatched"
patch_code_name BadPointer = codes "BadPointer"
patch_code_name BadPatch = codes "BadPatch"
patch_code_name TestFailed = codes "TestFailed"

abbrev pub operation_text : Option ℕ → List ℕ
operation_text None = []
operation_text (Some i) = codes " in operation " ++ decimal i

-- the name of the code, and the number of the operation, if one is named
abbrev pub described : PatchCode → Option ℕ → List ℕ
described code op = patch_code_name code ++ operation_text op

-- the member `path` of an operation, where it is a string that occurs once
abbrev pub path_of_operation : Tree → Option (List ℕ)
path_of_operation t = option_and_then (λ ms. string_in (single_value (codes "path") (list_pairs ms))) (object_pairs t)

-- the member `path` of the operation that is named, if one is
abbrev pub path_named : Option ℕ → Tree → Option (List ℕ)
path_named None patch = None
path_named (Some i) patch = option_and_then path_of_operation (option_and_then (λ ts. slice_get ts i) (list_of patch))

-- where the operation changes a value, if that is known
abbrev pub pointer_suffix : Option (List ℕ) → List ℕ
pointer_suffix None = []
pointer_suffix (Some pointer) = codes " at " ++ pointer
