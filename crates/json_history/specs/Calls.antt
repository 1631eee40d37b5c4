-- Calls of a history as the code has them, and why they fail.
use Rattle.std.specs.Prelude.{◌≡◌, ℕ, List, ◌∷◌, ◌++◌, length, Ok, Err, ⊤}
use Rattle.json_model.specs.Edit.{EditRefusal, not_found, type_unmatched}
use Rattle.json_io.specs.declared.error.Error.{Error}
use Rattle.json_io.specs.declared.error.ErrorCode.{ErrorCode}
use Rattle.json_io.specs.declared.error.ErrorCode.TheVariants.{NoMemory, NotFound, TypeUnmatched}
use Rattle.json_io.specs.declared.error.Place.{Place}
use Rattle.json_io.specs.declared.error.Place.TheVariants.{None as nowhere, Edit as in_edit}
use Rattle.json_value.specs.Edits.{edit_of}
use Rattle.json_history.specs.History.{TreeHistory, TreeCall, edit, undo, redo, run_calls_from}
use Rattle.json_history.specs.declared.call.Call.{Call}
use Rattle.json_history.specs.declared.call.Call.TheVariants.{Edit, Undo, Redo}
use Rattle.json_command.specs.Statuses.{code_of_refusal}

-- the call on trees that a call represents
abbrev pub call_of : Call → TreeCall
call_of (Edit e) = edit (edit_of e)
call_of Undo = undo
call_of Redo = redo

-- the place of the error of the call with this number: where memory runs out there is none
abbrev pub numbered_place : ErrorCode → Place → ℕ → Place
numbered_place NoMemory place number = place
numbered_place code place number = in_edit number

-- why not every call was made: one row for each error
abbrev pub CallsFail : TreeHistory → List TreeCall → ErrorCode → Place → Type 0
CallsFail h cs NoMemory nowhere = ⊤
CallsFail h cs NotFound (in_edit number) = run_calls_from 0 h cs ≡ Err (number, not_found)
CallsFail h cs TypeUnmatched (in_edit number) = run_calls_from 0 h cs ≡ Err (number, type_unmatched)
CallsFail h cs code place = ⊥

-- the number of the call at the place of an error is the number of calls made; without memory no
-- call is named
abbrev pub NamesCall : Place → ℕ → Type 0
NamesCall nowhere made = ⊤
NamesCall (in_edit number) made = number ≡ made
NamesCall place made = ⊥

-- the first of the calls were made, which left the history g of h; the next one failed, and it and
-- the others were not made
pub record MakesFirstCalls (h g : TreeHistory) (cs : List TreeCall) (place : Place) : Type 0 where
  pub made : List TreeCall
  pub next : TreeCall
  pub others : List TreeCall
  pub all : cs ≡ made ++ next ∷ others
  pub left : run_calls_from 0 h made ≡ Ok g
  pub named : NamesCall place (length made)

-- the error where the call with this number is an edit that does not apply
abbrev pub edit_error : ℕ → EditRefusal → Error
edit_error number why = record { code = code_of_refusal why; place = in_edit number }
