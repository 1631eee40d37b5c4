-- A formatter whose level has no end, and a serializer that counts no containers.
use Rattle.std.proofs.Common.{◌≡◌, ℕ, suc, ◌-◌, List, [], ◌∷◌, refl, ap, Bool, true, Option}
use Rattle.json_grammar.specs.declared.Kind.{Kind}
use Rattle.json_grammar.specs.Tree.{Token, null_token, boolean_token, num_token, text_token, begin, end, key_token}
use Rattle.json_print.specs.Calls.{FormatterCall, null_call, boolean_call, number_call, string_call, bytes_call, begin_call, end_call, piece_of, flag_after}
use Rattle.json_print.specs.Layouts.{FormatterModel, pieces}
use Rattle.json_print.specs.ExpectedEvents.{first_turn}
use Rattle.json_print.specs.Printer.{SerializerState, layered, call, value_begun, took_scalar, took_end, took_key}

-- the level after a call
abbrev pub level_in : ℕ → FormatterCall → ℕ
level_in d (bytes_call bytes) = d
level_in d (begin_call k) = suc d
level_in d (end_call k) = d - 1
level_in d call = d

-- the pieces of calls in a row from a level and a flag on
abbrev pub pieces_in : Option (List ℕ) → ℕ → Bool → List FormatterCall → List (List ℕ)
pieces_in i d flag [] = []
pieces_in i d flag (c ∷ cs) = piece_of i d flag c ∷ pieces_in i (level_in d c) (flag_after flag c) cs

-- the formatter writes in the layout of this indent, and its level has no end
abbrev pub LaidIn : {F : Type 0} → FormatterModel F → F → Option (List ℕ) → ℕ → Bool → Type 0
LaidIn m f i d flag = (cs : List FormatterCall) → pieces m f cs ≡ pieces_in i d flag cs

pub record Level : Type 0 where
  pub level : ℕ
  pub flag : Bool

-- the formatter of an indent
abbrev pub ideal : Option (List ℕ) → FormatterModel Level
ideal i = record { piece = λ f c. piece_of i f.level f.flag c; next = λ f c. record { level = level_in f.level c; flag = flag_after f.flag c } }

pub ideal_laid : (i : Option (List ℕ)) (f : Level) → LaidIn (ideal i) f i f.level f.flag
ideal_laid i f [] = refl
ideal_laid i f (c ∷ cs) = ap (λ xs. piece_of i f.level f.flag c ∷ xs) (ideal_laid i (record { level = level_in f.level c; flag = flag_after f.flag c }) cs)

-- after an opening bracket
abbrev pub opened_in : {F : Type 0} → SerializerState F → Kind → SerializerState F
opened_in s k = record s { turn = first_turn k; opened = k ∷ s.opened; layers = layered k s.sorts s.layers }

-- after a token
abbrev pub after_in : {F : Type 0} → FormatterModel F → SerializerState F → Token → SerializerState F
after_in m s null_token = took_scalar m s null_call
after_in m s (boolean_token b) = took_scalar m s (boolean_call b)
after_in m s (num_token l) = took_scalar m s (number_call l)
after_in m s (text_token t) = took_scalar m s (string_call true t)
after_in m s (begin k) = opened_in (call m (value_begun m s) (begin_call k)) k
after_in m s (end k) = took_end m s k
after_in m s (key_token k) = took_key m s k
