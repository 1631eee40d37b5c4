-- What is written of a text without whitespace, and what follows.
use Rattle.std.specs.Prelude.{◌≡◌, ℕ, List, [], ◌∷◌, ◌++◌, take, reverse, Bool, true, false, Option, Some, None, Result, IsTrue}
use Rattle.json_grammar.specs.declared.Kind.{Kind}
use Rattle.json_grammar.specs.Grammar.{null_bytes, boolean_bytes}
use Rattle.json_grammar.specs.Place.{bracket, closing, outside}
use Rattle.json_grammar.specs.Tree.{Token, null_token, boolean_token, num_token, text_token, begin, end, key_token}
use Rattle.json_grammar.specs.TokenStates.{TokenState, Expected, a_value, expected_in}
use Rattle.json_model.specs.Print.{quoted}
use Rattle.json_io.specs.declared.error.Error.{Error}
use Rattle.json_io.specs.Errors.{no_memory}
use Rattle.json_print.specs.Given.{TokenOrInteger, token_of}
use Rattle.json_print.specs.Taking.{Takes}
use Rattle.json_buffer.specs.declared.lead.Lead.{Lead}
use Rattle.json_buffer.specs.declared.lead.Lead.TheVariants.{Nothing, Comma, Colon}
use Rattle.json_buffer.specs.declared.text_buffer.TextBuffer.{TextBuffer}
use Rattle.json_buffer.specs.declared.text_writer.TextWriter.{TextWriter}
use Rattle.json_buffer.specs.Leads.{lead_bytes}

pub record TextState : Type 0 where
  pub bytes : List ℕ
  pub lead : Lead
  -- the open containers, the innermost first
  pub opened : List Kind

-- what follows after a bracket, or as the value itself
abbrev pub first_in : List Kind → Expected
first_in [] = a_value
first_in (k ∷ ks) = expected_in (k ∷ ks)

abbrev pub expected_by : Lead → List Kind → Expected
expected_by Nothing opened = first_in opened
expected_by Comma opened = expected_in opened
expected_by Colon opened = a_value

-- what may follow
abbrev pub text_expected : TextState → TokenState
text_expected s = record { opened = s.opened; expected = expected_by s.lead s.opened }

-- a scalar of this text more
abbrev pub scalar_put : TextState → List ℕ → TextState
scalar_put s p = record s { bytes = s.bytes ++ (lead_bytes s.lead ++ p); lead = Comma }

-- a string of these characters more, and what follows it
abbrev pub string_put : Lead → TextState → List ℕ → TextState
string_put next s t = record s { bytes = s.bytes ++ (lead_bytes s.lead ++ quoted t); lead = next }

abbrev pub token_put : TextState → Token → TextState
token_put s null_token = scalar_put s null_bytes
token_put s (boolean_token b) = scalar_put s (boolean_bytes b)
token_put s (num_token l) = scalar_put s l
token_put s (text_token t) = string_put Comma s t
token_put s (begin k) = record { bytes = s.bytes ++ (lead_bytes s.lead ++ bracket k ∷ []); lead = Nothing; opened = k ∷ s.opened }
token_put s (end k) = record { bytes = s.bytes ++ closing k ∷ []; lead = Comma; opened = outside s.opened }
token_put s (key_token t) = string_put Colon s t

abbrev pub given_put : TextState → TokenOrInteger → TextState
given_put s g = token_put s (token_of g)

-- memory ran out
abbrev pub StopsAtMemory : {T : Type 0} → TextState → T → TextState → Error → Type 0
StopsAtMemory s t s' e = e ≡ no_memory

-- no token was given yet
abbrev pub empty_text : TextState
empty_text = record { bytes = []; lead = Nothing; opened = [] }

-- ---- what the code holds

abbrev pub buffered : TextBuffer → List ℕ
buffered b = take b.end b.bytes.items

-- the error that is kept
abbrev pub kept_error : Bool → Option Error
kept_error true = Some no_memory
kept_error false = None

abbrev pub writer_error : TextWriter → Option Error
writer_error w = kept_error w.failed

abbrev pub text_state : TextWriter → TextState
text_state w = record { bytes = buffered w.buffer; lead = w.lead; opened = reverse w.opened.items }

-- a call of a text writer: what is written goes on so, or memory runs out
abbrev pub PutsText : {T : Type 0} → (TextState → T → TextState) → TextWriter → TextWriter → T → Result (Unit {0}) Error → Type 0
PutsText next old new t result = Takes next StopsAtMemory (text_state old) (text_state new) (writer_error old) (writer_error new) t result

-- a quoted text was put after what was there, with what leads to it
abbrev pub PutsQuoted : Lead → List ℕ → (old new : TextBuffer) → Bool → Type 0
PutsQuoted lead text old new put = IsTrue put → buffered new ≡ buffered old ++ (lead_bytes lead ++ quoted text)
