-- What it is to give data to events.
use Rattle.std.specs.Prelude.{◌≡◌, List, [], ◌∷◌, IsUtf8, Option, None, Result, Ok, Err, IfSome, cond}
use Rattle.json_grammar.specs.Grammar.{number}
use Rattle.json_grammar.specs.Tree.{Token, num_token, text_token, key_token}
use Rattle.json_io.specs.declared.error.Error.{Error}
use Rattle.json_io.specs.Errors.{key_has_no_text}
use Rattle.json_print.specs.Data.{before_gap, keys_have_texts}
use Rattle.json_print.specs.Given.{TokenOrInteger, token_of}
use Rattle.json_print.specs.Taking.{after_all, StopsAmong}

-- what is answered where the events met no error
abbrev pub answer_of : List (Option TokenOrInteger) → Result (Unit {0}) Error
answer_of ps = cond (keys_have_texts ps) (Ok tt) (Err key_has_no_text)

-- a literal that is a number (RFC 8259, section 6), and a string or a name that is UTF-8 (section 8.1)
abbrev pub IsTokenProper : Token → Type 0
IsTokenProper (num_token l) = number l
IsTokenProper (text_token s) = IsUtf8 s
IsTokenProper (key_token s) = IsUtf8 s
IsTokenProper t = Unit {0}

abbrev pub AreTokensProper : List TokenOrInteger → Type 0
AreTokensProper [] = Unit {0}
AreTokensProper (g ∷ gs) = IsTokenProper (token_of g) × AreTokensProper gs

-- all before the first key that has no text was given in turn, up to what met an error
pub record WritesDatumTokens {S : Type 0} (after : S → TokenOrInteger → S) (stopped : S → TokenOrInteger → S → Error → Type 0) (old new : S) (err err' : Option Error) (ps : List (Option TokenOrInteger)) (result : Result (Unit {0}) Error) : Type 0 where
  -- where the events met no error, all of it was given, and the answer is Ok exactly where each key has a text
  pub given : err' ≡ None → new ≡ after_all after old (before_gap ps)
  pub answer : err' ≡ None → result ≡ answer_of ps
  pub proper : err' ≡ None → AreTokensProper (before_gap ps)
  -- where they met one, it is the answer
  pub again : IfSome err' (λ e. result ≡ Err e)
  pub stops : err ≡ None → IfSome err' (λ e. StopsAmong after stopped old new (before_gap ps) e)
  -- an error that was answered before is answered again, and nothing changes
  pub kept : IfSome err (λ e. (result ≡ Err e) × (new ≡ old))
