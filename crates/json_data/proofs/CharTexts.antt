-- Texts of one character.
use Rattle.std.proofs.Common.{◌≡◌, ◌≢◌, ◌∙◌, ℕ, suc, ◌<◌, List, [], ◌∷◌, ◌++◌, length, Some, refl, sym, ap, subst, arith, append-nil, IsUtf8}
use Rattle.std.proofs.lemmas.Bool.{ne_eqb}
use Rattle.std.proofs.lemmas.Str.{chars-nil, chars_past_char}
use Rattle.std.specs.Char.{encode_utf8}
use Rattle.std.specs.List.{slice_get}
use Rattle.std.specs.Str.{chars}
use Rattle.json_grammar.specs.Tree.{text}
use Rattle.json_model.specs.Datum.{text_datum}
use Rattle.json_io.specs.declared.error.Error.{Error}
use Rattle.json_io.specs.declared.error.ErrorCode.TheVariants.{TypeUnmatched}
use Rattle.json_data.specs.Reader.{KeyReadingFails}
use Rattle.json_tokens.specs.Refusals.{error_without_place}
use Rattle.json_data.specs.Reading.{Reading, gives, refuses, one_character, read_character}

-- nothing is left after it
pub only_one : (b r : List ℕ) (c : ℕ) → IsUtf8 b → b ≡ encode_utf8 c ++ r → length r ≡ 0 → (b ≡ encode_utf8 c) × (length (chars b) ≡ 1)
only_one b [] c u e l = (e ∙ append-nil (encode_utf8 c), ap length (chars_past_char b [] c u e) ∙ ap (λ (xs : List ℕ). suc (length xs)) chars-nil)
only_one b (x ∷ r) c u e l = absurd (omega arith)

some_first : (xs : List ℕ) (d : ℕ) → slice_get xs 0 ≡ Some d → 0 < length xs
some_first [] d e = absurd (cc)
some_first (x ∷ xs) d e = omega arith

-- another character follows
pub one_more : (b r : List ℕ) (c d : ℕ) → IsUtf8 b → b ≡ encode_utf8 c ++ r → slice_get (chars r) 0 ≡ Some d → length (chars b) ≢ 1
one_more b r c d u e h =
    let l : length (chars b) ≡ suc (length (chars r)) = ap length (chars_past_char b r c u e) in
    let m : 0 < length (chars r) = some_first (chars r) d h in
    λ i. omega arith

-- ---- what is read of them

pub one_read : (s : List ℕ) (c : ℕ) → s ≡ encode_utf8 c → length (chars s) ≡ 1 → read_character (text s) ≡ gives (text_datum (encode_utf8 c))
one_read s c e h = let j : one_character s ≡ gives (text_datum s) = rw h in j ∙ ap (λ (x : List ℕ). gives (text_datum x)) e

pub none_read : (s : List ℕ) → length (chars s) ≢ 1 → read_character (text s) ≡ refuses TypeUnmatched
none_read s n = rw (ne_eqb (length (chars s)) 1 n)

-- a key is refused
pub no_key : (says : List ℕ → Type 0) (f : List ℕ → Reading) (e : Error) → e ≡ error_without_place TypeUnmatched → ((s : List ℕ) → says s → f s ≡ refuses TypeUnmatched) → KeyReadingFails says f e
no_key says f e h k = subst (λ (x : Error). KeyReadingFails says f x) (sym h) (record { refused = λ p. (refl, k); gave_up = λ p. absurd (cc) })
