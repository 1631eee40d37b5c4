-- Which token of a text needs the byte at an offset. A reader that hands out tokens one after
-- another is to refuse a byte at the token that needs it, and not before: then only a gap and the
-- beginning of one token are between what was taken and that byte.
use Rattle.std.specs.Prelude.{◌≡◌, ◌≢◌, ◌⊎◌, ℕ, ◌≤◌, List, [], ◌∷◌, ◌++◌, length, take, Bool}
use Rattle.json_grammar.specs.declared.Kind.{Kind}
use Rattle.json_grammar.specs.declared.ExpectedPart.{ExpectedPart}
use Rattle.json_grammar.specs.Tree.{Token, key_token}
use Rattle.json_grammar.specs.Grammar.{ws, number, string}
use Rattle.json_grammar.specs.Fault.{is_word}
use Rattle.json_grammar.specs.Place.{TakesKey, reading, viable_prefix}
use Rattle.json_grammar.specs.Given.{piece, PrefixAt}

-- whitespace, with at most one comma or colon before, in or after it (RFC 8259, section 2)
pub record IsGap (g : List ℕ) : Type 0 where
  pub before : List ℕ
  pub mark : List ℕ
  pub after : List ℕ
  pub row : g ≡ before ++ (mark ++ after)
  pub space_before : ws before
  pub is_mark : (mark ≡ []) ⊎ ((mark ≡ 44 ∷ []) ⊎ (mark ≡ 58 ∷ []))
  pub space_behind : ws after

-- r begins a literal name or a string and is not the whole of it, or begins a number and is none
-- (sections 3, 6 and 7)
pub record BeginsToken (lossy : Bool) (r : List ℕ) : Type 0 where
  pub rest : List ℕ
  pub begun : r ≢ []
  pub unfinished : rest ≢ []
  pub token : is_word (r ++ rest) ⊎ ((number (r ++ rest) × ¬ (number r)) ⊎ ((s : List ℕ) × string lossy s (r ++ rest)))

-- an integer part that no digit may follow (section 6)
abbrev pub IsLeadingZero : List ℕ → Type 0
IsLeadingZero r = (r ≡ 48 ∷ []) ⊎ (r ≡ 45 ∷ 48 ∷ [])

-- what a token may have before the byte that it needs: nothing, or its beginning; or a leading
-- zero, where `zero` says that a digit may be refused after one
abbrev pub IsBegun : Bool → Type 0 → List ℕ → Type 0
IsBegun lossy zero r = (r ≡ []) ⊎ (BeginsToken lossy r ⊎ (zero × IsLeadingZero r))

-- the next token after the first i bytes of b needs the byte at k: a gap extends up to some offset,
-- and from there up to k the beginning of the token
pub record NeedsByte (lossy : Bool) (zero : Type 0) (b : List ℕ) (i k : ℕ) : Type 0 where
  pub at : ℕ
  pub order : (i ≤ at) × (at ≤ k)
  pub gap : IsGap (piece b i at)
  pub begun : IsBegun lossy zero (piece b at k)

-- a gap has no token: in a prefix of some text the tokens after one are those before it
abbrev pub GapHasNoToken : Type 0
GapHasNoToken =
    (lossy : Bool) (b : List ℕ) (i j : ℕ) (c : List Kind) (w : ExpectedPart) (ts : List Token)
    → PrefixAt lossy b i c w ts
    → i ≤ j
    → IsGap (piece b i j)
    → viable_prefix lossy (take j b)
    → (c' : List Kind) × (w' : ExpectedPart) × reading lossy (take j b) c' w' ts

-- where a name is the next token after a gap, the tokens before it are all that precede its opening
-- quotation mark
abbrev pub NameAfterGap : Type 0
NameAfterGap =
    (lossy : Bool) (b : List ℕ) (i j n : ℕ)
    (c c' : List Kind) (w w' : ExpectedPart) (ts : List Token) (s : List ℕ)
    → PrefixAt lossy b i c w ts
    → i ≤ j
    → j ≤ n
    → n ≤ length b
    → IsGap (piece b i j)
    → string lossy s (piece b j n)
    → reading lossy (take n b) c' w' (ts ++ key_token s ∷ [])
    → (d : List Kind) × (v : ExpectedPart) × reading lossy (take j b) d v ts × TakesKey v
