-- Laws for the proofs of a reader: with which bytes no text goes on, and which fault a refusal is.
use Rattle.std.specs.Prelude.{◌≡◌, ◌≢◌, ℕ, ◌+◌, ◌≤◌, ◌<◌, List, [], ◌∷◌, ◌++◌, length, get_or, drop, Bool, ◌⊎◌}
use Rattle.json_grammar.specs.declared.Kind.{Kind}
use Rattle.json_grammar.specs.declared.ExpectedPart.{ExpectedPart}
use Rattle.json_grammar.specs.declared.ExpectedPart.TheVariants.{Done as done}
use Rattle.json_grammar.specs.Tree.{Tree, Token, num_token, tokens}
use Rattle.json_grammar.specs.Grammar.{IsWhitespace, IsDigit, ws, number, Atom, Atoms, is_text}
use Rattle.json_grammar.specs.Place.{place, reading}
use Rattle.json_grammar.specs.Given.{piece, PrefixAt}
use Rattle.json_grammar.specs.Allows.{Allows}
use Rattle.json_grammar.specs.Fault.{opens, FaultCode, eof_while_parsing, trailing_characters, is_word, in_word, in_number, in_string, fault, faulty, reads, value_fault}

-- ---- with which bytes no text goes on

-- where neither a byte that the state allows nor the end of a whole text follows, whitespace aside,
-- no text begins so
abbrev pub StuckAtPlace : Type 0
StuckAtPlace =
    (lossy : Bool) (b : List ℕ) (i j : ℕ) (c : List Kind) (w : ExpectedPart) (ts : List Token)
    → PrefixAt lossy b i c w ts
    → i ≤ j
    → ws (piece b i j)
    → (j < length b → ¬ (IsWhitespace (get_or b j 0)))
    → (j < length b → ¬ (Allows w c (get_or b j 0)))
    → (length b ≤ j → ¬ ((w ≡ done) × (c ≡ [])))
    → (t : Tree)
    → ¬ (is_text lossy t b)

-- within a literal name no text goes on with another byte than the name
abbrev pub StuckInWord : Type 0
StuckInWord =
    (lossy : Bool) (p q z m : List ℕ) (x : ℕ) (c : List Kind) (w : ExpectedPart) (ts : List Token) (t : Tree)
    → reading lossy p c w ts
    → w ≢ done
    → q ≢ []
    → z ≢ []
    → is_word (q ++ z)
    → ((n : List ℕ) → z ≢ x ∷ n)
    → ¬ (is_text lossy t (p ++ (q ++ x ∷ m)))

-- within a number that is not whole no text goes on with a byte with which no number does
abbrev pub StuckInNumber : Type 0
StuckInNumber =
    (lossy : Bool) (p q z m : List ℕ) (x : ℕ) (c : List Kind) (w : ExpectedPart) (ts : List Token) (t : Tree)
    → reading lossy p c w ts
    → w ≢ done
    → q ≢ []
    → number (q ++ z)
    → ¬ (number q)
    → ((n : List ℕ) → ¬ (number (q ++ x ∷ n)))
    → ¬ (is_text lossy t (p ++ (q ++ x ∷ m)))

-- within an atom of a string no text goes on with a byte with which no atom does
abbrev pub StuckInString : Type 0
StuckInString =
    (lossy : Bool) (p b e z m : List ℕ) (x : ℕ) (c : List Kind) (w : ExpectedPart) (ts : List Token) (t : Tree)
    → reading lossy p c w ts
    → w ≢ done
    → Atoms lossy b
    → Atom lossy (e ++ z)
    → z ≢ []
    → ((n : List ℕ) → ¬ (Atom lossy (e ++ x ∷ n)))
    → (e ≡ [] → x ≢ 34)
    → ¬ (is_text lossy t (p ++ (34 ∷ (b ++ (e ++ x ∷ m)))))

-- ---- the fault of a text, and of a value

-- where no text goes on so, the prefix is the longest that is viable
abbrev pub FaultyIsFault : Type 0
FaultyIsFault =
    (lossy : Bool) (limit : ℕ) (b : List ℕ) (code : FaultCode) (k : ℕ)
    → faulty lossy limit b code k
    → fault lossy limit b code k

-- where nothing is open and the last byte is no whitespace, a value was read, if no digit follows `0` or `-0`
abbrev pub GivenReads : Type 0
GivenReads =
    (lossy : Bool) (b : List ℕ) (k : ℕ) (ts : List Token)
    → PrefixAt lossy b (k + 1) [] done ts
    → ¬ (IsWhitespace (get_or b k 0))
    → ((x : ℕ) (m : List ℕ) → drop (k + 1) b ≡ x ∷ m → IsDigit x → ¬ ((ts ≡ num_token (48 ∷ []) ∷ []) ⊎ (ts ≡ num_token (45 ∷ 48 ∷ []) ∷ [])))
    → (t : Tree) × reads lossy b t (k + 1) × (ts ≡ tokens t)

-- a fault of an input is its fault as a value, but for the end of the input and for what follows a
-- whole value
abbrev pub FaultyIsValueFault : Type 0
FaultyIsValueFault =
    (lossy : Bool) (limit : ℕ) (b : List ℕ) (code : FaultCode) (k : ℕ)
    → code ≢ trailing_characters
    → code ≢ eof_while_parsing
    → faulty lossy limit b code k
    → value_fault lossy limit b code k

-- an input that ends before its value does has the fault that says so
abbrev pub ValueBreaksOff : Type 0
ValueBreaksOff =
    (lossy : Bool) (limit : ℕ) (b : List ℕ)
    → ((c : List Kind) × (w : ExpectedPart) × place lossy b c w)
    ⊎ (in_word lossy b ⊎ (in_number lossy b ⊎ ((e : List ℕ) × in_string lossy b e)))
    → ¬ (place lossy b [] done)
    → opens b ≤ limit
    → value_fault lossy limit b eof_while_parsing (length b)
