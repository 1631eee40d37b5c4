-- Laws for the proofs of a reader that refuses names that repeat.
use Rattle.std.specs.Prelude.{◌≡◌, ◌≢◌, ℕ, ◌≤◌, ◌<◌, List, [], ◌∷◌, ◌++◌, length, take, Bool, true, ◌⊎◌, ◌↔◌}
use Rattle.std.specs.List.{Contains}
use Rattle.json_grammar.specs.declared.Kind.{Kind}
use Rattle.json_grammar.specs.declared.Kind.TheVariants.{Object as object}
use Rattle.json_grammar.specs.declared.ExpectedPart.{ExpectedPart}
use Rattle.json_grammar.specs.Tree.{Tree, Pairs, Token, begin, key_token, tokens, pairs_tokens}
use Rattle.json_grammar.specs.Grammar.{number, string}
use Rattle.json_grammar.specs.Place.{TakesValue, TakesKey, reading}
use Rattle.json_grammar.specs.Given.{piece, PrefixAt, NamesReturned, NoNameEnds}
use Rattle.json_grammar.specs.Levels.{peak}
use Rattle.json_grammar.specs.Fault.{FaultCode, duplicate_key, is_word, fault}
use Rattle.json_grammar.specs.Repeated.{names, RepeatsKey, keys_from, open_keys, RepeatsAt, TokensRepeat, repeated}
use Rattle.json_grammar.specs.Rules.{Rules, fault_with}

-- a tree's tokens repeat a name exactly where the tree does
abbrev pub TokensOfTree : Type 0
TokensOfTree = (t : Tree) → TokensRepeat (tokens t) ↔ RepeatsKey t

-- one token more repeats a name where one before it did, or where it is a name that its object has
abbrev pub OneTokenMore : Type 0
OneTokenMore =
    (ts : List Token) (x : Token)
    → TokensRepeat (ts ++ x ∷ []) ↔ (TokensRepeat ts ⊎ RepeatsAt (keys_from [] ts) x)

-- after an object's beginning and whole members the open names are theirs
abbrev pub OpenKeysInside : Type 0
OpenKeysInside =
    (ts : List Token) (ps : Pairs) → open_keys (ts ++ begin object ∷ pairs_tokens ps) ≡ names ps

-- an open object with some whole members and one more name: that name is the last token, and those
-- are the names before it
abbrev pub KeyInside : Type 0
KeyInside =
    (ts us : List Token) (ps : Pairs) (s k : List ℕ)
    → ts ++ key_token s ∷ [] ≡ us ++ begin object ∷ (pairs_tokens ps ++ key_token k ∷ [])
    → (s ≡ k) × (open_keys ts ≡ names ps)

-- what is at a place repeats a name exactly where its tokens do
abbrev pub PlaceRepeats : Type 0
PlaceRepeats =
    (lossy : Bool) (p : List ℕ) (c : List Kind) (w : ExpectedPart) (ts : List Token)
    → reading lossy p c w ts
    → ((k : ℕ) × repeated lossy p k) ↔ TokensRepeat ts

-- a name repeats at its opening quotation mark exactly where its object has it already, as the tokens
-- before it tell; no other name repeats with it
abbrev pub KeyRepeats : Type 0
KeyRepeats =
    (lossy : Bool) (q v : List ℕ) (c : List Kind) (w : ExpectedPart) (ts : List Token) (s : List ℕ)
    → reading lossy q c w ts
    → TakesKey w
    → string lossy s v
    → (repeated lossy (q ++ v) (length q) ↔ Contains (open_keys ts) s)
    × ((k : ℕ) → repeated lossy (q ++ v) k → repeated lossy q k ⊎ (k ≡ length q))
    × ((k : ℕ) → repeated lossy q k → k < length q)

-- so it may be refused at once: a name from j up to n that repeats, where none before it did and no more
-- levels are open than allowed
abbrev pub KeyRefused : Type 0
KeyRefused =
    (lossy : Bool) (rules : Rules) (b : List ℕ) (j n : ℕ)
    (c : List Kind) (w : ExpectedPart) (ts : List Token) (s : List ℕ)
    → rules.unique ≡ true
    → reading lossy (take j b) c w ts
    → TakesKey w
    → j ≤ n
    → n ≤ length b
    → string lossy s (piece b j n)
    → peak 0 ts ≤ rules.limit
    → ¬ (TokensRepeat ts)
    → Contains (open_keys ts) s
    → fault_with lossy rules b duplicate_key j

-- a fault for the limit of levels is the one for the rules, where no name returned so far repeats
-- and each name that is whole before the fault was returned
abbrev pub LimitFaultByRules : Type 0
LimitFaultByRules =
    (lossy : Bool) (rules : Rules) (b : List ℕ) (i : ℕ)
    (c : List Kind) (w : ExpectedPart) (ts : List Token) (code : FaultCode) (k : ℕ)
    → reading lossy (take i b) c w ts
    → (rules.unique ≡ true → ¬ (TokensRepeat ts))
    → (rules.unique ≡ true → NamesReturned lossy b i k)
    → fault lossy rules.limit b code k
    → fault_with lossy rules b code k

-- each name that is whole before k was returned if no more was passed since than whitespace, a
-- comma or a colon, up to j, and no name ends after that
abbrev pub NamesAreReturned : Type 0
NamesAreReturned =
    (lossy : Bool) (b : List ℕ) (i j k : ℕ) (c c' : List Kind) (w w' : ExpectedPart) (ts : List Token)
    → PrefixAt lossy b i c w ts
    → i ≤ j
    → j ≤ length b
    → reading lossy (take j b) c' w' ts
    → NoNameEnds lossy b j k
    → NamesReturned lossy b i k

-- no name ends within a literal name, a number, or a string that is not whole
abbrev pub NoNameWithin : Type 0
NoNameWithin =
    (lossy : Bool) (b : List ℕ) (j k : ℕ) (c : List Kind) (w : ExpectedPart) (ts : List Token)
    → k ≤ length b
    → j ≤ k
    → reading lossy (take j b) c w ts
    → ((z : List ℕ) → TakesValue w → is_word (piece b j k ++ z) → NoNameEnds lossy b j k)
    × ((z : List ℕ) → TakesValue w → number (piece b j k ++ z) → NoNameEnds lossy b j k)
    × ((s z : List ℕ)
    → z ≢ []
    → TakesValue w ⊎ TakesKey w
    → string lossy s (piece b j k ++ z)
    → NoNameEnds lossy b j k)
