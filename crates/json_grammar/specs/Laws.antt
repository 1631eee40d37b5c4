-- Laws of the grammar, for its readers: what its definitions promise together.
use Rattle.std.specs.Prelude.{◌≡◌, ℕ, ◌+◌, ◌/◌, ◌≤◌, List, [], ◌++◌, length, drop, Bool, true, false, ◌⊎◌, IsUtf8}
use Rattle.json_grammar.specs.declared.Kind.{Kind}
use Rattle.json_grammar.specs.declared.ExpectedPart.{ExpectedPart}
use Rattle.json_grammar.specs.declared.ExpectedPart.TheVariants.{Done as done}
use Rattle.json_grammar.specs.Tree.{Tree, depth, Token, tokens}
use Rattle.json_grammar.specs.Grammar.{ws, is_text}
use Rattle.json_grammar.specs.Place.{viable_prefix, place, reading}
use Rattle.json_grammar.specs.Given.{LastEnds}
use Rattle.json_grammar.specs.Fault.{opens, FaultCode, in_word, in_number, in_string, fault, viable_value, reads, value_fault}
use Rattle.json_grammar.specs.Sizes.{nodes, tree_text_bytes, nodes_of, bytes_of}
use Rattle.json_grammar.specs.Levels.{peak}
use Rattle.json_grammar.specs.Proper.{IsProper}

-- ---- texts and trees

-- bytes are a text of one tree at most
abbrev pub OneTree : Type 0
OneTree = (lossy : Bool) (t t' : Tree) (b : List ℕ) → is_text lossy t b → is_text lossy t' b → t ≡ t'

-- two trees with the same tokens are the same tree
abbrev pub SameTokens : Type 0
SameTokens = (t t' : Tree) → tokens t ≡ tokens t' → t ≡ t'

-- the tree of each text has literals that are numbers, and strings and names that are UTF-8
abbrev pub TextIsProper : Type 0
TextIsProper = (lossy : Bool) (t : Tree) (b : List ℕ) → is_text lossy t b → IsProper t

-- each text of a tree is UTF-8 (section 8.1)
abbrev pub TextIsUtf8 : Type 0
TextIsUtf8 = (lossy : Bool) (t : Tree) (b : List ℕ) → is_text lossy t b → IsUtf8 b

-- a text of a tree in the strict mode is a text of it in the lossy mode too
abbrev pub StrictTextIsLossy : Type 0
StrictTextIsLossy = (t : Tree) (b : List ℕ) → is_text false t b → is_text true t b

-- a text opens as many brackets at once as its tree has levels, and a prefix as many as its tokens do
abbrev pub OpensIsDepth : Type 0
OpensIsDepth =
    (lossy : Bool)
    → ((t : Tree) (b : List ℕ) → is_text lossy t b → opens b ≡ depth t)
    × ((p : List ℕ) (c : List Kind) (w : ExpectedPart) (ts : List Token) → reading lossy p c w ts → opens p ≡ peak 0 ts)

-- ---- prefixes

-- what is at a place is a viable prefix: some text begins with it
abbrev pub PlaceIsViable : Type 0
PlaceIsViable = (lossy : Bool) (p : List ℕ) (c : List Kind) (w : ExpectedPart) (ts : List Token) → reading lossy p c w ts → viable_prefix lossy p

-- what ends within a literal name, a number or a string is one too
abbrev pub TokenIsViable : Type 0
TokenIsViable = (lossy : Bool) (p : List ℕ) → in_word lossy p ⊎ (in_number lossy p ⊎ ((e : List ℕ) × in_string lossy p e)) → viable_prefix lossy p

-- a prefix is at one place at most, and has one row of tokens
abbrev pub OnePlace : Type 0
OnePlace =
    (lossy : Bool) (p : List ℕ) (c c' : List Kind) (w w' : ExpectedPart) (ts ts' : List Token)
    → reading lossy p c w ts
    → reading lossy p c' w' ts'
    → (c ≡ c') × (w ≡ w') × (ts ≡ ts')

-- the tokens so far begin those of each text that begins so, and that text has no fewer levels
abbrev pub EventsBegin : Type 0
EventsBegin =
    (lossy : Bool) (p r : List ℕ) (c : List Kind) (w : ExpectedPart) (ts : List Token) (t : Tree)
    → reading lossy p c w ts
    → LastEnds w ts r
    → is_text lossy t (p ++ r)
    → ((m : List Token) × (tokens t ≡ ts ++ m)) × (peak 0 ts ≤ depth t)

-- ---- faults

-- for each limit of levels an input has one fault at most, at one offset
abbrev pub OneFault : Type 0
OneFault =
    (lossy : Bool) (limit : ℕ) (b : List ℕ) (code code' : FaultCode) (k k' : ℕ)
    → fault lossy limit b code k
    → fault lossy limit b code' k'
    → (code ≡ code') × (k ≡ k')

-- an input that is UTF-8 is a text within the limit of levels, or has a fault
abbrev pub SomeFault : Type 0
SomeFault =
    (lossy : Bool) (limit : ℕ) (b : List ℕ)
    → IsUtf8 b
    → ((t : Tree) × is_text lossy t b × (depth t ≤ limit)) ⊎ ((code : FaultCode) × (k : ℕ) × fault lossy limit b code k)

-- a text within the limit of levels has none
abbrev pub TextHasNoFault : Type 0
TextHasNoFault =
    (lossy : Bool) (limit : ℕ) (b : List ℕ) (t : Tree) (code : FaultCode) (k : ℕ)
    → is_text lossy t b
    → depth t ≤ limit
    → ¬ (fault lossy limit b code k)

-- ---- room

-- a text of n bytes has at most (n + 1) / 2 nodes, and its strings, names and number literals are at most n bytes
abbrev pub TextFits : Type 0
TextFits = (lossy : Bool) (t : Tree) (b : List ℕ) → is_text lossy t b → (nodes t ≤ (length b + 1) / 2) × (tree_text_bytes t ≤ length b)

-- the tokens of a prefix bring no more nodes than it has bytes, and no more bytes of strings, names and literals
abbrev pub PrefixFits : Type 0
PrefixFits =
    (lossy : Bool) (p : List ℕ) (c : List Kind) (w : ExpectedPart) (ts : List Token)
    → reading lossy p c w ts
    → (nodes_of ts ≤ length p) × (bytes_of ts ≤ length p)

-- the tokens of a prefix of a text bring no more nodes than the text may have
abbrev pub EventsFit : Type 0
EventsFit =
    (lossy : Bool) (p r : List ℕ) (c : List Kind) (w : ExpectedPart) (ts : List Token) (t : Tree)
    → reading lossy p c w ts
    → LastEnds w ts r
    → is_text lossy t (p ++ r)
    → nodes_of ts ≤ (length (p ++ r) + 1) / 2

-- the tokens of a tree bring its nodes, and the bytes of its strings, names and literals
abbrev pub TokensBring : Type 0
TokensBring = (t : Tree) → (nodes_of (tokens t) ≡ nodes t) × (bytes_of (tokens t) ≡ tree_text_bytes t)

-- ---- one value, whatever follows it

-- an input reads as at most one value, up to one place
abbrev pub OneValue : Type 0
OneValue = (lossy : Bool) (b : List ℕ) (t t' : Tree) (k k' : ℕ) → reads lossy b t k → reads lossy b t' k' → (t ≡ t') × (k ≡ k')

-- a text reads as its tree, with whitespace left
abbrev pub TextReads : Type 0
TextReads = (lossy : Bool) (t : Tree) (b : List ℕ) → is_text lossy t b → (k : ℕ) × reads lossy b t k × ws (drop k b)

-- an input that reads as a value with whitespace left is a text of it
abbrev pub ReadsText : Type 0
ReadsText = (lossy : Bool) (t : Tree) (b : List ℕ) (k : ℕ) → reads lossy b t k → ws (drop k b) → is_text lossy t b

-- what begins a value begins a text, and what begins a text begins a value or has a whole one before its end
abbrev pub ViableValues : Type 0
ViableValues =
    (lossy : Bool) (p : List ℕ)
    → (viable_value lossy p → viable_prefix lossy p) × (viable_prefix lossy p → viable_value lossy p ⊎ place lossy p [] done)

-- the tokens so far begin those of the value that an input reads as
abbrev pub ValueEventsBegin : Type 0
ValueEventsBegin =
    (lossy : Bool) (p r : List ℕ) (c : List Kind) (w : ExpectedPart) (ts : List Token) (t : Tree) (k : ℕ)
    → reading lossy p c w ts
    → LastEnds w ts r
    → reads lossy (p ++ r) t k
    → (m : List Token) × (tokens t ≡ ts ++ m)

-- for each limit of levels an input has one fault at most as a value, at one offset
abbrev pub OneValueFault : Type 0
OneValueFault =
    (lossy : Bool) (limit : ℕ) (b : List ℕ) (code code' : FaultCode) (k k' : ℕ)
    → value_fault lossy limit b code k
    → value_fault lossy limit b code' k'
    → (code ≡ code') × (k ≡ k')

-- an input that is UTF-8 reads as a value within the limit of levels, or has a fault as a value
abbrev pub SomeValueFault : Type 0
SomeValueFault =
    (lossy : Bool) (limit : ℕ) (b : List ℕ)
    → IsUtf8 b
    → ((t : Tree) × (k : ℕ) × reads lossy b t k × (depth t ≤ limit)) ⊎ ((code : FaultCode) × (k : ℕ) × value_fault lossy limit b code k)

-- an input that reads as a value within the limit of levels has none
abbrev pub ReadsHasNoFault : Type 0
ReadsHasNoFault =
    (lossy : Bool) (limit : ℕ) (b : List ℕ) (t : Tree) (j : ℕ) (code : FaultCode) (k : ℕ)
    → reads lossy b t j
    → depth t ≤ limit
    → ¬ (value_fault lossy limit b code k)
