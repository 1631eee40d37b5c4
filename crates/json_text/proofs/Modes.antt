-- Where nothing was read, the modes are alike.
use Rattle.std.proofs.Common.{◌≡◌, ℕ, List, [], ◌∷◌, ◌++◌, take, Bool, refl, sym, subst}
use Rattle.json_grammar.specs.declared.Kind.{Kind}
use Rattle.json_grammar.specs.declared.ExpectedPart.{ExpectedPart}
use Rattle.json_grammar.specs.declared.ExpectedPart.TheVariants.{Value as at_value}
use Rattle.json_grammar.specs.Tree.{Tree, null, boolean, num, text, list, pairs, Token, tokens}
use Rattle.json_grammar.specs.Grammar.{ws}
use Rattle.json_grammar.specs.Place.{reading, start, open_one, read_value, read_comma, read_key, read_colon}
use Rattle.json_text.specs.Readers.{ReaderAt}

some_tokens : (t : Tree) → tokens t ≡ [] → ⊥
some_tokens null e = cc
some_tokens (boolean b) e = cc
some_tokens (num l) e = cc
some_tokens (text s) e = cc
some_tokens (list ts) e = cc
some_tokens (pairs ps) e = cc

last_none : (ts us : List Token) → ts ++ us ≡ [] → us ≡ []
last_none [] us e = e
last_none (x ∷ ts) us e = absurd (cc)

one_more : (ts : List Token) (x : Token) → ts ++ x ∷ [] ≡ [] → ⊥
one_more [] x e = cc
one_more (y ∷ ts) x e = cc

-- whitespace alone precedes the first token
before_first : {lossy : Bool} {p : List ℕ} {c : List Kind} {w : ExpectedPart} {ts : List Token} → reading lossy p c w ts → ts ≡ [] → ws p × (c ≡ []) × (w ≡ at_value)
before_first (start h) e = (h, refl, refl)
before_first (open_one {ts = ts} k h t q) e = absurd (one_more ts _ e)
before_first (read_value {ts = ts} t h n q) e = absurd (some_tokens t (last_none ts (tokens t) e))
before_first (read_comma k h q) e = let r = before_first h e in absurd (cc (r.1))
before_first (read_key {ts = ts} s h n q) e = absurd (one_more ts _ e)
before_first (read_colon h q) e = let r = before_first h e in absurd (cc (r.2))

pub fresh_in : (lossy mode : Bool) (limit : ℕ) (b : List ℕ) (i : ℕ) (c : List Kind) (w : ExpectedPart) → ReaderAt lossy limit b i c w [] → ReaderAt mode limit b i c w []
fresh_in lossy mode limit b i c w s =
    let r = before_first s.given.at refl in
    let here : reading mode (take s.base b) [] at_value [] = start r.0 in
    let at : reading mode (take s.base b) c w [] = subst (λ v. reading mode (take s.base b) c v []) (sym r.2) (subst (λ d. reading mode (take s.base b) d at_value []) (sym r.1) here) in
    record { base = s.base; given = record { fits = s.given.fits; at = at; ends = s.given.ends }; order = s.order; within = s.within; space = s.space; depth = s.depth; apart = s.apart }
