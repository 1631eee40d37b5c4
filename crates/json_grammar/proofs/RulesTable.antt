-- Where neither a level too many nor a repeated name is reported, the table of the other faults
-- holds unchanged.
use Rattle.std.proofs.Common.{Bool, ◌≡◌, ℕ, ◌≤◌, List, [], ◌∷◌, ◌++◌, length, ◌⊎◌, inl, inr, refl, sym, ap, ◌∙◌, subst, arith, append_assoc, append-nil, IsUtf8}
use Rattle.json_grammar.specs.Tree.{Tree}
use Rattle.json_grammar.specs.Grammar.{is_text}
use Rattle.json_grammar.specs.Place.{viable_prefix}
use Rattle.json_grammar.specs.Fault.{opens, FaultCode, eof_while_parsing, recursion_limit_exceeded, duplicate_key, longest, row}
use Rattle.json_grammar.specs.Rules.{Rules, fits, no_repeat, fault_with}
use Rattle.json_grammar.proofs.Lists.{Cut, cut, longer, shorter, head}
use Rattle.json_grammar.proofs.Faults.{shorter_viable}
use Rattle.json_grammar.proofs.RulesFault.{some_fault_with}

module _ (lossy : Bool) where
  same_longest : (b p p' : List ℕ) (x x' : ℕ)
      → longest (viable_prefix lossy) b p x
      → longest (viable_prefix lossy) b p' x'
      → p ≡ p'
  same_longest b p p' x x' l l' = by (cut p (x ∷ l.rest) p' (x' ∷ l'.rest) (sym l.bytes ∙ l'.bytes))
    where
      by : Cut p (x ∷ l.rest) p' (x' ∷ l'.rest) → p ≡ p'
      by (longer [] f g) = sym (append-nil p) ∙ sym f
      by (longer (y ∷ m) f g) = absurd (l.no_longer (shorter_viable lossy (p ++ x ∷ []) m (subst (viable_prefix lossy) (f ∙ ap (λ z. p ++ z ∷ m) (sym (head g)) ∙ sym (append_assoc p (x ∷ []) m)) l'.is_viable)))
      by (shorter y m f g) = absurd (l'.no_longer (shorter_viable lossy (p' ++ x' ∷ []) m (subst (viable_prefix lossy) (f ∙ ap (λ z. p' ++ z ∷ m) (sym (head g)) ∙ sym (append_assoc p' (x' ∷ []) m)) l.is_viable)))

  not_viable : (b p : List ℕ) (x : ℕ)
      → longest (viable_prefix lossy) b p x
      → viable_prefix lossy b
      → ⊥
  not_viable b p x l v = l.no_longer (shorter_viable lossy (p ++ x ∷ []) l.rest (subst (viable_prefix lossy) (l.bytes ∙ sym (append_assoc p (x ∷ []) l.rest)) v))

  -- how low the longest prefix is, and that no name repeats, where neither a level too many nor a
  -- repeated name is reported
  data Low (r : Rules) (b : List ℕ) : Type 0 where
    fitting : (t : Tree) → is_text lossy t b → Low r b
    ended : viable_prefix lossy b → opens b ≤ r.limit → no_repeat lossy r b → Low r b
    broken : (p : List ℕ) (x : ℕ)
        → longest (viable_prefix lossy) b p x
        → opens p ≤ r.limit
        → no_repeat lossy r b
        → Low r b

  low_told : (r : Rules) (b : List ℕ) (code : FaultCode) (k : ℕ)
      → fault_with lossy r b code k
      → ((j : ℕ) → ¬ (fault_with lossy r b recursion_limit_exceeded j))
      → ((j : ℕ) → ¬ (fault_with lossy r b duplicate_key j))
      → Low r b
  low_told r b duplicate_key k h nd nt = absurd (nt k h)
  low_told r b recursion_limit_exceeded k h nd nt = absurd (nd k h)
  low_told r b eof_while_parsing k h nd nt = ended h.0.1 h.0.2 h.1
  low_told r b code k h nd nt = broken h.0.0 h.0.1 h.0.2 h.0.4 h.1

  low : (r : Rules) (b : List ℕ)
      → IsUtf8 b
      → ((j : ℕ) → ¬ (fault_with lossy r b recursion_limit_exceeded j))
      → ((j : ℕ) → ¬ (fault_with lossy r b duplicate_key j))
      → Low r b
  low r b u nd nt = by (some_fault_with lossy r b u)
    where
      by : ((t : Tree) × is_text lossy t b × fits t r) ⊎ ((code : FaultCode) × (k : ℕ) × fault_with lossy r b code k)
          → Low r b
      by (inl (t, h, f)) = fitting t h
      by (inr (code, k, h)) = low_told r b code k h nd nt

  pub eof_row : (r : Rules) (b : List ℕ)
      → IsUtf8 b
      → ((j : ℕ) → ¬ (fault_with lossy r b recursion_limit_exceeded j))
      → ((j : ℕ) → ¬ (fault_with lossy r b duplicate_key j))
      → viable_prefix lossy b
      → ((t : Tree) → ¬ (is_text lossy t b))
      → fault_with lossy r b eof_while_parsing (length b)
  eof_row r b u nd nt v n = by (low r b u nd nt)
    where
      by : Low r b → fault_with lossy r b eof_while_parsing (length b)
      by (fitting t h) = absurd (n t h)
      by (ended w o f) = ((refl, w, o, λ g. n g.0 g.1), f)
      by (broken p x l o f) = absurd (not_viable b p x l v)

  with_row : (r : Rules) (b : List ℕ) (code : FaultCode) (p : List ℕ) (x : ℕ)
      → longest (viable_prefix lossy) b p x
      → row lossy code p x
      → opens p ≤ r.limit
      → no_repeat lossy r b
      → fault_with lossy r b code (length p)
  with_row r b duplicate_key p x l s o f = absurd s
  with_row r b recursion_limit_exceeded p x l s o f = absurd s
  with_row r b eof_while_parsing p x l s o f = absurd s
  with_row r b code p x l s o f = ((p, x, l, refl, o, s), f)

  pub other_row : (r : Rules) (b : List ℕ)
      → IsUtf8 b
      → ((j : ℕ) → ¬ (fault_with lossy r b recursion_limit_exceeded j))
      → ((j : ℕ) → ¬ (fault_with lossy r b duplicate_key j))
      → (code : FaultCode) (p : List ℕ) (x : ℕ)
      → longest (viable_prefix lossy) b p x
      → row lossy code p x
      → fault_with lossy r b code (length p)
  other_row r b u nd nt code p x l s = by (low r b u nd nt)
    where
      by : Low r b → fault_with lossy r b code (length p)
      by (fitting t h) = absurd (not_viable b p x l (t, [], subst (is_text lossy t) (sym (append-nil b)) h))
      by (ended w o f) = absurd (not_viable b p x l w)
      by (broken p' x' l' o f) = with_row r b code p x l s (let e : opens p ≡ opens p' = ap opens (same_longest b p p' x x' l l') in omega arith) f
