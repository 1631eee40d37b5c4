-- By any rules an input that is UTF-8 reads as a value that fits, or has one fault as a value.
use Rattle.std.proofs.Common.{Bool, true, false, ◌≡◌, ◌≢◌, ℕ, ◌≤◌, List, [], ◌∷◌, ◌++◌, take, drop, ◌⊎◌, inl, inr, refl, sym, subst, arith, append-nil, IsUtf8}
use Rattle.std.proofs.lemmas.List.{take-append-drop}
use Rattle.json_grammar.specs.declared.Kind.TheVariants.{Object as object}
use Rattle.json_grammar.specs.Tree.{Tree, depth, key_token}
use Rattle.json_grammar.specs.Grammar.{is_text}
use Rattle.json_grammar.specs.Fault.{FaultCode, trailing_characters, recursion_limit_exceeded, duplicate_key, fault_by, viable_value, reads, value_fault}
use Rattle.json_grammar.specs.Repeated.{repeated}
use Rattle.json_grammar.specs.Rules.{Rules, fits, fault_with_by, value_fault_with}
use Rattle.json_grammar.proofs.OneFault.{opens_text}
use Rattle.json_grammar.proofs.OneValue.{shorter_value, value_no_more, value_text}
use Rattle.json_grammar.proofs.ValueFaults.{reads_no_fault}
use Rattle.json_grammar.proofs.SomeValueFault.{some_value_fault}
use Rattle.json_grammar.specs.NumberEnds.{TreeEnds}
use Rattle.json_grammar.proofs.RepeatedNames.{NameAt, repeated_at, at_repeated, repeated_more}
use Rattle.json_grammar.proofs.FirstRepeated.{NoneIn, FirstIn, within, text_repeats, repeats_text}
use Rattle.json_grammar.proofs.RepeatedInput.{opens_take, Reaches, ends_in, goes_past, reaches, name_place, named_value, search_any}
use Rattle.json_grammar.proofs.RulesFault.{no_true, Kinds, twice, too_deep_first, no_name, kinds, stays, with_plain, unique_of, one_with_by, some_with_by}

module _ (lossy : Bool) where
  abbrev Reads : List ℕ → Type 0
  Reads b = (t : Tree) × (k : ℕ) × reads lossy b t k

  from_value : (r : Rules) (b : List ℕ) (code : FaultCode) (k : ℕ)
      → value_fault_with lossy r b code k
      → fault_with_by lossy (viable_value lossy) (Reads b) r b code k
  from_value r b trailing_characters k h = absurd h
  from_value r b code k h = h

  to_value : (r : Rules) (b : List ℕ) (code : FaultCode) (k : ℕ)
      → code ≢ trailing_characters
      → fault_with_by lossy (viable_value lossy) (Reads b) r b code k
      → value_fault_with lossy r b code k
  to_value r b trailing_characters k n h = absurd (n refl)
  to_value r b code k n h = h

  limit_value : (n : ℕ) (b : List ℕ) (code : FaultCode) (k : ℕ)
      → value_fault lossy n b code k
      → fault_by lossy (viable_value lossy) (Reads b) n b code k × (code ≢ trailing_characters)
  limit_value n b trailing_characters k h = absurd h
  limit_value n b code k h = (h, λ e. cc)

  value_limit : (n : ℕ) (b : List ℕ) (code : FaultCode) (k : ℕ)
      → code ≢ trailing_characters
      → fault_by lossy (viable_value lossy) (Reads b) n b code k
      → value_fault lossy n b code k
  value_limit n b trailing_characters k m h = absurd (m refl)
  value_limit n b code k m h = h

  from_value_not : (r : Rules) (b : List ℕ) (code : FaultCode) (k : ℕ)
      → value_fault_with lossy r b code k
      → code ≢ trailing_characters
  from_value_not r b trailing_characters k h = absurd h
  from_value_not r b code k h = λ e. cc

  pub one_value_fault_with : (r : Rules) (b : List ℕ) (code code' : FaultCode) (k k' : ℕ)
      → value_fault_with lossy r b code k
      → value_fault_with lossy r b code' k'
      → (code ≡ code') × (k ≡ k')
  one_value_fault_with r b code code' k k' h h' = one_with_by lossy (viable_value lossy) (Reads b) (shorter_value lossy) r b code code' k k' (from_value r b code k h) (from_value r b code' k' h')

  pub value_with_limit : (n : ℕ) (b : List ℕ) (code : FaultCode) (k : ℕ)
      → value_fault_with lossy (record { limit = n; unique = false }) b code k
      → value_fault lossy n b code k
  value_with_limit n b code k h = value_limit n b code k (from_value_not (record { limit = n; unique = false }) b code k h) (with_plain lossy (viable_value lossy) (Reads b) (record { limit = n; unique = false }) b code k refl (from_value (record { limit = n; unique = false }) b code k h))

  pub limit_with_value : (n : ℕ) (b : List ℕ) (code : FaultCode) (k : ℕ)
      → value_fault lossy n b code k
      → value_fault_with lossy (record { limit = n; unique = false }) b code k
  limit_with_value n b code k h = let v = limit_value n b code k h in to_value (record { limit = n; unique = false }) b code k v.1 (stays lossy (viable_value lossy) (Reads b) (record { limit = n; unique = false }) b code k v.0 (λ e. no_true e))

  -- a name that repeats in an input repeats in the value that is read
  in_value : (b : List ℕ) (t : Tree) (k j : ℕ)
      → reads lossy b t k
      → repeated lossy b j
      → repeated lossy (take k b) j
  in_value b t k j h g = let r = repeated_at lossy (take k b ++ drop k b) j (subst (λ y. repeated lossy y j) (sym (take-append-drop k b)) g) in by r (reaches lossy (take k b) (drop k b) j r)
    where
      by : (r : NameAt lossy (take k b ++ drop k b) j)
          → Reaches lossy (take k b) (drop k b) j r
          → repeated lossy (take k b) j
      by r (ends_in a) = at_repeated lossy (take k b) j a
      by r (goes_past y m f e) =
          absurd (value_no_more lossy t (take k b) y (m ++ r.rest) m h.spells (subst (TreeEnds t) e h.ends) (subst (viable_value lossy) f (named_value lossy (r.q ++ r.v) (object ∷ r.c) (r.ts ++ key_token r.s ∷ []) (name_place lossy r))))

  value_text_of : (b : List ℕ) (t : Tree) (k : ℕ) → reads lossy b t k → is_text lossy t (take k b)
  value_text_of b t k h = subst (is_text lossy t) (append-nil (take k b)) (value_text lossy t (take k b) [] h.spells tt)

  pub reads_no_fault_with : (r : Rules) (b : List ℕ) (t : Tree) (j : ℕ) (code : FaultCode) (k : ℕ)
      → reads lossy b t j
      → fits t r
      → value_fault_with lossy r b code k
      → ⊥
  reads_no_fault_with r b t j code k h f g = go (kinds lossy (viable_value lossy) (Reads b) r b code k (from_value r b code k g)) (from_value_not r b code k g)
    where
      go : {c : FaultCode}
          → Kinds lossy (viable_value lossy) (Reads b) r b k c
          → c ≢ trailing_characters
          → ⊥
      go (twice u i o) m = f.1 u (text_repeats lossy t (take j b) k (value_text_of b t j h) (in_value b t j k h i.0))
      go (too_deep_first d n) m = reads_no_fault lossy r.limit b t j recursion_limit_exceeded k h f.0 d
      go {c} (no_name d n) m = reads_no_fault lossy r.limit b t j c k h f.0 (value_limit r.limit b c k m d)

  abbrev JudgedValue : Rules → List ℕ → Type 0
  JudgedValue r b = ((t : Tree) × (k : ℕ) × reads lossy b t k × fits t r) ⊎ ((code : FaultCode) × (k : ℕ) × value_fault_with lossy r b code k)

  reads_judged : (n : ℕ) (b : List ℕ) (t : Tree) (k : ℕ)
      → reads lossy b t k
      → depth t ≤ n
      → NoneIn lossy b ⊎ FirstIn lossy b
      → JudgedValue (unique_of n) b
  reads_judged n b t k h l (inl o) =
      inl (t, k, h, (l, λ u x. let r = repeats_text lossy t (take k b) (value_text_of b t k h) x in o r.0 (subst (λ y. repeated lossy y r.0) (take-append-drop k b) (repeated_more lossy (take k b) (drop k b) r.0 r.1))))
  reads_judged n b t k h l (inr f) =
      let i = within lossy (take k b) f.k (in_value b t k f.k h f.at) in
      let g = opens_take f.k (take k b) (drop k b) b (sym (take-append-drop k b)) (omega arith) in let e = opens_text lossy t (take k b) (value_text_of b t k h) in
      inr (duplicate_key, f.k, (refl, (f.at, f.least), omega arith))

  judged_value : (n : ℕ) (unique : Bool) (b : List ℕ)
      → NoneIn lossy b ⊎ FirstIn lossy b
      → ((t : Tree) × (k : ℕ) × reads lossy b t k × (depth t ≤ n)) ⊎ ((code : FaultCode) × (k : ℕ) × value_fault lossy n b code k)
      → JudgedValue (record { limit = n; unique = unique }) b
  judged_value n true b s (inl (t, k, h, l)) = reads_judged n b t k h l s
  judged_value n true b s (inr (code, k, h)) =
      let v = limit_value n b code k h in
      let o = some_with_by lossy (viable_value lossy) (Reads b) (λ c. c ≢ trailing_characters) (shorter_value lossy) (named_value lossy) (λ e. cc) (λ e. cc) n b s code k v.1 v.0 in
      inr (o.0, o.1, to_value (unique_of n) b o.0 o.1 o.2 o.3)
  judged_value n false b s (inl (t, k, h, l)) = inl (t, k, h, (l, λ e. no_true e))
  judged_value n false b s (inr (code, k, h)) = inr (code, k, limit_with_value n b code k h)

  pub some_value_fault_with : (r : Rules) (b : List ℕ)
      → IsUtf8 b
      → ((t : Tree) × (k : ℕ) × reads lossy b t k × fits t r) ⊎ ((code : FaultCode) × (k : ℕ) × value_fault_with lossy r b code k)
  some_value_fault_with r b u = judged_value r.limit r.unique b (search_any lossy b u) (some_value_fault lossy r.limit b u)
