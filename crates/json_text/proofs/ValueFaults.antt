-- The faults of an input as a value, from those as a text.
use Rattle.std.proofs.Common.{◌≡◌, ◌∙◌, ℕ, ◌≤◌, List, [], ◌∷◌, ◌++◌, length, take, drop, ◌⊎◌, inl, inr, refl, sym, ap, subst, arith, append-nil, Option, Some, IfSome, Bool}
use Rattle.std.proofs.lemmas.List.{take-append-drop}
use Rattle.json_grammar.specs.Tree.{Tree, tokens}
use Rattle.json_grammar.specs.declared.ExpectedPart.TheVariants.{Done as done}
use Rattle.json_grammar.specs.Grammar.{is_text}
use Rattle.json_grammar.specs.Place.{place, reading, viable_prefix}
use Rattle.json_grammar.specs.NumberEnds.{TreeEnds}
use Rattle.json_grammar.specs.Fault.{opens, FaultCode, value_fault, viable_value, reads, too_deep, longest, row, eof_while_parsing, invalid_literal, invalid_number, expected_colon, expected_array_comma_or_end, expected_object_comma_or_end, expect_object_key_or_end, trailing_comma, invalid_json_value, control_character, invalid_escape, invalid_surrogate}
use Rattle.json_grammar.proofs.OneValue.{value_no_more, value_place, viable_split}
use Rattle.json_grammar.proofs.Opens.{closed_opens}
use Rattle.json_grammar.proofs.Closing.{whole_text}
use Rattle.json_grammar.proofs.ValueFaults.{faulty_value}
use Rattle.json_io.specs.declared.error.Error.{Error}
use Rattle.json_io.specs.declared.error.ErrorCode.{ErrorCode}
use Rattle.json_io.specs.declared.error.ErrorCode.TheVariants as code
use Rattle.json_io.specs.declared.error.Place.{Place}
use Rattle.json_text.specs.Faults.{IsFault, FaultFrom, IsInValue, IsValueFault, ValueFaultFrom}
use Rattle.json_text.specs.Parsing.{ParserState, IsWhole, Refuses, IsSound}

module _ (lossy : Bool) (limit : ℕ) (b : List ℕ) where
  rowed : (k : ℕ) (c : FaultCode) → (p : List ℕ) × (x : ℕ) × longest (viable_prefix lossy) b p x × (length p ≡ k) × (opens p ≤ limit) × row lossy c p x
      → (p : List ℕ) × (x : ℕ) × (rest : List ℕ) × (b ≡ p ++ x ∷ rest) × (length p ≡ k) × (opens p ≤ limit) × row lossy c p x × ¬ (viable_prefix lossy (p ++ x ∷ []))
  rowed k c (p, x, l, n, o, r) = (p, x, l.rest, l.bytes, n, o, r, l.no_longer)

  deep : (k : ℕ) → too_deep (viable_prefix lossy) limit b k → too_deep (viable_value lossy) limit b k
  deep k (p, x, r, e, l, v, o, d) = (p, x, r, e, l, by (viable_split lossy (p ++ x ∷ []) v), o, d)
    where
      by : viable_value lossy (p ++ x ∷ []) ⊎ place lossy (p ++ x ∷ []) [] done → viable_value lossy (p ++ x ∷ [])
      by (inl u) = u
      by (inr (ts, h)) = let i = closed_opens lossy p x h in absurd (omega arith)

  short : (k : ℕ) → (k ≡ length b) × viable_prefix lossy b × (opens b ≤ limit) × ¬ ((t : Tree) × is_text lossy t b) → value_fault lossy limit b eof_while_parsing k
  short k (e, v, o, n) = (e, viable, o, none)
    where
      by : viable_value lossy b ⊎ place lossy b [] done → viable_value lossy b
      by (inl u) = u
      by (inr (ts, h)) = let t = whole_text lossy b ts h in absurd (n (t.0, t.1))

      viable : viable_value lossy b
      viable = by (viable_split lossy b v)

      ends : (t : Tree) (j : ℕ) (h : reads lossy b t j) (r : List ℕ) → drop j b ≡ r → ⊥
      ends t j h [] f =
          let r : reading lossy (take j b) [] done (tokens t) = subst (λ o. reading lossy o [] done (tokens t)) (append-nil (take j b)) (value_place lossy t (take j b) [] h.spells tt) in
          let w : reading lossy b [] done (tokens t) = subst (λ o. reading lossy o [] done (tokens t)) (sym (append-nil (take j b)) ∙ ap (λ o. take j b ++ o) (sym f) ∙ take-append-drop j b) r in
          let u = whole_text lossy b (tokens t) w in n (u.0, u.1)
      ends t j h (y ∷ m) f =
          value_no_more lossy t (take j b) y m m h.spells (subst (TreeEnds t) f h.ends) (subst (viable_value lossy) (sym (take-append-drop j b) ∙ ap (λ o. take j b ++ o) f) viable)

      none : ¬ ((t : Tree) × (j : ℕ) × reads lossy b t j)
      none (t, j, h) = ends t j h (drop j b) refl

  pub value_fault_of : (c : ErrorCode) (k : ℕ) → IsFault lossy limit b c k → IsInValue c → IsValueFault lossy limit b c k
  value_fault_of code.EofWhileParsing k h n = short k h
  value_fault_of code.InvalidLiteral k h n = faulty_value lossy limit b invalid_literal k (λ e. cc) (λ e. cc) (rowed k invalid_literal h)
  value_fault_of code.InvalidNumber k h n = faulty_value lossy limit b invalid_number k (λ e. cc) (λ e. cc) (rowed k invalid_number h)
  value_fault_of code.ExpectedColon k h n = faulty_value lossy limit b expected_colon k (λ e. cc) (λ e. cc) (rowed k expected_colon h)
  value_fault_of code.ExpectedArrayCommaOrEnd k h n = faulty_value lossy limit b expected_array_comma_or_end k (λ e. cc) (λ e. cc) (rowed k expected_array_comma_or_end h)
  value_fault_of code.ExpectedObjectCommaOrEnd k h n = faulty_value lossy limit b expected_object_comma_or_end k (λ e. cc) (λ e. cc) (rowed k expected_object_comma_or_end h)
  value_fault_of code.ExpectObjectKeyOrEnd k h n = faulty_value lossy limit b expect_object_key_or_end k (λ e. cc) (λ e. cc) (rowed k expect_object_key_or_end h)
  value_fault_of code.TrailingComma k h n = faulty_value lossy limit b trailing_comma k (λ e. cc) (λ e. cc) (rowed k trailing_comma h)
  value_fault_of code.InvalidJsonValue k h n = faulty_value lossy limit b invalid_json_value k (λ e. cc) (λ e. cc) (rowed k invalid_json_value h)
  value_fault_of code.ControlCharacter k h n = faulty_value lossy limit b control_character k (λ e. cc) (λ e. cc) (rowed k control_character h)
  value_fault_of code.InvalidEscape k h n = faulty_value lossy limit b invalid_escape k (λ e. cc) (λ e. cc) (rowed k invalid_escape h)
  value_fault_of code.InvalidSurrogate k h n = faulty_value lossy limit b invalid_surrogate k (λ e. cc) (λ e. cc) (rowed k invalid_surrogate h)
  value_fault_of code.RecursionLimitExceeded k h n = deep k h
  value_fault_of code.DuplicateKey k (p, x, l, o, w, r) n = absurd r
  value_fault_of code.TrailingCharacters k h n = absurd (n refl)
  value_fault_of _ k h n = absurd h

pub value_fault_from : (lossy : Bool) (limit s : ℕ) (b : List ℕ) (c : ErrorCode) (p : Place) → FaultFrom lossy limit s b c p → IsInValue c → ValueFaultFrom lossy limit s b c p
value_fault_from lossy limit s b c p (k, e, h) n = (k, e, value_fault_of lossy limit (drop s b) c k h n)

-- a refusal that is kept, and one that is new
pub kept_fault : (rest : List ℕ) (p : ParserState) (e : Error) → IsSound rest p → p.failure ≡ Some e → FaultFrom p.lossy p.limit p.start p.text e.code e.place
kept_fault rest p e s is = subst (λ (o : Option Error). IfSome o (λ f. FaultFrom p.lossy p.limit p.start p.text f.code f.place)) is s.failed

pub kept_value_fault : (rest : List ℕ) (p : ParserState) (e : Error) → IsSound rest p → p.failure ≡ Some e → ¬ (IsWhole p) → ValueFaultFrom p.lossy p.limit p.start p.text e.code e.place
kept_value_fault rest p e s is n =
    value_fault_from p.lossy p.limit p.start p.text e.code e.place (kept_fault rest p e s is)
    (subst (λ (o : Option Error). IfSome o (λ f. IsInValue f.code)) is (s.inside n))

pub new_value_fault : (old new : ParserState) (e : Error) (c : ErrorCode) → new.failure ≡ Some e → IfSome new.failure (λ f. Refuses old f new) → IfSome new.failure (λ f. f.code ≡ c) → IsInValue c → ValueFaultFrom old.lossy old.limit old.start old.text e.code e.place
new_value_fault old new e c is r same n =
    value_fault_from old.lossy old.limit old.start old.text e.code e.place (subst (λ (o : Option Error). IfSome o (λ f. Refuses old f new)) is r).fault
    (subst IsInValue (sym (subst (λ (o : Option Error). IfSome o (λ f. f.code ≡ c)) is same)) n)
