-- The examples by rules.
use Rattle.std.proofs.Common.{false, ◌≡◌, ℕ, ◌<◌, ◌≤◌, List, [], ◌∷◌, ◌⊎◌, inl, inr, refl, arith, lit≤, lit<, codes}
use Rattle.std.specs.Char.{encode_utf8}
use Rattle.std.specs.List.{Contains}
use Rattle.json_grammar.specs.declared.Kind.TheVariants.{Array as array, Object as object}
use Rattle.json_grammar.specs.declared.ExpectedPart.TheVariants.{First as first, Key as key, KeyOrEnd as key_or_end, Colon as colon, Done as done}
use Rattle.json_grammar.specs.Tree.{num, pairs, list_pairs, num_token, begin, key_token}
use Rattle.json_grammar.specs.Grammar.{hex4, Spelling, unicode_escape, none, more, string, is_text}
use Rattle.json_grammar.specs.Place.{takes_at_value, takes_first, takes_key, takes_key_or_end, end_done, reading}
use Rattle.json_grammar.specs.Fault.{FaultCode, eof_while_parsing, recursion_limit_exceeded, duplicate_key, in_string}
use Rattle.json_grammar.specs.Repeated.{TokensRepeat, repeated}
use Rattle.json_grammar.specs.Rules.{Rules, fits, fault_with}
use Rattle.json_grammar.specs.RulesExamples.{differing, IsRefusedBy, RepeatedNameRefused, BrokenNameRefused, FirstRefused, InnerNameFits}
use Rattle.json_grammar.proofs.Steps.{stop, open_on, close_on, comma_on, colon_on, stands, text_stands, letters, letter_chars, number_on, name_on}
use Rattle.json_grammar.proofs.PartScan.{plain_atom}
use Rattle.json_grammar.proofs.Lists.{head, holds_none, holds_head, holds_one}
use Rattle.json_grammar.proofs.OneFault.{faulty_fault}
use Rattle.json_grammar.proofs.WithinOne.{string_no_place}
use Rattle.json_grammar.proofs.InputSteps.{text_place}
use Rattle.json_grammar.proofs.RepeatedNames.{repeated_more}
use Rattle.json_grammar.proofs.FirstRepeated.{repeats_reading}
use Rattle.json_grammar.proofs.RepeatedInput.{before_bracket}
use Rattle.json_grammar.proofs.RulesFault.{one_fault_with, text_no_fault_with}
use Rattle.json_grammar.proofs.RulesReader.{name_refused}

-- a reported fault, and what the laws say of each
refused_by : (r : Rules) (b : List ℕ) (code : FaultCode) (k : ℕ)
    → fault_with false r b code k
    → IsRefusedBy r b code k
refused_by r b code k h = record { has_fault = h; one_fault = λ code' k' g. one_fault_with false r b code code' k k' h g; no_text = λ t f g. text_no_fault_with false r b t code k g f h }

-- `{"a":1,` tells one name
one_name : (s : List ℕ) → TokensRepeat (begin object ∷ key_token s ∷ num_token (codes "1") ∷ []) → ⊥
one_name s (inl h) = h
one_name s (inr (inl h)) = holds_none s h
one_name s (inr (inr (inl h))) = h
one_name s (inr (inr (inr h))) = h

letter_apart : ◌≡◌ {A = List ℕ} (codes "a") (codes "b") → ⊥
letter_apart e = let f : ◌≡◌ {A = ℕ} 97 98 = head e in omega arith

-- `{"a":1,"b":2,` tells two
two_names : TokensRepeat (begin object ∷ key_token (codes "a") ∷ num_token (codes "1") ∷ key_token (codes "b") ∷ num_token (codes "2") ∷ [])
    → ⊥
two_names (inl h) = h
two_names (inr (inl h)) = holds_none _ h
two_names (inr (inr (inl h))) = h
two_names (inr (inr (inr (inl h)))) = letter_apart (holds_one _ _ h)
two_names (inr (inr (inr (inr (inl h))))) = h
two_names (inr (inr (inr (inr (inr h))))) = h

one_at : reading false (codes "{\"a\":1,") (object ∷ []) key (begin object ∷ key_token (codes "a") ∷ num_token (codes "1") ∷ [])
one_at = stands false (open_on object takes_at_value (name_on false (codes "a") refl takes_key_or_end (colon_on (number_on false (codes "1") refl takes_at_value (comma_on stop)))))

two_at : reading false (codes "{\"a\":1,\"b\":2,") (object ∷ []) key (begin object ∷ key_token (codes "a") ∷ num_token (codes "1") ∷ key_token (codes "b") ∷ num_token (codes "2") ∷ [])
two_at =
    stands false (
    open_on object takes_at_value
    (name_on false (codes "a") refl takes_key_or_end (colon_on (number_on false (codes "1") refl takes_at_value
    (comma_on (name_on false (codes "b") refl takes_key (colon_on (number_on false (codes "2") refl takes_at_value (comma_on stop)))))))))

-- `\u0061`
letter_a : Spelling 97 (codes "\\u0061")
unfolding hex4
letter_a = unicode_escape refl (λ h. omega arith) (λ h. omega arith)

escaped_a : string false (codes "a") (codes "\"\\u0061\"")
unfolding encode_utf8
escaped_a = (codes "\\u0061", refl, more letter_a none)

pub repeated_name_refused : RepeatedNameRefused
repeated_name_refused = (
  refused_by (differing 254) _ duplicate_key 13 (name_refused false (differing 254) (codes "{\"a\":1,\"b\":2,") (codes "\"\\u0061\"") (codes ":3}") (codes "a") refl two_at takes_key escaped_a (lit≤ tt) two_names (holds_head (codes "a") (codes "b" ∷ []))),
  refused_by (differing 254) _ duplicate_key 7 (name_refused false (differing 254) (codes "{\"a\":1,") (codes "\"a\"") (codes ":}") (codes "a") refl one_at takes_key (letters false (codes "a") refl) (lit≤ tt) (one_name (codes "a")) (holds_head (codes "a") [])),
)

pub first_refused : FirstRefused
first_refused = (
  refused_by (differing 1) _ recursion_limit_exceeded 1 (
    faulty_fault false 1 (codes "[{\"a\":1,\"a\":2}]") recursion_limit_exceeded 1 (codes "[", 123, codes "\"a\":1,\"a\":2}]", _, _, refl, refl, (_, two), lit≤ tt, lit< tt),
    λ u j l h. none j (before_bracket false (codes "[{\"a\":1,\"a\":2}]") (codes "[") 123 (codes "\"a\":1,\"a\":2}]") j refl (lit< tt) (low j l) h),
  ),
  refused_by (differing 1) _ duplicate_key 7 (name_refused false (differing 1) (codes "{\"a\":1,") (codes "\"a\"") (codes ":[]}") (codes "a") refl one_at takes_key (letters false (codes "a") refl) (lit≤ tt) (one_name (codes "a")) (holds_head (codes "a") [])),
)
  where
    two : reading false (codes "[{") (object ∷ array ∷ []) key_or_end (begin array ∷ begin object ∷ [])
    two = stands false (open_on array takes_at_value (open_on object takes_first stop))

    one : reading false (codes "[") (array ∷ []) first (begin array ∷ [])
    one = stands false (open_on array takes_at_value stop)

    no_name : TokensRepeat (begin array ∷ []) → ⊥
    no_name (inl h) = h
    no_name (inr h) = h

    none : (j : ℕ) → repeated false (codes "[") j → ⊥
    none j h = no_name (repeats_reading false j one h)

    low : (j : ℕ) → j < 1 → j ≤ 1
    low j l = omega arith

-- `{"a":{"a":1}}`
pub inner_name_fits : InnerNameFits
inner_name_fits = record { spells = text; is_fit = fit; no_fault = λ code k f. text_no_fault_with false (differing 254) _ _ code k text fit f }
  where
    text : is_text false (pairs (list_pairs ((codes "a", pairs (list_pairs ((codes "a", num (codes "1")) ∷ []))) ∷ []))) (codes "{\"a\":{\"a\":1}}")
    text = text_stands false _ (
        open_on object takes_at_value
        (name_on false (codes "a") refl takes_key_or_end (colon_on (open_on object takes_at_value
        (name_on false (codes "a") refl takes_key_or_end (colon_on (number_on false (codes "1") refl takes_at_value
        (close_on object end_done (close_on object end_done stop)))))))))

    fit : fits (pairs (list_pairs ((codes "a", pairs (list_pairs ((codes "a", num (codes "1")) ∷ []))) ∷ []))) (differing 254)
    fit = (lit≤ tt, λ u h. none h)
      where
        none : Contains [] (codes "a") ⊎ ((Contains [] (codes "a") ⊎ (⊥ ⊎ ⊥)) ⊎ ⊥) → ⊥
        none (inl h) = holds_none _ h
        none (inr (inl (inl h))) = holds_none _ h
        none (inr (inl (inr (inl h)))) = h
        none (inr (inl (inr (inr h)))) = h
        none (inr (inr h)) = h

-- `{"a":1,"a`
pub broken_name_refused : BrokenNameRefused
broken_name_refused =
    refused_by (differing 254) _ eof_while_parsing 9 (
      faulty_fault false 254 (codes "{\"a\":1,\"a") eof_while_parsing 9 (refl, inr (inr (inr ([], part))), lit≤ tt, λ t g. string_no_place false (codes "{\"a\":1,\"a") [] [] done _ part (text_place false 0 t (codes "{\"a\":1,\"a") g)),
      λ u j h. two (repeats_reading false j longer (repeated_more false (codes "{\"a\":1,\"a") (codes "b\"") j h)),
    )
  where
    part : in_string false (codes "{\"a\":1,\"a") []
    part = record { q = codes "{\"a\":1,"; c = codes "a"; s = codes "a"; rest = codes "a"; bytes = refl; at = (_, _, (_, one_at), inr takes_key); so_far = letter_chars false (codes "a") refl; goes_on = plain_atom false; unfinished = some }
      where
        some : ◌≡◌ {A = List ℕ} (codes "a") [] → ⊥
        some e = cc

    longer : reading false (codes "{\"a\":1,\"ab\"") (object ∷ []) colon (begin object ∷ key_token (codes "a") ∷ num_token (codes "1") ∷ key_token (codes "ab") ∷ [])
    longer = stands false (open_on object takes_at_value (name_on false (codes "a") refl takes_key_or_end (colon_on (number_on false (codes "1") refl takes_at_value (comma_on (name_on false (codes "ab") refl takes_key stop))))))

    apart : ◌≡◌ {A = List ℕ} (codes "a") (codes "ab") → ⊥
    apart e = cc

    two : TokensRepeat (begin object ∷ key_token (codes "a") ∷ num_token (codes "1") ∷ key_token (codes "ab") ∷ [])
        → ⊥
    two (inl h) = h
    two (inr (inl h)) = holds_none _ h
    two (inr (inr (inl h))) = h
    two (inr (inr (inr (inl h)))) = apart (holds_one _ _ h)
    two (inr (inr (inr (inr h)))) = h
