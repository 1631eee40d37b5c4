-- The fields of CSV: the text that a field shows, and how double quotes are doubled.
use Rattle.std.proofs.Common.{◌≡◌, ℕ, zero, suc, ◌+◌, ◌-◌, ◌<◌, ◌==◌, Bool, true, false, List, [], ◌∷◌, ◌++◌, length, take, drop, slice_range, Option, None, Some, Ok, Err, Result, option_map, is_some, if◌then◌else◌, refl, sym, ap, ◌∙◌, subst, arith, append_assoc}
use Rattle.std.specs.Prelude.{IfSome}
use Rattle.std.proofs.lemmas.List.{take_all, length-drop}
use Rattle.std.proofs.lemmas.Bool.{cond-true, cond-false, false_from_ne_true, eqb-true}
use Rattle.memchr.specs.Find.{Passes, is_byte, Nowhere, IsFirstByte}
use Rattle.json_grammar.specs.Grammar.{boolean_bytes}
use Rattle.json_grammar.specs.Tree.{Tree, null, boolean, num, text, list, pairs}
use Rattle.json_model.specs.Print.{shown}
use Rattle.json_number.specs.Numbers.{value_of, text_of_number}
use Rattle.json_number.specs.declared.number.Number.{Number}
use Rattle.json_doc.specs.Readings.{string_of, integer_in_tree, bool_of}
use Rattle.json_io.specs.Outside.{SinkState}
use Rattle.json_io.specs.declared.error.Error.{Error}
use Rattle.json_layout.specs.TextWriting.{WritesText}
use Rattle.json_lines.specs.Cells.{ColumnKind, texts, integers, booleans, any_json, field_text}
use Rattle.json_lines.specs.Csv.{quotes_doubled, csv_field, optional_field, IsFirstQuote}
use Rattle.json_lines.proofs.TextWriting.{WritesText-nil, WritesText-then, WritesText-first, WritesText-is}

-- ---- the text of a field

pub string_field_is : (k : ColumnKind) (t : Tree) (s : Option (List ℕ)) → k ≡ texts → s ≡ string_of t → optional_field s ≡ optional_field (field_text k t)
string_field_is k t s e f = ap optional_field (f ∙ by t ∙ ap (λ x. field_text x t) (sym e))
  where
    by : (t : Tree) → string_of t ≡ field_text texts t
    by null = refl
    by (boolean b) = refl
    by (num l) = refl
    by (text s) = refl
    by (list ts) = refl
    by (pairs ps) = refl

pub boolean_field_is : (k : ColumnKind) (t : Tree) (b : Option Bool) → k ≡ booleans → b ≡ bool_of t → optional_field (option_map boolean_bytes b) ≡ optional_field (field_text k t)
boolean_field_is k t b e f = ap (λ x. optional_field (option_map boolean_bytes x)) f ∙ ap optional_field (by t ∙ ap (λ x. field_text x t) (sym e))
  where
    by : (t : Tree) → option_map boolean_bytes (bool_of t) ≡ field_text booleans t
    by null = refl
    by (boolean b) = refl
    by (num l) = refl
    by (text s) = refl
    by (list ts) = refl
    by (pairs ps) = refl

-- the literal of a number, where it is an integer by value
abbrev integer_or_none : {A : Type 0} → Option A → List ℕ → Option (List ℕ)
integer_or_none o l = if is_some o then Some l else None

no_integer : (t : Tree) → None ≡ integer_in_tree t → None ≡ field_text integers t
no_integer null f = refl
no_integer (boolean b) f = refl
no_integer (num l) f = ap (λ o. integer_or_none o l) f
no_integer (text s) f = refl
no_integer (list ts) f = refl
no_integer (pairs ps) f = refl

pub number_field_is : (k : ColumnKind) (t : Tree) (n : Option Number) → k ≡ integers → option_map value_of n ≡ integer_in_tree t → IfSome n (λ m. t ≡ num (text_of_number m)) → optional_field (option_map text_of_number n) ≡ optional_field (field_text k t)
number_field_is k t n e f h = ap optional_field (by n f h ∙ ap (λ x. field_text x t) (sym e))
  where
    by : (n : Option Number) → option_map value_of n ≡ integer_in_tree t → IfSome n (λ m. t ≡ num (text_of_number m)) → option_map text_of_number n ≡ field_text integers t
    by None f h = no_integer t f
    by (Some m) f h = ap (λ o. integer_or_none o (text_of_number m)) (f ∙ ap integer_in_tree h) ∙ ap (field_text integers) (sym h)

pub json_field_is : (k : ColumnKind) (t : Tree) → k ≡ any_json → csv_field (shown None 0 t) ≡ optional_field (field_text k t)
json_field_is k t e = ap (λ x. optional_field (field_text x t)) (sym e)

-- ---- the first double quote

doubled_other : (b : ℕ) (bs : List ℕ) → (b == 34) ≡ false → quotes_doubled (b ∷ bs) ≡ b ∷ quotes_doubled bs
doubled_other b bs e = cond-false (b == 34) (34 ∷ 34 ∷ quotes_doubled bs) (b ∷ quotes_doubled bs) e

none_is : (bytes : List ℕ) → Nowhere (Passes (is_byte 34) bytes) 0 (length bytes) → quotes_doubled bytes ≡ bytes
none_is [] h = refl
none_is (b ∷ bs) h =
    let here : (b == 34) ≡ false = false_from_ne_true (b == 34) (h 0 (omega arith) (omega arith)) in
    doubled_other b bs here ∙ ap (λ l. b ∷ l) (none_is bs (λ k low high. h (suc k) (omega arith) (omega arith)))

-- a quote comes first
quote_is : (b : ℕ) (bs : List ℕ) → (b == 34) ≡ true → quotes_doubled (b ∷ bs) ≡ (b ∷ []) ++ 34 ∷ quotes_doubled bs
quote_is b bs e = cond-true (b == 34) (34 ∷ 34 ∷ quotes_doubled bs) (b ∷ quotes_doubled bs) e ∙ ap (λ x. x ∷ 34 ∷ quotes_doubled bs) (sym (eqb-true b 34 e))

some_is : (bytes : List ℕ) (k : ℕ) → k < length bytes → Nowhere (Passes (is_byte 34) bytes) 0 k → Passes (is_byte 34) bytes k → quotes_doubled bytes ≡ (take (k + 1) bytes ++ 34 ∷ []) ++ quotes_doubled (drop (k + 1) bytes)
some_is [] k high before here = absurd (omega arith)
some_is (b ∷ bs) zero high before here = quote_is b bs here
some_is (b ∷ bs) (suc k) high before here =
    let skip : (b == 34) ≡ false = false_from_ne_true (b == 34) (before 0 (omega arith) (omega arith)) in
    let shift : suc (k + 1) ≡ suc k + 1 = omega arith in
    doubled_other b bs skip ∙ ap (λ l. b ∷ l) (some_is bs k (omega arith) (λ i low below. before (suc i) (omega arith) (omega arith)) here)
    ∙ ap (λ i. (take i (b ∷ bs) ++ 34 ∷ []) ++ quotes_doubled (drop i (b ∷ bs))) shift

pub IsFirstQuote-found : (bytes : List ℕ) (r : Option ℕ) → IsFirstByte (is_byte 34) bytes r → IsFirstQuote bytes r
IsFirstQuote-found bytes None h = none_is bytes h
IsFirstQuote-found bytes (Some k) h = (h.0.high, some_is bytes k h.0.high h.0.before h.1)

-- ---- the loop over the runs between double quotes

-- the text before the rest was written
pub record WritesDoubled (all rest : List ℕ) (old new : SinkState) : Type 0 where
  pub done : List ℕ
  pub writes : WritesText old new done (Ok tt)
  pub whole : quotes_doubled all ≡ done ++ quotes_doubled rest

pub WritesDoubled-start : (all : List ℕ) (s : SinkState) → WritesDoubled all all s s
WritesDoubled-start all s = record { done = []; writes = WritesText-nil s; whole = refl }

-- what a quote at this offset makes of the rest
abbrev SplitsAt : List ℕ → ℕ → Type 0
SplitsAt rest k = quotes_doubled rest ≡ (take (k + 1) rest ++ 34 ∷ []) ++ quotes_doubled (drop (k + 1) rest)

pub WritesDoubled-more : (all rest : List ℕ) (old mid new : SinkState) (k : ℕ) (u : Unit {0}) → WritesDoubled all rest old mid → SplitsAt rest k → WritesText mid new (take (k + 1) rest ++ 34 ∷ []) (Ok u) → WritesDoubled all (slice_range rest (k + 1) (length rest)) old new
WritesDoubled-more all rest old mid new k u h split run =
    subst (λ l. WritesDoubled all l old new) (sym (take_all (length rest - (k + 1)) (drop (k + 1) rest) (omega (arith, length-drop (k + 1) rest)))) record {
      done = h.done ++ (take (k + 1) rest ++ 34 ∷ []);
      writes = WritesText-then old mid new h.done (take (k + 1) rest ++ 34 ∷ []) tt (Ok u) h.writes run;
      whole = h.whole ∙ ap (λ l. h.done ++ l) split ∙ sym (append_assoc h.done (take (k + 1) rest ++ 34 ∷ []) (quotes_doubled (drop (k + 1) rest)));
    }

pub WritesDoubled-stopped : (all rest : List ℕ) (old mid new : SinkState) (k : ℕ) (e : Error) → WritesDoubled all rest old mid → SplitsAt rest k → WritesText mid new (take (k + 1) rest ++ 34 ∷ []) (Err e) → WritesText old new (quotes_doubled all) (Err e)
WritesDoubled-stopped all rest old mid new k e h split run =
    WritesText-is old new _ _ (Err e) (sym (h.whole ∙ ap (λ l. h.done ++ l) split))
    (WritesText-then old mid new h.done _ tt (Err e) h.writes (WritesText-first mid new (take (k + 1) rest ++ 34 ∷ []) (quotes_doubled (drop (k + 1) rest)) e run))

pub WritesDoubled-end : (all rest : List ℕ) (old mid new : SinkState) (r : Result (Unit {0}) Error) → WritesDoubled all rest old mid → quotes_doubled rest ≡ rest → WritesText mid new rest r → WritesText old new (quotes_doubled all) r
WritesDoubled-end all rest old mid new r h same last =
    WritesText-is old new _ _ r (sym (h.whole ∙ ap (λ l. h.done ++ l) same)) (WritesText-then old mid new h.done rest tt r h.writes last)
