-- Made input is a short text of two levels, record by record.
use Rattle.std.proofs.Common.{◌≡◌, inl, inr, ℕ, zero, suc, ◌+◌, ◌*◌, ◌^◌, ◌<◌, ◌≤◌, List, [], ◌∷◌, ◌++◌, length, false, refl, sym, subst, ap, ◌∙◌, arith, append_assoc, append-nil, length-append, codes, decimal, Some, Result, Ok, Err, IfErr, IsErrOf}
use Rattle.std.specs.List.{flat_map, range_with_len}
use Rattle.std.specs.Char.{encode_utf8}
use Rattle.std.proofs.lemmas.Fmt.{length-decimal-le}
use Rattle.json_grammar.specs.Tree.{Tree, num, text, list, pairs, Trees, no_trees, tree_and, no_pairs, pair_and, trees_depth}
use Rattle.json_grammar.specs.Grammar.{hex4, Spelling, unicode_escape, none, more, string, value, elements, more_elements, more_members, is_text}
use Rattle.json_grammar.proofs.Steps.{letters, number_value}
use Rattle.json_number.proofs.Integers.{decimal_number}
use Rattle.json_model.specs.Edit.{Edit}
use Rattle.json_io.specs.declared.error.Error.{Error}
use Rattle.json_io.specs.Errors.{no_memory}
use Rattle.json_io.specs.Outside.{SourceState, SinkState, Rose}
use Rattle.json_text.specs.Ruled.{usual_rules}
use Rattle.json_command.specs.Input.{max_bytes, IsInput}
use Rattle.json_command.specs.Printing.{Prints}
use Rattle.reshape.specs.Reshape.{laid_out}
use Rattle.reshape.specs.Known.{KnownFit}
use Rattle.reshape.specs.Made.{made_record, made_records, made, separator, summary, sorted_compact, IsSummary, SummaryFails}

-- a record after another
abbrev pub next_record : ℕ → List ℕ
next_record i = codes ", " ++ made_record i

abbrev records_from : ℕ → ℕ → List ℕ
records_from a n = flat_map next_record (range_with_len a n)

-- ---- one more record

from_more : (a n : ℕ) → records_from a (suc n) ≡ records_from a n ++ next_record (a + n)
from_more a zero = append-nil (next_record a) ∙ ap next_record (omega arith)
from_more a (suc n) =
    ap (λ l. next_record a ++ l) (from_more (a + 1) n ∙ ap (λ k. records_from (a + 1) n ++ next_record k) (omega arith)) ∙ sym (append_assoc (next_record a) (records_from (a + 1) n) (next_record (a + suc n)))

pub one_more_record : (i : ℕ) → made_records (range_with_len 0 (suc i)) ≡ made_records (range_with_len 0 i) ++ (separator i ++ made_record i)
one_more_record zero = append-nil (made_record 0)
one_more_record (suc i) =
    ap (λ l. made_record 0 ++ l) (from_more 1 i ∙ ap (λ k. records_from 1 i ++ next_record k) (omega arith)) ∙ sym (append_assoc (made_record 0) (records_from 1 i) (next_record (suc i)))

pub record_pushed : (i j : ℕ) (before between after : List ℕ) → i + 1 ≡ j → before ≡ codes "[" ++ made_records (range_with_len 0 i) → between ≡ before ++ separator i → after ≡ between ++ made_record i → after ≡ codes "[" ++ made_records (range_with_len 0 j)
record_pushed i j before between after e h f g =
    let next : suc i ≡ j = omega arith in
    g ∙ ap (λ l. l ++ made_record i) (f ∙ ap (λ l. l ++ separator i) h) ∙ ap (λ (l : List ℕ). 91 ∷ l) (append_assoc (made_records (range_with_len 0 i)) (separator i) (made_record i) ∙ sym (one_more_record i) ∙ ap (λ k. made_records (range_with_len 0 k)) next)

-- ---- a record is the text of an object

abbrev record_tree : ℕ → Tree
record_tree i =
    pairs (pair_and (codes "n") (num (decimal i)) (pair_and (codes "k") (list (tree_and (num (codes "-0")) (tree_and (num (codes "1.50")) no_trees))) (pair_and (codes "a") (text (codes "A")) no_pairs)))

letter_a : Spelling 65 (codes "\\u0041")
unfolding hex4
letter_a = unicode_escape refl (λ h. omega arith) (λ h. omega arith)

one_letter : string false (codes "A") (codes "\"\\u0041\"")
unfolding encode_utf8
one_letter = (codes "\\u0041", refl, more letter_a none)

two_numbers : value false (list (tree_and (num (codes "-0")) (tree_and (num (codes "1.50")) no_trees))) (codes "[-0, 1.50]")
two_numbers = (
  codes "[",
  _,
  refl,
  refl,
  (
    codes "-0, 1.50",
    codes "]",
    refl,
    (
      [],
      _,
      refl,
      tt,
      (
        codes "-0",
        _,
        refl,
        number_value false (codes "-0") refl,
        (
          [],
          _,
          refl,
          tt,
          (codes ",", _, refl, refl, (codes " ", _, refl, (inl refl, tt), (codes "1.50", [], refl, number_value false (codes "1.50") refl, ([], [], refl, tt, refl)))),
        ),
      ),
    ),
    refl,
  ),
)

abbrev after_number : List ℕ
after_number = codes ", \"k\": [-0, 1.50], \"a\": \"\\u0041\""

last_member : more_members false (pair_and (codes "a") (text (codes "A")) no_pairs) (codes ", \"a\": \"\\u0041\"")
last_member = (
  codes ",",
  _,
  refl,
  refl,
  (
    codes " ",
    _,
    refl,
    (inl refl, tt),
    (
      codes "\"a\"",
      _,
      refl,
      letters false (codes "a") refl,
      (
        [],
        _,
        refl,
        tt,
        (codes ":", _, refl, refl, (codes " ", _, refl, (inl refl, tt), (codes "\"\\u0041\"", [], refl, one_letter, ([], [], refl, tt, refl)))),
      ),
    ),
  ),
)

more_of_record : more_members false (pair_and (codes "k") (list (tree_and (num (codes "-0")) (tree_and (num (codes "1.50")) no_trees))) (pair_and (codes "a") (text (codes "A")) no_pairs)) after_number
more_of_record = (
  codes ",",
  _,
  refl,
  refl,
  (
    codes " ",
    _,
    refl,
    (inl refl, tt),
    (
      codes "\"k\"",
      _,
      refl,
      letters false (codes "k") refl,
      (
        [],
        _,
        refl,
        tt,
        (codes ":", _, refl, refl, (codes " ", _, refl, (inl refl, tt), (codes "[-0, 1.50]", _, refl, two_numbers, ([], _, refl, tt, last_member)))),
      ),
    ),
  ),
)

record_value : (i : ℕ) → i < 2 ^ 64 → value false (record_tree i) (made_record i)
record_value i h = (
  codes "{",
  _,
  refl,
  refl,
  (
    codes "\"n\": " ++ (decimal i ++ after_number),
    codes "}",
    ap (λ l. codes "\"n\": " ++ l) (sym (append_assoc (decimal i) after_number (codes "}"))),
    (
      [],
      _,
      refl,
      tt,
      (
        codes "\"n\"",
        _,
        refl,
        letters false (codes "n") refl,
        (
          [],
          _,
          refl,
          tt,
          (
            codes ":",
            _,
            refl,
            refl,
            (
              codes " ",
              _,
              refl,
              (inl refl, tt),
              (decimal i, after_number, refl, (decimal_number i h, refl), ([], _, refl, tt, more_of_record)),
            ),
          ),
        ),
      ),
    ),
    refl,
  ),
)

-- ---- the records are the text of an array

abbrev record_trees : ℕ → ℕ → Trees
record_trees a zero = no_trees
record_trees a (suc n) = tree_and (record_tree a) (record_trees (a + 1) n)

more_values : (a n : ℕ) → a + n ≤ 2 ^ 64 → more_elements false (record_trees a n) (records_from a n)
more_values a zero h = refl
more_values a (suc n) h =
    (codes ",", _, refl, refl, (codes " ", _, refl, (inl refl, tt), (made_record a, _, refl, record_value a (omega arith), ([], _, refl, tt, more_values (a + 1) n (omega arith)))))

values : (n : ℕ) → n ≤ 2 ^ 64 → elements false (record_trees 0 n) (made_records (range_with_len 0 n))
values zero h = tt
values (suc n) h = ([], _, refl, tt, (made_record 0, _, refl, record_value 0 (omega arith), ([], _, refl, tt, more_values 1 n (omega arith))))

abbrev pub made_tree : ℕ → Tree
made_tree n = list (record_trees 0 n)

made_value : (n : ℕ) → n ≤ 2 ^ 64 → value false (made_tree n) (made n)
made_value n h = (codes "[", _, refl, refl, (made_records (range_with_len 0 n), codes "]", refl, values n h, refl))

made_text : (n : ℕ) → n ≤ 2 ^ 64 → is_text false (made_tree n) (made n)
unfolding is_text
made_text n h = ([], made n, refl, tt, (made n, [], sym (append-nil (made n)), made_value n h, tt))

-- ---- which is short and has two levels

two_levels : (a n : ℕ) → trees_depth (record_trees a n) ≤ 2
two_levels a zero = omega arith
two_levels a (suc n) = omega (arith, two_levels (a + 1) n)

short_record : (i : ℕ) → i < 2 ^ 64 → length (made_record i) ≤ 60
short_record i h = omega (arith, length-append (decimal i) (codes ", \"k\": [-0, 1.50], \"a\": \"\\u0041\"}"), length-decimal-le 20 i (omega arith) (omega arith) h)

short_records : (a n : ℕ) → a + n ≤ 2 ^ 64 → length (records_from a n) ≤ n * 62
short_records a zero h = omega arith
short_records a (suc n) h = omega (arith, length-append (next_record a) (records_from (a + 1) n), short_record a (omega arith), short_records (a + 1) n (omega arith))

short_made : (n : ℕ) → n ≤ 100000 → length (made n) ≤ max_bytes
short_made zero h = omega arith
short_made (suc n) h =
    omega (arith, length-append (made_records (range_with_len 0 (suc n))) (codes "]"), length-append (made_record 0) (records_from 1 n), short_record 0 (omega arith), short_records 1 n (omega arith))

pub made_input : (n : ℕ) → n ≤ 100000 → IsInput usual_rules (made n) (made_tree n)
made_input n h = record { short = short_made n h; text = made_text n (omega arith); fit = (omega (arith, two_levels 0 n), λ e. cc) }

-- ---- a summary

pub made_summary : (n : ℕ) → n ≤ 100000 → IsSummary n (summary (made n) (laid_out sorted_compact (made_tree n)))
made_summary n h =
    record { output = laid_out sorted_compact (made_tree n); printed = record { tree = made_tree n; is_text_of_it = (made_input n h).text; prints = refl }; sums = refl }

-- ---- what the engine prints of input in memory

-- nothing can be wrong with it
pub fit_from : (b : List ℕ) (tree : Tree) (es : List Edit) (source source' : SourceState) (sink sink' : SinkState) → es ≡ [] → IsInput usual_rules b tree → source.left ≡ Some b → ¬ (Rose source.faults source'.faults) → ¬ (Rose sink.faults sink'.faults)
    → KnownFit usual_rules es source source' sink sink'
fit_from b tree es source source' sink sink' e input told read written =
    subst (λ es. KnownFit usual_rules es source source' sink sink') (sym e) (record { tree = tree; input = record { bytes = b; known = told; input = input; read = read }; changed = tree; applies = refl; written = written })

-- no call failed where none did before
pub no_rise : ¬ (Rose 0 0)
no_rise h = omega (arith, h)

-- where memory runs out before anything was written
pub no_summary : (n : ℕ) (sink : SinkState) (r : Result (Unit {0}) Error) → n ≤ 100000 → IfErr r (λ e. e ≡ no_memory) → IfErr r (λ e. SummaryFails n sink sink e.code e.place)
no_summary n sink (Ok x) h lacks = tt
no_summary n sink (Err e) h lacks =
    subst (λ e. SummaryFails n sink sink e.code e.place) (sym lacks) (record { text = summary (made n) (laid_out sorted_compact (made_tree n)); summary_is = made_summary n h; fails = inl refl; ran_out = λ same. inl refl })

-- where the summary was made, and not written whole
pub not_written : (n : ℕ) (sink sink' : SinkState) (bytes : List ℕ) (r : Result (Unit {0}) Error) → IsSummary n bytes → Prints sink sink' bytes r → (IsErrOf r no_memory → Rose sink.lacks sink'.lacks) → IfErr r (λ e. SummaryFails n sink sink' e.code e.place)
not_written n sink sink' bytes (Ok x) is p lacks = tt
not_written n sink sink' bytes (Err e) is p lacks = record { text = bytes; summary_is = is; fails = p.err; ran_out = λ same. inr (lacks (ap Err same)) }
