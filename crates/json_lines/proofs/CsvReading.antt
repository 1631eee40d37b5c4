-- A reader of RFC 4180 has the text of each field.
use Rattle.std.proofs.Common.{◌≡◌, ℕ, ◌==◌, ◌||◌, Bool, true, false, cond, List, [], ◌∷◌, ◌++◌, refl, sym, ap, ◌∙◌, append_assoc}
use Rattle.std.specs.List.{list_any}
use Rattle.std.proofs.lemmas.Bool.{cond-true, cond-false, eqb-true, false≢true}
use Rattle.json_lines.specs.Csv.{is_special, is_quoted, quotes_doubled, csv_field, ReadField, with_byte, ends_field, read_quoted, read_plain, read_field}

abbrev field : List ℕ → List ℕ → ReadField
field text rest = record { text = text; rest = rest }

or_left : (a b : Bool) → (a || b) ≡ false → a ≡ false
or_left false b e = refl
or_left true b e = e

or_right : (a b : Bool) → (a || b) ≡ false → b ≡ false
or_right false b e = e
or_right true b e = absurd (false≢true (sym e))

-- a comma or a CR is no double quote
no_quote : (end : ℕ) (a b : Bool) → (end == 44) ≡ a → (end == 13) ≡ b → (a || b) ≡ true → (end == 34) ≡ false
no_quote end true b p q e = ap (λ x. x == 34) (eqb-true end 44 p)
no_quote end false true p q e = ap (λ x. x == 34) (eqb-true end 13 q)
no_quote end false false p q e = absurd (false≢true e)

after_field : (end : ℕ) (rest : List ℕ) → ends_field end ≡ true → read_quoted true (end ∷ rest) ≡ field [] (end ∷ rest)
after_field end rest e = cond-false (end == 34) (with_byte 34 (read_quoted false rest)) (field [] (end ∷ rest)) (no_quote end (end == 44) (end == 13) refl refl e)

-- one byte more between double quotes
quoted_step : (t : Bool) (b : ℕ) (bs tail : List ℕ) (r : ReadField) → (b == 34) ≡ t → read_quoted false (quotes_doubled bs ++ tail) ≡ r
    → read_quoted false (cond t (34 ∷ 34 ∷ quotes_doubled bs) (b ∷ quotes_doubled bs) ++ tail) ≡ with_byte b r
quoted_step true b bs tail r e h = ap (with_byte 34) h ∙ ap (λ x. with_byte x r) (sym (eqb-true b 34 e))
quoted_step false b bs tail r e h = cond-false (b == 34) (read_quoted true (quotes_doubled bs ++ tail)) (with_byte b (read_quoted false (quotes_doubled bs ++ tail))) e ∙ ap (with_byte b) h

quoted_text : (text rest : List ℕ) (end : ℕ) → ends_field end ≡ true → read_quoted false (quotes_doubled text ++ 34 ∷ end ∷ rest) ≡ field text (end ∷ rest)
quoted_text [] rest end e = after_field end rest e
quoted_text (b ∷ bs) rest end e = quoted_step (b == 34) b bs (34 ∷ end ∷ rest) (field bs (end ∷ rest)) refl (quoted_text bs rest end e)

-- a byte that is not special ends no field, and is no double quote
ends_none : (b : ℕ) → is_special b ≡ false → ends_field b ≡ false
ends_none b e = by (b == 34) (b == 44) (b == 10) (b == 13) e
  where
    by : (q c l r : Bool) → (q || (c || (l || r))) ≡ false → (c || r) ≡ false
    by false false false false h = refl
    by true c l r h = absurd (false≢true (sym h))
    by false true l r h = absurd (false≢true (sym h))
    by false false true r h = absurd (false≢true (sym h))
    by false false false true h = absurd (false≢true (sym h))

plain_text : (text rest : List ℕ) (end : ℕ) → ends_field end ≡ true → list_any is_special text ≡ false → read_plain (text ++ end ∷ rest) ≡ field text (end ∷ rest)
plain_text [] rest end e p = cond-true (ends_field end) (field [] (end ∷ rest)) (with_byte end (read_plain rest)) e
plain_text (b ∷ bs) rest end e p =
    cond-false (ends_field b) (field [] (b ∷ (bs ++ end ∷ rest))) (with_byte b (read_plain (bs ++ end ∷ rest))) (ends_none b (or_left (is_special b) (list_any is_special bs) p))
    ∙ ap (with_byte b) (plain_text bs rest end e (or_right (is_special b) (list_any is_special bs) p))

by_quotes : (t : Bool) (text rest : List ℕ) (end : ℕ) → is_quoted text ≡ t → ends_field end ≡ true → read_field (cond t (34 ∷ (quotes_doubled text ++ 34 ∷ [])) text ++ end ∷ rest) ≡ field text (end ∷ rest)
by_quotes true text rest end q e = ap (read_quoted false) (append_assoc (quotes_doubled text) (34 ∷ []) (end ∷ rest)) ∙ quoted_text text rest end e
by_quotes false [] rest end q e = absurd (false≢true (sym q))
by_quotes false (b ∷ bs) rest end q e =
    cond-false (b == 34) (read_quoted false (bs ++ end ∷ rest)) (read_plain (b ∷ (bs ++ end ∷ rest))) (or_left (b == 34) ((b == 44) || ((b == 10) || (b == 13))) (or_left (is_special b) (list_any is_special bs) q)) ∙ plain_text (b ∷ bs) rest end e q

pub reads_back : (text rest : List ℕ) (end : ℕ) → ends_field end ≡ true → read_field (csv_field text ++ end ∷ rest) ≡ record { text = text; rest = end ∷ rest }
reads_back text rest end e = by_quotes (is_quoted text) text rest end refl e
