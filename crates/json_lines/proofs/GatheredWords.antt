-- What one more word makes of what was gathered, and what gathered words ask for.
use Rattle.std.proofs.Common.{◌≡◌, ◌⊎◌, inl, inr, ℕ, ◌+◌, List, [], ◌∷◌, ◌++◌, length, Bool, true, false, cond, not, ◌||◌, Option, Some, None, is_some, option_map, option_to_list, slice_get, take, drop, filter, filter_map, refl, sym, subst, ap, ◌∙◌, arith, length-append, take-append-drop, Bor}
use Rattle.std.specs.List.{cons_option}
use Rattle.std.proofs.lemmas.List.{drop_more, take_more}
use Rattle.std.proofs.lemmas.Option.{slice_get_within, get_or_from_slice_get}
use Rattle.json_grammar.specs.Grammar.{IsWhitespace, ws, is_text}
use Rattle.json_grammar.specs.Tree.{Tree, null, boolean, num, text, list, pairs, Trees}
use Rattle.json_io.specs.Errors.{no_memory, bad_words}
use Rattle.json_io.specs.declared.error.Error.{Error}
use Rattle.json_lines.specs.Cells.{Column, LinesCommand}
use Rattle.json_lines.specs.Tables.{IsWord, HasRole}
use Rattle.json_lines.specs.Words.{has_in, is_strict, is_csv, is_columns_word, columns_in, WordSpells, HoldsWords, format_by, SpellsCommand, AsksForColumns, IsLinesRequest}
use Rattle.json_lines.specs.declared.gathered.WordRole.{WordRole}
use Rattle.json_lines.specs.declared.gathered.WordRole.TheVariants.{Has, Strict, CsvRows, ColumnsWord}
use Rattle.json_lines.proofs.WordsSpelled.{same_parts}

-- ---- one more element

filter_skips : {A : Type 0} (f : A → Bool) (xs : List A) (x : A) → f x ≡ false → filter f (xs ++ x ∷ []) ≡ filter f xs
filter_skips f [] x e = rw e refl
filter_skips f (y ∷ xs) x e = ap (λ zs. cond (f y) (y ∷ zs) zs) (filter_skips f xs x e)

filter_takes : {A : Type 0} (f : A → Bool) (xs : List A) (x : A) (more : List A) → f x ≡ true → filter f (xs ++ x ∷ more) ≡ filter f xs ++ x ∷ filter f more
filter_takes f [] x more e = rw e refl
filter_takes f (y ∷ xs) x more e = ap (λ zs. cond (f y) (y ∷ zs) zs) (filter_takes f xs x more e) ∙ by (f y) y (filter f xs) (x ∷ filter f more)
  where
    by : {A : Type 0} (b : Bool) (y : A) (ys zs : List A) → cond b (y ∷ (ys ++ zs)) (ys ++ zs) ≡ cond b (y ∷ ys) ys ++ zs
    by true y ys zs = refl
    by false y ys zs = refl

picks_skip : {A B : Type 0} (f : A → Option B) (xs : List A) (x : A) → f x ≡ None → filter_map f (xs ++ x ∷ []) ≡ filter_map f xs
picks_skip f [] x e = rw e refl
picks_skip f (y ∷ xs) x e = rw (picks_skip f xs x e) refl

picks_take : {A B : Type 0} (f : A → Option B) (xs : List A) (x : A) (y : B) (more : List A) → f x ≡ Some y → filter_map f (xs ++ x ∷ more) ≡ filter_map f xs ++ y ∷ filter_map f more
picks_take f [] x y more e = rw e refl
picks_take f (z ∷ xs) x y more e = by (f z) _ (filter_map f xs) (y ∷ filter_map f more) (picks_take f xs x y more e)
  where
    by : {B : Type 0} (o : Option B) (us vs ws : List B) → us ≡ vs ++ ws → cons_option o us ≡ cons_option o vs ++ ws
    by None us vs ws e = e
    by (Some b) us vs ws e = ap (λ l. b ∷ l) e

one_more : (xs : List (List ℕ)) (x : List ℕ) (ys : List (List ℕ)) → ys ≡ xs ++ x ∷ [] → length xs ≡ 0 → length ys ≡ 1
one_more [] x ys e n = ap length e
one_more (z ∷ xs) x ys e n = absurd (omega arith)

-- ---- a word that is taken

abbrev pub Word : Type 0
Word = Option (List ℕ)

-- whether it is the columns word
columns_or_not : (w : List ℕ) (o : Word) (s v : Bool) → IsWord w o s v → is_columns_word w ≡ not (is_some o || (s || v))
columns_or_not w o s v r = ap (λ x. not (is_some x || (is_strict w || is_csv w))) r.has_is ∙ ap (λ b. not (is_some o || (b || is_csv w))) r.strict_is ∙ ap (λ b. not (is_some o || (s || b))) r.csv_is

module _ (ws : List (List ℕ)) (w : List ℕ) where
  more_has : (t : List ℕ) (c : Word) (s v : Bool) → IsWord w (Some t) false false → HoldsWords ws c None s v → HoldsWords (ws ++ w ∷ []) c (Some t) s v
  more_has t c s v r h =
      record {
        columns_is = filter_skips is_columns_word ws w (columns_or_not w (Some t) false false r) ∙ h.columns_is;
        has_is = picks_take has_in ws w t [] r.has_is ∙ ap (λ l. l ++ t ∷ []) h.has_is;
        strict_is = ap length (filter_skips is_strict ws w r.strict_is) ∙ h.strict_is;
        csv_is = ap length (filter_skips is_csv ws w r.csv_is) ∙ h.csv_is;
      }

  more_strict : (c o : Word) (v : Bool) → IsWord w None true false → HoldsWords ws c o false v → HoldsWords (ws ++ w ∷ []) c o true v
  more_strict c o v r h =
      record {
        columns_is = filter_skips is_columns_word ws w (columns_or_not w None true false r) ∙ h.columns_is;
        has_is = picks_skip has_in ws w r.has_is ∙ h.has_is;
        strict_is = one_more (filter is_strict ws) w _ (filter_takes is_strict ws w [] r.strict_is) h.strict_is;
        csv_is = ap length (filter_skips is_csv ws w r.csv_is) ∙ h.csv_is;
      }

  more_csv : (c o : Word) (s : Bool) → IsWord w None false true → HoldsWords ws c o s false → HoldsWords (ws ++ w ∷ []) c o s true
  more_csv c o s r h =
      record {
        columns_is = filter_skips is_columns_word ws w (columns_or_not w None false true r) ∙ h.columns_is;
        has_is = picks_skip has_in ws w r.has_is ∙ h.has_is;
        strict_is = ap length (filter_skips is_strict ws w r.strict_is) ∙ h.strict_is;
        csv_is = one_more (filter is_csv ws) w _ (filter_takes is_csv ws w [] r.csv_is) h.csv_is;
      }

  more_columns : (o : Word) (s v : Bool) → IsWord w None false false → HoldsWords ws None o s v → HoldsWords (ws ++ w ∷ []) (Some w) o s v
  more_columns o s v r h =
      record {
        columns_is = filter_takes is_columns_word ws w [] (columns_or_not w None false false r) ∙ ap (λ l. l ++ w ∷ []) h.columns_is;
        has_is = picks_skip has_in ws w r.has_is ∙ h.has_is;
        strict_is = ap length (filter_skips is_strict ws w r.strict_is) ∙ h.strict_is;
        csv_is = ap length (filter_skips is_csv ws w r.csv_is) ∙ h.csv_is;
      }

-- ---- a word that is refused

two_picked : {A : Type 0} (o : Option A) (x y : A) (xs : List A) → x ∷ y ∷ xs ≡ option_to_list o → ⊥
two_picked None x y xs e = cc
two_picked (Some z) x y xs e = cc

two_long : (xs : List (List ℕ)) (x : List ℕ) (ys : List (List ℕ)) (b : Bool) → length xs ≡ 1 → length (xs ++ x ∷ ys) ≡ cond b 1 0 → ⊥
two_long [] x ys b n e = omega arith
two_long (z ∷ xs) x ys true n e = omega (arith, length-append xs (x ∷ ys))
two_long (z ∷ xs) x ys false n e = omega arith

module _ (ws : List (List ℕ)) (w : List ℕ) (more : List (List ℕ)) where
  has_again : (t u : List ℕ) (c : Word) (s v : Bool) → IsWord w (Some t) false false → HoldsWords ws c (Some u) s v → ¬ (IsLinesRequest (ws ++ w ∷ more))
  has_again t u c s v r h (k, a) =
      two_picked a.has u t (filter_map has_in more) (sym (picks_take has_in ws w t more r.has_is ∙ ap (λ l. l ++ t ∷ filter_map has_in more) h.has_is) ∙ a.words.has_is)

  strict_again : (c o : Word) (v : Bool) → IsWord w None true false → HoldsWords ws c o true v → ¬ (IsLinesRequest (ws ++ w ∷ more))
  strict_again c o v r h (k, a) = two_long (filter is_strict ws) w (filter is_strict more) a.strict h.strict_is (sym (ap length (filter_takes is_strict ws w more r.strict_is)) ∙ a.words.strict_is)

  csv_again : (c o : Word) (s : Bool) → IsWord w None false true → HoldsWords ws c o s true → ¬ (IsLinesRequest (ws ++ w ∷ more))
  csv_again c o s r h (k, a) = two_long (filter is_csv ws) w (filter is_csv more) a.csv h.csv_is (sym (ap length (filter_takes is_csv ws w more r.csv_is)) ∙ a.words.csv_is)

  columns_again : (u : List ℕ) (o : Word) (s v : Bool) → IsWord w None false false → HoldsWords ws (Some u) o s v → ¬ (IsLinesRequest (ws ++ w ∷ more))
  columns_again u o s v r h (k, a) =
      two_picked (Some a.columns) u w (filter is_columns_word more)
      (sym (filter_takes is_columns_word ws w more (columns_or_not w None false false r) ∙ ap (λ l. l ++ w ∷ filter is_columns_word more) h.columns_is) ∙ a.words.columns_is)

-- ---- as the code tests it

abbrev texts : Option (Bor (List ℕ)) → Word
texts o = option_map (λ s. s.now) o

nothing_there : {A : Type 0} (o : Option A) → is_some o ≡ false → o ≡ None
nothing_there None e = refl
nothing_there (Some x) e = cc

module _ (ws : List (List ℕ)) (w : List ℕ) (r : WordRole) (c o : Option (Bor (List ℕ))) (s v : Bool) (h : HasRole w r) where
  abbrev Had : Option (Bor (List ℕ)) → Option (Bor (List ℕ)) → Bool → Bool → Type 0
  Had c o s v = HoldsWords ws (texts c) (texts o) s v

  abbrev HasNow : Word → Word → Bool → Bool → Type 0
  HasNow c o s v = HoldsWords (ws ++ w ∷ []) c o s v

  pub has_taken : (t : Bor (List ℕ)) → r ≡ Has t → is_some o ≡ false → Had c o s v → HasNow (texts c) (Some t.now) s v
  has_taken t k n g = more_has ws w t.now (texts c) s v (subst (HasRole w) k h) (subst (λ o. Had c o s v) (nothing_there o n) g)

  pub strict_taken : r ≡ Strict → s ≡ false → Had c o s v → HasNow (texts c) (texts o) true v
  strict_taken k n g = more_strict ws w (texts c) (texts o) v (subst (HasRole w) k h) (subst (λ s. Had c o s v) n g)

  pub csv_taken : r ≡ CsvRows → v ≡ false → Had c o s v → HasNow (texts c) (texts o) s true
  csv_taken k n g = more_csv ws w (texts c) (texts o) s (subst (HasRole w) k h) (subst (λ v. Had c o s v) n g)

  pub columns_taken : (t : Bor (List ℕ)) → r ≡ ColumnsWord t → is_some c ≡ false → Had c o s v → HasNow (Some t.now) (texts o) s v
  columns_taken t k n g =
      let f : HasRole w (ColumnsWord t) = subst (HasRole w) k h in
      subst (λ x. HasNow (Some x) (texts o) s v) (sym f.1) (more_columns ws w (texts o) s v f.0 (subst (λ c. Had c o s v) (nothing_there c n) g))

  module _ (more : List (List ℕ)) where
    pub has_refused : (t : Bor (List ℕ)) → r ≡ Has t → is_some o ≡ true → Had c o s v → ¬ (IsLinesRequest (ws ++ w ∷ more))
    has_refused t k n g = by o n g
      where
        by : (o : Option (Bor (List ℕ))) → is_some o ≡ true → Had c o s v → ¬ (IsLinesRequest (ws ++ w ∷ more))
        by None n g = absurd cc
        by (Some u) n g = has_again ws w more t.now u.now (texts c) s v (subst (HasRole w) k h) g

    pub strict_refused : r ≡ Strict → s ≡ true → Had c o s v → ¬ (IsLinesRequest (ws ++ w ∷ more))
    strict_refused k n g = strict_again ws w more (texts c) (texts o) v (subst (HasRole w) k h) (subst (λ s. Had c o s v) n g)

    pub csv_refused : r ≡ CsvRows → v ≡ true → Had c o s v → ¬ (IsLinesRequest (ws ++ w ∷ more))
    csv_refused k n g = csv_again ws w more (texts c) (texts o) s (subst (HasRole w) k h) (subst (λ v. Had c o s v) n g)

    pub columns_refused : (t : Bor (List ℕ)) → r ≡ ColumnsWord t → is_some c ≡ true → Had c o s v → ¬ (IsLinesRequest (ws ++ w ∷ more))
    columns_refused t k n g = by c n g
      where
        role : HasRole w (ColumnsWord t)
        role = subst (HasRole w) k h

        by : (c : Option (Bor (List ℕ))) → is_some c ≡ true → Had c o s v → ¬ (IsLinesRequest (ws ++ w ∷ more))
        by None n g = absurd cc
        by (Some u) n g = columns_again ws w more u.now (texts o) s v role.0 g

-- ---- all words

after_word : (words : List (List ℕ)) (i : ℕ) (w : List ℕ) → slice_get words i ≡ Some w → drop i words ≡ w ∷ drop (i + 1) words
after_word words i w e = drop_more words i w (slice_get_within words i w e) ∙ ap (λ v. v ∷ drop (i + 1) words) (get_or_from_slice_get words i w w e)

split_word : (words : List (List ℕ)) (i : ℕ) (w : List ℕ) → slice_get words i ≡ Some w → take i words ++ w ∷ drop (i + 1) words ≡ words
split_word words i w e = ap (λ l. take i words ++ l) (sym (after_word words i w e)) ∙ take-append-drop i words

pub word_taken : (words : List (List ℕ)) (i : ℕ) (w : List ℕ) → slice_get words i ≡ Some w → take i words ++ w ∷ [] ≡ take (i + 1) words
word_taken words i w e = ap (λ v. take i words ++ v ∷ []) (sym (get_or_from_slice_get words i w w e)) ∙ sym (take_more words i w (slice_get_within words i w e))

pub word_refused : (words : List (List ℕ)) (i : ℕ) (w : List ℕ) → slice_get words i ≡ Some w → ((more : List (List ℕ)) → ¬ (IsLinesRequest (take i words ++ w ∷ more))) → ¬ (IsLinesRequest words)
word_refused words i w e h = subst (λ l. ¬ (IsLinesRequest l)) (split_word words i w e) (h (drop (i + 1) words))

-- ---- what they ask for

pub asks_for : (arguments : List (List ℕ)) (w : List ℕ) (o : Word) (s v : Bool) (k : LinesCommand) → HoldsWords arguments (Some w) o s v → SpellsCommand w o s (format_by v) k → AsksForColumns arguments k
asks_for arguments w o s v k words spelled = record { columns = w; has = o; strict = s; csv = v; words = words; spelled = spelled }

some_word : (x y : List ℕ) → Some x ≡ Some y → x ≡ y
some_word x y e = cc

pub spelled_by : (arguments : List (List ℕ)) (w : List ℕ) (o : Word) (s v : Bool) (k : LinesCommand) → HoldsWords arguments (Some w) o s v → AsksForColumns arguments k → SpellsCommand w o s (format_by v) k
spelled_by arguments w o s v k words a =
    let same = same_parts arguments (Some a.columns) (Some w) a.has o a.strict s a.csv v a.words words in
    subst (λ x. SpellsCommand x o s (format_by v) k) (some_word a.columns w same.0)
    (subst (λ x. SpellsCommand a.columns x s (format_by v) k) same.1
    (subst (λ x. SpellsCommand a.columns a.has x (format_by v) k) same.2 (subst (λ x. SpellsCommand a.columns a.has a.strict (format_by x) k) same.3 a.spelled)))

-- where the parts spell no command, the words ask for nothing
pub asks_nothing : (arguments : List (List ℕ)) (w : List ℕ) (o : Word) (s v : Bool) → HoldsWords arguments (Some w) o s v → ((k : LinesCommand) → ¬ (SpellsCommand w o s (format_by v) k)) → ¬ (IsLinesRequest arguments)
asks_nothing arguments w o s v words none (k, a) = none k (spelled_by arguments w o s v k words a)

pub asks_no_columns : (arguments : List (List ℕ)) (o : Word) (s v : Bool) → HoldsWords arguments None o s v → ¬ (IsLinesRequest arguments)
asks_no_columns arguments o s v words (k, a) =
    let same = same_parts arguments (Some a.columns) None a.has o a.strict s a.csv v a.words words in
    none_some same.0
  where
    none_some : {x : List ℕ} → Some x ≡ None → ⊥
    none_some e = cc

-- ---- as the code reads them

pub read_asks : (arguments : List (List ℕ)) (c : Option (Bor (List ℕ))) (w : Bor (List ℕ)) (o : Option (Bor (List ℕ))) (s v : Bool) (k : LinesCommand) → c ≡ Some w → HoldsWords arguments (texts c) (texts o) s v → SpellsCommand w.now (texts o) s (format_by v) k → AsksForColumns arguments k
read_asks arguments c w o s v k is held spelled = asks_for arguments w.now (texts o) s v k (subst (λ x. HoldsWords arguments (texts x) (texts o) s v) is held) spelled

pub read_asks_nothing : (c : Option (Bor (List ℕ))) (w : Bor (List ℕ)) (o : Option (Bor (List ℕ))) (s v : Bool) (e : Error) → c ≡ Some w → (e ≡ no_memory) ⊎ ((e ≡ bad_words) × ((k : LinesCommand) → ¬ (SpellsCommand w.now (texts o) s (format_by v) k)))
    → (e ≡ no_memory) ⊎ ((e ≡ bad_words) × ((arguments : List (List ℕ)) → HoldsWords arguments (texts c) (texts o) s v → ¬ (IsLinesRequest arguments)))
read_asks_nothing c w o s v e is (inl m) = inl m
read_asks_nothing c w o s v e is (inr (b, none)) = inr (b, λ arguments held. asks_nothing arguments w.now (texts o) s v (subst (λ x. HoldsWords arguments (texts x) (texts o) s v) is held) none)

-- ---- a word that spells columns is no option

space_first : (x : ℕ) (rest : List ℕ) → IsWhitespace x → is_columns_word (x ∷ rest) ≡ true
space_first x rest (inl e) = ap (λ y. is_columns_word (y ∷ rest)) e
space_first x rest (inr (inl e)) = ap (λ y. is_columns_word (y ∷ rest)) e
space_first x rest (inr (inr (inl e))) = ap (λ y. is_columns_word (y ∷ rest)) e
space_first x rest (inr (inr (inr e))) = ap (λ y. is_columns_word (y ∷ rest)) e

bracket_first : (p q : List ℕ) → ws p → is_columns_word (p ++ 91 ∷ q) ≡ true
bracket_first [] q w = refl
bracket_first (x ∷ p) q w = space_first x (p ++ 91 ∷ q) w.0

array_word : (ts : Trees) (word : List ℕ) → is_text false (list ts) word → is_columns_word word ≡ true
unfolding is_text
array_word ts word (p, q, e, w, (v, r, f, (o, s, g, b, more), z)) =
    ap is_columns_word (e ∙ ap (λ l. p ++ l) (f ∙ ap (λ l. l ++ r) (g ∙ ap (λ l. l ++ s) b))) ∙ bracket_first p (s ++ r) w

pub is_columns : (word : List ℕ) (columns : List Column) → WordSpells columns_in word columns → is_columns_word word ≡ true
is_columns word columns spelled = by spelled.tree spelled.input.text spelled.so
  where
    by : (t : Tree) → is_text false t word → columns_in t ≡ Some columns → is_columns_word word ≡ true
    by (list ts) h e = array_word ts word h
    by null h e = absurd cc
    by (boolean b) h e = absurd cc
    by (num l) h e = absurd cc
    by (text s) h e = absurd cc
    by (pairs ps) h e = absurd cc
