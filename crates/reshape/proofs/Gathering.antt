-- What one more word makes of what was gathered.
use Rattle.std.proofs.Common.{◌≡◌, inl, inr, ℕ, zero, suc, ◌+◌, ◌≤◌, List, [], ◌∷◌, ◌++◌, length, Bool, true, false, cond, not, ◌&&◌, ◌||◌, Option, Some, None, is_some, option_map, option_to_list, slice_get, take, drop, filter, filter_map, refl, sym, subst, ap, ◌∙◌, arith, length-append, take-append-drop, bytes_eq, codes, Bor}
use Rattle.std.specs.List.{list_all, cons_option}
use Rattle.std.specs.Option.{ForSome}
use Rattle.std.proofs.lemmas.List.{drop_more, take_more}
use Rattle.std.proofs.lemmas.Option.{slice_get_within, get_or_from_slice_get}
use Rattle.json_grammar.specs.Grammar.{ws}
use Rattle.json_model.specs.Print.{IsIndent}
use Rattle.reshape.specs.Words.{AsksEdits}
use Rattle.reshape.specs.Options.{spaces, begins_with_two_hyphens, is_edits_word, indent_in, is_sorting, is_unique, is_known, IsReshaping}
use Rattle.reshape.specs.Gathering.{IsRole, HasRole, HoldsWords}
use Rattle.reshape.proofs.Numerals.{depth_few}
use Rattle.reshape.specs.declared.options.Role.{Role}
use Rattle.reshape.specs.declared.options.Role.TheVariants.{Indent, SortKeys, UniqueKeys, Depth, EditsWord}
use Rattle.json_command.specs.Options.{depth_in, width_in}

-- ---- one more element

all_last : {A : Type 0} (f : A → Bool) (xs : List A) (x : A) → list_all f xs ≡ true → f x ≡ true → list_all f (xs ++ x ∷ []) ≡ true
all_last f [] x h e = rw e refl
all_last f (y ∷ xs) x h e = by (f y) (list_all f xs) _ h (λ k. all_last f xs x k e)
  where
    by : (a b c : Bool) → (a && b) ≡ true → (b ≡ true → c ≡ true) → (a && c) ≡ true
    by true b c h k = k h
    by false b c h k = h

filter_skips : {A : Type 0} (f : A → Bool) (xs : List A) (x : A) → f x ≡ false → filter f (xs ++ x ∷ []) ≡ filter f xs
filter_skips f [] x e = rw e refl
filter_skips f (y ∷ xs) x e = ap (λ zs. cond (f y) (y ∷ zs) zs) (filter_skips f xs x e)

filter_takes : {A : Type 0} (f : A → Bool) (xs : List A) (x : A) (more : List A) → f x ≡ true → filter f (xs ++ x ∷ more) ≡ filter f xs ++ x ∷ filter f more
filter_takes f [] x more e = rw e refl
filter_takes f (y ∷ xs) x more e = ap (λ zs. cond (f y) (y ∷ zs) zs) (filter_takes f xs x more e) ∙ by (f y) y (filter f xs) (x ∷ filter f more)
  where
    by : {A : Type 0} (b : Bool) (y : A) (ys zs : List A) → cond b (y ∷ (ys ++ zs)) (ys ++ zs) ≡ cond b (y ∷ ys) ys ++ zs
    by true y ys zs = refl
    by false y ys zs = refl

picks_skip : {A B : Type 0} (f : A → Option B) (xs : List A) (x : A) → f x ≡ None → filter_map f (xs ++ x ∷ []) ≡ filter_map f xs
picks_skip f [] x e = rw e refl
picks_skip f (y ∷ xs) x e = rw (picks_skip f xs x e) refl

picks_take : {A B : Type 0} (f : A → Option B) (xs : List A) (x : A) (y : B) (more : List A) → f x ≡ Some y → filter_map f (xs ++ x ∷ more) ≡ filter_map f xs ++ y ∷ filter_map f more
picks_take f [] x y more e = rw e refl
picks_take f (z ∷ xs) x y more e = by (f z) _ (filter_map f xs) (y ∷ filter_map f more) (picks_take f xs x y more e)
  where
    by : {B : Type 0} (o : Option B) (us vs ws : List B) → us ≡ vs ++ ws → cons_option o us ≡ cons_option o vs ++ ws
    by None us vs ws e = e
    by (Some b) us vs ws e = ap (λ l. b ∷ l) e

-- ---- a word that is taken

known_edits : (o n s u d : Bool) → o ≡ false → (not o || (n || (s || (u || d)))) ≡ true
known_edits o n s u d e = rw e refl

known_indent : {A : Type 0} (b : Bool) (o : Option A) (s u d : Bool) (i : A) → o ≡ Some i → (b || (is_some o || (s || (u || d)))) ≡ true
known_indent true o s u d i e = refl
known_indent false o s u d i e = rw e refl

known_sorting : (b n s u d : Bool) → s ≡ true → (b || (n || (s || (u || d)))) ≡ true
known_sorting true n s u d e = refl
known_sorting false true s u d e = refl
known_sorting false false s u d e = rw e refl

known_unique : (b n s u d : Bool) → u ≡ true → (b || (n || (s || (u || d)))) ≡ true
known_unique true n s u d e = refl
known_unique false true s u d e = refl
known_unique false false true u d e = refl
known_unique false false false u d e = rw e refl

known_depth : {A : Type 0} (b n s u : Bool) (o : Option A) (i : A) → o ≡ Some i → (b || (n || (s || (u || is_some o)))) ≡ true
known_depth true n s u o i e = refl
known_depth false true s u o i e = refl
known_depth false false true u o i e = refl
known_depth false false false true o i e = refl
known_depth false false false false o i e = rw e refl

not_true : (b : Bool) → b ≡ true → not b ≡ false
not_true b e = rw e refl

not_false : (b : Bool) → b ≡ false → not b ≡ true
not_false b e = rw e refl

one_more : (xs : List (List ℕ)) (x : List ℕ) (ys : List (List ℕ)) → ys ≡ xs ++ x ∷ [] → length xs ≡ 0 → length ys ≡ 1
one_more [] x ys e n = ap length e
one_more (z ∷ xs) x ys e n = absurd (omega arith)

abbrev pub Word : Type 0
Word = Option (List ℕ)

module _ (ws : List (List ℕ)) (w : List ℕ) where
  more_indent : (i : List ℕ) (s u : Bool) (d : Option ℕ) (e : Word) → IsRole w true (Some i) false false None → HoldsWords ws None s u d e → HoldsWords (ws ++ w ∷ []) (Some i) s u d e
  more_indent i s u d e r h =
      record {
        known = all_last is_known ws w h.known (known_indent (is_edits_word w) (indent_in w) (is_sorting w) (is_unique w) (is_some (depth_in w)) i r.indent_is);
        indent_is = picks_take indent_in ws w i [] r.indent_is ∙ ap (λ l. l ++ i ∷ []) h.indent_is;
        sorting = ap length (filter_skips is_sorting ws w r.sorting) ∙ h.sorting;
        differing = ap length (filter_skips is_unique ws w r.differing) ∙ h.differing;
        depth_is = picks_skip depth_in ws w r.depth_is ∙ h.depth_is;
        edits = filter_skips is_edits_word ws w (not_true (begins_with_two_hyphens w) r.option) ∙ h.edits;
      }

  more_sorting : (i : Word) (u : Bool) (d : Option ℕ) (e : Word) → IsRole w true None true false None → HoldsWords ws i false u d e → HoldsWords (ws ++ w ∷ []) i true u d e
  more_sorting i u d e r h =
      record {
        known = all_last is_known ws w h.known (known_sorting (is_edits_word w) (is_some (indent_in w)) (is_sorting w) (is_unique w) (is_some (depth_in w)) r.sorting);
        indent_is = picks_skip indent_in ws w r.indent_is ∙ h.indent_is;
        sorting = one_more (filter is_sorting ws) w _ (filter_takes is_sorting ws w [] r.sorting) h.sorting;
        differing = ap length (filter_skips is_unique ws w r.differing) ∙ h.differing;
        depth_is = picks_skip depth_in ws w r.depth_is ∙ h.depth_is;
        edits = filter_skips is_edits_word ws w (not_true (begins_with_two_hyphens w) r.option) ∙ h.edits;
      }

  more_unique : (i : Word) (s : Bool) (d : Option ℕ) (e : Word) → IsRole w true None false true None → HoldsWords ws i s false d e → HoldsWords (ws ++ w ∷ []) i s true d e
  more_unique i s d e r h =
      record {
        known = all_last is_known ws w h.known (known_unique (is_edits_word w) (is_some (indent_in w)) (is_sorting w) (is_unique w) (is_some (depth_in w)) r.differing);
        indent_is = picks_skip indent_in ws w r.indent_is ∙ h.indent_is;
        sorting = ap length (filter_skips is_sorting ws w r.sorting) ∙ h.sorting;
        differing = one_more (filter is_unique ws) w _ (filter_takes is_unique ws w [] r.differing) h.differing;
        depth_is = picks_skip depth_in ws w r.depth_is ∙ h.depth_is;
        edits = filter_skips is_edits_word ws w (not_true (begins_with_two_hyphens w) r.option) ∙ h.edits;
      }

  more_depth : (i : Word) (s u : Bool) (n : ℕ) (e : Word) → IsRole w true None false false (Some n) → HoldsWords ws i s u None e → HoldsWords (ws ++ w ∷ []) i s u (Some n) e
  more_depth i s u n e r h =
      record {
        known = all_last is_known ws w h.known (known_depth (is_edits_word w) (is_some (indent_in w)) (is_sorting w) (is_unique w) (depth_in w) n r.depth_is);
        indent_is = picks_skip indent_in ws w r.indent_is ∙ h.indent_is;
        sorting = ap length (filter_skips is_sorting ws w r.sorting) ∙ h.sorting;
        differing = ap length (filter_skips is_unique ws w r.differing) ∙ h.differing;
        depth_is = picks_take depth_in ws w n [] r.depth_is ∙ ap (λ l. l ++ n ∷ []) h.depth_is;
        edits = filter_skips is_edits_word ws w (not_true (begins_with_two_hyphens w) r.option) ∙ h.edits;
      }

  more_edits : (i : Word) (s u : Bool) (d : Option ℕ) → IsRole w false None false false None → HoldsWords ws i s u d None → HoldsWords (ws ++ w ∷ []) i s u d (Some w)
  more_edits i s u d r h =
      record {
        known = all_last is_known ws w h.known (known_edits (begins_with_two_hyphens w) (is_some (indent_in w)) (is_sorting w) (is_unique w) (is_some (depth_in w)) r.option);
        indent_is = picks_skip indent_in ws w r.indent_is ∙ h.indent_is;
        sorting = ap length (filter_skips is_sorting ws w r.sorting) ∙ h.sorting;
        differing = ap length (filter_skips is_unique ws w r.differing) ∙ h.differing;
        depth_is = picks_skip depth_in ws w r.depth_is ∙ h.depth_is;
        edits = filter_takes is_edits_word ws w [] (not_false (begins_with_two_hyphens w) r.option) ∙ ap (λ l. l ++ w ∷ []) h.edits;
      }

-- ---- a word that is refused

two_picked : {A : Type 0} (o : Option A) (x y : A) (xs : List A) → x ∷ y ∷ xs ≡ option_to_list o → ⊥
two_picked None x y xs e = cc
two_picked (Some z) x y xs e = cc

two_long : (xs : List (List ℕ)) (x : List ℕ) (ys : List (List ℕ)) (b : Bool) → length xs ≡ 1 → length (xs ++ x ∷ ys) ≡ cond b 1 0 → ⊥
two_long [] x ys b n e = omega arith
two_long (z ∷ xs) x ys true n e = omega (arith, length-append xs (x ∷ ys))
two_long (z ∷ xs) x ys false n e = omega arith

module _ (ws : List (List ℕ)) (w : List ℕ) (more : List (List ℕ)) where
  indent_again : (i j : List ℕ) (s u : Bool) (d : Option ℕ) (e : Word) → IsRole w true (Some i) false false None → HoldsWords ws (Some j) s u d e → ¬ (IsReshaping (ws ++ w ∷ more))
  indent_again i j s u d e r h (c, a) =
      two_picked c.layout.indent j i (filter_map indent_in more) (sym (picks_take indent_in ws w i more r.indent_is ∙ ap (λ l. l ++ i ∷ filter_map indent_in more) h.indent_is) ∙ a.indent)

  sorting_again : (i : Word) (u : Bool) (d : Option ℕ) (e : Word) → IsRole w true None true false None → HoldsWords ws i true u d e → ¬ (IsReshaping (ws ++ w ∷ more))
  sorting_again i u d e r h (c, a) = two_long (filter is_sorting ws) w (filter is_sorting more) c.layout.sorts h.sorting (sym (ap length (filter_takes is_sorting ws w more r.sorting)) ∙ a.sorting)

  unique_again : (i : Word) (s : Bool) (d : Option ℕ) (e : Word) → IsRole w true None false true None → HoldsWords ws i s true d e → ¬ (IsReshaping (ws ++ w ∷ more))
  unique_again i s d e r h (c, a) = two_long (filter is_unique ws) w (filter is_unique more) c.rules.unique h.differing (sym (ap length (filter_takes is_unique ws w more r.differing)) ∙ a.unique)

  depth_again : (i : Word) (s u : Bool) (n m : ℕ) (e : Word) → IsRole w true None false false (Some n) → HoldsWords ws i s u (Some m) e → ¬ (IsReshaping (ws ++ w ∷ more))
  depth_again i s u n m e r h (c, a) =
      two_picked a.depth m n (filter_map depth_in more) (sym (picks_take depth_in ws w n more r.depth_is ∙ ap (λ l. l ++ n ∷ filter_map depth_in more) h.depth_is) ∙ a.depth_is)

  edits_again : (v : List ℕ) (i : Word) (s u : Bool) (d : Option ℕ) → IsRole w false None false false None → HoldsWords ws i s u d (Some v) → ¬ (IsReshaping (ws ++ w ∷ more))
  edits_again v i s u d r h (c, a) =
      subst (λ l. AsksEdits l c.es) (filter_takes is_edits_word ws w more (not_false (begins_with_two_hyphens w) r.option) ∙ ap (λ l. l ++ w ∷ filter is_edits_word more) h.edits) a.edits

-- ---- as the code tests it

abbrev texts : Option (Bor (List ℕ)) → Option (List ℕ)
texts o = option_map (λ s. s.now) o

nothing_there : {A : Type 0} (o : Option A) → is_some o ≡ false → o ≡ None
nothing_there None e = refl
nothing_there (Some x) e = cc

module _ (ws : List (List ℕ)) (w : List ℕ) (r : Role) (o e : Option (Bor (List ℕ))) (s u : Bool) (d : Option ℕ) (h : HasRole w r) where
  abbrev Has : Option (Bor (List ℕ)) → Bool → Bool → Option ℕ → Option (Bor (List ℕ)) → Type 0
  Has o s u d e = HoldsWords ws (texts o) s u d (texts e)

  abbrev HasNow : Word → Bool → Bool → Option ℕ → Word → Type 0
  HasNow i s u d e = HoldsWords (ws ++ w ∷ []) i s u d e

  pub indent_taken : (i : Bor (List ℕ)) → r ≡ Indent i → is_some o ≡ false → Has o s u d e → HasNow (Some i.now) s u d (texts e)
  indent_taken i k n g = more_indent ws w i.now s u d (texts e) (subst (HasRole w) k h) (subst (λ o. Has o s u d e) (nothing_there o n) g)

  pub sorting_taken : r ≡ SortKeys → s ≡ false → Has o s u d e → HasNow (texts o) true u d (texts e)
  sorting_taken k n g = more_sorting ws w (texts o) u d (texts e) (subst (HasRole w) k h) (subst (λ s. Has o s u d e) n g)

  pub unique_taken : r ≡ UniqueKeys → u ≡ false → Has o s u d e → HasNow (texts o) s true d (texts e)
  unique_taken k n g = more_unique ws w (texts o) s d (texts e) (subst (HasRole w) k h) (subst (λ u. Has o s u d e) n g)

  pub depth_taken : (n : ℕ) → r ≡ Depth n → is_some d ≡ false → Has o s u d e → HasNow (texts o) s u (Some n) (texts e)
  depth_taken n k f g = more_depth ws w (texts o) s u n (texts e) (subst (HasRole w) k h) (subst (λ d. Has o s u d e) (nothing_there d f) g)

  pub edits_taken : (v : Bor (List ℕ)) → r ≡ EditsWord v → is_some e ≡ false → Has o s u d e → HasNow (texts o) s u d (Some v.now)
  edits_taken v k n g =
      let f : HasRole w (EditsWord v) = subst (HasRole w) k h in
      subst (λ x. HasNow (texts o) s u d (Some x)) (sym f.1) (more_edits ws w (texts o) s u d f.0 (subst (λ e. Has o s u d e) (nothing_there e n) g))

  module _ (more : List (List ℕ)) where
    pub indent_refused : (i : Bor (List ℕ)) → r ≡ Indent i → is_some o ≡ true → Has o s u d e → ¬ (IsReshaping (ws ++ w ∷ more))
    indent_refused i k n g = by o n g
      where
        by : (o : Option (Bor (List ℕ))) → is_some o ≡ true → Has o s u d e → ¬ (IsReshaping (ws ++ w ∷ more))
        by None n g = absurd cc
        by (Some j) n g = indent_again ws w more i.now j.now s u d (texts e) (subst (HasRole w) k h) g

    pub sorting_refused : r ≡ SortKeys → s ≡ true → Has o s u d e → ¬ (IsReshaping (ws ++ w ∷ more))
    sorting_refused k n g = sorting_again ws w more (texts o) u d (texts e) (subst (HasRole w) k h) (subst (λ s. Has o s u d e) n g)

    pub unique_refused : r ≡ UniqueKeys → u ≡ true → Has o s u d e → ¬ (IsReshaping (ws ++ w ∷ more))
    unique_refused k n g = unique_again ws w more (texts o) s d (texts e) (subst (HasRole w) k h) (subst (λ u. Has o s u d e) n g)

    pub depth_refused : (n : ℕ) → r ≡ Depth n → is_some d ≡ true → Has o s u d e → ¬ (IsReshaping (ws ++ w ∷ more))
    depth_refused n k f g = by d f g
      where
        by : (d : Option ℕ) → is_some d ≡ true → Has o s u d e → ¬ (IsReshaping (ws ++ w ∷ more))
        by None f g = absurd cc
        by (Some m) f g = depth_again ws w more (texts o) s u n m (texts e) (subst (HasRole w) k h) g

    pub edits_refused : (v : Bor (List ℕ)) → r ≡ EditsWord v → is_some e ≡ true → Has o s u d e → ¬ (IsReshaping (ws ++ w ∷ more))
    edits_refused v k n g = by e n g
      where
        role : HasRole w (EditsWord v)
        role = subst (HasRole w) k h

        by : (e : Option (Bor (List ℕ))) → is_some e ≡ true → Has o s u d e → ¬ (IsReshaping (ws ++ w ∷ more))
        by None n g = absurd cc
        by (Some x) n g = edits_again ws w more x.now (texts o) s u d role.0 g

-- ---- all words

after_word : (words : List (List ℕ)) (i : ℕ) (w : List ℕ) → slice_get words i ≡ Some w → drop i words ≡ w ∷ drop (i + 1) words
after_word words i w e = drop_more words i w (slice_get_within words i w e) ∙ ap (λ v. v ∷ drop (i + 1) words) (get_or_from_slice_get words i w w e)

split_word : (words : List (List ℕ)) (i : ℕ) (w : List ℕ) → slice_get words i ≡ Some w → take i words ++ w ∷ drop (i + 1) words ≡ words
split_word words i w e = ap (λ l. take i words ++ l) (sym (after_word words i w e)) ∙ take-append-drop i words

pub word_taken : (words : List (List ℕ)) (i : ℕ) (w : List ℕ) → slice_get words i ≡ Some w → take i words ++ w ∷ [] ≡ take (i + 1) words
word_taken words i w e = ap (λ v. take i words ++ v ∷ []) (sym (get_or_from_slice_get words i w w e)) ∙ sym (take_more words i w (slice_get_within words i w e))

pub word_refused : (words : List (List ℕ)) (i : ℕ) (w : List ℕ) → slice_get words i ≡ Some w → ((more : List (List ℕ)) → ¬ (IsReshaping (take i words ++ w ∷ more))) → ¬ (IsReshaping words)
word_refused words i w e h = subst (λ l. ¬ (IsReshaping l)) (split_word words i w e) (h (drop (i + 1) words))

-- ---- an indent is whitespace

same_some : {A : Type 0} {x y : A} → Some x ≡ Some y → x ≡ y
same_some e = cc

spaces_ws : (n : ℕ) → ws (spaces n)
spaces_ws zero = tt
spaces_ws (suc n) = (inl refl, spaces_ws n)

indent_ws : (w t : List ℕ) → indent_in w ≡ Some t → ws t
indent_ws w t = by (bytes_eq w (codes "--pretty")) (bytes_eq w (codes "--tabs")) (bytes_eq (take 9 w) (codes "--indent=")) (width_in (drop 9 w)) t
  where
    by : (a b c : Bool) (o : Option ℕ) (t : List ℕ) → cond a (Some (spaces 2)) (cond b (Some (9 ∷ [])) (cond c (option_map spaces o) None)) ≡ Some t → ws t
    by true b c o t e = subst ws (same_some e) (spaces_ws 2)
    by false true c o t e = subst ws (same_some e) (inr (inl refl), tt)
    by false false true (Some n) t e = subst ws (same_some e) (spaces_ws n)
    by false false true None t e = cc
    by false false false o t e = cc

-- what one word alone gives has what each such word's has
picked : {A B : Type 0} (f : A → Option B) (P : B → Type 0) → ((w : A) (t : B) → f w ≡ Some t → P t) → (words : List A) (i : B) → filter_map f words ≡ i ∷ [] → P i
picked f P h [] i e = cc
picked f P h (w ∷ words) i e = by f P w (f w) (filter_map f words) i (h w) (picked f P h words i) e
  where
    by : {A B : Type 0} (f : A → Option B) (P : B → Type 0) (w : A) (o : Option B) (more : List B) (i : B) → ((t : B) → o ≡ Some t → P t) → (more ≡ i ∷ [] → P i) → cons_option o more ≡ i ∷ [] → P i
    by f P w None more i h k e = k e
    by f P w (Some t) more i h k e = let same : t ≡ i = cc in subst P same (h t refl)

pub gathered_indent : (words : List (List ℕ)) (i : Option (List ℕ)) (s u : Bool) (d : Option ℕ) (w : Option (List ℕ)) → HoldsWords words i s u d w → IsIndent i
gathered_indent words None s u d w h = tt
gathered_indent words (Some i) s u d w h = picked indent_in ws indent_ws words i h.indent_is

-- ---- the levels are few

pub gathered_depth : (words : List (List ℕ)) (i : Option (List ℕ)) (s u : Bool) (d : Option ℕ) (w : Option (List ℕ)) → HoldsWords words i s u d w → ForSome d (λ n. n ≤ 1024)
gathered_depth words i s u None w h = λ n e. cc
gathered_depth words i s u (Some m) w h = λ n e. picked depth_in (λ n. n ≤ 1024) depth_few words n (h.depth_is ∙ ap option_to_list e)
