-- The texts of pointers, and the values that tokens reference.
use Rattle.std.proofs.Common.{◌≡◌, ℕ, List, [], ◌∷◌, ◌++◌, map, Bool, true, false, cond, Option, Some, None, Ok, refl, sym, ap, ◌∙◌, subst, append_assoc, eqb-true, ◌==◌}
use Rattle.std.specs.Prelude.{option_map}
use Rattle.json_grammar.specs.Tree.{Tree, null, boolean, num, text, list, pairs}
use Rattle.json_model.specs.Edit.{Step, key_step, index_step, type_unmatched, within, and_then}
use Rattle.json_patch.specs.ValuesAt.{value_at_step, value_at_path}
use Rattle.json_patch.specs.Pointer.{ReferenceToken, slash, tilde, unescaped_after, prepend_byte, split_at_slashes, prepend_token, unescaped_tokens, escaped_byte, escaped_token, pointer_text, step_of_token, path_of_tokens}
use Rattle.json_patch.specs.Laws.{PointerTextParses, ParsedTextIsPointerText}
use Rattle.json_patch.proofs.Results.{same_ok, no_ok, then_parts, within_parts}
use Rattle.json_patch.proofs.ReplacedAt.{replaced_at_step, replaced_at_path, replaced_at_path_step, child_now}

-- ---- the text of tokens is parsed

-- a byte escaped, by whether it is a tilde or a slash
abbrev escaped_by : ℕ → Bool → Bool → List ℕ
escaped_by x a b = cond a (tilde ∷ 48 ∷ []) (cond b (tilde ∷ 49 ∷ []) (x ∷ []))

split_byte : (x : ℕ) (a b : Bool) → (x == slash) ≡ b → (rest s : List ℕ) (ss : List (List ℕ)) → split_at_slashes rest ≡ s ∷ ss → split_at_slashes (escaped_by x a b ++ rest) ≡ (escaped_by x a b ++ s) ∷ ss
split_byte x true b e rest s ss h = ap (λ ks. prepend_byte false tilde (prepend_byte false 48 ks)) h
split_byte x false true e rest s ss h = ap (λ ks. prepend_byte false tilde (prepend_byte false 49 ks)) h
split_byte x false false e rest s ss h = ap (λ b. prepend_byte b x (split_at_slashes rest)) e ∙ ap (prepend_byte false x) h

split_token : (k : ReferenceToken) (rest : List ℕ) (ss : List (List ℕ)) → split_at_slashes rest ≡ [] ∷ ss → split_at_slashes (escaped_token k ++ rest) ≡ escaped_token k ∷ ss
split_token [] rest ss h = h
split_token (x ∷ k) rest ss h =
    ap split_at_slashes (append_assoc (escaped_byte x) (escaped_token k) rest) ∙ split_byte x (x == tilde) (x == slash) refl (escaped_token k ++ rest) (escaped_token k) ss (split_token k rest ss h)

split_text : (p : List ReferenceToken) → split_at_slashes (pointer_text p) ≡ [] ∷ map escaped_token p
split_text [] = refl
split_text (k ∷ p) = ap (prepend_byte true slash) (split_token k (pointer_text p) (map escaped_token p) (split_text p))

read_byte : (x : ℕ) (a b : Bool) → (x == tilde) ≡ a → (x == slash) ≡ b → (s : List ℕ) (k : ReferenceToken) → unescaped_after false s ≡ Some k → unescaped_after false (escaped_by x a b ++ s) ≡ Some (x ∷ k)
read_byte x true b e f s k h = ap (option_map (λ k. tilde ∷ k)) h ∙ ap (λ y. Some (y ∷ k)) (sym (eqb-true x tilde e))
read_byte x false true e f s k h = ap (option_map (λ k. slash ∷ k)) h ∙ ap (λ y. Some (y ∷ k)) (sym (eqb-true x slash f))
read_byte x false false e f s k h =
    ap (λ b. elim b as (λ _. Option ReferenceToken) [ true ↦ unescaped_after true s | false ↦ option_map (λ k. x ∷ k) (unescaped_after false s) ]) e ∙ ap (option_map (λ k. x ∷ k)) h

read_token : (k : ReferenceToken) → unescaped_after false (escaped_token k) ≡ Some k
read_token [] = refl
read_token (x ∷ k) = read_byte x (x == tilde) (x == slash) refl refl (escaped_token k) k (read_token k)

read_tokens : (p : List ReferenceToken) → unescaped_tokens (map escaped_token p) ≡ Some p
read_tokens [] = refl
read_tokens (k ∷ p) = ap (λ o. prepend_token o (unescaped_tokens (map escaped_token p))) (read_token k) ∙ ap (prepend_token (Some k)) (read_tokens p)

pub pointer_text_parses : PointerTextParses
pointer_text_parses [] = refl
pointer_text_parses (k ∷ p) = ap unescaped_tokens (split_token k (pointer_text p) (map escaped_token p) (split_text p)) ∙ read_tokens (k ∷ p)

-- ---- what was parsed is the text of its tokens

some_same : {A : Type 0} (x y : A) → Some x ≡ Some y → x ≡ y
some_same x y e = cc

none_some : {A : Type 0} (x : A) → None ≡ Some x → ⊥
none_some x e = cc

map_parts : {A B : Type 0} (f : A → B) (o : Option A) (y : B) → option_map f o ≡ Some y → (x : A) × (o ≡ Some x) × (f x ≡ y)
map_parts f None y h = absurd (none_some y h)
map_parts f (Some x) y h = (x, refl, some_same (f x) y h)

-- no byte is a slash
abbrev IsBare : List ℕ → Type 0
IsBare [] = Unit {0}
IsBare (x ∷ s) = ((x == slash) ≡ false) × IsBare s

abbrev AreBare : List (List ℕ) → Type 0
AreBare [] = Unit {0}
AreBare (s ∷ ss) = IsBare s × AreBare ss

bare-prepend : (b : Bool) (x : ℕ) (ss : List (List ℕ)) → (x == slash) ≡ b → AreBare ss → AreBare (prepend_byte b x ss)
bare-prepend true x ss e h = (tt, h)
bare-prepend false x [] e h = ((e, tt), tt)
bare-prepend false x (s ∷ ss) e h = ((e, h.0), h.1)

split_bare : (s : List ℕ) → AreBare (split_at_slashes s)
split_bare [] = (tt, tt)
split_bare (x ∷ s) = bare-prepend (x == slash) x (split_at_slashes s) refl (split_bare s)

-- each part after a slash
abbrev slashed : List (List ℕ) → List ℕ
slashed [] = []
slashed (s ∷ ss) = slash ∷ (s ++ slashed ss)

nil_cons : (x : ℕ) (s : List ℕ) → [] ≡ x ∷ s → ⊥
nil_cons x s e = cc

tail_same : (x : ℕ) (s t : List ℕ) → x ∷ s ≡ x ∷ t → s ≡ t
tail_same x s t e = cc

slashed-prepend : (b : Bool) (x : ℕ) (s : List ℕ) (ss : List (List ℕ)) → (x == slash) ≡ b → slashed ss ≡ slash ∷ s → slashed (prepend_byte b x ss) ≡ slash ∷ x ∷ s
slashed-prepend true x s ss e h = ap (λ y. slash ∷ y) h ∙ ap (λ y. slash ∷ y ∷ s) (sym (eqb-true x slash e))
slashed-prepend false x s [] e h = absurd (nil_cons slash s h)
slashed-prepend false x s (k ∷ ks) e h = ap (λ y. slash ∷ x ∷ y) (tail_same slash (k ++ slashed ks) s h)

slashed-split : (s : List ℕ) → slashed (split_at_slashes s) ≡ slash ∷ s
slashed-split [] = refl
slashed-split (x ∷ s) = slashed-prepend (x == slash) x s (split_at_slashes s) refl (slashed-split s)

-- the bytes with the tilde before them
abbrev with_tilde : Bool → List ℕ → List ℕ
with_tilde true s = tilde ∷ s
with_tilde false s = s

token_escaped : (b : Bool) (s : List ℕ) (k : ReferenceToken) → IsBare s → unescaped_after b s ≡ Some k → escaped_token k ≡ with_tilde b s
token_escaped false [] k n h = ap escaped_token (sym (some_same [] k h))
token_escaped true [] k n h = absurd (none_some k h)
token_escaped false (x ∷ s) k n h = by (x == tilde) refl h (λ k. token_escaped true s k n.1) (λ k. token_escaped false s k n.1)
  where
    by : (a : Bool) → (x == tilde) ≡ a → elim a as (λ _. Option ReferenceToken) [ true ↦ unescaped_after true s | false ↦ option_map (λ k. x ∷ k) (unescaped_after false s) ] ≡ Some k
        → ((k : ReferenceToken) → unescaped_after true s ≡ Some k → escaped_token k ≡ tilde ∷ s) → ((k : ReferenceToken) → unescaped_after false s ≡ Some k → escaped_token k ≡ s) → escaped_token k ≡ x ∷ s
    by true e h i j = i k h ∙ ap (λ y. y ∷ s) (sym (eqb-true x tilde e))
    by false e h i j =
        let a = map_parts (λ k. x ∷ k) (unescaped_after false s) k h in
        ap escaped_token (sym a.2) ∙ ap (λ b. escaped_by x b (x == slash) ++ escaped_token a.0) e ∙ ap (λ b. escaped_by x false b ++ escaped_token a.0) n.0 ∙ ap (λ y. x ∷ y) (j a.0 a.1)
token_escaped true (x ∷ s) k n h = by (x == 48) refl h (λ k. token_escaped false s k n.1)
  where
    other : (c : Bool) → (x == 49) ≡ c → elim c as (λ _. Option ReferenceToken) [ true ↦ option_map (λ k. slash ∷ k) (unescaped_after false s) | false ↦ None ] ≡ Some k
        → ((k : ReferenceToken) → unescaped_after false s ≡ Some k → escaped_token k ≡ s) → escaped_token k ≡ tilde ∷ x ∷ s
    other true e h j =
        let a = map_parts (λ k. slash ∷ k) (unescaped_after false s) k h in
        ap escaped_token (sym a.2) ∙ ap (λ y. tilde ∷ 49 ∷ y) (j a.0 a.1) ∙ ap (λ y. tilde ∷ y ∷ s) (sym (eqb-true x 49 e))
    other false e h j = absurd (none_some k h)

    by : (c : Bool) → (x == 48) ≡ c
        → elim c as (λ _. Option ReferenceToken) [ true ↦ option_map (λ k. tilde ∷ k) (unescaped_after false s) | false ↦ elim (x == 49) [ true ↦ option_map (λ k. slash ∷ k) (unescaped_after false s) | false ↦ None ] ] ≡ Some k
        → ((k : ReferenceToken) → unescaped_after false s ≡ Some k → escaped_token k ≡ s) → escaped_token k ≡ tilde ∷ x ∷ s
    by true e h j =
        let a = map_parts (λ k. tilde ∷ k) (unescaped_after false s) k h in
        ap escaped_token (sym a.2) ∙ ap (λ y. tilde ∷ 48 ∷ y) (j a.0 a.1) ∙ ap (λ y. tilde ∷ y ∷ s) (sym (eqb-true x 48 e))
    by false e h j = other (x == 49) refl h j

prepend_parts : (o : Option ReferenceToken) (q : Option (List ReferenceToken)) (p : List ReferenceToken) → prepend_token o q ≡ Some p → (k : ReferenceToken) × (r : List ReferenceToken) × (o ≡ Some k) × (q ≡ Some r) × (k ∷ r ≡ p)
prepend_parts None q p h = absurd (none_some p h)
prepend_parts (Some k) None p h = absurd (none_some p h)
prepend_parts (Some k) (Some r) p h = (k, r, refl, refl, some_same (k ∷ r) p h)

tokens_escaped : (ss : List (List ℕ)) (p : List ReferenceToken) → AreBare ss → unescaped_tokens ss ≡ Some p → pointer_text p ≡ slashed ss
tokens_escaped [] p n h = ap pointer_text (sym (some_same [] p h))
tokens_escaped (s ∷ ss) p n h =
    let a = prepend_parts (unescaped_after false s) (unescaped_tokens ss) p h in
    ap pointer_text (sym a.4) ∙ ap (λ y. slash ∷ (y ++ pointer_text a.1)) (token_escaped false s a.0 n.0 a.2) ∙ ap (λ y. slash ∷ (s ++ y)) (tokens_escaped ss a.1 n.1 a.3)

pub parsed_text_is_pointer_text : ParsedTextIsPointerText
parsed_text_is_pointer_text [] p h = ap pointer_text (sym (some_same [] p h))
parsed_text_is_pointer_text (x ∷ s) p h = by (x == slash) refl h
  where
    by : (b : Bool) → (x == slash) ≡ b → elim b as (λ _. Option (List ReferenceToken)) [ true ↦ unescaped_tokens (split_at_slashes s) | false ↦ None ] ≡ Some p → pointer_text p ≡ x ∷ s
    by true e h = tokens_escaped (split_at_slashes s) p (split_bare s) h ∙ slashed-split s ∙ ap (λ y. y ∷ s) (sym (eqb-true x slash e))
    by false e h = absurd (none_some p h)

-- ---- what tokens reference

-- a tree of the same kind, with the same step
pub step_stays : (k : ReferenceToken) (s : Step) (n t : Tree) → step_of_token k t ≡ Ok s → step_of_token k (replaced_at_step s n t) ≡ Ok s
step_stays k (key_step m) n (pairs ps) h = h
step_stays k (index_step i) n (list ts) h = h
step_stays k (key_step m) n (list ts) h = h
step_stays k (index_step i) n (pairs ps) h = h
step_stays k s n null h = absurd (no_ok s type_unmatched h)
step_stays k s n (boolean b) h = absurd (no_ok s type_unmatched h)
step_stays k s n (num l) h = absurd (no_ok s type_unmatched h)
step_stays k s n (text w) h = absurd (no_ok s type_unmatched h)

pub path_parts : (k : ReferenceToken) (p : List ReferenceToken) (t : Tree) (q : List Step) → path_of_tokens (k ∷ p) t ≡ Ok q
    → (s : Step) × (c : Tree) × (r : List Step) × (step_of_token k t ≡ Ok s) × (value_at_step s t ≡ Ok c) × (path_of_tokens p c ≡ Ok r) × (s ∷ r ≡ q)
path_parts k p t q h =
    let a = then_parts (step_of_token k t) (λ s. and_then (value_at_step s t) (λ u. within (λ q. s ∷ q) (path_of_tokens p u))) q h in
    let b = then_parts (value_at_step a.0 t) (λ u. within (λ q. a.0 ∷ q) (path_of_tokens p u)) q a.2 in
    let c = within_parts (path_of_tokens p b.0) (λ q. a.0 ∷ q) q b.2 in
    (a.0, b.0, c.0, a.1, b.1, c.1, c.2)

pub path_from : (k : ReferenceToken) (p : List ReferenceToken) (t : Tree) (s : Step) (c : Tree) (r : List Step) → step_of_token k t ≡ Ok s → value_at_step s t ≡ Ok c → path_of_tokens p c ≡ Ok r → path_of_tokens (k ∷ p) t ≡ Ok (s ∷ r)
path_from k p t s c r e f g =
    ap (λ o. and_then o (λ s. and_then (value_at_step s t) (λ u. within (λ q. s ∷ q) (path_of_tokens p u)))) e
    ∙ ap (λ o. and_then o (λ u. within (λ q. s ∷ q) (path_of_tokens p u))) f
    ∙ ap (within (λ q. s ∷ q)) g

-- there is a value at the path that tokens are
pub path_leads : (p : List ReferenceToken) (t : Tree) (q : List Step) → path_of_tokens p t ≡ Ok q → (c : Tree) × (value_at_path q t ≡ Ok c)
path_leads [] t q h = (t, ap (λ q. value_at_path q t) (sym (same_ok [] q h)))
path_leads (k ∷ p) t q h =
    let a = path_parts k p t q h in
    let b = path_leads p a.1 a.2 a.5 in
    (b.0, ap (λ q. value_at_path q t) (sym a.6) ∙ ap (λ r. and_then r (value_at_path a.2)) a.4 ∙ b.1)

-- tokens are the same path if the tree at their end is replaced
pub path_stays : (p : List ReferenceToken) (n t : Tree) (q : List Step) → path_of_tokens p t ≡ Ok q → path_of_tokens p (replaced_at_path q n t) ≡ Ok q
path_stays [] n t q h = h
path_stays (k ∷ p) n t q h =
    let a = path_parts k p t q h in
    let u = replaced_at_path a.2 n a.1 in
    subst (λ q. path_of_tokens (k ∷ p) (replaced_at_path q n t) ≡ Ok q) a.6 (
    ap (path_of_tokens (k ∷ p)) (replaced_at_path_step a.0 a.2 n t a.1 a.4)
    ∙ path_from k p (replaced_at_step a.0 u t) a.0 u a.2 (step_stays k a.0 u t a.3) (child_now a.0 a.1 u t a.4) (path_stays p n a.1 a.2 a.5)
    )
