-- Tokens of pointers, parsed from the left to the right.
use Rattle.std.proofs.Common.{◌≡◌, ◌≢◌, ℕ, suc, List, [], ◌∷◌, ◌++◌, Bool, true, false, Option, Some, None, refl, sym, ap, ◌∙◌, arith, ◌==◌, append_assoc}
use Rattle.std.specs.Prelude.{option_map}
use Rattle.std.proofs.lemmas.Bool.{ne_eqb}
use Rattle.std.proofs.lemmas.List.{append-nil}
use Rattle.json_patch.specs.Pointer.{ReferenceToken, slash, tilde, unescaped_after, prepend_byte, split_at_slashes, prepend_token, unescaped_tokens, pointer_of, Lacks}

pub lacks_first : (c x : ℕ) (a : List ℕ) → Lacks c (x ∷ a) → (x == c) ≡ false
lacks_first c x a h = ne_eqb x c (h 0 (omega arith))

pub lacks_rest : (c x : ℕ) (a : List ℕ) → Lacks c (x ∷ a) → Lacks c a
lacks_rest c x a h i l = h (suc i) (omega arith)

map_map : (x : ℕ) (a : List ℕ) (o : Option ReferenceToken) → option_map (λ k. x ∷ k) (option_map (λ k. a ++ k) o) ≡ option_map (λ k. (x ∷ a) ++ k) o
map_map x a None = refl
map_map x a (Some k) = refl

map_nil : (o : Option ReferenceToken) → o ≡ option_map (λ k. [] ++ k) o
map_nil None = refl
map_nil (Some k) = refl

-- bytes without a tilde are not escaped
pub unescaped-plain : (a s : List ℕ) → Lacks 126 a → unescaped_after false (a ++ s) ≡ option_map (λ k. a ++ k) (unescaped_after false s)
unescaped-plain [] s h = map_nil (unescaped_after false s)
unescaped-plain (x ∷ a) s h = by (x == tilde) (lacks_first 126 x a h) ∙ ap (option_map (λ k. x ∷ k)) (unescaped-plain a s (lacks_rest 126 x a h)) ∙ map_map x a (unescaped_after false s)
  where
    by : (b : Bool) → b ≡ false
        → elim b as (λ _. Option ReferenceToken) [ true ↦ unescaped_after true (a ++ s) | false ↦ option_map (λ k. x ∷ k) (unescaped_after false (a ++ s)) ] ≡ option_map (λ k. x ∷ k) (unescaped_after false (a ++ s))
    by true e = cc
    by false e = refl

map_twice : (a b : List ℕ) (o : Option ReferenceToken) → option_map (λ k. a ++ k) (option_map (λ k. b ++ k) o) ≡ option_map (λ k. (a ++ b) ++ k) o
map_twice a b None = refl
map_twice a b (Some k) = ap Some (sym (append_assoc a b k))

map_one : (a : List ℕ) (x : ℕ) (o : Option ReferenceToken) → option_map (λ k. a ++ k) (option_map (λ k. x ∷ k) o) ≡ option_map (λ k. (a ++ (x ∷ [])) ++ k) o
map_one a x None = refl
map_one a x (Some k) = ap Some (sym (append_assoc a (x ∷ []) k))

-- t was read, and `remaining` is left; bytes without a tilde are read, and then a tilde
begun : (part t remaining plain after : List ℕ) → unescaped_after false part ≡ option_map (λ k. t ++ k) (unescaped_after false remaining) → remaining ≡ plain ++ (126 ∷ after) → Lacks 126 plain
    → unescaped_after false part ≡ option_map (λ k. (t ++ plain) ++ k) (unescaped_after true after)
begun part t remaining plain after h e l =
    h ∙ ap (λ s. option_map (λ k. t ++ k) (unescaped_after false s)) e ∙ ap (option_map (λ k. t ++ k)) (unescaped-plain plain (126 ∷ after) l) ∙ map_twice t plain (unescaped_after true after)

pub tilde_read : (part t remaining plain after rest u : List ℕ) → unescaped_after false part ≡ option_map (λ k. t ++ k) (unescaped_after false remaining) → remaining ≡ plain ++ (126 ∷ after) → Lacks 126 plain → after ≡ 48 ∷ rest
    → u ≡ (t ++ plain) ++ (126 ∷ []) → unescaped_after false part ≡ option_map (λ k. u ++ k) (unescaped_after false rest)
tilde_read part t remaining plain after rest u h e l f g =
    begun part t remaining plain after h e l ∙ ap (λ s. option_map (λ k. (t ++ plain) ++ k) (unescaped_after true s)) f ∙ map_one (t ++ plain) 126 (unescaped_after false rest)
    ∙ ap (λ v. option_map (λ k. v ++ k) (unescaped_after false rest)) (sym g)

pub slash_read : (part t remaining plain after rest u : List ℕ) → unescaped_after false part ≡ option_map (λ k. t ++ k) (unescaped_after false remaining) → remaining ≡ plain ++ (126 ∷ after) → Lacks 126 plain → after ≡ 49 ∷ rest
    → u ≡ (t ++ plain) ++ (47 ∷ []) → unescaped_after false part ≡ option_map (λ k. u ++ k) (unescaped_after false rest)
slash_read part t remaining plain after rest u h e l f g =
    begun part t remaining plain after h e l ∙ ap (λ s. option_map (λ k. (t ++ plain) ++ k) (unescaped_after true s)) f ∙ map_one (t ++ plain) 47 (unescaped_after false rest)
    ∙ ap (λ v. option_map (λ k. v ++ k) (unescaped_after false rest)) (sym g)

other : (after : List ℕ) → ((rest : List ℕ) → after ≢ 48 ∷ rest) → ((rest : List ℕ) → after ≢ 49 ∷ rest) → unescaped_after true after ≡ None
other [] g h = refl
other (x ∷ s) g h = by (x == 48) (x == 49) (ne_eqb x 48 (λ e. g s (ap (λ y. y ∷ s) e))) (ne_eqb x 49 (λ e. h s (ap (λ y. y ∷ s) e)))
  where
    by : (a b : Bool) → a ≡ false → b ≡ false
        → elim a as (λ _. Option ReferenceToken) [ true ↦ option_map (λ k. tilde ∷ k) (unescaped_after false s) | false ↦ elim b as (λ _. Option ReferenceToken) [ true ↦ option_map (λ k. slash ∷ k) (unescaped_after false s) | false ↦ None ] ] ≡ None
    by true b e f = cc
    by false true e f = cc
    by false false e f = refl

-- a tilde before another byte, or at the end
pub other_refused : (part t remaining plain after : List ℕ) → unescaped_after false part ≡ option_map (λ k. t ++ k) (unescaped_after false remaining) → remaining ≡ plain ++ (126 ∷ after) → Lacks 126 plain
    → ((rest : List ℕ) → after ≢ 48 ∷ rest) → ((rest : List ℕ) → after ≢ 49 ∷ rest) → unescaped_after false part ≡ None
other_refused part t remaining plain after h e l f g = begun part t remaining plain after h e l ∙ ap (option_map (λ k. (t ++ plain) ++ k)) (other after f g)

-- no tilde is left
pub rest_read : (part t remaining u : List ℕ) → unescaped_after false part ≡ option_map (λ k. t ++ k) (unescaped_after false remaining) → Lacks 126 remaining → u ≡ t ++ remaining → unescaped_after false part ≡ Some u
rest_read part t remaining u h l g =
    h ∙ ap (λ s. option_map (λ k. t ++ k) (unescaped_after false s)) (sym (append-nil remaining)) ∙ ap (option_map (λ k. t ++ k)) (unescaped-plain remaining [] l) ∙ ap (λ s. Some (t ++ s)) (append-nil remaining) ∙ ap Some (sym g)

-- ---- parts between slashes

-- bytes without a slash are one part
pub split_end : (a : List ℕ) → Lacks 47 a → split_at_slashes a ≡ a ∷ []
split_end [] h = refl
split_end (x ∷ a) h = ap (λ b. prepend_byte b x (split_at_slashes a)) (lacks_first 47 x a h) ∙ ap (prepend_byte false x) (split_end a (lacks_rest 47 x a h))

pub split_at : (a s : List ℕ) → Lacks 47 a → split_at_slashes (a ++ (47 ∷ s)) ≡ a ∷ split_at_slashes s
split_at [] s h = refl
split_at (x ∷ a) s h = ap (λ b. prepend_byte b x (split_at_slashes (a ++ (47 ∷ s)))) (lacks_first 47 x a h) ∙ ap (prepend_byte false x) (split_at a s (lacks_rest 47 x a h))

one_more : (ks : List ReferenceToken) (k : ReferenceToken) (o : Option (List ReferenceToken)) → option_map (λ p. ks ++ p) (prepend_token (Some k) o) ≡ option_map (λ p. (ks ++ (k ∷ [])) ++ p) o
one_more ks k None = refl
one_more ks k (Some p) = ap Some (sym (append_assoc ks (k ∷ []) p))

-- ks were read, and `remaining` is left; a part before a slash is read
pub part_read : (parts remaining part after : List ℕ) (ks js : List ReferenceToken) (k : ReferenceToken) → unescaped_tokens (split_at_slashes parts) ≡ option_map (λ p. ks ++ p) (unescaped_tokens (split_at_slashes remaining)) → remaining ≡ part ++ (47 ∷ after) → Lacks 47 part
    → unescaped_after false part ≡ Some k → js ≡ ks ++ (k ∷ []) → unescaped_tokens (split_at_slashes parts) ≡ option_map (λ p. js ++ p) (unescaped_tokens (split_at_slashes after))
part_read parts remaining part after ks js k h e l f g =
    h ∙ ap (λ s. option_map (λ p. ks ++ p) (unescaped_tokens (split_at_slashes s))) e ∙ ap (λ c. option_map (λ p. ks ++ p) (unescaped_tokens c)) (split_at part after l)
    ∙ ap (λ o. option_map (λ p. ks ++ p) (prepend_token o (unescaped_tokens (split_at_slashes after)))) f ∙ one_more ks k (unescaped_tokens (split_at_slashes after)) ∙ ap (λ v. option_map (λ p. v ++ p) (unescaped_tokens (split_at_slashes after))) (sym g)

pub part_refused : (parts remaining part after : List ℕ) (ks : List ReferenceToken) → unescaped_tokens (split_at_slashes parts) ≡ option_map (λ p. ks ++ p) (unescaped_tokens (split_at_slashes remaining)) → remaining ≡ part ++ (47 ∷ after) → Lacks 47 part
    → unescaped_after false part ≡ None → unescaped_tokens (split_at_slashes parts) ≡ None
part_refused parts remaining part after ks h e l f =
    h ∙ ap (λ s. option_map (λ p. ks ++ p) (unescaped_tokens (split_at_slashes s))) e ∙ ap (λ c. option_map (λ p. ks ++ p) (unescaped_tokens c)) (split_at part after l)
    ∙ ap (λ o. option_map (λ p. ks ++ p) (prepend_token o (unescaped_tokens (split_at_slashes after)))) f

pub last_read : (parts remaining : List ℕ) (ks js : List ReferenceToken) (k : ReferenceToken) → unescaped_tokens (split_at_slashes parts) ≡ option_map (λ p. ks ++ p) (unescaped_tokens (split_at_slashes remaining)) → Lacks 47 remaining
    → unescaped_after false remaining ≡ Some k → js ≡ ks ++ (k ∷ []) → unescaped_tokens (split_at_slashes parts) ≡ Some js
last_read parts remaining ks js k h l f g =
    h ∙ ap (λ c. option_map (λ p. ks ++ p) (unescaped_tokens c)) (split_end remaining l) ∙ ap (λ o. option_map (λ p. ks ++ p) (prepend_token o (Some []))) f ∙ ap Some (sym g)

pub last_refused : (parts remaining : List ℕ) (ks : List ReferenceToken) → unescaped_tokens (split_at_slashes parts) ≡ option_map (λ p. ks ++ p) (unescaped_tokens (split_at_slashes remaining)) → Lacks 47 remaining → unescaped_after false remaining ≡ None → unescaped_tokens (split_at_slashes parts) ≡ None
last_refused parts remaining ks h l f =
    h ∙ ap (λ c. option_map (λ p. ks ++ p) (unescaped_tokens c)) (split_end remaining l) ∙ ap (λ o. option_map (λ p. ks ++ p) (prepend_token o (Some []))) f

-- a text that is not empty and begins with no slash is no pointer
pub no_slash : (b : List ℕ) → b ≢ [] → ((rest : List ℕ) → b ≢ 47 ∷ rest) → pointer_of b ≡ None
no_slash [] h g = absurd (h refl)
no_slash (x ∷ s) h g = by (x == slash) (ne_eqb x 47 (λ e. g s (ap (λ y. y ∷ s) e)))
  where
    by : (a : Bool) → a ≡ false → elim a as (λ _. Option (List ReferenceToken)) [ true ↦ unescaped_tokens (split_at_slashes s) | false ↦ None ] ≡ None
    by true e = cc
    by false e = refl
