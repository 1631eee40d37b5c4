-- The first byte of a list, and the first character of UTF-8.
use Rattle.std.proofs.Common.{◌≡◌, ℕ, ◌<◌, List, [], ◌∷◌, ◌++◌, true, false, Some, refl, sym, ap, ◌∙◌, subst, IsUtf8}
use Rattle.std.specs.Char.{encode_utf8, IsScalar}
use Rattle.std.specs.Str.{encode_utf8_all}
use lib.Utf8.{scalars}
use Rattle.std.proofs.lemmas.Bool.{and_parts}
use Rattle.std.proofs.lemmas.Str.{encode_ascii}
use Rattle.json_grammar.proofs.Spellings.{unescaped_first}

pub head : {x y : ℕ} {a b : List ℕ} → x ∷ a ≡ y ∷ b → x ≡ y
head e = cc

pub tail : {x y : ℕ} {a b : List ℕ} → x ∷ a ≡ y ∷ b → a ≡ b
tail e = cc

pub cons_nil : (x : ℕ) (m : List ℕ) → x ∷ m ≡ [] → ⊥
cons_nil x m e = cc

pub false_true : false ≡ true → ⊥
false_true e = cc

pub some_same : {A : Type 0} {a b : A} → Some a ≡ Some b → a ≡ b
some_same e = cc

-- ---- UTF-8

pub utf8_char : (x : ℕ) (m : List ℕ) → IsUtf8 (x ∷ m) → (c : ℕ) × (k : List ℕ) × (x ∷ m ≡ encode_utf8 c ++ k) × IsScalar c × IsUtf8 k
utf8_char x m (cs, (h, e)) = go cs h e
  where
    go : (cs : List ℕ) → scalars cs ≡ true → encode_utf8_all cs ≡ x ∷ m → (c : ℕ) × (k : List ℕ) × (x ∷ m ≡ encode_utf8 c ++ k) × IsScalar c × IsUtf8 k
    go [] h e = absurd (cons_nil x m (sym e))
    go (c ∷ cs) h e = let p = and_parts _ _ h in (c, encode_utf8_all cs, sym e, p.0, (cs, (p.1, refl)))

pub utf8_tail : (x : ℕ) (m : List ℕ) → x < 128 → IsUtf8 (x ∷ m) → IsUtf8 m
utf8_tail x m l h = go (utf8_char x m h)
  where
    go : (c : ℕ) × (k : List ℕ) × (x ∷ m ≡ encode_utf8 c ++ k) × IsScalar c × IsUtf8 k → IsUtf8 m
    go (c, k, e, s, u) = let f : c ≡ x = unescaped_first c x k m l (sym e) in subst IsUtf8 (sym (tail (e ∙ ap (λ o. encode_utf8 o ++ k) f ∙ ap (λ o. o ++ k) (encode_ascii x l)))) u
