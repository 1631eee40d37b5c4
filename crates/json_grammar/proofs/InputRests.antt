-- The rest of an input: its whitespace, its literals, and where its last number ends.
use Rattle.std.proofs.Common.{Bool, true, false, ◌≡◌, ◌≢◌, ℕ, ◌<◌, ◌≤◌, List, [], ◌∷◌, ◌++◌, ◌⊎◌, inl, inr, refl, sym, ap, ◌∙◌, subst, arith, IsUtf8}
use Rattle.std.proofs.lemmas.Bool.{cases_lt, cases_eq}
use Rattle.json_grammar.specs.declared.ExpectedPart.{ExpectedPart}
use Rattle.json_grammar.specs.declared.ExpectedPart.TheVariants.{Done as done}
use Rattle.json_grammar.specs.Tree.{Token, num_token}
use Rattle.json_grammar.specs.Grammar.{IsWhitespace, ws, IsDigit, null_bytes, boolean_bytes}
use Rattle.json_grammar.specs.NumberEnds.{EndsNumber}
use Rattle.json_grammar.specs.Given.{LastEnds}
use Rattle.json_grammar.proofs.Numbers.{InNumber, AreInNumber}
use Rattle.json_grammar.proofs.FirstBytes.{cons_nil, head, tail, utf8_tail}

pub snoc_some : (a : List ℕ) (x : ℕ) → a ++ x ∷ [] ≡ [] → ⊥
snoc_some [] x e = cons_nil x [] e
snoc_some (y ∷ a) x e = cons_nil y _ e

pub snoc_last : (a b : List ℕ) (y z : ℕ) → a ++ y ∷ [] ≡ b ++ z ∷ [] → y ≡ z
snoc_last [] [] y z e = head e
snoc_last [] (x ∷ b) y z e = absurd (snoc_some b z (sym (tail e)))
snoc_last (x ∷ a) [] y z e = absurd (snoc_some a y (tail e))
snoc_last (x ∷ a) (x' ∷ b) y z e = snoc_last a b y z (tail e)

token_some : (a : List Token) (x : Token) → a ++ x ∷ [] ≡ [] → ⊥
token_some [] x e = cc
token_some (y ∷ a) x e = cc

last_token : (a b : List Token) (y z : Token) → a ++ y ∷ [] ≡ b ++ z ∷ [] → y ≡ z
last_token [] [] y z e = cc
last_token [] (x ∷ b) y z e = absurd (token_some b z (rest e))
  where
    rest : y ∷ [] ≡ x ∷ (b ++ z ∷ []) → b ++ z ∷ [] ≡ []
    rest e = cc
last_token (x ∷ a) [] y z e = absurd (token_some a y (rest e))
  where
    rest : x ∷ (a ++ y ∷ []) ≡ z ∷ [] → a ++ y ∷ [] ≡ []
    rest e = cc
last_token (x ∷ a) (x' ∷ b) y z e = last_token a b y z (rest e)
  where
    rest : x ∷ (a ++ y ∷ []) ≡ x' ∷ (b ++ z ∷ []) → a ++ y ∷ [] ≡ b ++ z ∷ []
    rest e = cc

-- where the last token is no number, none goes on
pub other_ends : (ts : List Token) (y : Token) (r : List ℕ) → ((l : List ℕ) → y ≢ num_token l) → LastEnds done (ts ++ y ∷ []) r
other_ends ts y r n e l a f = absurd (n l (last_token ts a y (num_token l) f))

pub number_last : (ts : List Token) (l r : List ℕ) → EndsNumber l r → LastEnds done (ts ++ num_token l ∷ []) r
number_last ts l r h e l' a f = subst (λ o. EndsNumber o r) (same l l' (last_token ts a (num_token l) (num_token l') f)) h
  where
    same : (l l' : List ℕ) → num_token l ≡ num_token l' → l ≡ l'
    same l l' e = cc

ends_head : (w : ExpectedPart) (ts : List Token) (y : ℕ) (m n : List ℕ) → LastEnds w ts (y ∷ m) → LastEnds w ts (y ∷ n)
ends_head w ts y m n h e l a f x i j g k = h e l a f x m j (ap (λ o. o ∷ m) (head g)) k

pub ends_space : (w : ExpectedPart) (ts : List Token) (z : List ℕ) (x : ℕ) (m n : List ℕ) → LastEnds w ts (z ++ x ∷ m) → LastEnds w ts (z ++ x ∷ n)
ends_space w ts [] x m n h = ends_head w ts x m n h
ends_space w ts (y ∷ z) x m n h = ends_head w ts y (z ++ x ∷ m) (z ++ x ∷ n) h

-- ---- whitespace

dec_space : (x : ℕ) → IsWhitespace x ⊎ ¬ (IsWhitespace x)
dec_space x = go (cases_eq x 32) (cases_eq x 9) (cases_eq x 10) (cases_eq x 13)
  where
    go : (x ≡ 32) ⊎ (x ≡ 32 → ⊥) → (x ≡ 9) ⊎ (x ≡ 9 → ⊥) → (x ≡ 10) ⊎ (x ≡ 10 → ⊥) → (x ≡ 13) ⊎ (x ≡ 13 → ⊥) → IsWhitespace x ⊎ ¬ (IsWhitespace x)
    go (inl a) b c d = inl (inl a)
    go (inr a) (inl b) c d = inl (inr (inl b))
    go (inr a) (inr b) (inl c) d = inl (inr (inr (inl c)))
    go (inr a) (inr b) (inr c) (inl d) = inl (inr (inr (inr d)))
    go (inr a) (inr b) (inr c) (inr d) = inr (λ h. elim h [ inl e ↦ a e | inr h ↦ elim h [ inl e ↦ b e | inr h ↦ elim h [ inl e ↦ c e | inr e ↦ d e ] ] ])

pub record Spaces (r : List ℕ) : Type 0 where
  pub z : List ℕ
  pub m : List ℕ
  pub bytes : r ≡ z ++ m
  pub is_space : ws z
  pub stops : (x : ℕ) (n : List ℕ) → m ≡ x ∷ n → ¬ (IsWhitespace x)
  pub utf8 : IsUtf8 m

space_ascii : (x : ℕ) → IsWhitespace x → x < 128
space_ascii x h = omega arith

pub spaces : (r : List ℕ) → IsUtf8 r → Spaces r
spaces [] u = record { z = []; m = []; bytes = refl; is_space = tt; stops = λ x n e. absurd (cons_nil x n (sym e)); utf8 = u }
spaces (x ∷ r) u = by (dec_space x) (λ v. spaces r v)
  where
    by : IsWhitespace x ⊎ ¬ (IsWhitespace x) → (IsUtf8 r → Spaces r) → Spaces (x ∷ r)
    by (inl h) f = let s = f (utf8_tail x r (space_ascii x h) u) in record { z = x ∷ s.z; m = s.m; bytes = ap (λ o. x ∷ o) s.bytes; is_space = (h, s.is_space); stops = s.stops; utf8 = s.utf8 }
    by (inr h) f = record { z = []; m = x ∷ r; bytes = refl; is_space = tt; stops = λ y n e. subst (λ o. ¬ (IsWhitespace o)) (head e) h; utf8 = u }

-- ---- literals

-- as far as two rows of bytes agree
pub data Matched (v m : List ℕ) : Type 0 where
  agrees : (k : List ℕ) → m ≡ v ++ k → Matched v m
  short_of : (z : List ℕ) → v ≡ m ++ z → z ≢ [] → Matched v m
  differs : (q z : List ℕ) (y : ℕ) (n : List ℕ) → m ≡ q ++ y ∷ n → v ≡ q ++ z → z ≢ [] → ((k : List ℕ) → z ≡ y ∷ k → ⊥) → Matched v m

pub matched : (v m : List ℕ) → Matched v m
matched [] m = agrees m refl
matched (x ∷ v) [] = short_of (x ∷ v) refl (λ e. cons_nil x v e)
matched (x ∷ v) (y ∷ m) = by (cases_eq x y) (matched v m)
  where
    by : (x ≡ y) ⊎ (x ≡ y → ⊥) → Matched v m → Matched (x ∷ v) (y ∷ m)
    by (inr n) f = differs [] (x ∷ v) y m refl refl (λ e. cons_nil x v e) (λ k e. n (head e))
    by (inl e) (agrees k f) = agrees k (ap (λ o. y ∷ o) f ∙ ap (λ o. o ∷ (v ++ k)) (sym e))
    by (inl e) (short_of z f n) = short_of z (ap (λ o. o ∷ v) e ∙ ap (λ o. y ∷ o) f) n
    by (inl e) (differs q z y' n f g h i) = differs (y ∷ q) z y' n (ap (λ o. y ∷ o) f) (ap (λ o. o ∷ v) e ∙ ap (λ o. y ∷ o) g) h i

pub dec_digit : (x : ℕ) → IsDigit x ⊎ ¬ (IsDigit x)
dec_digit x = go (cases_lt x 48) (cases_lt x 58)
  where
    go : (x < 48) ⊎ (48 ≤ x) → (x < 58) ⊎ (58 ≤ x) → IsDigit x ⊎ ¬ (IsDigit x)
    go (inl a) b = inr (λ h. absurd (omega arith))
    go (inr a) (inl b) = inl (a, omega arith)
    go (inr a) (inr b) = inr (λ h. absurd (omega arith))

pub AllAscii : List ℕ → Type 0
AllAscii [] = Unit {0}
AllAscii (x ∷ b) = (x < 128) × AllAscii b

pub number_ascii : (b : List ℕ) → AreInNumber b → AllAscii b
unfolding AllAscii
number_ascii [] h = tt
number_ascii (x ∷ b) h = (by h.0, number_ascii b h.1)
  where
    by : InNumber x → x < 128
    by i = omega arith

pub utf8_past : (l r : List ℕ) → AllAscii l → IsUtf8 (l ++ r) → IsUtf8 r
unfolding AllAscii
utf8_past [] r h u = u
utf8_past (x ∷ l) r h u = utf8_past l r h.1 (utf8_tail x (l ++ r) h.0 u)

pub null_ascii : AllAscii null_bytes
unfolding AllAscii
null_ascii = (omega arith, (omega arith, (omega arith, (omega arith, tt))))

pub boolean_ascii : (v : Bool) → AllAscii (boolean_bytes v)
unfolding AllAscii
boolean_ascii true = (omega arith, (omega arith, (omega arith, (omega arith, tt))))
boolean_ascii false = (omega arith, (omega arith, (omega arith, (omega arith, (omega arith, tt)))))
