-- A repaired text piece by piece: a character, or a run that is none.
use Rattle.std.proofs.Common.{◌≡◌, ◌⊎◌, inl, inr, ℕ, zero, suc, ◌+◌, ◌-◌, ◌<◌, ◌≤◌, true, false, cond, nat_lt, List, [], ◌∷◌, ◌++◌, length, take, drop, slice_index, Option, Some, None, encode_utf8, encode_utf8_all, refl, sym, ◌∙◌, ap, subst, arith}
use Rattle.std.specs.Str.Lossy.{utf8_lossy}
use Rattle.std.proofs.lemmas.Bool.{cond-true, cond-false}
use Rattle.std.proofs.lemmas.Bool.Decides.{nat_tests}
use Rattle.std.proofs.lemmas.List.{take-append-drop, length-take-le, get_or-take}
use Rattle.bstr.specs.Utf8.{Decoded, decoded, good, bad, continues, second, or_replacement, lossy_chars}
use Rattle.bstr.proofs.lemmas.PieceLemmas.{pieces-step, lossy_chars-step, piece-bounds, by-shape}
use Rattle.bstr.proofs.lemmas.LossyLemmas.{lossy_chars-utf8_lossy}
use Rattle.bstr.proofs.lemmas.SoundLemmas.{SpellsChar-decoded}
use Rattle.bstr.proofs.lemmas.UnicodeLemmas.{replacement_bytes}
use Rattle.json_text.specs.Repaired.{shown_size, origin_within, origin_in, origin_at}
use Rattle.json_stream.proofs.Lines.{InLine}

below : {A : Type 0} (a b : ℕ) (x y : A) → a < b → cond (nat_lt a b) x y ≡ x
below a b x y h = let e : nat_lt a b ≡ true = grind (arith, nat_tests) in cond-true _ _ _ e

above : {A : Type 0} (a b : ℕ) (x y : A) → b ≤ a → cond (nat_lt a b) x y ≡ y
above a b x y h = let e : nat_lt a b ≡ false = grind (arith, nat_tests) in cond-false _ _ _ e

-- ---- a run that is no character has few bytes, none of them ASCII

second_high : (b c : ℕ) → second b c ≡ true → 128 ≤ c
second_high b c e = grind (arith, nat_tests)

continues_high : (c : ℕ) → continues c ≡ true → 128 ≤ c
continues_high c e = grind (arith, nat_tests)

abbrev IsHigh : List ℕ → ℕ → Type 0
IsHigh b n = (n ≤ 3) × ((k : ℕ) → k < n → 128 ≤ slice_index b k)

high_bytes : (b : List ℕ) (n : ℕ) → (0 < n → 128 ≤ slice_index b 0) → (1 < n → 128 ≤ slice_index b 1) → (2 < n → 128 ≤ slice_index b 2) → n ≤ 3 → (k : ℕ) → k < n → 128 ≤ slice_index b k
high_bytes b n f g h l zero m = f (omega arith)
high_bytes b n f g h l (suc zero) m = g (omega arith)
high_bytes b n f g h l (suc (suc zero)) m = h (omega arith)
high_bytes b n f g h l (suc (suc (suc k))) m = absurd (omega arith)

is_bad : (b : List ℕ) (d : Decoded) (n : ℕ) → d ≡ bad n → n ≤ 3 → (0 < n → 128 ≤ slice_index b 0) → (1 < n → 128 ≤ slice_index b 1) → (2 < n → 128 ≤ slice_index b 2) → IsHigh b d.size
is_bad b d n e l f g h = subst (λ (x : Decoded). IsHigh b x.size) (sym e) (l, high_bytes b n f g h l)

is_good : (b : List ℕ) (d : Decoded) (c n : ℕ) → d ≡ good c n → d.char ≡ None → IsHigh b d.size
is_good b d c n e h = let f : Some c ≡ None = sym (ap (λ (x : Decoded). x.char) e) ∙ h in absurd (cc)

run_high : (b : List ℕ) → (decoded b).char ≡ None → IsHigh b (decoded b).size
run_high b none =
    let d = decoded b in
    by-shape (length b) (slice_index b 0) (slice_index b 1) (slice_index b 2) (slice_index b 3)
    (λ h. is_bad b d 0 h.1 (omega arith) (λ m. absurd (omega arith)) (λ m. absurd (omega arith)) (λ m. absurd (omega arith)))
    (λ h. is_good b d _ 1 h.2 none)
    (λ h. is_bad b d 1 h.3 (omega arith) (λ m. h.1) (λ m. absurd (omega arith)) (λ m. absurd (omega arith)))
    (λ h. is_bad b d 1 h.2 (omega arith) (λ m. omega arith) (λ m. absurd (omega arith)) (λ m. absurd (omega arith)))
    (λ h. is_bad b d 1 h.4 (omega arith) (λ m. omega arith) (λ m. absurd (omega arith)) (λ m. absurd (omega arith)))
    (λ h. is_bad b d 1 h.4 (omega arith) (λ m. omega arith) (λ m. absurd (omega arith)) (λ m. absurd (omega arith)))
    (λ h. is_good b d _ 2 h.4 none)
    (λ h. is_bad b d 2 h.5 (omega arith) (λ m. omega arith) (λ m. second_high (slice_index b 0) (slice_index b 1) h.3) (λ m. absurd (omega arith)))
    (λ h. is_bad b d 2 h.5 (omega arith) (λ m. omega arith) (λ m. second_high (slice_index b 0) (slice_index b 1) h.3) (λ m. absurd (omega arith)))
    (λ h. is_good b d _ 3 h.5 none)
    (λ h. is_bad b d 3 h.6 (omega arith) (λ m. omega arith) (λ m. second_high (slice_index b 0) (slice_index b 1) h.3) (λ m. continues_high (slice_index b 2) h.4))
    (λ h. is_bad b d 3 h.6 (omega arith) (λ m. omega arith) (λ m. second_high (slice_index b 0) (slice_index b 1) h.3) (λ m. continues_high (slice_index b 2) h.4))
    (λ h. is_good b d _ 4 h.6 none)

-- ---- steps

-- a character is copied
abbrev pub IsCopied : List ℕ → List ℕ → List ℕ → Type 0
IsCopied b piece shown = (shown ≡ piece) × ((k : ℕ) → k < length piece → origin_at b k ≡ k)

-- a run becomes U+FFFD
abbrev pub IsReplaced : List ℕ → List ℕ → List ℕ → Type 0
IsReplaced b piece shown = (length shown ≡ 3) × (length piece ≤ 3) × InLine shown × InLine piece × ((k : ℕ) → k < 3 → origin_at b k ≡ 0)

-- the first piece, and what is shown of it
pub record Step (b : List ℕ) : Type 0 where
  pub piece : List ℕ
  pub shown : List ℕ
  pub rest : List ℕ
  pub bytes : b ≡ piece ++ rest
  pub some : 0 < length piece
  pub text : utf8_lossy b ≡ shown ++ utf8_lossy rest
  pub kind : IsCopied b piece shown ⊎ IsReplaced b piece shown
  pub later : (k : ℕ) → length shown ≤ k → origin_at b k ≡ length piece + origin_at rest (k - length shown)

origin_step : (o : Option ℕ) (b : List ℕ) (k : ℕ) → 0 < length b → (decoded b).char ≡ o
    → origin_at b k ≡ (let n = shown_size o (decoded b).size in cond (nat_lt k n) (origin_within o k) ((decoded b).size + origin_at (drop (decoded b).size b) (k - n)))
origin_step o b k some e =
    let s = (decoded b).size in
    ap (λ ps. origin_in ps k) (pieces-step b some)
    ∙ ap (λ (c : Option ℕ). let n = shown_size c s in cond (nat_lt k n) (origin_within c k) (s + origin_at (drop s b) (k - n))) e

text_step : (o : Option ℕ) (b : List ℕ) → 0 < length b → (decoded b).char ≡ o → utf8_lossy b ≡ encode_utf8 (or_replacement o) ++ utf8_lossy (drop (decoded b).size b)
text_step o b some e =
    let r = drop (decoded b).size b in
    sym (lossy_chars-utf8_lossy b) ∙ ap encode_utf8_all (lossy_chars-step b some ∙ ap (λ c. or_replacement c ∷ lossy_chars r) e)
    ∙ ap (λ x. encode_utf8 (or_replacement o) ++ x) (lossy_chars-utf8_lossy r)

replacement_in_line : InLine (0xEF ∷ 0xBF ∷ 0xBD ∷ [])
replacement_in_line zero h = λ e. absurd (cc)
replacement_in_line (suc zero) h = λ e. absurd (cc)
replacement_in_line (suc (suc zero)) h = λ e. absurd (cc)
replacement_in_line (suc (suc (suc k))) h = absurd (omega arith)

pub step : (b : List ℕ) → 0 < length b → Step b
step b some = by (decoded b).char refl
  where
    by : (o : Option ℕ) → (decoded b).char ≡ o → Step b
    by None e =
        let high = run_high b e in
        let bounds = piece-bounds b some in
        let long : length (take (decoded b).size b) ≡ (decoded b).size = length-take-le (decoded b).size b bounds.2 in
        record {
          piece = take (decoded b).size b;
          shown = 0xEF ∷ 0xBF ∷ 0xBD ∷ [];
          rest = drop (decoded b).size b;
          bytes = sym (take-append-drop (decoded b).size b);
          some = omega arith;
          text = text_step None b some e ∙ ap (λ x. x ++ utf8_lossy (drop (decoded b).size b)) replacement_bytes;
          kind = inr (
            refl,
            omega arith,
            replacement_in_line,
            λ k h f. let g = get_or-take (decoded b).size b k 0 (omega arith) in let m = high.1 k (omega arith) in absurd (omega arith),
            λ k h. origin_step None b k some e ∙ below k 3 _ _ h,
          );
          later = λ k h. origin_step None b k some e ∙ above k 3 _ _ h ∙ ap (λ n. n + origin_at (drop (decoded b).size b) (k - 3)) (sym long);
        }
    by (Some c) e =
        let spells = SpellsChar-decoded b c e in
        let bounds = piece-bounds b some in
        let w = spells.width in
        record {
          piece = encode_utf8 c;
          shown = encode_utf8 c;
          rest = drop (decoded b).size b;
          bytes = spells.bytes;
          some = omega arith;
          text = text_step (Some c) b some e;
          kind = inl (refl, λ k h. origin_step (Some c) b k some e ∙ below k (decoded b).size _ _ (omega arith));
          later = λ k h. origin_step (Some c) b k some e ∙ above k (decoded b).size _ _ (omega arith) ∙ ap (λ n. n + origin_at (drop (decoded b).size b) (k - n)) (sym w);
        }
