-- Painted texts, one after another.
use Rattle.std.proofs.Common.{◌≡◌, ℕ, ◌+◌, ◌<◌, ◌==◌, true, false, not, ◌&&◌, List, [], ◌∷◌, ◌++◌, length, take, get_or, sym, ap, subst, ◌∙◌, append_assoc, append-nil, add-one}
use Rattle.std.proofs.Math.Seq.{take-suc, take-length}
use Rattle.std.proofs.lemmas.Bool.{and_parts, or_parts, cond-true, false≢true, eqb-true}
use Rattle.std.proofs.lemmas.List.Folds.{list_any-append}
use Rattle.mezdruk_files.specs.Colors.{has_escape, ends_at_m, is_sequence, unpainted_rest, unpainted, AppendsPainted}

-- ---- one escape sequence

m_passed : (w rest : List ℕ) → ends_at_m w ≡ true → unpainted_rest true (w ++ rest) ≡ unpainted rest
m_passed [] rest h = absurd (false≢true h)
m_passed (x ∷ []) rest h = ap (λ b. unpainted_rest (not b) rest) h
m_passed (x ∷ y ∷ w) rest h =
    let parts = and_parts (not (x == 109)) (ends_at_m (y ∷ w)) h in
    ap (λ b. unpainted_rest b (y ∷ w ++ rest)) parts.0 ∙ m_passed (y ∷ w) rest parts.1

bracket_passed : (y : ℕ) (w : List ℕ) → (y == 91) ≡ true → unpainted_rest true (y ∷ w) ≡ unpainted_rest true w
bracket_passed y w h = ap (λ n. unpainted_rest (not (n == 109)) w) (eqb-true y 91 h)

sequence_passed : (s rest : List ℕ) → is_sequence s ≡ true → unpainted (s ++ rest) ≡ unpainted rest
sequence_passed [] rest h = absurd (false≢true h)
sequence_passed (x ∷ []) rest h = absurd (false≢true h)
sequence_passed (x ∷ y ∷ w) rest h =
    let parts = and_parts (x == 27) (y == 91 && ends_at_m w) h in
    let more = and_parts (y == 91) (ends_at_m w) parts.1 in
    cond-true (x == 27) (unpainted_rest true (y ∷ w ++ rest)) (x ∷ unpainted_rest false (y ∷ w ++ rest)) parts.0
    ∙ bracket_passed y (w ++ rest) more.0
    ∙ m_passed w rest more.1

-- ---- what was appended

pub AppendsPainted-sequence : (s old new : List ℕ) → is_sequence s ≡ true → new ≡ old ++ s → AppendsPainted [] old new
AppendsPainted-sequence s old new h e = record { text = s; appended = e; shown = λ rest _. sequence_passed s rest h }

pub AppendsPainted-then : (a b x y z : List ℕ) → AppendsPainted a x y → AppendsPainted b y z → AppendsPainted (a ++ b) x z
AppendsPainted-then a b x y z g h = record {
  text = g.text ++ h.text;
  appended = h.appended ∙ ap (λ w. w ++ h.text) g.appended ∙ append_assoc x g.text h.text;
  shown = λ rest none.
      let parts = or_parts (has_escape a) (has_escape b) (sym (list_any-append (λ x. x == 27) a b) ∙ none) in
      ap unpainted (append_assoc g.text h.text rest)
      ∙ g.shown (h.text ++ rest) parts.0
      ∙ ap (λ w. a ++ w) (h.shown rest parts.1)
      ∙ sym (append_assoc a b (unpainted rest));
}

-- one more byte of a list
pub AppendsPainted-next : (bytes : List ℕ) (i : ℕ) (v x y z : List ℕ) → i < length bytes → AppendsPainted (take i bytes) v x → AppendsPainted [] x y → AppendsPainted (get_or bytes i 0 ∷ []) y z → AppendsPainted (take (i + 1) bytes) v z
AppendsPainted-next bytes i v x y z l g h k =
    rw (add-one, take-suc bytes i 0) (AppendsPainted-then (take i bytes) (get_or bytes i 0 ∷ []) v x z g (AppendsPainted-then [] (get_or bytes i 0 ∷ []) x y z h k))

-- the end of a list
pub AppendsPainted-all : (bytes : List ℕ) (i : ℕ) (x y z : List ℕ) → length bytes ≡ i → AppendsPainted (take i bytes) x y → AppendsPainted [] y z → AppendsPainted bytes x z
AppendsPainted-all bytes i x y z e g h =
    let whole : take i bytes ++ [] ≡ bytes = append-nil (take i bytes) ∙ ap (λ n. take n bytes) (sym e) ∙ take-length bytes in
    subst (λ w. AppendsPainted w x z) whole (AppendsPainted-then (take i bytes) [] x y z g h)
