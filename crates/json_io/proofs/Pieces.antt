-- Pieces of an input in a row.
use Rattle.std.proofs.Common.{◌≡◌, ℕ, suc, ◌+◌, ◌-◌, ◌<◌, ◌≤◌, List, [], ◌∷◌, ◌++◌, length, get_or, take, drop, refl, sym, ap, ap₂, ◌∙◌, arith, drop-cons, append_assoc}
use Rattle.std.proofs.lemmas.List.{drop-drop, take-append-drop, take-take}
use Rattle.std.proofs.Math.Seq.{take-add, take-append-add, take-length}
use Rattle.std.specs.Prelude.{slice_range}

pub piece_none : (b : List ℕ) (i : ℕ) → slice_range b i i ≡ []
piece_none b i = let e : i - i ≡ 0 = omega arith in ap (λ n. take n (drop i b)) e

pub piece_append : (b : List ℕ) (i j k : ℕ) → i ≤ j → j ≤ k → slice_range b i k ≡ slice_range b i j ++ slice_range b j k
piece_append b i j k h l =
    let e : k - i ≡ (j - i) + (k - j) = omega arith in
    let f : i + (j - i) ≡ j = omega arith in
    ap (λ n. take n (drop i b)) e ∙ take-add (j - i) (k - j) (drop i b) ∙ ap (λ u. slice_range b i j ++ take (k - j) u) (drop-drop (j - i) i b ∙ ap (λ n. drop n b) f)

pub piece_cons : (b : List ℕ) (i j : ℕ) → i < j → i < length b → slice_range b i j ≡ get_or b i 0 ∷ slice_range b (i + 1) j
piece_cons b i j h l =
    let n : j - i ≡ suc (j - (i + 1)) = omega arith in
    let m : suc i ≡ i + 1 = omega arith in
    ap₂ (λ x y. take x y) n (drop-cons b i 0 l) ∙ ap (λ y. get_or b i 0 ∷ take (j - (i + 1)) (drop y b)) m

pub piece_single : (b : List ℕ) (i x : ℕ) → i < length b → get_or b i 0 ≡ x → slice_range b i (i + 1) ≡ x ∷ []
piece_single b i x l e = piece_cons b i (i + 1) (omega arith) l ∙ ap₂ (λ y z. y ∷ z) e (piece_none b (i + 1))

-- what is left from i on is a piece and what is left after it
pub drop_piece : (b : List ℕ) (i j : ℕ) → i ≤ j → drop i b ≡ slice_range b i j ++ drop j b
drop_piece b i j h =
    let f : i + (j - i) ≡ j = omega arith in
    sym (take-append-drop (j - i) (drop i b)) ∙ ap (λ u. slice_range b i j ++ u) (drop-drop (j - i) i b ∙ ap (λ n. drop n b) f)

pub drop_byte : (b : List ℕ) (j : ℕ) → j < length b → drop j b ≡ get_or b j 0 ∷ drop (suc j) b
drop_byte b j h = drop-cons b j 0 h

piece_next : (b : List ℕ) (i j k : ℕ) → k ≡ i + 1 → i < j → i < length b → slice_range b i j ≡ get_or b i 0 ∷ slice_range b k j
piece_next b i j k e h l = piece_cons b i j h l ∙ ap (λ n. get_or b i 0 ∷ slice_range b n j) (sym e)

-- eight bytes of an input
pub piece_eight : (b : List ℕ) (i : ℕ) → i + 8 ≤ length b
    → slice_range b i (i + 8) ≡ get_or b i 0 ∷ get_or b (i + 1) 0 ∷ get_or b (i + 2) 0 ∷ get_or b (i + 3) 0 ∷ get_or b (i + 4) 0 ∷ get_or b (i + 5) 0 ∷ get_or b (i + 6) 0 ∷ get_or b (i + 7) 0 ∷ []
piece_eight b i l =
    let a : slice_range b i (i + 8) ≡ get_or b i 0 ∷ slice_range b (i + 1) (i + 8) = piece_next b i (i + 8) (i + 1) (omega arith) (omega arith) (omega arith) in
    let c : slice_range b (i + 1) (i + 8) ≡ get_or b (i + 1) 0 ∷ slice_range b (i + 2) (i + 8) = piece_next b (i + 1) (i + 8) (i + 2) (omega arith) (omega arith) (omega arith) in
    let d : slice_range b (i + 2) (i + 8) ≡ get_or b (i + 2) 0 ∷ slice_range b (i + 3) (i + 8) = piece_next b (i + 2) (i + 8) (i + 3) (omega arith) (omega arith) (omega arith) in
    let e : slice_range b (i + 3) (i + 8) ≡ get_or b (i + 3) 0 ∷ slice_range b (i + 4) (i + 8) = piece_next b (i + 3) (i + 8) (i + 4) (omega arith) (omega arith) (omega arith) in
    let f : slice_range b (i + 4) (i + 8) ≡ get_or b (i + 4) 0 ∷ slice_range b (i + 5) (i + 8) = piece_next b (i + 4) (i + 8) (i + 5) (omega arith) (omega arith) (omega arith) in
    let g : slice_range b (i + 5) (i + 8) ≡ get_or b (i + 5) 0 ∷ slice_range b (i + 6) (i + 8) = piece_next b (i + 5) (i + 8) (i + 6) (omega arith) (omega arith) (omega arith) in
    let h : slice_range b (i + 6) (i + 8) ≡ get_or b (i + 6) 0 ∷ slice_range b (i + 7) (i + 8) = piece_next b (i + 6) (i + 8) (i + 7) (omega arith) (omega arith) (omega arith) in
    let k : slice_range b (i + 7) (i + 8) ≡ get_or b (i + 7) 0 ∷ slice_range b (i + 8) (i + 8) = piece_next b (i + 7) (i + 8) (i + 8) (omega arith) (omega arith) (omega arith) in
    let z : slice_range b (i + 8) (i + 8) ≡ [] = piece_none b (i + 8) in
    rw (a, c, d, e, f, g, h, k, z) refl

-- what is taken of an input goes on by a piece
pub take_piece : (b : List ℕ) (i j : ℕ) → i ≤ j → take i b ++ slice_range b i j ≡ take j b
take_piece b i j l =
    let x : i - 0 ≡ i = omega arith in
    let y : j - 0 ≡ j = omega arith in
    ap (λ n. take n b ++ slice_range b i j) (sym x) ∙ sym (piece_append b 0 i j (omega arith) l) ∙ ap (λ n. take n b) y

-- eight bytes appended one after another
pub eight_on : (o p q r s t u v w : List ℕ) (c d e f g h k l : ℕ) → p ≡ o ++ c ∷ [] → q ≡ p ++ d ∷ [] → r ≡ q ++ e ∷ [] → s ≡ r ++ f ∷ []
    → t ≡ s ++ g ∷ [] → u ≡ t ++ h ∷ [] → v ≡ u ++ k ∷ [] → w ≡ v ++ l ∷ [] → w ≡ o ++ c ∷ d ∷ e ∷ f ∷ g ∷ h ∷ k ∷ l ∷ []
eight_on o p q r s t u v w c d e f g h k l p1 p2 p3 p4 p5 p6 p7 p8 = rw (p8, p7, p6, p5, p4, p3, p2, p1) (simp append_assoc)

-- what was appended goes on by a piece, and by the rest
pub appended : (o p q b : List ℕ) (i j : ℕ) → i ≤ j → p ≡ o ++ take i b → q ≡ p ++ slice_range b i j → q ≡ o ++ take j b
appended o p q b i j l h k = k ∙ ap (λ x. x ++ slice_range b i j) h ∙ append_assoc o (take i b) (slice_range b i j) ∙ ap (λ x. o ++ x) (take_piece b i j l)

pub appended_rest : (o p q b : List ℕ) (i : ℕ) → i ≤ length b → p ≡ o ++ take i b → q ≡ p ++ slice_range b i (length b) → q ≡ o ++ b
appended_rest o p q b i l h k = appended o p q b i (length b) l h k ∙ ap (λ x. o ++ x) (take-length b)

-- four bytes of an input
pub piece_four : (b : List ℕ) (i : ℕ) → i + 4 ≤ length b → slice_range b i (i + 4) ≡ get_or b i 0 ∷ get_or b (i + 1) 0 ∷ get_or b (i + 2) 0 ∷ get_or b (i + 3) 0 ∷ []
piece_four b i l =
    let a : slice_range b i (i + 4) ≡ get_or b i 0 ∷ slice_range b (i + 1) (i + 4) = piece_next b i (i + 4) (i + 1) (omega arith) (omega arith) (omega arith) in
    let c : slice_range b (i + 1) (i + 4) ≡ get_or b (i + 1) 0 ∷ slice_range b (i + 2) (i + 4) = piece_next b (i + 1) (i + 4) (i + 2) (omega arith) (omega arith) (omega arith) in
    let d : slice_range b (i + 2) (i + 4) ≡ get_or b (i + 2) 0 ∷ slice_range b (i + 3) (i + 4) = piece_next b (i + 2) (i + 4) (i + 3) (omega arith) (omega arith) (omega arith) in
    let e : slice_range b (i + 3) (i + 4) ≡ get_or b (i + 3) 0 ∷ slice_range b (i + 4) (i + 4) = piece_next b (i + 3) (i + 4) (i + 4) (omega arith) (omega arith) (omega arith) in
    let z : slice_range b (i + 4) (i + 4) ≡ [] = piece_none b (i + 4) in
    rw (a, c, d, e, z) refl

-- four bytes appended one after another
pub four_on : (o p q r s : List ℕ) (c d e f : ℕ) → p ≡ o ++ c ∷ [] → q ≡ p ++ d ∷ [] → r ≡ q ++ e ∷ [] → s ≡ r ++ f ∷ [] → s ≡ o ++ c ∷ d ∷ e ∷ f ∷ []
four_on o p q r s c d e f p1 p2 p3 p4 = rw (p4, p3, p2, p1) (simp append_assoc)

-- two pieces in a row appended
pub two_pieces : (o p q b : List ℕ) (i j k : ℕ) → i ≤ j → j ≤ k → p ≡ o ++ slice_range b i j → q ≡ p ++ slice_range b j k → q ≡ o ++ slice_range b i k
two_pieces o p q b i j k l m f g = g ∙ ap (λ x. x ++ slice_range b j k) f ∙ append_assoc o (slice_range b i j) (slice_range b j k) ∙ ap (λ x. o ++ x) (sym (piece_append b i j k l m))

-- an appended piece, cut after n bytes of it
pub cut_after : (o p r b : List ℕ) (i j n : ℕ) → i + n ≤ j → p ≡ o ++ slice_range b i j → r ≡ take (length o + n) p → r ≡ o ++ slice_range b i (i + n)
cut_after o p r b i j n l f h =
    h ∙ ap (take (length o + n)) f ∙ take-append-add o (slice_range b i j) n
    ∙ ap (λ x. o ++ x) (take-take n (j - i) (drop i b) (omega arith) ∙ ap (λ x. take x (drop i b)) (omega arith))

-- a prefix appended, cut after n bytes of it, and appended up to the end from there
pub overlapped : (o p r s b : List ℕ) (w n : ℕ) → n ≤ w → n ≤ length b → p ≡ o ++ take w b → r ≡ take (length o + n) p → s ≡ r ++ slice_range b n (length b) → s ≡ o ++ b
overlapped o p r s b w n l m f h k = appended_rest o r s b n m (h ∙ ap (take (length o + n)) f ∙ take-append-add o (take w b) n ∙ ap (λ x. o ++ x) (take-take n w b l)) k

-- the same of a first piece
pub overlapped_first : (o p r s b : List ℕ) (w n : ℕ) → n ≤ w → n ≤ length b → p ≡ o ++ slice_range b 0 w → r ≡ take (length o + n) p → s ≡ r ++ slice_range b n (length b) → s ≡ o ++ b
overlapped_first o p r s b w n l m f h k = overlapped o p r s b w n l m (f ∙ ap (λ x. o ++ take x b) (omega arith)) h k
