-- Indents one after another, and a line that is ready.
use Rattle.std.proofs.Common.{◌≡◌, ℕ, zero, suc, ◌+◌, ◌-◌, ◌*◌, ◌≤◌, true, false, Bool, List, [], ◌∷◌, ◌++◌, length, take, drop, refl, sym, ap, ap₂, ◌∙◌, subst, arith, append_assoc, Ok, Err, Result}
use Rattle.std.specs.Int.{from_bool}
use Rattle.std.specs.Prelude.{All}
use Rattle.std.proofs.Math.Nat.{mul-le-mul_right}
use Rattle.std.proofs.Math.Seq.{take-append_seam}
use Rattle.std.proofs.lemmas.List.{length-append}
use Rattle.json_model.specs.Print.{indents}
use Rattle.json_io.specs.declared.sink.SinkError.{SinkError}
use Rattle.json_io.specs.Outside.{SinkState}
use Rattle.json_layout.specs.Adding.{Adds}
use Rattle.json_layout.specs.Pieces.{comma}
use Rattle.json_layout.proofs.Pieces.{Adds-first, Adds-then}

-- ---- indents

pub indents-add : (m n : ℕ) (s : List ℕ) → indents (m + n) s ≡ indents m s ++ indents n s
indents-add zero n s = let e : 0 + n ≡ n = omega arith in ap (λ k. indents k s) e
indents-add (suc m) n s =
    let e : suc m + n ≡ suc (m + n) = omega arith in
    ap (λ k. indents k s) e ∙ ap (λ l. s ++ l) (indents-add m n s) ∙ sym (append_assoc s (indents m s) (indents n s))

length-indents : (n : ℕ) (s : List ℕ) → length (indents n s) ≡ n * length s
length-indents zero s = omega arith
length-indents (suc n) s = omega (arith, length-append s (indents n s), length-indents n s)

-- m indents, each n of a smaller one
indents-times : (m n : ℕ) (s : List ℕ) → indents m (indents n s) ≡ indents (m * n) s
indents-times zero n s = let e : 0 ≡ 0 * n = omega arith in ap (λ k. indents k s) e
indents-times (suc m) n s =
    let e : n + m * n ≡ suc m * n = omega arith in
    ap (λ l. indents n s ++ l) (indents-times m n s) ∙ sym (indents-add n (m * n) s) ∙ ap (λ k. indents k s) e

indents_split : (m n : ℕ) (s : List ℕ) → m ≤ n → indents m s ++ indents (n - m) s ≡ indents n s
indents_split m n s h = let e : m + (n - m) ≡ n = omega (arith, h) in sym (indents-add m (n - m) s) ∙ ap (λ k. indents k s) e

-- fewer are a front of more
take-indents : (m n : ℕ) (s : List ℕ) → m ≤ n → take (m * length s) (indents n s) ≡ indents m s
take-indents m n s h =
    ap (take (m * length s)) (sym (indents_split m n s h))
    ∙ ap (λ k. take k (indents m s ++ indents (n - m) s)) (sym (length-indents m s))
    ∙ take-append_seam (indents m s) (indents (n - m) s)

-- ---- spaces

spaces : (s : List ℕ) → All (λ x. x ≡ 32) s → s ≡ indents (length s) (32 ∷ [])
spaces [] h = refl
spaces (x ∷ s) h = ap₂ (λ y l. y ∷ l) (h 0 0 (omega arith)) (spaces s (λ k d l. h (suc k) d (omega arith)))

pub indents_spaces : (n : ℕ) (s : List ℕ) → All (λ x. x ≡ 32) s → indents n s ≡ indents (n * length s) (32 ∷ [])
indents_spaces n s h = ap (indents n) (spaces s h) ∙ indents-times n (length s) (32 ∷ [])

spaces_front : (m n : ℕ) → m ≤ n → take m (indents n (32 ∷ [])) ≡ indents m (32 ∷ [])
spaces_front m n h = let e : m ≡ m * 1 = omega arith in ap (λ k. take k (indents n (32 ∷ []))) e ∙ take-indents m n (32 ∷ []) h

-- ---- a line that begins with a comma and a new line and goes on with n spaces

pub fewer_fit : (m n w top : ℕ) → m ≤ n → n * w ≤ top → m * w ≤ top
fewer_fit m n w top h f = omega (arith, f, mul-le-mul_right w h)

-- m indents in the spaces of the line
pub spaces_read : (m n top : ℕ) (s : List ℕ) → m ≤ n → n * length s ≤ top → indents n s ≡ indents (n * length s) (32 ∷ []) → take (m * length s) (indents top (32 ∷ [])) ≡ indents m s
spaces_read m n top s h f e =
    spaces_front (m * length s) top (fewer_fit m n (length s) top h f)
    ∙ sym (spaces_front (m * length s) (n * length s) (mul-le-mul_right (length s) h))
    ∙ ap (take (m * length s)) (sym e)
    ∙ take-indents m n s h

pub break_read : (first : Bool) (m n top : ℕ) (s : List ℕ) → m ≤ n → n * length s ≤ top → indents n s ≡ indents (n * length s) (32 ∷ [])
    → take (2 + m * length s - from_bool first) (drop (from_bool first) (44 ∷ 10 ∷ indents top (32 ∷ []))) ≡ comma first ++ (10 ∷ indents m s)
break_read true m n top s h f e =
    let t : 2 + m * length s - 1 ≡ suc (m * length s) = omega arith in
    ap (λ k. take k (10 ∷ indents top (32 ∷ []))) t ∙ ap (λ r. 10 ∷ r) (spaces_read m n top s h f e)
break_read false m n top s h f e =
    let t : 2 + m * length s - 0 ≡ suc (suc (m * length s)) = omega arith in
    ap (λ k. take k (44 ∷ 10 ∷ indents top (32 ∷ []))) t ∙ ap (λ r. 44 ∷ 10 ∷ r) (spaces_read m n top s h f e)

-- ---- what a sink has

-- a line from its front on
pub break_put : (a b : SinkState) (first : Bool) (start m n top : ℕ) (s : List ℕ) (r : Result (Unit {0}) SinkError) → start ≡ from_bool first → m ≤ n → n * length s ≤ top → indents n s ≡ indents (n * length s) (32 ∷ [])
    → Adds a b (take (2 + m * length s - start) (drop start (44 ∷ 10 ∷ indents top (32 ∷ [])))) r → Adds a b (comma first ++ (10 ∷ indents m s)) r
break_put a b first start m n top s r z h f e p =
    subst (λ l. Adds a b l r) (ap (λ k. take (2 + m * length s - k) (drop k (44 ∷ 10 ∷ indents top (32 ∷ [])))) z ∙ break_read first m n top s h f e) p

-- the front alone
pub opening_put : (a b : SinkState) (first : Bool) (start top : ℕ) (r : Result (Unit {0}) SinkError) → start ≡ from_bool first → Adds a b (take (2 - start) (drop start (44 ∷ 10 ∷ indents top (32 ∷ [])))) r → Adds a b (comma first ++ 10 ∷ []) r
opening_put a b true start top r z p = subst (λ k. Adds a b (take (2 - k) (drop k (44 ∷ 10 ∷ indents top (32 ∷ [])))) r) z p
opening_put a b false start top r z p = subst (λ k. Adds a b (take (2 - k) (drop k (44 ∷ 10 ∷ indents top (32 ∷ [])))) r) z p

-- the indents after it
pub opening_then : (a b c : SinkState) (first : Bool) (l : List ℕ) (u : Unit {0}) (r : Result (Unit {0}) SinkError) → Adds a b (comma first ++ 10 ∷ []) (Ok u) → Adds b c l r → Adds a c (comma first ++ (10 ∷ l)) r
opening_then a b c first l u r p q = subst (λ k. Adds a c k r) (append_assoc (comma first) (10 ∷ []) l) (Adds-then a b c _ _ u r p q)

pub opening_failed : (a b : SinkState) (first : Bool) (l : List ℕ) (e : SinkError) → Adds a b (comma first ++ 10 ∷ []) (Err e) → Adds a b (comma first ++ (10 ∷ l)) (Err e)
opening_failed a b first l e p = subst (λ k. Adds a b k (Err e)) (append_assoc (comma first) (10 ∷ []) l) (Adds-first a b _ l e p)

-- m indents of the line, without its prefix
pub piece_read : (m n top : ℕ) (s : List ℕ) → m ≤ n → n * length s ≤ top → indents n s ≡ indents (n * length s) (32 ∷ []) → take (2 + m * length s - 2) (indents top (32 ∷ [])) ≡ indents m s
piece_read m n top s h f e =
    let t : 2 + m * length s - 2 ≡ m * length s = omega arith in
    ap (λ k. take k (indents top (32 ∷ []))) t ∙ spaces_read m n top s h f e

-- more indents
pub indents_put : (a b c : SinkState) (left count level : ℕ) (s piece : List ℕ) (r : Result (Unit {0}) SinkError) → left ≤ level → count ≤ left → piece ≡ indents count s → Adds a b (indents (level - left) s) (Ok tt) → Adds b c piece r
    → Adds a c (indents (level - (left - count)) s) r
indents_put a b c left count level s piece r h k w p q =
    let e : level - left + count ≡ level - (left - count) = omega arith in
    subst (λ n. Adds a c (indents n s) r) e (subst (λ l. Adds a c l r) (sym (indents-add (level - left) count s)) (Adds-then a b c _ _ tt r p (subst (λ l. Adds b c l r) w q)))

pub indents_failed : (a b c : SinkState) (left count level : ℕ) (s piece : List ℕ) (e : SinkError) → left ≤ level → count ≤ left → piece ≡ indents count s → Adds a b (indents (level - left) s) (Ok tt) → Adds b c piece (Err e)
    → Adds a c (indents level s) (Err e)
indents_failed a b c left count level s piece e h k w p q =
    subst (λ l. Adds a c l (Err e)) (indents_split (level - (left - count)) level s (omega arith)) (Adds-first a c _ _ e (indents_put a b c left count level s piece (Err e) h k w p q))
