-- Strings stored into memory block by block.
use Rattle.std.proofs.Common.{◌≡◌, ℕ, ◌+◌, ◌-◌, ◌<◌, ◌≤◌, List, ◌++◌, length, take, drop, get_or, sym, ap, ◌∙◌, arith, append_assoc, length-append}
use Rattle.std.proofs.Math.Seq.{take-append-add}
use Rattle.std.proofs.lemmas.List.{take-take, length-take, length-drop, get_or-drop}
use Rattle.json_grammar.specs.Given.{piece}
use Rattle.json_model.specs.Print.{shown_byte, shown_bytes}
use Rattle.json_model.proofs.Printing.{shown_append}
use Rattle.json_io.proofs.Pieces.{piece_append}
use Rattle.json_scan.specs.Runs.{plain}
use Rattle.json_layout.proofs.Escapes.{byte_shown, plain_all}

same_end : (i n : ℕ) → i + n - i ≡ n
same_end i n = omega arith

-- a plain block
pub block_shown : (o r b : List ℕ) (i n : ℕ) → r ≡ o ++ take n (drop i b) → plain (take n (drop i b)) → r ≡ o ++ shown_bytes (piece b i (i + n))
block_shown o r b i n h p = h ∙ ap (λ x. o ++ x) (sym (plain_all (take n (drop i b)) p) ∙ ap (λ k. shown_bytes (take k (drop i b))) (sym (same_end i n)))

-- the first k bytes of a block that is stored
front_stored : (room mid q : List ℕ) (e n k : ℕ) → take (e + n) mid ≡ take e room ++ q → e ≤ length room → k ≤ n → take (e + k) mid ≡ take e room ++ take k q
front_stored room mid q e n k h l m =
    let front : length (take e room) ≡ e = omega (arith, length-take e room) in
    let within : e + k ≤ e + n = omega (arith, m) in
    sym (take-take (e + k) (e + n) mid within) ∙ ap (take (e + k)) h ∙ ap (λ x. take (x + k) (take e room ++ q)) (sym front) ∙ take-append-add (take e room) q k

-- a plain prefix of a block, and the byte after it
pub escape_shown : (room mid new b : List ℕ) (e i k n : ℕ) → take (e + 16) mid ≡ take e room ++ take 16 (drop i b) → e ≤ length room → k ≤ 16 → i + k < length b → plain (take k (drop i b))
    → take (e + k + n) new ≡ take (e + k) mid ++ shown_byte (get_or b (i + k) 0) → take (e + k + n) new ≡ take e room ++ shown_bytes (piece b i (i + k + 1))
escape_shown room mid new b e i k n h l m r p s =
    let d = drop i b in let o = take e room in
    let within : k < length (drop i b) = omega (arith, r, length-drop i b) in
    let size : k + 1 ≡ i + k + 1 - i = omega arith in
    s ∙ ap (λ x. x ++ shown_byte (get_or b (i + k) 0)) (front_stored room mid (take 16 d) e 16 k h l m ∙ ap (λ x. o ++ x) (take-take k 16 d m ∙ sym (plain_all (take k d) p)))
    ∙ append_assoc o (shown_bytes (take k d)) (shown_byte (get_or b (i + k) 0)) ∙ ap (λ x. o ++ (shown_bytes (take k d) ++ shown_byte x)) (sym (get_or-drop i b k 0))
    ∙ ap (λ x. o ++ x) (byte_shown d k within) ∙ ap (λ x. o ++ shown_bytes (take x d)) size

-- a piece after a piece
pub shown_on : (b : List ℕ) (i j k : ℕ) → i ≤ j → j ≤ k → shown_bytes (piece b i j) ++ shown_bytes (piece b j k) ≡ shown_bytes (piece b i k)
shown_on b i j k l m = sym (shown_append (piece b i j) (piece b j k)) ∙ ap shown_bytes (sym (piece_append b i j k l m))

pub blocks_on : (o p q b : List ℕ) (i j k : ℕ) → i ≤ j → j ≤ k → p ≡ o ++ shown_bytes (piece b i j) → q ≡ p ++ shown_bytes (piece b j k) → q ≡ o ++ shown_bytes (piece b i k)
blocks_on o p q b i j k l m h s =
    s ∙ ap (λ x. x ++ shown_bytes (piece b j k)) h ∙ append_assoc o (shown_bytes (piece b i j)) (shown_bytes (piece b j k)) ∙ ap (λ x. o ++ x) (shown_on b i j k l m)

-- what is stored ends no earlier
pub stored_further : (old new x : List ℕ) (end now : ℕ) → end ≤ length old → take now new ≡ take end old ++ x → end ≤ now
stored_further old new x end now l h =
    let all : length (take now new) ≡ length (take end old) + length x = ap length h ∙ length-append (take end old) x in omega (arith, l, all, length-take now new, length-take end old)
