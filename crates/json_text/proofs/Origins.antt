-- The places of a repaired text.
use Rattle.std.proofs.Common.{◌≡◌, ℕ, zero, suc, ◌+◌, ◌-◌, ◌<◌, ◌≤◌, true, false, cond, nat_lt, List, [], ◌∷◌, ◌++◌, length, drop, slice_index_or, Option, Some, None, encode_utf8, encode_utf8_all, IsUtf8, refl, sym, ap, subst, ◌∙◌, arith, ⊎_elim, append_assoc, append-nil, length-append, drop_at}
use Rattle.std.specs.Prelude.{nat_le}
use Rattle.std.specs.List.{AllWithin}
use Rattle.std.specs.List.Sorted.{IsNonDecreasingBy}
use Rattle.std.specs.Str.Lossy.{utf8_lossy}
use Rattle.std.proofs.lemmas.List.{get_or_append_left, nil_from_length}
use Rattle.std.specs.Str.{IsValidUpTo}
use Rattle.std.proofs.Math.Seq.{get_or-append_seam}
use Rattle.std.proofs.lemmas.Bool.{cases_lt, cond-true, cond-false, and_parts}
use Rattle.std.proofs.lemmas.Bool.Decides.{nat_tests}
use Rattle.bstr.specs.Utf8.{Decoded, decoded, good, or_replacement, lossy_chars}
use Rattle.bstr.proofs.lemmas.EncodeLemmas.{decoded-encode}
use Rattle.bstr.proofs.lemmas.PieceLemmas.{pieces-nil, pieces-step, lossy_chars-step, lossy_chars-nil}
use Rattle.bstr.proofs.lemmas.LossyLemmas.{lossy_chars-front, lossy_chars-utf8_lossy}
use Rattle.bstr.proofs.lemmas.UnicodeLemmas.{none_after_valid, replacement_bytes}
use Rattle.std.proofs.lemmas.Str.{length-encode, len_utf8_bounds}
use lib.Utf8.{scalars}
use Rattle.json_text.specs.declared.repaired.IllFormed.{IllFormed}
use Rattle.json_text.specs.Repaired.{shown_size, origin_within, origin_in, origin_at, later_or, last_shown, origin_after, origin_by}

below : {A : Type 0} (a b : ℕ) (x y : A) → a < b → cond (nat_lt a b) x y ≡ x
below a b x y h = let e : nat_lt a b ≡ true = grind (arith, nat_tests) in cond-true _ _ _ e

above : {A : Type 0} (a b : ℕ) (x y : A) → b ≤ a → cond (nat_lt a b) x y ≡ y
above a b x y h = let e : nat_lt a b ≡ false = grind (arith, nat_tests) in cond-false _ _ _ e

-- ---- by the pieces

some_bytes : (c : ℕ) → 0 < length (encode_utf8 c)
some_bytes c = let b = len_utf8_bounds c in omega (arith, length-encode c)

encoded_append : (xs ys : List ℕ) → encode_utf8_all (xs ++ ys) ≡ encode_utf8_all xs ++ encode_utf8_all ys
encoded_append [] ys = refl
encoded_append (x ∷ xs) ys = ap (λ t. encode_utf8 x ++ t) (encoded_append xs ys) ∙ sym (append_assoc (encode_utf8 x) (encode_utf8_all xs) (encode_utf8_all ys))

-- the text of well-formed bytes is copied
lossy_front : (v r : List ℕ) → IsUtf8 v → utf8_lossy (v ++ r) ≡ v ++ utf8_lossy r
lossy_front v r (cs, (all, e)) =
    sym (lossy_chars-utf8_lossy (v ++ r)) ∙ ap (λ x. encode_utf8_all (lossy_chars (x ++ r))) (sym e) ∙ ap encode_utf8_all (lossy_chars-front cs r all)
    ∙ encoded_append cs (lossy_chars r) ∙ ap (λ x. x ++ encode_utf8_all (lossy_chars r)) e ∙ ap (λ x. v ++ x) (lossy_chars-utf8_lossy r)

-- a run becomes U+FFFD
lossy_run : (b : List ℕ) → 0 < length b → (decoded b).char ≡ None → utf8_lossy b ≡ (0xEF ∷ 0xBF ∷ 0xBD ∷ []) ++ utf8_lossy (drop (decoded b).size b)
lossy_run b some none =
    let r = drop (decoded b).size b in
    sym (lossy_chars-utf8_lossy b) ∙ ap encode_utf8_all (lossy_chars-step b some ∙ ap (λ o. or_replacement o ∷ lossy_chars r) none)
    ∙ ap (λ x. x ++ encode_utf8_all (lossy_chars r)) replacement_bytes ∙ ap (λ x. (0xEF ∷ 0xBF ∷ 0xBD ∷ []) ++ x) (lossy_chars-utf8_lossy r)

origin_step : (o : Option ℕ) (b : List ℕ) (k : ℕ) → 0 < length b → (decoded b).char ≡ o
    → origin_at b k ≡ (let n = shown_size o (decoded b).size in cond (nat_lt k n) (origin_within o k) ((decoded b).size + origin_at (drop (decoded b).size b) (k - n)))
origin_step o b k some e =
    let s = (decoded b).size in
    ap (λ ps. origin_in ps k) (pieces-step b some)
    ∙ ap (λ (c : Option ℕ). let n = shown_size c s in cond (nat_lt k n) (origin_within c k) (s + origin_at (drop s b) (k - n))) e

-- the places of well-formed bytes are their own
origin_front : (cs r : List ℕ) → scalars cs ≡ true → (k : ℕ)
    → (k < length (encode_utf8_all cs) → origin_at (encode_utf8_all cs ++ r) k ≡ k)
    × (length (encode_utf8_all cs) ≤ k → origin_at (encode_utf8_all cs ++ r) k ≡ length (encode_utf8_all cs) + origin_at r (k - length (encode_utf8_all cs)))
origin_front [] r all k = (λ h. absurd (omega arith), λ h. let e : k - 0 ≡ k = omega arith in let f : 0 + origin_at r k ≡ origin_at r k = omega arith in sym (ap (λ n. 0 + origin_at r n) e ∙ f))
origin_front (c ∷ cs) r all k =
    let both = and_parts _ _ all in
    let first = encode_utf8 c in
    let n = length first in
    let more = encode_utf8_all cs in
    let later = more ++ r in
    let b = first ++ later in
    let some : 0 < length b = omega (arith, some_bytes c, length-append first later) in
    let read : decoded b ≡ good c n = decoded-encode c later both.0 in
    let size : (decoded b).size ≡ n = ap (λ (p : Decoded). p.size) read in
    let rest : drop (decoded b).size b ≡ later = drop_at first later _ (sym size) in
    let step : origin_at b k ≡ cond (nat_lt k n) k (n + origin_at later (k - n)) =
    origin_step (Some c) b k some (ap (λ (p : Decoded). p.char) read)
    ∙ ap (λ m. cond (nat_lt k m) k (m + origin_at (drop (decoded b).size b) (k - m))) size
    ∙ ap (λ t. cond (nat_lt k n) k (n + origin_at t (k - n))) rest in
    let same : origin_at ((first ++ more) ++ r) k ≡ origin_at b k = ap (λ t. origin_at t k) (append_assoc first more r) in
    let whole : length (first ++ more) ≡ n + length more = length-append first more in
    let ih = origin_front cs r both.1 (k - n) in (
      λ h. same ∙ step ∙ ⊎_elim (λ (l : k < n). below k n _ _ l)
          (λ (l : n ≤ k). above k n _ _ l ∙ (let e : origin_at later (k - n) ≡ k - n = ih.0 (omega arith) in omega arith))
          (cases_lt k n),
      λ h.
          let e : origin_at later (k - n) ≡ length more + origin_at r (k - n - length more) = ih.1 (omega arith) in
          let f : k - n - length more ≡ k - length (first ++ more) = omega arith in
          let g : origin_at r (k - n - length more) ≡ origin_at r (k - length (first ++ more)) = ap (origin_at r) f in
          same ∙ step ∙ above k n _ _ (omega arith) ∙ omega arith,
    )

-- ---- by the runs

abbrev shown_of : IllFormed → ℕ
shown_of x = x.shown

last_shown_new : (rs : List IllFormed) (r : IllFormed) (k : ℕ) → r.shown ≤ k → last_shown (rs ++ r ∷ []) k ≡ Some r
last_shown_new [] r k h = let e : nat_le r.shown k ≡ true = grind (arith, nat_tests) in cond-true _ _ _ e
last_shown_new (x ∷ rs) r k h = ap (λ o. later_or o x k) (last_shown_new rs r k h)

last_shown_old : (rs : List IllFormed) (r : IllFormed) (k : ℕ) → k < r.shown → last_shown (rs ++ r ∷ []) k ≡ last_shown rs k
last_shown_old [] r k h = let e : nat_le r.shown k ≡ false = grind (arith, nat_tests) in cond-false _ _ _ e
last_shown_old (x ∷ rs) r k h = ap (λ o. later_or o x k) (last_shown_old rs r k h)

-- the last of the first i, where these are the runs that are shown at k or before
pub shown_at : (rs : List IllFormed) (i k : ℕ) (d : IllFormed) → AllWithin (λ (x : IllFormed). nat_le x.shown k ≡ true) rs 0 i → AllWithin (λ (x : IllFormed). nat_le x.shown k ≡ false) rs i (length rs) → i ≤ length rs
    → (i ≡ 0 → last_shown rs k ≡ None) × (0 < i → last_shown rs k ≡ Some (slice_index_or rs (i - 1) d))
shown_at [] i k d f g l = (λ e. refl, λ e. absurd (omega arith))
shown_at (x ∷ rs) zero k d f g l =
    let ih = shown_at rs 0 k d (λ n y a b. absurd (omega arith)) (λ n y a b. g (suc n) y (omega arith) (omega arith)) (omega arith) in
    (λ e. ap (λ o. later_or o x k) (ih.0 refl) ∙ cond-false _ _ _ (g 0 x (omega arith) (omega arith)), λ e. absurd (omega arith))
shown_at (x ∷ rs) (suc i) k d f g l =
    let ih = shown_at rs i k d (λ n y a b. f (suc n) y (omega arith) (omega arith)) (λ n y a b. g (suc n) y (omega arith) (omega arith)) (omega arith) in
    (λ e. absurd (omega arith), λ e. by i ih)
  where
    by : (i : ℕ) → (i ≡ 0 → last_shown rs k ≡ None) × (0 < i → last_shown rs k ≡ Some (slice_index_or rs (i - 1) d)) → last_shown (x ∷ rs) k ≡ Some (slice_index_or (x ∷ rs) (suc i - 1) d)
    by zero h = ap (λ o. later_or o x k) (h.0 refl) ∙ cond-true _ _ _ (f 0 x (omega arith) (omega arith))
    by (suc j) h =
        let e : suc (suc j) - 1 ≡ suc j = omega arith in
        let f : suc j - 1 ≡ j = omega arith in
        ap (λ o. later_or o x k) (h.1 (omega arith)) ∙ ap (λ n. Some (slice_index_or rs n d)) f ∙ sym (ap (λ n. Some (slice_index_or (x ∷ rs) n d)) e)

-- the origin of a place after the last U+FFFD
pub origin_past : (runs : List IllFormed) (r : IllFormed) (k : ℕ) → last_shown runs k ≡ Some r → 3 ≤ k - r.shown → origin_by runs k ≡ r.end + (k - r.shown - 3)
origin_past runs r k e h = ap (λ o. origin_after o k) e ∙ above k (r.shown + 3) _ _ (omega arith) ∙ omega arith

-- ---- what is kept while chunks are read

-- of b the chunks before `rest` were read: `read` bytes, which made `text` and these runs
pub record Repairing (b text rest : List ℕ) (runs : List IllFormed) (read : ℕ) : Type 0 where
  pub whole : text ++ utf8_lossy rest ≡ utf8_lossy b
  pub taken : read + length rest ≡ length b
  pub after : (k : ℕ) → k < length text → (origin_by runs k ≡ origin_at b k) × (origin_at b k ≤ read)
  pub ahead : (k : ℕ) → length text ≤ k → (origin_by runs k ≡ read + (k - length text)) × (origin_at b k ≡ read + origin_at rest (k - length text))
  pub sorted : IsNonDecreasingBy (λ (x : IllFormed). x.shown) runs
  pub shown : (i : ℕ) (d : IllFormed) → i < length runs → (slice_index_or runs i d).shown ≤ length text

repair_text : (b text v r : List ℕ) (runs : List IllFormed) (read : ℕ) → IsUtf8 v → Repairing b text (v ++ r) runs read → Repairing b (text ++ v) r runs (read + length v)
repair_text b text v r runs read u h =
    let m = length-append text v in
    let n = length-append v r in
    let own = λ (k : ℕ). subst (λ w. (k < length w → origin_at (w ++ r) k ≡ k) × (length w ≤ k → origin_at (w ++ r) k ≡ length w + origin_at r (k - length w))) u.1.1 (origin_front u.0 r u.1.0 k) in
    record {
      whole = append_assoc text v (utf8_lossy r) ∙ ap (λ x. text ++ x) (sym (lossy_front v r u)) ∙ h.whole;
      taken = let t = h.taken in omega arith;
      after = λ k l. ⊎_elim (λ (s : k < length text). let o = h.after k s in (o.0, omega arith))
          (λ (s : length text ≤ k).
          let o = h.ahead k s in
          let f : origin_at (v ++ r) (k - length text) ≡ k - length text = (own (k - length text)).0 (omega arith) in
          (o.0 ∙ omega arith, omega arith))
          (cases_lt k (length text));
      ahead = λ k l.
          let o = h.ahead k (omega arith) in
          let f : origin_at (v ++ r) (k - length text) ≡ length v + origin_at r (k - length text - length v) = (own (k - length text)).1 (omega arith) in
          let e : k - length text - length v ≡ k - length (text ++ v) = omega arith in
          let g = ap (origin_at r) e in
          (omega arith, omega arith);
      sorted = h.sorted;
      shown = λ i d l. let s = h.shown i d l in omega arith;
    }

repair_end : (b text : List ℕ) (runs : List IllFormed) (read : ℕ) → Repairing b text [] runs read → (text ≡ utf8_lossy b) × ((k : ℕ) → k ≤ length text → (origin_by runs k ≡ origin_at b k) × (origin_by runs k ≤ length b))
repair_end b text runs read h =
    let t = h.taken in (
      sym (append-nil text) ∙ ap (λ x. text ++ x) (sym nothing) ∙ h.whole,
      λ k l. ⊎_elim (λ (s : k < length text). let o = h.after k s in (o.0, omega arith))
          (λ (s : length text ≤ k).
          let o = h.ahead k s in
          let e : k - length text ≡ 0 = omega arith in
          let f : origin_at [] (k - length text) ≡ 0 = ap (λ ps. origin_in ps (k - length text)) pieces-nil in
          (omega arith, omega arith))
          (cases_lt k (length text)),
    )
  where
    nothing : utf8_lossy [] ≡ []
    nothing = sym (lossy_chars-utf8_lossy []) ∙ ap encode_utf8_all lossy_chars-nil

shown_more : (runs : List IllFormed) (new : IllFormed) (m : ℕ) → ((i : ℕ) (d : IllFormed) → i < length runs → (slice_index_or runs i d).shown ≤ m) → new.shown ≤ m
    → (i : ℕ) (d : IllFormed) → i < length (runs ++ new ∷ []) → (slice_index_or (runs ++ new ∷ []) i d).shown ≤ m
shown_more runs new m h n i d l =
    let o = length-append runs (new ∷ []) in
    ⊎_elim (λ (s : i < length runs). let e = ap shown_of (get_or_append_left runs (new ∷ []) d i s) in let q = h i d s in omega arith)
    (λ (s : length runs ≤ i). let f : i ≡ length runs = omega arith in let e = ap (λ j. shown_of (slice_index_or (runs ++ new ∷ []) j d)) f ∙ ap shown_of (get_or-append_seam runs new [] d) in omega arith)
    (cases_lt i (length runs))

sorted_more : (runs : List IllFormed) (new : IllFormed) → IsNonDecreasingBy (λ (x : IllFormed). x.shown) runs → ((i : ℕ) (d : IllFormed) → i < length runs → (slice_index_or runs i d).shown ≤ new.shown)
    → IsNonDecreasingBy (λ (x : IllFormed). x.shown) (runs ++ new ∷ [])
sorted_more runs new s h i j d le l =
    let o = length-append runs (new ∷ []) in
    ⊎_elim (λ (u : j < length runs).
    let a = ap shown_of (get_or_append_left runs (new ∷ []) d i (omega arith)) in
    let b = ap shown_of (get_or_append_left runs (new ∷ []) d j u) in
    let c = s i j d le u in omega arith)
    (λ (u : length runs ≤ j).
    let f : j ≡ length runs = omega arith in
    let e = ap (λ n. shown_of (slice_index_or (runs ++ new ∷ []) n d)) f ∙ ap shown_of (get_or-append_seam runs new [] d) in
    let q = shown_more runs new new.shown h (omega arith) i d (omega arith) in omega arith)
    (cases_lt j (length runs))

repair_run : (b text inv r : List ℕ) (runs : List IllFormed) (read : ℕ) → 0 < length inv → (decoded (inv ++ r)).char ≡ None → length inv ≡ (decoded (inv ++ r)).size → Repairing b text (inv ++ r) runs read
    → Repairing b (text ++ (0xEF ∷ 0xBF ∷ 0xBD ∷ [])) r (runs ++ record { shown = length text; from = read; end = read + length inv } ∷ []) (read + length inv)
repair_run b text inv r runs read some none size h =
    let new : IllFormed = record { shown = length text; from = read; end = read + length inv } in
    let fffd : List ℕ = 0xEF ∷ 0xBF ∷ 0xBD ∷ [] in
    let m : length (text ++ fffd) ≡ length text + 3 = length-append text fffd in
    let n = length-append inv r in
    let long : 0 < length (inv ++ r) = omega arith in
    let rest : drop (decoded (inv ++ r)).size (inv ++ r) ≡ r = drop_at inv r _ size in
    let step = λ (k : ℕ). origin_step None (inv ++ r) k long none ∙ ap (λ t. cond (nat_lt k 3) 0 ((decoded (inv ++ r)).size + origin_at t (k - 3))) rest in
    record {
      whole = append_assoc text fffd (utf8_lossy r) ∙ ap (λ x. text ++ x) (ap (λ x. fffd ++ utf8_lossy x) (sym rest) ∙ sym (lossy_run (inv ++ r) long none)) ∙ h.whole;
      taken = let t = h.taken in omega arith;
      after = λ k l. ⊎_elim (λ (s : k < length text). let o = h.after k s in (ap (λ x. origin_after x k) (last_shown_old runs new k s) ∙ o.0, omega arith))
          (λ (s : length text ≤ k).
          let o = h.ahead k s in
          let f : origin_at (inv ++ r) (k - length text) ≡ 0 = step (k - length text) ∙ below (k - length text) 3 _ _ (omega arith) in
          (ap (λ x. origin_after x k) (last_shown_new runs new k s) ∙ below k (length text + 3) _ _ (omega arith) ∙ omega arith, omega arith))
          (cases_lt k (length text));
      ahead = λ k l.
          let o = h.ahead k (omega arith) in
          let e : k - length text - 3 ≡ k - length (text ++ fffd) = omega arith in
          let g = ap (origin_at r) e in
          let f = step (k - length text) ∙ above (k - length text) 3 _ _ (omega arith) in
          (ap (λ x. origin_after x k) (last_shown_new runs new k (omega arith)) ∙ above k (length text + 3) _ _ (omega arith) ∙ omega arith, omega arith);
      sorted = sorted_more runs new h.sorted h.shown;
      shown = λ i d l. let o = shown_more runs new (length text) h.shown (omega arith) i d l in omega arith;
    }

run_is : (x : IllFormed) (a b c : ℕ) → x.shown ≡ a → x.from ≡ b → x.end ≡ c → x ≡ record { shown = a; from = b; end = c }
run_is x a b c e f g =
    ap (λ n. record { shown = n; from = x.from; end = x.end }) e ∙ ap (λ n. record { shown = a; from = n; end = x.end }) f ∙ ap (λ n. record { shown = a; from = b; end = n }) g

-- a chunk that ends in a run
pub repair_chunk : (b text s v inv r text' : List ℕ) (runs runs' : List IllFormed) (new : IllFormed) (read : ℕ) → Repairing b text s runs read
    → s ≡ v ++ (inv ++ r) → IsUtf8 v → IsValidUpTo s (length v) → length inv ≡ (decoded (inv ++ r)).size → 0 < length inv
    → text' ≡ (text ++ v) ++ (0xEF ∷ 0xBF ∷ 0xBD ∷ []) → runs' ≡ runs ++ new ∷ [] → new.shown ≡ length (text ++ v) → new.from ≡ read + length v → new.end ≡ read + length v + length inv
    → Repairing b text' r runs' (read + length v + length inv)
repair_chunk b text s v inv r text' runs runs' new read h e u valid size some t q x y z =
    let n = read + length v in
    let g = repair_text b text v (inv ++ r) runs read u (subst (λ w. Repairing b text w runs read) e h) in
    let none : (decoded (inv ++ r)).char ≡ None = ap (λ w. (decoded w).char) (sym (drop_at v (inv ++ r) (length v) refl) ∙ ap (drop (length v)) (sym e)) ∙ none_after_valid s (length v) valid in
    let m = repair_run b (text ++ v) inv r runs n some none size g in
    subst (λ w. Repairing b w r runs' (n + length inv)) (sym t)
    (subst (λ w. Repairing b ((text ++ v) ++ (0xEF ∷ 0xBF ∷ 0xBD ∷ [])) r w (n + length inv)) (sym (q ∙ ap (λ k. runs ++ k ∷ []) (run_is new (length (text ++ v)) n (n + length inv) x y z))) m)

-- the last chunk
pub repair_last : (b text s v inv r text' : List ℕ) (runs : List IllFormed) (read : ℕ) → Repairing b text s runs read
    → s ≡ v ++ (inv ++ r) → IsUtf8 v → length inv ≡ 0 → text' ≡ text ++ v → Repairing b text' r runs (read + length v)
repair_last b text s v inv r text' runs read h e u none t =
    let f : s ≡ v ++ r = e ∙ ap (λ w. v ++ (w ++ r)) (nil_from_length inv none) in
    subst (λ w. Repairing b w r runs (read + length v)) (sym t) (repair_text b text v r runs read u (subst (λ w. Repairing b text w runs read) f h))

pub repair_done : (b text s : List ℕ) (runs : List IllFormed) (read : ℕ) → Repairing b text s runs read → length s ≡ 0 → (text ≡ utf8_lossy b) × ((k : ℕ) → k ≤ length text → (origin_by runs k ≡ origin_at b k) × (origin_by runs k ≤ length b))
repair_done b text s runs read h none = repair_end b text runs read (subst (λ w. Repairing b text w runs read) (nil_from_length s none) h)
