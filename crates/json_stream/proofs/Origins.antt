-- Lines and columns of a repaired text, and those of its input.
use Rattle.std.proofs.Common.{◌≡◌, ◌⊎◌, inl, inr, ℕ, zero, suc, ◌+◌, ◌-◌, ◌<◌, ◌≤◌, ◌==◌, not, List, [], ◌∷◌, ◌++◌, length, take, refl, sym, ◌∙◌, ap, subst, arith, ⊎_elim, length-append}
use Rattle.std.specs.Str.Lossy.{utf8_lossy}
use Rattle.std.proofs.lemmas.Bool.{cases_lt}
use Rattle.std.proofs.lemmas.List.{take-append-le, length-take-le, get_or-take}
use Rattle.std.proofs.lemmas.List.Sums.{suffix_len-le-length}
use Rattle.std.proofs.lemmas.Str.{utf8_lossy_empty}
use Rattle.std.proofs.Math.Seq.{take-append-add}
use Rattle.bstr.proofs.lemmas.PieceLemmas.{pieces-nil}
use Rattle.json_io.specs.declared.error.Place.TheVariants as place
use Rattle.json_io.specs.Positions.{line_at, column_at, place_at}
use Rattle.json_text.specs.Repaired.{RepairedText, origin_in, origin_at, origin_of}
use Rattle.json_stream.specs.Streams.{origin_place}
use Rattle.json_stream.specs.Laws.{IsRepairOf}
use Rattle.json_stream.proofs.Lines.{after_line, lines, column_is, after_some, after_all, after_none, lines_more, lines_none, InLine}
use Rattle.json_stream.proofs.Pieces.{Step, IsCopied, IsReplaced, step}

abbrev shown_front : List ℕ → ℕ → List ℕ
shown_front b k = take k (utf8_lossy b)

abbrev read_front : List ℕ → ℕ → List ℕ
read_front b k = take (origin_at b k) b

-- a line begins before k, at the same place in both, and no bytes of it were lost
abbrev pub LineBegins : List ℕ → ℕ → Type 0
LineBegins b k =
    (after_line (shown_front b k) < k) × (after_line (read_front b k) < origin_at b k)
    × (origin_at b (k - after_line (shown_front b k)) + after_line (read_front b k) ≡ origin_at b k)
    × (after_line (read_front b k) ≤ after_line (shown_front b k))

-- no line begins before k
abbrev pub OneLine : List ℕ → ℕ → Type 0
OneLine b k = (after_line (shown_front b k) ≡ k) × (after_line (read_front b k) ≡ origin_at b k)

pub record Told (b : List ℕ) (k : ℕ) : Type 0 where
  pub below : origin_at b k ≤ k
  pub within : origin_at b k ≤ length b
  pub same : lines (shown_front b k) ≡ lines (read_front b k)
  pub column : LineBegins b k ⊎ OneLine b k

whole_line : (b : List ℕ) → after_line b ≤ length b
whole_line b = suffix_len-le-length (λ x. not (x == 10)) b

reported_nothing : (k : ℕ) → k ≤ length (utf8_lossy []) → Told [] k
reported_nothing k h =
    let e = ap length (utf8_lossy_empty [] refl) in
    let z : k ≡ 0 = omega arith in
    subst (Told []) (sym z) at_zero
  where
    none : origin_at [] 0 ≡ 0
    none = ap (λ ps. origin_in ps 0) pieces-nil

    at_zero : Told [] 0
    at_zero = record {
      below = let e = none in omega arith;
      within = let e = none in omega arith;
      same = sym (ap (λ n. lines (take n [])) none);
      column = inr (refl, ap (λ n. after_line (take n [])) none ∙ sym none);
    }

module _ (b : List ℕ) (k : ℕ) (s : Step b) where
  near_copied : k < length s.shown → IsCopied b s.piece s.shown → Told b k
  near_copied l (e, own) =
      let n = ap length e in
      let o : origin_at b k ≡ k = own k (omega arith) in
      let x : shown_front b k ≡ take k s.piece = ap (take k) s.text ∙ take-append-le k s.shown (utf8_lossy s.rest) (omega arith) ∙ ap (take k) e in
      let y : read_front b k ≡ take k s.piece = ap (λ n. take n b) o ∙ ap (take k) s.bytes ∙ take-append-le k s.piece s.rest (omega arith) in
      let p = ap after_line x in
      let q = ap after_line y in
      let m = length-take-le k s.piece (omega arith) in
      let w = whole_line (take k s.piece) in
      let t = ap length s.bytes in
      record {
        below = omega arith;
        within = omega (arith, length-append s.piece s.rest);
        same = ap lines (x ∙ sym y);
        column = ⊎_elim (λ (u : after_line (take k s.piece) < k).
            let v : origin_at b (k - after_line (shown_front b k)) ≡ k - after_line (shown_front b k) = own (k - after_line (shown_front b k)) (omega arith) in
            inl (omega arith, omega arith, omega arith, omega arith))
            (λ (u : k ≤ after_line (take k s.piece)). inr (omega arith, omega arith))
            (cases_lt (after_line (take k s.piece)) k);
      }

  near_replaced : k < length s.shown → IsReplaced b s.piece s.shown → Told b k
  near_replaced l (three, short, shown, piece, begin) =
      let o : origin_at b k ≡ 0 = begin k (omega arith) in
      let x : shown_front b k ≡ take k s.shown = ap (take k) s.text ∙ take-append-le k s.shown (utf8_lossy s.rest) (omega arith) in
      let y : read_front b k ≡ [] = ap (λ n. take n b) o in
      let m = length-take-le k s.shown (omega arith) in
      let in_line : InLine (take k s.shown) = λ i h f. shown i (omega arith) (sym (get_or-take k s.shown i 0 (omega arith)) ∙ f) in
      record {
        below = omega arith;
        within = omega arith;
        same = ap lines x ∙ lines_none (take k s.shown) in_line ∙ sym (ap lines y);
        column = inr (ap after_line x ∙ after_none (take k s.shown) in_line ∙ m, ap after_line y ∙ sym o);
      }

  -- after the piece
  module _ (l : length s.shown ≤ k) (zero_is : origin_at s.rest 0 ≤ 0) (h : Told s.rest (k - length s.shown)) where
    abbrev later : ℕ
    later = k - length s.shown

    shown_is : k ≤ length (utf8_lossy b) → shown_front b k ≡ s.shown ++ shown_front s.rest later
    shown_is m =
        let e : k ≡ length s.shown + later = omega arith in
        ap (take k) s.text ∙ ap (λ n. take n (s.shown ++ utf8_lossy s.rest)) e ∙ take-append-add s.shown (utf8_lossy s.rest) later

    read_is : read_front b k ≡ s.piece ++ read_front s.rest later
    read_is = ap (λ n. take n b) (s.later k l) ∙ ap (take (length s.piece + origin_at s.rest later)) s.bytes ∙ take-append-add s.piece s.rest (origin_at s.rest later)

    far : k ≤ length (utf8_lossy b) → (length s.piece ≤ length s.shown) × (lines s.shown ≡ lines s.piece) → IsCopied b s.piece s.shown ⊎ IsReplaced b s.piece s.shown → Told b k
    far m (small, same) kind =
        let o = s.later k l in
        let t = ap length s.bytes in
        let u = ap length s.text in
        let x = shown_is m in
        let y = read_is in
        let fits : later ≤ length (utf8_lossy s.rest) = omega (arith, length-append s.shown (utf8_lossy s.rest)) in
        let v = length-take-le later (utf8_lossy s.rest) fits in
        let w = length-take-le (origin_at s.rest later) s.rest h.within in
        let i = h.below in
        let j = h.within in
        record {
          below = omega arith;
          within = omega (arith, length-append s.piece s.rest);
          same = ap lines x ∙ lines_more s.shown (shown_front s.rest later) ∙ (let p = h.same in omega arith) ∙ sym (ap lines y ∙ lines_more s.piece (read_front s.rest later));
          column = ⊎_elim (λ (c : LineBegins s.rest later).
              let p : after_line (shown_front b k) ≡ after_line (shown_front s.rest later) = ap after_line x ∙ after_some s.shown (shown_front s.rest later) (let c0 = c.0 in omega arith) in
              let q : after_line (read_front b k) ≡ after_line (read_front s.rest later) = ap after_line y ∙ after_some s.piece (read_front s.rest later) (let c1 = c.1 in omega arith) in
              let c0 = c.0 in
              let c1 = c.1 in
              let c2 = c.2 in
              let c3 = c.3 in
              let at : k - after_line (shown_front b k) - length s.shown ≡ later - after_line (shown_front s.rest later) = omega arith in
              let r = s.later (k - after_line (shown_front b k)) (omega arith) in
              let z = ap (origin_at s.rest) at in
              inl (omega arith, omega arith, omega arith, omega arith))
              (λ (c : OneLine s.rest later). one_line c x y v w kind)
              h.column;
        }
      where
        one_line : OneLine s.rest later → shown_front b k ≡ s.shown ++ shown_front s.rest later → read_front b k ≡ s.piece ++ read_front s.rest later → length (shown_front s.rest later) ≡ later
            → length (read_front s.rest later) ≡ origin_at s.rest later → IsCopied b s.piece s.shown ⊎ IsReplaced b s.piece s.shown → LineBegins b k ⊎ OneLine b k
        one_line (c0, c1) x y v w kind =
            let p : after_line (shown_front b k) ≡ after_line s.shown + length (shown_front s.rest later) = ap after_line x ∙ after_all s.shown (shown_front s.rest later) (omega arith) in
            let q : after_line (read_front b k) ≡ after_line s.piece + length (read_front s.rest later) = ap after_line y ∙ after_all s.piece (read_front s.rest later) (omega arith) in
            let o = s.later k l in
            let i = h.below in
            by p q o i kind
          where
            by : after_line (shown_front b k) ≡ after_line s.shown + length (shown_front s.rest later) → after_line (read_front b k) ≡ after_line s.piece + length (read_front s.rest later)
                → origin_at b k ≡ length s.piece + origin_at s.rest later → origin_at s.rest later ≤ later → IsCopied b s.piece s.shown ⊎ IsReplaced b s.piece s.shown → LineBegins b k ⊎ OneLine b k
            by p q o i (inr (three, short, shown, piece, begin)) =
                let f = after_none s.shown shown in
                let g = after_none s.piece piece in
                inr (omega arith, omega arith)
            by p q o i (inl (e, own)) =
                let n = ap length e in
                let f = ap after_line e in
                let a = whole_line s.piece in
                ⊎_elim (λ (u : after_line s.piece < length s.piece).
                let at : k - after_line (shown_front b k) ≡ length s.piece - after_line s.piece = omega arith in
                let g : origin_at b (length s.piece - after_line s.piece) ≡ length s.piece - after_line s.piece = ⊎_elim
                (λ (r : 0 < after_line s.piece). own (length s.piece - after_line s.piece) (omega arith))
                (λ (r : after_line s.piece ≤ 0).
                let z : length s.piece - after_line s.piece - length s.shown ≡ 0 = omega arith in
                let y = ap (origin_at s.rest) z in
                s.later (length s.piece - after_line s.piece) (omega arith) ∙ omega arith)
                (cases_lt 0 (after_line s.piece)) in
                let j = ap (origin_at b) at in
                inl (omega arith, omega arith, omega arith, omega arith))
                (λ (u : length s.piece ≤ after_line s.piece). inr (omega arith, omega arith))
                (cases_lt (after_line s.piece) (length s.piece))

sizes : (b : List ℕ) (s : Step b) → IsCopied b s.piece s.shown ⊎ IsReplaced b s.piece s.shown → (length s.piece ≤ length s.shown) × (lines s.shown ≡ lines s.piece)
sizes b s (inl (e, own)) = let n = ap length e in (omega arith, ap lines e)
sizes b s (inr (three, short, shown, piece, begin)) = (omega arith, lines_none s.shown shown ∙ sym (lines_none s.piece piece))

near : (b : List ℕ) (k : ℕ) (s : Step b) → k < length s.shown → IsCopied b s.piece s.shown ⊎ IsReplaced b s.piece s.shown → Told b k
near b k s l (inl c) = near_copied b k s l c
near b k s l (inr r) = near_replaced b k s l r

pub reported : (fuel : ℕ) (b : List ℕ) (k : ℕ) → length b ≤ fuel → k ≤ length (utf8_lossy b) → Told b k
reported fuel [] k f h = reported_nothing k h
reported zero (x ∷ xs) k f h = absurd (omega arith)
reported (suc fuel) (x ∷ xs) k f h =
    let b = x ∷ xs in
    let s = step b (omega arith) in
    let t = ap length s.bytes in
    let u = ap length s.text in
    let n = s.some in
    let less : length s.rest ≤ fuel = omega (arith, length-append s.piece s.rest) in
    ⊎_elim (λ (l : k < length s.shown). near b k s l s.kind)
    (λ (l : length s.shown ≤ k).
    let m = reported fuel s.rest (k - length s.shown) less (omega (arith, length-append s.shown (utf8_lossy s.rest))) in
    far b k s l (reported fuel s.rest 0 less (omega arith)).below m h (sizes b s s.kind) s.kind)
    (cases_lt k (length s.shown))

-- ---- places

place_is : {a b c d e f : ℕ} → a ≡ b → c ≡ d → e ≡ f → place.At a c e ≡ place.At b d f
place_is {a} {b} {c} {d} {e} {f} p q r = ap (λ x. place.At x c e) p ∙ ap (λ x. place.At b x e) q ∙ ap (λ x. place.At b d x) r

-- the column, by what was added in the line
column_reported : (b : List ℕ) (k column : ℕ) → Told b k → Told b (k - (column - 1)) → column ≡ 1 + after_line (shown_front b k)
    → column - ((k - origin_at b k) - (k - (column - 1) - origin_at b (k - (column - 1)))) ≡ 1 + after_line (read_front b k)
column_reported b k column t u e =
    let m = t.below in
    let n = u.below in
    ⊎_elim (λ (c : LineBegins b k).
    let at : k - (column - 1) ≡ k - after_line (shown_front b k) = omega arith in
    let f = ap (origin_at b) at in
    let c0 = c.0 in
    let c1 = c.1 in
    let c2 = c.2 in
    let c3 = c.3 in
    omega arith)
    (λ (c : OneLine b k). let c0 = c.0 in let c1 = c.1 in omega arith)
    t.column

pub reported_place : (b : List ℕ) (r : RepairedText) (k : ℕ) → IsRepairOf b r → k ≤ length r.text → origin_place r (place_at r.text k) ≡ place_at b (origin_at b k)
unfolding place_at
reported_place b r k h l =
    let size = ap length h.text in
    let column = column_at r.text k in
    let start = k - (column - 1) in
    let t = reported (length b) b k (omega arith) (omega arith) in
    let u = reported (length b) b start (omega arith) (omega arith) in
    let line : line_at r.text k ≡ line_at b (origin_at b k) = ap (λ y. line_at y k) h.text ∙ ap (λ n. 1 + n) t.same in
    let shown : column ≡ 1 + after_line (shown_front b k) = ap (λ y. column_at y k) h.text ∙ ap (λ n. 1 + n) (column_is (shown_front b k)) in
    let read : column_at b (origin_at b k) ≡ 1 + after_line (read_front b k) = ap (λ n. 1 + n) (column_is (read_front b k)) in
    let o : origin_of r k ≡ origin_at b k = h.origin k l in
    let p : origin_of r start ≡ origin_at b start = h.origin start (omega arith) in
    place_is o line (ap (λ x. column - ((k - x) - (start - origin_of r start))) o ∙ ap (λ x. column - ((k - origin_at b k) - (start - x))) p ∙ column_reported b k column t u shown ∙ sym read)

end_is : (fuel : ℕ) (b : List ℕ) → length b ≤ fuel → origin_at b (length (utf8_lossy b)) ≡ length b
end_is fuel [] f = ap (origin_at []) (ap length (utf8_lossy_empty [] refl)) ∙ ap (λ ps. origin_in ps 0) pieces-nil
end_is zero (x ∷ xs) f = absurd (omega arith)
end_is (suc fuel) (x ∷ xs) f =
    let b = x ∷ xs in
    let s = step b (omega arith) in
    let n = s.some in
    let t = ap length s.bytes in
    let u = ap length s.text in
    let v = length-append s.piece s.rest in
    let w = length-append s.shown (utf8_lossy s.rest) in
    let at : length (utf8_lossy b) - length s.shown ≡ length (utf8_lossy s.rest) = omega arith in
    let later = s.later (length (utf8_lossy b)) (omega arith) in
    let z = ap (origin_at s.rest) at in
    let rest = end_is fuel s.rest (omega arith) in
    omega arith

pub reported_end : (b : List ℕ) (r : RepairedText) → IsRepairOf b r → origin_place r (place_at r.text (length r.text)) ≡ place_at b (length b)
reported_end b r h = reported_place b r (length r.text) h (omega arith) ∙ ap (place_at b) (ap (λ y. origin_at b (length y)) h.text ∙ end_is (length b) b (omega arith))
