-- The members of an object as keys and texts grow after them.
use Rattle.std.proofs.Common.{◌≡◌, ℕ, zero, suc, ◌-◌, ◌<◌, ◌≤◌, List, [], ◌∷◌, ◌++◌, length, take, drop, map, get_or, ◌∙◌, sym, ap, ap₂, refl, subst, arith, inl, inr, Some, Ok, Err, Result, length-drop, length-append}
use Rattle.std.specs.Prelude.{OnOk, slice_get}
use Rattle.std.proofs.lemmas.Result.{on_ok_weaker}
use Rattle.std.specs.Str.{IsCharBoundary, IsUtf8}
use Rattle.std.proofs.lemmas.Bool.{cases_lt}
use Rattle.std.proofs.lemmas.List.{get_or_append_left, drop-append-le, take-append-le, length-map}
use Rattle.std.proofs.lemmas.Str.{IsCharBoundary-at_seam, IsCharBoundary-end}
use Rattle.json_grammar.specs.Given.{piece}
use Rattle.json_io.specs.declared.error.Error.{Error}
use Rattle.json_io.specs.Known.{Appends, append_known}
use Rattle.json_io.specs.Outside.{SinkState}
use Rattle.json_io.specs.Transfer.{Puts}
use Rattle.json_print.specs.declared.sorted.Member.{Member}
use Rattle.json_print.specs.Printer.{MemberText, Layer}
use Rattle.json_print.specs.Members.{member_text_of, layer_of, IsMemberWithin, AreWithin, HoldMembers}

-- ---- a text after others

boundary_on : (bs t : List ℕ) (i : ℕ) → IsUtf8 t → IsCharBoundary bs i → IsCharBoundary (bs ++ t) i
boundary_on bs t i u h =
    elim (cases_lt i (length bs)) [
      | inl l ↦ (omega (arith, h.0, length-append bs t), λ k a. subst (λ x. 192 ≤ x) (sym (get_or_append_left bs t 0 i l)) (h.1 l (subst (λ x. 128 ≤ x) (get_or_append_left bs t 0 i l) a)))
      | inr l ↦ let e : length bs ≡ i = omega (arith, h.0, l) in subst (IsCharBoundary (bs ++ t)) e (IsCharBoundary-at_seam (bs ++ t) bs t refl u)
    ]

piece_on : (b p : List ℕ) (i j : ℕ) → i ≤ j → j ≤ length b → piece (b ++ p) i j ≡ piece b i j
piece_on b p i j o h = ap (take (j - i)) (drop-append-le i b p (omega arith)) ∙ take-append-le (j - i) (drop i b) p (omega (arith, length-drop i b))

-- ---- more keys

within_keys : (keys texts k : List ℕ) (m : Member) → IsUtf8 k → IsMemberWithin keys texts m → IsMemberWithin (keys ++ k) texts m
within_keys keys texts k m u h =
    record { key_begins = boundary_on keys k m.key_from u h.key_begins; key_ends = boundary_on keys k m.key_to u h.key_ends; key_order = h.key_order; text_order = h.text_order; text_within = h.text_within }

all_keys : (keys texts k : List ℕ) (ms : List Member) → IsUtf8 k → AreWithin keys texts ms → AreWithin (keys ++ k) texts ms
all_keys keys texts k [] u h = tt
all_keys keys texts k (m ∷ ms) u h = (within_keys keys texts k m u h.0, all_keys keys texts k ms u h.1)

pub hold_keys : (keys texts k : List ℕ) (ms : List Member) (i j : ℕ) → IsUtf8 k → HoldMembers keys texts ms i j → HoldMembers (keys ++ k) texts ms i j
hold_keys keys texts k ms i j u h = record { finished = all_keys keys texts k ms u h.finished; key_begins = boundary_on keys k i u h.key_begins; text_begins = h.text_begins }

rows_keys : (keys texts k : List ℕ) (ms : List Member) → AreWithin keys texts ms → map (member_text_of (keys ++ k) texts) ms ≡ map (member_text_of keys texts) ms
rows_keys keys texts k [] h = refl
rows_keys keys texts k (m ∷ ms) h =
    ap₂ (λ (r : MemberText) rows. r ∷ rows) (ap (λ (x : List ℕ). let r : MemberText = record { key = x; text = piece texts m.text_from m.text_to } in r) (piece_on keys k m.key_from m.key_to h.0.key_order h.0.key_ends.0)) (rows_keys keys texts k ms h.1)

pub layer_keys : (keys texts k : List ℕ) (ms : List Member) (i j : ℕ) → HoldMembers keys texts ms i j → layer_of (keys ++ k) texts ms i j ≡ record (layer_of keys texts ms i j) { key = drop i keys ++ k }
layer_keys keys texts k ms i j h =
    ap₂ (λ rows (x : List ℕ). let r : Layer = record { rows = rows; key = x; text = drop j texts } in r) (rows_keys keys texts k ms h.finished) (drop-append-le i keys k h.key_begins.0)

-- ---- more texts

within_texts : (keys texts t : List ℕ) (m : Member) → IsMemberWithin keys texts m → IsMemberWithin keys (texts ++ t) m
within_texts keys texts t m h =
    record { key_begins = h.key_begins; key_ends = h.key_ends; key_order = h.key_order; text_order = h.text_order; text_within = omega (arith, h.text_within, length-append texts t) }

all_texts : (keys texts t : List ℕ) (ms : List Member) → AreWithin keys texts ms → AreWithin keys (texts ++ t) ms
all_texts keys texts t [] h = tt
all_texts keys texts t (m ∷ ms) h = (within_texts keys texts t m h.0, all_texts keys texts t ms h.1)

pub hold_texts : (keys texts t : List ℕ) (ms : List Member) (i j : ℕ) → HoldMembers keys texts ms i j → HoldMembers keys (texts ++ t) ms i j
hold_texts keys texts t ms i j h = record { finished = all_texts keys texts t ms h.finished; key_begins = h.key_begins; text_begins = omega (arith, h.text_begins, length-append texts t) }

rows_texts : (keys texts t : List ℕ) (ms : List Member) → AreWithin keys texts ms → map (member_text_of keys (texts ++ t)) ms ≡ map (member_text_of keys texts) ms
rows_texts keys texts t [] h = refl
rows_texts keys texts t (m ∷ ms) h =
    ap₂ (λ (r : MemberText) rows. r ∷ rows) (ap (λ (x : List ℕ). let r : MemberText = record { key = piece keys m.key_from m.key_to; text = x } in r) (piece_on texts t m.text_from m.text_to h.0.text_order h.0.text_within)) (rows_texts keys texts t ms h.1)

pub layer_texts : (keys texts t : List ℕ) (ms : List Member) (i j : ℕ) → HoldMembers keys texts ms i j → layer_of keys (texts ++ t) ms i j ≡ record (layer_of keys texts ms i j) { text = drop j texts ++ t }
layer_texts keys texts t ms i j h =
    ap₂ (λ rows (x : List ℕ). let r : Layer = record { rows = rows; key = drop i keys; text = x } in r) (rows_texts keys texts t ms h.finished) (drop-append-le j texts t h.text_begins)

-- ---- the open member is finished

all_more : (keys texts : List ℕ) (ms : List Member) (m : Member) → AreWithin keys texts ms → IsMemberWithin keys texts m → AreWithin keys texts (ms ++ m ∷ [])
all_more keys texts [] m h w = (w, tt)
all_more keys texts (n ∷ ms) m h w = (h.0, all_more keys texts ms m h.1 w)

pub hold_more : (keys texts : List ℕ) (ms : List Member) (i j a b : ℕ) → a ≡ length keys → b ≡ length texts → HoldMembers keys texts ms i j → HoldMembers keys texts (ms ++ record { key_from = i; key_to = a; text_from = j; text_to = b } ∷ []) a b
hold_more keys texts ms i j a b e k h =
    let at : IsCharBoundary keys a = subst (IsCharBoundary keys) (sym e) (IsCharBoundary-end keys) in
    record {
      finished = all_more keys texts ms _ h.finished (record { key_begins = h.key_begins; key_ends = at; key_order = omega (arith, e, h.key_begins.0); text_order = omega (arith, k, h.text_begins); text_within = omega (arith, k) });
      key_begins = at;
      text_begins = omega (arith, k);
    }

-- ---- one member

all_at : (keys texts : List ℕ) (ms : List Member) (n : ℕ) (d : Member) → AreWithin keys texts ms → n < length ms → IsMemberWithin keys texts (get_or ms n d)
all_at keys texts [] n d h l = absurd (omega arith)
all_at keys texts (m ∷ ms) zero d h l = h.0
all_at keys texts (m ∷ ms) (suc n) d h l = all_at keys texts ms n d h.1 (omega arith)

pub rows_length : (keys texts : List ℕ) (ms : List Member) (i j : ℕ) (l : Layer) → layer_of keys texts ms i j ≡ l → length ms ≡ length l.rows
rows_length keys texts ms i j l e = sym (length-map ms (member_text_of keys texts)) ∙ ap (λ (x : Layer). length x.rows) e

counted : (keys texts : List ℕ) (ms : List Member) (i j n : ℕ) (l : Layer) → layer_of keys texts ms i j ≡ l → n < length l.rows → n < length ms
counted keys texts ms i j n l e h = subst (λ k. n < k) (sym (rows_length keys texts ms i j l e)) h

pub member_within : (keys texts : List ℕ) (ms : List Member) (i j n : ℕ) (l : Layer) (m : Member) → HoldMembers keys texts ms i j → layer_of keys texts ms i j ≡ l → n < length l.rows → m ≡ get_or ms n m → IsMemberWithin keys texts m
member_within keys texts ms i j n l m h e k g = subst (IsMemberWithin keys texts) (sym g) (all_at keys texts ms n m h.finished (counted keys texts ms i j n l e k))

row_get : (keys texts : List ℕ) (ms : List Member) (n : ℕ) (d : Member) → n < length ms → slice_get (map (member_text_of keys texts) ms) n ≡ Some (member_text_of keys texts (get_or ms n d))
row_get keys texts [] n d l = absurd (omega arith)
row_get keys texts (m ∷ ms) zero d l = refl
row_get keys texts (m ∷ ms) (suc n) d l = row_get keys texts ms n d (omega arith)

pub member_row : (keys texts : List ℕ) (ms : List Member) (i j n : ℕ) (l : Layer) (m : Member) → layer_of keys texts ms i j ≡ l → n < length l.rows → m ≡ get_or ms n m → slice_get l.rows n ≡ Some (member_text_of keys texts m)
member_row keys texts ms i j n l m e k g = ap (λ (x : Layer). slice_get x.rows n) (sym e) ∙ row_get keys texts ms n m (counted keys texts ms i j n l e k) ∙ ap (λ x. Some (member_text_of keys texts x)) (sym g)

-- ---- what a sink in memory has gained

reported_bytes : (a b : SinkState) (x y q : List ℕ) → a.gained ≡ Some x → b.gained ≡ Some y → Appends a.gained b.gained q → y ≡ x ++ q
reported_bytes a b x y q e k h = go (sym k ∙ h ∙ ap (λ g. append_known g q) e)
  where
    go : Some y ≡ Some (x ++ q) → y ≡ x ++ q
    go s = cc

pub put_bytes : (a b : SinkState) (x y p : List ℕ) (r : Result (Unit {0}) Error) → a.gained ≡ Some x → b.gained ≡ Some y → Puts a b p r → OnOk r (y ≡ x ++ p)
put_bytes a b x y p r e k h = on_ok_weaker r (reported_bytes a b x y p e k) h.ok

-- some bytes more, whatever was answered
pub grown : (a b : SinkState) (x y p : List ℕ) (r : Result (Unit {0}) Error) → a.gained ≡ Some x → b.gained ≡ Some y → Puts a b p r → (q : List ℕ) × (y ≡ x ++ q)
grown a b x y p (Ok u) e k h = (p, reported_bytes a b x y p e k h.ok)
grown a b x y p (Err failure) e k h = (h.err.front, reported_bytes a b x y h.err.front e k h.err.gains)
