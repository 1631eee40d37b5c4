-- The range of the first line in the buffer.
use Rattle.std.proofs.Common.{◌≡◌, ℕ, ◌+◌, ◌-◌, ◌<◌, ◌≤◌, true, false, List, [], ◌++◌, length, take, drop, slice_range, Option, None, Some, refl, sym, ap, ◌∙◌, subst, arith, append_assoc, inl, inr, ◌⊎◌}
use Rattle.std.proofs.Math.Seq.{take-append-add, drop-append-add}
use Rattle.std.proofs.lemmas.List.{length-append, length-take, length-drop, take-take, drop-drop, append-nil}
use Rattle.std.proofs.lemmas.Slice.{between_is, between_from_start}
use Rattle.json_io.specs.Known.{Consumes, if_known}
use Rattle.json_io.specs.Outside.{SourceState}
use Rattle.json_lines.specs.declared.line_reader.LineReader.{LineReader}
use Rattle.json_lines.specs.declared.line_reader.LineRange.{LineRange}
use Rattle.json_lines.specs.declared.line_reader.LineRange.TheVariants.{End, Bytes, TooLong}
use Rattle.json_lines.specs.Lines.{has_newline, first_line, after_line, IsFirstNewline}
use Rattle.json_lines.specs.Ranges.{IsRangeFrom, IsLastRange}
use Rattle.json_lines.specs.Reading.{ReaderState, line_reader_state, held_bytes, ReadsBytes}
use Rattle.json_lines.specs.LineRanges.{new_bytes, ReadsMore, DropsLine, ReadsUnended, SkipsLine, FindsLine, IsLineRange}
use Rattle.json_lines.proofs.Newlines.{unended, alone}
use Rattle.json_lines.proofs.ReaderSteps.{ReadsBytes-trans, ReadsBytes-none, ReadsUnended-more, held-more}

-- the first newline, after bytes that contain none
pub IsFirstNewline-behind : (xs ys : List ℕ) (k : ℕ) → has_newline xs ≡ false → IsFirstNewline ys (Some k) → IsFirstNewline (xs ++ ys) (Some (length xs + k))
IsFirstNewline-behind xs ys k none here =
    let p = unended xs ys none in
    let place : length xs + (k + 1) ≡ length xs + k + 1 = omega arith in (
      omega (arith, length-append xs ys, here.0),
      p.2 ∙ here.1,
      p.0 ∙ ap (λ l. xs ++ l) here.2 ∙ sym (take-append-add xs ys k),
      p.1 ∙ here.3 ∙ sym (drop-append-add xs ys (k + 1)) ∙ ap (λ n. drop n (xs ++ ys)) place,
    )

-- a line that ends in what is held
pub first-held : (r : LineReader) (k : ℕ) → IsFirstNewline (held_bytes r) (Some k) → slice_range r.buffer.items r.start (r.start + k) ≡ first_line (held_bytes r)
first-held r k here =
    let rest = drop r.start r.buffer.items in
    let few : k ≤ r.end - r.start = omega (arith, here.0, length-take (r.end - r.start) rest) in
    ap (λ n. take n rest) {y = k} (omega arith) ∙ sym (take-take k (r.end - r.start) rest few) ∙ sym here.2

pub behind-held : (r : LineReader) (k start : ℕ) → start ≡ r.start + k + 1 → IsFirstNewline (held_bytes r) (Some k) → slice_range r.buffer.items start r.end ≡ after_line (held_bytes r)
behind-held r k start at here =
    let front = take r.end r.buffer.items in
    between_is r.buffer.items start r.end ∙ ap (λ n. drop n front) {y = r.start + (k + 1)} (omega (arith, at)) ∙ sym (drop-drop (k + 1) r.start front)
    ∙ ap (drop (k + 1)) (sym (between_is r.buffer.items r.start r.end)) ∙ sym here.3

pub found-held : (r : LineReader) (k : ℕ) (place : LineRange) → IsRangeFrom r.start k r.limit place → IsFirstNewline (held_bytes r) (Some k) → IsLineRange r.limit (held_bytes r) r.buffer.items place
found-held r k End is here = absurd is
found-held r k (Bytes from to) is here =
    let rest = drop r.start r.buffer.items in
    let few : k < r.end - r.start = omega (arith, here.0, length-take (r.end - r.start) rest) in (
      omega (arith, here.0),
      ap (λ i. take (to - i) (drop i r.buffer.items)) is.0 ∙ ap (λ j. take (j - r.start) rest) is.1 ∙ first-held r k here,
      omega (arith, is.0, is.1),
      omega (arith, is.0, is.1, few, r.within),
      omega (arith, is.0, is.1, is.2),
    )
found-held r k TooLong is here =
    subst (λ l. r.limit < length l) (sym here.2) (omega (arith, is, here.0, length-take k (held_bytes r)))

-- the last line, which does not end
pub found-last : (r : LineReader) (place : LineRange) → IsLastRange r.start r.end place → has_newline (held_bytes r) ≡ false → r.end - r.start ≤ r.limit → IsLineRange r.limit (held_bytes r) r.buffer.items place
found-last r End is none few = ap (λ n. take n (drop r.start r.buffer.items)) {y = 0} (omega (arith, is))
found-last r (Bytes from to) is none few =
    let rest = drop r.start r.buffer.items in
    let some : r.start < r.end = omega (arith, r.order, is.2) in (
      omega (arith, length-take (r.end - r.start) rest, length-drop r.start r.buffer.items, some, r.within),
      ap (λ i. take (to - i) (drop i r.buffer.items)) is.0 ∙ ap (λ j. take (j - r.start) rest) is.1 ∙ sym (alone (held_bytes r) none).0,
      omega (arith, is.0, is.1, r.order),
      omega (arith, is.1, r.within),
      omega (arith, is.0, is.1, few, r.order),
    )
found-last r TooLong is none few = absurd is

-- ---- what a call did

pub ReadsBytes-as : (a b c : ReaderState) (s u : SourceState) (p : List ℕ) → c.received ≡ b.received → c.limit ≡ b.limit → ReadsBytes a b s u p → ReadsBytes a c s u p
ReadsBytes-as a b c s u p received limit reads =
    record { consumed = reads.consumed; received_so = received ∙ reads.received_so; given_so = reads.given_so; same_limit = limit ∙ reads.same_limit }

pub told-same : (a b : Option (List ℕ)) (p : List ℕ) → Consumes a b p → if_known b [] ≡ if_known a []
told-same a None p h = ap (λ o. if_known o []) (sym h)
told-same a (Some b) p h = ap (λ o. if_known o []) (sym h)

-- a line that ended in what was held
pub DropsLine-held : (r : LineReader) (fin : ReaderState) (k : ℕ) (s : SourceState) → fin.received ≡ r.received → fin.limit ≡ r.limit → fin.stopped ≡ None
    → IsFirstNewline (held_bytes r) (Some k) → fin.held ≡ slice_range r.buffer.items (r.start + k + 1) r.end → DropsLine (line_reader_state r) fin s s []
DropsLine-held r fin k s received limit going here held =
    record {
      reads = ReadsBytes-none _ _ s received limit;
      no_fault = refl;
      rest = held ∙ behind-held r k _ refl here ∙ ap after_line (sym (append-nil (held_bytes r)));
      ended = inl (ap has_newline (append-nil (held_bytes r)) ∙ here.1);
      goes_on = going;
    }

-- a line that ended in what reads
pub FindsLine-more : (a mid new fin : LineReader) (s t u : SourceState) (n k : ℕ) (place : LineRange)
    → ReadsUnended (line_reader_state a) (line_reader_state mid) s t → ReadsMore mid new t u n → IsFirstNewline (new_bytes mid new) (Some k)
    → IsRangeFrom new.start (mid.end + k - new.start) new.limit place
    → fin.buffer.items ≡ new.buffer.items → fin.received ≡ new.received → fin.limit ≡ new.limit → fin.stopped ≡ None → fin.start ≡ mid.end + k + 1 → fin.end ≡ new.end
    → FindsLine a fin s u place
FindsLine-more a mid new fin s t u n k place waits more here is items received limit going start end =
    let old = held_bytes a in
    let fresh = new_bytes mid new in
    let bytes = waits.bytes ++ fresh in
    let rest = drop mid.start mid.buffer.items in
    let reads = ReadsBytes-trans _ _ _ _ _ _ _ _ waits.reads more.reads in
    let whole : held_bytes new ≡ old ++ bytes = held-more mid new t u n more ∙ ap (λ l. l ++ fresh) waits.held_so ∙ append_assoc old waits.bytes fresh in
    let long : length (held_bytes mid) ≡ mid.end - mid.start = omega (arith, length-take (mid.end - mid.start) rest, length-drop mid.start mid.buffer.items, mid.order, mid.within) in
    let place_is : length (held_bytes mid) + k ≡ mid.end + k - new.start = omega (arith, long, more.same_start, mid.order) in
    let none : has_newline (held_bytes mid) ≡ false = ap has_newline waits.held_so ∙ waits.no_newline in
    let behind = subst (λ l. IsFirstNewline l (Some (length (held_bytes mid) + k))) (sym (held-more mid new t u n more)) (IsFirstNewline-behind (held_bytes mid) fresh k none here) in
    let at = subst (λ i. IsFirstNewline (held_bytes new) (Some i)) place_is behind in
    let begins : fin.start ≡ new.start + (mid.end + k - new.start) + 1 = omega (arith, start, more.same_start, mid.order) in
    let found = found-held new (mid.end + k - new.start) place is at in
    record {
      bytes = bytes;
      drops = record {
        reads = ReadsBytes-as _ _ _ _ _ _ received limit reads;
        no_fault = more.no_fault ∙ waits.no_fault;
        rest = ap (λ l. slice_range l fin.start fin.end) items ∙ ap (λ j. slice_range new.buffer.items fin.start j) end ∙ behind-held new _ fin.start begins at ∙ ap after_line whole;
        ended = inl (ap has_newline (sym whole) ∙ at.1);
        goes_on = going;
      };
      found = subst (λ l. IsLineRange a.limit l fin.buffer.items place) whole (subst (λ m. IsLineRange m (held_bytes new) fin.buffer.items place) (reads.same_limit) (subst (λ l. IsLineRange new.limit (held_bytes new) l place) (sym items) found));
    }

-- the last line, at the end of the source
FindsLine-ended : (a new fin : LineReader) (s u : SourceState) (place : LineRange)
    → ReadsUnended (line_reader_state a) (line_reader_state new) s u → u.left ≡ if_known s.left [] → new.end - new.start ≤ new.limit → IsLastRange new.start new.end place
    → fin.buffer.items ≡ new.buffer.items → fin.received ≡ new.received → fin.limit ≡ new.limit → fin.stopped ≡ None → fin.start ≡ new.end → fin.end ≡ new.end
    → FindsLine a fin s u place
FindsLine-ended a new fin s u place w over few is items received limit going start end =
    let none : has_newline (held_bytes new) ≡ false = ap has_newline w.held_so ∙ w.no_newline in
    let found = found-last new place is none few in
    record {
      bytes = w.bytes;
      drops = record {
        reads = ReadsBytes-as _ _ _ _ _ _ received limit w.reads;
        no_fault = w.no_fault;
        rest = ap (λ n. take n (drop fin.start fin.buffer.items)) {y = 0} (omega (arith, start, end)) ∙ sym (alone (held_bytes a ++ w.bytes) w.no_newline).1;
        ended = inr over;
        goes_on = going;
      };
      found = subst (λ l. IsLineRange a.limit l fin.buffer.items place) w.held_so (subst (λ m. IsLineRange m (held_bytes new) fin.buffer.items place) (w.reads.same_limit) (subst (λ l. IsLineRange new.limit (held_bytes new) l place) (sym items) found));
    }

nothing_came : (mid new : LineReader) (t u : SourceState) → ReadsMore mid new t u 0 → new_bytes mid new ≡ []
nothing_came mid new t u more = ap (λ n. take n (drop mid.end new.buffer.items)) {y = 0} (omega (arith, more.end_so))

pub FindsLine-last : (a mid new fin : LineReader) (s t u : SourceState) (place : LineRange)
    → ReadsUnended (line_reader_state a) (line_reader_state mid) s t → ReadsMore mid new t u 0 → mid.end - mid.start ≤ mid.limit → IsLastRange new.start new.end place
    → fin.buffer.items ≡ new.buffer.items → fin.received ≡ new.received → fin.limit ≡ new.limit → fin.stopped ≡ None → fin.start ≡ new.end → fin.end ≡ new.end
    → FindsLine a fin s u place
FindsLine-last a mid new fin s t u place waits more few is items received limit going start end =
    FindsLine-ended a new fin s u place
    (ReadsUnended-more (line_reader_state a) mid new s t u 0 waits more (ap has_newline (nothing_came mid new t u more)))
    (more.ends refl ∙ told-same s.left t.left waits.bytes waits.reads.consumed)
    (omega (arith, more.end_so, more.same_start, more.reads.same_limit, few))
    is items received limit going start end

ended-later : (xs ys : List ℕ) (s t u : Option (List ℕ)) (p : List ℕ) → xs ≡ ys → Consumes s t p → (has_newline xs ≡ true) ⊎ (u ≡ if_known t []) → (has_newline ys ≡ true) ⊎ (u ≡ if_known s [])
ended-later xs ys s t u p same consumed (inl h) = inl (ap has_newline (sym same) ∙ h)
ended-later xs ys s t u p same consumed (inr h) = inr (h ∙ told-same s t p consumed)

-- a wait, and then a line
pub FindsLine-later : (a b c : LineReader) (s t u : SourceState) (place : LineRange) → ReadsUnended (line_reader_state a) (line_reader_state b) s t → FindsLine b c t u place → FindsLine a c s u place
FindsLine-later a b c s t u place waits finds =
    let whole : held_bytes b ++ finds.bytes ≡ held_bytes a ++ (waits.bytes ++ finds.bytes) = ap (λ l. l ++ finds.bytes) waits.held_so ∙ append_assoc (held_bytes a) waits.bytes finds.bytes in
    record {
      bytes = waits.bytes ++ finds.bytes;
      drops = record {
        reads = ReadsBytes-trans _ _ _ _ _ _ _ _ waits.reads finds.drops.reads;
        no_fault = finds.drops.no_fault ∙ waits.no_fault;
        rest = finds.drops.rest ∙ ap after_line whole;
        ended = ended-later (held_bytes b ++ finds.bytes) (held_bytes a ++ (waits.bytes ++ finds.bytes)) s.left t.left u.left waits.bytes whole waits.reads.consumed finds.drops.ended;
        goes_on = finds.drops.goes_on;
      };
      found = subst (λ l. IsLineRange a.limit l c.buffer.items place) whole (subst (λ m. IsLineRange m (held_bytes b ++ finds.bytes) c.buffer.items place) waits.reads.same_limit finds.found);
    }

-- ---- a line that is too long

-- more of it reads, and none is held
pub SkipsLine-more : (a : ReaderState) (mid new : LineReader) (fin : ReaderState) (s t u : SourceState) (n : ℕ)
    → SkipsLine a (line_reader_state mid) s t → ReadsMore mid new t u n → has_newline (new_bytes mid new) ≡ false
    → fin.received ≡ new.received → fin.limit ≡ new.limit → fin.stopped ≡ None → fin.held ≡ [] → SkipsLine a fin s u
SkipsLine-more a mid new fin s t u n skips more none received limit going held =
    let fresh = new_bytes mid new in
    let all = append_assoc a.held skips.bytes fresh in
    record {
      bytes = skips.bytes ++ fresh;
      reads = ReadsBytes-as _ _ _ _ _ _ received limit (ReadsBytes-trans _ _ _ _ _ _ _ _ skips.reads more.reads);
      no_fault = more.no_fault ∙ skips.no_fault;
      held_none = held;
      no_newline = ap has_newline (sym all) ∙ (unended (a.held ++ skips.bytes) fresh skips.no_newline).2 ∙ none;
      goes_on = going;
    }

too_long : (limit : ℕ) (held bytes fresh : List ℕ) → has_newline (held ++ bytes) ≡ false → limit < length held → limit < length (first_line (held ++ (bytes ++ fresh)))
too_long limit held bytes fresh none long =
    let line : first_line (held ++ (bytes ++ fresh)) ≡ held ++ bytes ++ first_line fresh = ap first_line (sym (append_assoc held bytes fresh)) ∙ (unended (held ++ bytes) fresh none).0 in
    omega (arith, ap length line, length-append (held ++ bytes) (first_line fresh), length-append held bytes, long)

-- its end reads
pub FindsLine-skipped : (a mid new fin : LineReader) (s t u : SourceState) (n k : ℕ)
    → SkipsLine (line_reader_state a) (line_reader_state mid) s t → ReadsMore mid new t u n → IsFirstNewline (new_bytes mid new) (Some k) → a.limit < length (held_bytes a)
    → fin.received ≡ new.received → fin.limit ≡ new.limit → fin.stopped ≡ None → held_bytes fin ≡ drop (k + 1) (new_bytes mid new) → FindsLine a fin s u TooLong
FindsLine-skipped a mid new fin s t u n k skips more here long received limit going held =
    let fresh = new_bytes mid new in
    let all = append_assoc (held_bytes a) skips.bytes fresh in
    let p = unended (held_bytes a ++ skips.bytes) fresh skips.no_newline in
    record {
      bytes = skips.bytes ++ fresh;
      drops = record {
        reads = ReadsBytes-as _ _ _ _ _ _ received limit (ReadsBytes-trans _ _ _ _ _ _ _ _ skips.reads more.reads);
        no_fault = more.no_fault ∙ skips.no_fault;
        rest = held ∙ sym here.3 ∙ sym p.1 ∙ ap after_line all;
        ended = inl (ap has_newline (sym all) ∙ p.2 ∙ here.1);
        goes_on = going;
      };
      found = too_long a.limit (held_bytes a) skips.bytes fresh skips.no_newline long;
    }

-- the source ended before it
FindsLine-cut-off : (a new : LineReader) (s u : SourceState) → SkipsLine (line_reader_state a) (line_reader_state new) s u → u.left ≡ if_known s.left [] → a.limit < length (held_bytes a) → FindsLine a new s u TooLong
FindsLine-cut-off a new s u w over long =
    let p = alone (held_bytes a ++ w.bytes) w.no_newline in
    record {
      bytes = w.bytes;
      drops = record { reads = w.reads; no_fault = w.no_fault; rest = w.held_none ∙ sym p.1; ended = inr over; goes_on = w.goes_on };
      found = subst (λ l. a.limit < length l) (sym p.0) (omega (arith, length-append (held_bytes a) w.bytes, long));
    }

pub no_bytes : (items : List ℕ) (start : ℕ) → slice_range items start 0 ≡ []
no_bytes items start = ap (λ n. take n (drop start items)) {x = 0 - start} {y = 0} (omega arith)

pub FindsLine-cut : (a mid new : LineReader) (s t u : SourceState)
    → SkipsLine (line_reader_state a) (line_reader_state mid) s t → ReadsMore mid new t u 0 → a.limit < length (held_bytes a) → mid.end ≡ 0 → FindsLine a new s u TooLong
FindsLine-cut a mid new s t u skips more long empty =
    let held : held_bytes new ≡ [] = ap (λ n. take n (drop new.start new.buffer.items)) {y = 0} (omega (arith, more.end_so, empty)) in
    FindsLine-cut-off a new s u
    (SkipsLine-more (line_reader_state a) mid new (line_reader_state new) s t u 0 skips more (ap has_newline (nothing_came mid new t u more)) refl refl more.goes_on held)
    (more.ends refl ∙ told-same s.left t.left skips.bytes skips.reads.consumed) long

-- what is found in the whole buffer is found in what reads, where nothing was held
pub fresh-whole : (mid new : LineReader) → mid.end ≡ 0 → take new.end new.buffer.items ≡ new_bytes mid new
fresh-whole mid new empty = sym (between_from_start new.buffer.items new.end) ∙ ap (λ i. slice_range new.buffer.items i new.end) (sym empty)

pub behind-whole : (mid new : LineReader) (k : ℕ) → mid.end ≡ 0 → slice_range new.buffer.items (k + 1) new.end ≡ drop (k + 1) (new_bytes mid new)
behind-whole mid new k empty = between_is new.buffer.items (k + 1) new.end ∙ ap (drop (k + 1)) (fresh-whole mid new empty)
