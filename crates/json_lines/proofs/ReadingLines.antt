-- The reader's side of a loop over lines, for any program that calls `next_line` until it returns
-- `None` or an error.
use Rattle.std.proofs.Common.{◌≡◌, ℕ, ◌+◌, ◌-◌, ◌<◌, ◌≤◌, ◌⊎◌, inl, inr, Bool, true, false, List, [], ◌∷◌, ◌++◌, length, Option, None, Some, Ok, Err, IfSome, refl, sym, ap, ◌∙◌, subst, arith, append_assoc, append-nil}
use Rattle.std.proofs.lemmas.List.{length-append}
use Rattle.std.proofs.lemmas.Bool.{false≢true}
use Rattle.json_io.specs.Errors.{reading_failed}
use Rattle.json_io.specs.Known.{Consumes, prepend_known, if_known}
use Rattle.json_io.specs.Outside.{SourceState}
use Rattle.json_io.proofs.Known.{Consumes-nil}
use Rattle.json_io.specs.declared.error.Error.{Error}
use Rattle.json_io.specs.declared.error.ErrorCode.{ErrorCode}
use Rattle.json_io.specs.declared.error.ErrorCode.TheVariants.{Io, TooLarge}
use Rattle.json_io.specs.declared.error.Place.{Place}
use Rattle.json_io.specs.declared.error.Place.TheVariants.{None as nowhere, Reading}
use Rattle.json_lines.specs.declared.line_reader.Line.{Line}
use Rattle.json_lines.specs.declared.line_reader.Line.TheVariants.{Whole, TooLong}
use Rattle.json_lines.specs.Lines.{lines, has_newline, first_line, after_line}
use Rattle.json_lines.specs.Reading.{ReaderState, ReadsBytes, IsLine, IsLineOf, NextLineCause, NextLineCall}
use Rattle.json_command.specs.Input.{max_bytes}
use Rattle.json_lines.proofs.ReaderSteps.{ReadsBytes-trans, ReadsBytes-none, cause-later}
use Rattle.json_lines.proofs.FindingLines.{told-same}
use Rattle.json_lines.proofs.LinesDone.{LinesAreDone, LinesAreDone-more, done_part, done-whole, after-shorter, IsLine-some}

-- these lines were read, one call after another, and no call failed
pub record ReadsLines (old new : ReaderState) (source source' : SourceState) (done : List (List ℕ)) : Type 0 where
  pub bytes : List ℕ
  pub reads : ReadsBytes old new source source' bytes
  pub no_fault : source'.faults ≡ source.faults
  pub going : new.stopped ≡ None
  pub few : new.received ≤ max_bytes
  -- the bytes of these lines, with their newlines
  pub passed : List ℕ
  pub whole : bytes ≡ passed ++ new.held
  pub through : IfSome source'.left (λ left. LinesAreDone passed done (new.held ++ left))
  -- there are no more lines than bytes
  pub room : length done + length new.held ≤ new.received

-- one line more was read
pub record ReadsOneMore (old mid new : ReaderState) (source source' : SourceState) (done : List (List ℕ)) (line : Line) : Type 0 where
  pub bytes : List ℕ
  pub is : IsLineOf old.limit bytes line
  pub reads : ReadsLines old new source source' (done ++ bytes ∷ [])
  -- what is left to read, and what is held, gets smaller
  pub smaller : max_bytes - new.received + length new.held < max_bytes - mid.received + length mid.held

-- there was no further line
pub record ReadsAllLines (old new : ReaderState) (source source' : SourceState) (done : List (List ℕ)) : Type 0 where
  pub bytes : List ℕ
  pub reads : ReadsBytes old new source source' bytes
  pub all : IfSome source.left (λ b. b ≡ bytes)
  pub drained : source'.left ≡ if_known source.left []
  pub no_fault : source'.faults ≡ source.faults
  pub few : new.received ≤ max_bytes
  pub done_all : IfSome source.left (λ b. done ≡ lines b)

-- a call failed
pub record ReadingLinesFails (old new : ReaderState) (source source' : SourceState) (done : List (List ℕ)) (error : Error) : Type 0 where
  pub bytes : List ℕ
  pub reads : ReadsBytes old new source source' bytes
  pub later : List (List ℕ)
  pub parted : IfSome source.left (λ _. lines bytes ≡ done ++ later)
  pub cause : NextLineCause new source source' error.code error.place
  pub reported : source.faults < source'.faults → error ≡ reading_failed

-- ---- the start

through_start : (left : Option (List ℕ)) (held : List ℕ) → IfSome left (λ left. LinesAreDone [] [] (held ++ left))
through_start None held = tt
through_start (Some left) held = λ x y is. refl

pub ReadsLines-start : (a : ReaderState) (s : SourceState) → a.held ≡ [] → a.received ≡ 0 → a.stopped ≡ None → ReadsLines a a s s []
ReadsLines-start a s held received going =
    record {
      bytes = [];
      reads = ReadsBytes-none a a s refl refl;
      no_fault = refl;
      going = going;
      few = omega (arith, received);
      passed = [];
      whole = sym held;
      through = through_start s.left a.held;
      room = omega (arith, received, ap length held);
    }

-- ---- one line more

some_same : (x y : List ℕ) → Some x ≡ Some y → x ≡ y
some_same x y h = cc

-- where no line ends, the source did
source_over : (xs bytes left : List ℕ) (b : Option (List ℕ)) → Consumes b (Some left) bytes → (has_newline xs ≡ true) ⊎ (Some left ≡ if_known b []) → has_newline xs ≡ false → left ≡ []
source_over xs bytes left b consumed (inl ends) none = absurd (false≢true (sym none ∙ ends))
source_over xs bytes left b consumed (inr ends) none = some_same left [] (ends ∙ ap (λ k. if_known k []) consumed)

through_more : (t : Bool) (b c : Option (List ℕ)) (passed held held' bytes : List ℕ) (done : List (List ℕ)) → has_newline (held ++ bytes) ≡ t → 0 < length (held ++ bytes) → Consumes b c bytes
    → (has_newline (held ++ bytes) ≡ true) ⊎ (c ≡ if_known b []) → held' ≡ after_line (held ++ bytes)
    → IfSome b (λ left. LinesAreDone passed done (held ++ left)) → IfSome c (λ left. LinesAreDone (passed ++ done_part (held ++ bytes) t) (done ++ first_line (held ++ bytes) ∷ []) (held' ++ left))
through_more t b None passed held held' bytes done is some consumed ends rest through = tt
through_more t b (Some left) passed held held' bytes done is some consumed ends rest through =
    let whole = subst (λ k. IfSome k (λ left. LinesAreDone passed done (held ++ left))) consumed through in
    subst (λ l. LinesAreDone (passed ++ done_part (held ++ bytes) t) (done ++ first_line (held ++ bytes) ∷ []) (l ++ left)) (sym rest)
    (LinesAreDone-more t passed done (held ++ bytes) left is some (λ none. source_over (held ++ bytes) bytes left b consumed ends (is ∙ none)) (subst (LinesAreDone passed done) (sym (append_assoc held bytes left)) whole))

line_of : (limit : ℕ) (bytes : List ℕ) (line : Line) → IsLine limit bytes (Some line) → IsLineOf limit (first_line bytes) line
line_of limit bytes (Whole line) is = (is.1, omega (arith, is.2, ap length is.1))
line_of limit bytes TooLong is = is

pub ReadsLines-more : (a b c : ReaderState) (s t u : SourceState) (done : List (List ℕ)) (line : Line) → ReadsLines a b s t done → NextLineCall b c t u (Ok (Some line)) → ReadsOneMore a b c s u done line
ReadsLines-more a b c s t u done line before call =
    let next = call.first before.going in
    let xs = b.held ++ next.bytes in
    let ends = has_newline xs in
    let is : IsLine a.limit xs (Some line) = subst (λ m. IsLine m xs (Some line)) before.reads.same_limit next.line_read in
    let some : 0 < length xs = IsLine-some a.limit xs line is in
    record {
      bytes = first_line xs;
      is = line_of a.limit xs line is;
      reads = record {
        bytes = before.bytes ++ next.bytes;
        reads = ReadsBytes-trans a b c s t u before.bytes next.bytes before.reads next.reads;
        no_fault = next.no_fault ∙ before.no_fault;
        going = next.stops;
        few = next.few;
        passed = before.passed ++ done_part xs ends;
        whole = ap (λ l. l ++ next.bytes) before.whole ∙ append_assoc before.passed b.held next.bytes ∙ ap (λ l. before.passed ++ l) (done-whole xs ends refl) ∙ sym (append_assoc before.passed (done_part xs ends) (after_line xs))
            ∙ ap (λ l. before.passed ++ done_part xs ends ++ l) (sym next.rest_read);
        through = through_more ends t.left u.left before.passed b.held c.held next.bytes done refl some next.reads.consumed next.ended next.rest_read before.through;
        room = omega (arith, before.room, next.reads.received_so, ap length next.rest_read, after-shorter xs some, length-append b.held next.bytes, length-append done (first_line xs ∷ []));
      };
      smaller = omega (arith, next.reads.received_so, next.few, ap length next.rest_read, after-shorter xs some, length-append b.held next.bytes);
    }

-- ---- the end

nothing-first : (xs ys : List ℕ) → xs ++ ys ≡ [] → xs ≡ []
nothing-first [] ys h = refl
nothing-first (x ∷ xs) ys h = absurd (omega (arith, ap length h))

done_all : (al bl cl : Option (List ℕ)) (bytes bytes' passed held : List ℕ) (done : List (List ℕ)) → Consumes al bl bytes → Consumes bl cl bytes' → cl ≡ if_known bl [] → held ++ bytes' ≡ []
    → bytes ≡ passed ++ held → IfSome bl (λ left. LinesAreDone passed done (held ++ left)) → IfSome al (λ x. done ≡ lines x)
done_all al None cl bytes bytes' passed held done consumed more ends none whole through = subst (λ k. IfSome k (λ x. done ≡ lines x)) (sym consumed) tt
done_all al (Some left) cl bytes bytes' passed held done consumed more ends none whole through =
    let no_held : held ≡ [] = nothing-first held bytes' none in
    let no_more : bytes' ≡ [] = ap (λ l. l ++ bytes') (sym no_held) ∙ none in
    let no_left : left ≡ [] = some_same left [] (more ∙ ap (prepend_known bytes') ends ∙ ap (λ l. Some (l ++ [])) no_more) in
    let all : bytes ++ left ≡ passed = ap (λ l. bytes ++ l) no_left ∙ append-nil bytes ∙ whole ∙ ap (λ l. passed ++ l) no_held ∙ append-nil passed in
    let done_is : done ≡ lines passed = sym (append-nil done) ∙ sym (through [] [] (ap (λ l. l ++ left) no_held ∙ no_left)) ∙ ap lines (append-nil passed) in
    subst (λ k. IfSome k (λ x. done ≡ lines x)) (sym consumed) (done_is ∙ ap lines (sym all))

ended_none : (xs : List ℕ) (b c : Option (List ℕ)) → xs ≡ [] → (has_newline xs ≡ true) ⊎ (c ≡ if_known b []) → c ≡ if_known b []
ended_none xs b c none (inl h) = absurd (false≢true (ap has_newline (sym none) ∙ h))
ended_none xs b c none (inr h) = h

all_read : (al cl : Option (List ℕ)) (bytes : List ℕ) → Consumes al cl bytes → cl ≡ if_known al [] → IfSome al (λ b. b ≡ bytes)
all_read None cl bytes consumed drained = tt
all_read (Some x) cl bytes consumed drained = some_same x bytes (consumed ∙ ap (prepend_known bytes) drained ∙ ap Some (append-nil bytes))

pub ReadsLines-end : (a b c : ReaderState) (s t u : SourceState) (done : List (List ℕ)) → ReadsLines a b s t done → NextLineCall b c t u (Ok None) → ReadsAllLines a c s u done
ReadsLines-end a b c s t u done before call =
    let next = call.first before.going in
    let ends : u.left ≡ if_known t.left [] = ended_none (b.held ++ next.bytes) t.left u.left next.line_read next.ended in
    let drained = ends ∙ told-same s.left t.left before.bytes before.reads.consumed in
    let reads = ReadsBytes-trans a b c s t u before.bytes next.bytes before.reads next.reads in
    record {
      bytes = before.bytes ++ next.bytes;
      reads = reads;
      all = all_read s.left u.left (before.bytes ++ next.bytes) reads.consumed drained;
      drained = drained;
      no_fault = next.no_fault ∙ before.no_fault;
      few = next.few;
      done_all = done_all s.left t.left u.left before.bytes next.bytes before.passed b.held done before.reads.consumed next.reads.consumed ends next.line_read before.whole before.through;
    }

-- ---- a program that stops before the end

-- the lines of what was read
done_some : (al bl cl : Option (List ℕ)) (bytes bytes' passed held : List ℕ) (done : List (List ℕ)) → Consumes al bl bytes → Consumes bl cl bytes'
    → bytes ≡ passed ++ held → IfSome bl (λ left. LinesAreDone passed done (held ++ left)) → IfSome al (λ _. lines (bytes ++ bytes') ≡ done ++ lines (held ++ bytes'))
done_some al None cl bytes bytes' passed held done consumed more whole through = subst (λ k. IfSome k (λ _. lines (bytes ++ bytes') ≡ done ++ lines (held ++ bytes'))) (sym consumed) tt
done_some al (Some left) None bytes bytes' passed held done consumed more whole through = absurd (no_some left more)
  where
    no_some : (left : List ℕ) → Some left ≡ None → ⊥
    no_some left h = cc
done_some al (Some left) (Some rest) bytes bytes' passed held done consumed more whole through =
    let left_is : held ++ left ≡ held ++ bytes' ++ rest = ap (λ l. held ++ l) (some_same left (bytes' ++ rest) more) ∙ sym (append_assoc held bytes' rest) in
    subst (λ k. IfSome k (λ _. lines (bytes ++ bytes') ≡ done ++ lines (held ++ bytes'))) (sym consumed)
    (ap lines (ap (λ l. l ++ bytes') whole ∙ append_assoc passed held bytes') ∙ through (held ++ bytes') rest left_is)

-- the lines of the bytes so far are those that were read, and those of what is held
pub ReadsLines-parted : (a b : ReaderState) (s t : SourceState) (done : List (List ℕ)) → (before : ReadsLines a b s t done) → IfSome s.left (λ _. lines before.bytes ≡ done ++ lines b.held)
ReadsLines-parted a b s t done before =
    parted s.left
    (done_some s.left t.left t.left before.bytes [] before.passed b.held done before.reads.consumed (Consumes-nil t.left) before.whole before.through)
  where
    parted : (o : Option (List ℕ)) → IfSome o (λ _. lines (before.bytes ++ []) ≡ done ++ lines (b.held ++ [])) → IfSome o (λ _. lines before.bytes ≡ done ++ lines b.held)
    parted None h = tt
    parted (Some x) h = ap lines (sym (append-nil before.bytes)) ∙ h ∙ ap (λ l. done ++ lines l) (append-nil b.held)

-- the lines of all bytes that are known
known_lines : (al bl : Option (List ℕ)) (bytes passed held : List ℕ) (done : List (List ℕ)) → Consumes al bl bytes → bytes ≡ passed ++ held → IfSome bl (λ left. LinesAreDone passed done (held ++ left))
    → IfSome al (λ x. (later : List (List ℕ)) × (lines x ≡ done ++ later))
known_lines al None bytes passed held done consumed whole through = subst (λ k. IfSome k (λ x. (later : List (List ℕ)) × (lines x ≡ done ++ later))) (sym consumed) tt
known_lines al (Some left) bytes passed held done consumed whole through =
    subst (λ k. IfSome k (λ x. (later : List (List ℕ)) × (lines x ≡ done ++ later))) (sym consumed)
    (lines (held ++ left), ap lines (ap (λ l. l ++ left) whole ∙ append_assoc passed held left) ∙ through (held ++ left) [] (sym (append-nil (held ++ left))))

-- the lines of all bytes are those that were read, and others
pub ReadsLines-known : (a b : ReaderState) (s t : SourceState) (done : List (List ℕ)) → ReadsLines a b s t done → IfSome s.left (λ x. (later : List (List ℕ)) × (lines x ≡ done ++ later))
ReadsLines-known a b s t done before = known_lines s.left t.left before.bytes before.passed b.held done before.reads.consumed before.whole before.through

reading-told : (code : ErrorCode) (place : Place) (new : ReaderState) (s u : SourceState) → NextLineCause new s u code place → s.faults < u.faults → record { code = code; place = place } ≡ reading_failed
reading-told Io Reading new s u h l = refl
reading-told TooLarge nowhere new s u h l = absurd (omega (arith, h.0, l))
reading-told code place new s u h l = absurd h

pub ReadsLines-fail : (a b c : ReaderState) (s t u : SourceState) (done : List (List ℕ)) (e : Error) → ReadsLines a b s t done → NextLineCall b c t u (Err e) → ReadingLinesFails a c s u done e
ReadsLines-fail a b c s t u done e before call =
    let next = call.first before.going in
    let cause = cause-later e.code e.place c s t u before.no_fault next.cause in
    record {
      bytes = before.bytes ++ next.bytes;
      reads = ReadsBytes-trans a b c s t u before.bytes next.bytes before.reads next.reads;
      later = lines (b.held ++ next.bytes);
      parted = done_some s.left t.left u.left before.bytes next.bytes before.passed b.held done before.reads.consumed next.reads.consumed before.whole before.through;
      cause = cause;
      reported = λ l. reading-told e.code e.place c s u cause l;
    }
