-- Texts that are written one after another.
use Rattle.std.proofs.Common.{◌≡◌, ◌⊎◌, ℕ, ◌<◌, inl, inr, Bool, true, false, List, [], ◌++◌, Ok, Err, Result, refl, sym, ◌∙◌, subst, arith, append-nil}
use Rattle.std.specs.declared.option.Option.{Option}
use Rattle.std.proofs.lemmas.Bool.{cases_lt}
use Rattle.json_io.specs.Errors.{no_memory, writing_failed}
use Rattle.json_io.specs.Known.{Appends}
use Rattle.json_io.specs.Outside.{SinkState, Rose}
use Rattle.json_io.specs.Transfer.{AppendsFront, Puts, WritingCause}
use Rattle.json_io.specs.declared.error.Error.{Error}
use Rattle.json_io.specs.declared.error.ErrorCode.{ErrorCode}
use Rattle.json_io.specs.declared.error.ErrorCode.TheVariants.{NoMemory, Io}
use Rattle.json_io.specs.declared.error.Place.{Place}
use Rattle.json_io.specs.declared.error.Place.TheVariants.{None as nowhere, Writing}
use Rattle.json_io.proofs.Known.{Appends-nil, Appends-trans}
use Rattle.json_io.proofs.Putting.{AppendsFront-first, AppendsFront-then, Puts-nil, Puts-first, Puts-then}
use Rattle.json_command.specs.Printing.{PrintingFails, Prints}
use Rattle.json_command.specs.Reporting.{Reports, ReportsUnlessMuted}
use Rattle.mezdruk_files.specs.Writing.{WritingFails, WritesOutput}

-- ---- one text

pub WritesOutput-nil : (s : SinkState) → WritesOutput s s [] (Ok tt)
WritesOutput-nil s = record { ok = Appends-nil s.gained; flushed = λ h. h; err = tt; reported = λ l. absurd (omega (arith, l)) }

pub front_none : (a : Option (List ℕ)) (text : List ℕ) → AppendsFront a a text
front_none a text = record { front = []; back = text; whole = refl; gains = Appends-nil a }

fails_from : (old new : SinkState) (text : List ℕ) (code : ErrorCode) (place : Place) → PrintingFails old new text code place → WritingFails old new text code place
fails_from old new text NoMemory nowhere (inl same) = subst (λ (s : SinkState). AppendsFront old.gained s.gained text) (sym same) (front_none old.gained text)
fails_from old new text NoMemory nowhere (inr front) = front
fails_from old new text Io Writing h = (h.1, record { before = old; gained = front_none old.gained text; rose = h.0 })
fails_from old new text code place h = absurd h

-- what is printed and flushed is written
pub WritesOutput-from : (old new : SinkState) (text : List ℕ) (r : Result (Unit {0}) Error) → Prints old new text r → WritesOutput old new text r
WritesOutput-from old new text (Ok u) h = record { ok = h.ok; flushed = λ _. h.flushed; err = tt; reported = h.reported }
WritesOutput-from old new text (Err e) h = record { ok = tt; flushed = tt; err = fails_from old new text e.code e.place h.err; reported = h.reported }

-- ---- one text after another

pub fails_then : (a b c : SinkState) (p q : List ℕ) (code : ErrorCode) (place : Place) → Appends a.gained b.gained p → WritingFails b c q code place → WritingFails a c (p ++ q) code place
fails_then a b c p q NoMemory nowhere g h = AppendsFront-then a.gained b.gained c.gained p q g h
fails_then a b c p q Io Writing g h =
    (AppendsFront-then a.gained b.gained c.gained p q g h.0, record { before = h.1.before; gained = AppendsFront-then a.gained b.gained h.1.before.gained p q g h.1.gained; rose = h.1.rose })
fails_then a b c p q code place g h = absurd h

pub fails_first : (a b : SinkState) (p q : List ℕ) (code : ErrorCode) (place : Place) → WritingFails a b p code place → WritingFails a b (p ++ q) code place
fails_first a b p q NoMemory nowhere h = AppendsFront-first a.gained b.gained p q h
fails_first a b p q Io Writing h = (AppendsFront-first a.gained b.gained p q h.0, record { before = h.1.before; gained = AppendsFront-first a.gained h.1.before.gained p q h.1.gained; rose = h.1.rose })
fails_first a b p q code place h = absurd h

pub ok_no_error : (u : Unit {0}) (e : Error) → Ok u ≡ Err e → ⊥
ok_no_error u e h = cc

-- a failed call after written text is reported
pub reported_then : {A : Type 0} (a b c : SinkState) (p : List ℕ) (u : Unit {0}) (r : Result A Error) → WritesOutput a b p (Ok u) → (b.faults < c.faults → r ≡ Err writing_failed) → a.faults < c.faults → r ≡ Err writing_failed
reported_then a b c p u r g h l = elim (cases_lt a.faults b.faults) [ inl m ↦ absurd (ok_no_error u writing_failed (g.reported m)) | inr m ↦ h (omega (arith, l, m)) ]

-- a failed write is one whatever a call counts
pub err_counted : (e : Error) → ◌≡◌ {A = Result (Unit {0}) Error} (Err e) (Err writing_failed) → ◌≡◌ {A = Result ℕ Error} (Err e) (Err writing_failed)
err_counted e h = let same : e ≡ writing_failed = cc in rw same refl

pub WritesOutput-then : (a b c : SinkState) (p q : List ℕ) (u : Unit {0}) (r : Result (Unit {0}) Error) → WritesOutput a b p (Ok u) → WritesOutput b c q r → WritesOutput a c (p ++ q) r
WritesOutput-then a b c p q u (Ok v) g h =
    record { ok = Appends-trans a.gained b.gained c.gained p q g.ok h.ok; flushed = λ s. h.flushed (g.flushed s); err = tt; reported = reported_then a b c p u (Ok v) g h.reported }
WritesOutput-then a b c p q u (Err e) g h =
    record { ok = tt; flushed = tt; err = fails_then a b c p q e.code e.place g.ok h.err; reported = reported_then a b c p u (Err e) g h.reported }

pub WritesOutput-first : (a b : SinkState) (p q : List ℕ) (e : Error) → WritesOutput a b p (Err e) → WritesOutput a b (p ++ q) (Err e)
WritesOutput-first a b p q e h = record { ok = tt; flushed = tt; err = fails_first a b p q e.code e.place h.err; reported = h.reported }

-- memory ran out after written text
pub written_then_none : (a b c : SinkState) (p : List ℕ) (u : Unit {0}) (e : Error) → WritesOutput a b p (Ok u) → e ≡ no_memory → c ≡ b → WritingFails a c p e.code e.place
written_then_none a b c p u e g is same = rw (is, same) (record { front = p; back = []; whole = sym (append-nil p); gains = g.ok })

-- ---- reports

pub muted_nil : (m : Bool) (s : SinkState) → ReportsUnlessMuted m m s s []
muted_nil false s = Puts-nil s
muted_nil true s = refl

pub ReportsUnlessMuted-then : (m p q : Bool) (a b c : SinkState) (xs ys : List ℕ) → ReportsUnlessMuted m p a b xs → ReportsUnlessMuted p q b c ys → ReportsUnlessMuted m q a c (xs ++ ys)
ReportsUnlessMuted-then false false false a b c xs ys g h = Puts-then a b c xs ys tt (Ok tt) g h
ReportsUnlessMuted-then false false true a b c xs ys g h = (h.0, Puts-then a b c xs ys tt (Err h.0) g h.1)
ReportsUnlessMuted-then false true true a b c xs ys g h = subst (λ s. ReportsUnlessMuted false true a s (xs ++ ys)) (sym h) (g.0, Puts-first a b xs ys g.0 g.1)
ReportsUnlessMuted-then true true true a b c xs ys g h = h ∙ g
ReportsUnlessMuted-then m true false a b c xs ys g h = absurd h
ReportsUnlessMuted-then true false q a b c xs ys g h = absurd g

reported_row : (code : ErrorCode) (place : Place) (a c : SinkState) → WritingCause a c code place → Rose a.faults c.faults ⊎ Rose a.lacks c.lacks
reported_row NoMemory nowhere a c h = inr h
reported_row Io Writing a c h = inl h
reported_row code place a c h = absurd h

pub Reports-from : (muted : Bool) (a c : SinkState) (text : List ℕ) → ReportsUnlessMuted false muted a c text → Reports text a c
Reports-from false a c text h = inl h.ok
Reports-from true a c text h = inr (h.1.err, reported_row h.0.code h.0.place a c h.1.cause)

-- all was reported, and then one text more
last_text : (a b c : SinkState) (xs text : List ℕ) → Puts a b xs (Ok tt) → Reports text b c → Reports (xs ++ text) a c
last_text a b c xs text h (inl k) = inl (Appends-trans a.gained b.gained c.gained xs text h.ok k)
last_text a b c xs text h (inr (front, inl rose)) = inr (AppendsFront-then a.gained b.gained c.gained xs text h.ok front, inl (subst (λ n. Rose n c.faults) h.faults_ok rose))
last_text a b c xs text h (inr (front, inr rose)) = inr (AppendsFront-then a.gained b.gained c.gained xs text h.ok front, inr (subst (λ n. Rose n c.lacks) h.lacks_ok rose))

pub Reports-last : (muted : Bool) (a b c : SinkState) (xs text : List ℕ) → ReportsUnlessMuted false muted a b xs → (muted ≡ false → Reports text b c) → (muted ≡ true → c ≡ b) → Reports (xs ++ text) a c
Reports-last false a b c xs text h reported silent = last_text a b c xs text h (reported refl)
Reports-last true a b c xs text h reported silent =
    subst (Reports (xs ++ text) a) (sym (silent refl)) (inr (AppendsFront-first a.gained b.gained xs text h.1.err, reported_row h.0.code h.0.place a b h.1.cause))
