-- The rows and the errors of some lines, and of others after them.
use Rattle.std.proofs.Common.{◌≡◌, ℕ, suc, ◌+◌, Bool, true, false, ◌||◌, List, [], ◌∷◌, ◌++◌, length, Ok, Err, refl, sym, ap, ◌∙◌, subst, arith, append_assoc, append-nil}
use Rattle.json_io.specs.Outside.{SinkState}
use Rattle.json_io.proofs.Putting.{Puts-then, Puts-first}
use Rattle.json_lines.specs.Rows.{Outcome, outcome_row, is_bad, error_bytes, rows_of, errors_from, some_bad, AllHave}
use Rattle.json_command.specs.Reporting.{ReportsUnlessMuted}

pub rows_of-append : (os ps : List Outcome) → rows_of (os ++ ps) ≡ rows_of os ++ rows_of ps
rows_of-append [] ps = refl
rows_of-append (o ∷ os) ps = ap (λ l. outcome_row o ++ l) (rows_of-append os ps) ∙ sym (append_assoc (outcome_row o) (rows_of os) (rows_of ps))

pub errors_from-append : (n : ℕ) (os ps : List Outcome) → errors_from n (os ++ ps) ≡ errors_from n os ++ errors_from (n + length os) ps
errors_from-append n [] ps = ap (λ m. errors_from m ps) {x = n} {y = n + 0} (omega arith)
errors_from-append n (o ∷ os) ps =
    ap (λ l. error_bytes n o ++ l) (errors_from-append (n + 1) os ps ∙ ap (λ m. errors_from (n + 1) os ++ errors_from m ps) {x = n + 1 + length os} {y = n + suc (length os)} (omega arith))
    ∙ sym (append_assoc (error_bytes n o) (errors_from (n + 1) os) (errors_from (n + suc (length os)) ps))

or_assoc : (a b c : Bool) → (a || (b || c)) ≡ ((a || b) || c)
or_assoc true b c = refl
or_assoc false b c = refl

or_false : (a : Bool) → (a || false) ≡ a
or_false true = refl
or_false false = refl

pub some_bad-append : (os ps : List Outcome) → some_bad (os ++ ps) ≡ (some_bad os || some_bad ps)
some_bad-append [] ps = refl
some_bad-append (o ∷ os) ps = ap (λ t. is_bad o || t) (some_bad-append os ps) ∙ or_assoc (is_bad o) (some_bad os) (some_bad ps)

-- ---- one outcome more

pub rows_of-more : (os : List Outcome) (o : Outcome) → rows_of (os ++ o ∷ []) ≡ rows_of os ++ outcome_row o
rows_of-more os o = rows_of-append os (o ∷ []) ∙ ap (λ l. rows_of os ++ l) (append-nil (outcome_row o))

pub errors_from-more : (n : ℕ) (os : List Outcome) (o : Outcome) → errors_from n (os ++ o ∷ []) ≡ errors_from n os ++ error_bytes (n + length os) o
errors_from-more n os o = errors_from-append n os (o ∷ []) ∙ ap (λ l. errors_from n os ++ l) (append-nil (error_bytes (n + length os) o))

pub some_bad-more : (os : List Outcome) (o : Outcome) → some_bad (os ++ o ∷ []) ≡ (some_bad os || is_bad o)
some_bad-more os o = some_bad-append os (o ∷ []) ∙ ap (λ t. some_bad os || t) (or_false (is_bad o))

-- ---- each line has its outcome

pub AllHave-append : (has : List ℕ → Outcome → Type 0) (xs ys : List (List ℕ)) (os ps : List Outcome) → AllHave has xs os → AllHave has ys ps → AllHave has (xs ++ ys) (os ++ ps)
AllHave-append has [] ys [] ps h k = k
AllHave-append has (x ∷ xs) ys (o ∷ os) ps h k = (h.0, AllHave-append has xs ys os ps h.1 k)
AllHave-append has [] ys (o ∷ os) ps h k = absurd h
AllHave-append has (x ∷ xs) ys [] ps h k = absurd h

pub AllHave-length : (has : List ℕ → Outcome → Type 0) (xs : List (List ℕ)) (os : List Outcome) → AllHave has xs os → length os ≡ length xs
AllHave-length has [] [] h = refl
AllHave-length has (x ∷ xs) (o ∷ os) h = ap suc (AllHave-length has xs os h.1)
AllHave-length has [] (o ∷ os) h = absurd h
AllHave-length has (x ∷ xs) [] h = absurd h

-- one text more
pub ReportsUnlessMuted-then : (p q : Bool) (a b c : SinkState) (xs ys : List ℕ) → ReportsUnlessMuted false p a b xs → ReportsUnlessMuted p q b c ys → ReportsUnlessMuted false q a c (xs ++ ys)
ReportsUnlessMuted-then false false a b c xs ys g h = Puts-then a b c xs ys tt (Ok tt) g h
ReportsUnlessMuted-then false true a b c xs ys g h = (h.0, Puts-then a b c xs ys tt (Err h.0) g h.1)
ReportsUnlessMuted-then true true a b c xs ys g h = subst (λ s. ReportsUnlessMuted false true a s (xs ++ ys)) (sym h) (g.0, Puts-first a b xs ys g.0 g.1)
ReportsUnlessMuted-then true false a b c xs ys g h = absurd h
