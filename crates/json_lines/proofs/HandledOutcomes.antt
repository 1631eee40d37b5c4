-- The outcomes of the lines that a run handles: if it is strict, of none after the first bad one.
use Rattle.std.proofs.Common.{◌≡◌, ℕ, Bool, true, false, ◌||◌, List, [], ◌∷◌, ◌++◌, length, refl, sym, ap, ◌∙◌, arith, append_assoc, append-nil}
use Rattle.std.proofs.lemmas.Bool.{false≢true}
use Rattle.json_lines.specs.Rows.{Outcome, Row, Bad, is_bad, some_bad, up_to_bad, handled_by, AreHandledFirst, AreHandledAlone}
use Rattle.json_lines.proofs.Totals.{some_bad-more}

-- where the run is strict, none of these is bad
abbrev pub AreGood : Bool → List Outcome → Type 0
AreGood strict outcomes = strict ≡ true → some_bad outcomes ≡ false

after_good : (os ps : List Outcome) → some_bad os ≡ false → up_to_bad (os ++ ps) ≡ os ++ up_to_bad ps
after_good [] ps h = refl
after_good (Row bytes ∷ os) ps h = ap (λ l. Row bytes ∷ l) (after_good os ps h)
after_good (Bad text ∷ os) ps h = absurd (false≢true (sym h))

-- the first bad one is the last that is handled
after_bad : (os : List Outcome) (text : List ℕ) (ps : List Outcome) → some_bad os ≡ false → up_to_bad ((os ++ Bad text ∷ []) ++ ps) ≡ os ++ Bad text ∷ []
after_bad os text ps h = ap up_to_bad (append_assoc os (Bad text ∷ []) ps) ∙ after_good os (Bad text ∷ ps) h

-- those before the first bad one are handled
pub good_first : (strict : Bool) (os : List Outcome) → AreGood strict os → AreHandledFirst strict os
good_first false os h later = (later, refl)
good_first true os h later = (up_to_bad later, after_good os later (h refl))

-- so is one more
pub one_first : (strict : Bool) (os : List Outcome) (o : Outcome) → AreGood strict os → AreHandledFirst strict (os ++ o ∷ [])
one_first false os o h later = (later, refl)
one_first true os (Row bytes) h later = good_first true (os ++ Row bytes ∷ []) (λ e. some_bad-more os (Row bytes) ∙ ap (λ t. t || false) (h e)) later
one_first true os (Bad text) h later = ([], after_bad os text later (h refl) ∙ sym (append-nil (os ++ Bad text ∷ [])))

-- they are all
pub good_alone : (strict : Bool) (os : List Outcome) → AreGood strict os → AreHandledAlone strict os 0
good_alone false os h [] none = append-nil os
good_alone true os h [] none = after_good os [] (h refl) ∙ append-nil os
good_alone strict os h (o ∷ later) none = absurd (omega (arith, none))

-- so are those up to the first bad one
pub bad_alone : (os : List Outcome) (o : Outcome) (n : ℕ) → some_bad os ≡ false → is_bad o ≡ true → AreHandledAlone true (os ++ o ∷ []) n
bad_alone os (Row bytes) n h bad later is = absurd (false≢true bad)
bad_alone os (Bad text) n h bad later is = after_bad os text later h

pub some_bad-handled : (strict : Bool) (os : List Outcome) → some_bad (handled_by strict os) ≡ some_bad os
some_bad-handled false os = refl
some_bad-handled true [] = refl
some_bad-handled true (Row bytes ∷ os) = some_bad-handled true os
some_bad-handled true (Bad text ∷ os) = refl
