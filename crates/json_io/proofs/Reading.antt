-- What the loop over a source keeps.
use Rattle.std.proofs.Common.{◌≡◌, ℕ, ◌+◌, ◌≤◌, List, ◌++◌, length, take, drop, arith, ap, ◌∙◌, subst, sym}
use Rattle.std.proofs.Math.Seq.{take-add}
use Rattle.std.proofs.lemmas.List.{length-append}
use Rattle.json_io.specs.declared.error.ErrorCode.{ErrorCode}
use Rattle.json_io.specs.declared.error.ErrorCode.TheVariants.{NoMemory, Io}
use Rattle.json_io.specs.declared.error.Place.{Place}
use Rattle.json_io.specs.declared.error.Place.TheVariants.{None as nowhere, Reading}
use Rattle.json_io.specs.Outside.{SourceState, counted}
use Rattle.json_io.specs.Transfer.{Gives, PieceCause, TakesAtMost}
use Rattle.json_io.specs.Known.{prepend_known}
use Rattle.json_io.proofs.Known.{Consumes-trans}

counted-counted : (n m a : ℕ) → counted m (counted n a) ≡ counted (n + m) a
counted-counted n m a = omega arith

Gives-trans : (a b c : SourceState) (p q : List ℕ) → Gives a b p → Gives b c q → Gives a c (p ++ q)
Gives-trans a b c p q g h =
    record {
      consumed = Consumes-trans a.left b.left c.left p q g.consumed h.consumed;
      given_so = h.given_so ∙ ap (counted (length q)) g.given_so ∙ counted-counted (length p) (length q) a.given ∙ ap (λ n. counted n a.given) (sym (length-append p q));
      no_fault = h.no_fault ∙ g.no_fault;
    }

-- one read more, after the first bytes of a vector
pub Gives-more : (a b c : SourceState) (filled n : ℕ) (items items' : List ℕ) → Gives a b (take filled items) → take filled items' ≡ take filled items → Gives b c (take n (drop filled items'))
    → Gives a c (take (filled + n) items')
Gives-more a b c filled n items items' g front h =
    rw take-add (Gives-trans a b c _ _ (subst (Gives a b) (sym front) g) h)

-- a read that gave nothing
pub TakesAtMost-stopped : (most : ℕ) (a b c : SourceState) (p : List ℕ) (code : ErrorCode) (place : Place) → Gives a b p → length p ≤ most → PieceCause b c code place → TakesAtMost most a c
TakesAtMost-stopped most a b c p NoMemory nowhere g few h =
    subst (TakesAtMost most a) (sym h) (record { taken = p; few = few; consumed = g.consumed; given_so = g.given_so; faults_later = omega (arith, g.no_fault) })
TakesAtMost-stopped most a b c p Io Reading g few h =
    record { taken = p; few = few; consumed = g.consumed ∙ ap (prepend_known p) (sym h.0); given_so = h.1 ∙ g.given_so; faults_later = omega (arith, g.no_fault, h.2) }
TakesAtMost-stopped most a b c p code place g few h = absurd h
