-- One text after another, written to a sink.
use Rattle.std.proofs.Common.{◌≡◌, ℕ, List, [], ◌++◌, Option, Ok, Err, Result, refl, sym, ap, ◌∙◌, subst, arith}
use Rattle.json_io.specs.Errors.{no_memory}
use Rattle.json_io.specs.Known.{append_known}
use Rattle.json_io.specs.Outside.{SinkState}
use Rattle.json_io.specs.declared.error.Error.{Error}
use Rattle.json_io.proofs.Known.{known-append, Appends-nil, Appends-trans}
use Rattle.json_layout.specs.TextWriting.{Begins, StopCause, WritesText}

pub WritesText-nil : (s : SinkState) → WritesText s s [] (Ok tt)
WritesText-nil s = record { ok = Appends-nil s.gained; calm = refl; prefix = tt; cause = tt; reported = λ l. absurd (omega (arith, l)); same_loan = refl }

-- memory ran out, and nothing was written
pub WritesText-no-memory : (s : SinkState) (text : List ℕ) (e : Error) → e ≡ no_memory → WritesText s s text (Err e)
WritesText-no-memory s text e is =
    rw is (record { ok = tt; calm = tt; prefix = record { back = text; whole = refl }; cause = tt; reported = λ l. absurd (omega (arith, l)); same_loan = refl })

-- the first text failed
pub WritesText-first : (a b : SinkState) (p q : List ℕ) (e : Error) → WritesText a b p (Err e) → WritesText a b (p ++ q) (Err e)
WritesText-first a b p q e h =
    record {
      ok = tt;
      calm = tt;
      prefix = record { back = h.prefix.back ++ q; whole = sym (known-append a.gained p q) ∙ ap (λ k. append_known k q) h.prefix.whole ∙ known-append b.gained h.prefix.back q };
      cause = h.cause;
      reported = h.reported;
      same_loan = h.same_loan;
    }

-- both were written, or the second failed
pub WritesText-then : (a b c : SinkState) (p q : List ℕ) (u : Unit {0}) (r : Result (Unit {0}) Error) → WritesText a b p (Ok u) → WritesText b c q r → WritesText a c (p ++ q) r
WritesText-then a b c p q u (Ok v) g h =
    record {
      ok = Appends-trans a.gained b.gained c.gained p q g.ok h.ok;
      calm = h.calm ∙ g.calm;
      prefix = tt;
      cause = tt;
      reported = λ l. absurd (omega (arith, l, h.calm, g.calm));
      same_loan = h.same_loan ∙ g.same_loan;
    }
WritesText-then a b c p q u (Err e) g h =
    record {
      ok = tt;
      calm = tt;
      prefix = record { back = h.prefix.back; whole = sym (known-append a.gained p q) ∙ ap (λ k. append_known k q) (sym g.ok) ∙ h.prefix.whole };
      cause = subst (λ n. StopCause n c.faults e.code e.place) g.calm h.cause;
      reported = λ l. h.reported (omega (arith, l, g.calm));
      same_loan = h.same_loan ∙ g.same_loan;
    }

-- a part of what was to be written
pub Begins-part : (a b : Option (List ℕ)) (p q : List ℕ) → b ≡ append_known a p → Begins b (append_known a (p ++ q))
Begins-part a b p q h = record { back = q; whole = sym (known-append a p q) ∙ ap (λ k. append_known k q) (sym h) }

pub WritesText-is : (old new : SinkState) (p q : List ℕ) (r : Result (Unit {0}) Error) → p ≡ q → WritesText old new p r → WritesText old new q r
WritesText-is old new p q r e h = subst (λ l. WritesText old new l r) e h
