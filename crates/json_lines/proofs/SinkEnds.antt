-- What a sink has at the end of a run: after its flush, and after it was lent to a buffered writer.
use Rattle.std.proofs.Common.{◌≡◌, ◌∙◌, inl, inr, ℕ, ◌<◌, ◌≤◌, List, Result, Ok, Err, sym, ap, arith}
use Rattle.std.specs.Borrow.{GName}
use Rattle.std.proofs.lemmas.Bool.{cases_lt}
use Rattle.json_io.specs.declared.error.Error.{Error}
use Rattle.json_io.specs.Known.{Grows}
use Rattle.json_io.specs.Lending.{lent_as, ComesBack}
use Rattle.json_io.specs.Outside.{SinkState}
use Rattle.json_layout.specs.Buffered.{held_after}
use Rattle.json_print.proofs.TextWriting.{same_name, grown, sent_back}

pub same_faults : (a b : ℕ) → a ≤ b → (a < b → ⊥) → b ≡ a
same_faults a b le none = elim (cases_lt a b) [ inl l ↦ absurd (none l) | inr l ↦ omega (arith, l, le) ]

pub ok_no_error : (u : Unit {0}) (e : Error) → Ok u ≡ Err e → ⊥
ok_no_error u e h = cc

abbrev failed : Error → Result (Unit {0}) Error
failed e = Err e

pub err_same : (e f : Error) → failed e ≡ failed f → e ≡ f
err_same e f h = cc

-- a sink was borrowed, and is returned by a writer that held these bytes
module _ (old now sent lent began : SinkState) (name name' : GName) (held : List ℕ) (b : began ≡ lent_as old name old.gained) (loan_kept : sent.loan ≡ began.loan) (s : sent ≡ held_after lent held) (back : ComesBack lent now name') where
  loan : lent.loan ≡ began.loan
  loan = ap (λ (x : SinkState). x.loan) (sym s) ∙ loan_kept

  pub came_back : sent ≡ held_after (lent_as now name old.gained) held
  came_back = s ∙ ap (λ x. held_after x held) (sent_back old now lent began name name' b loan back)

  pub same_sink : name' ≡ name
  same_sink = same_name old now lent began name name' b loan back

  pub sink_grew : Grows old.gained now.gained
  sink_grew = grown old now lent began name name' b loan back
