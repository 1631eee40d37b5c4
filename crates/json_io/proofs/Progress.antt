-- What the loop over a sink keeps.
use Rattle.std.proofs.Common.{◌≡◌, ℕ, ◌+◌, ◌-◌, List, ◌++◌, length, take, drop, ◌∙◌, subst, sym, arith}
use Rattle.json_io.proofs.Known.{Appends-trans, Appends-kept}
use Rattle.std.proofs.Math.Seq.{take-add}
use Rattle.std.proofs.lemmas.List.{length-drop, take_all, take-append-drop}
use Rattle.json_io.specs.Known.{Appends, Keeps}
use Rattle.json_io.specs.Transfer.{AppendsFront}
use Rattle.json_io.specs.Outside.{SinkState}

-- so far the sink took these bytes, and no call failed
pub record HasPut (old new : SinkState) (bytes : List ℕ) : Type 0 where
  pub appended : Appends old.gained new.gained bytes
  pub no_fault : new.faults ≡ old.faults
  pub no_lack : new.lacks ≡ old.lacks
  pub same_loan : new.loan ≡ old.loan

-- one write more, of a piece's rest as `&piece[at..]` gives it
pub HasPut-more : (old mid new : SinkState) (at n : ℕ) (piece : List ℕ) → HasPut old mid (take at piece) → Appends mid.gained new.gained (take n (take (length piece - at) (drop at piece)))
    → new.faults ≡ mid.faults → new.lacks ≡ mid.lacks → new.loan ≡ mid.loan → HasPut old new (take (at + n) piece)
HasPut-more old mid new at n piece so_far more no_fault no_lack same_loan =
    let rest : take (length piece - at) (drop at piece) ≡ drop at piece = take_all _ _ (omega (arith, length-drop at piece)) in
    let whole : take at piece ++ take n (take (length piece - at) (drop at piece)) ≡ take (at + n) piece = rw rest (sym (take-add at n piece)) in
    record {
      appended = subst (Appends old.gained new.gained) whole (Appends-trans old.gained mid.gained new.gained _ _ so_far.appended more);
      no_fault = no_fault ∙ so_far.no_fault;
      no_lack = no_lack ∙ so_far.no_lack;
      same_loan = same_loan ∙ so_far.same_loan;
    }

-- a write that failed took nothing
pub HasPut-front : (old mid new : SinkState) (at : ℕ) (piece : List ℕ) → HasPut old mid (take at piece) → Keeps mid.gained new.gained → AppendsFront old.gained new.gained piece
HasPut-front old mid new at piece so_far kept =
    record {
      front = take at piece;
      back = drop at piece;
      whole = sym (take-append-drop at piece);
      gains = Appends-kept old.gained mid.gained new.gained (take at piece) so_far.appended kept;
    }
