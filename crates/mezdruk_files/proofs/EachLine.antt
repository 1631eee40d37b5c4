-- The lines of some elements, one after another.
use Rattle.std.proofs.Common.{◌≡◌, ℕ, List, [], ◌∷◌, ◌++◌, Option, Ok, Err, Result, refl, sym, ap, subst, ◌∙◌, append_assoc, append-nil, arith}
use Rattle.std.specs.List.{flat_map}
use Rattle.std.proofs.lemmas.Grind.{flat_map-append}
use Rattle.json_io.specs.Errors.{no_memory}
use Rattle.json_io.specs.Outside.{SinkState}
use Rattle.json_io.specs.declared.error.Error.{Error}
use Rattle.json_grammar.specs.Tree.{Tree}
use Rattle.mezdruk_files.specs.Writing.{WritesOutput}
use Rattle.mezdruk_files.proofs.TextWriting.{WritesOutput-nil, WritesOutput-then, WritesOutput-first, written_then_none}

-- the lines of the first elements were written, and these are left
pub record WroteSoFar (line : Tree → List ℕ) (all left : List Tree) (old now : SinkState) : Type 0 where
  pub first : List Tree
  pub whole : all ≡ first ++ left
  pub wrote : WritesOutput old now (flat_map line first) (Ok tt)

module _ (line : Tree → List ℕ) (all : List Tree) (old : SinkState) where
  pub none_written : WroteSoFar line all all old old
  none_written = record { first = []; whole = refl; wrote = WritesOutput-nil old }

  with_next : (first : List Tree) (t : Tree) → flat_map line (first ++ t ∷ []) ≡ flat_map line first ++ line t
  with_next first t = flat_map-append line first (t ∷ []) ∙ ap (λ l. flat_map line first ++ l) (append-nil (line t))

  pub one_written : (left : List Tree) (t : Tree) (now next : SinkState) (u : Unit {0}) → WroteSoFar line all (t ∷ left) old now → WritesOutput now next (line t) (Ok u) → WroteSoFar line all left old next
  one_written left t now next u h w =
      record {
        first = h.first ++ t ∷ [];
        whole = h.whole ∙ sym (append_assoc h.first (t ∷ []) left);
        wrote = subst (λ l. WritesOutput old next l (Ok u)) (sym (with_next h.first t)) (WritesOutput-then old now next (flat_map line h.first) (line t) tt (Ok u) h.wrote w);
      }

  all_of : (first left : List Tree) (t : Tree) → all ≡ first ++ t ∷ left → flat_map line all ≡ (flat_map line first ++ line t) ++ flat_map line left
  all_of first left t is =
      ap (flat_map line) is ∙ flat_map-append line first (t ∷ left) ∙ sym (append_assoc (flat_map line first) (line t) (flat_map line left))

  pub one_failed : (left : List Tree) (t : Tree) (now next : SinkState) (e : Error) → WroteSoFar line all (t ∷ left) old now → WritesOutput now next (line t) (Err e) → WritesOutput old next (flat_map line all) (Err e)
  one_failed left t now next e h w =
      subst (λ l. WritesOutput old next l (Err e)) (sym (all_of h.first left t h.whole))
      (WritesOutput-first old next (flat_map line h.first ++ line t) (flat_map line left) e (WritesOutput-then old now next (flat_map line h.first) (line t) tt (Err e) h.wrote w))

  pub all_written : (left : List Tree) (now : SinkState) (u : Unit {0}) → left ≡ [] → WroteSoFar line all left old now → WritesOutput old now (flat_map line all) (Ok u)
  all_written left now u none h =
      subst (λ ts. WritesOutput old now (flat_map line ts) (Ok u)) (sym (h.whole ∙ ap (λ ts. h.first ++ ts) none ∙ append-nil h.first)) h.wrote

-- memory ran out before anything was written
pub none_begun : (text : List ℕ) (now : SinkState) (e : Error) → e ≡ no_memory → WritesOutput now now text (Err e)
none_begun text now e only =
    subst (λ (x : Error). WritesOutput now now text (Err x)) (sym only) (WritesOutput-first now now [] text no_memory nothing)
  where
    nothing : WritesOutput now now [] (Err no_memory)
    nothing = record { ok = tt; flushed = tt; err = written_then_none now now now [] tt no_memory (WritesOutput-nil now) refl refl; reported = λ l. absurd (omega (arith, l)) }
