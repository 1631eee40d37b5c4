-- A bracket that is taken at once.
use Rattle.std.proofs.Common.{◌≡◌, ◌≢◌, ℕ, ◌+◌, ◌<◌, List, ◌∷◌, length, drop, Bool, Some, sym, subst}
use Rattle.json_grammar.specs.declared.Kind.{Kind}
use Rattle.json_grammar.specs.declared.Kind.TheVariants.{Array as array, Object as object}
use Rattle.json_grammar.specs.declared.ExpectedPart.{ExpectedPart}
use Rattle.json_grammar.specs.declared.ExpectedPart.TheVariants.{Done as done}
use Rattle.json_grammar.specs.Place.{TakesValue, TakesEnd, bracket, closing, opened}
use Rattle.json_grammar.specs.Tree.{Token, begin, end}
use Rattle.json_text.specs.declared.event.Event.TheVariants as event
use Rattle.json_scan.specs.Runs.{ByteAt}
use Rattle.json_text.specs.Stack.{top}
use Rattle.json_text.specs.Readers.{ReaderAt}
use Rattle.json_text.specs.Steps.{Advances}
use Rattle.json_text.specs.Tokens.{begin_event, end_event}
use Rattle.json_text.proofs.Going.{advances}
use Rattle.json_text.proofs.Tokens.{begin_means, end_means, stood_open, stood_end}

pub begin_is_event : (k : Kind) → begin_event k ≢ event.End
begin_is_event array e = cc
begin_is_event object e = cc

pub end_is_event : (k : Kind) → end_event k ≢ event.End
end_is_event array e = cc
end_is_event object e = cc

-- from i, where the bracket is at j, after whitespace and a comma or a colon
module _ (lossy : Bool) (limit : ℕ) (k : Kind) (b t : List ℕ) (i j : ℕ) (c : List Kind) (w v : ExpectedPart) (same : b ≡ t) (given : (ts : List Token) × ReaderAt lossy limit t i c w ts)
    (ready : (ts : List Token) → ReaderAt lossy limit b i c w ts → ReaderAt lossy limit b j c v ts) (c' : List Kind) (w' : ExpectedPart) where
  at_bracket : (ts : List Token) → ReaderAt lossy limit t i c w ts → ReaderAt lossy limit t j c v ts
  at_bracket ts s = subst (λ y. ReaderAt lossy limit y j c v ts) same (ready ts (subst (λ y. ReaderAt lossy limit y i c w ts) (sym same) s))

  pub begins : c' ≡ k ∷ c → w' ≡ opened k → TakesValue v → ByteAt t j (bracket k) → length c < limit → Advances lossy limit t i c w (begin_event k) (j + 1) c' w'
  begins e f t h l = rw (e, f) (advances lossy limit _ i c w (begin_event k) (j + 1) (k ∷ c) (opened k) given (λ ts s. (begin k, begin_means k, stood_open lossy limit k _ j c v ts (at_bracket ts s) t h l)))

  pub ends : c' ≡ drop 1 c → w' ≡ done → top c ≡ Some k → TakesEnd k v → ByteAt t j (closing k) → Advances lossy limit t i c w (end_event k) (j + 1) c' w'
  ends e f o t h = rw (e, f) (advances lossy limit _ i c w (end_event k) (j + 1) (drop 1 c) done given (λ ts s. (end k, end_means k, stood_end lossy limit k _ j c v ts (at_bracket ts s) o t h)))
