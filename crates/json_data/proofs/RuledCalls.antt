-- What is read by rules, from what is read by their limit of levels.
use Rattle.std.proofs.Common.{◌≡◌, ◌∙◌, ℕ, List, Bool, true, false, sym, subst}
use Rattle.json_grammar.specs.Grammar.{is_text}
use Rattle.json_grammar.specs.Rules.{Rules, fits}
use Rattle.json_grammar.specs.Tree.{Tree}
use Rattle.json_grammar.proofs.Values.{one_tree}
use Rattle.json_io.specs.declared.error.ErrorCode.{ErrorCode}
use Rattle.json_io.specs.declared.error.ErrorCode.TheVariants as code
use Rattle.json_io.specs.declared.error.Place.{Place}
use Rattle.json_io.specs.declared.error.Place.TheVariants as place
use Rattle.json_text.specs.Faults.{FaultAt, FaultWithAt}
use Rattle.json_text.proofs.NoText.{no_text}
use Rattle.json_text.proofs.OneFaultAt.{fault_with_limit_at}
use Rattle.json_data.specs.Reading.{Reading, refuses}
use Rattle.json_data.specs.Calls.{ReadsTypedText, TypedReadingFails, ReadsTextWith, TypedReadingFailsWith}

module _ (rules : Rules) (f : Tree → Reading) (b : List ℕ) where
  -- a tree of the text fits
  pub fits_reads : (t : Tree) → is_text false t b → fits t rules → (r : Reading) → ReadsTypedText rules.limit f b r → ReadsTextWith rules f b r
  fits_reads t h k r (u, i, d, a) = (u, i, subst (λ (x : Tree). fits x rules) (one_tree false t u b h i) k, a)

  pub fits_faultless : (t : Tree) → is_text false t b → fits t rules → (c : ErrorCode) (p : Place) → FaultAt false rules.limit b c p → FaultWithAt false rules b c p
  fits_faultless t h k c p (n, i, e) = absurd (no_text false rules.limit b c n e t h k.0)

  -- names may repeat
  pub plain_reads : rules.unique ≡ false → (r : Reading) → ReadsTypedText rules.limit f b r → ReadsTextWith rules f b r
  plain_reads e r (u, i, d, a) = (u, i, (d, λ h. let x : true ≡ false = sym h ∙ e in absurd (cc)), a)

  pub plain_fault : rules.unique ≡ false → (c : ErrorCode) (p : Place) → FaultAt false rules.limit b c p → FaultWithAt false rules b c p
  plain_fault e c p h = subst (λ (u : Bool). FaultWithAt false (record { limit = rules.limit; unique = u }) b c p) (sym e) ((fault_with_limit_at false rules.limit b c p).1 h)

  pub fails_by : ((r : Reading) → ReadsTypedText rules.limit f b r → ReadsTextWith rules f b r) → ((c : ErrorCode) (p : Place) → FaultAt false rules.limit b c p → FaultWithAt false rules b c p)
      → (c : ErrorCode) (p : Place) → TypedReadingFails rules.limit f b c p → TypedReadingFailsWith rules f b c p
  fails_by g k code.NoMemory place.None h = tt
  fails_by g k code.TooLarge place.None h = h
  fails_by g k code.InvalidUTF8 p h = h
  fails_by g k code.TypeUnmatched p h = (g (refuses code.TypeUnmatched) h.0, h.1)
  fails_by g k code.NumberOutOfRange p h = (g (refuses code.NumberOutOfRange) h.0, h.1)
  fails_by g k code.ExpectedNumericKey p h = (g (refuses code.ExpectedNumericKey) h.0, h.1)
  fails_by g k c p h = (h.0, k c p h.1)
