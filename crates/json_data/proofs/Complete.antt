-- Of a text on which a type has a datum nothing is refused but memory.
use Rattle.std.proofs.Common.{IsUtf8, ◌≡◌, ◌∙◌, ◌<◌, ◌^◌, ℕ, List, length, false, Result, Ok, Err, refl, sym, ap, subst, arith}
use Rattle.std.proofs.lemmas.List.{take_all}
use Rattle.std.specs.Result.{IfErr, IsOkUnless}
use Rattle.json_grammar.specs.Tree.{Tree}
use Rattle.json_grammar.proofs.TextUtf8.{text_utf8}
use Rattle.json_grammar.proofs.Values.{one_tree}
use Rattle.json_io.specs.declared.error.Error.{Error}
use Rattle.json_io.specs.declared.error.ErrorCode.{ErrorCode}
use Rattle.json_io.specs.declared.error.ErrorCode.TheVariants as code
use Rattle.json_io.specs.declared.error.Place.{Place}
use Rattle.json_io.specs.declared.error.Place.TheVariants as place
use Rattle.json_io.specs.Errors.{no_memory}
use Rattle.json_text.specs.Faults.{FaultAt}
use Rattle.json_io.specs.Utf8.{IsUtf8Fault}
use Rattle.json_text.proofs.NoText.{no_text}
use Rattle.json_data.specs.Reading.{Reading, gives, refuses}
use Rattle.json_data.specs.Calls.{TypedReadingFails, BytesRefused, TreeRefused, HasDatum}

abbrev error : ErrorCode → Place → Error
error c p = record { code = c; place = p }

utf8_no_fault : (b : List ℕ) (k : ℕ) → IsUtf8Fault b k → IsUtf8 b → ⊥
utf8_no_fault b k v u = v.longest (length b) v.short (subst IsUtf8 (sym (take_all (length b) b (omega arith))) u)

-- bytes that are not looked at as a text
pub unread : (limit : ℕ) (f : Tree → Reading) (b : List ℕ) (c : ErrorCode) (p : Place) → BytesRefused b c p → TypedReadingFails limit f b c p
unread limit f b code.TooLarge place.None h = h
unread limit f b code.InvalidUTF8 p h = h
unread limit f b c p h = absurd h

module _ (limit : ℕ) (f : Tree → Reading) (b : List ℕ) where
  not_refused : (c : ErrorCode) (p : Place) → HasDatum limit f b → TreeRefused limit f b c p → ⊥
  not_refused c p (d, (t, h, l, a)) ((u, k, m, r), v) =
      let e : gives d ≡ refuses c = sym a ∙ ap f (one_tree false t u b h k) ∙ r in
      cc

  no_fault : (c : ErrorCode) (p : Place) → HasDatum limit f b → FaultAt false limit b c p → ⊥
  no_fault c p (d, (t, h, l, a)) (k, e, i) = no_text false limit b c k i t h l

  valid : HasDatum limit f b → IsUtf8 b
  valid (d, (t, h, l, a)) = text_utf8 false t b h

  only_memory : (c : ErrorCode) (p : Place) → HasDatum limit f b → length b < 2 ^ 32 → TypedReadingFails limit f b c p → error c p ≡ no_memory
  only_memory code.NoMemory place.None d s h = refl
  only_memory code.TooLarge place.None d s h = absurd (omega (arith, s, h))
  only_memory code.InvalidUTF8 p d s (k, v, e) = absurd (utf8_no_fault b k v (valid d))
  only_memory code.TypeUnmatched p d s h = absurd (not_refused code.TypeUnmatched p d h)
  only_memory code.NumberOutOfRange p d s h = absurd (not_refused code.NumberOutOfRange p d h)
  only_memory code.ExpectedNumericKey p d s h = absurd (not_refused code.ExpectedNumericKey p d h)
  only_memory c p d s h = absurd (no_fault c p d h.1)

  pub complete : {X : Type 0} (r : Result X Error) → IfErr r (λ e. TypedReadingFails limit f b e.code e.place) → HasDatum limit f b → length b < 2 ^ 32 → IsOkUnless r no_memory
  complete (Ok x) h d s = tt
  complete (Err e) h d s = only_memory e.code e.place d s h
