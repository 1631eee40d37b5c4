use Rattle.std.proofs.Common.{◌≡◌, ◌∙◌, ℕ, List, ◌++◌, Bool, Option, Some, IsSome, refl, ap, sym, subst, IsUtf8}
use Rattle.std.proofs.Math.Logic.{∥∥₁_map}
use Rattle.std.proofs.lemmas.Str.{IsUtf8-had}
use Rattle.std.specs.String.{string_bytes}
use Rattle.json_grammar.specs.Grammar.{chars}
use Rattle.json_grammar.proofs.Texts.{chars_utf8}
use Rattle.json_text.specs.Spelled.{NoEscape}
use Rattle.json_tokens.specs.Pieces.{Says}
use Rattle.json_tokens.proofs.piece.Piece.copy.Goals as goal

some_is : {o : Option Bool} {m : Bool} → o ≡ Some m → IsSome o
some_is e = rw e refl

says_chars : {s b : List ℕ} {o : Option Bool} {m : Bool} → o ≡ Some m → Says s o b → chars m s b
says_chars {s = s} {b = b} e h = subst (λ (o : Option Bool). Says s o b) e h

pub invariant_of-span : goal.invariant_of-span
invariant_of-span g c = record {
  spells = ∥∥₁_map c.args.self.spells (λ s. (s.0, subst (chars c.in-Some.lossy s.0) (sym c.as_text-2.ensures) (says_chars c.in-Some.is s.1)));
  marked = (λ _ n. c.args.self.marked (some_is c.in-Some.is) (subst NoEscape c.as_text-2.ensures n), λ e. absurd (cc));
}

pub from_utf8_unchecked-text-requires : goal.from_utf8_unchecked-text-requires
from_utf8_unchecked-text-requires g c =
    subst IsUtf8 (sym c.as_slice.ensures.value)
    (IsUtf8-had _
    (∥∥₁_map c.args.self.spells
    (λ s.
    let k = says_chars c.in-Some.is s.1 in
    let e : c.unescape_into.new.out.items ≡ s.0 = ◌∙◌ {A = List ℕ} (c.unescape_into.ensures.text s.0 (subst (chars c.in-Some.lossy s.0) (sym c.as_text-2.ensures) k)) (ap (λ (b : List ℕ). b ++ s.0) c.in_ok-bytes.ensures.items) in
    subst IsUtf8 (sym e) (chars_utf8 _ k))))

pub returns-clause-ok : goal.returns-clause-ok
returns-clause-ok g c = λ s h.
    let k = says_chars c.in-Some.is h in
    let e : c.unescape_into.new.out.items ≡ s = ◌∙◌ {A = List ℕ} (c.unescape_into.ensures.text s (subst (chars c.in-Some.lossy s) (sym c.as_text-2.ensures) k)) (ap (λ (b : List ℕ). b ++ s) c.in_ok-bytes.ensures.items) in
    let v = c.as_slice.ensures.value in
    let t = c.from_utf8_unchecked-text.ensures in
    let w : string_bytes c.in_ok-from_str-2.field-0 ≡ c.from_utf8_unchecked-text.result.now = c.in_ok-from_str-2.ensures.ok in
    cc
