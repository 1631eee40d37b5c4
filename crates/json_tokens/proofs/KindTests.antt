-- What a comparison of kinds, or an answer that is some, tells.
use Rattle.std.proofs.Common.{◌≡◌, ◌≢◌, Bool, Option, Some, None, IfSome, IsSome, true, false, not, rules, subst}
use denote.Enum.Bare.{sameb}
use Rattle.json_tokens.specs.contracts.token.TokenKind.{the_type}
use Rattle.json_tokens.specs.declared.token.TokenKind.{TokenKind}
use Rattle.json_tokens.specs.declared.token.TokenKind.TheVariants.{EndArray}

pub is_kind : (k j : TokenKind) (r : Bool) → r ≡ sameb the_type k j → r ≡ true → k ≡ j
is_kind k j r e t = search rules

pub is_kind-ne : (k j : TokenKind) (r : Bool) → r ≡ not (sameb the_type k j) → r ≡ false → k ≡ j
is_kind-ne k j r e t = search rules

pub no_end-kind : (k : TokenKind) (r : Bool) → r ≡ not (sameb the_type k EndArray) → r ≡ true → k ≢ EndArray
no_end-kind k r e t = search rules

pub not_some : {A : Type 0} {o : Option A} → o ≡ None → IsSome o → ⊥
not_some e s = let h : false ≡ true = subst IsSome e s in cc

pub known : {A : Type 0} {o : Option A} {x : A} (P : A → Type 0) → IfSome o P → o ≡ Some x → P x
known P h e = subst (λ o. IfSome o P) e h
