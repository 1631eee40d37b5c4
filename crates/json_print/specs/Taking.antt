-- What a call of events does.
use Rattle.std.specs.Prelude.{◌≡◌, List, [], ◌∷◌, ◌++◌, Option, None, Some, Result, Err, OnOk, IfErr, IfSome}
use Rattle.json_io.specs.declared.error.Error.{Error}

-- one after another
abbrev pub after_all : {S T : Type 0} → (S → T → S) → S → List T → S
after_all after s [] = s
after_all after s (t ∷ ts) = after_all after (after s t) ts

-- a call that takes one thing
pub record Takes {S T : Type 0} (next : S → T → S) (left : S → T → S → Error → Type 0) (old new : S) (err err' : Option Error) (t : T) (result : Result (Unit {0}) Error) : Type 0 where
  pub ok : OnOk result (new ≡ next old t)
  pub fresh : OnOk result (err' ≡ None)
  pub failed : IfErr result (λ e. err' ≡ Some e)
  pub stopped : err ≡ None → IfErr result (λ e. left old t new e)
  pub again : IfSome err (λ e. (result ≡ Err e) × (new ≡ old))

-- an error was met at one of them, after those before it
pub record StopsAmong {S T : Type 0} (after : S → T → S) (stopped : S → T → S → Error → Type 0) (old new : S) (ts : List T) (e : Error) : Type 0 where
  pub front : List T
  pub at : T
  pub back : List T
  pub whole : ts ≡ front ++ at ∷ back
  pub left : stopped (after_all after old front) at new e
