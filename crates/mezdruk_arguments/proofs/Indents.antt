-- The indent of each layout is whitespace.
use Rattle.std.proofs.Common.{inl, inr, ℕ, zero, suc, refl, replicate, min}
use Rattle.json_grammar.specs.Grammar.{ws}
use Rattle.json_model.specs.Print.{IsIndent}
use Rattle.mezdruk_arguments.specs.declared.setting.RequestedLayout.{RequestedLayout}
use Rattle.mezdruk_arguments.specs.declared.setting.RequestedLayout.TheVariants.{Compact, Spaces, Tab}
use Rattle.mezdruk_arguments.specs.Styles.{indent_text}

spaces_ws : (n : ℕ) → ws (replicate n 32)
spaces_ws zero = tt
spaces_ws (suc n) = (inl refl, spaces_ws n)

pub indent_is_whitespace : (l : RequestedLayout) → IsIndent (indent_text l)
indent_is_whitespace Compact = tt
indent_is_whitespace (Spaces n) = spaces_ws (min n 8)
indent_is_whitespace Tab = (inr (inl refl), tt)
