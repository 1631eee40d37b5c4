-- A literal that is taken at once.
use Rattle.std.proofs.Common.{◌≡◌, ◌≢◌, ℕ, List, Bool, sym, subst}
use Rattle.json_grammar.specs.declared.Kind.{Kind}
use Rattle.json_grammar.specs.declared.ExpectedPart.{ExpectedPart}
use Rattle.json_grammar.specs.declared.ExpectedPart.TheVariants.{Done as done}
use Rattle.json_grammar.specs.Place.{TakesValue}
use Rattle.json_grammar.specs.Tree.{Token}
use Rattle.json_text.specs.declared.event.Event.{Event}
use Rattle.json_text.specs.declared.event.Event.TheVariants as event
use Rattle.json_text.specs.Literals.{WordTo}
use Rattle.json_text.specs.Readers.{ReaderAt}
use Rattle.json_text.specs.Steps.{Advances}
use Rattle.json_text.specs.Tokens.{WordOf}
use Rattle.json_text.proofs.Going.{advances}
use Rattle.json_text.proofs.Tokens.{stood_word}

pub word_is_event : (e : Event) (word : List ℕ) → WordOf e word → e ≢ event.End
word_is_event event.End word h is = h
word_is_event event.Null word h is = cc
word_is_event (event.Bool v) word h is = cc
word_is_event _ word h is = absurd h

-- from i, if the literal is at j, after whitespace and a comma or a colon
pub literal_taken : (lossy : Bool) (limit : ℕ) (b t : List ℕ) (i j k : ℕ) (c : List Kind) (w v : ExpectedPart) (word : List ℕ) (e : Event) → b ≡ t → ((ts : List Token) × ReaderAt lossy limit t i c w ts)
    → ((ts : List Token) → ReaderAt lossy limit b i c w ts → ReaderAt lossy limit b j c v ts) → WordOf e word → TakesValue v → WordTo t j word k → Advances lossy limit t i c w e k c done
literal_taken lossy limit b t i j k c w v word e same given ready f takes h =
    advances lossy limit t i c w e k c done given
    (λ ts s. stood_word lossy limit t word j k e c v ts (subst (λ y. ReaderAt lossy limit y j c v ts) same (ready ts (subst (λ y. ReaderAt lossy limit y i c w ts) (sym same) s))) takes h f)
