-- What is given to a serializer, and its tokens.
use Rattle.std.proofs.Common.{◌≡◌, List, [], ◌∷◌, ◌++◌, refl, ap, ◌∙◌}
use Rattle.json_grammar.specs.TokenStates.{TokenState, after_token, after_tokens}
use Rattle.json_print.specs.Given.{TokenOrInteger, token_of, given_tokens}
use Rattle.json_print.specs.Layouts.{FormatterModel}
use Rattle.json_print.specs.Printer.{SerializerState, after, took}
use Rattle.json_print.specs.Taking.{after_all}

-- a serializer moves by the tokens of what is given
pub took_all : {F : Type 0} (m : FormatterModel F) (s : SerializerState F) (gs : List TokenOrInteger) → after_all (took m) s gs ≡ after_all (after m) s (given_tokens gs)
took_all m s [] = refl
took_all m s (g ∷ gs) = took_all m (took m s g) gs

pub tokens_append : (a b : List TokenOrInteger) → given_tokens (a ++ b) ≡ given_tokens a ++ given_tokens b
tokens_append [] b = refl
tokens_append (g ∷ a) b = ap (λ ts. token_of g ∷ ts) (tokens_append a b)

-- where what may follow changes with each that is given, it does with all
pub state_moves : {S : Type 0} (after : S → TokenOrInteger → S) (token_state : S → TokenState) → ((s : S) (g : TokenOrInteger) → token_state (after s g) ≡ after_token (token_state s) (token_of g)) → (s : S) (gs : List TokenOrInteger)
    → token_state (after_all after s gs) ≡ after_tokens (token_state s) (given_tokens gs)
state_moves after token_state moves s [] = refl
state_moves after token_state moves s (g ∷ gs) = state_moves after token_state moves (after s g) gs ∙ ap (λ z. after_tokens z (given_tokens gs)) (moves s g)
