-- What may follow in a text changes as in the tokens of a tree.
use Rattle.std.specs.Prelude.{◌≡◌, refl}
use Rattle.json_grammar.specs.Tree.{Token, null_token, boolean_token, num_token, text_token, begin, end, key_token}
use Rattle.json_grammar.specs.TokenStates.{after_token}
use Rattle.json_buffer.specs.TextState.{TextState, token_put, text_expected}

pub text_moves : (s : TextState) (t : Token) → text_expected (token_put s t) ≡ after_token (text_expected s) t
text_moves s null_token = refl
text_moves s (boolean_token b) = refl
text_moves s (num_token l) = refl
text_moves s (text_token t) = refl
text_moves s (begin k) = refl
text_moves s (end k) = refl
text_moves s (key_token t) = refl
