-- A source that knows which tokens of its tree are left: a source over a value.
use Rattle.std.proofs.Common.{◌≡◌, ◌∙◌, List, [], ◌++◌, sym, append-nil}
use Rattle.json_grammar.specs.Tree.{Tree, Token as Tok, tokens}
use Rattle.json_grammar.proofs.TokensUnique.{same}

-- the tree that was taken first is the whole
pub whole_left : (tree t : Tree) (rest : List Tok) → tokens t ++ rest ≡ tokens tree → t ≡ tree
whole_left tree t rest e = (same t tree rest [] (e ∙ sym (append-nil (tokens tree)))).0
