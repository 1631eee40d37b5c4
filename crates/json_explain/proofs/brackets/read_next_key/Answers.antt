use Rattle.std.proofs.Common.{◌≡◌, ℕ, List, subst}
use Rattle.json_grammar.specs.Tree.{Token as Tok, key_token}
use Rattle.json_tokens.specs.Pieces.{Says}
use Rattle.json_tokens.specs.TokensStates.{TakesOne}
use Rattle.json_explain.proofs.brackets.read_next_key.Goals as goal

pub returns-clause-ok : goal.returns-clause-ok
returns-clause-ok g c =
    let r = c.in_ok-piece.ensures.ok in
    let p = c.in-Key.piece in
    let q : (s : List ℕ) × Says s p.escaped (g.S.InputStr.bytes p.text) × (r.0 ≡ key_token s) = rw c.in-Key.is at r.1 in
    (q.0, q.1, subst (λ (x : Tok). TakesOne g.T.Tokens.taken g.T.Tokens.state c.args.tokens.now c.next.new.self x) q.2 r.2)
