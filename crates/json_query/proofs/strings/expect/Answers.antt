use Rattle.std.proofs.Common.{◌≡◌, ◌≢◌, inr, ℕ, List, ◌∷◌}
use Rattle.json_query.proofs.TextEscapes.{other_char_at}
use Rattle.json_query.proofs.strings.expect.Goals as goal

pub returns-else-d-c-clause-refused : goal.returns-else-d-c-clause-refused
returns-else-d-c-clause-refused c =
    let other : (x : ℕ) × (e : List ℕ) × (c.args.text.now ≡ x ∷ e) × (x ≢ c.args.c) = other_char_at c.in-Some.d c.args.c c.args.text.now c.in-Some.rest.now c.in-Some.ensures c.if-d-c.false c.requires in
    (c.before-in-Some.ensures.left, inr (other.0, other.1, other.2, other.3, c.before-in-Some.ensures.code))
