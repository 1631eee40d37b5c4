use Rattle.std.proofs.Common.{◌≡◌, ◌≢◌, ℕ, List, ◌+◌, ◌<◌, length, get_or, ap, ◌∙◌, subst, arith}
use Rattle.std.specs.Str.{IsCharBoundary}
use Rattle.std.proofs.lemmas.Grind.{elements}
use Rattle.std.proofs.lemmas.Str.{IsCharBoundary-after_ascii}
use Rattle.json_grammar.specs.declared.Kind.{Kind}
use Rattle.json_grammar.specs.declared.Kind.TheVariants.{Array as array, Object as object}
use Rattle.json_grammar.specs.Place.{closing}
use Rattle.json_text.specs.Ends.{ComesNext}
use Rattle.json_text.specs.Parsing.{ParserState}
use Rattle.json_text.proofs.parser.Parser.end_of.Goals as goal

closing_is_ascii : (k : Kind) → closing k < 128
closing_is_ascii array = omega arith
closing_is_ascii object = omega arith

-- what follows is within the text
at_byte : (p s : ParserState) (b : List ℕ) (k : ℕ) → p ≡ s → b ≡ p.text → ComesNext s k → k ≢ length b → k < length b
at_byte p s b k view same next apart = let whole : length b ≡ length s.text = ap length same ∙ ap (λ (q : ParserState). length q.text) view in let within = next.within in omega arith

pub new_at-requires : goal.new_at-requires
new_at-requires c =
    let k = c.next_place-at.result in
    let b = c.as_bytes-bytes.result.now in
    let same = c.as_bytes-bytes.ensures.value in
    let whole : length b ≡ length c.args.self.now.text = ap length same ∙ ap (λ (p : ParserState). length p.text) c.self.view_is in
    let within = c.next_place-at.ensures.within in
    let some : k < length b = omega arith in
    let byte : get_or b k 0 ≡ closing c.args.kind = c.if-bytes-at.false ∙ c.closing_byte.ensures in
    let ascii : get_or b k 0 < 128 = omega (arith, closing_is_ascii c.args.kind) in
    record { boundary = subst (λ y. IsCharBoundary y (k + 1)) same (IsCharBoundary-after_ascii b k c.as_bytes-bytes.ensures.utf8 some ascii); most = c.self.invariant.most }

pub bounds-bytes-at : goal.bounds-bytes-at
bounds-bytes-at c = at_byte _ _ _ _ c.self.view_is c.as_bytes-bytes.ensures.value c.next_place-at.ensures c.if-at-bytes.false

pub bounds-bytes-at-then-bytes-at : goal.bounds-bytes-at-then-bytes-at
bounds-bytes-at-then-bytes-at c = at_byte _ _ _ _ c.self.view_is c.as_bytes-bytes.ensures.value c.next_place-at.ensures c.if-at-bytes.false

pub returns-then-at-bytes-clause-err : goal.returns-then-at-bytes-clause-err
returns-then-at-bytes-clause-err c = grind (arith, elements)

pub returns-then-bytes-at-clause-err : goal.returns-then-bytes-at-clause-err
returns-then-bytes-at-clause-err c = grind (arith, elements)
