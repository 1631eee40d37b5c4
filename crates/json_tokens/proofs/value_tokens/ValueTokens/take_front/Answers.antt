use Rattle.std.proofs.Common.{◌∷◌, [], Bool, Option, refl, sym, subst}
use Rattle.json_grammar.specs.declared.Kind.{Kind}
use Rattle.json_grammar.specs.Tree.{end}
use Rattle.json_value.specs.Seen.{seen}
use Rattle.json_tokens.specs.Pieces.{Says}
use Rattle.json_grammar.specs.TokenStates.{after_token}
use Rattle.json_tokens.specs.Values.{left_after_opening, opened_in, value_state, value_tokens_state, TakesTokensTo}
use Rattle.json_tokens.proofs.KindTests.{is_kind}
use Rattle.json_tokens.proofs.ValueSteps.{key_taken, end_taken, array_end, object_end, no_object_end}
use Rattle.json_tokens.proofs.value_tokens.ValueTokens.take_front.Goals as goal

pub returns-in-Some : goal.returns-in-Some
returns-in-Some c =
    let s = c.args.self.now in
    let o = opened_in [] s.outer.items in
    let k = c.in-Some.key.now in (
      _,
      (k, subst (λ (e : Option Bool). Says k e c.plain.result.text.now) (sym c.plain.ensures.escaped) (sym c.plain.ensures.text), refl),
      key_taken (value_state s) (left_after_opening c.member.new.self o) (k, seen c.in-Some.value) c.requires.next (c.in-Some.ensures o),
    )

pub returns-then-eq : goal.returns-then-eq
returns-then-eq c =
    let s = c.args.self.now in
    let o = opened_in [] s.outer.items in
    let f = c.front-front.result in
    let r = end_taken (value_state s) (value_state c.exit.new.self) (left_after_opening c.member.new.self o) f c.requires.next c.requires.reached (c.front-front.ensures o) (c.in_default.ensures o) c.requires.open c.exit.ensures.state in
    let j = object_end r.0 f r.1 (is_kind _ _ _ c.eq.ensures c.if-eq.true) in
    (_, refl, subst (λ (i : Kind). TakesTokensTo (value_state s) (value_state c.exit.new.self) (end i ∷ []) (after_token (value_tokens_state s).expected (end i))) j r.2)

pub returns-else-eq : goal.returns-else-eq
returns-else-eq c =
    let s = c.args.self.now in
    let o = opened_in [] s.outer.items in
    let f = c.front-front.result in
    let r = end_taken (value_state s) (value_state c.exit.new.self) (left_after_opening c.member.new.self o) f c.requires.next c.requires.reached (c.front-front.ensures o) (c.in_default.ensures o) c.requires.open c.exit.ensures.state in
    let j = array_end r.0 f r.1 (no_object_end f _ c.eq.ensures c.if-eq.false) in
    (_, refl, subst (λ (i : Kind). TakesTokensTo (value_state s) (value_state c.exit.new.self) (end i ∷ []) (after_token (value_tokens_state s).expected (end i))) j r.2)
