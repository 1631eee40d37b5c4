use Rattle.std.proofs.Common.{◌≡◌, ◌≤◌, List, Option, None, OnOk, IfErr, sym, subst, option_map, []}
use Rattle.std.proofs.lemmas.Result.{on_ok_weaker, IfErr-weaker}
use Rattle.json_grammar.specs.Grammar.{is_text}
use Rattle.json_grammar.specs.Tree.{Tree, Token as Tok, tokens, depth}
use Rattle.json_text.specs.declared.event.Event.{Event}
use Rattle.json_text.specs.Ends.{TrailsAt}
use Rattle.json_text.specs.Faults.{FaultFrom}
use Rattle.json_text.specs.Parsing.{input}
use Rattle.json_tokens.specs.declared.ahead.Ahead.{Ahead}
use Rattle.json_grammar.specs.TokenStates.{state_in}
use Rattle.json_tokens.specs.Text.{TextTokensState, TakenBefore, text_taken, text_tokens_state, state_before, parser_state}
use Rattle.json_tokens.proofs.TextSteps.{none_waits, whole_text, trailing_fault}
use Rattle.json_tokens.proofs.text_tokens.TextTokens.finish.Goals as goal

pub returns-clause-ok : goal.returns-clause-ok
returns-clause-ok c =
    let s = c.self.inside in
    let p = s.parser in
    let a = option_map (λ (h : Ahead). h.event) s.ahead in
    let n : a ≡ None = none_waits p a s.failed (subst (λ (m : TextTokensState). (text_tokens_state m).peeked ≡ None) (sym c.self.view_is) c.requires.peeked) in
    let o : parser_state p ≡ state_in [] = subst (λ (q : Option Event). state_before q p ≡ state_in []) n (subst (λ (m : TextTokensState). (text_tokens_state m).expected ≡ state_in []) (sym c.self.view_is) c.requires.over) in
    subst (λ (m : TextTokensState). OnOk c.end.result ((ts : List Tok) → text_taken m ts → (t : Tree) × is_text m.parser.lossy t (input m.parser) × (ts ≡ tokens t) × (depth t ≤ m.parser.limit))) c.self.view_is
    (on_ok_weaker c.end.result (λ left ts t. whole_text p ts (subst (λ (q : Option Event). TakenBefore q p ts) n t) o c.self.invariant.order left) c.end.ensures.ok)

pub returns-clause-err : goal.returns-clause-err
returns-clause-err c =
    let s = c.self.inside in
    let p = s.parser in
    let i = c.self.invariant.given in
    let a = option_map (λ (h : Ahead). h.event) s.ahead in
    let n : a ≡ None = none_waits p a s.failed (subst (λ (m : TextTokensState). (text_tokens_state m).peeked ≡ None) (sym c.self.view_is) c.requires.peeked) in
    let o : parser_state p ≡ state_in [] = subst (λ (q : Option Event). state_before q p ≡ state_in []) n (subst (λ (m : TextTokensState). (text_tokens_state m).expected ≡ state_in []) (sym c.self.view_is) c.requires.over) in
    subst (λ (m : TextTokensState). IfErr c.end.result (λ e. FaultFrom m.parser.lossy m.parser.limit m.parser.start m.parser.text e.code e.place)) c.self.view_is
    (IfErr-weaker c.end.result (TrailsAt p) (λ e. FaultFrom p.lossy p.limit p.start p.text e.code e.place) (λ e t. trailing_fault p i.0 e (subst (λ (q : Option Event). TakenBefore q p i.0) n i.1) o c.self.invariant.order t) c.end.ensures.err)
