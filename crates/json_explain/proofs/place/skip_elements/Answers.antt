use Rattle.std.proofs.Common.{◌≡◌, ◌∙◌, ◌++◌, true, false, refl, sym, arith}
use Rattle.json_grammar.specs.Tree.{tokens}
use Rattle.json_explain.proofs.Walking.{elements_tokens, first_element, no_element, ahead_is, so_far_by}
use Rattle.json_explain.proofs.place.skip_elements.Goals as goal

pub returns-then-not-skip_value : goal.returns-then-not-skip_value
returns-then-not-skip_value c = record {
  next = λ limit b t us xs ys n w.
      let g = c.each.invariant limit b t us xs ys n w in
      let k = first_element g.0 ys (omega (arith, g.2)) in
      let r : false ≡ true = sym c.if-not-skip_value.true ∙ (c.skip_value.ensures.next limit b t k.0 g.1 (elements_tokens k.1 ++ ys) (ahead_is k.3 g.3)).0 in
      absurd (cc);
}

pub each-preserved : goal.each-preserved
each-preserved c = λ limit b t us xs ys n w.
    let g = c.each.invariant limit b t us xs ys n w in
    let k = first_element g.0 ys (omega (arith, g.2)) in
    (k.1, g.1 ++ tokens k.0, omega (arith, g.2, k.2), (c.skip_value.ensures.next limit b t k.0 g.1 (elements_tokens k.1 ++ ys) (ahead_is k.3 g.3)).1)

pub returns : goal.returns
returns c = record {
  next = λ limit b t us xs ys n w.
      let g = c.each.invariant limit b t us xs ys n w in
      (refl, so_far_by (elements_tokens us) w (ahead_is (no_element g.0 ys (omega (arith, g.2))) g.3));
}
