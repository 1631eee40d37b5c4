use Rattle.std.proofs.Common.{◌≡◌, ◌∙◌, ◌∷◌, ◌++◌, [], true, false, refl, sym, arith, append_assoc}
use Rattle.json_grammar.specs.Tree.{tokens, key_token}
use Rattle.json_explain.proofs.Walking.{members_tokens, first_member, no_member, ahead_is, so_far_by, was_taken}
use Rattle.json_explain.proofs.place.skip_members.Goals as goal

pub returns-in-None : goal.returns-in-None
returns-in-None c = record {
  next = λ limit b t us k xs ys n w.
      let g = c.each.invariant limit b t us xs (key_token k ∷ ys) n w in
      let m = first_member g.0 (key_token k ∷ ys) (omega (arith, g.2)) in
      absurd (was_taken (c.take.ensures.next limit b t g.1 (tokens m.1 ++ (members_tokens m.2 ++ key_token k ∷ ys)) (key_token m.0) (ahead_is m.4 g.3)) c.in-None.is);
}

pub returns-then-not-skip_value : goal.returns-then-not-skip_value
returns-then-not-skip_value c = record {
  next = λ limit b t us k xs ys n w.
      let g = c.each.invariant limit b t us xs (key_token k ∷ ys) n w in
      let m = first_member g.0 (key_token k ∷ ys) (omega (arith, g.2)) in
      let q = c.take.ensures.next limit b t g.1 (tokens m.1 ++ (members_tokens m.2 ++ key_token k ∷ ys)) (key_token m.0) (ahead_is m.4 g.3) in
      let r : false ≡ true = sym c.if-not-skip_value.true ∙ (c.skip_value.ensures.next limit b t m.1 (g.1 ++ key_token m.0 ∷ []) (members_tokens m.2 ++ key_token k ∷ ys) q.goes).0 in
      absurd (cc);
}

pub each-preserved : goal.each-preserved
each-preserved c = λ limit b t us xs ys n w.
    let g = c.each.invariant limit b t us xs ys n w in
    let m = first_member g.0 ys (omega (arith, g.2)) in
    let q = c.take.ensures.next limit b t g.1 (tokens m.1 ++ (members_tokens m.2 ++ ys)) (key_token m.0) (ahead_is m.4 g.3) in (
      m.2,
      (g.1 ++ key_token m.0 ∷ []) ++ tokens m.1,
      omega (arith, g.2, m.3),
      (c.skip_value.ensures.next limit b t m.1 (g.1 ++ key_token m.0 ∷ []) (members_tokens m.2 ++ ys) q.goes).1,
    )

pub returns-in-Some-take : goal.returns-in-Some-take
returns-in-Some-take c = record {
  next = λ limit b t us k xs ys n w.
      let g = c.each.invariant limit b t us xs (key_token k ∷ ys) n w in
      let q = c.take-2.ensures.next limit b t g.1 ys (key_token k) (ahead_is (no_member g.0 (key_token k ∷ ys) (omega (arith, g.2))) g.3) in
      (refl, so_far_by (members_tokens us ++ key_token k ∷ []) (ahead_is (sym (append_assoc (members_tokens us) (key_token k ∷ []) ys)) w) q.goes);
}

pub returns-in-None-take : goal.returns-in-None-take
returns-in-None-take c = record {
  next = λ limit b t us k xs ys n w.
      let g = c.each.invariant limit b t us xs (key_token k ∷ ys) n w in
      absurd (was_taken (c.take-2.ensures.next limit b t g.1 ys (key_token k) (ahead_is (no_member g.0 (key_token k ∷ ys) (omega (arith, g.2))) g.3)) c.in-None-take.is);
}
