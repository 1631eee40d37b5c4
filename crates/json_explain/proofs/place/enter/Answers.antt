use Rattle.std.proofs.Common.{◌∙◌, ◌∷◌, ◌++◌, [], List, sym, ap, subst, append_assoc, string_bytes}
use Rattle.json_grammar.specs.declared.Kind.TheVariants.{Array as array, Object as object}
use Rattle.json_grammar.specs.Tree.{Token as Tok, tokens, key_token, begin}
use Rattle.json_explain.specs.Explaining.{explained_step}
use Rattle.json_explain.specs.Paths.{StepsTo}
use Rattle.json_explain.specs.declared.refusal.Step.{Step}
use Rattle.json_explain.proofs.Walking.{elements_tokens, members_tokens, enters_array, enters_object, first_token, ahead_is, so_far_is, was_taken}
use Rattle.json_explain.proofs.place.enter.Goals as goal

pub returns-in-None : goal.returns-in-None
returns-in-None c = record {
  next = λ limit b t u v xs ys zs w s.
      let f = first_token u in
      absurd (was_taken (c.take.ensures.next limit b t xs (f.1 ++ zs) f.0 (ahead_is (ap (λ (us : List Tok). us ++ zs) f.2) w)) c.in-None.is);
}

pub returns-in-Index : goal.returns-in-Index
returns-in-Index c = record {
  next = λ limit b t u v xs ys zs w s.
      let i = c.in-Index.index in
      let e = enters_array u i v ys zs (subst (λ (z : Step). StepsTo u (explained_step z) v ys) c.in-Index.is s) in
      let q = c.take.ensures.next limit b t xs (elements_tokens e.0 ++ (tokens v ++ e.1)) (begin array) (ahead_is e.3 w) in
      let r = c.skip_elements.ensures.next limit b t e.0 (xs ++ begin array ∷ []) (tokens v ++ e.1) e.2 q.goes in
      (r.0, (e.1, so_far_is (append_assoc xs (begin array ∷ []) (elements_tokens e.0) ∙ ap (λ (us : List Tok). xs ++ us) (sym e.4)) r.1));
}

pub returns-in-Key : goal.returns-in-Key
returns-in-Key c = record {
  next = λ limit b t u v xs ys zs w s.
      let i = c.in-Key.index in
      let k = string_bytes c.in-Key.field-0 in
      let e = enters_object u i k v ys zs (subst (λ (z : Step). StepsTo u (explained_step z) v ys) c.in-Key.is s) in
      let q = c.take.ensures.next limit b t xs (members_tokens e.0 ++ key_token k ∷ (tokens v ++ e.1)) (begin object) (ahead_is e.3 w) in
      let r = c.skip_members.ensures.next limit b t e.0 k (xs ++ begin object ∷ []) (tokens v ++ e.1) e.2 q.goes in
      (r.0, (e.1, so_far_is (append_assoc xs (begin object ∷ []) (members_tokens e.0 ++ key_token k ∷ []) ∙ ap (λ (us : List Tok). xs ++ us) (sym e.4)) r.1));
}
