use Rattle.std.proofs.Common.{◌≡◌, ◌∷◌, [], Ok, IfOk, IfErr, OnErr, refl, subst}
use Rattle.json_grammar.specs.Tree.{Tree}
use Rattle.json_model.specs.Edit.{Step}
use Rattle.json_value.specs.Denotes.{tree_of}
use Rattle.json_value.specs.Edits.{RefusesChange}
use Rattle.json_value.specs.Lending.{put_or_insert, PutsNothing}
use Rattle.json_value.specs.Steps.{child, tree_or_null}
use Rattle.json_value.specs.Touched.{ExchangesOrUpserts}
use Rattle.json_value.proofs.Lent.{is_key, is_index, found_element, refused_element}
use Rattle.json_value.proofs.LentNames.{each_ok, on_ok}
use Rattle.json_value.proofs.container_mut.place_or_insert.Goals as goal

pub returns-in-Some : goal.returns-in-Some
returns-in-Some g c =
    let old = g.S.ContainerMut.held c.args.container.now in
    let t = tree_of old in
    let r = c.member_or_null.result in
    let step = is_key (g.I.Index.step c.args.index.now) c.in-Some.key.now c.in-Some.ensures.key in (
      (
        refl,
        (λ w ok. (
          subst (λ (s : Step). put_or_insert s (tree_of w) t ≡ Ok (tree_of (g.S.ContainerMut.held (c.member_or_null.follows.lender w)))) step (c.member_or_null.follows.holds w ok).0,
          subst (λ (s : Step). IfOk r (λ v. ExchangesOrUpserts s v.now w old (g.S.ContainerMut.held (c.member_or_null.follows.lender w)))) step (c.member_or_null.follows.holds w ok).1,
        )),
        subst (λ (s : Step). OnErr r (PutsNothing (s ∷ []) old (g.S.ContainerMut.held c.member_or_null.follows.lender-at-none))) step c.member_or_null.follows.holds-at-none,
      ),
      record {
        writes_back = tt;
        value = subst (λ (s : Step). IfOk r (λ v. tree_of v.now ≡ tree_or_null (child s t))) step c.member_or_null.ensures.value;
        refused = subst (λ (s : Step). IfErr r (λ e. (u : Tree) → RefusesChange (put_or_insert s u t) e.code e.place)) step c.member_or_null.ensures.refused;
      },
    )

pub returns-in-Some-as_index : goal.returns-in-Some-as_index
returns-in-Some-as_index g c =
    let old = g.S.ContainerMut.held c.args.container.now in
    let t = tree_of old in
    let i = c.in-Some-as_index.i in
    let r = c.element_of.result in
    let step = is_index (g.I.Index.step c.args.index.now) i c.in-Some-as_index.ensures.index in (
      (
        refl,
        (λ w ok. (
          subst (λ (s : Step). put_or_insert s (tree_of w) t ≡ Ok (tree_of (g.S.ContainerMut.held (c.element_of.follows.lender w)))) step (on_ok r ok (λ v h. h.0) (c.element_of.follows.holds w ok)),
          subst (λ (s : Step). IfOk r (λ v. ExchangesOrUpserts s v.now w old (g.S.ContainerMut.held (c.element_of.follows.lender w)))) step (each_ok r (λ v h. h.1) (c.element_of.follows.holds w ok)),
        )),
        subst (λ (s : Step). OnErr r (PutsNothing (s ∷ []) old (g.S.ContainerMut.held c.element_of.follows.lender-at-none))) step c.element_of.follows.holds-at-none,
      ),
      record {
        writes_back = tt;
        value = subst (λ (s : Step). IfOk r (λ v. tree_of v.now ≡ tree_or_null (child s t))) step (found_element i t r c.element_of.ensures.value);
        refused = subst (λ (s : Step). IfErr r (λ e. (u : Tree) → RefusesChange (put_or_insert s u t) e.code e.place)) step (refused_element i t r c.element_of.ensures.refused);
      },
    )
