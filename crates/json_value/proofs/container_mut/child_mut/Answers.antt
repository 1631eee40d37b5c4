use Rattle.std.proofs.Common.{◌∷◌, [], IfOk, OnErr, refl, subst}
use Rattle.json_model.specs.Edit.{Step, key_step, index_step}
use Rattle.json_value.specs.Denotes.{tree_of}
use Rattle.json_value.specs.Lending.{PutsAtPath, PutsNothing, LeadsTo}
use Rattle.json_value.proofs.Lent.{is_key, is_index}
use Rattle.json_value.proofs.MissingPlaces.{leads_one}
use Rattle.json_value.proofs.container_mut.child_mut.Goals as goal

pub returns-in-Some : goal.returns-in-Some
returns-in-Some g c =
    let old = g.S.ContainerMut.held c.args.container.now in
    let k = c.in-Some.key.now in
    let r = c.member_of.result in
    let step = is_key (g.I.Index.step c.args.index.now) k c.in-Some.ensures.key in (
      (
        refl,
        (λ w ok. subst (λ (s : Step). IfOk r (λ v. PutsAtPath (s ∷ []) v.now w old (g.S.ContainerMut.held (c.member_of.follows.lender w)))) step (c.member_of.follows.holds w ok)),
        subst (λ (s : Step). OnErr r (PutsNothing (s ∷ []) old (g.S.ContainerMut.held c.member_of.follows.lender-at-none))) step c.member_of.follows.holds-at-none,
      ),
      record {
        writes_back = tt;
        leads = subst (λ (s : Step). LeadsTo (s ∷ []) (tree_of old) r) step (leads_one (key_step k) (tree_of old) r c.member_of.ensures.value c.member_of.ensures.refused);
      },
    )

pub returns-in-Some-as_index : goal.returns-in-Some-as_index
returns-in-Some-as_index g c =
    let old = g.S.ContainerMut.held c.args.container.now in
    let i = c.in-Some-as_index.i in
    let r = c.element_of.result in
    let step = is_index (g.I.Index.step c.args.index.now) i c.in-Some-as_index.ensures.index in (
      (
        refl,
        (λ w ok. subst (λ (s : Step). IfOk r (λ v. PutsAtPath (s ∷ []) v.now w old (g.S.ContainerMut.held (c.element_of.follows.lender w)))) step (c.element_of.follows.holds w ok)),
        subst (λ (s : Step). OnErr r (PutsNothing (s ∷ []) old (g.S.ContainerMut.held c.element_of.follows.lender-at-none))) step c.element_of.follows.holds-at-none,
      ),
      record {
        writes_back = tt;
        leads = subst (λ (s : Step). LeadsTo (s ∷ []) (tree_of old) r) step (leads_one (index_step i) (tree_of old) r c.element_of.ensures.value c.element_of.ensures.refused);
      },
    )
