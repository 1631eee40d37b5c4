use Rattle.std.proofs.Common.{◌≡◌, [], ◌∷◌, refl, sym, ap, ◌∙◌, subst, arith}
use Rattle.json_doc.specs.OpenNames.{OpenNamesHeld}
use Rattle.json_doc.proofs.NameSets.{state_began}
use Rattle.json_doc.proofs.open_keys.OpenKeys.begin.Goals as goal

pub returns-clause-ok : goal.returns-clause-ok
returns-clause-ok c all h =
    let s = c.args.self.now in
    let none = c.replace-many.new.dest in
    let empty : none.keys ≡ [] = ap (λ m. m.keys) c.replace-many.ensures.after ∙ c.new.ensures.empty in
    subst (λ z. OpenNamesHeld s.few.items c.len-self.result none z ([] ∷ all)) (sym c.in_ok-push.ensures.items)
    (state_began s.few.items s.start c.len-self.result s.many none s.outer.items _ all h empty refl c.replace-many.ensures.value (omega (arith, c.len-self.ensures, s.few.ok.0)))
