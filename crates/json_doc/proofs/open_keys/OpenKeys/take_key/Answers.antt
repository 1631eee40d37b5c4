use Rattle.std.proofs.Common.{◌≡◌, sym, ◌∙◌, arith, vec_len}
use Rattle.std.proofs.lemmas.Bool.{eqb-true}
use Rattle.json_doc.proofs.NameSets.{state_outside, nothing_there}
use Rattle.json_doc.proofs.open_keys.OpenKeys.take_key.Goals as goal

pub returns-then-is_empty-clause-ok : goal.returns-then-is_empty-clause-ok
returns-then-is_empty-clause-ok c t k all h =
    let s = c.args.self.now in
    let none : vec_len s.outer ≡ 0 = eqb-true (vec_len s.outer) 0 (sym c.is_empty.ensures ∙ c.if-is_empty.true) in
    state_outside s.few.items s.start s.many s.outer.items all t h (nothing_there s.outer.items (omega (arith, s.outer.ok.0)))
