use Rattle.std.proofs.Common.{drop, sym, subst}
use Rattle.json_grammar.specs.Repeated.{innermost_keys, with_key}
use Rattle.json_doc.specs.OpenNames.{OpenNamesHeld}
use Rattle.json_doc.proofs.NameSets.{absent, state_plain}
use Rattle.json_doc.proofs.open_keys.OpenKeys.take_plain.Goals as goal

pub returns-clause-ok : goal.returns-clause-ok
returns-clause-ok c all h =
    let s = c.args.self.now in (
      absent (drop s.start s.few.items) s.many (innermost_keys all) c.args.name.now c.has.result h.here c.has.ensures c.if-has.false,
      λ e. subst (λ z. OpenNamesHeld z s.start s.many s.outer.items (with_key all c.args.name.now)) (sym c.in_ok-push.ensures.items) (state_plain s.few.items s.start s.many s.outer.items all c.args.name h c.requires.inside),
    )
