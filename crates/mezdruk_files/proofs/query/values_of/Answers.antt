use Rattle.std.proofs.Common.{◌++◌, drop, map, ap, sym, ◌∙◌, append-nil}
use Rattle.std.proofs.lemmas.List.{drop_all}
use Rattle.json_value.specs.Denotes.{tree_of}
use Rattle.json_value.specs.Seen.{seen}
use Rattle.mezdruk_files.proofs.SelectedValues.{one_more}
use Rattle.mezdruk_files.proofs.query.values_of.Goals as goal

pub loop-view-preserved : goal.loop-view-preserved
loop-view-preserved c =
    one_more c.args.views.now c.loop-view.view-index c.view-item.result c.loop-view.values.items _ c.in_ok-to_value.field-0 c.loop-view-test.true c.view-item.is c.in_ok-to_value.ensures.tree c.in_ok-push.ensures.items c.loop-view.invariant

pub returns-clause-ok : goal.returns-clause-ok
returns-clause-ok c =
    let values = c.loop-view.values.items in
    sym (append-nil (map tree_of values)) ∙ ap (λ vs. map tree_of values ++ map seen vs) (sym (drop_all c.loop-view.view-index c.args.views.now c.loop-view-test.false)) ∙ c.loop-view.invariant
