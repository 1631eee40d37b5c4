use Rattle.std.proofs.Common.{◌≡◌, ◌≢◌, ap, sym, ◌∙◌, List, map, ◌++◌, ◌∷◌, [], subst, rules}
use Rattle.std.proofs.lemmas.List.{map-append}
use Rattle.json_tokens.specs.declared.token.TokenKind.{TokenKind}
use Rattle.json_tokens.specs.declared.token.TokenKind.TheVariants.{BeginArray, EndArray}
use Rattle.json_grammar.specs.Tree.{list, no_trees, tree_and}
use Rattle.json_data.specs.Reading.{gives, gives_all, as_list}
use Rattle.json_data.proofs.Lists.{opens, peeks_on, one_more, closes, join, more-gives, stopped}
use Rattle.json_data.proofs.Exits.{stop_in}
use Rattle.json_tokens.proofs.Steps.{peek_tree}
use Rattle.json_tokens.proofs.KindTests.{is_kind-ne}
use Rattle.json_model.specs.Datum.{Datum, list_datum, list_data}
use Rattle.test_samples.specs.declared.nested.Nested.{Nested, fold-roll-Nested}
use Rattle.test_samples.specs.declared.nested.Nested.TheOpen.{Nested-F}
use Rattle.test_samples.specs.declared.nested.Nested.TheVariants.{rolls-List}
use Rattle.test_samples.specs.declared.nested.Nested.TheVariants as nested
use Rattle.test_samples.specs.Nested.{nested_step, nested_datum, read_nested}
use Rattle.test_samples.proofs.Elements.{each-read}
use Rattle.test_samples.proofs.nested.NestedDeserializeFrom.+deserialize.Goals as goal

pub loop-all-init : goal.loop-all-init
loop-all-init g t c = (
  no_trees,
  opens (is_kind-ne _ _ _ c.ne.ensures c.if-ne.false) c.in_ok-peek.ensures.ok c.in_ok-peek.ensures.none c.in_ok-_begin.ensures.ok.2,
  ap (λ (vs : List Nested). gives_all (map nested_datum vs)) (sym c.new-all.ensures.items),
)

pub loop-all-preserved : goal.loop-all-preserved
loop-all-preserved g t c =
    let i = c.loop-all.invariant in
    let r = c.in-Ok.ensures.ok in
    let e : c.push.new.self.items ≡ c.loop-all.all.items ++ c.in-Ok.element ∷ [] = search rules in (
      join i.0 (tree_and r.tree no_trees),
      one_more (peeks_on i.1 c.in_ok-peek-2.ensures.ok c.in_ok-peek-2.ensures.none) r.takes,
      more-gives read_nested i.0 r.tree (map nested_datum c.loop-all.all.items) (nested_datum c.in-Ok.element) i.2 r.answer
          ∙ ap gives_all (sym (ap (map nested_datum) e ∙ map-append nested_datum c.loop-all.all.items (c.in-Ok.element ∷ []))),
    )

pub returns-in-Err-clause-err : goal.returns-in-Err-clause-err
returns-in-Err-clause-err g t c =
    let i = c.loop-all.invariant in
    stop_in (peeks_on i.1 c.in_ok-peek-2.ensures.ok c.in_ok-peek-2.ensures.none) c.in-Err.ensures.err c.leave_after.ensures.left c.leave_after.ensures.as_was
    (λ t us h. ap as_list (each-read (join i.0 (tree_and t us)) ∙ stopped read_nested i.0 us t (map nested_datum c.loop-all.all.items) c.in-Err.e.code i.2 h))

pub returns-clause-ok : goal.returns-clause-ok
returns-clause-ok g t c =
    let i = c.loop-all.invariant in
    let e : c.in_ok-peek-2.field-0 ≡ EndArray = search rules in
    let d : nested_datum (nested.List c.loop-all.all) ≡ list_datum (list_data (map nested_datum c.loop-all.all.items)) =
    ap nested_datum (sym (rolls-List c.loop-all.all)) ∙ fold-roll-Nested Datum nested_step (Nested-F.List c.loop-all.all) in
    record {
      tree = list i.0;
      takes = closes e i.1 c.in_ok-peek-2.ensures.ok c.in_ok-peek-2.ensures.none c.in_ok-_end.ensures.ok.2;
      answer = ap as_list (each-read i.0 ∙ i.2) ∙ ap gives (sym d);
    }
