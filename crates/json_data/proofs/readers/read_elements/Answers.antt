use Rattle.std.proofs.Common.{◌≡◌, ap, sym, ◌∙◌, List, map, ◌++◌, ◌∷◌, [], rules}
use Rattle.std.proofs.lemmas.List.{map-append}
use Rattle.json_grammar.specs.Tree.{list, no_trees, tree_and}
use Rattle.json_data.specs.Reading.{gives_all, as_list}
use Rattle.json_data.proofs.Lists.{begun, ended, still_in, one_more, join, more-gives, stopped, in_array_again, still_array}
use Rattle.json_data.proofs.Exits.{missed, stop_in, misses_stop}
use Rattle.json_tokens.proofs.KindTests.{known}
use Rattle.json_data.proofs.readers.read_elements.Goals as goal

pub each-init : goal.each-init
each-init g c = (
  no_trees,
  λ a h. begun h,
  c.requires,
  ap (λ (vs : List g.row.V.Denot). gives_all (map g.V.DeserializeFrom.datum vs)) (sym c.new-all.ensures.items),
)

pub each-preserved-in-Some : goal.each-preserved-in-Some
each-preserved-in-Some g c =
    let i = c.each.invariant in
    let f = g.V.DeserializeFrom.datum in
    let x = c.in-Some.element in
    let r = known _ c.in-Ok.ensures.ok c.in-Some.is in
    let e : c.push.new.self.items ≡ c.each.all.items ++ x ∷ [] = search rules in (
      join i.0 (tree_and r.tree no_trees),
      λ a h. one_more (i.1 a h) r.takes,
      in_array_again _ _ i.2 r.takes.moves.expected,
      more-gives g.V.DeserializeFrom.from_tree i.0 r.tree (map f c.each.all.items) (f x) i.3 r.answer
          ∙ ap gives_all (sym (ap (map f) e ∙ map-append f c.each.all.items (x ∷ []))),
    )

pub each-preserved : goal.each-preserved
each-preserved g c =
    let i = c.each.invariant in
    let s = c.in-Ok.ensures.none c.in_default.is in
    let f = g.V.DeserializeFrom.datum in
    let x = c.in-Some-next.element in
    let r = known _ c.in-Ok-element_by_kind.ensures.element c.in-Some-next.is in
    let e : c.push-in-Some-next.new.self.items ≡ c.each.all.items ++ x ∷ [] = search rules in (
      join i.0 (tree_and r.tree no_trees),
      λ a h. one_more (still_in s (i.1 a h)) r.takes,
      in_array_again _ _ (still_array g.T.Tokens.state s i.2) r.takes.moves.expected,
      more-gives g.V.DeserializeFrom.from_tree i.0 r.tree (map f c.each.all.items) (f x) i.3 r.answer
          ∙ ap gives_all (sym (ap (map f) e ∙ map-append f c.each.all.items (x ∷ []))),
    )

pub returns-in-Err-clause-err : goal.returns-in-Err-clause-err
returns-in-Err-clause-err g c = λ a h.
    let i = c.each.invariant in
    let f = g.V.DeserializeFrom.from_tree in
    let ds = map g.V.DeserializeFrom.datum c.each.all.items in
    missed (stop_in (i.1 a h) (misses_stop c.in-Err.ensures.err) c.leave_after.ensures.left c.leave_after.ensures.as_was
    (λ t us h. ap as_list (stopped f i.0 us t ds c.in-Err.e.code i.3 h)))

pub returns-in-Err-element_by_kind-clause-err : goal.returns-in-Err-element_by_kind-clause-err
returns-in-Err-element_by_kind-clause-err g c = λ a h.
    let i = c.each.invariant in
    let f = g.V.DeserializeFrom.from_tree in
    let ds = map g.V.DeserializeFrom.datum c.each.all.items in
    missed (stop_in (still_in (c.in-Ok.ensures.none c.in_default.is) (i.1 a h)) c.in-Err-element_by_kind.ensures.err
    c.leave_after-in-Err-element_by_kind.ensures.left c.leave_after-in-Err-element_by_kind.ensures.as_was
    (λ t us h. ap as_list (stopped f i.0 us t ds c.in-Err-element_by_kind.e.code i.3 h)))

pub returns-in-None-clause-ok : goal.returns-in-None-clause-ok
returns-in-None-clause-ok g c = λ a h.
    let i = c.each.invariant in
    record {
      tree = list i.0;
      takes = ended (still_in (c.in-Ok.ensures.none c.in_default.is) (i.1 a h)) (c.in-Ok-element_by_kind.ensures.end c.in-None.is);
      answer = ap as_list i.3;
      some = λ e. cc;
    }
