use Rattle.std.proofs.Common.{◌∷◌, Ok, Err, sym, subst, ap, ◌∙◌}
use Rattle.mezdruk_files.specs.Outcomes.{line_in}
use Rattle.json_value.specs.Left.{elements_left}
use Rattle.json_value.specs.Seen.{seen, elements_seen}
use Rattle.mezdruk_files.proofs.EachLine.{WroteSoFar, none_written, one_written, one_failed, all_written}
use Rattle.mezdruk_files.proofs.each_line.write_each.Goals as goal

pub elements-init : goal.elements-init
elements-init g c =
    let line = line_in c.args.raw c.args.style in
    let all = elements_seen c.args.array in
    let old = g.K.Sink.state c.args.sink.now in
    subst (λ ts. WroteSoFar line all ts old old) (sym (ap elements_left c.into_iter-element-iterator.ensures.into_iter_gives ∙ c.iter-element-items.ensures.trees)) (none_written line all old)

pub elements-preserved : goal.elements-preserved
elements-preserved g c =
    let line = line_in c.args.raw c.args.style in
    let all = elements_seen c.args.array in
    let old = g.K.Sink.state c.args.sink.now in
    let now = g.K.Sink.state c.elements.sink in
    let next = g.K.Sink.state c.write_element.new.sink in
    one_written line all old (elements_left c.next.new.self) (seen c.in-Some.element) now next tt
    (subst (λ ts. WroteSoFar line all ts old now) c.in-Some.ensures.steps.0 c.elements.invariant) c.in-Ok.ensures

pub returns-in-Err : goal.returns-in-Err
returns-in-Err g c =
    let line = line_in c.args.raw c.args.style in
    let all = elements_seen c.args.array in
    let old = g.K.Sink.state c.args.sink.now in
    let now = g.K.Sink.state c.elements.sink in
    let next = g.K.Sink.state c.write_element.new.sink in
    one_failed line all old (elements_left c.next.new.self) (seen c.in-Some.element) now next c.in-Err.error
    (subst (λ ts. WroteSoFar line all ts old now) c.in-Some.ensures.steps.0 c.elements.invariant) c.in-Err.ensures

pub returns : goal.returns
returns g c =
    all_written (line_in c.args.raw c.args.style) (elements_seen c.args.array) (g.K.Sink.state c.args.sink.now) (elements_left c.elements.element-iterator) (g.K.Sink.state c.elements.sink) tt c.in-None.ensures.steps.0.0 c.elements.invariant
