use Rattle.std.proofs.Common.{◌≡◌, ◌∙◌, ℕ, List, false, sym, subst}
use Rattle.std.proofs.lemmas.Result.{IfErr-weaker}
use Rattle.json_text.specs.Ruled.{rules_of}
use Rattle.json_data.specs.Calls.{TypedReadingFails, TypedReadingFailsWith}
use Rattle.json_data.proofs.RuledCalls.{plain_reads, plain_fault, fails_by}
use Rattle.json_data.proofs.calls.from_slice_with.Goals as goal

pub returns-else-unique-clause-err : goal.returns-else-unique-clause-err
returns-else-unique-clause-err g c =
    let r = rules_of c.args.rules in
    let f = g.T.DeserializeFrom.from_tree in
    let b = c.in_ok-text.text.now in
    let u : r.unique ≡ false = sym c.unique.ensures ∙ c.if-unique.false in
    IfErr-weaker c.read_text.result _ _
    (λ e h.
    let k = fails_by r f b (plain_reads r f b u) (plain_fault r f b u) e.code e.place (subst (λ (n : ℕ). TypedReadingFails n f b e.code e.place) c.depth.ensures.depth h) in
    subst (λ (x : List ℕ). TypedReadingFailsWith r f x e.code e.place) c.in_ok-text.ensures.same k)
    c.read_text.ensures.err
