use Rattle.std.proofs.Common.{ℕ, subst}
use Rattle.std.proofs.lemmas.Result.{IfOk-weaker, IfErr-weaker}
use Rattle.json_text.specs.Ruled.{rules_of}
use Rattle.json_data.specs.Reading.{gives}
use Rattle.json_data.specs.Calls.{ReadsTypedText, TypedReadingFails}
use Rattle.json_data.proofs.RuledCalls.{fits_reads, fits_faultless, fails_by}
use Rattle.json_data.proofs.calls.read_unique.Goals as goal

pub returns-clause-ok : goal.returns-clause-ok
returns-clause-ok g c =
    let r = rules_of c.args.rules in
    let f = g.T.DeserializeFrom.from_tree in
    let b = c.args.text.now in
    let t = c.in_ok-_document.ensures.ok in
    IfOk-weaker c.read_text.result _ _ (λ v h. fits_reads r f b t.0 t.1 t.2 _ (subst (λ (n : ℕ). ReadsTypedText n f b (gives (g.T.DeserializeFrom.datum v))) c.depth.ensures.depth h)) c.read_text.ensures.ok

pub returns-clause-err : goal.returns-clause-err
returns-clause-err g c =
    let r = rules_of c.args.rules in
    let f = g.T.DeserializeFrom.from_tree in
    let b = c.args.text.now in
    let t = c.in_ok-_document.ensures.ok in
    IfErr-weaker c.read_text.result _ _
    (λ e h. fails_by r f b (fits_reads r f b t.0 t.1 t.2) (fits_faultless r f b t.0 t.1 t.2) e.code e.place (subst (λ (n : ℕ). TypedReadingFails n f b e.code e.place) c.depth.ensures.depth h))
    c.read_text.ensures.err
