use Rattle.std.proofs.Common.{◌≡◌, ◌⊎◌, inl, inr, List, Some, map, refl, ap, ◌∙◌, rules}
use Rattle.std.proofs.lemmas.Result.{IfOk-weaker, IfErr-weaker}
use Rattle.json_io.specs.Errors.{no_memory, bad_words}
use Rattle.json_doc.specs.Docs.{doc_root, doc_tree}
use Rattle.json_value.specs.EditTrees.{each_in}
use Rattle.json_value.specs.Seen.{elements_seen, list_of}
use Rattle.json_history.specs.Calls.{call_of}
use Rattle.json_history.specs.History.{TreeCall}
use Rattle.json_history.specs.Spelling.{call_in, SpellsCalls, SpellsNoCalls}
use Rattle.json_history.proofs.CallWords.{word_spells, no_array_spells_none, bad_element_spells_none, argument_fails}
use Rattle.json_history.proofs.arguments.read_call_argument.Goals as goal

pub returns-in_err-doc-clause-err : goal.returns-in_err-doc-clause-err
returns-in_err-doc-clause-err c = argument_fails c.from_residual.result c.args.word.now (search rules)

pub returns-in-Some-clause-ok : goal.returns-in-Some-clause-ok
returns-in-Some-clause-ok c =
    let d = c.in_ok-doc.doc.value in
    let t = doc_tree d (doc_root d) in
    let ts = elements_seen c.in-Some.array in
    IfOk-weaker c.read_calls.result (λ cs. each_in call_in ts ≡ Some (map call_of cs.items)) (λ cs. SpellsCalls c.args.word.now (map call_of cs.items))
    (λ cs h. word_spells c.args.word.now t ts (map call_of cs.items) c.in_ok-doc.ensures.ok (c.in-Some.ensures.trees ∙ ap list_of (c.packed.ensures.tree ∙ c.view.ensures.tree ∙ ap (λ e. doc_tree e (doc_root e)) c.deref.ensures)) h)
    c.read_calls.ensures.ok

pub returns-in-Some-clause-err : goal.returns-in-Some-clause-err
returns-in-Some-clause-err c =
    let d = c.in_ok-doc.doc.value in
    let t = doc_tree d (doc_root d) in
    let ts = elements_seen c.in-Some.array in
    IfErr-weaker c.read_calls.result (SpellsNoCalls (each_in call_in ts)) (λ e. (e ≡ no_memory) ⊎ ((e ≡ bad_words) × ((cs : List TreeCall) → ¬ (SpellsCalls c.args.word.now cs))))
    (λ e h. elim h as (λ _. (e ≡ no_memory) ⊎ ((e ≡ bad_words) × ((cs : List TreeCall) → ¬ (SpellsCalls c.args.word.now cs)))) [
      | inl m ↦ inl m
      | inr w ↦ inr (w.0, bad_element_spells_none c.args.word.now t ts c.in_ok-doc.ensures.ok (c.in-Some.ensures.trees ∙ ap list_of (c.packed.ensures.tree ∙ c.view.ensures.tree ∙ ap (λ e. doc_tree e (doc_root e)) c.deref.ensures)) w.1)
    ])
    c.read_calls.ensures.err

pub returns-clause-err : goal.returns-clause-err
returns-clause-err c =
    let d = c.in_ok-doc.doc.value in
    inr (refl, no_array_spells_none c.args.word.now (doc_tree d (doc_root d)) c.in_ok-doc.ensures.ok (c.in-None.ensures.trees ∙ ap list_of (c.packed.ensures.tree ∙ c.view.ensures.tree ∙ ap (λ e. doc_tree e (doc_root e)) c.deref.ensures)))
