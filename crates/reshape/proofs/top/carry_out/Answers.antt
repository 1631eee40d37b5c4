use Rattle.std.proofs.Common.{sym, ap, subst, length, ◌<◌, ◌^◌, ◌∙◌, rules}
use Rattle.std.proofs.lemmas.List.{length-map}
use Rattle.json_value.specs.Edits.{edit_of}
use Rattle.reshape.proofs.Wording.{asked_few}
use Rattle.reshape.proofs.Alone.{apart}
use Rattle.reshape.proofs.Outcomes.{run_refused, run_did, asks_command, asks_made, few_made, made_did, made_fails, words_fail}
use Rattle.reshape.specs.Asked.{asked_command}
use Rattle.reshape.proofs.top.carry_out.Goals as goal

pub returns-in_err-asked-clause-refused : goal.returns-in_err-asked-clause-refused
returns-in_err-asked-clause-refused g c = words_fail c.from_residual.result c.args.words.now _ _ (search rules)

pub write_summary-requires : goal.write_summary-requires
write_summary-requires g c = few_made c.args.words.now c.in-Made.records (asks_made c.args.words.now _ c.in-Made.records c.in-Made.is c.in_ok-asked.ensures.ok)

pub returns-in-Made-clause-done : goal.returns-in-Made-clause-done
returns-in-Made-clause-done g c = made_did c.write_summary.result c.args.words.now c.in-Made.records _ _ _ (asks_made c.args.words.now _ c.in-Made.records c.in-Made.is c.in_ok-asked.ensures.ok) c.write_summary.ensures.ok

pub returns-in-Made-clause-refused : goal.returns-in-Made-clause-refused
returns-in-Made-clause-refused g c =
    made_fails c.write_summary.result c.args.words.now c.in-Made.records _ _ _ (asks_made c.args.words.now _ c.in-Made.records c.in-Made.is c.in_ok-asked.ensures.ok) c.write_summary.ensures.refused

pub reshape_with-requires : goal.reshape_with-requires
reshape_with-requires g c =
    record { few = subst (λ n. n < 2 ^ 32) (ap length (sym c.edits.ensures) ∙ length-map c.edits.result.now edit_of) (asked_few _ _ (asks_command c.args.words.now _ _ _ c.in-Reshape.is c.in_ok-asked.ensures.ok)) }

pub returns-clause-done : goal.returns-clause-done
returns-clause-done g c =
    run_did c.reshape_with.result _ (asked_command c.in_ok-asked.asked) _ _ _ _ _ _ _ (asks_command c.args.words.now _ _ _ c.in-Reshape.is c.in_ok-asked.ensures.ok) c.rules-rules.ensures c.edits.ensures c.style.ensures c.reshape_with.ensures.done

pub returns-clause-refused : goal.returns-clause-refused
returns-clause-refused g c =
    run_refused c.reshape_with.result _ (asked_command c.in_ok-asked.asked) _ _ _ _ _ _ _ (asks_command c.args.words.now _ _ _ c.in-Reshape.is c.in_ok-asked.ensures.ok) c.rules-rules.ensures c.edits.ensures c.style.ensures c.reshape_with.ensures.refused

pub returns-clause-unread : goal.returns-clause-unread
returns-clause-unread g c = λ making. absurd (apart c.args.words.now making.0 (asked_command c.in_ok-asked.asked) making.1 (asks_command c.args.words.now _ _ _ c.in-Reshape.is c.in_ok-asked.ensures.ok))
