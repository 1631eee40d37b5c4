use Rattle.std.proofs.Common.{inr, refl, subst, option_map}
use Rattle.std.proofs.lemmas.Result.{IfOk-weaker, IfErr-weaker}
use Rattle.json_lines.specs.Tables.{table_command, Gathered}
use Rattle.json_lines.specs.Words.{HoldsWords}
use Rattle.json_lines.proofs.GatheredWords.{read_asks, read_asks_nothing, asks_no_columns}
use Rattle.json_lines.proofs.asked.read_gathered.Goals as goal

pub returns-in-Some-clause-ok : goal.returns-in-Some-clause-ok
returns-in-Some-clause-ok c =
    let w = c.args.words in
    IfOk-weaker c.read_table.result _ _ (λ t spelled. λ arguments held. read_asks arguments w.columns c.in-Some.columns w.has w.strict w.csv (table_command t) c.in-Some.is held spelled) c.read_table.ensures.ok

pub returns-in-Some-clause-err : goal.returns-in-Some-clause-err
returns-in-Some-clause-err c =
    let w = c.args.words in
    IfErr-weaker c.read_table.result _ _ (λ e fails. read_asks_nothing w.columns c.in-Some.columns w.has w.strict w.csv e c.in-Some.is fails) c.read_table.ensures.err

pub returns-in-None-clause-err : goal.returns-in-None-clause-err
returns-in-None-clause-err c =
    let w = c.args.words in
    inr (refl, λ arguments held. asks_no_columns arguments (option_map (λ s. s.now) w.has) w.strict w.csv (subst (λ o. HoldsWords arguments (option_map (λ s. s.now) o) (option_map (λ s. s.now) w.has) w.strict w.csv) c.in-None.is held))
