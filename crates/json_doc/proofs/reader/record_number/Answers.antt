use Rattle.std.proofs.Common.{pos, length, SFits, w64, to_z-of_z, rules, arith, refl, sym, ap, ◌∙◌}
use Rattle.std.specs.Fmt.{signed_decimal}
use Rattle.json_grammar.specs.Tree.{num_token}
use Rattle.json_doc.proofs.Integers.{literal_text}
use Rattle.json_doc.proofs.Following.{may_come_at, follows_literal}
use Rattle.json_doc.proofs.reader.record_number.Goals as goal

pub visit_u64-requires : goal.visit_u64-requires
visit_u64-requires c full =
    let l = c.args.literal.now in
    let n = c.in-Unsigned.n in
    may_come_at c.args.visitor.now (signed_decimal (pos n)) l (literal_text l c.in-Some.number (pos n) c.requires.number (sym c.in-Some.ensures) c.in-Unsigned.ensures.value) (c.requires.come full)

pub visit_i64-requires-clause-come : goal.visit_i64-requires-clause-come
visit_i64-requires-clause-come c full =
    let l = c.args.literal.now in
    let z = c.in-Negative.n in
    let fits : SFits w64 z = search rules in
    let is = literal_text l c.in-Some.number z c.requires.number (sym c.in-Some.ensures) c.in-Negative.ensures.value in
    may_come_at c.args.visitor.now _ l (ap signed_decimal (to_z-of_z fits) ∙ is) (c.requires.come full)

pub returns-in-Unsigned-clause-follows : goal.returns-in-Unsigned-clause-follows
returns-in-Unsigned-clause-follows c ts f b h =
    let l = c.args.literal.now in
    let n = c.in-Unsigned.n in
    let q = c.visit_u64.ensures in
    let is = literal_text l c.in-Some.number (pos n) c.requires.number (sym c.in-Some.ensures) c.in-Unsigned.ensures.value in
    follows_literal c.args.visitor.now c.visit_u64.new.self l (num_token (signed_decimal (pos n))) 0 0 c.visit_u64.result ts (ap num_token is) (omega arith) q.answer q.state q.held f b h

pub returns-in-Negative-clause-follows : goal.returns-in-Negative-clause-follows
returns-in-Negative-clause-follows c ts f b h =
    let l = c.args.literal.now in
    let z = c.in-Negative.n in
    let q = c.visit_i64.ensures in
    let fits : SFits w64 z = search rules in
    let is = literal_text l c.in-Some.number z c.requires.number (sym c.in-Some.ensures) c.in-Negative.ensures.value in
    follows_literal c.args.visitor.now c.visit_i64.new.self l _ 0 0 c.visit_i64.result ts (ap num_token (ap signed_decimal (to_z-of_z fits) ∙ is)) (omega arith) q.answer q.state q.held f b h

pub returns-in-None-clause-follows : goal.returns-in-None-clause-follows
returns-in-None-clause-follows c ts f b h =
    let l = c.args.literal.now in
    let q = c.take_raw_number.ensures in
    follows_literal c.args.visitor.now c.take_raw_number.new.self l (num_token l) (length l) (length l) c.take_raw_number.result ts refl (omega arith) q.answer q.state q.held f b h
