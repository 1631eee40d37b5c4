use Rattle.std.proofs.Common.{length}
use Rattle.json_grammar.specs.declared.Kind.TheVariants.{Array as array, Object as object}
use Rattle.json_grammar.specs.Tree.{null_token, boolean_token, text_token, key_token, begin, end}
use Rattle.json_text.specs.declared.event.Event.TheVariants as event
use Rattle.json_doc.proofs.Following.{means_at, held_of, follows_event, follows_number}
use Rattle.json_doc.proofs.Numeric.{same_event_number}
use Rattle.json_doc.proofs.reader.record_event.Goals as goal

pub record_number-requires-clause-number : goal.record_number-requires-clause-number
record_number-requires-clause-number g c = same_event_number c.args.event (event.Number c.in-Number.literal) c.in-Number.is c.requires.number

pub returns-in-Null-clause-follows : goal.returns-in-Null-clause-follows
returns-in-Null-clause-follows g c x ts means f b h =
    let q = c.visit_null.ensures in
    follows_event c.args.event event.Null c.args.visitor.now c.visit_null.new.self null_token x 0 c.visit_null.result ts c.in-Null.is (means_at c.args.event event.Null x c.in-Null.is means) q.answer q.state q.held f b h

pub returns-in-Bool-clause-follows : goal.returns-in-Bool-clause-follows
returns-in-Bool-clause-follows g c x ts means f b h =
    let q = c.visit_bool.ensures in
    follows_event c.args.event (event.Bool c.in-Bool.b) c.args.visitor.now c.visit_bool.new.self (boolean_token c.in-Bool.b) x 0 c.visit_bool.result ts c.in-Bool.is (means_at c.args.event (event.Bool c.in-Bool.b) x c.in-Bool.is means) q.answer q.state q.held f b h

pub returns-in-Number-clause-follows : goal.returns-in-Number-clause-follows
returns-in-Number-clause-follows g c x ts means f b h = follows_number c.args.event c.in-Number.literal c.args.visitor.now c.record_number.new.visitor x ts c.in-Number.is means (c.record_number.ensures.follows ts f) b h

pub returns-in-BeginArray-clause-follows : goal.returns-in-BeginArray-clause-follows
returns-in-BeginArray-clause-follows g c x ts means f b h =
    let q = c.visit_array_start.ensures in
    follows_event c.args.event event.BeginArray c.args.visitor.now c.visit_array_start.new.self (begin array) x 0 c.visit_array_start.result ts c.in-BeginArray.is (means_at c.args.event event.BeginArray x c.in-BeginArray.is means) q.answer q.state q.held f b h

pub returns-in-EndArray-clause-follows : goal.returns-in-EndArray-clause-follows
returns-in-EndArray-clause-follows g c x ts means f b h =
    let q = c.visit_array_end.ensures in
    follows_event c.args.event event.EndArray c.args.visitor.now c.visit_array_end.new.self (end array) x 0 c.visit_array_end.result ts c.in-EndArray.is (means_at c.args.event event.EndArray x c.in-EndArray.is means) q.answer q.state q.held f b h

pub returns-in-BeginObject-clause-follows : goal.returns-in-BeginObject-clause-follows
returns-in-BeginObject-clause-follows g c x ts means f b h =
    let q = c.visit_object_start.ensures in
    follows_event c.args.event event.BeginObject c.args.visitor.now c.visit_object_start.new.self (begin object) x 0 c.visit_object_start.result ts c.in-BeginObject.is (means_at c.args.event event.BeginObject x c.in-BeginObject.is means) q.answer q.state q.held f b h

pub returns-in-EndObject-clause-follows : goal.returns-in-EndObject-clause-follows
returns-in-EndObject-clause-follows g c x ts means f b h =
    let q = c.visit_object_end.ensures in
    follows_event c.args.event event.EndObject c.args.visitor.now c.visit_object_end.new.self (end object) x 0 c.visit_object_end.result ts c.in-EndObject.is (means_at c.args.event event.EndObject x c.in-EndObject.is means) q.answer q.state q.held f b h

pub returns-in-Str-clause-follows : goal.returns-in-Str-clause-follows
returns-in-Str-clause-follows g c x ts means f b h =
    let q = c.take_str.ensures in
    let m = means_at c.args.event (event.Str c.in-Str.s) x c.in-Str.is means in
    follows_event c.args.event (event.Str c.in-Str.s) c.args.visitor.now c.take_str.new.self (text_token m.0) x (length m.0) c.take_str.result ts c.in-Str.is m.2 q.answer (q.state m.0 m.1) (held_of c.args.visitor.now c.take_str.new.self text_token c.in-Str.s.raw.now m.0 c.take_str.result m.1 q.held) f b h

pub returns-in-Key-clause-follows : goal.returns-in-Key-clause-follows
returns-in-Key-clause-follows g c x ts means f b h =
    let q = c.take_key.ensures in
    let m = means_at c.args.event (event.Key c.in-Key.s) x c.in-Key.is means in
    follows_event c.args.event (event.Key c.in-Key.s) c.args.visitor.now c.take_key.new.self (key_token m.0) x (length m.0) c.take_key.result ts c.in-Key.is m.2 q.answer (q.state m.0 m.1) (held_of c.args.visitor.now c.take_key.new.self key_token c.in-Key.s.raw.now m.0 c.take_key.result m.1 q.held) f b h
