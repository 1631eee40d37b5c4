use Rattle.std.proofs.Common.{◌≡◌, ◌+◌, ◌<◌, ◌++◌, length, string_bytes, ap, ap₂, ◌∙◌, rules}
use Rattle.bstr.specs.Chunks.{chunk_valid}
use Rattle.bstr.proofs.lemmas.UnicodeLemmas.{replacement_bytes}
use Rattle.json_text.proofs.Origins.{repair_chunk, repair_last, repair_done}
use Rattle.json_text.proofs.repaired.repair.Goals as goal

pub loop-chunk-preserved-then-not-is_empty : goal.loop-chunk-preserved-then-not-is_empty
loop-chunk-preserved-then-not-is_empty c =
    let steps = c.in-Some.ensures.steps in
    let l = c.loop-chunk in
    let valid = c.valid-in-loop-chunk.ensures in
    let invalid = c.invalid-then-not-is_empty.ensures in
    let text : string_bytes c.push_str.new.self ≡ string_bytes l.text ++ chunk_valid c.in-Some.chunk = rw c.valid.ensures at c.in_ok-push_str.ensures.bytes in
    let some : 0 < length c.in-Some.chunk.invalid.now = search rules in
    rw (valid, invalid)
    (repair_chunk c.args.bytes.now _ _ _ _ _ _ l.runs.items _ _ l.read l.invariant steps.0 steps.1 (steps.4 some) (steps.5 some) some (c.in_ok-push-2.ensures.bytes ∙ ap₂ (λ x y. x ++ y) text replacement_bytes) c.in_ok-push.ensures.items
    (c.len.ensures ∙ c.push_str.new.self.bytes.ok.0 ∙ ap length text) (ap (λ x. l.read + length x) valid) (ap₂ (λ x y. l.read + length x + length y) valid invalid))

pub loop-chunk-preserved : goal.loop-chunk-preserved
loop-chunk-preserved c =
    let steps = c.in-Some.ensures.steps in
    let l = c.loop-chunk in
    let none : length c.in-Some.chunk.invalid.now ≡ 0 = search rules in
    rw c.valid-in-loop-chunk.ensures (repair_last c.args.bytes.now _ _ _ _ _ _ l.runs.items l.read l.invariant steps.0 steps.1 none (rw c.valid.ensures at c.in_ok-push_str.ensures.bytes))

pub returns-clause-text : goal.returns-clause-text
returns-clause-text c = (repair_done c.args.bytes.now _ _ c.loop-chunk.runs.items c.loop-chunk.read c.loop-chunk.invariant c.in-None.ensures.steps.0).0

pub returns-clause-origin : goal.returns-clause-origin
returns-clause-origin c k h = ((repair_done c.args.bytes.now _ _ c.loop-chunk.runs.items c.loop-chunk.read c.loop-chunk.invariant c.in-None.ensures.steps.0).1 k h).0
