use Rattle.std.proofs.Common.{◌≡◌, List, length, ℕ, Bool, sym, ◌∙◌, refl, subst, ap, arith}
use Rattle.std.proofs.lemmas.Bool.{both_ways}
use Rattle.std.proofs.lemmas.Grind.{common_steps}
use Rattle.std.proofs.lemmas.Result.{IfOk-weaker, IfErr-weaker}
use Rattle.json_grammar.specs.declared.Kind.{Kind}
use Rattle.json_grammar.specs.declared.ExpectedPart.{ExpectedPart}
use Rattle.json_grammar.specs.Tree.{Token}
use Rattle.json_text.specs.Faults.{IsFault}
use Rattle.json_text.specs.Stack.{top}
use Rattle.json_text.specs.Readers.{ReaderAt}
use Rattle.json_text.specs.declared.event.Event.{Event}
use Rattle.json_text.specs.Events.{Means}
use Rattle.json_text.proofs.Refusing.{first_in, key_or_end_in}
use Rattle.json_text.proofs.ReaderSteps.{stood_at, stood_whole, place_end}
use Rattle.json_text.proofs.Tokens.{no_top}
use Rattle.json_text.proofs.DueTokens.{fault_within}
use Rattle.json_text.proofs.Going.{advances}
use Rattle.json_text.proofs.steps.step.Goals as goal

-- a reader of the same bytes is at the same place
stood_of : (lossy : Bool) (limit : ℕ) (b t : List ℕ) (i j : ℕ) (c : List Kind) (w v : ExpectedPart) (ts : List Token) → b ≡ t → (ReaderAt lossy limit b i c w ts → ReaderAt lossy limit b j c v ts) → ReaderAt lossy limit t i c w ts → ReaderAt lossy limit t j c v ts
stood_of lossy limit b t i j c w v ts e f h = subst (λ y. ReaderAt lossy limit y j c v ts) e (f (subst (λ y. ReaderAt lossy limit y i c w ts) (sym e) h))

-- the fault of what was ready
ready_fault : goal.returns-in-Err-clause-err
ready_fault g c =
    let a = c.args in let e = c.as_bytes-bytes.ensures.value in let i = c.requires.given in
    subst (λ y. IsFault a.lossy a.limit y c.in-Err.fault.code c.in-Err.fault.offset) e (c.in-Err.ensures.err a.lossy a.limit i.0 (subst (λ y. ReaderAt a.lossy a.limit y a.cursor.at a.kinds.now a.cursor.expected i.0) (sym e) i.1))

pub returns-in-Err-clause-err : goal.returns-in-Err-clause-err
returns-in-Err-clause-err g c = ready_fault g c

pub returns-in-Err-clause-within : goal.returns-in-Err-clause-within
returns-in-Err-clause-within g c = fault_within c.args.lossy c.args.limit c.args.text.now c.in-Err.fault.code c.in-Err.fault.offset (ready_fault g c)

pub returns-then-is_whole_value-clause-ok : goal.returns-then-is_whole_value-clause-ok
returns-then-is_whole_value-clause-ok g c =
    let a = c.args in let st = c.in-Ok.part_start in let e = c.as_bytes-bytes.ensures.value in
    let d = c.is_whole_value.ensures.0 c.if-is_whole_value.true in
    let n = no_top a.kinds.now (sym c.top.ensures ∙ d.1) in (
      refl,
      refl,
      refl,
      λ ts h. stood_whole a.lossy a.limit a.text.now st.at a.kinds.now ts (subst (λ w. ReaderAt a.lossy a.limit a.text.now st.at a.kinds.now w ts) d.0 (stood_of a.lossy a.limit _ _ a.cursor.at st.at a.kinds.now a.cursor.expected st.expected ts e (c.in-Ok.ensures.ok a.lossy a.limit ts) h)) n (c.if-part_start-bytes.true ∙ ap length e),
    )

pub returns-then-part_start-bytes-clause-err : goal.returns-then-part_start-bytes-clause-err
returns-then-part_start-bytes-clause-err g c =
    let a = c.args in let st = c.in-Ok.part_start in let i = c.requires.given in let e = c.as_bytes-bytes.ensures.value in
    place_end a.lossy a.limit a.text.now st.at a.kinds.now st.expected i.0 (stood_of a.lossy a.limit _ _ a.cursor.at st.at a.kinds.now a.cursor.expected st.expected i.0 e (c.in-Ok.ensures.ok a.lossy a.limit i.0) i.1) (c.if-part_start-bytes.true ∙ ap length e) (λ f. both_ways _ c.if-is_whole_value.false (c.is_whole_value.ensures.1 (f.0, c.top.ensures ∙ ap top f.1)))

pub take_event-requires-clause-first : goal.take_event-requires-clause-first
take_event-requires-clause-first g c = λ d.
    let a = c.args in let st = c.in-Ok.part_start in let i = c.requires.given in let e = c.as_bytes-bytes.ensures.value in
    ap top (first_in (stood_at a.lossy a.limit a.text.now st.at a.kinds.now st.expected i.0 (stood_of a.lossy a.limit _ _ a.cursor.at st.at a.kinds.now a.cursor.expected st.expected i.0 e (c.in-Ok.ensures.ok a.lossy a.limit i.0) i.1)) d).1

pub take_event-requires-clause-key_or_end : goal.take_event-requires-clause-key_or_end
take_event-requires-clause-key_or_end g c = λ d.
    let a = c.args in let st = c.in-Ok.part_start in let i = c.requires.given in let e = c.as_bytes-bytes.ensures.value in
    ap top (key_or_end_in (stood_at a.lossy a.limit a.text.now st.at a.kinds.now st.expected i.0 (stood_of a.lossy a.limit _ _ a.cursor.at st.at a.kinds.now a.cursor.expected st.expected i.0 e (c.in-Ok.ensures.ok a.lossy a.limit i.0) i.1)) d).1

pub returns-clause-ok : goal.returns-clause-ok
returns-clause-ok g c =
    let a = c.args in let st = c.in-Ok.part_start in let e = c.as_bytes-bytes.ensures.value in
    IfOk-weaker c.take_event.result _ _ (λ r f. advances a.lossy a.limit a.text.now a.cursor.at a.kinds.now a.cursor.expected r.event r.end _ r.expected c.requires.given (λ ts h. f ts (stood_of a.lossy a.limit _ _ a.cursor.at st.at a.kinds.now a.cursor.expected st.expected ts e (c.in-Ok.ensures.ok a.lossy a.limit ts) h))) c.take_event.ensures.ok

pub returns-clause-whole : goal.returns-clause-whole
returns-clause-whole g c =
    let a = c.args in let st = c.in-Ok.part_start in let i = c.requires.given in let e = c.as_bytes-bytes.ensures.value in
    IfOk-weaker c.take_event.result _ _ (λ r f is. absurd (let x = f i.0 (stood_of a.lossy a.limit _ _ a.cursor.at st.at a.kinds.now a.cursor.expected st.expected i.0 e (c.in-Ok.ensures.ok a.lossy a.limit i.0) i.1) in subst (λ (v : Event). Means v x.0) is x.1)) c.take_event.ensures.ok

-- the fault of the token
token_fault : goal.returns-clause-err
token_fault g c =
    let a = c.args in let st = c.in-Ok.part_start in let i = c.requires.given in let e = c.as_bytes-bytes.ensures.value in
    c.take_event.ensures.err i.0 (stood_of a.lossy a.limit _ _ a.cursor.at st.at a.kinds.now a.cursor.expected st.expected i.0 e (c.in-Ok.ensures.ok a.lossy a.limit i.0) i.1)

pub returns-clause-err : goal.returns-clause-err
returns-clause-err g c = token_fault g c

pub returns-clause-within : goal.returns-clause-within
returns-clause-within g c = let a = c.args in IfErr-weaker c.take_event.result _ _ (λ f h. fault_within a.lossy a.limit a.text.now f.code f.offset h) (token_fault g c)

pub take_event-requires-clause-within : goal.take_event-requires-clause-within
take_event-requires-clause-within g c = omega (arith, c.in-Ok.ensures.within)

pub returns-then-part_start-bytes-clause-within : goal.returns-then-part_start-bytes-clause-within
returns-then-part_start-bytes-clause-within g c = omega arith

pub returns-clause-kept : goal.returns-clause-kept
returns-clause-kept g c = c.take_event.ensures.kept

pub returns-then-part_start-bytes-clause-needs : goal.returns-then-part_start-bytes-clause-needs
returns-then-part_start-bytes-clause-needs g c = grind (arith, common_steps)
