use Rattle.std.proofs.Common.{◌≡◌, ◌+◌, ◌∙◌, sym, subst}
use Rattle.std.proofs.lemmas.Bool.{both_ways}
use Rattle.json_grammar.specs.Given.{piece}
use Rattle.json_text.specs.Faults.{IsFault}
use Rattle.json_text.specs.Due.{NextNeeds}
use Rattle.json_text.specs.Nexts.{NextAt}
use Rattle.json_scan.specs.Runs.{ByteAt}
use Rattle.json_text.specs.Readers.{ReaderAt}
use Rattle.json_text.proofs.ReaderSteps.{stood_colon, stood_comma_top, no_colon}
use Rattle.json_text.proofs.Needing.{gap_space, gap_colon, gap_comma, needs_first, needs_after}
use Rattle.json_text.proofs.NextParts.{space_to, behind_colon, no_colon_there, behind_comma, no_comma_there, right_there, next_colon, next_comma, next_there, space_one, no_end_after_colon, no_end_after_comma}
use Rattle.json_text.proofs.next_parts.next_part.Goals as goal

pub returns-then-byte_is-clause-ok : goal.returns-then-byte_is-clause-ok
returns-then-byte_is-clause-ok c = λ lossy n ts s.
    let b = c.args.bytes.now in let d = c.args.kinds.now in let at = c.skip_whitespace-here.result.at in
    let h = c.skip_whitespace-here.ensures.reader lossy n d ts s in
    let g = stood_colon lossy n b at d ts (subst (λ w. ReaderAt lossy n b at d w ts) c.in-Colon.is h) (c.byte_is.ensures.0 c.if-byte_is.true) in
    subst (λ w. ReaderAt lossy n b c.skip_whitespace.result.at d w ts) (sym c.skip_whitespace.ensures.expected) (c.skip_whitespace.ensures.reader lossy n d ts g)

pub returns-else-byte_is-clause-err : goal.returns-else-byte_is-clause-err
returns-else-byte_is-clause-err c = λ lossy n ts s.
    let b = c.args.bytes.now in let d = c.args.kinds.now in let at = c.skip_whitespace-here.result.at in
    let h = c.skip_whitespace-here.ensures.reader lossy n d ts s in
    subst (λ k. IsFault lossy n b c.refuse.result.code k) (sym c.refuse.ensures.place)
    (no_colon lossy n b at d ts c.refuse.result.code (subst (λ w. ReaderAt lossy n b at d w ts) c.in-Colon.is h) c.skip_whitespace-here.ensures.stop (λ k. both_ways _ c.if-byte_is.false (c.byte_is.ensures.1 k)) c.refuse.ensures.code)

pub returns-then-byte_is-2-clause-ok : goal.returns-then-byte_is-2-clause-ok
returns-then-byte_is-2-clause-ok c = λ lossy n ts s.
    let b = c.args.bytes.now in let d = c.args.kinds.now in let at = c.skip_whitespace-here.result.at in
    let h = c.skip_whitespace-here.ensures.reader lossy n d ts s in
    let g = stood_comma_top lossy n c.in-Some.kind b at d ts (sym c.top.ensures ∙ c.in-Some.is) (subst (λ w. ReaderAt lossy n b at d w ts) c.in-Done.is h) (c.byte_is-in-Some.ensures.0 c.if-byte_is-2.true) in
    let r = c.skip_whitespace-then-byte_is-2.ensures in
    subst (λ w. ReaderAt lossy n b c.skip_whitespace-then-byte_is-2.result.at d w ts) (sym r.expected) (r.reader lossy n d ts (subst (λ w. ReaderAt lossy n b (at + 1) d w ts) (sym c.part_after_comma.ensures) g))

pub returns-then-byte_is-clause-gap : goal.returns-then-byte_is-clause-gap
returns-then-byte_is-clause-gap c =
    let h = c.skip_whitespace-here.ensures in let r = c.skip_whitespace.ensures in
    gap_colon c.args.bytes.now c.args.index c.skip_whitespace-here.result.at c.skip_whitespace.result.at h.within.0 r.within.0 h.space (c.byte_is.ensures.0 c.if-byte_is.true) r.space

pub returns-then-byte_is-2-clause-gap : goal.returns-then-byte_is-2-clause-gap
returns-then-byte_is-2-clause-gap c =
    let h = c.skip_whitespace-here.ensures in let r = c.skip_whitespace-then-byte_is-2.ensures in
    gap_comma c.args.bytes.now c.args.index c.skip_whitespace-here.result.at c.skip_whitespace-then-byte_is-2.result.at h.within.0 r.within.0 h.space (c.byte_is-in-Some.ensures.0 c.if-byte_is-2.true) r.space

pub returns-else-byte_is-2-clause-gap : goal.returns-else-byte_is-2-clause-gap
returns-else-byte_is-2-clause-gap c = gap_space _ c.skip_whitespace-here.ensures.space

pub returns-in-None-clause-gap : goal.returns-in-None-clause-gap
returns-in-None-clause-gap c = gap_space _ c.skip_whitespace-here.ensures.space

pub returns-in_default-clause-gap : goal.returns-in_default-clause-gap
returns-in_default-clause-gap c = gap_space _ c.skip_whitespace-here.ensures.space

pub returns-else-byte_is-clause-needs : goal.returns-else-byte_is-clause-needs
returns-else-byte_is-clause-needs c lossy =
    let b = c.args.bytes.now in let at = c.skip_whitespace-here.result.at in let h = c.skip_whitespace-here.ensures in
    subst (λ k. NextNeeds lossy b c.args.index c.refuse.result.code k) (sym c.refuse.ensures.place)
    (needs_after lossy b c.args.index at at c.refuse.result.code h.within.0 (gap_space (piece b c.args.index at) h.space) (needs_first lossy b at c.refuse.result.code))

pub returns-then-byte_is-clause-only : goal.returns-then-byte_is-clause-only
returns-then-byte_is-clause-only c k v n =
    let b = c.args.bytes.now in let i = c.args.index in let j = c.skip_whitespace-here.result.at in let h = c.skip_whitespace-here.ensures in let r = c.skip_whitespace.ensures in let at = c.skip_whitespace.result.at in
    let o = behind_colon b i j k c.args.kinds.now c.args.expected v (space_to b i j h.within h.space h.stop) at c.in-Colon.is (c.byte_is.ensures.0 c.if-byte_is.true) (space_to b (j + 1) at r.within r.space r.stop) n in
    (o.0, r.expected ∙ o.1)

pub returns-else-byte_is-clause-only : goal.returns-else-byte_is-clause-only
returns-else-byte_is-clause-only c k v n =
    let b = c.args.bytes.now in let i = c.args.index in let j = c.skip_whitespace-here.result.at in let h = c.skip_whitespace-here.ensures in
    no_colon_there b i j k c.args.kinds.now c.args.expected v (space_to b i j h.within h.space h.stop) c.in-Colon.is (λ q. both_ways _ c.if-byte_is.false (c.byte_is.ensures.1 q)) n

pub returns-then-byte_is-2-clause-only : goal.returns-then-byte_is-2-clause-only
returns-then-byte_is-2-clause-only c k v n =
    let b = c.args.bytes.now in let i = c.args.index in let j = c.skip_whitespace-here.result.at in let h = c.skip_whitespace-here.ensures in
    let r = c.skip_whitespace-then-byte_is-2.ensures in let at = c.skip_whitespace-then-byte_is-2.result.at in
    let o = behind_comma b i j k c.args.kinds.now c.args.expected v (space_to b i j h.within h.space h.stop) c.in-Some.kind at c.in-Done.is (sym c.top.ensures ∙ c.in-Some.is) (c.byte_is-in-Some.ensures.0 c.if-byte_is-2.true) (space_to b (j + 1) at r.within r.space r.stop) n in
    (o.0, r.expected ∙ c.part_after_comma.ensures ∙ o.1)

pub returns-else-byte_is-2-clause-only : goal.returns-else-byte_is-2-clause-only
returns-else-byte_is-2-clause-only c k v n =
    let b = c.args.bytes.now in let i = c.args.index in let j = c.skip_whitespace-here.result.at in let h = c.skip_whitespace-here.ensures in
    absurd (no_comma_there b i j k c.args.kinds.now c.args.expected v (space_to b i j h.within h.space h.stop) c.in-Some.kind c.in-Done.is (sym c.top.ensures ∙ c.in-Some.is) (λ q. both_ways _ c.if-byte_is-2.false (c.byte_is-in-Some.ensures.1 q)) n)

pub returns-in_default-clause-only : goal.returns-in_default-clause-only
returns-in_default-clause-only c k v n =
    let b = c.args.bytes.now in let i = c.args.index in let j = c.skip_whitespace-here.result.at in let h = c.skip_whitespace-here.ensures in
    let o = right_there b i j k c.args.kinds.now c.args.expected v (space_to b i j h.within h.space h.stop) c.in_default.not-Colon c.in_default.not-Done n in
    (o.0, h.expected ∙ o.1)

pub returns-then-byte_is-clause-next : goal.returns-then-byte_is-clause-next
returns-then-byte_is-clause-next c _ =
    let b = c.args.bytes.now in let i = c.args.index in let j = c.skip_whitespace-here.result.at in let h = c.skip_whitespace-here.ensures in let r = c.skip_whitespace.ensures in let at = c.skip_whitespace.result.at in
    let n = next_colon b i j c.args.kinds.now c.args.expected (space_to b i j h.within h.space h.stop) at c.in-Colon.is (c.byte_is.ensures.0 c.if-byte_is.true) (space_to b (j + 1) at r.within r.space r.stop) in
    subst (λ w. NextAt b i c.args.kinds.now c.args.expected at w) (sym r.expected) n

pub returns-then-byte_is-2-clause-next : goal.returns-then-byte_is-2-clause-next
returns-then-byte_is-2-clause-next c _ =
    let b = c.args.bytes.now in let i = c.args.index in let j = c.skip_whitespace-here.result.at in let h = c.skip_whitespace-here.ensures in
    let r = c.skip_whitespace-then-byte_is-2.ensures in let at = c.skip_whitespace-then-byte_is-2.result.at in
    let n = next_comma b i j c.args.kinds.now c.args.expected (space_to b i j h.within h.space h.stop) c.in-Some.kind at c.in-Done.is (sym c.top.ensures ∙ c.in-Some.is) (c.byte_is-in-Some.ensures.0 c.if-byte_is-2.true) (space_to b (j + 1) at r.within r.space r.stop) in
    subst (λ w. NextAt b i c.args.kinds.now c.args.expected at w) (sym (r.expected ∙ c.part_after_comma.ensures)) n

pub returns-in_default-clause-next : goal.returns-in_default-clause-next
returns-in_default-clause-next c _ =
    let b = c.args.bytes.now in let i = c.args.index in let j = c.skip_whitespace-here.result.at in let h = c.skip_whitespace-here.ensures in
    let n = next_there b i j c.args.kinds.now c.args.expected (space_to b i j h.within h.space h.stop) c.in_default.not-Colon c.in_default.not-Done in
    subst (λ w. NextAt b i c.args.kinds.now c.args.expected j w) (sym h.expected) n

pub returns-then-byte_is-clause-ends : goal.returns-then-byte_is-clause-ends
returns-then-byte_is-clause-ends c k t = absurd (no_end_after_colon k c.skip_whitespace.result.expected c.skip_whitespace.ensures.expected t)

pub returns-then-byte_is-2-clause-ends : goal.returns-then-byte_is-2-clause-ends
returns-then-byte_is-2-clause-ends c k t = absurd (no_end_after_comma k c.in-Some.kind c.skip_whitespace-then-byte_is-2.result.expected (c.skip_whitespace-then-byte_is-2.ensures.expected ∙ c.part_after_comma.ensures) t)

pub returns-else-byte_is-2-clause-ends : goal.returns-else-byte_is-2-clause-ends
returns-else-byte_is-2-clause-ends c k t =
    let h = c.skip_whitespace-here.ensures in
    (space_to c.args.bytes.now c.args.index c.skip_whitespace-here.result.at h.within h.space h.stop, h.expected)

pub returns-else-byte_is-2-clause-stays : goal.returns-else-byte_is-2-clause-stays
returns-else-byte_is-2-clause-stays c k n s d =
    let b = c.args.bytes.now in let i = c.args.index in let j = c.skip_whitespace-here.result.at in let h = c.skip_whitespace-here.ensures in
    (space_one b i j k (space_to b i j h.within h.space h.stop) s, h.expected)

pub returns-in-None-clause-ends : goal.returns-in-None-clause-ends
returns-in-None-clause-ends c k t =
    let h = c.skip_whitespace-here.ensures in
    (space_to c.args.bytes.now c.args.index c.skip_whitespace-here.result.at h.within h.space h.stop, h.expected)

pub returns-in-None-clause-stays : goal.returns-in-None-clause-stays
returns-in-None-clause-stays c k n s d =
    let b = c.args.bytes.now in let i = c.args.index in let j = c.skip_whitespace-here.result.at in let h = c.skip_whitespace-here.ensures in
    (space_one b i j k (space_to b i j h.within h.space h.stop) s, h.expected)

pub returns-in_default-clause-ends : goal.returns-in_default-clause-ends
returns-in_default-clause-ends c k t =
    let h = c.skip_whitespace-here.ensures in
    (space_to c.args.bytes.now c.args.index c.skip_whitespace-here.result.at h.within h.space h.stop, h.expected)

pub returns-in_default-clause-stays : goal.returns-in_default-clause-stays
returns-in_default-clause-stays c k n s d =
    let b = c.args.bytes.now in let i = c.args.index in let j = c.skip_whitespace-here.result.at in let h = c.skip_whitespace-here.ensures in
    (space_one b i j k (space_to b i j h.within h.space h.stop) s, h.expected)

pub returns-then-byte_is-2-clause-stays : goal.returns-then-byte_is-2-clause-stays
returns-then-byte_is-2-clause-stays c k n s d =
    let b = c.args.bytes.now in let i = c.args.index in let j = c.skip_whitespace-here.result.at in let h = c.skip_whitespace-here.ensures in
    let e : j ≡ k = space_one b i j k (space_to b i j h.within h.space h.stop) s in
    absurd (d (subst (λ m. ByteAt b m 44) e (c.byte_is-in-Some.ensures.0 c.if-byte_is-2.true)))
