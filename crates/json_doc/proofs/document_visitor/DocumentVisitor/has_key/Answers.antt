use Rattle.std.proofs.Common.{◌≡◌, ℕ, ◌+◌, true, arith, subst, sym, ap, ◌∙◌, refl}
use Rattle.std.specs.List.{Contains}
use Rattle.std.proofs.lemmas.Slice.Eq.{slice_eq-Decides}
use Rattle.std.proofs.lemmas.Bool.Decides.{Decides-eqb}
use Rattle.std.proofs.lemmas.List.{get_or_default}
use Rattle.json_doc.specs.Places.{after_subtree, place_after}
use Rattle.json_doc.specs.declared.cell.Cell.TheVariants as cell
use Rattle.json_doc.specs.OpenObject.{MembersAt}
use Rattle.json_doc.proofs.OpenObject.{one_member, not_both, none_left, in_rest, is_first, is_later, none_there}
use Rattle.json_doc.proofs.document_visitor.DocumentVisitor.has_key.Goals as goal

pub text_at-requires : goal.text_at-requires
text_at-requires c =
    let r = c.requires in
    let i = c.loop-at.invariant r.0 r.1 r.2 in
    let o = one_member _ _ _ _ i.0 i.1 c.loop-at-test.true in
    (o.key, o.named)

pub returns-then-eq : goal.returns-then-eq
returns-then-eq c ps s h =
    let i = c.loop-at.invariant ps s h in
    let o = one_member _ _ _ _ i.0 i.1 c.loop-at-test.true in
    let same = (slice_eq-Decides Decides-eqb _ _ _ c.eq.ensures).0 c.if-eq.true in
    (λ t. i.2.1 (is_first _ o.key s _ o.names_are (sym (c.text_at.ensures o.key o.named) ∙ same ∙ c.text_at-key.ensures s h.1)), λ k. refl)

pub index-requires : goal.index-requires
index-requires c =
    let r = c.requires in
    let i = c.loop-at.invariant r.0 r.1 r.2 in
    let o = one_member _ _ _ _ i.0 i.1 c.loop-at-test.true in
    omega (arith, o.within, c.args.self.now.cells.ok.0)

pub loop-at-smaller : goal.loop-at-smaller
loop-at-smaller c =
    let r = c.requires in
    let i = c.loop-at.invariant r.0 r.1 r.2 in
    let o = one_member _ _ _ _ i.0 i.1 c.loop-at-test.true in
    let next : c.next_at-at.result ≡ place_after c.args.self.now.cells.items (c.loop-at.at + 1) = c.next_at-at.ensures.is ∙ ap (after_subtree (c.loop-at.at + 1)) (c.index.ensures ∙ get_or_default c.args.self.now.cells.items (c.loop-at.at + 1) c.index.result.now cell.Null o.within) in
    omega (arith, o.later, next, c.loop-at-test.true)

pub loop-at-preserved : goal.loop-at-preserved
loop-at-preserved c ps s h =
    let i = c.loop-at.invariant ps s h in
    let o = one_member _ _ _ _ i.0 i.1 c.loop-at-test.true in
    let same : o.key ≡ s → c.eq.result ≡ true = λ e. (slice_eq-Decides Decides-eqb _ _ _ c.eq.ensures).1 (c.text_at.ensures o.key o.named ∙ e ∙ sym (c.text_at-key.ensures s h.1)) in
    let next : c.next_at-at.result ≡ place_after c.args.self.now.cells.items (c.loop-at.at + 1) = c.next_at-at.ensures.is ∙ ap (after_subtree (c.loop-at.at + 1)) (c.index.ensures ∙ get_or_default c.args.self.now.cells.items (c.loop-at.at + 1) c.index.result.now cell.Null o.within) in (
      o.rest,
      subst (λ (n : ℕ). MembersAt c.args.self.now.cells.items c.args.self.now.text.items n o.rest c.args.last) (sym next) o.after,
      (λ k. in_rest o.key s _ (λ e. not_both _ (same e) c.if-eq.false) (subst (λ x. Contains x s) o.names_are (i.2.0 k)), λ k. i.2.1 (is_later _ o.key s _ o.names_are k)),
    )

pub returns : goal.returns
returns c ps s h =
    let i = c.loop-at.invariant ps s h in
    (λ t. absurd (cc), λ k. absurd (none_there _ s (none_left _ _ _ _ i.0 i.1 (omega (arith, c.loop-at-test.false))) (i.2.0 k)))
