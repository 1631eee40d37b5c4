-- One event more.
use Rattle.std.proofs.Common.{◌≡◌, Bool, true, false, ℕ, ◌+◌, ◌<◌, ◌≤◌, List, [], ◌∷◌, ◌++◌, length, refl, sym, ap, subst, ◌∙◌, arith}
use Rattle.std.specs.Prelude.{◌↔◌, IsTrue}
use Rattle.std.specs.Bool.{OnTrue}
use Rattle.std.proofs.lemmas.Bool.{cases_lt}
use Rattle.std.proofs.Math.Logic.{⊎_elim}
use Rattle.std.specs.Borrow.{Bor}
use Rattle.json_grammar.specs.Tree.{Token, num_token}
use Rattle.json_grammar.specs.Grammar.{chars}
use Rattle.json_grammar.specs.Sizes.{token_nodes, nodes_of}
use Rattle.json_grammar.proofs.Sizes.{nodes_append}
use Rattle.json_grammar.specs.TokenStates.{BeginsTree}
use Rattle.json_doc.specs.State.{VisitorState, Fits, after_event, MayComeAfter, HoldsMore}
use Rattle.json_doc.specs.Recorded.{visitor_state, Holds}
use Rattle.json_text.specs.declared.event.Event.{Event}
use Rattle.json_text.specs.declared.event.Event.TheVariants as event
use Rattle.json_text.specs.Events.{Means, raw_size}
use Rattle.json_doc.specs.Reading.{Follows, HasRoomFor}
use Rattle.json_doc.specs.declared.document_visitor.DocumentVisitor.{DocumentVisitor}

more_nodes : (ts : List Token) (x : Token) → nodes_of (ts ++ x ∷ []) ≡ nodes_of ts + token_nodes x
more_nodes ts x = let more = nodes_append ts (x ∷ []) in omega arith

-- refused for want of nodes
refused : (old : DocumentVisitor) (x : Token) (m : ℕ) (ts : List Token) (b : Bool) → old.full ≡ b → Follows old ts → (old.full ≡ false → (visitor_state old).bytes + m ≤ (visitor_state old).text_room)
    → (Fits (visitor_state old) (token_nodes x) m → ⊥) → old.room < nodes_of (ts ++ x ∷ [])
refused old x m ts true e f h none = omega (arith, f.over e, more_nodes ts x)
refused old x m ts false e f h none =
    let held = f.held e in
    ⊎_elim (λ l. omega (arith, held.counted, more_nodes ts x)) (λ l. absurd (none (e, l, h e))) (cases_lt old.room ((visitor_state old).nodes + token_nodes x))

kept_full : (b : Bool) → b ≡ true → b ≡ false → ⊥
kept_full b e f = let both : true ≡ false = sym e ∙ f in absurd (cc)

pub follows_on : (old new : DocumentVisitor) (x : Token) (k m : ℕ) (r : Bool) (ts : List Token)
    → IsTrue r ↔ Fits (visitor_state old) (token_nodes x) m → visitor_state new ≡ after_event r (token_nodes x) k (visitor_state old)
    → OnTrue r (HoldsMore (Holds old) (Holds new) x)
    → Follows old ts → BeginsTree (ts ++ x ∷ []) → (old.full ≡ false → (visitor_state old).bytes + m ≤ (visitor_state old).text_room) → Follows new (ts ++ x ∷ [])
follows_on old new x k m true ts answer after held f b h =
    let open_old : old.full ≡ false = (answer.0 refl).0 in
    let open_new : new.full ≡ false = ap (λ (s : VisitorState). s.full) after ∙ open_old in
    record {
      held = λ e. held ts (f.held open_old) b;
      over = λ e. absurd (kept_full new.full e open_new);
    }
follows_on old new x k m false ts answer after held f b h =
    let full : new.full ≡ true = ap (λ (s : VisitorState). s.full) after in
    let room : new.room ≡ old.room = ap (λ (s : VisitorState). s.cell_room) after in
    record {
      held = λ e. absurd (kept_full new.full full e);
      over = λ e. let short = refused old x m ts old.full refl f h (λ fits. let no = answer.1 fits in absurd (cc)) in omega arith;
    }

pub means_at : (e e' : Event) (x : Token) → e ≡ e' → Means e x → Means e' x
means_at e e' x is h = subst (λ (v : Event). Means v x) is h

pub held_of : {lossy : Bool} (old new : DocumentVisitor) (to : List ℕ → Token) (raw t : List ℕ) (r : Bool) → chars lossy t raw → OnTrue r ((u : List ℕ) → chars lossy u raw → HoldsMore (Holds old) (Holds new) (to u)) → OnTrue r (HoldsMore (Holds old) (Holds new) (to t))
held_of old new to raw t true h k = k t h
held_of old new to raw t false h k = tt

pub follows_event : (e e' : Event) (old new : DocumentVisitor) (y x : Token) (k : ℕ) (r : Bool) (ts : List Token) → e ≡ e' → x ≡ y
    → IsTrue r ↔ Fits (visitor_state old) (token_nodes y) (raw_size e') → visitor_state new ≡ after_event r (token_nodes y) k (visitor_state old)
    → OnTrue r (HoldsMore (Holds old) (Holds new) y)
    → Follows old ts → BeginsTree (ts ++ x ∷ []) → (old.full ≡ false → (visitor_state old).bytes + raw_size e ≤ (visitor_state old).text_room) → Follows new (ts ++ x ∷ [])
follows_event e e' old new y x k r ts is same answer after held f b h =
    subst (λ (z : Token). Follows new (ts ++ z ∷ [])) (sym same)
    (follows_on old new y k (raw_size e') r ts answer after held f (subst (λ (z : Token). BeginsTree (ts ++ z ∷ [])) same b)
    (subst (λ (v : Event). old.full ≡ false → (visitor_state old).bytes + raw_size v ≤ (visitor_state old).text_room) is h))

-- a number, whose literal has room after what was recorded
pub follows_number : (e : Event) (l : Bor (List ℕ)) (old new : DocumentVisitor) (x : Token) (ts : List Token) → e ≡ event.Number l → Means e x
    → (BeginsTree (ts ++ num_token l.now ∷ []) → HasRoomFor old (length l.now) → Follows new (ts ++ num_token l.now ∷ []))
    → BeginsTree (ts ++ x ∷ []) → HasRoomFor old (raw_size e) → Follows new (ts ++ x ∷ [])
follows_number e l old new x ts is means f b h =
    let same = means_at e (event.Number l) x is means in
    subst (λ (z : Token). Follows new (ts ++ z ∷ [])) (sym same) (f (subst (λ (z : Token). BeginsTree (ts ++ z ∷ [])) same b) (subst (λ (v : Event). HasRoomFor old (raw_size v)) is h))

pub may_come_at : (old : DocumentVisitor) (k l : List ℕ) → k ≡ l → MayComeAfter (Holds old) (num_token l) → MayComeAfter (Holds old) (num_token k)
may_come_at old k l is h = subst (λ (m : List ℕ). MayComeAfter (Holds old) (num_token m)) (sym is) h

-- a number by its literal l takes its bytes, or none
pub follows_literal : (old new : DocumentVisitor) (l : List ℕ) (y : Token) (k m : ℕ) (r : Bool) (ts : List Token) → y ≡ num_token l → m ≤ length l
    → IsTrue r ↔ Fits (visitor_state old) 1 m → visitor_state new ≡ after_event r 1 k (visitor_state old)
    → OnTrue r (HoldsMore (Holds old) (Holds new) y)
    → Follows old ts → BeginsTree (ts ++ num_token l ∷ []) → HasRoomFor old (length l) → Follows new (ts ++ num_token l ∷ [])
follows_literal old new l y k m r ts is short answer after held f b h =
    follows_on old new (num_token l) k m r ts answer after (subst (λ (z : Token). OnTrue r (HoldsMore (Holds old) (Holds new) z)) is held) f b (λ full. omega (arith, h full))
