-- Where a string stops at a fault, there is no whole string.
use Rattle.std.proofs.Common.{◌≡◌, ◌≢◌, ℕ, ◌+◌, ◌<◌, List, [], ◌∷◌, ◌++◌, length, get_or, take, drop, Bool, ◌⊎◌, inl, inr, suc, None, refl, sym, ap, ◌∙◌, subst, arith, append_assoc, append-nil}
use Rattle.std.proofs.lemmas.List.{take-append-drop, append_cancel_left, drop_all}
use Rattle.json_grammar.specs.Grammar.{Atom, Atoms, no_atoms, atom_and}
use Rattle.json_grammar.specs.Given.{piece}
use Rattle.json_grammar.proofs.Atoms.{atom_same, atom_no_quote, chars_atoms, Onward, atoms_onward}
use Rattle.json_grammar.proofs.EscapeParts.{no_control}
use Rattle.json_grammar.proofs.Lists.{Cut, cut, longer, shorter}
use Rattle.json_grammar.proofs.Moves.{take_on}
use Rattle.json_io.specs.declared.error.ErrorCode.{ErrorCode}
use Rattle.json_io.specs.declared.error.ErrorCode.TheVariants as code
use Rattle.json_text.specs.Escapes.{escape_step, escape_refusal, EscapeStops}
use Rattle.json_scan.specs.Runs.{ByteAt}
use Rattle.json_text.specs.Spelled.{Spells, IsStringAt, StringStops}
use Rattle.json_io.proofs.Pieces.{drop_byte}
use Rattle.json_text.proofs.StringFaults.{Inside, plain_inside, escape_inside, no_atom}
use Rattle.json_text.proofs.Tokens.{quoted_bytes}

none_left : (y z : List ℕ) → y ++ z ≡ [] → z ≡ []
none_left [] z e = e
none_left (x ∷ y) z e = absurd (cc)

tail : {x y : ℕ} {a b : List ℕ} → x ∷ a ≡ y ∷ b → a ≡ b
tail e = cc

empty : (x : ℕ) (m : List ℕ) → [] ≡ x ∷ m → ⊥
empty x m e = cc

module _ (lossy : Bool) where
  -- what is left does not go on the part that began with e, nor is it the closing quotation mark
  abbrev pub NoPart : List ℕ → List ℕ → Type 0
  NoPart e r = (x : ℕ) (m : List ℕ) → r ≡ x ∷ m → ((n : List ℕ) → ¬ (Atom lossy (e ++ x ∷ n))) × (e ≡ [] → x ≢ 34)

  -- a part that is not whole has no whole part within it
  not_within : (e z v y : List ℕ) → Atom lossy (e ++ z) → z ≢ [] → Atom lossy v → e ≡ v ++ y → ⊥
  not_within e z v y h n k i =
      n (none_left y z (atom_same lossy (y ++ z) [] k h (sym (append_assoc v y z) ∙ ap (λ a. a ++ z) (sym i) ∙ sym (append-nil (e ++ z)))).1)

  no_close : (e z r n : List ℕ) → Atom lossy (e ++ z) → z ≢ [] → NoPart e r → Onward lossy (e ++ r) n → ⊥
  no_close e z r n h u o a = go a.goes_on a.closes
    where
      at_quote : (e : List ℕ) → Atom lossy (e ++ z) → NoPart e r → e ++ r ≡ 34 ∷ n → ⊥
      at_quote [] h o f = (o 34 n f).1 refl refl
      at_quote (y ∷ e) h o f = let i : 34 ≡ y = cc in atom_no_quote lossy (e ++ z) [] h (ap (λ a. a ∷ (e ++ z)) i ∙ sym (append-nil _))

      at_part : (v d : List ℕ) → Atom lossy v → Cut e r v d → ⊥
      at_part v d k (longer [] i j) = not_within e z v [] h u k (sym (i ∙ append-nil e) ∙ sym (append-nil v))
      at_part v d k (longer (x ∷ y) i j) = (o x (y ++ d) j).0 y (subst (Atom lossy) i k)
      at_part v d k (shorter x y i j) = not_within e z v (x ∷ y) h u k i

      go : {c : List ℕ} → Atoms lossy c → e ++ r ≡ c ++ 34 ∷ n → ⊥
      go no_atoms f = at_quote e h o f
      go (atom_and {e = v} {b = b} k l) f = at_part v (b ++ 34 ∷ n) k (cut e r v (b ++ 34 ∷ n) (f ∙ append_assoc v b (34 ∷ n)))

  -- the bytes of the supposed string, from its opening quotation mark on
  both_rows : (b raw : List ℕ) (at k j : ℕ) (m e : List ℕ) → take k b ≡ take at b ++ (34 ∷ (m ++ e)) → IsStringAt lossy b at raw j → m ++ (e ++ drop k b) ≡ raw ++ 34 ∷ drop j b
  both_rows b raw at k j m e row q =
      let o = q.order in
      let l : b ≡ take at b ++ (34 ∷ (m ++ e) ++ drop k b) = sym (take-append-drop k b) ∙ ap (λ y. y ++ drop k b) row ∙ append_assoc (take at b) (34 ∷ (m ++ e)) (drop k b) in
      let t : take j b ≡ take at b ++ (34 ∷ (raw ++ 34 ∷ [])) = take_on b at j (omega arith) ∙ ap (λ y. take at b ++ y) (quoted_bytes lossy b raw at j q) in
      let r : b ≡ take at b ++ (34 ∷ (raw ++ 34 ∷ []) ++ drop j b) = sym (take-append-drop j b) ∙ ap (λ y. y ++ drop j b) t ∙ append_assoc (take at b) (34 ∷ (raw ++ 34 ∷ [])) (drop j b) in
      let s : 34 ∷ ((m ++ e) ++ drop k b) ≡ 34 ∷ ((raw ++ 34 ∷ []) ++ drop j b) = append_cancel_left (take at b) _ _ (sym l ∙ r) in
      sym (append_assoc m e (drop k b)) ∙ tail s ∙ append_assoc raw (34 ∷ []) (drop j b)

  inside_not_whole : (b raw : List ℕ) (at k j : ℕ) (e : List ℕ) → Inside lossy b at k e → NoPart e (drop k b) → ¬ (IsStringAt lossy b at raw j)
  inside_not_whole b raw at k j e i o q =
      no_close e i.rest (drop k b) (drop j b) i.goes_on i.unfinished o
      (atoms_onward lossy (e ++ drop k b) (drop j b) i.atoms (chars_atoms lossy q.spells) (both_rows b raw at k j i.m e i.row q))

  -- the input ends there, or the byte there goes on no part
  no_part_end : (b e : List ℕ) (k : ℕ) → k ≡ length b → NoPart e (drop k b)
  no_part_end b e k f x m g = absurd (empty x m (sym (drop_all k b (omega arith)) ∙ g))

  no_part_at : (b e : List ℕ) (k : ℕ) → k < length b → ((n : List ℕ) → ¬ (Atom lossy (e ++ get_or b k 0 ∷ n))) → (e ≡ [] → get_or b k 0 ≢ 34) → NoPart e (drop k b)
  no_part_at b e k l o q x m g =
      let f : get_or b k 0 ∷ drop (suc k) b ≡ x ∷ m = sym (drop_byte b k l) ∙ g in
      let i : get_or b k 0 ≡ x = cc in
      (λ n. subst (λ y. ¬ (Atom lossy (e ++ y ∷ n))) i (o n), λ p. subst (λ y. y ≢ 34) i (q p))

  pub stops_no_string : (b raw : List ℕ) (at k j : ℕ) (co : ErrorCode) → ByteAt b at 34 → StringStops lossy b (at + 1) co k → ¬ (IsStringAt lossy b at raw j)
  stops_no_string b raw at k j co q s h = go s.why
    where
      whole : k ≡ s.to → Spells lossy b (at + 1) k s.escaped
      whole f = subst (λ y. Spells lossy b (at + 1) y s.escaped) (sym f) s.whole

      go : ((k ≡ s.to) × (k ≡ length b) × (co ≡ code.EofWhileParsing)) ⊎ (((k ≡ s.to) × (k < length b) × (get_or b k 0 < 32) × (co ≡ code.ControlCharacter)) ⊎ (ByteAt b s.to 92 × EscapeStops lossy b (s.to + 1) co k)) → ⊥
      go (inl (f, l, g)) = inside_not_whole b raw at k j [] (plain_inside lossy b at k s.escaped q (whole f)) (no_part_end b [] k l) h
      go (inr (inl (f, l, m, g))) =
          inside_not_whole b raw at k j [] (plain_inside lossy b at k s.escaped q (whole f)) (no_part_at b [] k l (λ n. no_control lossy (get_or b k 0) n m) (λ _ o. omega arith)) h
      go (inr (inr (y, z))) = inside_not_whole b raw at k j (92 ∷ m) (escape_inside lossy b at s.to k s.escaped z.state q s.whole y z.order z.leads z.unfinished) (by z.why) h
        where
          m : List ℕ
          m = piece b (s.to + 1) k

          by : ((k ≡ length b) × (co ≡ code.EofWhileParsing)) ⊎ ((k < length b) × (escape_step lossy z.state (get_or b k 0) ≡ None) × (co ≡ escape_refusal z.state (get_or b k 0))) → NoPart (92 ∷ m) (drop k b)
          by (inl (l, g)) = no_part_end b (92 ∷ m) k l
          by (inr (l, f, g)) = no_part_at b (92 ∷ m) k l (no_atom lossy z.state m (get_or b k 0) z.leads f) (λ i. absurd (empty 92 m (sym i)))

  -- the same string of another input at another place
  pub moved_string : (b c raw : List ℕ) (i j e : ℕ) → b ≡ c → i ≡ j → IsStringAt lossy c j raw e → IsStringAt lossy b i raw e
  moved_string b c raw i j e f g q = subst (λ k. IsStringAt lossy b k raw e) (sym g) (subst (λ y. IsStringAt lossy y j raw e) (sym f) q)
