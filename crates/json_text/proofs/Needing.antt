-- At each error, what is between what was taken and the byte of the error.
use Rattle.std.proofs.Common.{◌≡◌, ◌≢◌, ℕ, zero, suc, ◌+◌, ◌-◌, ◌<◌, ◌≤◌, List, [], ◌∷◌, ◌++◌, length, get_or, take, drop, ◌⊎◌, inl, inr, refl, sym, ap, ◌∙◌, subst, arith, append_assoc, append-nil, length-take, Bool}
use Rattle.std.proofs.lemmas.List.{take-append-drop, append_cancel_left}
use Rattle.json_grammar.specs.Grammar.{ws, IsDigit}
use Rattle.json_grammar.specs.Fault.{is_word}
use Rattle.json_grammar.specs.Given.{piece}
use Rattle.json_grammar.specs.Needs.{IsGap, BeginsToken, IsBegun}
use Rattle.json_grammar.specs.NumberStates.{at_start, after_zero, number_step, is_whole_number}
use Rattle.json_grammar.proofs.Atoms.{atoms_append, atoms_one, atoms_chars}
use Rattle.json_grammar.proofs.Moves.{piece_none, take_on}
use Rattle.json_grammar.proofs.NumberRuns.{run_on, number_ends}
use Rattle.json_grammar.proofs.NumberScan.{number_by_state}
use Rattle.json_io.specs.declared.error.ErrorCode.{ErrorCode}
use Rattle.json_io.specs.declared.error.ErrorCode.TheVariants as code
use Rattle.json_text.specs.Due.{TokenNeeds, NextNeeds}
use Rattle.json_text.specs.Literals.{RefusesLiteral, WordStops}
use Rattle.json_text.specs.Numbers.{IsUnfinished, GoesNoFurther, StopsAt}
use Rattle.json_scan.specs.Runs.{ByteAt}
use Rattle.json_text.specs.Escapes.{EscapeStops}
use Rattle.json_text.specs.Spelled.{StringStops}
use Rattle.json_io.proofs.Pieces.{piece_append, piece_single}
use Rattle.json_text.proofs.StringFaults.{Inside, plain_inside, escape_inside, cons_some}
use Rattle.json_text.proofs.TokenFaults.{zero_after, begun, zero_read, ended_whole, unfinished_alone}

-- ---- gaps

pub gap_space : (g : List ℕ) → ws g → IsGap g
gap_space g h = record { before = g; mark = []; after = []; row = sym (append-nil g); space_before = h; is_mark = inl refl; space_behind = tt }

-- whitespace from i up to j, one byte there, and whitespace after it up to k
gap_mark : (b : List ℕ) (i j k x : ℕ) → i ≤ j → j + 1 ≤ k → ws (piece b i j) → ByteAt b j x → ws (piece b (j + 1) k) → (x ≡ 44) ⊎ (x ≡ 58) → IsGap (piece b i k)
gap_mark b i j k x h l s q r m =
    record {
      before = piece b i j;
      mark = x ∷ [];
      after = piece b (j + 1) k;
      row = piece_append b i j k h (omega arith) ∙ ap (λ y. piece b i j ++ y) (piece_append b j (j + 1) k (omega arith) l ∙ ap (λ y. y ++ piece b (j + 1) k) (piece_single b j x q.0 q.1));
      space_before = s;
      is_mark = by m;
      space_behind = r;
    }
  where
    by : (x ≡ 44) ⊎ (x ≡ 58) → (x ∷ [] ≡ []) ⊎ ((x ∷ [] ≡ 44 ∷ []) ⊎ (x ∷ [] ≡ 58 ∷ []))
    by (inl e) = inr (inl (ap (λ y. y ∷ []) e))
    by (inr e) = inr (inr (ap (λ y. y ∷ []) e))

pub gap_comma : (b : List ℕ) (i j k : ℕ) → i ≤ j → j + 1 ≤ k → ws (piece b i j) → ByteAt b j 44 → ws (piece b (j + 1) k) → IsGap (piece b i k)
gap_comma b i j k h l s q r = gap_mark b i j k 44 h l s q r (inl refl)

pub gap_colon : (b : List ℕ) (i j k : ℕ) → i ≤ j → j + 1 ≤ k → ws (piece b i j) → ByteAt b j 58 → ws (piece b (j + 1) k) → IsGap (piece b i k)
gap_colon b i j k h l s q r = gap_mark b i j k 58 h l s q r (inr refl)

-- ---- tokens

-- a byte with which no token begins
pub needs_first : (lossy : Bool) (b : List ℕ) (k : ℕ) (c : ErrorCode) → TokenNeeds lossy b k c k
needs_first lossy b k c = record { order = omega arith; begun = inl (piece_none b k) }

pub needs_after : (lossy : Bool) (b : List ℕ) (i j k : ℕ) (c : ErrorCode) → i ≤ j → IsGap (piece b i j) → TokenNeeds lossy b j c k → NextNeeds lossy b i c k
needs_after lossy b i j k c h g t = record { at = j; order = (h, t.order); gap = g; begun = t.begun }

pub needs_word : (lossy : Bool) (word b : List ℕ) (at k : ℕ) (c : ErrorCode) → is_word word → WordStops b at word c k → TokenNeeds lossy b at c k
needs_word lossy word b at k c i s = record { order = let p = s.place in omega arith; begun = by s.count refl }
  where
    whole : take s.count word ++ drop s.count word ≡ word
    whole = take-append-drop s.count word

    left : drop s.count word ≢ []
    left e = let n = s.short in absurd (omega (arith, length-take s.count word, ap length (sym whole ∙ ap (λ y. take s.count word ++ y) e ∙ append-nil (take s.count word))))

    by : (n : ℕ) → n ≡ s.count → IsBegun lossy (c ≡ code.InvalidNumber) (piece b at k)
    by zero e = inl (s.bytes ∙ ap (λ n. take n word) (sym e))
    by (suc n) e =
        inr (inl
        (subst (BeginsToken lossy) (sym s.bytes)
        (record { rest = drop s.count word; begun = λ f. let m = s.short in absurd (omega (arith, length-take s.count word, ap length f)); unfinished = left; token = inl (subst is_word (sym whole) i) })))

pub needs_number : (lossy : Bool) (b : List ℕ) (at k : ℕ) (c : ErrorCode) → StopsAt b at k → RefusesLiteral b code.InvalidNumber c k → TokenNeeds lossy b at c k
needs_number lossy b at k c st r = record { order = st.at.order; begun = by st.why }
  where
    refused : k < length b → RefusesLiteral b code.InvalidNumber c k → c ≡ code.InvalidNumber
    refused l (inl (m, e)) = e
    refused l (inr (m, e)) = absurd (omega arith)

    by : (IsUnfinished st.state × GoesNoFurther b k st.state) ⊎ ((st.state ≡ after_zero) × (k < length b) × IsDigit (get_or b k 0)) → IsBegun lossy (c ≡ code.InvalidNumber) (piece b at k)
    by (inl (u, g)) =
        let p = piece b at k in
        inr (inl
        (record {
          rest = 48 ∷ [];
          begun = begun p st.state st.at.leads u;
          unfinished = cons_some;
          token = inr (inl (
            number_by_state (p ++ 48 ∷ []) (ap is_whole_number (run_on at_start p (48 ∷ []) ∙ ap (λ y. number_step y 48) st.at.leads) ∙ zero_after st.state u),
            λ n. unfinished_alone st.state u (ap is_whole_number (sym st.at.leads) ∙ ended_whole _ (number_ends p n)),
          ));
        }))
    by (inr (e, l, d)) = inr (inr (refused l r, zero_read (piece b at k) (st.at.leads ∙ e)))

pub needs_string : (lossy : Bool) (b : List ℕ) (at k : ℕ) (c : ErrorCode) → ByteAt b at 34 → StringStops lossy b (at + 1) c k → TokenNeeds lossy b at c k
needs_string lossy b at k c q st = by st.why
  where
    some : (z : List ℕ) → z ++ 34 ∷ [] ≢ []
    some [] f = cons_some f
    some (x ∷ z) f = cons_some f

    inside : (e : List ℕ) → at ≤ k → Inside lossy b at k e → TokenNeeds lossy b at c k
    inside e l i =
        let s = atoms_chars lossy (atoms_append lossy i.atoms (atoms_one lossy i.goes_on)) in
        let p : piece b at k ≡ 34 ∷ (i.m ++ e) = append_cancel_left (take at b) (piece b at k) (34 ∷ (i.m ++ e)) (sym (take_on b at k l) ∙ i.row) in
        record {
          order = l;
          begun =
              inr (inl
              (record {
                rest = i.rest ++ 34 ∷ [];
                begun = λ f. cons_some (sym p ∙ f);
                unfinished = some i.rest;
                token = inr (inr (s.0, (i.m ++ (e ++ i.rest), ap (λ y. y ++ (i.rest ++ 34 ∷ [])) p ∙ ap (λ y. 34 ∷ y) (simp append_assoc), s.1)));
              }));
        }

    plain_at : k ≡ st.to → TokenNeeds lossy b at c k
    plain_at e =
        let o = st.whole.order in
        inside [] (omega arith) (subst (λ y. Inside lossy b at y []) (sym e) (plain_inside lossy b at st.to st.escaped q st.whole))

    by : ((k ≡ st.to) × (k ≡ length b) × (c ≡ code.EofWhileParsing)) ⊎ (((k ≡ st.to) × (k < length b) × (get_or b k 0 < 32) × (c ≡ code.ControlCharacter)) ⊎ (ByteAt b st.to 92 × EscapeStops lossy b (st.to + 1) c k)) → TokenNeeds lossy b at c k
    by (inl f) = plain_at f.0
    by (inr (inl f)) = plain_at f.0
    by (inr (inr (f, x))) =
        let o = st.whole.order in let l = x.order in
        inside (92 ∷ piece b (st.to + 1) k) (omega arith) (escape_inside lossy b at st.to k st.escaped x.state q st.whole f x.order x.leads x.unfinished)

-- ---- the same of what is left of a text

pub needs_left : (lossy : Bool) (b : List ℕ) (start i k : ℕ) (c : ErrorCode) → NextNeeds lossy b i c k → NextNeeds lossy b (start + i - start) c k
needs_left lossy b start i k c h = let e : start + i - start ≡ i = omega arith in subst (λ y. NextNeeds lossy b y c k) (sym e) h
