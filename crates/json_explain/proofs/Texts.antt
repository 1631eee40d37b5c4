-- What a source of a text or of a value took, and what explains an error of it.
use Rattle.std.proofs.Common.{◌≡◌, ◌∙◌, ◌≤◌, ℕ, List, [], Bool, true, false, Option, Some, None, IfSome, IsUtf8, length, drop, sym, ap, ap₂, subst, arith, append-nil}
use Rattle.std.proofs.lemmas.List.{take_all}
use Rattle.json_grammar.specs.Grammar.{is_text}
use Rattle.json_grammar.specs.Tree.{Tree, tokens, depth}
use Rattle.json_grammar.specs.Fault.{reads}
use Rattle.json_grammar.specs.Rules.{Rules}
use Rattle.json_grammar.proofs.OneValue.{text_reads, one_reads}
use Rattle.json_grammar.proofs.TextUtf8.{text_utf8}
use Rattle.json_grammar.proofs.TokensUnique.{tokens_injective}
use Rattle.json_io.specs.Utf8.{Utf8Cause, IsUtf8Fault}
use Rattle.json_io.specs.declared.error.Error.{Error}
use Rattle.json_io.specs.declared.error.ErrorCode.{ErrorCode}
use Rattle.json_io.specs.declared.error.ErrorCode.TheVariants as code
use Rattle.json_io.specs.declared.error.Place.{Place}
use Rattle.json_text.specs.Parsing.{input, consumed}
use Rattle.json_data.specs.Calls.{TypedReadingFails, TypedReadingFailsWith}
use Rattle.json_data.specs.Reading.{Reading}
use Rattle.json_data.proofs.Left.{whole_left}
use Rattle.json_tokens.specs.Refusals.{is_refusal}
use Rattle.json_tokens.specs.TokensStates.{over_text, over_tree, TakesTree}
use Rattle.json_tokens.specs.Text.{TextTokensState, text_taken, text_tokens_state, HasReadValue}
use Rattle.json_tokens.specs.Values.{ValueState, value_state, value_taken, value_tokens_state, state_taken, rest_of_tokens, at_begin}
use Rattle.json_tokens.specs.declared.value_tokens.ValueTokens.{ValueTokens}
use Rattle.json_explain.specs.Refused.{Refused}
use Rattle.json_explain.specs.Explaining.{refused_of, refused_in, IsWithin, IsPlaced, IsExplained, FirstValueHolds, TextRefused, RefusedWhere, ExplainsTree}
use Rattle.json_explain.specs.declared.explanation.Explanation.{Explanation}
use Rattle.json_explain.specs.declared.refusal.Refusal.{Refusal}

-- ---- texts

module _ (s m : TextTokensState) (same : (text_tokens_state m).input ≡ (text_tokens_state s).input) where
  by_text : over_text m.parser.text m.parser.start m.parser.lossy m.parser.limit ≡ over_text s.parser.text s.parser.start s.parser.lossy s.parser.limit → m.parser.text ≡ s.parser.text
  by_text i = cc

  by_start : over_text m.parser.text m.parser.start m.parser.lossy m.parser.limit ≡ over_text s.parser.text s.parser.start s.parser.lossy s.parser.limit → m.parser.start ≡ s.parser.start
  by_start i = cc

  by_mode : over_text m.parser.text m.parser.start m.parser.lossy m.parser.limit ≡ over_text s.parser.text s.parser.start s.parser.lossy s.parser.limit → m.parser.lossy ≡ s.parser.lossy
  by_mode i = cc

  -- a tree was taken from the beginning, and nothing more
  pub reads_tree : (b : List ℕ) (i : ℕ) (t : Tree) → s.parser.text ≡ b → s.parser.start ≡ i → s.parser.lossy ≡ false → text_taken s [] → TakesTree text_taken text_tokens_state s m t → HasReadValue m → (k : ℕ) × reads false (drop i b) t k
  reads_tree b i t e f g h r v =
      let x = v (tokens t) (r.takes.on [] h) in
      let one : x.0 ≡ t = sym (tokens_injective t x.0 x.2) in
      let y : input m.parser ≡ drop i b = ap₂ drop (by_start same ∙ f) (by_text same ∙ e) in
      let z : reads false (input m.parser) x.0 (consumed m.parser) = subst (λ (l : Bool). reads l (input m.parser) x.0 (consumed m.parser)) (by_mode same ∙ g) x.1 in
      (consumed m.parser, subst (λ (u : Tree). reads false (drop i b) u (consumed m.parser)) one (subst (λ (w : List ℕ). reads false w x.0 (consumed m.parser)) y z))

-- a text whose tree is refused is the text of a tree of at most that many levels
pub refused_text : (n : ℕ) (f : Tree → Reading) (b : List ℕ) (c : ErrorCode) (p : Place) → is_refusal c ≡ true → TypedReadingFails n f b c p → (t : Tree) × is_text false t b × (depth t ≤ n)
refused_text n f b code.TypeUnmatched p e r = (r.0.0, r.0.1, r.0.2)
refused_text n f b code.NumberOutOfRange p e r = (r.0.0, r.0.1, r.0.2)
refused_text n f b code.ExpectedNumericKey p e r = (r.0.0, r.0.1, r.0.2)
refused_text n f b c p e r = absurd (cc)

-- and that is the tree that it reads as
pub text_of_reads : (n : ℕ) (b : List ℕ) (t u : Tree) (k : ℕ) → is_text false u b → depth u ≤ n → reads false b t k → is_text false t b × (depth t ≤ n)
text_of_reads n b t u k h d r =
    let x = text_reads false u b h in
    let one : u ≡ t = (one_reads false b u t x.0 k x.1 r).0 in
    (subst (λ (v : Tree). is_text false v b) one h, subst (λ (v : Tree). depth v ≤ n) one d)

-- the same by rules
pub refused_by_rules : (rules : Rules) (f : Tree → Reading) (b : List ℕ) (c : ErrorCode) (p : Place) → is_refusal c ≡ true → TypedReadingFailsWith rules f b c p
    → (t : Tree) × is_text false t b × (depth t ≤ rules.limit)
refused_by_rules rules f b code.TypeUnmatched p e r = (r.0.0, r.0.1, r.0.2.0)
refused_by_rules rules f b code.NumberOutOfRange p e r = (r.0.0, r.0.1, r.0.2.0)
refused_by_rules rules f b code.ExpectedNumericKey p e r = (r.0.0, r.0.1, r.0.2.0)
refused_by_rules rules f b c p e r = absurd (cc)

utf8_fault : (b : List ℕ) (k : ℕ) → IsUtf8Fault b k → IsUtf8 b → ⊥
utf8_fault b k v u = v.longest (length b) v.short (subst IsUtf8 (sym (take_all (length b) b (omega arith))) u)

-- a text is UTF-8
pub no_utf8_fault : (b : List ℕ) (c : ErrorCode) (p : Place) → Utf8Cause b c p → (t : Tree) → is_text false t b → ⊥
no_utf8_fault b code.InvalidUTF8 p (k, v, e) t h = utf8_fault b k v (text_utf8 false t b h)
no_utf8_fault b c p u t h = absurd u

-- ---- what explains an error

not_both : (v : Bool) {X : Type 0} → v ≡ true → v ≡ false → X
not_both v e h = let q : true ≡ false = sym e ∙ h in absurd (cc)

module _ (n : ℕ) (f : Tree → Option Refused) (b : List ℕ) (x : Explanation) (e : Error) where
  -- no refusal explains it
  pub plain_explained : x.error ≡ e → x.refusal ≡ None → x.place ≡ e.place → (is_refusal e.code ≡ true → TextRefused n f b None x.place) → IsExplained n f b x
  plain_explained i r p k = record {
    refused = λ h. subst (λ (o : Option Refusal). TextRefused n f b (refused_in o) x.place) (sym r) (k (subst (λ (y : Error). is_refusal y.code ≡ true) i h));
    plain = λ h. r;
    elsewhere = λ h. p ∙ ap (λ (y : Error). y.place) (sym i);
  }

  pub plain_error : x.error ≡ e → x.refusal ≡ None → x.place ≡ e.place → is_refusal e.code ≡ false → IsExplained n f b x
  plain_error i r p h = plain_explained i r p (λ k. not_both (is_refusal e.code) k h)

  -- the tree is not refused
  pub unrefused_explained : x.error ≡ e → x.refusal ≡ None → x.place ≡ e.place → ((u : Tree) × is_text false u b × (depth u ≤ n)) → FirstValueHolds (λ t. RefusedWhere f t None) b → IsExplained n f b x
  unrefused_explained i r p u k = plain_explained i r p (λ h. let w = text_of_reads n b k.0 u.0 k.1 u.1 u.2 k.2 in (k.0, w.0, w.1, k.3.0, tt))

  -- a refusal explains it
  pub placed_explained : (r : Refusal) → x.error ≡ e → x.refusal ≡ Some r → is_refusal e.code ≡ true → ((u : Tree) × is_text false u b × (depth u ≤ n)) → FirstValueHolds (λ t. RefusedWhere f t (Some (refused_of r))) b
      → ((t : Tree) → is_text false t b → depth t ≤ n → IsWithin t (refused_of r) → IsPlaced n b t x.place (refused_of r)) → IsExplained n f b x
  placed_explained r i q h u k p =
      let w = text_of_reads n b k.0 u.0 k.1 u.1 u.2 k.2 in
      let z : TextRefused n f b (Some (refused_of r)) x.place = (k.0, w.0, w.1, k.3.0, p k.0 w.0 w.1 k.3.1) in
      record {
        refused = λ j. subst (λ (o : Option Refusal). TextRefused n f b (refused_in o) x.place) (sym q) z;
        plain = λ j. not_both (is_refusal e.code) h (subst (λ (y : Error). is_refusal y.code ≡ false) i j);
        elsewhere = λ j. let s : Some r ≡ None = sym q ∙ j in absurd (cc);
      }

-- the same text, and the same limit
pub explained_of : {f : Tree → Option Refused} {x : Explanation} {m n : ℕ} {a b : List ℕ} → m ≡ n → a ≡ b → IsExplained m f a x → IsExplained n f b x
explained_of {f = f} {x = x} {n = n} {a = a} e i h = subst (λ (c : List ℕ). IsExplained n f c x) i (subst (λ (k : ℕ). IsExplained k f a x) e h)

-- ---- values

-- the tree that was taken is the whole
whole_tree : (a b : ValueTokens) (t u : Tree) → value_state a ≡ at_begin t → TakesTree value_taken value_tokens_state a b u → u ≡ t
whole_tree a b t u e h =
    let g = h.takes.on [] (subst (λ (s : ValueState). state_taken s []) (sym e) (append-nil (tokens t))) in
    let i : over_tree (value_state b).tree ≡ over_tree t = h.moves.input ∙ ap (λ (s : ValueState). over_tree s.tree) e in
    let j : (value_state b).tree ≡ t = cc in
    whole_left t u (rest_of_tokens (value_state b)) (g ∙ ap tokens j)

pub refused_value : (a b : ValueTokens) (t : Tree) (f : Tree → Option Refused) (r : Option Refused) → value_state a ≡ at_begin t → ExplainsTree value_taken value_tokens_state f a b r → RefusedWhere f t r
refused_value a b t f r e h =
    let i = whole_tree a b t h.tree e h.takes in
    (ap f (sym i) ∙ h.answer, subst (λ (u : Tree). IfSome r (IsWithin u)) i h.within)
