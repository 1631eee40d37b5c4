-- What a builder holds, event by event.
use Rattle.std.proofs.Common.{◌≡◌, Bool, ℕ, ℤ, pos, SFits, w64, ◌^◌, ◌+◌, ◌/◌, ◌<◌, List, [], ◌∷◌, ◌++◌, length, Some, None, refl, sym, ap, subst, ◌∙◌, append_assoc, append-nil, arith, length-append, length-set}
use Rattle.std.specs.Prelude.{◌<ℤ◌, slice_set, slice_index_or}
use Rattle.std.specs.Str.{IsUtf8}
use Rattle.std.specs.Fmt.{signed_decimal}
use Rattle.std.proofs.lemmas.Str.{IsUtf8-nil, IsUtf8-append}
use Rattle.std.proofs.lemmas.List.{length_push, get_or_at}
use Rattle.json_grammar.specs.declared.Kind.TheVariants.{Array as array, Object as object}
use Rattle.json_grammar.specs.Grammar.{number}
use Rattle.json_grammar.specs.Tree.{Tree, null, boolean, num, text, Token, null_token, boolean_token, num_token, text_token, begin, end, key_token, tokens}
use Rattle.json_grammar.specs.Sizes.{token_nodes, nodes_of}
use Rattle.json_grammar.proofs.Sizes.{nodes_append}
use Rattle.json_number.specs.Integers.{integer_in}
use Rattle.json_number.proofs.Integers.{decimal_number, decimal_reads}
use Rattle.json_grammar.specs.TokenStates.{TokenState, initial_state, state_after_value, after_token, after_tokens, ValueMayCome, MayCome, BeginsTree}
use Rattle.json_doc.specs.ByValue.{integer_cell}
use Rattle.json_doc.specs.CellReadings.{cell_len}
use Rattle.json_doc.specs.OpenCells.{link_of, outer_place, outer_count}
use Rattle.json_doc.specs.Texts.{token_text, tokens_text}
use Rattle.json_doc.specs.Segment.{TextAt, node}
use Rattle.json_doc.specs.Building.{BuilderState, nothing, nowhere}
use Rattle.json_doc.specs.Recorded.{RecordsTokens}
use Rattle.json_doc.specs.declared.cell.Cell.{Cell}
use Rattle.json_doc.specs.declared.cell.Cell.TheVariants as cell
use Rattle.json_grammar.proofs.TokenStates.{after_append}
use Rattle.json_grammar.proofs.TokenPrefixes.{may_come}
use Rattle.json_doc.proofs.Integers.{integer_text, raw_text, integer_is_there, raw_is_there, negative_text}
use Rattle.json_doc.proofs.Builds.{builds_more, count_within, builds_value, builds_key, builds_array, builds_object, Within, within_array, within_object, ends}

pub tokens_text_append : (ts us : List Token) → tokens_text (ts ++ us) ≡ tokens_text ts ++ tokens_text us
tokens_text_append [] us = refl
tokens_text_append (x ∷ ts) us = ap (λ (s : List ℕ). token_text x ++ s) (tokens_text_append ts us) ∙ sym (append_assoc (token_text x) (tokens_text ts) (tokens_text us))

more_text : (ts : List Token) (x : Token) → tokens_text (ts ++ x ∷ []) ≡ tokens_text ts ++ token_text x
more_text ts x = tokens_text_append ts (x ∷ []) ∙ ap (λ (s : List ℕ). tokens_text ts ++ s) (append-nil (token_text x))

more_nodes : (ts : List Token) (x : Token) → nodes_of (ts ++ x ∷ []) ≡ nodes_of ts + token_nodes x
more_nodes ts x = let more = nodes_append ts (x ∷ []) in omega arith

pub held_same : (cells cells' : List Cell) (bytes bytes' : List ℕ) (p p' n n' : ℕ) (ts : List Token) → cells' ≡ cells → bytes' ≡ bytes → p' ≡ p → n' ≡ n → RecordsTokens cells bytes p n ts → RecordsTokens cells' bytes' p' n' ts
held_same cells cells' bytes bytes' p p' n n' ts e f g h held =
    subst (λ (x : List Cell). RecordsTokens x bytes' p' n' ts) (sym e) (subst (λ (x : List ℕ). RecordsTokens cells x p' n' ts) (sym f)
    (subst (λ (x : ℕ). RecordsTokens cells bytes x n' ts) (sym g) (subst (λ (x : ℕ). RecordsTokens cells bytes p x ts) (sym h) held)))

pub held_nothing : RecordsTokens [] [] nowhere 0 []
held_nothing = record {
  built = nothing;
  texts = refl;
  utf8 = IsUtf8-nil;
  counted = refl;
}

-- the state after the last token is that after all
after_one : (bytes : List ℕ) (cells : List Cell) (p n : ℕ) (ts : List Token) (x : Token) → BuilderState bytes cells p n (after_token (after_tokens initial_state ts) x) (ts ++ x ∷ []) → BuilderState bytes cells p n (after_tokens initial_state (ts ++ x ∷ [])) (ts ++ x ∷ [])
after_one bytes cells p n ts x b = subst (λ (s : TokenState). BuilderState bytes cells p n s (ts ++ x ∷ [])) (sym (after_append initial_state ts (x ∷ []))) b

-- one more cell, made of the token x
held_more : (cells : List Cell) (bytes extra : List ℕ) (p n : ℕ) (ts : List Token) (c : Cell) (x : Token)
    → length cells ≡ nodes_of ts → bytes ≡ tokens_text ts → IsUtf8 bytes → token_nodes x ≡ 1 → token_text x ≡ extra → IsUtf8 extra
    → BuilderState (bytes ++ extra) (cells ++ c ∷ []) p n (after_token (after_tokens initial_state ts) x) (ts ++ x ∷ []) → RecordsTokens (cells ++ c ∷ []) (bytes ++ extra) p n (ts ++ x ∷ [])
held_more cells bytes extra p n ts c x m t u one is_extra u' b = record {
  built = after_one (bytes ++ extra) (cells ++ c ∷ []) p n ts x b;
  texts = ap (λ (s : List ℕ). s ++ extra) t ∙ ap (λ (s : List ℕ). tokens_text ts ++ s) (sym is_extra) ∙ sym (more_text ts x);
  utf8 = IsUtf8-append bytes extra u u';
  counted = let more = more_nodes ts x in omega (arith, length_push cells c);
}

-- a scalar
held_leaf : (cells : List Cell) (bytes extra : List ℕ) (p n : ℕ) (ts : List Token) (c : Cell) (t : Tree) (x : Token)
    → IsUtf8 extra → ((s : TokenState) → (after_token s x ≡ state_after_value s) × (MayCome s x → ValueMayCome s.expected)) → tokens t ≡ x ∷ [] → token_nodes x ≡ 1 → token_text x ≡ extra → ((k : ℕ) → node (bytes ++ extra) k (c ∷ []) t)
    → RecordsTokens cells bytes p n ts → BeginsTree (ts ++ x ∷ []) → RecordsTokens (cells ++ c ∷ []) (bytes ++ extra) p (n + 1) (ts ++ x ∷ [])
held_leaf cells bytes extra p n ts c t x u is_value is_token one is_extra here h b =
    let value = is_value (after_tokens initial_state ts) in
    let built = builds_value (bytes ++ extra) (c ∷ []) t (builds_more extra u h.built) (value.1 (may_come ts x b)) (here (length cells)) in
    held_more cells bytes extra p (n + 1) ts c x h.counted h.texts h.utf8 one is_extra u
    (subst (λ (s : TokenState). BuilderState (bytes ++ extra) (cells ++ c ∷ []) p (n + 1) s (ts ++ x ∷ [])) (sym value.0) (subst (λ (y : List Token). BuilderState (bytes ++ extra) (cells ++ c ∷ []) p (n + 1) (state_after_value (after_tokens initial_state ts)) (ts ++ y)) is_token built))

no_bytes : (cells : List Cell) (bytes : List ℕ) (p n : ℕ) (ts : List Token) → RecordsTokens cells (bytes ++ []) p n ts → RecordsTokens cells bytes p n ts
no_bytes cells bytes p n ts h = subst (λ (s : List ℕ). RecordsTokens cells s p n ts) (append-nil bytes) h

is_there_last : (bytes s : List ℕ) → IsUtf8 s → TextAt (bytes ++ s) (length bytes) s
is_there_last bytes s u = (
  record {
    before = bytes;
    after = [];
    row = ap (λ (x : List ℕ). bytes ++ x) (sym (append-nil s));
    place = refl;
  },
  u,
  IsUtf8-nil,
)

module _ (cells : List Cell) (bytes : List ℕ) (p n : ℕ) (ts : List Token) where
  pub held_null : RecordsTokens cells bytes p n ts → BeginsTree (ts ++ null_token ∷ []) → RecordsTokens (cells ++ cell.Null ∷ []) bytes p (n + 1) (ts ++ null_token ∷ [])
  held_null h b = no_bytes _ bytes p _ _ (held_leaf cells bytes [] p n ts cell.Null null null_token IsUtf8-nil (λ s. (refl, λ m. m)) refl refl refl (λ k. refl) h b)

  pub held_boolean : (v : Bool) → RecordsTokens cells bytes p n ts → BeginsTree (ts ++ boolean_token v ∷ []) → RecordsTokens (cells ++ cell.Bool v ∷ []) bytes p (n + 1) (ts ++ boolean_token v ∷ [])
  held_boolean v h b = no_bytes _ bytes p _ _ (held_leaf cells bytes [] p n ts (cell.Bool v) (boolean v) (boolean_token v) IsUtf8-nil (λ s. (refl, λ m. m)) refl refl refl (λ k. refl) h b)

  held_integer : (z : ℤ) → number (signed_decimal z) → integer_in (signed_decimal z) ≡ Some z
      → RecordsTokens cells bytes p n ts → BeginsTree (ts ++ num_token (signed_decimal z) ∷ []) → RecordsTokens (cells ++ integer_cell z ∷ []) bytes p (n + 1) (ts ++ num_token (signed_decimal z) ∷ [])
  held_integer z is e h b =
      let l = signed_decimal z in
      no_bytes _ bytes p _ _ (held_leaf cells bytes [] p n ts (integer_cell z) (num l) (num_token l) IsUtf8-nil (λ s. (refl, λ m. m)) refl refl (integer_text l z e) (λ k. (is, integer_cell z, refl, integer_is_there (bytes ++ []) l z e refl)) h b)

  pub held_unsigned : (m : ℕ) → m < 2 ^ 64 → RecordsTokens cells bytes p n ts → BeginsTree (ts ++ num_token (signed_decimal (pos m)) ∷ [])
      → RecordsTokens (cells ++ cell.Unsigned m ∷ []) bytes p (n + 1) (ts ++ num_token (signed_decimal (pos m)) ∷ [])
  held_unsigned m k h b = held_integer (pos m) (decimal_number m k) (decimal_reads m k) h b

  pub held_negative : (z : ℤ) → z <ℤ pos 0 → SFits w64 z → RecordsTokens cells bytes p n ts → BeginsTree (ts ++ num_token (signed_decimal z) ∷ [])
      → RecordsTokens (cells ++ cell.Negative z ∷ []) bytes p (n + 1) (ts ++ num_token (signed_decimal z) ∷ [])
  held_negative z k f h b =
      let t = negative_text z k f in
      subst (λ (c : Cell). RecordsTokens (cells ++ c ∷ []) bytes p (n + 1) (ts ++ num_token (signed_decimal z) ∷ [])) t.2 (held_integer z t.0 t.1 h b)

  pub held_raw : (l : List ℕ) → IsUtf8 l → number l → integer_in l ≡ None
      → RecordsTokens cells bytes p n ts → BeginsTree (ts ++ num_token l ∷ []) → RecordsTokens (cells ++ cell.Raw (length bytes) (length l) ∷ []) (bytes ++ l) p (n + 1) (ts ++ num_token l ∷ [])
  held_raw l u is e h b =
      let c = cell.Raw (length bytes) (length l) in
      held_leaf cells bytes l p n ts c (num l) (num_token l) u (λ s. (refl, λ m. m)) refl refl (raw_text l e) (λ k. (is, c, refl, raw_is_there (bytes ++ l) l c e (length bytes, refl, is_there_last bytes l u))) h b

  pub held_text : (s : List ℕ) → IsUtf8 s → RecordsTokens cells bytes p n ts → BeginsTree (ts ++ text_token s ∷ []) → RecordsTokens (cells ++ cell.Str (length bytes) (length s) ∷ []) (bytes ++ s) p (n + 1) (ts ++ text_token s ∷ [])
  held_text s u h b =
      let c = cell.Str (length bytes) (length s) in
      held_leaf cells bytes s p n ts c (text s) (text_token s) u (λ s. (refl, λ m. m)) refl refl refl (λ k. (c, refl, (length bytes, refl, is_there_last bytes s u))) h b

  pub held_key : (s : List ℕ) → IsUtf8 s → RecordsTokens cells bytes p n ts → BeginsTree (ts ++ key_token s ∷ []) → RecordsTokens (cells ++ cell.Str (length bytes) (length s) ∷ []) (bytes ++ s) p (n + 1) (ts ++ key_token s ∷ [])
  held_key s u h b =
      let c = cell.Str (length bytes) (length s) in
      let built = builds_key (bytes ++ s) c s (builds_more s u h.built) (may_come ts (key_token s) b) (length bytes, refl, is_there_last bytes s u) in
      held_more cells bytes s p (n + 1) ts c (key_token s) h.counted h.texts h.utf8 refl refl u built

  pub held_array : RecordsTokens cells bytes p n ts → BeginsTree (ts ++ begin array ∷ []) → RecordsTokens (cells ++ cell.Array p n ∷ []) bytes (length cells) 0 (ts ++ begin array ∷ [])
  held_array h b =
      no_bytes _ bytes (length cells) _ _
      (held_more cells bytes [] (length cells) 0 ts (cell.Array p n) (begin array) h.counted h.texts h.utf8 refl refl IsUtf8-nil (builds_array (bytes ++ []) (builds_more [] IsUtf8-nil h.built) (may_come ts (begin array) b)))

  pub held_object : RecordsTokens cells bytes p n ts → BeginsTree (ts ++ begin object ∷ []) → RecordsTokens (cells ++ cell.Object p n ∷ []) bytes (length cells) 0 (ts ++ begin object ∷ [])
  held_object h b =
      no_bytes _ bytes (length cells) _ _
      (held_more cells bytes [] (length cells) 0 ts (cell.Object p n) (begin object) h.counted h.texts h.utf8 refl refl IsUtf8-nil (builds_object (bytes ++ []) (builds_more [] IsUtf8-nil h.built) (may_come ts (begin object) b)))

-- ---- the end of a container

end_text : (bytes : List ℕ) (ts : List Token) (x : Token) → token_text x ≡ [] → bytes ≡ tokens_text ts → bytes ≡ tokens_text (ts ++ x ∷ [])
end_text bytes ts x e h = h ∙ sym (append-nil (tokens_text ts)) ∙ ap (λ (s : List ℕ). tokens_text ts ++ s) (sym e) ∙ sym (more_text ts x)

-- a container whose cell becomes c: what that needs, and what is held afterwards
pub record Ends (x : Token) (c : Cell) (cells : List Cell) (bytes : List ℕ) (p : ℕ) (ts : List Token) : Type 0 where
  pub is_open : p < length cells
  pub fits : outer_count cells p < length cells
  pub held : RecordsTokens (slice_set cells p c) bytes (outer_place cells p) (outer_count cells p + 1) (ts ++ x ∷ [])

held_end : (x : Token) (c : Cell) (cells : List Cell) (bytes : List ℕ) (p n : ℕ) (ts : List Token) → token_text x ≡ [] → token_nodes x ≡ 0
    → RecordsTokens cells bytes p n ts → Within x c bytes cells p (after_token (after_tokens initial_state ts) x) ts → Ends x c cells bytes p ts
held_end x c cells bytes p n ts no_text no_node h i =
    let header : slice_index_or cells p cell.Null ≡ i.open_cell = ap (λ (k : List Cell). slice_index_or k p cell.Null) i.is_front ∙ get_or_at i.outer i.open_cell i.cs cell.Null p i.is_place in
    let around : outer_place cells p ≡ i.around = ap link_of header ∙ i.is_link in
    let count : outer_count cells p ≡ i.count = ap cell_len header ∙ i.is_len in
    let there : p < length cells = omega (arith, ap length i.is_front, length-append i.outer (i.open_cell ∷ i.cs), i.is_place) in
    let more = more_nodes ts x in
    let after = after_token (after_tokens initial_state ts) x in
    record {
      is_open = there;
      fits = omega (arith, count_within i.built_outer, i.is_place);
      held = record {
        built = after_one bytes (slice_set cells p c) (outer_place cells p) (outer_count cells p + 1) ts x
            (subst (λ (k : ℕ). BuilderState bytes (slice_set cells p c) (outer_place cells p) (k + 1) after (ts ++ x ∷ [])) (sym count)
            (subst (λ (k : ℕ). BuilderState bytes (slice_set cells p c) k (i.count + 1) after (ts ++ x ∷ [])) (sym around) (ends x c bytes cells p after ts i)));
        texts = end_text bytes ts x no_text h.texts;
        utf8 = h.utf8;
        counted = length-set cells p c ∙ h.counted ∙ omega arith;
      };
    }

pub held_array_end : (cells : List Cell) (bytes : List ℕ) (p n : ℕ) (ts : List Token) → RecordsTokens cells bytes p n ts → BeginsTree (ts ++ end array ∷ []) → Ends (end array) (cell.Array (length cells) n) cells bytes p ts
held_array_end cells bytes p n ts h b =
    held_end (end array) (cell.Array (length cells) n) cells bytes p n ts refl refl h (within_array h.built (may_come ts (end array) b))

pub held_object_end : (cells : List Cell) (bytes : List ℕ) (p n : ℕ) (ts : List Token) → RecordsTokens cells bytes p n ts → BeginsTree (ts ++ end object ∷ []) → Ends (end object) (cell.Object (length cells) (n / 2)) cells bytes p ts
held_object_end cells bytes p n ts h b =
    held_end (end object) (cell.Object (length cells) (n / 2)) cells bytes p n ts refl refl h (within_object h.built (may_come ts (end object) b))
