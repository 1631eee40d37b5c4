-- A serializer whose containers a usize counts does as one whose formatter's level has no end.
use Rattle.std.proofs.Common.{◌≡◌, ℕ, suc, ◌-◌, ◌^◌, ◌≤◌, List, [], ◌∷◌, length, ◌∙◌, sym, ap, refl, subst, arith, Bool, true, false, cond, ◌||◌, nat_lt, Option, inl, inr}
use Rattle.std.proofs.lemmas.Bool.{lt-ltb, cases_lt}
use Rattle.json_grammar.specs.declared.Kind.{Kind}
use Rattle.json_grammar.specs.declared.Kind.TheVariants.{Array as array, Object as object}
use Rattle.json_grammar.specs.Tree.{Token, null_token, boolean_token, num_token, text_token, begin, end, key_token}
use Rattle.json_grammar.specs.Place.{outside}
use Rattle.json_print.specs.declared.events.ExpectedEvent.{ExpectedEvent}
use Rattle.json_print.specs.declared.events.ExpectedEvent.TheVariants.{Value as at_value, Element as at_element, Key as at_key, Member as at_member, Done as at_done}
use Rattle.json_print.specs.Calls.{FormatterCall, null_call, boolean_call, number_call, string_call, begin_call, end_call, begin_element, end_element, begin_key, end_key, begin_member, end_member, piece_of, level_after, flag_after}
use Rattle.json_print.specs.Layouts.{FormatterModel, LaidOut}
use Rattle.json_grammar.specs.TokenStates.{after_token}
use Rattle.json_print.specs.ExpectedAfter.{expected_after}
use Rattle.json_print.specs.Taking.{after_all}
use Rattle.json_print.specs.Printer.{SerializerState, MemberText, after, with_bytes, gained_put, layers_put, call, lead_in, follow_on, value_begun, value_ended, turned, filed, key_put, took_scalar, took_end, took_key, row_put, rows_put, rows_sorted, top_rows, below, emptied, is_first, expected_tokens_of}
use Rattle.json_print.proofs.EndlessLevels.{Level, ideal, level_in, after_in, opened_in}

-- ---- a formatter's layout

head_same : {A : Type 0} (x y : A) (xs ys : List A) → x ∷ xs ≡ y ∷ ys → x ≡ y
head_same x y xs ys e = cc

tail_same : {A : Type 0} (x y : A) (xs ys : List A) → x ∷ xs ≡ y ∷ ys → xs ≡ ys
tail_same x y xs ys e = cc

out_piece : {F : Type 0} (m : FormatterModel F) (f : F) (i : Option (List ℕ)) (d : ℕ) (b : Bool) (c : FormatterCall) → LaidOut m f i d b → m.piece f c ≡ piece_of i d b c
out_piece m f i d b c h = head_same _ _ _ _ (h (c ∷ []))

out_next : {F : Type 0} (m : FormatterModel F) (f : F) (i : Option (List ℕ)) (d : ℕ) (b : Bool) (c : FormatterCall) → LaidOut m f i d b → LaidOut m (m.next f c) i (level_after d c) (flag_after b c)
out_next m f i d b c h = λ cs. tail_same _ _ _ _ (h (c ∷ cs))

-- ---- likeness

-- the same with a formatter at this level
abbrev pub like : {F : Type 0} → SerializerState F → ℕ → Bool → SerializerState Level
like s d b =
    record { formatter = record { level = d; flag = b }; turn = s.turn; opened = s.opened; sorts = s.sorts; layers = s.layers; gained = s.gained; faults = s.faults; lacks = s.lacks; loan = s.loan; deep = false }

pub record Like {F : Type 0} (m : FormatterModel F) (i : Option (List ℕ)) (s : SerializerState F) (x : SerializerState Level) (d : ℕ) : Type 0 where
  pub flag : Bool
  pub laid : LaidOut m s.formatter i d flag
  pub same : x ≡ like s d flag

module _ {F : Type 0} (m : FormatterModel F) (i : Option (List ℕ)) where
  like_call : (s : SerializerState F) (d : ℕ) (b : Bool) (c : FormatterCall) → LaidOut m s.formatter i d b → call (ideal i) (like s d b) c ≡ like (call m s c) (level_in d c) (flag_after b c)
  like_call s d b c h =
      ap (λ (p : List ℕ). let r : SerializerState Level = record (like s (level_in d c) (flag_after b c)) { gained = gained_put s.layers s.gained p; layers = layers_put s.layers p } in r) (sym (out_piece m s.formatter i d b c h))

  like_called : (s : SerializerState F) (x : SerializerState Level) (d : ℕ) (c : FormatterCall) → level_after d c ≡ level_in d c → Like m i s x d → Like m i (call m s c) (call (ideal i) x c) (level_in d c)
  like_called s x d c e h =
      record {
        flag = flag_after h.flag c;
        laid = subst (λ n. LaidOut m (m.next s.formatter c) i n (flag_after h.flag c)) e (out_next m s.formatter i d h.flag c h.laid);
        same = ap (λ (y : SerializerState Level). call (ideal i) y c) h.same ∙ like_call s d h.flag c h.laid;
      }

  -- a change of the rest alone
  like_at : (s s' : SerializerState F) (x : SerializerState Level) (g : SerializerState Level → SerializerState Level) (d : ℕ) → s'.formatter ≡ s.formatter → ((b : Bool) → g (like s d b) ≡ like s' d b) → Like m i s x d → Like m i s' (g x) d
  like_at s s' x g d k c h = record { flag = h.flag; laid = subst (λ f. LaidOut m f i d h.flag) (sym k) h.laid; same = ap g h.same ∙ c h.flag }

  like_turned : (s : SerializerState F) (x : SerializerState Level) (d : ℕ) (t : ExpectedEvent) → Like m i s x d → Like m i (turned s t) (turned x t) d
  like_turned s x d t h = like_at s (turned s t) x (λ y. turned y t) d refl (λ b. refl) h

  -- it is enough to say so of the one state
  like_of : (s s' : SerializerState F) (x : SerializerState Level) (g : SerializerState Level → SerializerState Level) (d e : ℕ) → ((b : Bool) → LaidOut m s.formatter i d b → Like m i s' (g (like s d b)) e) → Like m i s x d → Like m i s' (g x) e
  like_of s s' x g d e p h = subst (λ y. Like m i s' (g y) e) (sym h.same) (p h.flag h.laid)

  itself : (s : SerializerState F) (d : ℕ) (b : Bool) → LaidOut m s.formatter i d b → Like m i s (like s d b) d
  itself s d b h = record { flag = b; laid = h; same = refl }

  one_like : (c : Bool) (s s' : SerializerState F) (x x' : SerializerState Level) (d : ℕ) → Like m i s x d → Like m i s' x' d → Like m i (cond c s s') (cond c x x') d
  one_like true s s' x x' d g h = g
  one_like false s s' x x' d g h = h

  -- ---- before and after a value

  like_begun : (s : SerializerState F) (x : SerializerState Level) (d : ℕ) → Like m i s x d → Like m i (value_begun m s) (value_begun (ideal i) x) d
  like_begun s x d h = like_of s (value_begun m s) x (value_begun (ideal i)) d d (λ b l. go s.turn (itself s d b l)) h
    where
      go : (t : ExpectedEvent) {b : Bool} → Like m i s (like s d b) d → Like m i (lead_in m s t) (lead_in (ideal i) (like s d b) t) d
      go at_value k = k
      go (at_element first) k = like_called s _ d (begin_element first) refl k
      go (at_key first) k = k
      go at_member k = one_like s.sorts s (call m s begin_member) _ _ d k (like_called s _ d begin_member refl k)
      go at_done k = k

  like_follow : (s : SerializerState F) (x : SerializerState Level) (d : ℕ) (c : List Kind) → Like m i s x d → Like m i (follow_on m s c) (follow_on (ideal i) x c) d
  like_follow s x d [] h = like_turned s x d at_done h
  like_follow s x d (array ∷ c) h = like_turned _ _ d (at_element false) (like_called s x d end_element refl h)
  like_follow s x d (object ∷ c) h = like_of s (follow_on m s (object ∷ c)) x (λ y. follow_on (ideal i) y (object ∷ c)) d d (λ b l. go (itself s d b l)) h
    where
      go : {b : Bool} → Like m i s (like s d b) d → Like m i (follow_on m s (object ∷ c)) (follow_on (ideal i) (like s d b) (object ∷ c)) d
      go {b} k =
          like_turned _ _ d (at_key false)
          (one_like s.sorts (record s { layers = filed s.layers }) (call m s end_member) (record (like s d b) { layers = filed s.layers }) (call (ideal i) (like s d b) end_member) d
          (like_at s _ (like s d b) (λ y. record y { layers = filed y.layers }) d refl (λ b. refl) k) (like_called s _ d end_member refl k))

  like_ended : (s : SerializerState F) (x : SerializerState Level) (d : ℕ) → Like m i s x d → Like m i (value_ended m s) (value_ended (ideal i) x) d
  like_ended s x d h = like_of s (value_ended m s) x (value_ended (ideal i)) d d (λ b l. like_follow s (like s d b) d s.opened (itself s d b l)) h

  -- ---- the tokens

  like_scalar : (s : SerializerState F) (x : SerializerState Level) (d : ℕ) (c : FormatterCall) → level_after d c ≡ level_in d c → level_in d c ≡ d → Like m i s x d → Like m i (took_scalar m s c) (took_scalar (ideal i) x c) d
  like_scalar s x d c e k h = subst (Like m i _ _) k (like_ended _ _ (level_in d c) (like_called _ _ d c e (like_begun s x d h)))

  like_row : (s : SerializerState F) (x : SerializerState Level) (d : ℕ) (first : Bool) (r : MemberText) → Like m i s x d → Like m i (row_put m s first r) (row_put (ideal i) x first r) d
  like_row s x d first r h =
      let k = like_called _ _ d begin_member refl (like_called _ _ d end_key refl (like_called _ _ d (string_call true r.key) refl (like_called s x d (begin_key first) refl h))) in
      like_called _ _ d end_member refl (like_at _ _ _ (λ y. with_bytes y r.text) d refl (λ b. refl) k)

  like_rows : (rows : List MemberText) (s : SerializerState F) (x : SerializerState Level) (d : ℕ) (first : Bool) → Like m i s x d → Like m i (rows_put m s first rows) (rows_put (ideal i) x first rows) d
  like_rows [] s x d first h = h
  like_rows (r ∷ rows) s x d first h = like_rows rows _ _ d false (like_row s x d first r h)

  like_emptied : (s : SerializerState F) (x : SerializerState Level) (d : ℕ) (k : Kind) → Like m i s x d → Like m i (emptied m s k) (emptied (ideal i) x k) d
  like_emptied s x d array h = h
  like_emptied s x d object h = like_of s (emptied m s object) x (λ y. emptied (ideal i) y object) d d (λ b l. go (itself s d b l)) h
    where
      go : {b : Bool} → Like m i s (like s d b) d → Like m i (emptied m s object) (emptied (ideal i) (like s d b) object) d
      go {b} k = one_like s.sorts _ s _ (like s d b) d (like_rows (rows_sorted (top_rows s.layers)) _ _ d true (like_at s _ (like s d b) (λ y. record y { layers = below y.layers }) d refl (λ b. refl) k)) k

  like_end : (s : SerializerState F) (x : SerializerState Level) (d : ℕ) (k : Kind) → Like m i s x d → Like m i (took_end m s k) (took_end (ideal i) x k) (d - 1)
  like_end s x d k h =
      like_ended _ _ (d - 1) (like_at _ _ _ (λ y. record y { opened = outside y.opened }) (d - 1) refl (λ b. refl) (like_called _ _ d (end_call k) refl (like_emptied s x d k h)))

  like_key : (s : SerializerState F) (x : SerializerState Level) (d : ℕ) (k : List ℕ) → Like m i s x d → Like m i (took_key m s k) (took_key (ideal i) x k) d
  like_key s x d k h = like_of s (took_key m s k) x (λ y. took_key (ideal i) y k) d d (λ b l. go (itself s d b l)) h
    where
      go : {b : Bool} → Like m i s (like s d b) d → Like m i (took_key m s k) (took_key (ideal i) (like s d b) k) d
      go {b} l =
          like_turned _ _ d at_member
          (one_like s.sorts _ _ _ _ d (like_at s _ (like s d b) (λ y. record y { layers = key_put y.layers k }) d refl (λ b. refl) l)
          (like_called _ _ d end_key refl (like_called _ _ d (string_call true k) refl (like_called s _ d (begin_key (is_first s.turn)) refl l))))

  -- ---- one token after another

  -- the last value of a usize
  abbrev most : ℕ
  most = 2 ^ 64 - 1

  after_opened : (s : SerializerState F) (t : Token) → (after m s t).opened ≡ (after_token (expected_tokens_of s) t).opened
  after_opened s t = ap (λ z. z.opened) (expected_after m s t)

  shorter : (c : List Kind) → length c - 1 ≡ length (outside c)
  shorter [] = refl
  shorter (k ∷ c) = omega arith

  at_length : (s s' : SerializerState F) (x : SerializerState Level) (d : ℕ) (c : List Kind) → d ≡ length c → s'.opened ≡ c → Like m i s' x d → Like m i s' x (length s'.opened)
  at_length s s' x d c e k h = subst (Like m i s' x) (e ∙ sym (ap length k)) h

  or_right : (a b : Bool) → (a || b) ≡ false → b ≡ false
  or_right true b e = absurd (cc)
  or_right false b e = e

  or_left : (a b : Bool) → (a || b) ≡ false → a ≡ false
  or_left true b e = e
  or_left false b e = refl

  not_above : (n : ℕ) → nat_lt most n ≡ false → n ≤ most
  not_above n e = elim (cases_lt most n) [ inl l ↦ absurd (above (sym (lt-ltb most n l) ∙ e)) | inr l ↦ l ]
    where
      above : true ≡ false → ⊥
      above h = cc

  begun_opened : (s : SerializerState F) (k : Kind) → (value_begun m s).opened ≡ s.opened
  begun_opened s k = tail_same k k _ _ (after_opened s (begin k))

  like_begin : (s : SerializerState F) (x : SerializerState Level) (k : Kind) → (after m s (begin k)).deep ≡ false → Like m i s x (length s.opened) → Like m i (after m s (begin k)) (after_in (ideal i) x (begin k)) (suc (length s.opened))
  like_begin s x k e h =
      let d = length s.opened in
      let few : suc (length (value_begun m s).opened) ≤ most = not_above _ (or_right (value_begun m s).deep _ e) in
      let bound : suc d ≤ most = omega (arith, few, ap length (begun_opened s k)) in
      let level : level_after d (begin_call k) ≡ suc d = omega (arith, bound) in
      like_at _ _ _ (λ y. opened_in y k) (suc d) refl (λ b. refl) (like_called _ _ d (begin_call k) level (like_begun s x d h))

  after_like : (s : SerializerState F) (x : SerializerState Level) (t : Token) → (after m s t).deep ≡ false → Like m i s x (length s.opened) → Like m i (after m s t) (after_in (ideal i) x t) (length (after m s t).opened)
  after_like s x null_token e h = at_length s _ _ (length s.opened) _ refl (after_opened s null_token) (like_scalar s x _ null_call refl refl h)
  after_like s x (boolean_token b) e h = at_length s _ _ (length s.opened) _ refl (after_opened s (boolean_token b)) (like_scalar s x _ (boolean_call b) refl refl h)
  after_like s x (num_token l) e h = at_length s _ _ (length s.opened) _ refl (after_opened s (num_token l)) (like_scalar s x _ (number_call l) refl refl h)
  after_like s x (text_token l) e h = at_length s _ _ (length s.opened) _ refl (after_opened s (text_token l)) (like_scalar s x _ (string_call true l) refl refl h)
  after_like s x (begin k) e h = at_length s _ _ (suc (length s.opened)) (k ∷ s.opened) refl (after_opened s (begin k)) (like_begin s x k e h)
  after_like s x (end k) e h = at_length s _ _ (length s.opened - 1) (outside s.opened) (shorter s.opened) (after_opened s (end k)) (like_end s x _ k h)
  after_like s x (key_token k) e h = at_length s _ _ (length s.opened) _ refl (after_opened s (key_token k)) (like_key s x _ k h)

  -- ---- what has been counted stays so

  one_deep : (b : Bool) (x y : SerializerState F) (p : Bool) → x.deep ≡ p → y.deep ≡ p → (cond b x y).deep ≡ p
  one_deep true x y p g h = g
  one_deep false x y p g h = h

  begun_deep : (s : SerializerState F) → (value_begun m s).deep ≡ s.deep
  begun_deep s = go s.turn
    where
      go : (t : ExpectedEvent) → (lead_in m s t).deep ≡ s.deep
      go at_value = refl
      go (at_element first) = refl
      go (at_key first) = refl
      go at_member = one_deep s.sorts s (call m s begin_member) s.deep refl refl
      go at_done = refl

  ended_deep : (s : SerializerState F) → (value_ended m s).deep ≡ s.deep
  ended_deep s = go s.opened
    where
      go : (c : List Kind) → (follow_on m s c).deep ≡ s.deep
      go [] = refl
      go (array ∷ c) = refl
      go (object ∷ c) = one_deep s.sorts _ (call m s end_member) s.deep refl refl

  rows_deep : (rows : List MemberText) (s : SerializerState F) (first : Bool) → (rows_put m s first rows).deep ≡ s.deep
  rows_deep [] s first = refl
  rows_deep (r ∷ rows) s first = rows_deep rows (row_put m s first r) false

  emptied_deep : (s : SerializerState F) (k : Kind) → (emptied m s k).deep ≡ s.deep
  emptied_deep s array = refl
  emptied_deep s object = one_deep s.sorts _ s s.deep (rows_deep (rows_sorted (top_rows s.layers)) _ true) refl

  scalar_deep : (s : SerializerState F) (c : FormatterCall) → (took_scalar m s c).deep ≡ s.deep
  scalar_deep s c = ended_deep (call m (value_begun m s) c) ∙ begun_deep s

  pub was_counted : (s : SerializerState F) (t : Token) → (after m s t).deep ≡ false → s.deep ≡ false
  was_counted s null_token e = sym (scalar_deep s null_call) ∙ e
  was_counted s (boolean_token b) e = sym (scalar_deep s (boolean_call b)) ∙ e
  was_counted s (num_token l) e = sym (scalar_deep s (number_call l)) ∙ e
  was_counted s (text_token l) e = sym (scalar_deep s (string_call true l)) ∙ e
  was_counted s (begin k) e = sym (begun_deep s) ∙ or_left _ _ e
  was_counted s (end k) e = sym (ended_deep _ ∙ emptied_deep s k) ∙ e
  was_counted s (key_token k) e = sym (one_deep s.sorts _ _ s.deep refl refl) ∙ e

  pub all_counted : (ts : List Token) (s : SerializerState F) → (after_all (after m) s ts).deep ≡ false → s.deep ≡ false
  all_counted [] s e = e
  all_counted (t ∷ ts) s e = was_counted s t (all_counted ts (after m s t) e)

  pub all_like : (ts : List Token) (s : SerializerState F) (x : SerializerState Level) → (after_all (after m) s ts).deep ≡ false → Like m i s x (length s.opened)
      → Like m i (after_all (after m) s ts) (after_all (after_in (ideal i)) x ts) (length (after_all (after m) s ts).opened)
  all_like [] s x e h = h
  all_like (t ∷ ts) s x e h = all_like ts (after m s t) (after_in (ideal i) x t) e (after_like s x t (all_counted ts (after m s t) e) h)

  -- what a token brings is the same, also where a container more is not counted
  pub after_gained : (s : SerializerState F) (x : SerializerState Level) (t : Token) → s.deep ≡ false → Like m i s x (length s.opened) → (after m s t).gained ≡ (after_in (ideal i) x t).gained
  after_gained s x null_token e h = sym (ap (λ y. y.gained) (after_like s x null_token (scalar_deep s null_call ∙ e) h).same)
  after_gained s x (boolean_token b) e h = sym (ap (λ y. y.gained) (after_like s x (boolean_token b) (scalar_deep s (boolean_call b) ∙ e) h).same)
  after_gained s x (num_token l) e h = sym (ap (λ y. y.gained) (after_like s x (num_token l) (scalar_deep s (number_call l) ∙ e) h).same)
  after_gained s x (text_token l) e h = sym (ap (λ y. y.gained) (after_like s x (text_token l) (scalar_deep s (string_call true l) ∙ e) h).same)
  after_gained s x (begin k) e h =
      let d = length s.opened in
      let b = like_begun s x d h in
      sym (ap (λ (y : SerializerState Level). (call (ideal i) y (begin_call k)).gained) b.same ∙ ap (λ y. y.gained) (like_call (value_begun m s) d b.flag (begin_call k) b.laid))
  after_gained s x (end k) e h = sym (ap (λ y. y.gained) (after_like s x (end k) (ended_deep _ ∙ emptied_deep s k ∙ e) h).same)
  after_gained s x (key_token k) e h = sym (ap (λ y. y.gained) (after_like s x (key_token k) (one_deep s.sorts _ _ s.deep refl refl ∙ e) h).same)
