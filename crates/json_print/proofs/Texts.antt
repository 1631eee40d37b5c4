-- What a serializer writes of a tree.
use Rattle.std.proofs.Common.{◌≡◌, ℕ, suc, ◌-◌, List, [], ◌∷◌, ◌++◌, ◌∙◌, sym, ap, refl, subst, arith, Bool, true, false, cond, Option, append_assoc, append-nil}
use Rattle.json_grammar.specs.declared.Kind.{Kind}
use Rattle.json_grammar.specs.declared.Kind.TheVariants.{Array as array, Object as object}
use Rattle.json_grammar.specs.Tree.{Tree, null, boolean, num, text, list, pairs, Trees, no_trees, tree_and, Pairs, no_pairs, pair_and, Token, end, key_token, tokens, trees_tokens, pairs_tokens}
use Rattle.json_grammar.specs.Place.{closing, outside}
use Rattle.json_model.specs.Sort.{bytes_less, pair_in}
use Rattle.json_model.specs.Print.{shown, more_trees_shown, pairs_shown, more_pairs_shown, line, quoted, colon_bytes}
use Rattle.json_io.proofs.Known.{known-append, known-nil}
use Rattle.json_print.specs.declared.events.ExpectedEvent.{ExpectedEvent}
use Rattle.json_print.specs.declared.events.ExpectedEvent.TheVariants.{Element as at_element, Key as at_key, Member as at_member}
use Rattle.json_layout.specs.Pieces.{comma, closing_line}
use Rattle.json_print.specs.Calls.{FormatterCall, null_call, boolean_call, number_call, string_call, begin_call, end_call, begin_element, end_element, begin_key, end_key, begin_member, end_member, piece_of, flag_after}
use Rattle.json_print.specs.Taking.{after_all}
use Rattle.json_print.specs.Layouts.{FormatterModel}
use Rattle.json_print.specs.Printer.{SerializerState, Layer, MemberText, with_bytes, gained_put, layers_put, call, follow_on, value_begun, value_ended, turned, filed, took_end, took_key, row_put, rows_put, row_in, rows_sorted}
use Rattle.json_print.proofs.EndlessLevels.{LaidIn, level_in, opened_in, after_in}
use Rattle.json_print.proofs.Asked.{as_asked, trees_as_asked, pairs_as_asked}

-- ---- a formatter's layout

head_same : {A : Type 0} (x y : A) (xs ys : List A) → x ∷ xs ≡ y ∷ ys → x ≡ y
head_same x y xs ys e = cc

tail_same : {A : Type 0} (x y : A) (xs ys : List A) → x ∷ xs ≡ y ∷ ys → xs ≡ ys
tail_same x y xs ys e = cc

pub laid_piece : {F : Type 0} (m : FormatterModel F) (f : F) (i : Option (List ℕ)) (d : ℕ) (b : Bool) (c : FormatterCall) → LaidIn m f i d b → m.piece f c ≡ piece_of i d b c
laid_piece m f i d b c h = head_same _ _ _ _ (h (c ∷ []))

pub laid_next : {F : Type 0} (m : FormatterModel F) (f : F) (i : Option (List ℕ)) (d : ℕ) (b : Bool) (c : FormatterCall) → LaidIn m f i d b → LaidIn m (m.next f c) i (level_in d c) (flag_after b c)
laid_next m f i d b c h = λ cs. tail_same _ _ _ _ (h (c ∷ cs))

-- ---- what is written

abbrev pub wrote : {F : Type 0} → SerializerState F → F → List ℕ → SerializerState F
wrote s f p = record s { formatter = f; gained = gained_put s.layers s.gained p; layers = layers_put s.layers p }

pub twice : {F : Type 0} (s : SerializerState F) (f g : F) (p q : List ℕ) → wrote (wrote s f p) g q ≡ wrote s g (p ++ q)
twice {F = F} s f g p q = go s.layers
  where
    go : (ls : List Layer) → ◌≡◌ {A = SerializerState F} (wrote (wrote (record s { layers = ls }) f p) g q) (wrote (record s { layers = ls }) g (p ++ q))
    go [] = ap (λ x. let r : SerializerState F = record s { formatter = g; gained = x; layers = [] } in r) (known-append s.gained p q)
    go (l ∷ ls) = ap (λ (x : List ℕ). let r : SerializerState F = record s { formatter = g; layers = record l { text = x } ∷ ls } in r) (append_assoc l.text p q)

abbrev pub all : {F : Type 0} → FormatterModel F → SerializerState F → List Token → SerializerState F
all m s ts = after_all (after_in m) s ts

pub all_append : {F : Type 0} (m : FormatterModel F) (s : SerializerState F) (xs ys : List Token) → all m s (xs ++ ys) ≡ all m (all m s xs) ys
all_append m s [] ys = refl
all_append m s (x ∷ xs) ys = all_append m (after_in m s x) xs ys

-- a call at a known level
called : {F : Type 0} (m : FormatterModel F) (s : SerializerState F) (i : Option (List ℕ)) (d : ℕ) (b : Bool) (c : FormatterCall) → LaidIn m s.formatter i d b → call m s c ≡ wrote s (m.next s.formatter c) (piece_of i d b c)
called m s i d b c h = ap (wrote s (m.next s.formatter c)) (laid_piece m s.formatter i d b c h)

-- the state within an array
abbrev in_array : {F : Type 0} → SerializerState F → Bool → List Kind → SerializerState F
in_array s first c = record s { turn = at_element first; opened = array ∷ c }

-- the value's own part, after what precedes it
abbrev pub own : {F : Type 0} → FormatterModel F → SerializerState F → Tree → SerializerState F
own m v null = value_ended m (call m v null_call)
own m v (boolean b) = value_ended m (call m v (boolean_call b))
own m v (num l) = value_ended m (call m v (number_call l))
own m v (text s) = value_ended m (call m v (string_call true s))
own m v (list ts) = all m (opened_in (call m v (begin_call array)) array) (trees_tokens ts ++ end array ∷ [])
own m v (pairs ps) = all m (opened_in (call m v (begin_call object)) object) (pairs_tokens ps ++ end object ∷ [])

pub own_is : {F : Type 0} (m : FormatterModel F) (s : SerializerState F) (t : Tree) → all m s (tokens t) ≡ own m (value_begun m s) t
own_is m s null = refl
own_is m s (boolean b) = refl
own_is m s (num l) = refl
own_is m s (text x) = refl
own_is m s (list ts) = refl
own_is m s (pairs ps) = refl

-- it wrote p and is at the level again
pub record Wrote {F : Type 0} (m : FormatterModel F) (v new : SerializerState F) (i : Option (List ℕ)) (d : ℕ) (p : List ℕ) : Type 0 where
  pub f : F
  pub flag : Bool
  pub laid : LaidIn m f i d flag
  pub same : new ≡ value_ended m (wrote v f p)

scalar_law : {F : Type 0} (m : FormatterModel F) (v : SerializerState F) (i : Option (List ℕ)) (d : ℕ) (b : Bool) (c : FormatterCall) → LaidIn m v.formatter i d b → level_in d c ≡ d → Wrote m v (value_ended m (call m v c)) i d (piece_of i d b c)
scalar_law m v i d b c h e =
    record {
      f = m.next v.formatter c;
      flag = flag_after b c;
      laid = subst (λ n. LaidIn m (m.next v.formatter c) i n (flag_after b c)) e (laid_next m v.formatter i d b c h);
      same = ap (value_ended m) (called m v i d b c h);
    }

-- ---- calls in a row

pub nothing : {F : Type 0} (s : SerializerState F) → wrote s s.formatter [] ≡ s
nothing {F = F} s = go s.layers
  where
    go : (ls : List Layer) → ◌≡◌ {A = SerializerState F} (wrote (record s { layers = ls }) s.formatter []) (record s { layers = ls })
    go [] = ap (λ x. let r : SerializerState F = record s { gained = x; layers = [] } in r) (known-nil s.gained)
    go (l ∷ ls) = ap (λ (x : List ℕ). let r : SerializerState F = record s { layers = record l { text = x } ∷ ls } in r) (append-nil l.text)

abbrev say : {F : Type 0} → FormatterModel F → SerializerState F → List FormatterCall → SerializerState F
say m s [] = s
say m s (c ∷ cs) = say m (call m s c) cs

abbrev level_all : ℕ → List FormatterCall → ℕ
level_all d [] = d
level_all d (c ∷ cs) = level_all (level_in d c) cs

abbrev flag_all : Bool → List FormatterCall → Bool
flag_all b [] = b
flag_all b (c ∷ cs) = flag_all (flag_after b c) cs

abbrev said_text : Option (List ℕ) → ℕ → Bool → List FormatterCall → List ℕ
said_text i d b [] = []
said_text i d b (c ∷ cs) = piece_of i d b c ++ said_text i (level_in d c) (flag_after b c) cs

record Said {F : Type 0} (m : FormatterModel F) (s new : SerializerState F) (i : Option (List ℕ)) (d : ℕ) (b : Bool) (p : List ℕ) : Type 0 where
  pub f : F
  pub laid : LaidIn m f i d b
  pub same : new ≡ wrote s f p

said : {F : Type 0} (m : FormatterModel F) (cs : List FormatterCall) (s : SerializerState F) (i : Option (List ℕ)) (d : ℕ) (b : Bool) → LaidIn m s.formatter i d b → Said m s (say m s cs) i (level_all d cs) (flag_all b cs) (said_text i d b cs)
said m [] s i d b h = record { f = s.formatter; laid = h; same = sym (nothing s) }
said m (c ∷ cs) s i d b h =
    let r = said m cs (call m s c) i (level_in d c) (flag_after b c) (laid_next m s.formatter i d b c h) in
    record {
      f = r.f;
      laid = r.laid;
      same = r.same ∙ ap (λ x. wrote x r.f (said_text i (level_in d c) (flag_after b c) cs)) (called m s i d b c h) ∙ twice s (m.next s.formatter c) r.f (piece_of i d b c) (said_text i (level_in d c) (flag_after b c) cs);
    }

then_said : {F : Type 0} (m : FormatterModel F) (s x new : SerializerState F) (i : Option (List ℕ)) (d : ℕ) (b : Bool) (f : F) (p q : List ℕ) → x ≡ wrote s f p → Said m x new i d b q → Said m s new i d b (p ++ q)
then_said m s x new i d b f p q e r = record { f = r.f; laid = r.laid; same = r.same ∙ ap (λ y. wrote y r.f q) e ∙ twice s f r.f p q }

-- ---- the members of an array

-- the same, and the last member was passed
record Members {F : Type 0} (m : FormatterModel F) (at : SerializerState F → SerializerState F) (new s : SerializerState F) (i : Option (List ℕ)) (d : ℕ) (p : List ℕ) : Type 0 where
  pub f : F
  pub laid : LaidIn m f i d true
  pub same : new ≡ at (wrote s f p)

abbrev Law : {F : Type 0} → FormatterModel F → Option (List ℕ) → ℕ → Bool → Tree → List Kind → Type 0
Law {F = F} m i d sorts t c = (v : SerializerState F) (b : Bool) → LaidIn m v.formatter i d b → v.opened ≡ c → v.sorts ≡ sorts → Wrote m v (own m v t) i d (shown i d (as_asked sorts t))

element_law : {F : Type 0} (m : FormatterModel F) (s : SerializerState F) (c : List Kind) (first : Bool) (i : Option (List ℕ)) (d : ℕ) (b : Bool) (t : Tree) → LaidIn m s.formatter i d b → Law m i d s.sorts t (array ∷ c)
    → Members m (λ x. in_array x false c) (all m (in_array s first c) (tokens t)) s i d ((comma first ++ line i d) ++ shown i d (as_asked s.sorts t))
element_law m s c first i d b t h rec =
    let at = in_array s first c in
    let v = call m at (begin_element first) in
    let p = shown i d (as_asked s.sorts t) in
    let w = rec v b (laid_next m s.formatter i d b (begin_element first) h) refl refl in
    let e1 : all m at (tokens t) ≡ value_ended m (wrote v w.f p) = own_is m at t ∙ w.same in
    let e2 : wrote v w.f p ≡ wrote at w.f ((comma first ++ line i d) ++ p) = ap (λ y. wrote y w.f p) (called m at i d b (begin_element first) h) ∙ twice at (m.next s.formatter (begin_element first)) w.f (comma first ++ line i d) p in
    let q = (comma first ++ line i d) ++ p in
    let y = wrote at w.f q in
    let z = said m (end_element ∷ []) y i d w.flag w.laid in
    let e3 : call m y end_element ≡ wrote at z.f q = z.same ∙ twice at w.f z.f q [] ∙ ap (wrote at z.f) (append-nil q) in
    record { f = z.f; laid = z.laid; same = e1 ∙ ap (value_ended m) e2 ∙ ap (λ x. turned x (at_element false)) e3 }

chain_members : {F : Type 0} (m : FormatterModel F) (at : SerializerState F → SerializerState F) (new s : SerializerState F) (i : Option (List ℕ)) (d : ℕ) (f : F) (p q : List ℕ) → Members m at new (wrote s f p) i d q → Members m at new s i d (p ++ q)
chain_members m at new s i d f p q h = record { f = h.f; laid = h.laid; same = h.same ∙ ap at (twice s f h.f p q) }

remember : {F : Type 0} (m : FormatterModel F) (at : SerializerState F → SerializerState F) (new new' s : SerializerState F) (i : Option (List ℕ)) (d : ℕ) (p p' : List ℕ) → new ≡ new' → p ≡ p' → Members m at new' s i d p → Members m at new s i d p'
remember m at new new' s i d p p' e k h = record { f = h.f; laid = h.laid; same = e ∙ h.same ∙ ap (λ x. at (wrote s h.f x)) k }

turn_lost : {F : Type 0} (m : FormatterModel F) (x : SerializerState F) (t : ExpectedEvent) (c : List Kind) → follow_on m (turned x t) c ≡ follow_on m x c
turn_lost m x t [] = refl
turn_lost m x t (array ∷ c) = refl
turn_lost {F = F} m x t (object ∷ c) = go x.sorts
  where
    go : (b : Bool) → ◌≡◌ {A = SerializerState F} (turned (cond b (record (turned x t) { layers = filed x.layers }) (call m (turned x t) end_member)) (at_key false)) (turned (cond b (record x { layers = filed x.layers }) (call m x end_member)) (at_key false))
    go true = refl
    go false = refl

down_one : (d : ℕ) → suc d - 1 ≡ d
down_one d = omega arith

rewrote : {F : Type 0} (m : FormatterModel F) (v new new' : SerializerState F) (i : Option (List ℕ)) (d : ℕ) (p q : List ℕ) → new ≡ new' → p ≡ q → Wrote m v new' i d p → Wrote m v new i d q
rewrote m v new new' i d p q e k h = record { f = h.f; flag = h.flag; laid = h.laid; same = e ∙ h.same ∙ ap (λ x. value_ended m (wrote v h.f x)) k }

-- the container's end, where its members left the formatter a level deeper
closed : {F : Type 0} (m : FormatterModel F) (v : SerializerState F) (i : Option (List ℕ)) (d : ℕ) (flag : Bool) (f : F) (p : List ℕ) (k : Kind) (t : ExpectedEvent) (x : SerializerState F) → LaidIn m f i (suc d) flag
    → x ≡ wrote v f p → Wrote m v (value_ended m (turned (call m x (end_call k)) t)) i d (p ++ (closing_line flag i d ++ closing k ∷ []))
closed {F = F} m v i d flag f p k t x h e =
    let w = wrote v f p in
    let g = m.next f (end_call k) in
    let q = closing_line flag i d ++ closing k ∷ [] in
    let down : LaidIn m g i d flag = subst (λ n. LaidIn m g i n flag) (down_one d) (laid_next m f i (suc d) flag (end_call k) h) in
    let piece : m.piece f (end_call k) ≡ q = laid_piece m f i (suc d) flag (end_call k) h ∙ ap (λ n. closing_line flag i n ++ closing k ∷ []) (down_one d) in
    let e2 : call m w (end_call k) ≡ wrote v g (p ++ q) = ap (wrote w g) piece ∙ twice v f g p q in
    record {
      f = g;
      flag = flag;
      laid = down;
      same = ap (λ (y : SerializerState F). value_ended m (turned (call m y (end_call k)) t)) e ∙ ap (λ (y : SerializerState F). value_ended m (turned y t)) e2 ∙ turn_lost m (wrote v g (p ++ q)) t v.opened;
    }

array_begun : {F : Type 0} (m : FormatterModel F) (v : SerializerState F) (i : Option (List ℕ)) (d : ℕ) (b : Bool) → LaidIn m v.formatter i d b
    → opened_in (call m v (begin_call array)) array ≡ in_array (wrote v (m.next v.formatter (begin_call array)) (91 ∷ [])) true v.opened
array_begun {F = F} m v i d b h = ap (λ (x : SerializerState F). opened_in x array) (called m v i d b (begin_call array) h)

begun_laid : {F : Type 0} (m : FormatterModel F) (v : SerializerState F) (i : Option (List ℕ)) (d : ℕ) (b : Bool) (k : Kind) → LaidIn m v.formatter i d b → LaidIn m (m.next v.formatter (begin_call k)) i (suc d) false
begun_laid m v i d b k h = laid_next m v.formatter i d b (begin_call k) h

-- ---- the pairs of an object that is not sorted

abbrev in_object : {F : Type 0} → SerializerState F → Bool → List Kind → SerializerState F
in_object s first c = record s { turn = at_key first; opened = object ∷ c; sorts = false }

object_begun : {F : Type 0} (m : FormatterModel F) (u : SerializerState F) (i : Option (List ℕ)) (d : ℕ) (b : Bool) → LaidIn m u.formatter i d b
    → opened_in (call m (record u { sorts = false }) (begin_call object)) object ≡ in_object (wrote (record u { sorts = false }) (m.next u.formatter (begin_call object)) (123 ∷ [])) true u.opened
object_begun {F = F} m u i d b h = ap (λ (x : SerializerState F). opened_in x object) (called m (record u { sorts = false }) i d b (begin_call object) h)

abbrev pair_calls : Bool → List ℕ → List FormatterCall
pair_calls first k = begin_key first ∷ string_call true k ∷ end_key ∷ begin_member ∷ []

pair_law : {F : Type 0} (m : FormatterModel F) (s : SerializerState F) (c : List Kind) (first : Bool) (i : Option (List ℕ)) (d : ℕ) (b : Bool) (k : List ℕ) (t : Tree) → LaidIn m s.formatter i d b → Law m i d false t (object ∷ c)
    → Members m (λ x. in_object x false c) (all m (in_object s first c) (key_token k ∷ tokens t)) s i d (said_text i d b (pair_calls first k) ++ shown i d (as_asked false t))
pair_law {F = F} m s c first i d b k t h rec =
    let at = in_object s first c in
    let p = said_text i d b (pair_calls first k) in
    let q = shown i d (as_asked false t) in
    let a = said m (pair_calls first k) at i d b h in
    let v = turned (wrote at a.f p) at_member in
    let w = rec v b a.laid refl refl in
    let e1 : all m at (key_token k ∷ tokens t) ≡ own m v t = own_is m (took_key m at k) t ∙ ap (λ (x : SerializerState F). own m (turned x at_member) t) a.same in
    let z = said m (end_member ∷ []) (wrote v w.f q) i d w.flag w.laid in
    let e2 : call m (wrote v w.f q) end_member ≡ turned (wrote at z.f (p ++ q)) at_member =
    z.same ∙ twice v w.f z.f q [] ∙ ap (wrote v z.f) (append-nil q) ∙ ap (λ (x : SerializerState F). turned x at_member) (twice at a.f z.f p q) in
    record { f = z.f; laid = z.laid; same = e1 ∙ w.same ∙ ap (λ (x : SerializerState F). turned x (at_key false)) e2 }

-- ---- the pairs of a sorted object

abbrev in_sorted : {F : Type 0} → SerializerState F → Bool → List Kind → List MemberText → SerializerState F
in_sorted s first c rows = record s { turn = at_key first; opened = object ∷ c; sorts = true; layers = record { rows = rows; key = []; text = [] } ∷ s.layers }

sorted_begun : {F : Type 0} (m : FormatterModel F) (u : SerializerState F) (i : Option (List ℕ)) (d : ℕ) (b : Bool) → LaidIn m u.formatter i d b
    → opened_in (call m (record u { sorts = true }) (begin_call object)) object ≡ in_sorted (wrote (record u { sorts = true }) (m.next u.formatter (begin_call object)) (123 ∷ [])) true u.opened []
sorted_begun {F = F} m u i d b h = ap (λ (x : SerializerState F). opened_in x object) (called m (record u { sorts = true }) i d b (begin_call object) h)

-- the rows of pairs whose values are shown
abbrev rows_of : Option (List ℕ) → ℕ → Pairs → List MemberText
rows_of i d no_pairs = []
rows_of i d (pair_and k t ps) = record { key = k; text = shown i d t } ∷ rows_of i d ps

abbrev each_sorted : Pairs → Pairs
each_sorted no_pairs = no_pairs
each_sorted (pair_and k t ps) = pair_and k (as_asked true t) (each_sorted ps)

record Collected {F : Type 0} (m : FormatterModel F) (new s : SerializerState F) (c : List Kind) (i : Option (List ℕ)) (d : ℕ) (rows : List MemberText) : Type 0 where
  pub f : F
  pub flag : Bool
  pub laid : LaidIn m f i d flag
  pub first : Bool
  pub same : new ≡ in_sorted (record s { formatter = f }) first c rows

row_law : {F : Type 0} (m : FormatterModel F) (s : SerializerState F) (c : List Kind) (first : Bool) (rows : List MemberText) (i : Option (List ℕ)) (d : ℕ) (b : Bool) (k : List ℕ) (t : Tree) → LaidIn m s.formatter i d b → Law m i d true t (object ∷ c)
    → Collected m (all m (in_sorted s first c rows) (key_token k ∷ tokens t)) s c i d (rows ++ record { key = k; text = shown i d (as_asked true t) } ∷ [])
row_law {F = F} m s c first rows i d b k t h rec =
    let at = in_sorted s first c rows in
    let v = took_key m at k in
    let w = rec v b h refl refl in
    record { f = w.f; flag = w.flag; laid = w.laid; first = false; same = own_is m v t ∙ w.same }

collect_then : {F : Type 0} (m : FormatterModel F) (s : SerializerState F) (c : List Kind) (first : Bool) (rows rows1 rows2 : List MemberText) (i : Option (List ℕ)) (d : ℕ) (ts us : List Token)
    → (one : Collected m (all m (in_sorted s first c rows) ts) s c i d rows1) → Collected m (all m (in_sorted (record s { formatter = one.f }) one.first c rows1) us) (record s { formatter = one.f }) c i d rows2
    → Collected m (all m (in_sorted s first c rows) (ts ++ us)) s c i d rows2
collect_then {F = F} m s c first rows rows1 rows2 i d ts us one more =
    record {
      f = more.f;
      flag = more.flag;
      laid = more.laid;
      first = more.first;
      same = all_append m (in_sorted s first c rows) ts us ∙ ap (λ (x : SerializerState F). all m x us) one.same ∙ more.same;
    }

-- ---- the rows are put in order

abbrev rows_text : Option (List ℕ) → ℕ → Bool → List MemberText → List ℕ
rows_text i d first [] = []
rows_text i d first (r ∷ rows) = (comma first ++ line i d) ++ (quoted r.key ++ (colon_bytes i ++ (r.text ++ rows_text i d false rows)))

abbrev flag_rows : Bool → List MemberText → Bool
flag_rows b [] = b
flag_rows b (r ∷ rows) = true

flag_stays : (rows : List MemberText) → flag_rows true rows ≡ true
flag_stays [] = refl
flag_stays (r ∷ rows) = refl

one_row : {F : Type 0} (m : FormatterModel F) (s : SerializerState F) (first : Bool) (r : MemberText) (i : Option (List ℕ)) (d : ℕ) (b : Bool) → LaidIn m s.formatter i d b → Said m s (row_put m s first r) i d true ((said_text i d b (pair_calls first r.key) ++ r.text) ++ [])
one_row {F = F} m s first r i d b h =
    let p = said_text i d b (pair_calls first r.key) in
    let a = said m (pair_calls first r.key) s i d b h in
    let e : with_bytes (say m s (pair_calls first r.key)) r.text ≡ wrote s a.f (p ++ r.text) = ap (λ (x : SerializerState F). with_bytes x r.text) a.same ∙ twice s a.f a.f p r.text in
    let z = said m (end_member ∷ []) (wrote s a.f (p ++ r.text)) i d b a.laid in
    then_said m s (wrote s a.f (p ++ r.text)) _ i d true a.f (p ++ r.text) [] refl (record { f = z.f; laid = z.laid; same = ap (λ (x : SerializerState F). call m x end_member) e ∙ z.same })

rows_law : {F : Type 0} (m : FormatterModel F) (rows : List MemberText) (s : SerializerState F) (first : Bool) (i : Option (List ℕ)) (d : ℕ) (b : Bool) → LaidIn m s.formatter i d b → Said m s (rows_put m s first rows) i d (flag_rows b rows) (rows_text i d first rows)
rows_law m [] s first i d b h = record { f = s.formatter; laid = h; same = sym (nothing s) }
rows_law {F = F} m (r ∷ rows) s first i d b h =
    let one = one_row m s first r i d b h in
    let p = (said_text i d b (pair_calls first r.key) ++ r.text) ++ [] in
    let rest = rows_law m rows (wrote s one.f p) false i d true one.laid in
    let e : rows_put m s first (r ∷ rows) ≡ rows_put m (wrote s one.f p) false rows = ap (λ (x : SerializerState F). rows_put m x false rows) one.same in
    let laid : LaidIn m rest.f i d true = subst (LaidIn m rest.f i d) (flag_stays rows) rest.laid in
    let text : p ++ rows_text i d false rows ≡ rows_text i d first (r ∷ rows) = regrouped (comma first ++ line i d) (quoted r.key) (colon_bytes i) r.text (rows_text i d false rows) in
    record { f = rest.f; laid = laid; same = e ∙ rest.same ∙ twice s one.f rest.f p (rows_text i d false rows) ∙ ap (wrote s rest.f) text }
  where
    regrouped : (x y z w u : List ℕ) → ((x ++ (y ++ (z ++ []))) ++ w) ++ [] ++ u ≡ x ++ (y ++ (z ++ (w ++ u)))
    regrouped x y z w u = simp (append_assoc, append-nil)

row_in_shown : (i : Option (List ℕ)) (d : ℕ) (k : List ℕ) (t : Tree) (ps : Pairs) → row_in (record { key = k; text = shown i d t }) (rows_of i d ps) ≡ rows_of i d (pair_in k t ps)
row_in_shown i d k t no_pairs = refl
row_in_shown i d k t (pair_and n u ps) = go (bytes_less n k) (row_in_shown i d k t ps)
  where
    go : (b : Bool) → row_in (record { key = k; text = shown i d t }) (rows_of i d ps) ≡ rows_of i d (pair_in k t ps) → cond b (record { key = n; text = shown i d u } ∷ row_in (record { key = k; text = shown i d t }) (rows_of i d ps)) (record { key = k; text = shown i d t } ∷ record { key = n; text = shown i d u } ∷ rows_of i d ps) ≡ rows_of i d (cond b (pair_and n u (pair_in k t ps)) (pair_and k t (pair_and n u ps)))
    go true ih = ap (λ (x : List MemberText). let r : MemberText = record { key = n; text = shown i d u } in r ∷ x) ih
    go false ih = refl

-- rows in order are the pairs in order
rows_match : (i : Option (List ℕ)) (d : ℕ) (ps : Pairs) → rows_sorted (rows_of i d (each_sorted ps)) ≡ rows_of i d (pairs_as_asked true ps)
rows_match i d no_pairs = refl
rows_match i d (pair_and k t ps) = ap (row_in (record { key = k; text = shown i d (as_asked true t) })) (rows_match i d ps) ∙ row_in_shown i d k (as_asked true t) (pairs_as_asked true ps)

array_closed : {F : Type 0} (m : FormatterModel F) (v x : SerializerState F) (i : Option (List ℕ)) (d : ℕ) (flag first : Bool) (f : F) (p : List ℕ) → LaidIn m f i (suc d) flag → x ≡ in_array (wrote v f p) first v.opened
    → Wrote m v (took_end m x array) i d (p ++ (closing_line flag i d ++ 93 ∷ []))
array_closed {F = F} m v x i d flag first f p h e =
    rewrote m v _ _ i d _ _ (ap (λ (y : SerializerState F). took_end m y array) e) refl (closed m v i d flag f p array (at_element first) (wrote v f p) h refl)

object_closed : {F : Type 0} (m : FormatterModel F) (u x : SerializerState F) (i : Option (List ℕ)) (d : ℕ) (flag first : Bool) (f : F) (p : List ℕ) → LaidIn m f i (suc d) flag → x ≡ in_object (wrote (record u { sorts = false }) f p) first u.opened
    → Wrote m (record u { sorts = false }) (took_end m x object) i d (p ++ (closing_line flag i d ++ 125 ∷ []))
object_closed {F = F} m u x i d flag first f p h e =
    rewrote m (record u { sorts = false }) _ _ i d _ _ (ap (λ (y : SerializerState F). took_end m y object) e) refl (closed m (record u { sorts = false }) i d flag f p object (at_key first) (wrote (record u { sorts = false }) f p) h refl)

sorted_closed : {F : Type 0} (m : FormatterModel F) (u x : SerializerState F) (i : Option (List ℕ)) (d : ℕ) (b first : Bool) (f g : F) (p : List ℕ) (rows : List MemberText) → LaidIn m f i (suc d) b
    → x ≡ in_sorted (record (wrote (record u { sorts = true }) g p) { formatter = f }) first u.opened rows
    → Wrote m (record u { sorts = true }) (took_end m x object) i d ((p ++ rows_text i (suc d) true (rows_sorted rows)) ++ (closing_line (flag_rows b (rows_sorted rows)) i d ++ 125 ∷ []))
sorted_closed {F = F} m u x i d b first f g p rows h e =
    let v : SerializerState F = record u { sorts = true } in
    let w : SerializerState F = wrote v f p in
    let y : SerializerState F = record w { turn = at_key first; opened = object ∷ u.opened } in
    let r = rows_law m (rows_sorted rows) y true i (suc d) b h in
    let q = rows_text i (suc d) true (rows_sorted rows) in
    rewrote m v _ _ i d _ _ (ap (λ (z : SerializerState F). took_end m z object) e ∙ ap (λ (z : SerializerState F). let a = call m z (end_call object) in value_ended m (record a { opened = outside a.opened })) r.same) refl
    (closed m v i d (flag_rows b (rows_sorted rows)) r.f (p ++ q) object (at_key first) (wrote w r.f q) r.laid (twice v f r.f p q))

record SomePair (qs : Pairs) : Type 0 where
  pub k : List ℕ
  pub t : Tree
  pub ps : Pairs
  pub same : qs ≡ pair_and k t ps

pair_in_some : (k : List ℕ) (t : Tree) (ps : Pairs) → SomePair (pair_in k t ps)
pair_in_some k t no_pairs = record { k = k; t = t; ps = no_pairs; same = refl }
pair_in_some k t (pair_and n u ps) = go (bytes_less n k)
  where
    go : (b : Bool) → SomePair (cond b (pair_and n u (pair_in k t ps)) (pair_and k t (pair_and n u ps)))
    go true = record { k = n; t = u; ps = pair_in k t ps; same = refl }
    go false = record { k = k; t = t; ps = pair_and n u ps; same = refl }

rest_text : (i : Option (List ℕ)) (d : ℕ) (ps : Pairs) → rows_text i d false (rows_of i d ps) ≡ more_pairs_shown i d ps
rest_text i d no_pairs = refl
rest_text i d (pair_and k t ps) = ap (λ x. (44 ∷ line i d) ++ (quoted k ++ (colon_bytes i ++ (shown i d t ++ x)))) (rest_text i d ps)

rows_pairs_text : (i : Option (List ℕ)) (d : ℕ) (b : Bool) (qs : Pairs) → SomePair qs
    → ((123 ∷ []) ++ rows_text i (suc d) true (rows_of i (suc d) qs)) ++ (closing_line (flag_rows b (rows_of i (suc d) qs)) i d ++ 125 ∷ []) ≡ 123 ∷ (pairs_shown i d qs ++ 125 ∷ [])
rows_pairs_text i d b qs h =
    subst (λ x. ((123 ∷ []) ++ rows_text i (suc d) true (rows_of i (suc d) x)) ++ (closing_line (flag_rows b (rows_of i (suc d) x)) i d ++ 125 ∷ []) ≡ 123 ∷ (pairs_shown i d x ++ 125 ∷ [])) (sym h.same)
    (ap (λ x. ((123 ∷ []) ++ (line i (suc d) ++ (quoted h.k ++ (colon_bytes i ++ (shown i (suc d) h.t ++ x))))) ++ (line i d ++ 125 ∷ [])) (rest_text i (suc d) h.ps)
    ∙ ap (λ x. 123 ∷ x) (six (line i (suc d)) (quoted h.k) (colon_bytes i) (shown i (suc d) h.t) (more_pairs_shown i (suc d) h.ps) (line i d) (125 ∷ [])))
  where
    six : (a b c e f g z : List ℕ) → (a ++ (b ++ (c ++ (e ++ f)))) ++ (g ++ z) ≡ (a ++ (b ++ (c ++ (e ++ (f ++ g))))) ++ z
    six a b c e f g z = simp append_assoc

list_text : (a b c e z : List ℕ) → (a ++ b ++ c) ++ (e ++ z) ≡ (a ++ (b ++ (c ++ e))) ++ z
list_text a b c e z = simp append_assoc

flat_text : (a b c e f g z : List ℕ) → (((a ++ (b ++ (c ++ []))) ++ e) ++ f) ++ (g ++ z) ≡ (a ++ (b ++ (c ++ (e ++ (f ++ g))))) ++ z
flat_text a b c e f g z = simp (append_assoc, append-nil)

more_text : (a b c e f : List ℕ) → ((a ++ (b ++ (c ++ []))) ++ e) ++ f ≡ a ++ (b ++ (c ++ (e ++ f)))
more_text a b c e f = simp (append_assoc, append-nil)

mutual
  pub value_law : {F : Type 0} (m : FormatterModel F) (i : Option (List ℕ)) (t : Tree) (v : SerializerState F) (d : ℕ) (b : Bool) → LaidIn m v.formatter i d b → Wrote m v (own m v t) i d (shown i d (as_asked v.sorts t))
  value_law m i null v d b h = scalar_law m v i d b null_call h refl
  value_law m i (boolean x) v d b h = scalar_law m v i d b (boolean_call x) h refl
  value_law m i (num x) v d b h = scalar_law m v i d b (number_call x) h refl
  value_law m i (text x) v d b h = scalar_law m v i d b (string_call true x) h refl
  value_law m i (list no_trees) v d b h =
      array_closed m v _ i d false true (m.next v.formatter (begin_call array)) (91 ∷ []) (begun_laid m v i d b array h) (array_begun m v i d b h)
  value_law {F = F} m i (list (tree_and t ts)) v d b h =
      let f = m.next v.formatter (begin_call array) in
      let w = wrote v f (91 ∷ []) in
      let q1 = (comma true ++ line i (suc d)) ++ shown i (suc d) (as_asked v.sorts t) in
      let q2 = more_trees_shown i (suc d) (trees_as_asked v.sorts ts) in
      let one = element_law m w v.opened true i (suc d) false t (begun_laid m v i d b array h) (λ u x k o q. subst (λ y. Wrote m u (own m u t) i (suc d) (shown i (suc d) (as_asked y t))) q (value_law m i t u (suc d) x k)) in
      let more = more_law m i ts (wrote w one.f q1) v.opened (suc d) one.laid in
      let begun = opened_in (call m v (begin_call array)) array in
      let e1 : all m begun (tokens t ++ trees_tokens ts) ≡ all m (all m (in_array w true v.opened) (tokens t)) (trees_tokens ts) = all_append m begun (tokens t) (trees_tokens ts) ∙ ap (λ (x : SerializerState F). all m (all m x (tokens t)) (trees_tokens ts)) (array_begun m v i d b h) in
      let e2 : all m begun (tokens t ++ trees_tokens ts) ≡ in_array (wrote v more.f ((91 ∷ []) ++ (q1 ++ q2))) false v.opened =
      e1 ∙ ap (λ (x : SerializerState F). all m x (trees_tokens ts)) one.same ∙ more.same ∙ ap (λ (x : SerializerState F). in_array x false v.opened) (twice w one.f more.f q1 q2 ∙ twice v f more.f (91 ∷ []) (q1 ++ q2)) in
      rewrote m v _ _ i d _ _ (all_append m begun (tokens t ++ trees_tokens ts) (end array ∷ []))
      (ap (λ x. 91 ∷ x) (list_text (line i (suc d)) (shown i (suc d) (as_asked v.sorts t)) q2 (line i d) (93 ∷ [])))
      (array_closed m v _ i d true false more.f ((91 ∷ []) ++ (q1 ++ q2)) more.laid e2)
  value_law m i (pairs ps) v d b h = pairs_law m i v.sorts ps v d b h

  pairs_law : {F : Type 0} (m : FormatterModel F) (i : Option (List ℕ)) (x : Bool) (ps : Pairs) (v : SerializerState F) (d : ℕ) (b : Bool) → LaidIn m v.formatter i d b
      → Wrote m (record v { sorts = x }) (own m (record v { sorts = x }) (pairs ps)) i d (shown i d (pairs (pairs_as_asked x ps)))
  pairs_law m i false no_pairs v d b h =
      object_closed m v _ i d false true (m.next v.formatter (begin_call object)) (123 ∷ []) (begun_laid m v i d b object h) (object_begun m v i d b h)
  pairs_law {F = F} m i false (pair_and k t ps) v d b h =
      let u : SerializerState F = record v { sorts = false } in
      let f = m.next v.formatter (begin_call object) in
      let w = wrote u f (123 ∷ []) in
      let q1 = said_text i (suc d) false (pair_calls true k) ++ shown i (suc d) (as_asked false t) in
      let q2 = more_pairs_shown i (suc d) (pairs_as_asked false ps) in
      let one = pair_law m w v.opened true i (suc d) false k t (begun_laid m v i d b object h) (λ y x n o q. subst (λ z. Wrote m y (own m y t) i (suc d) (shown i (suc d) (as_asked z t))) q (value_law m i t y (suc d) x n)) in
      let more = more_pairs_law m i ps (wrote w one.f q1) v.opened (suc d) one.laid in
      let begun = opened_in (call m u (begin_call object)) object in
      let ts = key_token k ∷ tokens t in
      let e1 : all m begun (ts ++ pairs_tokens ps) ≡ all m (all m (in_object w true v.opened) ts) (pairs_tokens ps) = all_append m begun ts (pairs_tokens ps) ∙ ap (λ (x : SerializerState F). all m (all m x ts) (pairs_tokens ps)) (object_begun m v i d b h) in
      let e2 : all m begun (ts ++ pairs_tokens ps) ≡ in_object (wrote u more.f ((123 ∷ []) ++ (q1 ++ q2))) false v.opened =
      e1 ∙ ap (λ (x : SerializerState F). all m x (pairs_tokens ps)) one.same ∙ more.same ∙ ap (λ (x : SerializerState F). in_object x false v.opened) (twice w one.f more.f q1 q2 ∙ twice u f more.f (123 ∷ []) (q1 ++ q2)) in
      rewrote m u _ _ i d _ _ (all_append m begun (ts ++ pairs_tokens ps) (end object ∷ []))
      (ap (λ x. 123 ∷ x) (flat_text (line i (suc d)) (quoted k) (colon_bytes i) (shown i (suc d) (as_asked false t)) q2 (line i d) (125 ∷ [])))
      (object_closed m v _ i d true false more.f ((123 ∷ []) ++ (q1 ++ q2)) more.laid e2)
  pairs_law m i true no_pairs v d b h =
      sorted_closed m v _ i d false true (m.next v.formatter (begin_call object)) (m.next v.formatter (begin_call object)) (123 ∷ []) [] (begun_laid m v i d b object h) (sorted_begun m v i d b h)
  pairs_law {F = F} m i true (pair_and k t ps) v d b h =
      let u : SerializerState F = record v { sorts = true } in
      let f = m.next v.formatter (begin_call object) in
      let w = wrote u f (123 ∷ []) in
      let qs = pair_and k t ps in
      let begun = opened_in (call m u (begin_call object)) object in
      let row : MemberText = record { key = k; text = shown i (suc d) (as_asked true t) } in
      let one = row_law m w v.opened true [] i (suc d) false k t (begun_laid m v i d b object h) (λ y x n o q. subst (λ z. Wrote m y (own m y t) i (suc d) (shown i (suc d) (as_asked z t))) q (value_law m i t y (suc d) x n)) in
      let more = collect_law m i ps (record w { formatter = one.f }) v.opened one.first (row ∷ []) (suc d) one.flag one.laid in
      let r = collect_then m w v.opened true [] (row ∷ []) (row ∷ rows_of i (suc d) (each_sorted ps)) i (suc d) (key_token k ∷ tokens t) (pairs_tokens ps) one more in
      let e1 : all m begun (pairs_tokens qs) ≡ in_sorted (record w { formatter = r.f }) r.first v.opened (rows_of i (suc d) (each_sorted qs)) = ap (λ (x : SerializerState F). all m x (pairs_tokens qs)) (sorted_begun m v i d b h) ∙ r.same in
      let text = ap (λ rows. ((123 ∷ []) ++ rows_text i (suc d) true rows) ++ (closing_line (flag_rows r.flag rows) i d ++ 125 ∷ [])) (rows_match i (suc d) qs) ∙ rows_pairs_text i d r.flag (pairs_as_asked true qs) (pair_in_some k (as_asked true t) (pairs_as_asked true ps)) in
      rewrote m u _ _ i d _ _ (all_append m begun (pairs_tokens qs) (end object ∷ [])) text
      (sorted_closed m v _ i d r.flag r.first r.f f (123 ∷ []) (rows_of i (suc d) (each_sorted qs)) r.laid e1)

  more_pairs_law : {F : Type 0} (m : FormatterModel F) (i : Option (List ℕ)) (ps : Pairs) (s : SerializerState F) (c : List Kind) (d : ℕ) → LaidIn m s.formatter i d true
      → Members m (λ x. in_object x false c) (all m (in_object s false c) (pairs_tokens ps)) s i d (more_pairs_shown i d (pairs_as_asked false ps))
  more_pairs_law m i no_pairs s c d h = record { f = s.formatter; laid = h; same = ap (λ x. in_object x false c) (sym (nothing s)) }
  more_pairs_law {F = F} m i (pair_and k t ps) s c d h =
      let ts = key_token k ∷ tokens t in
      let p = said_text i d true (pair_calls false k) ++ shown i d (as_asked false t) in
      let one = pair_law m s c false i d true k t h (λ y x n o q. subst (λ z. Wrote m y (own m y t) i d (shown i d (as_asked z t))) q (value_law m i t y d x n)) in
      let more = more_pairs_law m i ps (wrote s one.f p) c d one.laid in
      remember m (λ x. in_object x false c) _ _ s i d _ _ (all_append m (in_object s false c) ts (pairs_tokens ps) ∙ ap (λ (x : SerializerState F). all m x (pairs_tokens ps)) one.same)
      (ap (λ x. 44 ∷ x) (more_text (line i d) (quoted k) (colon_bytes i) (shown i d (as_asked false t)) (more_pairs_shown i d (pairs_as_asked false ps))))
      (chain_members m (λ x. in_object x false c) _ s i d one.f p _ more)

  collect_law : {F : Type 0} (m : FormatterModel F) (i : Option (List ℕ)) (ps : Pairs) (s : SerializerState F) (c : List Kind) (first : Bool) (rows : List MemberText) (d : ℕ) (b : Bool) → LaidIn m s.formatter i d b
      → Collected m (all m (in_sorted s first c rows) (pairs_tokens ps)) s c i d (rows ++ rows_of i d (each_sorted ps))
  collect_law m i no_pairs s c first rows d b h =
      record { f = s.formatter; flag = b; laid = h; first = first; same = ap (λ x. in_sorted s first c x) (sym (append-nil rows)) }
  collect_law {F = F} m i (pair_and k t ps) s c first rows d b h =
      let ts = key_token k ∷ tokens t in
      let row : MemberText = record { key = k; text = shown i d (as_asked true t) } in
      let one = row_law m s c first rows i d b k t h (λ y x n o q. subst (λ z. Wrote m y (own m y t) i d (shown i d (as_asked z t))) q (value_law m i t y d x n)) in
      let more = collect_law m i ps (record s { formatter = one.f }) c one.first (rows ++ row ∷ []) d one.flag one.laid in
      record {
        f = more.f;
        flag = more.flag;
        laid = more.laid;
        first = more.first;
        same = all_append m (in_sorted s first c rows) ts (pairs_tokens ps) ∙ ap (λ (x : SerializerState F). all m x (pairs_tokens ps)) one.same ∙ more.same
            ∙ ap (λ x. in_sorted (record s { formatter = more.f }) more.first c x) (append_assoc rows (row ∷ []) (rows_of i d (each_sorted ps)));
      }

  more_law : {F : Type 0} (m : FormatterModel F) (i : Option (List ℕ)) (ts : Trees) (s : SerializerState F) (c : List Kind) (d : ℕ) → LaidIn m s.formatter i d true
      → Members m (λ x. in_array x false c) (all m (in_array s false c) (trees_tokens ts)) s i d (more_trees_shown i d (trees_as_asked s.sorts ts))
  more_law m i no_trees s c d h = record { f = s.formatter; laid = h; same = ap (λ x. in_array x false c) (sym (nothing s)) }
  more_law m i (tree_and t ts) s c d h =
      let p = (44 ∷ line i d) ++ shown i d (as_asked s.sorts t) in
      let one = element_law m s c false i d true t h (λ v b k o q. subst (λ x. Wrote m v (own m v t) i d (shown i d (as_asked x t))) q (value_law m i t v d b k)) in
      let more = more_law m i ts (wrote s one.f p) c d one.laid in
      remember m (λ x. in_array x false c) _ _ s i d _ _ (all_append m (in_array s false c) (tokens t) (trees_tokens ts) ∙ ap (λ x. all m x (trees_tokens ts)) one.same) (simp append_assoc)
      (chain_members m (λ x. in_array x false c) _ s i d one.f p _ more)
