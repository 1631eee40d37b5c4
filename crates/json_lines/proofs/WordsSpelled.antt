-- What words spell.
use Rattle.std.proofs.Common.{◌≡◌, ◌≢◌, ◌⊎◌, inl, inr, ◌∙◌, ℕ, ◌≤◌, Bool, true, false, List, [], ◌∷◌, ◌++◌, length, take, drop, cond, Option, Some, None, MatchOption, option_to_list, slice_get, bytes_eq, refl, sym, ap, subst, arith}
use Rattle.std.proofs.Math.Seq.{take-append_seam}
use Rattle.std.proofs.lemmas.List.{take-append-drop}
use Rattle.std.proofs.lemmas.Slice.Eq.{bytes_eq-Decides}
use Rattle.std.specs.Borrow.{Bor}
use Rattle.std.specs.Prelude.{option_map}
use Rattle.std.specs.Str.Pattern.{LacksTextAt, FindsTextPrefix, StripsPrefix}
use Rattle.json_grammar.specs.Tree.{Tree, null, boolean, num, text, list, pairs, trees_list}
use Rattle.json_grammar.proofs.Values.{one_tree}
use Rattle.json_io.specs.Errors.{no_memory, bad_words}
use Rattle.json_text.specs.Ruled.{usual_rules}
use Rattle.json_io.specs.declared.error.Error.{Error}
use Rattle.json_io.specs.declared.error.ErrorCode.{ErrorCode}
use Rattle.json_io.specs.declared.error.ErrorCode.TheVariants.{NoMemory, TypeUnmatched, NumberOutOfRange, ExpectedNumericKey}
use Rattle.json_io.specs.declared.error.Place.{Place}
use Rattle.json_io.specs.declared.error.Place.TheVariants.{None as nowhere}
use Rattle.json_model.specs.Edit.{Step, push_at}
use Rattle.json_model.specs.Print.{shown}
use Rattle.json_value.specs.EditTrees.{both, path_in, each_in}
use Rattle.json_value.specs.Seen.{list_of}
use Rattle.json_data.specs.Reading.{gives, refuses}
use Rattle.json_data.specs.ReadingValues.{path_datum, spelled, read_path}
use Rattle.json_data.specs.Spelled.{Unspelled}
use Rattle.json_data.specs.ValueCalls.{TreeReadingFails}
use Rattle.json_data.proofs.ValueData.{same_edit}
use Rattle.json_command.specs.Input.{IsInput, IsValid}
use Rattle.json_lines.specs.Cells.{Column, ColumnKind, RowFormat, LinesCommand}
use Rattle.json_lines.specs.Words.{kind_in, column_of_pair, column_in, columns_in, WordSpells, WordSpellsNothing, NoColumns, HoldsWords, format_by, SpellsCommand, SpellsHas, AsksForColumns}

-- ---- paths

same_path : (p q : List Step) → path_datum p ≡ path_datum q → p ≡ q
same_path p q e = pushed (same_edit (push_at p null) (push_at q null) (cc))
  where
    pushed : push_at p null ≡ push_at q null → p ≡ q
    pushed e = cc

pub path_known : (t : Tree) (p : List Step) → read_path t ≡ gives (path_datum p) → path_in t ≡ Some p
path_known t p e = by (path_in t) e
  where
    by : (o : Option (List Step)) → spelled path_datum o ≡ gives (path_datum p) → o ≡ Some p
    by None e = absurd (cc)
    by (Some q) e = ap Some (same_path q p (cc))

path_refused : (t : Tree) (c : ErrorCode) → read_path t ≡ refuses c → (c ≡ TypeUnmatched) × (path_in t ≡ None)
path_refused t c e = by (path_in t) e
  where
    by : (o : Option (List Step)) → spelled path_datum o ≡ refuses c → (c ≡ TypeUnmatched) × (o ≡ None)
    by None e = (cc, refl)
    by (Some q) e = absurd (cc)

unspelled_by : (t : Tree) (code : ErrorCode) (place : Place) → TreeReadingFails read_path t code place → Unspelled (path_in t) (record { code = code; place = place })
unspelled_by t NoMemory nowhere h = inl refl
unspelled_by t TypeUnmatched nowhere h = inr (refl, (path_refused t TypeUnmatched h).1)
unspelled_by t NumberOutOfRange nowhere h = let e : NumberOutOfRange ≡ TypeUnmatched = (path_refused t NumberOutOfRange h).0 in absurd (cc)
unspelled_by t ExpectedNumericKey nowhere h = let e : ExpectedNumericKey ≡ TypeUnmatched = (path_refused t ExpectedNumericKey h).0 in absurd (cc)
unspelled_by t code place h = absurd h

pub path_unspelled : (t : Tree) (e : Error) → TreeReadingFails read_path t e.code e.place → Unspelled (path_in t) e
path_unspelled t e h = unspelled_by t e.code e.place h

-- ---- arrays

none_some : {A : Type 0} {x : A} → None ≡ Some x → ⊥
none_some e = cc

pub columns_of_array : (t : Tree) (xs : List Tree) → Some xs ≡ list_of t → columns_in t ≡ each_in column_in xs
columns_of_array (list ts) xs e = let i : xs ≡ trees_list ts = cc in ap (each_in column_in) (sym i)
columns_of_array null xs e = absurd (none_some (sym e))
columns_of_array (boolean b) xs e = absurd (none_some (sym e))
columns_of_array (num l) xs e = absurd (none_some (sym e))
columns_of_array (text s) xs e = absurd (none_some (sym e))
columns_of_array (pairs ps) xs e = absurd (none_some (sym e))

pub pair_of : (xs : List Tree) (a b : Tree) → length xs ≡ 2 → Some a ≡ slice_get xs 0 → Some b ≡ slice_get xs 1 → xs ≡ a ∷ b ∷ []
pair_of [] a b n e f = absurd (omega arith)
pair_of (x ∷ []) a b n e f = absurd (omega arith)
pair_of (x ∷ y ∷ []) a b n e f = cc
pair_of (x ∷ y ∷ z ∷ xs) a b n e f = absurd (omega arith)

-- ---- one meaning

pub one_spelled : {A : Type 0} (reads : Tree → Option A) (word : List ℕ) (x y : A) → WordSpells reads word x → WordSpells reads word y → x ≡ y
one_spelled reads word x y h k = some_is (sym h.so ∙ ap reads (one_tree false h.tree k.tree word h.input.text k.input.text) ∙ k.so)
  where
    some_is : {A : Type 0} {x y : A} → Some x ≡ Some y → x ≡ y
    some_is e = cc

-- ---- a word

-- the tree that was read spells it
pub spells : {A : Type 0} (reads : Tree → Option A) (word : List ℕ) (t : Tree) (x : A) → IsInput usual_rules word t → reads t ≡ Some x → WordSpells reads word x
spells reads word t x i h = record { tree = t; input = i; so = h }

-- the tree that was read spells nothing
none_spelled : {A : Type 0} (reads : Tree → Option A) (word : List ℕ) (t : Tree) → IsInput usual_rules word t → reads t ≡ None → WordSpellsNothing reads word
none_spelled reads word t i n x s = none_some (sym n ∙ ap reads (one_tree false t s.tree word i.text s.input.text) ∙ s.so)

pub unread_word : {A : Type 0} (reads : Tree → Option A) (word : List ℕ) (t : Tree) (e r : Error) → IsInput usual_rules word t → Unspelled (reads t) e → (r ≡ no_memory) ⊎ ((r ≡ bad_words) × (e.code ≢ NoMemory))
    → (r ≡ no_memory) ⊎ ((r ≡ bad_words) × WordSpellsNothing reads word)
unread_word reads word t e r i u (inl m) = inl m
unread_word reads word t e r i (inl m) (inr (b, n)) = absurd (n (ap (λ (x : Error). x.code) m))
unread_word reads word t e r i (inr (f, n)) (inr (b, k)) = inr (b, none_spelled reads word t i n)

-- the word is no JSON text
pub unread_argument : {A : Type 0} (reads : Tree → Option A) (word : List ℕ) (e : Error) → (e ≡ no_memory) ⊎ ((e ≡ bad_words) × ¬ (IsValid usual_rules word)) → (e ≡ no_memory) ⊎ ((e ≡ bad_words) × WordSpellsNothing reads word)
unread_argument reads word e (inl m) = inl m
unread_argument reads word e (inr (b, n)) = inr (b, λ x s. n (record { tree = s.tree; input = s.input }))

pub none_few : (word : List ℕ) (e : Error) → (e ≡ no_memory) ⊎ ((e ≡ bad_words) × WordSpellsNothing columns_in word) → (e ≡ no_memory) ⊎ ((e ≡ bad_words) × NoColumns word)
none_few word e (inl m) = inl m
none_few word e (inr (b, n)) = inr (b, λ columns s p q. n columns s)

-- there are too few columns, or too many
pub not_few : (word : List ℕ) (cs : List Column) (n : ℕ) → WordSpells columns_in word cs → n ≡ length cs → (1 ≤ n → n ≤ 64 → ⊥) → NoColumns word
not_few word cs n s is none columns k p q =
    let same : cs ≡ columns = one_spelled columns_in word cs columns s k in
    none (omega (arith, is, ap length same, p)) (omega (arith, is, ap length same, q))

-- ---- a column and its name

abbrev named : List ℕ → List Step → ColumnKind → Column
named n p k = record { path = p; kind = k; name = n }

pub column_of_parts : (path kind : Tree) (p : List Step) (k : ColumnKind) (n : List ℕ) → path_in path ≡ Some p → kind_in kind ≡ Some k → n ≡ shown None 0 path → column_of_pair (path ∷ kind ∷ []) ≡ Some (named n p k)
column_of_parts path kind p k n e f g =
    ap (λ o. both (named (shown None 0 path)) o (kind_in kind)) e ∙ ap (λ o. both (named (shown None 0 path)) (Some p) o) f ∙ ap (λ m. Some (named m p k)) (sym g)

pub column_of_no_path : (path kind : Tree) → path_in path ≡ None → column_of_pair (path ∷ kind ∷ []) ≡ None
column_of_no_path path kind e = ap (λ o. both (named (shown None 0 path)) o (kind_in kind)) e

-- ---- the command

-- what follows an option, where a word begins with it
pub option_text : (word option : List ℕ) (found : Option (Bor (List ℕ))) → MatchOption found (LacksTextAt option word 0) (λ x. StripsPrefix (FindsTextPrefix option) word x.now)
    → option_map (λ x. x.now) found ≡ cond (bytes_eq (take (length option) word) option) (Some (drop (length option) word)) None
option_text word option None lacks = by (bytes_eq (take (length option) word) option) refl
  where
    by : (b : Bool) → bytes_eq (take (length option) word) option ≡ b → None ≡ cond b (Some (drop (length option) word)) None
    by true e = absurd (lacks (drop (length option) word) (sym (take-append-drop (length option) word) ∙ ap (λ front. front ++ drop (length option) word) ((bytes_eq-Decides (take (length option) word) option).0 e)))
    by false e = refl
option_text word option (Some x) (k, (is, split, at), rest, len) =
    let front : take (length option) word ≡ option = ap (take (length option)) split ∙ take-append_seam option (drop k word) in
    ap (λ b. cond b (Some x.now) None) (sym ((bytes_eq-Decides (take (length option) word) option).1 front)) ∙ ap (λ t. cond (bytes_eq (take (length option) word) option) (Some t) None) (rest ∙ ap (λ n. drop n word) is)

-- ---- one command

-- words hold one list of parts
same_word : (o p : Option (List ℕ)) → option_to_list o ≡ option_to_list p → o ≡ p
same_word None None e = refl
same_word None (Some y) e = absurd cc
same_word (Some x) None e = absurd cc
same_word (Some x) (Some y) e = cc

some_word : (x y : List ℕ) → Some x ≡ Some y → x ≡ y
some_word x y e = cc

same_flag : (s t : Bool) → ◌≡◌ {A = ℕ} (cond s 1 0) (cond t 1 0) → s ≡ t
same_flag true true e = refl
same_flag false false e = refl
same_flag true false e = absurd (omega (arith, e))
same_flag false true e = absurd (omega (arith, e))

pub same_parts : (words : List (List ℕ)) (w w' h h' : Option (List ℕ)) (s s' v v' : Bool) → HoldsWords words w h s v → HoldsWords words w' h' s' v' → (w ≡ w') × (h ≡ h') × (s ≡ s') × (v ≡ v')
same_parts words w w' h h' s s' v v' j k =
    (same_word w w' (sym j.columns_is ∙ k.columns_is), same_word h h' (sym j.has_is ∙ k.has_is), same_flag s s' (sym j.strict_is ∙ k.strict_is), same_flag v v' (sym j.csv_is ∙ k.csv_is))

one_has : (has : Option (List ℕ)) (p q : List Step) → SpellsHas has p → SpellsHas has q → p ≡ q
one_has None p q h k = h ∙ sym k
one_has (Some word) p q h k = one_spelled path_in word p q h k

same_command : (cs ds : List Column) (p q : List Step) (f g : RowFormat) (s t : Bool) → cs ≡ ds → p ≡ q → f ≡ g → s ≡ t
    → ◌≡◌ {A = LinesCommand} (record { columns = cs; has = p; format = f; strict = s }) (record { columns = ds; has = q; format = g; strict = t })
same_command cs ds p q f g s t a b c d = rw (a, b, c, d) refl

-- what was spelled by equal parts
one_of_parts : (w w' : List ℕ) (h h' : Option (List ℕ)) (s s' : Bool) (f f' : RowFormat) (c d : LinesCommand) → w ≡ w' → h ≡ h' → s ≡ s' → f ≡ f' → SpellsCommand w h s f c → SpellsCommand w' h' s' f' d → c ≡ d
one_of_parts w w' h h' s s' f f' c d ew eh es ef j k =
    same_command c.columns d.columns c.has d.has c.format d.format c.strict d.strict (one_spelled columns_in w c.columns d.columns j.columns (subst (λ x. WordSpells columns_in x d.columns) (sym ew) k.columns))
    (one_has h c.has d.has j.has (subst (λ x. SpellsHas x d.has) (sym eh) k.has)) (j.format_so ∙ ef ∙ sym k.format_so) (j.strict_so ∙ es ∙ sym k.strict_so)

pub one_command : (arguments : List (List ℕ)) (c d : LinesCommand) → AsksForColumns arguments c → AsksForColumns arguments d → c ≡ d
one_command arguments c d h k =
    let same = same_parts arguments (Some h.columns) (Some k.columns) h.has k.has h.strict k.strict h.csv k.csv h.words k.words in
    one_of_parts h.columns k.columns h.has k.has h.strict k.strict (format_by h.csv) (format_by k.csv) c d (some_word h.columns k.columns same.0) same.1 same.2 (ap format_by same.3) h.spelled k.spelled
