-- A parser on its way to a value: what it takes of the tokens of the text's tree.
use Rattle.std.proofs.Common.{◌≡◌, ◌≢◌, ◌∙◌, ◌+◌, ◌-◌, ◌<◌, ◌≤◌, ℕ, zero, suc, List, [], ◌∷◌, ◌++◌, Bool, false, Option, Some, None, Result, Ok, Err, length, drop, refl, sym, ap, ap₂, subst, append_assoc, append-nil, arith, map, get_or, drop-cons}
use Rattle.std.proofs.lemmas.List.{append_cancel_left, append_cancel_right, take-append-drop}
use Rattle.std.proofs.Math.Seq.{drop-length}
use Rattle.json_grammar.specs.declared.Kind.TheVariants.{Array as array, Object as object}
use Rattle.json_grammar.specs.Given.{piece}
use Rattle.json_grammar.specs.Grammar.{is_text as is_text_of}
use Rattle.json_grammar.specs.Needs.{IsGap}
use Rattle.json_grammar.specs.Tree.{Tree, null, boolean, num, text as text_tree, list, pairs, Trees, no_trees, tree_and, Pairs, no_pairs, pair_and, tokens, trees_tokens, pairs_tokens, trees_list, list_trees, pairs_list, list_pairs, depth, Token as Tok, null_token, boolean_token, num_token, text_token, begin, end, key_token}
use Rattle.json_grammar.proofs.Reading.{events_begin}
use Rattle.json_grammar.proofs.Values.{one_tree}
use Rattle.json_grammar.proofs.Pieces.{piece_length}
use Rattle.json_io.specs.declared.error.Error.{Error}
use Rattle.json_text.specs.declared.event.Event.{Event}
use Rattle.json_text.specs.declared.event.Event.TheVariants as event
use Rattle.json_text.specs.Events.{Means, event_bytes}
use Rattle.json_text.specs.Faults.{IsFault}
use Rattle.json_text.specs.Parsing.{ParserState, HasGiven, SameInput, AdvancesTo, TakesToken, IsTight, ReadsNextEvent, StopsTight, RefusesOnErr, input, consumed}
use Rattle.json_text.specs.Readers.{ReaderAt}
use Rattle.json_text.proofs.NoText.{no_text}
use Rattle.json_explain.specs.Explaining.{explained_step}
use Rattle.json_explain.specs.Refused.{element_step, member_step}
use Rattle.json_explain.specs.declared.refusal.Step.{Step as StepOf}
use Rattle.json_explain.specs.Paths.{StepsTo, BeginsAt, OnTheWay, TakesNext, levels_after_token}

-- ---- one token

-- the tokens so far, at an offset of the whole text
pub reader_at_in : {limit : ℕ} {b : List ℕ} (s : ParserState) {xs : List Tok} → s.text ≡ b → s.start ≡ 0 → s.lossy ≡ false → s.limit ≡ limit → HasGiven s xs
    → ReaderAt false limit b s.index s.open_kinds s.expected xs
reader_at_in {limit = limit} {b = b} s {xs = xs} e f g l h =
    let u : input s ≡ b = ap₂ drop f e in
    let n : s.index - s.start ≡ s.index = omega (arith, f) in
    let one = subst (λ (m : Bool). ReaderAt m s.limit (input s) (consumed s) s.open_kinds s.expected xs) g h in
    let two = subst (λ (k : ℕ). ReaderAt false k (input s) (consumed s) s.open_kinds s.expected xs) l one in
    let three = subst (λ (v : List ℕ). ReaderAt false limit v (consumed s) s.open_kinds s.expected xs) u two in
    subst (λ (i : ℕ). ReaderAt false limit b i s.open_kinds s.expected xs) n three

-- the tokens so far begin those of the text's tree
begins_tree : {limit : ℕ} {b : List ℕ} (s : ParserState) {xs : List Tok} (t : Tree) → s.text ≡ b → s.start ≡ 0 → s.lossy ≡ false → s.limit ≡ limit → HasGiven s xs → is_text_of false t b
    → (m : List Tok) × (tokens t ≡ xs ++ m)
begins_tree {b = b} s t e f g l h w =
    let p = (reader_at_in s e f g l h).given in
    let base = (reader_at_in s e f g l h).base in
    events_begin false t (drop base b) p.at p.ends (subst (λ (y : List ℕ). is_text_of false t y) (sym (take-append-drop base b)) w)

heads : (x y : Tok) (xs ys : List Tok) → x ∷ xs ≡ y ∷ ys → (x ≡ y) × (xs ≡ ys)
heads x y xs ys e = (cc, cc)

module _ {limit : ℕ} {b : List ℕ} {t : Tree} {old : ParserState} {xs ys : List Tok} {x : Tok} where
  not_over : OnTheWay limit b t old xs (x ∷ ys) → ((ts : List Tok) → HasGiven old ts → (u : Tree) × is_text_of old.lossy u (input old) × (ts ≡ tokens u) × (depth u ≤ old.limit)) → ⊥
  not_over w g =
      let k = g xs w.given in
      let i : input old ≡ b = ap₂ drop w.start w.text in
      let h : is_text_of false k.0 b = subst (λ (y : List ℕ). is_text_of false k.0 y) i (subst (λ (m : Bool). is_text_of m k.0 (input old)) w.mode k.1) in
      let e : xs ++ [] ≡ xs ++ (x ∷ ys) = append-nil xs ∙ k.2 ∙ ap tokens (one_tree false k.0 t b h w.is_text) ∙ w.row in
      let d : [] ≡ x ∷ ys = append_cancel_left xs [] (x ∷ ys) e in
      cc

  -- where a token follows, the next event is not the end
  pub no_end : (new : ParserState) (r : Result Event Error) → r ≡ Ok event.End → ReadsNextEvent old new r → OnTheWay limit b t old xs (x ∷ ys) → ⊥
  no_end new r i g w = not_over w ((subst (λ (z : Result Event Error). ReadsNextEvent old new z) i g).2.1)

  -- and the text has no fault
  pub no_error : (new : ParserState) (e : Error) (r : Result Event Error) → r ≡ Err e → RefusesOnErr old new r → OnTheWay limit b t old xs (x ∷ ys) → ⊥
  no_error new e r i g w =
      let f = (subst (λ (z : Result Event Error). RefusesOnErr old new z) i g).fault in
      let u : input old ≡ b = ap₂ drop w.start w.text in
      let one = subst (λ (m : Bool). IsFault m old.limit (input old) e.code f.0) w.mode f.2 in
      let two = subst (λ (n : ℕ). IsFault false n (input old) e.code f.0) w.limit_is one in
      let three = subst (λ (v : List ℕ). IsFault false limit v e.code f.0) u two in
      no_text false limit b e.code f.0 three t w.is_text w.fits

  took : (new : ParserState) (e : Event) → SameInput old new → OnTheWay limit b t old xs (x ∷ ys) → ((y : Tok) × Means e y × HasGiven new (xs ++ y ∷ [])) → TakesToken old e new
      → Means e x × TakesToken old e new × OnTheWay limit b t new (xs ++ x ∷ []) ys
  took new e q w g k =
      let n = begins_tree new t (q.text ∙ w.text) (q.start ∙ w.start) (q.lossy ∙ w.mode) (q.limit ∙ w.limit_is) g.2 w.is_text in
      let r : xs ++ (g.0 ∷ n.0) ≡ xs ++ (x ∷ ys) = sym (append_assoc xs (g.0 ∷ []) n.0) ∙ sym n.1 ∙ w.row in
      let h = heads g.0 x n.0 ys (append_cancel_left xs (g.0 ∷ n.0) (x ∷ ys) r) in (
        subst (λ (y : Tok). Means e y) h.0 g.1,
        k,
        record {
          text = q.text ∙ w.text;
          start = q.start ∙ w.start;
          mode = q.lossy ∙ w.mode;
          limit_is = q.limit ∙ w.limit_is;
          given = subst (λ (y : Tok). HasGiven new (xs ++ y ∷ [])) h.0 g.2;
          is_text = w.is_text;
          fits = w.fits;
          row = w.row ∙ sym (append_assoc xs (x ∷ []) ys);
        },
      )

  next_event : (new : ParserState) (e : Event) → SameInput old new → OnTheWay limit b t old xs (x ∷ ys) → AdvancesTo old e new → IsTight old e new
      → Means e x × TakesToken old e new × OnTheWay limit b t new (xs ++ x ∷ []) ys
  next_event new event.Null q w g k = took new event.Null q w (g xs w.given) k
  next_event new (event.Bool v) q w g k = took new (event.Bool v) q w (g xs w.given) k
  next_event new (event.Number l) q w g k = took new (event.Number l) q w (g xs w.given) k
  next_event new (event.Str v) q w g k = took new (event.Str v) q w (g xs w.given) k
  next_event new (event.Key v) q w g k = took new (event.Key v) q w (g xs w.given) k
  next_event new event.BeginArray q w g k = took new event.BeginArray q w (g xs w.given) k
  next_event new event.EndArray q w g k = took new event.EndArray q w (g xs w.given) k
  next_event new event.BeginObject q w g k = took new event.BeginObject q w (g xs w.given) k
  next_event new event.EndObject q w g k = took new event.EndObject q w (g xs w.given) k
  next_event new event.End q w g k = absurd (not_over w g.1)

  -- an event that was read is that of the next token
  pub takes_event : (new : ParserState) (e : Event) (r : Result Event Error) (o : Option Event) → r ≡ Ok e → o ≡ Some e → SameInput old new → ReadsNextEvent old new r → StopsTight old new r
      → OnTheWay limit b t old xs (x ∷ ys) → TakesNext limit b t old new xs x ys o
  takes_event new e r o i j q g k w =
      let n = next_event new e q w ((subst (λ (z : Result Event Error). ReadsNextEvent old new z) i g).2) (subst (λ (z : Result Event Error). StopsTight old new z) i k) in
      record { event = e; some = j; means = n.0; takes = n.1; goes = n.2 }

-- an event but the end moves on
pub tight_forward : (old new : ParserState) (e : Event) → e ≢ event.End → IsTight old e new → (old.index < new.index) × (new.index ≤ length new.text)
tight_forward old new event.Null n k = (k.forward, k.within)
tight_forward old new (event.Bool v) n k = (k.forward, k.within)
tight_forward old new (event.Number l) n k = (k.forward, k.within)
tight_forward old new (event.Str v) n k = (k.forward, k.within)
tight_forward old new (event.Key v) n k = (k.forward, k.within)
tight_forward old new event.BeginArray n k = (k.forward, k.within)
tight_forward old new event.EndArray n k = (k.forward, k.within)
tight_forward old new event.BeginObject n k = (k.forward, k.within)
tight_forward old new event.EndObject n k = (k.forward, k.within)
tight_forward old new event.End n k = absurd (n refl)

-- a token is the next where the same tokens are ahead
pub ahead_is : {limit : ℕ} {b : List ℕ} {t : Tree} {s : ParserState} {xs ys zs : List Tok} → ys ≡ zs → OnTheWay limit b t s xs ys → OnTheWay limit b t s xs zs
ahead_is {limit = limit} {b = b} {t = t} {s = s} {xs = xs} e w = subst (λ (us : List Tok). OnTheWay limit b t s xs us) e w

pub so_far_is : {limit : ℕ} {b : List ℕ} {t : Tree} {s : ParserState} {xs ys zs : List Tok} → xs ≡ zs → OnTheWay limit b t s xs ys → OnTheWay limit b t s zs ys
so_far_is {limit = limit} {b = b} {t = t} {s = s} {ys = ys} e w = subst (λ (us : List Tok). OnTheWay limit b t s us ys) e w

-- what follows says what was taken
pub so_far_by : {limit : ℕ} {b : List ℕ} {t : Tree} {s m : ParserState} {xs : List Tok} (ys : List Tok) {zs us : List Tok} → OnTheWay limit b t s xs (ys ++ zs) → OnTheWay limit b t m us zs → OnTheWay limit b t m (xs ++ ys) zs
so_far_by {xs = xs} ys {zs = zs} {us = us} w v = so_far_is (append_cancel_right us (xs ++ ys) zs (sym v.row ∙ w.row ∙ sym (append_assoc xs ys zs))) v

-- ---- a value

-- n containers are open: the tokens after they are closed
abbrev pub closing : ℕ → List Tok → Option (List Tok)
closing zero xs = Some xs
closing (suc n) [] = None
closing (suc n) (x ∷ xs) = closing (levels_after_token x (suc n)) xs

-- the tokens after a value in which n containers are open: none is open before it
abbrev pub ahead : ℕ → List Tok → Option (List Tok)
ahead n [] = None
ahead n (x ∷ xs) = closing (levels_after_token x n) xs

mutual
  closing_tree : (u : Tree) (n : ℕ) (xs : List Tok) → closing (suc n) (tokens u ++ xs) ≡ closing (suc n) xs
  closing_tree null n xs = refl
  closing_tree (boolean v) n xs = refl
  closing_tree (num l) n xs = refl
  closing_tree (text_tree s) n xs = refl
  closing_tree (list ts) n xs = ap (closing (suc (suc n))) (append_assoc (trees_tokens ts) (end array ∷ []) xs) ∙ closing_trees ts (suc n) (end array ∷ xs)
  closing_tree (pairs ps) n xs = ap (closing (suc (suc n))) (append_assoc (pairs_tokens ps) (end object ∷ []) xs) ∙ closing_pairs ps (suc n) (end object ∷ xs)

  closing_trees : (ts : Trees) (n : ℕ) (xs : List Tok) → closing (suc n) (trees_tokens ts ++ xs) ≡ closing (suc n) xs
  closing_trees no_trees n xs = refl
  closing_trees (tree_and t ts) n xs = ap (closing (suc n)) (append_assoc (tokens t) (trees_tokens ts) xs) ∙ closing_tree t n (trees_tokens ts ++ xs) ∙ closing_trees ts n xs

  closing_pairs : (ps : Pairs) (n : ℕ) (xs : List Tok) → closing (suc n) (pairs_tokens ps ++ xs) ≡ closing (suc n) xs
  closing_pairs no_pairs n xs = refl
  closing_pairs (pair_and k t ps) n xs = ap (closing (suc n)) (append_assoc (tokens t) (pairs_tokens ps) xs) ∙ closing_tree t n (pairs_tokens ps ++ xs) ∙ closing_pairs ps n xs

pub ahead_tree : (u : Tree) (xs : List Tok) → ahead 0 (tokens u ++ xs) ≡ Some xs
ahead_tree null xs = refl
ahead_tree (boolean v) xs = refl
ahead_tree (num l) xs = refl
ahead_tree (text_tree s) xs = refl
ahead_tree (list ts) xs = ap (closing 1) (append_assoc (trees_tokens ts) (end array ∷ []) xs) ∙ closing_trees ts 0 (end array ∷ xs)
ahead_tree (pairs ps) xs = ap (closing 1) (append_assoc (pairs_tokens ps) (end object ∷ []) xs) ∙ closing_pairs ps 0 (end object ∷ xs)

-- a token is ahead
pub some_ahead : (n : ℕ) (xs rest : List Tok) → ahead n xs ≡ Some rest → (x : Tok) × (ys : List Tok) × (xs ≡ x ∷ ys)
some_ahead n [] rest e = cc
some_ahead n (x ∷ xs) rest e = (x, xs, refl)

still_ahead : (n : ℕ) (xs : List Tok) → n ≢ 0 → closing n xs ≡ ahead n xs
still_ahead zero xs h = absurd (h refl)
still_ahead (suc n) [] h = refl
still_ahead (suc n) (x ∷ xs) h = refl

-- one more token of a value
pub goes_ahead : (m n : ℕ) (x : Tok) (xs rest : List Tok) → n ≡ levels_after_token x m → n ≢ 0 → ahead m (x ∷ xs) ≡ Some rest → ahead n xs ≡ Some rest
goes_ahead m n x xs rest e h a = sym (still_ahead n xs h) ∙ ap (λ (k : ℕ). closing k xs) e ∙ a

-- its last token
pub ends_ahead : (m n : ℕ) (x : Tok) (xs rest : List Tok) → n ≡ levels_after_token x m → n ≡ 0 → ahead m (x ∷ xs) ≡ Some rest → xs ≡ rest
ends_ahead m n x xs rest e h a = let c : Some xs ≡ Some rest = ap (λ (k : ℕ). closing k xs) (sym h ∙ e) ∙ a in cc

pub same_input : {a b c : ParserState} → SameInput a b → SameInput b c → SameInput a c
same_input h k = record { text = k.text ∙ h.text; start = k.start ∙ h.start; lossy = k.lossy ∙ h.lossy; limit = k.limit ∙ h.limit }

-- what taking the next token promises
abbrev pub TakesAny : ℕ → List ℕ → Tree → ParserState → ParserState → Option Event → Type 0
TakesAny limit b t old new o = (xs ys : List Tok) (x : Tok) → OnTheWay limit b t old xs (x ∷ ys) → TakesNext limit b t old new xs x ys o

-- one more token of a value was taken, and n containers of it are open
pub record GoesOn (limit : ℕ) (b : List ℕ) (t : Tree) (new : ParserState) (m n : ℕ) (rest : List Tok) : Type 0 where
  pub before : List Tok
  pub token : Tok
  pub others : List Tok
  pub goes : OnTheWay limit b t new before others
  pub levels : n ≡ levels_after_token token m
  pub left : ahead m (token ∷ others) ≡ Some rest

pub goes_on : {limit : ℕ} {b : List ℕ} {t : Tree} {old new : ParserState} (o : Option Event) (e : Event) (m n : ℕ) {zs ws rest : List Tok}
    → o ≡ Some e → TakesAny limit b t old new o → ((x : Tok) → Means e x → n ≡ levels_after_token x m) → OnTheWay limit b t old zs ws → ahead m ws ≡ Some rest → GoesOn limit b t new m n rest
goes_on o e m n {zs = zs} {ws = ws} {rest = rest} i f g w a =
    let h = some_ahead m ws rest a in
    let k = f zs h.1 h.0 (ahead_is h.2 w) in
    let q : Some k.event ≡ Some e = sym k.some ∙ i in
    let r : k.event ≡ e = cc in
    record {
      before = zs ++ h.0 ∷ [];
      token = h.0;
      others = h.1;
      goes = k.goes;
      levels = g h.0 (subst (λ (z : Event). Means z h.0) r k.means);
      left = ap (ahead m) (sym h.2) ∙ a;
    }

-- a token is taken
pub is_taken : {limit : ℕ} {b : List ℕ} {t : Tree} {old new : ParserState} (o : Option Event) (m : ℕ) {zs ws rest : List Tok}
    → o ≡ None → TakesAny limit b t old new o → OnTheWay limit b t old zs ws → ahead m ws ≡ Some rest → ⊥
is_taken o m {zs = zs} {ws = ws} {rest = rest} i f w a =
    let h = some_ahead m ws rest a in
    let k = f zs h.1 h.0 (ahead_is h.2 w) in
    let q : None ≡ Some k.event = sym i ∙ k.some in
    cc

pub was_taken : {limit : ℕ} {b : List ℕ} {t : Tree} {old new : ParserState} {xs ys : List Tok} {x : Tok} {o : Option Event} → TakesNext limit b t old new xs x ys o → o ≡ None → ⊥
was_taken k i = let q : None ≡ Some k.event = sym i ∙ k.some in cc

-- ---- containers

abbrev pub elements_tokens : List Tree → List Tok
elements_tokens us = trees_tokens (list_trees us)

abbrev pub members_tokens : List (List ℕ × Tree) → List Tok
members_tokens us = pairs_tokens (list_pairs us)

trees_back : (ts : Trees) → list_trees (trees_list ts) ≡ ts
trees_back no_trees = refl
trees_back (tree_and t ts) = ap (λ (us : Trees). tree_and t us) (trees_back ts)

pairs_back : (ps : Pairs) → list_pairs (pairs_list ps) ≡ ps
pairs_back no_pairs = refl
pairs_back (pair_and k t ps) = ap (λ (qs : Pairs). pair_and k t qs) (pairs_back ps)

elements_append : (us vs : List Tree) → elements_tokens (us ++ vs) ≡ elements_tokens us ++ elements_tokens vs
elements_append [] vs = refl
elements_append (u ∷ us) vs = ap (λ (xs : List Tok). tokens u ++ xs) (elements_append us vs) ∙ sym (append_assoc (tokens u) (elements_tokens us) (elements_tokens vs))

members_append : (us vs : List (List ℕ × Tree)) → members_tokens (us ++ vs) ≡ members_tokens us ++ members_tokens vs
members_append [] vs = refl
members_append (u ∷ us) vs =
    ap (λ (xs : List Tok). key_token u.0 ∷ (tokens u.1 ++ xs)) (members_append us vs) ∙ ap (λ (xs : List Tok). key_token u.0 ∷ xs) (sym (append_assoc (tokens u.1) (members_tokens us) (members_tokens vs)))

-- the tokens of an array, at the value to which a step leads
pub array_row : (ts : Trees) (us vs : List Tree) (v : Tree) (zs : List Tok) → trees_list ts ≡ us ++ v ∷ vs
    → tokens (list ts) ++ zs ≡ begin array ∷ (elements_tokens us ++ (tokens v ++ (elements_tokens vs ++ (end array ∷ zs))))
array_row ts us vs v zs e =
    let a : trees_tokens ts ≡ elements_tokens us ++ (tokens v ++ elements_tokens vs) = ap trees_tokens (sym (trees_back ts)) ∙ ap elements_tokens e ∙ elements_append us (v ∷ vs) in
    let d : (trees_tokens ts ++ end array ∷ []) ++ zs ≡ elements_tokens us ++ (tokens v ++ (elements_tokens vs ++ (end array ∷ zs))) =
    append_assoc (trees_tokens ts) (end array ∷ []) zs ∙ ap (λ (xs : List Tok). xs ++ end array ∷ zs) a ∙ append_assoc (elements_tokens us) (tokens v ++ elements_tokens vs) (end array ∷ zs)
    ∙ ap (λ (xs : List Tok). elements_tokens us ++ xs) (append_assoc (tokens v) (elements_tokens vs) (end array ∷ zs)) in
    ap (λ (xs : List Tok). begin array ∷ xs) d

-- the same of an object
pub object_row : (ps : Pairs) (us vs : List (List ℕ × Tree)) (k : List ℕ) (v : Tree) (zs : List Tok) → pairs_list ps ≡ us ++ (k, v) ∷ vs
    → tokens (pairs ps) ++ zs ≡ begin object ∷ (members_tokens us ++ key_token k ∷ (tokens v ++ (members_tokens vs ++ (end object ∷ zs))))
object_row ps us vs k v zs e =
    let a : pairs_tokens ps ≡ members_tokens us ++ key_token k ∷ (tokens v ++ members_tokens vs) = ap pairs_tokens (sym (pairs_back ps)) ∙ ap members_tokens e ∙ members_append us ((k, v) ∷ vs) in
    let d : (pairs_tokens ps ++ end object ∷ []) ++ zs ≡ members_tokens us ++ key_token k ∷ (tokens v ++ (members_tokens vs ++ (end object ∷ zs))) =
    append_assoc (pairs_tokens ps) (end object ∷ []) zs ∙ ap (λ (xs : List Tok). xs ++ end object ∷ zs) a ∙ append_assoc (members_tokens us) (key_token k ∷ (tokens v ++ members_tokens vs)) (end object ∷ zs)
    ∙ ap (λ (xs : List Tok). members_tokens us ++ key_token k ∷ xs) (append_assoc (tokens v) (members_tokens vs) (end object ∷ zs)) in
    ap (λ (xs : List Tok). begin object ∷ xs) d

pub enters_array : (u : Tree) (i : ℕ) (v : Tree) (ys zs : List Tok) → StepsTo u (element_step i) v ys
    → (us : List Tree) × (rest : List Tok) × (length us ≡ i) × (tokens u ++ zs ≡ begin array ∷ (elements_tokens us ++ (tokens v ++ rest))) × (ys ≡ begin array ∷ elements_tokens us)
enters_array null i v ys zs s = absurd s
enters_array (boolean b) i v ys zs s = absurd s
enters_array (num l) i v ys zs s = absurd s
enters_array (text_tree b) i v ys zs s = absurd s
enters_array (list ts) i v ys zs s = (s.0, elements_tokens s.1 ++ end array ∷ zs, s.3, array_row ts s.0 s.1 v zs s.2, s.4)
enters_array (pairs ps) i v ys zs s = absurd s

pub enters_object : (u : Tree) (i : ℕ) (k : List ℕ) (v : Tree) (ys zs : List Tok) → StepsTo u (member_step i k) v ys
    → (us : List (List ℕ × Tree)) × (rest : List Tok) × (length us ≡ i) × (tokens u ++ zs ≡ begin object ∷ (members_tokens us ++ key_token k ∷ (tokens v ++ rest)))
    × (ys ≡ begin object ∷ (members_tokens us ++ key_token k ∷ []))
enters_object null i k v ys zs s = absurd s
enters_object (boolean b) i k v ys zs s = absurd s
enters_object (num l) i k v ys zs s = absurd s
enters_object (text_tree b) i k v ys zs s = absurd s
enters_object (list ts) i k v ys zs s = absurd s
enters_object (pairs ps) i k v ys zs s = (s.0, members_tokens s.1 ++ end object ∷ zs, s.3, object_row ps s.0 s.1 k v zs s.2, s.4)

pub first_token : (u : Tree) → (x : Tok) × (xs : List Tok) × (tokens u ≡ x ∷ xs)
first_token null = (null_token, [], refl)
first_token (boolean v) = (boolean_token v, [], refl)
first_token (num l) = (num_token l, [], refl)
first_token (text_tree s) = (text_token s, [], refl)
first_token (list ts) = (begin array, trees_tokens ts ++ end array ∷ [], refl)
first_token (pairs ps) = (begin object, pairs_tokens ps ++ end object ∷ [], refl)

-- the first element of those that are left
pub first_element : (us : List Tree) (ys : List Tok) → 0 < length us → (u : Tree) × (vs : List Tree) × (length us ≡ length vs + 1) × (elements_tokens us ++ ys ≡ tokens u ++ (elements_tokens vs ++ ys))
first_element [] ys h = absurd (omega arith)
first_element (u ∷ us) ys h = (u, us, omega arith, append_assoc (tokens u) (elements_tokens us) ys)

pub no_element : (us : List Tree) (ys : List Tok) → length us ≡ 0 → elements_tokens us ++ ys ≡ ys
no_element [] ys h = refl
no_element (u ∷ us) ys h = absurd (omega arith)

pub first_member : (us : List (List ℕ × Tree)) (ys : List Tok) → 0 < length us
    → (k : List ℕ) × (u : Tree) × (vs : List (List ℕ × Tree)) × (length us ≡ length vs + 1) × (members_tokens us ++ ys ≡ key_token k ∷ (tokens u ++ (members_tokens vs ++ ys)))
first_member [] ys h = absurd (omega arith)
first_member (u ∷ us) ys h = (u.0, u.1, us, omega arith, ap (λ (xs : List Tok). key_token u.0 ∷ xs) (append_assoc (tokens u.1) (members_tokens us) ys))

pub no_member : (us : List (List ℕ × Tree)) (ys : List Tok) → length us ≡ 0 → members_tokens us ++ ys ≡ ys
no_member [] ys h = refl
no_member (u ∷ us) ys h = absurd (omega arith)

-- ---- the offset

-- the value begins where its first token does
pub begins_at : {limit : ℕ} {b : List ℕ} {t v : Tree} {old new : ParserState} {xs ys : List Tok} (zs : List Tok) {x : Tok} {o : Option Event}
    → OnTheWay limit b t old xs (tokens v ++ zs) → tokens v ≡ x ∷ ys → (n : TakesNext limit b t old new xs x (ys ++ zs) o) → BeginsAt limit b xs v n.takes.begins
begins_at {b = b} {old = old} {new = new} {ys = ys} zs {x = x} w e n =
    let k = n.takes in
    let u : new.text ≡ b = n.goes.text in
    record {
      opened = old.open_kinds;
      expected = old.expected;
      before = old.index;
      reader = reader_at_in old w.text w.start w.mode w.limit_is w.given;
      gap = subst (λ (y : List ℕ). IsGap (piece y old.index k.begins)) u k.gap;
      first = x;
      rest = ys;
      begins = e;
      event = n.event;
      means = n.means;
      after = new.index;
      order = (k.order.0, k.order.1, subst (λ (y : List ℕ). new.index ≤ length y) u k.within);
      bytes = subst (λ (y : List ℕ). piece y k.begins new.index ≡ event_bytes n.event) u k.bytes;
    }

-- and that is as many bytes before its end as it has
pub event_start : {old new : ParserState} {e : Event} → (k : TakesToken old e new) → k.begins + length (event_bytes e) ≡ new.index
event_start {new = new} {e = e} k =
    let n : length (piece new.text k.begins new.index) ≡ new.index - k.begins = piece_length new.text k.begins new.index (omega (arith, k.order)) k.within in
    let m : length (event_bytes e) ≡ new.index - k.begins = ap length (sym k.bytes) ∙ n in
    omega (arith, k.order)

-- ---- the steps

pub steps_next : (xs : List StepOf) (i : ℕ) (x : StepOf) → i < length xs → x ≡ get_or xs i x → map explained_step (drop i xs) ≡ explained_step x ∷ map explained_step (drop (i + 1) xs)
steps_next xs i x h e =
    let n : suc i ≡ i + 1 = omega arith in
    let d : drop i xs ≡ x ∷ drop (i + 1) xs = drop-cons xs i x h ∙ ap (λ (y : StepOf). y ∷ drop (suc i) xs) (sym e) ∙ ap (λ (j : ℕ). x ∷ drop j xs) n in
    ap (λ (ys : List StepOf). map explained_step ys) d

pub steps_over : (xs : List StepOf) (i : ℕ) → i ≡ length xs → map explained_step (drop i xs) ≡ []
steps_over xs i h = ap (λ (j : ℕ). map explained_step (drop j xs)) h ∙ ap (λ (ys : List StepOf). map explained_step ys) (drop-length xs)
