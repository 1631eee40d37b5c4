-- What is still to be shown of a container, element by element.
use Rattle.std.proofs.Common.{◌≡◌, ℕ, zero, suc, ◌+◌, ◌≤◌, List, [], ◌∷◌, ◌++◌, length, take, drop, slice_get, Bool, true, false, Option, Some, Result, Ok, Err, refl, sym, ap, ◌∙◌, arith, append_assoc}
use Rattle.std.proofs.Math.Seq.{drop-cons}
use Rattle.std.proofs.lemmas.Option.{slice_get_within, get_or_from_slice_get}
use Rattle.json_grammar.specs.Tree.{Tree, list, list_trees, pairs, list_pairs}
use Rattle.json_grammar.specs.Sizes.{nodes, trees_nodes, pairs_nodes}
use Rattle.json_model.specs.Print.{shown, more_trees_shown, more_pairs_shown, line, quoted, colon_bytes}
use Rattle.json_io.specs.declared.sink.SinkError.{SinkError}
use Rattle.json_io.specs.Outside.{SinkState}
use Rattle.json_doc.specs.Nodes.{NodeOf}
use Rattle.json_doc.specs.Left.{children_left, pairs_left}
use Rattle.json_doc.specs.declared.node.DocNode.{DocNode}
use Rattle.json_doc.specs.declared.node.DocNode.TheVariants as node
use Rattle.json_layout.specs.Adding.{Adds}
use Rattle.json_layout.specs.Buffered.{held_after}
use Rattle.json_layout.specs.declared.buffered.BufferedWriter.{BufferedWriter}
use Rattle.json_layout.specs.Showing.{Shows, lead, closed_by, key_shown}
use Rattle.json_layout.proofs.ShownParts.{added_shows, Shows-first, Shows-within, Shows-then, Shows-same}
use Rattle.json_doc_print.specs.ShownNodes.{node_tree}
use Rattle.json_doc_print.proofs.TokensGiven.{list_seen, pairs_seen}

-- a node's tree is the one at its place
pub node_is : (r : DocNode) (t : Tree) → NodeOf r t → node_tree r ≡ t
node_is node.Null t h = sym h
node_is (node.Boolean b) t h = sym h
node_is (node.Number n) t h = sym h
node_is (node.Raw l) t h = sym h
node_is (node.String s) t h = sym h
node_is (node.Array c) t h = list_seen t h.0 (children_left c) h.1 h.2
node_is (node.Object p) t h = pairs_seen t h.0 (pairs_left p) h.1 h.2

-- ---- what is left

-- of the elements of an array at level d, which are at level e, and the bracket after them
abbrev pub elements_left : Option (List ℕ) → ℕ → ℕ → Bool → List Tree → List ℕ
elements_left i d e first [] = closed_by i d first 93
elements_left i d e first (t ∷ ts) = (lead i e first ++ shown i e t) ++ elements_left i d e false ts

-- of the members of an object
abbrev pub members_left : Option (List ℕ) → ℕ → ℕ → Bool → List (List ℕ × Tree) → List ℕ
members_left i d e first [] = closed_by i d first 125
members_left i d e first (p ∷ ps) = (key_shown i e first p.0 ++ shown i e p.1) ++ members_left i d e false ps

regroup : (l s r m z : List ℕ) → r ≡ m ++ z → (l ++ s) ++ r ≡ (l ++ (s ++ m)) ++ z
regroup l s r m z e = append_assoc l s r ∙ ap (λ x. l ++ (s ++ x)) e ∙ ap (λ x. l ++ x) (sym (append_assoc s m z)) ∙ sym (append_assoc l (s ++ m) z)

more_elements : (i : Option (List ℕ)) (d e : ℕ) (ts : List Tree) → elements_left i d e false ts ≡ more_trees_shown i e (list_trees ts) ++ (line i d ++ 93 ∷ [])
more_elements i d e [] = refl
more_elements i d e (t ∷ ts) = ap (λ x. 44 ∷ x) (regroup (line i e) (shown i e t) (elements_left i d e false ts) (more_trees_shown i e (list_trees ts)) (line i d ++ 93 ∷ []) (more_elements i d e ts))

array_from : (i : Option (List ℕ)) (d : ℕ) (ts : List Tree) → 91 ∷ elements_left i d (suc d) true ts ≡ shown i d (list (list_trees ts))
array_from i d [] = refl
array_from i d (t ∷ ts) =
    let m = more_trees_shown i (suc d) (list_trees ts) in
    ap (λ x. 91 ∷ x) (regroup (line i (suc d)) (shown i (suc d) t) (elements_left i d (suc d) false ts) (m ++ line i d) (93 ∷ []) (more_elements i d (suc d) ts ∙ sym (append_assoc m (line i d) (93 ∷ []))))

-- a key, its value and what is after it
member_group : (l q c s : List ℕ) (m : List ℕ) → (l ++ (q ++ c)) ++ (s ++ m) ≡ l ++ (q ++ (c ++ (s ++ m)))
member_group l q c s m = append_assoc l (q ++ c) (s ++ m) ∙ ap (λ x. l ++ x) (append_assoc q c (s ++ m))

more_members : (i : Option (List ℕ)) (d e : ℕ) (ps : List (List ℕ × Tree)) → members_left i d e false ps ≡ more_pairs_shown i e (list_pairs ps) ++ (line i d ++ 125 ∷ [])
more_members i d e [] = refl
more_members i d e (p ∷ ps) =
    let m = more_pairs_shown i e (list_pairs ps) in let z = line i d ++ 125 ∷ [] in let s = shown i e p.1 in
    ap (λ x. 44 ∷ x) (regroup (line i e ++ (quoted p.0 ++ colon_bytes i)) s (members_left i d e false ps) m z (more_members i d e ps) ∙ ap (λ x. x ++ z) (member_group (line i e) (quoted p.0) (colon_bytes i) s m))

object_from : (i : Option (List ℕ)) (d : ℕ) (ps : List (List ℕ × Tree)) → 123 ∷ members_left i d (suc d) true ps ≡ shown i d (pairs (list_pairs ps))
object_from i d [] = refl
object_from i d (p ∷ ps) =
    let m = more_pairs_shown i (suc d) (list_pairs ps) in let s = shown i (suc d) p.1 in
    ap (λ x. 123 ∷ x) (regroup (line i (suc d) ++ (quoted p.0 ++ colon_bytes i)) s (members_left i d (suc d) false ps) (m ++ line i d) (125 ∷ []) (more_members i d (suc d) ps ∙ sym (append_assoc m (line i d) (125 ∷ [])))
    ∙ ap (λ x. x ++ 125 ∷ []) (member_group (line i (suc d)) (quoted p.0) (colon_bytes i) s (m ++ line i d)))

next : (d : ℕ) → d + 1 ≡ suc d
next d = omega arith

pub array_is : (i : Option (List ℕ)) (d : ℕ) (ts : List Tree) → 91 ∷ elements_left i d (d + 1) true ts ≡ shown i d (list (list_trees ts))
array_is i d ts = ap (λ e. 91 ∷ elements_left i d e true ts) (next d) ∙ array_from i d ts

pub object_is : (i : Option (List ℕ)) (d : ℕ) (ps : List (List ℕ × Tree)) → 123 ∷ members_left i d (d + 1) true ps ≡ shown i d (pairs (list_pairs ps))
object_is i d ps = ap (λ e. 123 ∷ members_left i d e true ps) (next d) ∙ object_from i d ps

-- ---- a loop

-- what a buffered writer represents
abbrev pub held : {W : Type 0} → (W → SinkState) → BufferedWriter W → SinkState
held state b = held_after (state b.inner) (drop b.sent (take b.end b.buffer.items))

-- what is left of it, with e containers around it, brings all that was to be shown, which has d around it
pub record Goes (d e : ℕ) (old now : SinkState) (left all : List ℕ) : Type 0 where
  pub brings : (new : SinkState) (r : Result (Unit {0}) SinkError) → Shows e now new left r → Shows d old new all r

-- after the bracket that opens it
goes_opened : (d e : ℕ) (old now : SinkState) (x : ℕ) (left all : List ℕ) (u : Unit {0}) → e ≤ d + 1 → Adds old now (x ∷ []) (Ok u) → x ∷ left ≡ all → Goes d e old now left all
goes_opened d e old now x left all u l h is =
    record { brings = λ new r k. Shows-same old new (x ∷ left) all r is (Shows-within d e old now new (x ∷ []) left u r (omega (arith, l)) (added_shows old now (x ∷ []) (Ok u) h) k) }

pub goes_first : (d : ℕ) (old now : SinkState) (x : ℕ) (left all : List ℕ) (u : Unit {0}) → Adds old now (x ∷ []) (Ok u) → x ∷ left ≡ all → Goes d (d + 1) old now left all
goes_first d old now x left all u h is = goes_opened d (d + 1) old now x left all u (omega arith) h is

-- ... which counts for no level
pub goes_from : (d : ℕ) (old now : SinkState) (x : ℕ) (left all : List ℕ) (u : Unit {0}) → Adds old now (x ∷ []) (Ok u) → x ∷ left ≡ all → Goes d d old now left all
goes_from d old now x left all u h is = goes_opened d d old now x left all u (omega arith) h is

-- after one more
pub goes_on : (d e : ℕ) (old now next : SinkState) (p rest left all : List ℕ) (u : Unit {0}) → Goes d e old now left all → left ≡ p ++ rest → Shows e now next p (Ok u) → Goes d e old next rest all
goes_on d e old now next p rest left all u g is h = record { brings = λ new r k. g.brings new r (Shows-same now new (p ++ rest) left r (sym is) (Shows-then now next new p rest u r h k)) }

-- one failed
pub goes_failed : (d e : ℕ) (old now next : SinkState) (p rest left all : List ℕ) (x : SinkError) → Goes d e old now left all → left ≡ p ++ rest → Shows e now next p (Err x) → Shows d old next all (Err x)
goes_failed d e old now next p rest left all x g is h = g.brings next (Err x) (Shows-same now next (p ++ rest) left (Err x) (sym is) (Shows-first now next p rest x h))

-- the bracket that closes it is all that is left
pub goes_last : (d e : ℕ) (old now new : SinkState) (p left all : List ℕ) (r : Result (Unit {0}) SinkError) → Goes d e old now left all → p ≡ left → Adds now new p r → Shows d old new all r
goes_last d e old now new p left all r g is h = g.brings new r (Shows-same now new p left r is (added_shows now new p r h))

-- ---- an array

element_eq : (i : Option (List ℕ)) (d e : ℕ) (first : Bool) (n u : Tree) (left rest : List Tree) → left ≡ u ∷ rest → n ≡ u → elements_left i d e first left ≡ (lead i e first ++ shown i e n) ++ elements_left i d e false rest
element_eq i d e first n u left rest h k = ap (elements_left i d e first) h ∙ ap (λ t. (lead i e first ++ shown i e t) ++ elements_left i d e false rest) (sym k)

pub element_on : {v w : ℕ} (old now next : SinkState) (i : Option (List ℕ)) (d e : ℕ) (first : Bool) (n u : Tree) (left rest : List Tree) (all : List ℕ) (o : Unit {0}) → Goes v w old now (elements_left i d e first left) all → left ≡ u ∷ rest → n ≡ u → Shows w now next (lead i e first ++ shown i e n) (Ok o)
    → Goes v w old next (elements_left i d e false rest) all
element_on {v} {w} old now next i d e first n u left rest all o g h k s =
    goes_on v w old now next (lead i e first ++ shown i e n) (elements_left i d e false rest) (elements_left i d e first left) all o g (element_eq i d e first n u left rest h k) s

pub element_failed : {v w : ℕ} (old now next : SinkState) (i : Option (List ℕ)) (d e : ℕ) (first : Bool) (n u : Tree) (left rest : List Tree) (all : List ℕ) (x : SinkError) → Goes v w old now (elements_left i d e first left) all → left ≡ u ∷ rest → n ≡ u → Shows w now next (lead i e first ++ shown i e n) (Err x)
    → Shows v old next all (Err x)
element_failed {v} {w} old now next i d e first n u left rest all x g h k s =
    goes_failed v w old now next (lead i e first ++ shown i e n) (elements_left i d e false rest) (elements_left i d e first left) all x g (element_eq i d e first n u left rest h k) s

-- an element and those after it have no more nodes than all
pub element_bound : (n u : Tree) (left rest : List Tree) → left ≡ u ∷ rest → n ≡ u → nodes n + trees_nodes (list_trees rest) ≡ trees_nodes (list_trees left)
element_bound n u left rest h k = ap (λ t. nodes t + trees_nodes (list_trees rest)) k ∙ sym (ap (λ ts. trees_nodes (list_trees ts)) h)

-- ---- an object

member_eq : (i : Option (List ℕ)) (d e : ℕ) (first : Bool) (k : List ℕ) (n u : Tree) (left rest : List (List ℕ × Tree)) → left ≡ (k, u) ∷ rest → n ≡ u → members_left i d e first left ≡ (key_shown i e first k ++ shown i e n) ++ members_left i d e false rest
member_eq i d e first k n u left rest h s = ap (members_left i d e first) h ∙ ap (λ t. (key_shown i e first k ++ shown i e t) ++ members_left i d e false rest) (sym s)

pub member_on : {v w : ℕ} (old now mid next : SinkState) (i : Option (List ℕ)) (d e : ℕ) (first : Bool) (k : List ℕ) (n u : Tree) (left rest : List (List ℕ × Tree)) (all : List ℕ) (o p : Unit {0}) → Goes v w old now (members_left i d e first left) all → left ≡ (k, u) ∷ rest → n ≡ u → Adds now mid (key_shown i e first k) (Ok o)
    → Shows w mid next (shown i e n) (Ok p) → Goes v w old next (members_left i d e false rest) all
member_on {v} {w} old now mid next i d e first k n u left rest all o p g h s a b =
    goes_on v w old now next (key_shown i e first k ++ shown i e n) (members_left i d e false rest) (members_left i d e first left) all p g (member_eq i d e first k n u left rest h s) (Shows-then now mid next (key_shown i e first k) (shown i e n) o (Ok p) (added_shows now mid (key_shown i e first k) (Ok o) a) b)

pub key_failed : {v w : ℕ} (old now next : SinkState) (i : Option (List ℕ)) (d e : ℕ) (first : Bool) (k : List ℕ) (u : Tree) (left rest : List (List ℕ × Tree)) (all : List ℕ) (x : SinkError) → Goes v w old now (members_left i d e first left) all → left ≡ (k, u) ∷ rest → Adds now next (key_shown i e first k) (Err x)
    → Shows v old next all (Err x)
key_failed {v} {w} old now next i d e first k u left rest all x g h a =
    goes_failed v w old now next (key_shown i e first k ++ shown i e u) (members_left i d e false rest) (members_left i d e first left) all x g (member_eq i d e first k u u left rest h refl) (Shows-first now next (key_shown i e first k) (shown i e u) x (added_shows now next (key_shown i e first k) (Err x) a))

pub value_failed : {v w : ℕ} (old now mid next : SinkState) (i : Option (List ℕ)) (d e : ℕ) (first : Bool) (k : List ℕ) (n u : Tree) (left rest : List (List ℕ × Tree)) (all : List ℕ) (o : Unit {0}) (x : SinkError) → Goes v w old now (members_left i d e first left) all → left ≡ (k, u) ∷ rest → n ≡ u → Adds now mid (key_shown i e first k) (Ok o)
    → Shows w mid next (shown i e n) (Err x) → Shows v old next all (Err x)
value_failed {v} {w} old now mid next i d e first k n u left rest all o x g h s a b =
    goes_failed v w old now next (key_shown i e first k ++ shown i e n) (members_left i d e false rest) (members_left i d e first left) all x g (member_eq i d e first k n u left rest h s) (Shows-then now mid next (key_shown i e first k) (shown i e n) o (Err x) (added_shows now mid (key_shown i e first k) (Ok o) a) b)

pub member_bound : (k : List ℕ) (n u : Tree) (left rest : List (List ℕ × Tree)) → left ≡ (k, u) ∷ rest → n ≡ u → suc (nodes n + pairs_nodes (list_pairs rest)) ≡ pairs_nodes (list_pairs left)
member_bound k n u left rest h s = ap (λ t. suc (nodes t + pairs_nodes (list_pairs rest))) s ∙ sym (ap (λ ps. pairs_nodes (list_pairs ps)) h)

-- ---- a list by places

pub there : {A : Type 0} (xs : List A) (i : ℕ) (x : A) → slice_get xs i ≡ Some x → drop i xs ≡ x ∷ drop (i + 1) xs
there xs i x e = drop-cons xs i x (slice_get_within xs i x e) ∙ ap (λ z. z ∷ drop (suc i) xs) (get_or_from_slice_get xs i x x e) ∙ ap (λ n. x ∷ drop n xs) (sym (next i))

pub none_there : {A : Type 0} (xs : List A) (i : ℕ) → length xs ≤ i → drop i xs ≡ []
none_there [] zero h = refl
none_there [] (suc i) h = refl
none_there (x ∷ xs) zero h = absurd (omega (arith, h))
none_there (x ∷ xs) (suc i) h = none_there xs i (omega (arith, h))
