-- Numbers that are the same: of two integers by value the integers, of others the literals.
use Rattle.std.proofs.Common.{◌≡◌, ℕ, ℤ, List, Bool, true, false, ◌&&◌, Option, Some, None, option_map, refl, sym, ap, ◌∙◌, bytes_eq}
use Rattle.std.specs.Cmp.{both_ways, signed_Decides}
use Rattle.std.specs.Fmt.{signed_decimal}
use Rattle.std.specs.Option.{option_eq}
use Rattle.std.specs.Ordering.{on, int_eq}
use Rattle.std.proofs.lemmas.Bool.{false_from_ne_true}
use Rattle.std.proofs.lemmas.Slice.Eq.{bytes_eq-Decides}
use Rattle.json_grammar.specs.Tree.{Tree, null, boolean, num, text, list, pairs}
use Rattle.json_grammar.specs.Grammar.{number}
use Rattle.json_grammar.specs.Proper.{IsProper}
use Rattle.json_number.specs.Integers.{integer_in}
use Rattle.json_number.specs.Numbers.{value_of, text_of_number}
use Rattle.json_number.specs.declared.number.Number.{Number as NumberType}
use Rattle.json_number.proofs.Forms.{reads}
use Rattle.json_number.proofs.Integers.{prints_its_literal}
use Rattle.json_doc.specs.Readings.{type_of, integer_in_tree, literal_of, literal_unless}
use Rattle.json_doc.specs.declared.json_type.JsonType.TheVariants as kind
use Rattle.json_doc.proofs.Properness.{doc_proper}
use Rattle.json_model.specs.Same.{same}
use Rattle.json_value.specs.Seen.{seen, form_seen}
use Rattle.json_value.specs.declared.view.View.{View}
use Rattle.json_value.specs.declared.view.ViewForm.{ViewForm}
use Rattle.json_value.specs.declared.view.ViewForm.TheVariants as whole
use Rattle.json_value.proofs.ProperValues.{value_proper}

form_proper : (f : ViewForm) → IsProper (form_seen f)
form_proper (whole.Packed p) = doc_proper p.view.doc.now p.view.at p.view.inside
form_proper (whole.Whole v) = value_proper v.now
form_proper whole.Absent = tt

-- what is seen is proper
pub seen_proper : (v : View) → IsProper (seen v)
seen_proper v = form_proper v.form

-- a comparison through a function
pub option_on : {X Y : Type 0} (f : X → Y) (E : Y → Y → Bool) (o p : Option X) → option_eq (on f E) o p ≡ option_eq E (option_map f o) (option_map f p)
option_on f E None None = refl
option_on f E None (Some y) = refl
option_on f E (Some x) None = refl
option_on f E (Some x) (Some y) = refl

literals_same : (k l : List ℕ) → number k → number l → (o p : Option ℤ) → integer_in k ≡ o → integer_in l ≡ p → bytes_eq k l ≡ (option_eq int_eq o p && option_eq bytes_eq (literal_unless o k) (literal_unless p l))
literals_same k l h g None None e f = refl
literals_same k l h g None (Some n) e f = false_from_ne_true (bytes_eq k l) (λ s. let d : None ≡ Some n = sym e ∙ ap integer_in ((bytes_eq-Decides k l).0 s) ∙ f in cc)
literals_same k l h g (Some m) None e f = false_from_ne_true (bytes_eq k l) (λ s. let d : Some m ≡ None = sym e ∙ ap integer_in ((bytes_eq-Decides k l).0 s) ∙ f in cc)
literals_same k l h g (Some m) (Some n) e f = both_ways (bytes_eq k l) (int_eq m n && true) to back
  where
    to : bytes_eq k l ≡ true → (int_eq m n && true) ≡ true
    to s = let d : Some m ≡ Some n = sym e ∙ ap integer_in ((bytes_eq-Decides k l).0 s) ∙ f in let i : m ≡ n = cc in ap (λ b. b && true) ((signed_Decides m n).1 i)

    whole_test : (b : Bool) → (b && true) ≡ true → b ≡ true
    whole_test true s = refl
    whole_test false s = s

    back : (int_eq m n && true) ≡ true → bytes_eq k l ≡ true
    back s = (bytes_eq-Decides k l).1 (sym (prints_its_literal k m h e) ∙ ap signed_decimal ((signed_Decides m n).0 (whole_test (int_eq m n) s)) ∙ prints_its_literal l n g f)

apart : (k : List ℕ) (o : Option ℤ) → false ≡ (option_eq int_eq o None && option_eq bytes_eq (literal_unless o k) None)
apart k None = refl
apart k (Some n) = refl

-- numbers of proper trees
pub numbers_same : (t u : Tree) → type_of t ≡ kind.Number → IsProper t → IsProper u → same t u ≡ (option_eq int_eq (integer_in_tree t) (integer_in_tree u) && option_eq bytes_eq (literal_of t) (literal_of u))
numbers_same null u e h g = absurd (cc)
numbers_same (boolean b) u e h g = absurd (cc)
numbers_same (text s) u e h g = absurd (cc)
numbers_same (list ts) u e h g = absurd (cc)
numbers_same (pairs ps) u e h g = absurd (cc)
numbers_same (num k) null e h g = apart k (integer_in k)
numbers_same (num k) (boolean b) e h g = apart k (integer_in k)
numbers_same (num k) (num l) e h g = literals_same k l h g (integer_in k) (integer_in l) refl refl
numbers_same (num k) (text s) e h g = apart k (integer_in k)
numbers_same (num k) (list us) e h g = apart k (integer_in k)
numbers_same (num k) (pairs qs) e h g = apart k (integer_in k)

with_text : (k : List ℕ) (x : NumberType) → number k → (o : Option ℤ) → integer_in k ≡ o → bytes_eq k (text_of_number x) ≡ option_eq int_eq o (Some (value_of x))
with_text k x h None e = literals_same k (text_of_number x) h (reads x).0 None (Some (value_of x)) e (reads x).1
with_text k x h (Some m) e = literals_same k (text_of_number x) h (reads x).0 (Some m) (Some (value_of x)) e (reads x).1 ∙ all (int_eq m (value_of x))
  where
    all : (b : Bool) → (b && true) ≡ b
    all true = refl
    all false = refl

-- a proper tree and an integer by value
pub integer_same : (t : Tree) (x : NumberType) → IsProper t → same t (num (text_of_number x)) ≡ option_eq int_eq (integer_in_tree t) (Some (value_of x))
integer_same null x h = refl
integer_same (boolean b) x h = refl
integer_same (num k) x h = with_text k x h (integer_in k) refl
integer_same (text s) x h = refl
integer_same (list ts) x h = refl
integer_same (pairs ps) x h = refl
