-- What is read of a tree at once, and its tokens.
use Rattle.std.proofs.Common.{◌≡◌, ◌∙◌, ℕ, ℤ, List, [], ◌∷◌, Option, Some, None, refl, sym, ap}
use Rattle.json_grammar.specs.Tree.{Tree, null, boolean, num, text, list, pairs, Token as Tok, num_token, tokens}
use Rattle.json_number.specs.Integers.{integer_in}
use Rattle.json_doc.specs.Readings.{literal_of, literal_unless}

-- a literal is that of a number which is no integer by value
pub literal_num : (t : Tree) (s : List ℕ) → Some s ≡ literal_of t → (t ≡ num s) × (integer_in s ≡ None)
literal_num null s f = absurd (cc)
literal_num (boolean v) s f = absurd (cc)
literal_num (num l) s f = by (integer_in l) refl f
  where
    by : (o : Option ℤ) → integer_in l ≡ o → Some s ≡ literal_unless o l → (num l ≡ num s) × (integer_in s ≡ None)
    by None i f = let e : s ≡ l = cc in (ap num (sym e), ap integer_in e ∙ i)
    by (Some n) i f = absurd (cc)
literal_num (text v) s f = absurd (cc)
literal_num (list ts) s f = absurd (cc)
literal_num (pairs ps) s f = absurd (cc)

pub one_number : (t : Tree) (x : Tok) (l : List ℕ) → tokens t ≡ x ∷ [] → t ≡ num l → x ≡ num_token l
one_number t x l e f = let g : tokens t ≡ num_token l ∷ [] = ap tokens f in cc
