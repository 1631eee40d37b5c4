-- What one more argument adds to those that were read.
use Rattle.std.specs.Prelude.{⊤}
use Rattle.std.proofs.Common.{◌≡◌, ℕ, suc, List, [], ◌∷◌, ◌++◌, length, map, Bool, true, false, not, cond, ◌&&◌, ◌||◌, ◌==◌, Option, Some, None, is_some, option_map, slice_get, refl, sym, ap, subst, ◌∙◌, Bor, Result, Ok, Err, OnOk, IfOk, IfErr, bytes_eq, codes}
use Rattle.std.specs.List.{list_any}
use Rattle.std.proofs.lemmas.List.{map-append}
use Rattle.mezdruk_arguments.specs.declared.verb.Verb.{Verb}
use Rattle.mezdruk_arguments.specs.declared.operand.OperandKind.{OperandKind}
use Rattle.mezdruk_arguments.specs.Arguments.{verb_in, setting_in, takes, source_in, is_option_argument, operands_of}
use Rattle.mezdruk_arguments.specs.declared.line.ArgumentRole.TheVariants as role
use Rattle.mezdruk_arguments.specs.declared.setting.Setting.{Setting}
use Rattle.json_grammar.specs.Tree.{Tree}
use Rattle.json_value.specs.declared.value.Value.{Value}
use Rattle.json_value.specs.Denotes.{tree_of}
use Rattle.mezdruk_arguments.specs.Operands.{SpellsOperand}
use Rattle.mezdruk_arguments.specs.declared.line.ArgumentLine.{ArgumentLine}
use Rattle.mezdruk_arguments.specs.declared.line.ArgumentRole.{ArgumentRole}
use Rattle.mezdruk_arguments.specs.CommandLine.{ParsedArguments, operands_asked, missing_operand, command_role, operand_role, argument_role, role_in, add_argument, with_argument, MayTake, MayFollow}
use Rattle.mezdruk_arguments.specs.Line.{SpellAll, HoldsAsked, TakesArgument}

-- as many words as trees
texts_length : (os : List (OperandKind × List ℕ)) (ts : List Tree) → SpellAll os ts → length ts ≡ length os
texts_length [] [] h = refl
texts_length (o ∷ os) (t ∷ ts) h = ap suc (texts_length os ts h.1)
texts_length [] (t ∷ ts) h = absurd h
texts_length (o ∷ os) [] h = absurd h

texts_more : (os : List (OperandKind × List ℕ)) (ts : List Tree) (k : OperandKind) (w : List ℕ) (t : Tree) → SpellAll os ts → SpellsOperand k w t → SpellAll (os ++ (k, w) ∷ []) (ts ++ t ∷ [])
texts_more [] [] k w t h s = (s, tt)
texts_more (o ∷ os) (u ∷ ts) k w t h s = (h.0, texts_more os ts k w t h.1 s)
texts_more [] (u ∷ ts) k w t h s = absurd h
texts_more (o ∷ os) [] k w t h s = absurd h

length-trees : (vs : List Value) → length (map tree_of vs) ≡ length vs
length-trees [] = refl
length-trees (v ∷ vs) = ap suc (length-trees vs)

-- as many words as values
pub words_length : (os : List (OperandKind × List ℕ)) (vs : List Value) → SpellAll os (map tree_of vs) → length vs ≡ length os
words_length os vs h = sym (length-trees vs) ∙ texts_length os (map tree_of vs) h

-- one more operand
pub words_more : (os : List (OperandKind × List ℕ)) (vs : List Value) (k : OperandKind) (w : List ℕ) (v : Value) → SpellAll os (map tree_of vs) → SpellsOperand k w (tree_of v) → SpellAll (os ++ (k, w) ∷ []) (map tree_of (vs ++ v ∷ []))
words_more os vs k w v h p = rw (map-append tree_of vs (v ∷ [])) (texts_more os (map tree_of vs) k w (tree_of v) h p)

-- the next operand
pub missing_is : (o : Option (Bor (List ℕ))) (source : Option (List ℕ)) (p p' : Option Verb) (v : Verb) (n m : ℕ) → o ≡ None → option_map (λ f. f.now) o ≡ source → p ≡ Some v → p ≡ p' → n ≡ m
    → slice_get (operands_of v) n ≡ cond (is_some source) None (slice_get (elim p' as (λ (x : Option Verb). List OperandKind) [ Some v ↦ operands_of v | None ↦ [] ]) m)
missing_is None None (Some u) (Some u') v n m e f g h l = let k : v ≡ u' = cc in rw (k, l) refl
missing_is None (Some x) p p' v n m e f g h l = absurd (cc)
missing_is (Some x) source p p' v n m e f g h l = absurd (cc)
missing_is None None None p' v n m e f g h l = absurd (cc)
missing_is None None (Some u) None v n m e f g h l = absurd (cc)

-- the words of files
pub any_words : (p : List ℕ → Bool) (fs : List (Bor (List ℕ))) → list_any (λ f. p f.now) fs ≡ list_any p (map (λ f. f.now) fs)
any_words p [] = refl
any_words p (f ∷ fs) = ap (λ b. p f.now || b) (any_words p fs)

length-words : (fs : List (Bor (List ℕ))) → length (map (λ f. f.now) fs) ≡ length fs
length-words [] = refl
length-words (f ∷ fs) = ap suc (length-words fs)

pub files_length : (fs : List (Bor (List ℕ))) (ws : List (List ℕ)) → map (λ f. f.now) fs ≡ ws → length fs ≡ length ws
files_length fs ws e = sym (length-words fs) ∙ ap length e

-- an argument that was taken by its role, or was not
pub followed : (line : ArgumentLine) (s : ParsedArguments) (w : List ℕ) (r : ArgumentRole) → r ≡ role_in s w → TakesArgument line s w r → MayFollow s w × HoldsAsked line (with_argument s w)
followed line s w r e t = (subst (MayTake s w) e t.may, subst (λ q. HoldsAsked line (add_argument s w q)) e t.holds)

pub on_ok_then : {A E : Type 0} {P Q : Type 0} (r : Result A E) → (P → Q) → OnOk r P → OnOk r Q
on_ok_then (Ok x) f p = f p
on_ok_then (Err e) f p = p

pub if_ok_then : {A E : Type 0} {P Q : A → Type 0} (r : Result A E) → ((x : A) → P x → Q x) → IfOk r P → IfOk r Q
if_ok_then (Ok x) f p = f x p
if_ok_then (Err e) f p = p

pub if_err_then : {A E : Type 0} {P Q : E → Type 0} (r : Result A E) → ((e : E) → P e → Q e) → IfErr r P → IfErr r Q
if_err_then (Ok x) f p = p
if_err_then (Err e) f p = f e p

-- two lists without elements, the second of which is looked at where the first has none
pub both_empty : (n n' m m' : ℕ) (a b : Bool) → a ≡ (n == 0) → a ≡ true → b ≡ (m == 0) → n ≡ n' → m ≡ m' → b ≡ (n' == 0 && m' == 0)
both_empty n n' m m' a b first empty second e f =
    let k : (n' == 0) ≡ true = ap (λ i. i == 0) (sym e) ∙ sym first ∙ empty in
    rw k (second ∙ ap (λ i. i == 0) f)
