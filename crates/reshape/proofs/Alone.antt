-- Words that ask for made input ask for nothing else.
use Rattle.std.proofs.Common.{◌≡◌, ℕ, Bool, true, false, cond, ◌||◌, List, [], ◌∷◌, ◌++◌, Option, Some, None, is_some, drop, refl, sym, ap, ◌∙◌, take-append-drop, bytes_eq, codes}
use Rattle.std.specs.Prelude.{◌==◌}
use Rattle.std.specs.List.{before_first, after_first, position_or_len}
use Rattle.std.proofs.lemmas.Bool.{and_parts}
use Rattle.std.proofs.lemmas.Slice.Eq.{bytes_eq-Decides}
use Rattle.json_command.specs.Options.{number_up_to, depth_in}
use Rattle.reshape.specs.Options.{made_in, indent_in, is_edits_word, is_sorting, is_unique, is_known, Command, Asks, AsksMade}

module _ (w : List ℕ) where
  made_name : (n : ℕ) → made_in w ≡ Some n → before_first (λ x. x == 61) w ≡ codes "--make"
  made_name n = by (bytes_eq (before_first (λ x. x == 61) w) (codes "--make")) (number_up_to 100000 (after_first (λ x. x == 61) w)) (bytes_eq-Decides (before_first (λ x. x == 61) w) (codes "--make")).0
    where
      by : (b : Bool) (o : Option ℕ) → (b ≡ true → before_first (λ x. x == 61) w ≡ codes "--make") → cond b o None ≡ Some n → before_first (λ x. x == 61) w ≡ codes "--make"
      by true o h e = h refl
      by false o h e = cc

  abbrev rest : List ℕ
  rest = drop (position_or_len (λ x. x == 61) w) w

  begins : before_first (λ x. x == 61) w ≡ codes "--make" → w ≡ codes "--make" ++ rest
  begins e = sym (take-append-drop (position_or_len (λ x. x == 61) w) w) ∙ ap (λ l. l ++ rest) e

  none_of : (a b c d e : Bool) → a ≡ false → b ≡ false → c ≡ false → d ≡ false → e ≡ false → (a || (b || (c || (d || e)))) ≡ false
  none_of a b c d e p q r s t = rw (p, q, r, s, t) refl

  made_unknown : (n : ℕ) → made_in w ≡ Some n → is_known w ≡ false
  made_unknown n e =
      let name = made_name n e in
      let whole = begins name in
      none_of (is_edits_word w) (is_some (indent_in w)) (is_sorting w) (is_unique w) (is_some (depth_in w)) (ap is_edits_word whole) (ap (λ v. is_some (indent_in v)) whole) (ap is_sorting whole) (ap is_unique whole)
      (ap (λ v. is_some (cond (bytes_eq v (codes "--depth")) (number_up_to 1024 (after_first (λ x. x == 61) w)) None)) name)

pub apart : (words : List (List ℕ)) (n : ℕ) (c : Command) → AsksMade words n → Asks words c → ⊥
apart [] n c m a = absurd m
apart (w ∷ []) n c m a = differ (sym (made_unknown w n m) ∙ (and_parts (is_known w) true a.known).0)
  where
    differ : false ≡ true → ⊥
    differ e = cc
apart (w ∷ v ∷ ws) n c m a = absurd m

pub one_number : (words : List (List ℕ)) (n m : ℕ) → AsksMade words n → AsksMade words m → m ≡ n
one_number [] n m h k = absurd h
one_number (w ∷ []) n m h k = same (sym k ∙ h)
  where
    same : {x y : ℕ} → Some x ≡ Some y → x ≡ y
    same e = cc
one_number (w ∷ v ∷ ws) n m h k = absurd h
