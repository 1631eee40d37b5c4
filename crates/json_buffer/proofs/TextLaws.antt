-- What is written of the tokens of a tree.
use Rattle.std.proofs.Common.{◌≡◌, ℕ, suc, List, [], ◌∷◌, ◌++◌, None, refl, sym, ap, ◌∙◌, append_assoc, append-nil}
use Rattle.json_grammar.specs.declared.Kind.{Kind}
use Rattle.json_grammar.specs.declared.Kind.TheVariants.{Array as array, Object as object}
use Rattle.json_grammar.specs.Tree.{Tree, null, boolean, num, text, list, pairs, Trees, no_trees, tree_and, Pairs, no_pairs, pair_and, Token, end, tokens, trees_tokens, pairs_tokens}
use Rattle.json_model.specs.Print.{shown, trees_shown, more_trees_shown, pairs_shown, more_pairs_shown, quoted}
use Rattle.json_print.specs.Given.{TokenOrInteger, given_tokens}
use Rattle.json_print.specs.Taking.{after_all}
use Rattle.json_buffer.specs.declared.lead.Lead.{Lead}
use Rattle.json_buffer.specs.declared.lead.Lead.TheVariants.{Nothing, Comma, Colon}
use Rattle.json_buffer.specs.TextState.{TextState, token_put, given_put, scalar_put}

pub after_append : {S T : Type 0} (after : S → T → S) (s : S) (a b : List T) → after_all after s (a ++ b) ≡ after_all after (after_all after s a) b
after_append after s [] b = refl
after_append after s (x ∷ a) b = after_append after (after s x) a b

abbrev at : List ℕ → Lead → List Kind → TextState
at b l o = record { bytes = b; lead = l; opened = o }

abbrev all : TextState → List Token → TextState
all s ts = after_all token_put s ts

-- other bytes that are the same
same_bytes : (b c : List ℕ) (l : Lead) (o : List Kind) → b ≡ c → at b l o ≡ at c l o
same_bytes b c l o e = ap (λ x. at x l o) e

-- the bytes of a list or an object after its bracket
closed : (b s m : List ℕ) (x : ℕ) → ((b ++ s) ++ m) ++ x ∷ [] ≡ b ++ ((s ++ (m ++ [])) ++ x ∷ [])
closed b s m x = simp (append_assoc, append-nil)

more_bytes : (b s m : List ℕ) → (b ++ 44 ∷ s) ++ m ≡ b ++ 44 ∷ (s ++ m)
more_bytes b s m = append_assoc b (44 ∷ s) m

pair_closed : (b k s m : List ℕ) (x : ℕ) → (((b ++ k) ++ 58 ∷ s) ++ m) ++ x ∷ [] ≡ b ++ ((k ++ (58 ∷ (s ++ (m ++ [])))) ++ x ∷ [])
pair_closed b k s m x = simp (append_assoc, append-nil)

more_pair_bytes : (b k s m : List ℕ) → ((b ++ 44 ∷ k) ++ 58 ∷ s) ++ m ≡ b ++ 44 ∷ (k ++ (58 ∷ (s ++ m)))
more_pair_bytes b k s m = simp append_assoc

begun : (b l : List ℕ) (x : ℕ) (p : List ℕ) → (b ++ (l ++ x ∷ [])) ++ p ≡ b ++ (l ++ x ∷ p)
begun b l x p = simp append_assoc

mutual
  pub tree_put : (d : ℕ) (t : Tree) (s : TextState) → all s (tokens t) ≡ scalar_put s (shown None d t)
  tree_put d null s = refl
  tree_put d (boolean b) s = refl
  tree_put d (num l) s = refl
  tree_put d (text x) s = refl
  tree_put d (list ts) s = list_put d ts _ s.opened ∙ same_bytes _ _ Comma s.opened (begun s.bytes _ 91 _)
  tree_put d (pairs ps) s = object_put d ps _ s.opened ∙ same_bytes _ _ Comma s.opened (begun s.bytes _ 123 _)

  list_put : (d : ℕ) (ts : Trees) (b : List ℕ) (o : List Kind) → all (at b Nothing (array ∷ o)) (trees_tokens ts ++ end array ∷ []) ≡ at (b ++ (trees_shown None d ts ++ 93 ∷ [])) Comma o
  list_put d no_trees b o = refl
  list_put d (tree_and t ts) b o =
      let s = shown None (suc d) t in let m = more_trees_shown None (suc d) ts in
      after_append token_put (at b Nothing (array ∷ o)) (tokens t ++ trees_tokens ts) (end array ∷ [])
      ∙ ap (λ x. all x (end array ∷ [])) (after_append token_put (at b Nothing (array ∷ o)) (tokens t) (trees_tokens ts) ∙ ap (λ x. all x (trees_tokens ts)) (tree_put (suc d) t (at b Nothing (array ∷ o))) ∙ more_put (suc d) ts (b ++ s) (array ∷ o))
      ∙ same_bytes _ _ Comma o (closed b s m 93)

  more_put : (d : ℕ) (ts : Trees) (b : List ℕ) (o : List Kind) → all (at b Comma o) (trees_tokens ts) ≡ at (b ++ more_trees_shown None d ts) Comma o
  more_put d no_trees b o = same_bytes _ _ Comma o (sym (append-nil b))
  more_put d (tree_and t ts) b o =
      let s = shown None d t in
      after_append token_put (at b Comma o) (tokens t) (trees_tokens ts) ∙ ap (λ x. all x (trees_tokens ts)) (tree_put d t (at b Comma o)) ∙ more_put d ts (b ++ 44 ∷ s) o
      ∙ same_bytes _ _ Comma o (more_bytes b s (more_trees_shown None d ts))

  object_put : (d : ℕ) (ps : Pairs) (b : List ℕ) (o : List Kind) → all (at b Nothing (object ∷ o)) (pairs_tokens ps ++ end object ∷ []) ≡ at (b ++ (pairs_shown None d ps ++ 125 ∷ [])) Comma o
  object_put d no_pairs b o = refl
  object_put d (pair_and k t ps) b o =
      let s = shown None (suc d) t in let m = more_pairs_shown None (suc d) ps in
      let keyed = at (b ++ quoted k) Colon (object ∷ o) in
      after_append token_put keyed (tokens t ++ pairs_tokens ps) (end object ∷ [])
      ∙ ap (λ x. all x (end object ∷ [])) (after_append token_put keyed (tokens t) (pairs_tokens ps) ∙ ap (λ x. all x (pairs_tokens ps)) (tree_put (suc d) t keyed) ∙ more_pairs_put (suc d) ps ((b ++ quoted k) ++ 58 ∷ s) (object ∷ o))
      ∙ same_bytes _ _ Comma o (pair_closed b (quoted k) s m 125)

  more_pairs_put : (d : ℕ) (ps : Pairs) (b : List ℕ) (o : List Kind) → all (at b Comma o) (pairs_tokens ps) ≡ at (b ++ more_pairs_shown None d ps) Comma o
  more_pairs_put d no_pairs b o = same_bytes _ _ Comma o (sym (append-nil b))
  more_pairs_put d (pair_and k t ps) b o =
      let s = shown None d t in let keyed = at (b ++ 44 ∷ quoted k) Colon o in
      after_append token_put keyed (tokens t) (pairs_tokens ps) ∙ ap (λ x. all x (pairs_tokens ps)) (tree_put d t keyed) ∙ more_pairs_put d ps ((b ++ 44 ∷ quoted k) ++ 58 ∷ s) o
      ∙ same_bytes _ _ Comma o (more_pair_bytes b (quoted k) s (more_pairs_shown None d ps))

-- what is given, by its tokens
pub given_all : (s : TextState) (gs : List TokenOrInteger) → after_all given_put s gs ≡ all s (given_tokens gs)
given_all s [] = refl
given_all s (g ∷ gs) = given_all (given_put s g) gs
