-- Values built from what is given.
use Rattle.std.proofs.Common.{◌≡◌, ◌⊎◌, inl, inr, ℕ, ℤ, List, [], ◌∷◌, ◌++◌, Bool, true, false, ◌&&◌, cond, Option, Some, None, option_map, Ok, Err, Result, IsErr, refl, sym, ap, ap₂, ◌∙◌, append_assoc, append-nil}
use Rattle.json_grammar.specs.declared.Kind.TheVariants.{Array as array, Object as object}
use Rattle.json_grammar.specs.Tree.{Tree, null, boolean, num, text, list, pairs, Trees, no_trees, tree_and, Pairs, no_pairs, pair_and, list_trees, trees_list, pairs_list, Token, null_token, end, tokens, trees_tokens, pairs_tokens}
use Rattle.json_io.specs.declared.error.Error.{Error}
use Rattle.json_io.specs.Errors.{no_memory, out_of_range, key_has_no_text}
use Rattle.json_model.specs.Datum.{Datum}
use Rattle.json_model.specs.Datum.{tree_of_datum as datum_tree}
use Rattle.json_model.specs.Merged.{merged, trees_merged, values_merged}
use Rattle.json_model.proofs.Merging.{once_put}
use Rattle.json_print.specs.Data.{parts, before_gap, keys_have_texts}
use Rattle.json_print.specs.Given.{TokenOrInteger, given, given_integer, given_tokens}
use Rattle.json_print.specs.Taking.{after_all, StopsAmong, Takes}
use Rattle.json_print.proofs.Data.{whole_tree}
use Rattle.json_write.specs.Building.{Frame, Work, Build, new_frame, frame_take, work_after, build_after, at_start, is_inside, StopsAs, StopsBuild, first_refusal}
use Rattle.json_write.specs.Writing.{WritesDatumTokens}
use Rattle.json_buffer.proofs.TextLaws.{after_append}
use Rattle.json_write.proofs.Parts.{wrote}
use Rattle.json_write.proofs.Refused.{Refuses, refused_or}

-- an integer that has no room
pub refused_token : {old new : Build} {err err' : Option Error} {r : Result (Unit {0}) Error} {e : Error} (z : ℤ) → (e ≡ out_of_range) × (is_inside z ≡ false) → IsErr r → Takes build_after (StopsAs e) old new err err' (given null_token) r
    → Takes build_after StopsBuild old new err err' (given_integer z) r
refused_token {r = Ok u} z o is h = absurd (cc)
refused_token {r = Err x} z o is h = record { ok = tt; fresh = tt; failed = h.failed; stopped = λ n. inr (h.stopped n ∙ o.0, (z, refl, o.1)); again = h.again }

-- ---- what is built of the tokens of a tree

abbrev work_all : Work → List Token → Work
work_all = after_all work_after

work_append : (w : Work) (a b : List Token) → work_all w (a ++ b) ≡ work_all (work_all w a) b
work_append w a b = after_append work_after w a b

abbrev in_list : List Tree → List Frame → Work
in_list vs fs = record { top = record { kind = array; values = vs; members = []; key = [] }; outer = fs }

abbrev in_rows : List (List ℕ × Tree) → List Frame → Work
in_rows ps fs = record { top = record { kind = object; values = []; members = ps; key = [] }; outer = fs }

abbrev with_tree : Work → Tree → Work
with_tree w t = record w { top = frame_take w.top t }

list_back : (ts : Trees) → list_trees (trees_list ts) ≡ ts
list_back no_trees = refl
list_back (tree_and t ts) = ap (tree_and t) (list_back ts)

mutual
  pub tree_built : (w : Work) (t : Tree) → work_all w (tokens t) ≡ with_tree w (merged t)
  tree_built w null = refl
  tree_built w (boolean b) = refl
  tree_built w (num l) = refl
  tree_built w (text s) = refl
  tree_built w (list ts) =
      work_append (in_list [] (w.top ∷ w.outer)) (trees_tokens ts) (end array ∷ []) ∙ ap (λ x. work_all x (end array ∷ [])) (trees_built [] (w.top ∷ w.outer) ts) ∙ ap (λ us. with_tree w (list us)) (list_back (trees_merged ts))
  tree_built w (pairs ps) =
      work_append (in_rows [] (w.top ∷ w.outer)) (pairs_tokens ps) (end object ∷ []) ∙ ap (λ x. work_all x (end object ∷ [])) (pairs_built [] (w.top ∷ w.outer) ps) ∙ ap (λ qs. with_tree w (pairs qs)) (once_put (values_merged ps))

  trees_built : (vs : List Tree) (fs : List Frame) (ts : Trees) → work_all (in_list vs fs) (trees_tokens ts) ≡ in_list (vs ++ trees_list (trees_merged ts)) fs
  trees_built vs fs no_trees = ap (λ us. in_list us fs) (sym (append-nil vs))
  trees_built vs fs (tree_and t ts) =
      work_append (in_list vs fs) (tokens t) (trees_tokens ts) ∙ ap (λ x. work_all x (trees_tokens ts)) (tree_built (in_list vs fs) t) ∙ trees_built (vs ++ merged t ∷ []) fs ts
      ∙ ap (λ us. in_list us fs) (append_assoc vs (merged t ∷ []) (trees_list (trees_merged ts)))

  pairs_built : (qs : List (List ℕ × Tree)) (fs : List Frame) (ps : Pairs) → work_all (in_rows qs fs) (pairs_tokens ps) ≡ in_rows (qs ++ pairs_list (values_merged ps)) fs
  pairs_built qs fs no_pairs = ap (λ us. in_rows us fs) (sym (append-nil qs))
  pairs_built qs fs (pair_and k t ps) =
      let w : Work = record { top = record { kind = object; values = []; members = qs; key = k }; outer = fs } in
      work_append w (tokens t) (pairs_tokens ps) ∙ ap (λ x. work_all x (pairs_tokens ps)) (tree_built w t) ∙ pairs_built (qs ++ (k, merged t) ∷ []) fs ps
      ∙ ap (λ us. in_rows us fs) (append_assoc qs ((k, merged t) ∷ []) (pairs_list (values_merged ps)))

-- the work does not depend on what may follow, nor on the integers
work_of : (b : Build) (gs : List TokenOrInteger) → (after_all build_after b gs).work ≡ work_all b.work (given_tokens gs)
work_of b [] = refl
work_of b (g ∷ gs) = work_of (build_after b g) gs

-- ---- integers by value

-- each lies inside
abbrev all_inside : List TokenOrInteger → Bool
all_inside [] = true
all_inside (given t ∷ gs) = all_inside gs
all_inside (given_integer n ∷ gs) = is_inside n && all_inside gs

and_assoc : (a b c : Bool) → ((a && b) && c) ≡ (a && (b && c))
and_assoc true b c = refl
and_assoc false b c = refl

and_true : (a : Bool) → (a && true) ≡ a
and_true true = refl
and_true false = refl

fits_all : (b : Build) (gs : List TokenOrInteger) → (after_all build_after b gs).fits ≡ (b.fits && all_inside gs)
fits_all b [] = sym (and_true b.fits)
fits_all b (given t ∷ gs) = fits_all (build_after b (given t)) gs
fits_all b (given_integer n ∷ gs) = fits_all (build_after b (given_integer n)) gs ∙ and_assoc b.fits (is_inside n) (all_inside gs)

-- where the value goes on being built each lay inside
all_fit : (old new : Build) (gs : List TokenOrInteger) → old ≡ at_start → new.fits ≡ true → new ≡ after_all build_after old gs → all_inside gs ≡ true
all_fit old new gs s f w = sym (ap (λ (b : Build). b.fits && all_inside gs) s) ∙ sym (fits_all old gs) ∙ sym (ap (λ (b : Build). b.fits) w) ∙ f

one_refusal : (b : Bool) (o : Option Error) (c : Bool) → (b && c) ≡ true → (c ≡ true → o ≡ None) → cond b o (Some out_of_range) ≡ None
one_refusal true o c h f = f h
one_refusal false o c h f = absurd (cc)

none_refused : (ps : List (Option TokenOrInteger)) → keys_have_texts ps ≡ true → all_inside (before_gap ps) ≡ true → first_refusal ps ≡ None
none_refused [] w h = refl
none_refused (None ∷ ps) w h = absurd (cc)
none_refused (Some (given t) ∷ ps) w h = none_refused ps w h
none_refused (Some (given_integer n) ∷ ps) w h = one_refusal (is_inside n) (first_refusal ps) (all_inside (before_gap ps)) h (none_refused ps w)

key_first : (b : Bool) (o : Option Error) (c : Bool) → (b && c) ≡ true → (c ≡ true → o ≡ Some key_has_no_text) → cond b o (Some out_of_range) ≡ Some key_has_no_text
key_first true o c h f = f h
key_first false o c h f = absurd (cc)

key_is_first : (ps : List (Option TokenOrInteger)) → keys_have_texts ps ≡ false → all_inside (before_gap ps) ≡ true → first_refusal ps ≡ Some key_has_no_text
key_is_first [] w h = absurd (cc)
key_is_first (None ∷ ps) w h = refl
key_is_first (Some (given t) ∷ ps) w h = key_is_first ps w h
key_is_first (Some (given_integer n) ∷ ps) w h = key_first (is_inside n) (first_refusal ps) (all_inside (before_gap ps)) h (key_is_first ps w)

cond_same : {A : Type 0} (b : Bool) (x : A) → cond b x x ≡ x
cond_same true x = refl
cond_same false x = refl

-- an integer that lies outside is before the first such key
outside_is_first : (ps : List (Option TokenOrInteger)) (front back : List TokenOrInteger) (n : ℤ) → before_gap ps ≡ front ++ given_integer n ∷ back → is_inside n ≡ false → first_refusal ps ≡ Some out_of_range
outside_is_first [] [] back n e o = absurd (cc)
outside_is_first [] (g ∷ front) back n e o = absurd (cc)
outside_is_first (None ∷ ps) [] back n e o = absurd (cc)
outside_is_first (None ∷ ps) (g ∷ front) back n e o = absurd (cc)
outside_is_first (Some (given t) ∷ ps) [] back n e o = absurd (cc)
outside_is_first (Some (given t) ∷ ps) (g ∷ front) back n e o = let r : before_gap ps ≡ front ++ given_integer n ∷ back = cc in outside_is_first ps front back n r o
outside_is_first (Some (given_integer m) ∷ ps) [] back n e o =
    let same : m ≡ n = cc in ap (λ (b : Bool). cond b (first_refusal ps) (Some out_of_range)) (ap is_inside same ∙ o)
outside_is_first (Some (given_integer m) ∷ ps) (g ∷ front) back n e o =
    let r : before_gap ps ≡ front ++ given_integer n ∷ back = cc in
    ap (λ (x : Option Error). cond (is_inside m) x (Some out_of_range)) (outside_is_first ps front back n r o) ∙ cond_same (is_inside m) (Some out_of_range)

-- ---- the answers

pub value_built : (d : Datum) (old new : Build) (err failed : Option Error) (u : Unit {0}) (v : Tree) → old ≡ at_start → WritesDatumTokens build_after StopsBuild old new err failed (parts d) (Ok u) → ((t : Tree) → new.work.top ≡ frame_take (new_frame array) t → v ≡ t)
    → option_map merged (datum_tree d) ≡ Some v
value_built d old new err failed u v s h k =
    let w = wrote h in let t = whole_tree d w.whole in
    let built : new.work ≡ with_tree at_start.work (merged t.tree) =
    ap (λ (b : Build). b.work) w.state ∙ work_of old (before_gap (parts d)) ∙ ap₂ (λ (b : Build) ts. work_all b.work ts) s t.spelled ∙ tree_built at_start.work t.tree in
    ap (option_map merged) t.is ∙ ap Some (sym (k (merged t.tree) (ap (λ (x : Work). x.top) built)))

pub value_fits : (d : Datum) (old new : Build) (err failed : Option Error) (u : Unit {0}) → old ≡ at_start → new.fits ≡ true → WritesDatumTokens build_after StopsBuild old new err failed (parts d) (Ok u) → first_refusal (parts d) ≡ None
value_fits d old new err failed u s f h = let w = wrote h in none_refused (parts d) w.whole (all_fit old new (before_gap (parts d)) s f w.state)

stopped_build : (d : Datum) (old new : Build) (e : Error) → StopsAmong build_after StopsBuild old new (before_gap (parts d)) e → (e ≡ no_memory) ⊎ (first_refusal (parts d) ≡ Some e)
stopped_build d old new e s =
    elim s.left [
      | inl m ↦ inl m
      | inr o ↦ inr (outside_is_first (parts d) s.front s.back o.1.0 (s.whole ∙ ap (λ g. s.front ++ g ∷ s.back) o.1.1) o.1.2 ∙ ap Some (sym o.0))
    ]

refused_build : (d : Datum) (old new : Build) (e : Error) → old ≡ at_start → new.fits ≡ true → Refuses build_after old new (parts d) e → first_refusal (parts d) ≡ Some e
refused_build d old new e s f q = key_is_first (parts d) q.gap (all_fit old new (before_gap (parts d)) s f q.state) ∙ ap Some (sym q.is)

pub value_refused : (d : Datum) (old new : Build) (err failed : Option Error) (e : Error) → err ≡ None → old ≡ at_start → new.fits ≡ true → WritesDatumTokens build_after StopsBuild old new err failed (parts d) (Err e)
    → (e ≡ no_memory) ⊎ (first_refusal (parts d) ≡ Some e)
value_refused d old new err failed e n s f h = elim (refused_or n h) [ inl q ↦ inr (refused_build d old new e s f q) | inr t ↦ stopped_build d old new e t ]
