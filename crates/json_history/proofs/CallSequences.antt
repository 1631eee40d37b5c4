-- Several calls, one after another.
use Rattle.std.proofs.Common.{◌≡◌, ℕ, suc, ◌+◌, List, [], ◌∷◌, ◌++◌, length, map, Result, Ok, Err, refl, sym, ap, ◌∙◌, subst, arith}
use Rattle.std.proofs.lemmas.List.{map-append, append_assoc, length-append, length-map}
use Rattle.json_grammar.specs.Tree.{Tree}
use Rattle.json_io.specs.declared.error.Error.{Error}
use Rattle.json_io.specs.declared.error.ErrorCode.{ErrorCode}
use Rattle.json_io.specs.declared.error.ErrorCode.TheVariants.{NoMemory, NotFound, TypeUnmatched}
use Rattle.json_io.specs.declared.error.Place.{Place}
use Rattle.json_io.specs.declared.error.Place.TheVariants.{None as nowhere}
use Rattle.json_model.specs.Edit.{Changed, EditRefusal, not_found, type_unmatched, edited_once, and_then}
use Rattle.json_value.specs.Edits.{RefusesChange}
use Rattle.json_history.specs.Calls.{call_of, CallsFail, MakesFirstCalls, NamesCall, numbered_place}
use Rattle.json_history.specs.History.{TreeHistory, TreeCall, edit, undo, redo, after_edit, after_call, run_calls_from, run_call, ChangeLog, history_of}
use Rattle.json_history.specs.declared.call.Call.{Call}

-- ---- several calls

pub run_calls_step : (n : ℕ) (h g : TreeHistory) (c : TreeCall) (cs : List TreeCall) → run_call h c ≡ Ok g → run_calls_from n h (c ∷ cs) ≡ run_calls_from (suc n) g cs
run_calls_step n h g (edit e) cs so = by (edited_once e h.now) so
  where
    by : (r : Changed Tree) → and_then r (λ u. Ok (after_edit h (Ok u))) ≡ Ok g
        → elim r as (λ _. Result TreeHistory (ℕ × EditRefusal)) [ Ok u ↦ run_calls_from (suc n) (after_edit h (Ok u)) cs | Err d ↦ Err (n, d) ] ≡ run_calls_from (suc n) g cs
    by (Ok u) s = let same : after_edit h (Ok u) ≡ g = cc in ap (λ f. run_calls_from (suc n) f cs) same
    by (Err d) s = absurd (cc)
run_calls_step n h g undo cs so = let same : (after_call h undo) ≡ g = cc in ap (λ f. run_calls_from (suc n) f cs) same
run_calls_step n h g redo cs so = let same : (after_call h redo) ≡ g = cc in ap (λ f. run_calls_from (suc n) f cs) same

run_calls_err : (n : ℕ) (h : TreeHistory) (c : TreeCall) (cs : List TreeCall) (d : EditRefusal) → run_call h c ≡ Err d → run_calls_from n h (c ∷ cs) ≡ Err (n, d)
run_calls_err n h (edit e) cs d so = by (edited_once e h.now) so
  where
    by : (r : Changed Tree) → and_then r (λ u. Ok (after_edit h (Ok u))) ≡ Err d
        → elim r as (λ _. Result TreeHistory (ℕ × EditRefusal)) [ Ok u ↦ run_calls_from (suc n) (after_edit h (Ok u)) cs | Err d ↦ Err (n, d) ] ≡ Err (n, d)
    by (Ok u) s = absurd (cc)
    by (Err x) s = let same : x ≡ d = cc in ap (λ y. Err (n, y)) same
run_calls_err n h undo cs d so = absurd (cc)
run_calls_err n h redo cs d so = absurd (cc)

-- the error of a call, with its number, is that of all calls
pub numbered_call_fails : (n : ℕ) (h g : TreeHistory) (c : TreeCall) (cs all : List TreeCall) (e f : Error) → run_calls_from n h (c ∷ cs) ≡ run_calls_from 0 g all
    → RefusesChange (run_call h c) e.code e.place → f.code ≡ e.code → f.place ≡ numbered_place e.code e.place n → CallsFail g all f.code f.place
numbered_call_fails n h g c cs all e f same refuses code place = by e.code e.place f.code f.place refuses code place
  where
    by : (a : ErrorCode) (p : Place) (b : ErrorCode) (q : Place) → RefusesChange (run_call h c) a p → b ≡ a → q ≡ numbered_place a p n → CallsFail g all b q
    by a p b q r i j = rw (i, j) (at_once a p r)
      where
        at_once : (a : ErrorCode) (p : Place) → RefusesChange (run_call h c) a p → CallsFail g all a (numbered_place a p n)
        at_once NoMemory nowhere r = tt
        at_once NotFound nowhere r = sym same ∙ run_calls_err n h c cs not_found r
        at_once TypeUnmatched nowhere r = sym same ∙ run_calls_err n h c cs type_unmatched r
        at_once a p r = absurd r

-- ---- the calls that were made before the one that failed

no_calls : (x : ℕ × EditRefusal) (g : TreeHistory) → ◌≡◌ {A = Result TreeHistory (ℕ × EditRefusal)} (Err x) (Ok g) → ⊥
no_calls x g e = cc

-- after calls that all apply, the calls that follow
run_calls_after : (n : ℕ) (h g : TreeHistory) (cs ds : List TreeCall) → run_calls_from n h cs ≡ Ok g → run_calls_from n h (cs ++ ds) ≡ run_calls_from (n + length cs) g ds
run_calls_after n h g [] ds so =
    let same : h ≡ g = cc in
    let count : n ≡ n + 0 = omega arith in
    ap (λ k. run_calls_from n k ds) same ∙ ap (λ m. run_calls_from m g ds) count
run_calls_after n h g (c ∷ cs) ds so = by (run_call h c) refl (λ k later. run_calls_after (suc n) k g cs ds later)
  where
    by : (r : Changed TreeHistory) → run_call h c ≡ r → ((k : TreeHistory) → run_calls_from (suc n) k cs ≡ Ok g → run_calls_from (suc n) k (cs ++ ds) ≡ run_calls_from (suc n + length cs) g ds) → run_calls_from n h ((c ∷ cs) ++ ds) ≡ run_calls_from (n + length (c ∷ cs)) g ds
    by (Ok k) e again =
        let later : run_calls_from (suc n) k cs ≡ Ok g = sym (run_calls_step n h k c cs e) ∙ so in
        let count : suc n + length cs ≡ n + length (c ∷ cs) = omega arith in
        run_calls_step n h k c (cs ++ ds) e ∙ again k later ∙ ap (λ m. run_calls_from m g ds) count
    by (Err d) e again = absurd (no_calls (n, d) g (sym (run_calls_err n h c cs d e) ∙ so))

-- one call more
pub made_one_more : (h g k : TreeHistory) (cs : List Call) (c : Call) → run_calls_from 0 h (map call_of cs) ≡ Ok g → run_call g (call_of c) ≡ Ok k → run_calls_from 0 h (map call_of (cs ++ c ∷ [])) ≡ Ok k
made_one_more h g k cs c made so =
    ap (run_calls_from 0 h) (map-append call_of cs (c ∷ [])) ∙ run_calls_after 0 h g (map call_of cs) (call_of c ∷ []) made ∙ run_calls_step (0 + length (map call_of cs)) g k (call_of c) [] so

-- the error of a call names it
call_is_named : (r : Changed TreeHistory) (a : ErrorCode) (p q : Place) (n : ℕ) → RefusesChange r a p → q ≡ numbered_place a p n → NamesCall q n
call_is_named r NoMemory nowhere q n refuses e = rw e tt
call_is_named r NotFound nowhere q n refuses e = rw e refl
call_is_named r TypeUnmatched nowhere q n refuses e = rw e refl
call_is_named r a p q n refuses e = absurd refuses

-- what is left after one call more
pub parts_one_more : (all ys here rest : List Call) (c : Call) → all ≡ ys ++ here → here ≡ c ∷ rest → all ≡ (ys ++ c ∷ []) ++ rest
parts_one_more all ys here rest c e f = e ∙ ap (λ xs. ys ++ xs) f ∙ sym (append_assoc ys (c ∷ []) rest)

pub count_one_more : (n : ℕ) (ys : List Call) (c : Call) → n ≡ length ys → n + 1 ≡ length (ys ++ c ∷ [])
count_one_more n ys c e = omega (arith, e, length-append ys (c ∷ []))

pub done_one_more : (n : ℕ) (h g f : TreeHistory) (c : Call) (here rest all : List Call) → here ≡ c ∷ rest → run_call h (call_of c) ≡ Ok g → run_calls_from n h (map call_of here) ≡ run_calls_from 0 f (map call_of all)
    → run_calls_from (n + 1) g (map call_of rest) ≡ run_calls_from 0 f (map call_of all)
done_one_more n h g f c here rest all step so same =
    let next : n + 1 ≡ suc n = omega arith in
    ap (λ m. run_calls_from m g (map call_of rest)) next ∙ sym (run_calls_step n h g (call_of c) (map call_of rest) so) ∙ ap (λ xs. run_calls_from n h (map call_of xs)) (sym step) ∙ same

-- the calls before the one that failed were made, and left what that one kept
pub made_first : (h : TreeHistory) (k l : ChangeLog) (all ys here rest : List Call) (c : Call) (n : ℕ) (e f : Error) → all ≡ ys ++ here → here ≡ c ∷ rest
    → run_calls_from 0 h (map call_of ys) ≡ Ok (history_of k) → l ≡ k → n ≡ length ys → RefusesChange (run_call (history_of k) (call_of c)) e.code e.place → f.place ≡ numbered_place e.code e.place n
    → MakesFirstCalls h (history_of l) (map call_of all) f.place
made_first h k l all ys here rest c n e f parts step made kept count refuses place =
    record {
      made = map call_of ys;
      next = call_of c;
      others = map call_of rest;
      all = ap (map call_of) (parts ∙ ap (λ xs. ys ++ xs) step) ∙ map-append call_of ys (c ∷ rest);
      left = made ∙ ap (λ m. Ok (history_of m)) (sym kept);
      named = subst (NamesCall f.place) (count ∙ sym (length-map ys call_of)) (call_is_named (run_call (history_of k) (call_of c)) e.code e.place f.place n refuses place);
    }
