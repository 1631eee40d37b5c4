-- Arguments that are appended one at a time, and the arguments with one moved first.
use Rattle.std.proofs.Common.{◌≡◌, ◌≤◌, ℕ, ◌+◌, List, [], ◌∷◌, ◌++◌, length, take, drop, Some, slice_get, sym, ap, ◌∙◌, append_assoc, arith}
use Rattle.std.proofs.lemmas.List.{take_all, drop-append-le, length-take-le}
use Rattle.std.proofs.lemmas.Option.{slice_get_within}
use Rattle.mezdruk_arguments.specs.ArgumentOrder.{moved_first}
use Rattle.mezdruk_arguments.proofs.CommandLines.{word_added}
use Rattle.mezdruk_arguments.proofs.LeadingOptions.{next_argument}

pub one_appended : (done ws : List (List ℕ)) (begin i : ℕ) (w : List ℕ) → slice_get ws i ≡ Some w → begin ≤ i
    → done ++ drop begin (take i ws) ++ w ∷ [] ≡ done ++ drop begin (take (i + 1) ws)
one_appended done ws begin i w e l =
    let size : length (take i ws) ≡ i = length-take-le i ws (let few = slice_get_within ws i w e in omega arith) in
    append_assoc done (drop begin (take i ws)) (w ∷ []) ∙ ap (λ (x : List (List ℕ)). done ++ x) (sym (drop-append-le begin (take i ws) (w ∷ []) (omega arith)) ∙ ap (drop begin) (word_added ws i w e))

pub one_moved : (ws : List (List ℕ)) (i n : ℕ) (w : List ℕ) → slice_get ws i ≡ Some w → n ≡ length ws
    → (w ∷ []) ++ take i ws ++ drop (i + 1) (take n ws) ≡ moved_first i ws
one_moved ws i n w e l =
    ap (λ (first : List (List ℕ)). first ++ take i ws ++ drop (i + 1) (take n ws)) (sym (ap (take 1) (next_argument ws i w e)))
    ∙ ap (λ (all : List (List ℕ)). take 1 (drop i ws) ++ take i ws ++ drop (i + 1) all) (take_all n ws (omega arith))
