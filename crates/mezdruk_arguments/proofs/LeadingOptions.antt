-- How many options come first, read one argument at a time.
use Rattle.std.proofs.Common.{◌≡◌, ℕ, zero, suc, ◌+◌, List, [], ◌∷◌, drop, Bool, true, false, not, cond, ◌&&◌, ◌||◌, Some, slice_get, add-one, ap, ◌∙◌, arith}
use Rattle.std.proofs.lemmas.Option.{same_Some}
use Rattle.mezdruk_arguments.specs.ArgumentOrder.{is_leading_option, awaits_value, leading_options}

dropped : (ws : List (List ℕ)) (i : ℕ) (w : List ℕ) → slice_get ws i ≡ Some w → drop i ws ≡ w ∷ drop (suc i) ws
dropped [] i w e = absurd (cc)
dropped (x ∷ ws) zero w e = ap (λ v. v ∷ ws) (same_Some x w e)
dropped (x ∷ ws) (suc i) w e = dropped ws i w e

-- the arguments from an index on begin with that of the index
pub next_argument : (ws : List (List ℕ)) (i : ℕ) (w : List ℕ) → slice_get ws i ≡ Some w → drop i ws ≡ w ∷ drop (i + 1) ws
next_argument ws i w e = rw add-one (dropped ws i w e)

-- an option, or the value of the one before it
pub option_passed : (ws : List (List ℕ)) (i : ℕ) (w : List ℕ) (is_value : Bool) → slice_get ws i ≡ Some w → (is_value || is_leading_option w) ≡ true
    → leading_options false ws ≡ i + leading_options is_value (drop i ws) → leading_options false ws ≡ i + 1 + leading_options (not is_value && awaits_value w) (drop (i + 1) ws)
option_passed ws i w is_value e o h =
    let more = leading_options (not is_value && awaits_value w) (drop (i + 1) ws) in
    let here : leading_options is_value (drop i ws) ≡ suc more = ap (leading_options is_value) (next_argument ws i w e) ∙ ap (λ b. cond b (suc more) 0) o in
    omega (arith, h, here)

-- the command
pub command_found : (ws : List (List ℕ)) (i : ℕ) (w : List ℕ) (is_value : Bool) → slice_get ws i ≡ Some w → (is_value || is_leading_option w) ≡ false
    → leading_options false ws ≡ i + leading_options is_value (drop i ws) → i ≡ leading_options false ws
command_found ws i w is_value e n h =
    let more = leading_options (not is_value && awaits_value w) (drop (i + 1) ws) in
    let here : leading_options is_value (drop i ws) ≡ 0 = ap (leading_options is_value) (next_argument ws i w e) ∙ ap (λ b. cond b (suc more) 0) n in
    omega (arith, h, here)
