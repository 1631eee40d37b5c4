-- What is put among the members of an object, and what is taken out of them.
use Rattle.std.proofs.Common.{◌≡◌, cond, ℕ, zero, suc, ◌<◌, List, [], ◌∷◌, length, get_or, map, take, Some, None, not, false, arith, refl, sym, ap, ◌∙◌}
use Rattle.std.specs.Prelude.{slice_get, option_map}
use Rattle.std.proofs.lemmas.Option.{slice_get_read}
use Rattle.json_grammar.specs.Tree.{list_pairs}
use Rattle.json_model.specs.Edit.{has_key}
use Rattle.json_value.specs.Denotes.{pair_of, text_bytes}
use Rattle.json_value.specs.FirstMember.{IsFirstOf}
use Rattle.json_value.specs.Seen.{first_of}
use Rattle.json_value.specs.Written.{value_in}
use Rattle.json_value.specs.declared.pair.Keyed.{Keyed}
use Rattle.json_value.specs.declared.value.Value.{Value}
use Rattle.json_value.proofs.TreeEdits.{split_front, same_key}
use Rattle.json_value.specs.Touched.{unkeyed}
use Rattle.json_containers.specs.Members.{key_at}
use Rattle.json_containers.specs.Put.{named_value, value_under}
use Rattle.json_containers.proofs.Keys.{key_first, first_within}

abbrev its_value : List ℕ × Value → Value
its_value p = p.1

under_here : (k : List ℕ) (ms : List (Keyed Value)) (i : ℕ) → i < length ms → key_at ms i ≡ k → has_key k (list_pairs (take i (map pair_of ms))) ≡ false → option_map value_in (slice_get ms i) ≡ value_under k ms
under_here k [] i low here before = absurd (omega (arith, low))
under_here k (m ∷ ms) zero low here before = sym (ap (λ b. option_map its_value (cond b (Some (named_value m)) (first_of k (map named_value ms)))) (same_key (text_bytes m.key) k here))
under_here k (m ∷ ms) (suc i) low here before =
    let parts = split_front k (text_bytes m.key) (list_pairs (take i (map pair_of ms))) before in
    under_here k ms i (omega (arith, low)) here parts.1 ∙ sym (ap (λ b. option_map its_value (cond b (Some (named_value m)) (first_of k (map named_value ms)))) parts.0)

-- the first value of the key is that of the first member of the key
pub value_there : (k : List ℕ) (ms : List (Keyed Value)) (i : ℕ) → IsFirstOf k (map pair_of ms) i → option_map value_in (slice_get ms i) ≡ value_under k ms
value_there k ms i first = under_here k ms i (first_within k ms i first) (key_first k ms i first) first.before

pub value_got : (k : List ℕ) (ms : List (Keyed Value)) (i : ℕ) (m : Keyed Value) → m ≡ get_or ms i m → IsFirstOf k (map pair_of ms) i → Some (value_in m) ≡ value_under k ms
value_got k ms i m read first = sym (ap (option_map value_in) (slice_get_read ms (length ms) i m refl (first_within k ms i first) read)) ∙ value_there k ms i first

pub no_value : (k : List ℕ) (ms : List (Keyed Value)) → has_key k (list_pairs (map pair_of ms)) ≡ false → None ≡ value_under k ms
no_value k [] none = refl
no_value k (m ∷ ms) none =
    let parts = split_front k (text_bytes m.key) (list_pairs (map pair_of ms)) none in
    no_value k ms parts.1 ∙ sym (ap (λ b. option_map its_value (cond b (Some (named_value m)) (first_of k (map named_value ms)))) parts.0)

-- where no member has the key, all are left without it
pub all_unkeyed : (k : List ℕ) (ms : List (Keyed Value)) → has_key k (list_pairs (map pair_of ms)) ≡ false → ms ≡ unkeyed k ms
all_unkeyed k [] none = refl
all_unkeyed k (m ∷ ms) none =
    let parts = split_front k (text_bytes m.key) (list_pairs (map pair_of ms)) none in
    ap (λ (ns : List (Keyed Value)). m ∷ ns) (all_unkeyed k ms parts.1) ∙ sym (ap (λ b. cond (not b) (m ∷ unkeyed k ms) (unkeyed k ms)) parts.0)
