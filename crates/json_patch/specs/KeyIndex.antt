-- Where the search for a key among the members of an object may begin.
use Rattle.std.specs.Prelude.{ℕ, suc, ◌-◌, ◌/◌, ◌^◌, ◌≤◌, List, [], ◌∷◌, length, bit_and, slice_index}
use Rattle.std.specs.Hash.FoldHasher as folding
use Rattle.json_patch.specs.declared.key_index.KeyIndex.{KeyIndex}
use Rattle.json_value.specs.Denotes.{text_bytes}
use Rattle.json_value.specs.declared.pair.Keyed.{Keyed}
use Rattle.json_value.specs.declared.value.Value.{Value}

unfoldable pub key_hash : List ℕ → ℕ
key_hash k = folding.finish (folding.write folding.initial k)

-- the two slots of a key, of n slots
abbrev pub first_slot : List ℕ → ℕ → ℕ
first_slot k slots = bit_and (key_hash k) (slots - 1)

abbrev pub second_slot : List ℕ → ℕ → ℕ
second_slot k slots = bit_and (key_hash k / 2 ^ 32) (slots - 1)

-- no slot of the key holds more than n
pub record StartsAtMost (starts : List ℕ) (k : List ℕ) (n : ℕ) : Type 0 where
  pub first : slice_index starts (first_slot k (length starts)) ≤ n
  pub second : slice_index starts (second_slot k (length starts)) ≤ n

-- no slot of a member's key holds more than the member's position, counted from n
abbrev pub AreStarts : List ℕ → ℕ → List (Keyed Value) → Type 0
AreStarts starts n [] = Unit {0}
AreStarts starts n (p ∷ ps) = StartsAtMost starts (text_bytes p.key) n × AreStarts starts (suc n) ps

-- by the index no member is before the start of its key
abbrev pub HasStarts : KeyIndex → List (Keyed Value) → Type 0
HasStarts index ps = AreStarts index.starts.items index.removed ps
