-- What a key of each type means: a datum, or a refusal.
use Rattle.std.specs.Prelude.{◌≡◌, ◌<◌, ℕ, ℤ, List, Bool, true, false, if◌then◌else◌, codes, bytes_eq, Option, Some, None, pos}
use Rattle.std.proofs.Common.{subst, ap}
use Rattle.std.specs.Cmp.{ranks, int_cmp_is}
use lib.Dec.{lt→ltb}
use lib.Signed.{◌<ℤ◌, lt_z_yes}
use Rattle.std.specs.Option.{option_cmp}
use Rattle.std.specs.Ordering.{nat_cmp, int_cmp, MatchOrdering}
use Rattle.std.specs.declared.cmp.Ordering.{Ordering}
use Rattle.std.specs.declared.cmp.Ordering.TheVariants.{Less, Equal, Greater}
use Rattle.json_model.specs.Datum.{Datum, null_datum, boolean_datum, text_datum, option_datum}
use Rattle.json_number.specs.Integers.{whole_in}
use Rattle.json_number.specs.Tests.{is_number_text}
use Rattle.json_io.specs.declared.error.ErrorCode.TheVariants.{TypeUnmatched, ExpectedNumericKey}
use Rattle.json_data.specs.Reading.{Reading, gives, refuses, in_range, key_cmp}

abbrev pub text_key : List ℕ → Reading
text_key s = gives (text_datum s)

abbrev pub boolean_key : List ℕ → Reading
boolean_key s = if bytes_eq s (codes "true") then gives (boolean_datum true) else (if bytes_eq s (codes "false") then gives (boolean_datum false) else refuses TypeUnmatched)

-- the whole key is a number, and that an integer of the type
abbrev pub integer_key : (ℤ → Bool) → List ℕ → Reading
integer_key fits s = if is_number_text s then in_range fits (whole_in s) else refuses ExpectedNumericKey

-- no key means null
abbrev pub IsNamed : Reading → Type 0
IsNamed (gives null_datum) = ⊥
IsNamed _ = Unit {0}

either_named : (b : Bool) (r s : Reading) → IsNamed r → IsNamed s → IsNamed (if b then r else s)
either_named true r s h k = h
either_named false r s h k = k

in_range_named : (fits : ℤ → Bool) (o : Option ℤ) → IsNamed (in_range fits o)
in_range_named fits None = tt
in_range_named fits (Some n) = either_named (fits n) _ _ tt tt

pub integer_named : (fits : ℤ → Bool) (s : List ℕ) → IsNamed (integer_key fits s)
integer_named fits s = either_named (is_number_text s) _ _ (in_range_named fits (whole_in s)) tt

pub boolean_named : (s : List ℕ) → IsNamed (boolean_key s)
boolean_named s = either_named (bytes_eq s (codes "true")) _ _ tt (either_named (bytes_eq s (codes "false")) _ _ tt tt)

-- no key and then the keys, which are ordered by what they mean
pub option_orders : {K : Type 0} (cmp : K → K → Ordering) (f : K → Datum) (t : List ℕ → Reading) → ((s : List ℕ) → IsNamed (t s))
    → ((a b : K) (s r : List ℕ) → t s ≡ gives (f a) → t r ≡ gives (f b) → cmp a b ≡ key_cmp (f a) (f b))
    → (a b : Option K) (s r : List ℕ) → t s ≡ gives (option_datum f a) → t r ≡ gives (option_datum f b) → option_cmp cmp a b ≡ key_cmp (option_datum f a) (option_datum f b)
option_orders cmp f t n o (Some a) (Some b) s r h k = o a b s r h k
option_orders cmp f t n o None b s r h k = absurd (subst IsNamed h (n s))
option_orders cmp f t n o (Some a) None s r h k = absurd (subst IsNamed k (n r))

-- numbers from 0 on are ordered as integers
pub unsigned_orders : (a b : ℕ) → nat_cmp a b ≡ int_cmp (pos a) (pos b)
unsigned_orders a b = int_cmp_is (pos a) (pos b) (nat_cmp a b) (by (nat_cmp a b) (ranks a b))
  where
    by : (o : Ordering) → MatchOrdering o (a < b) (a ≡ b) (b < a) → MatchOrdering o (pos a <ℤ pos b) (pos a ≡ pos b) (pos b <ℤ pos a)
    by Less h = lt_z_yes {a = pos a} {b = pos b} (lt→ltb a b h)
    by Equal h = ap pos h
    by Greater h = lt_z_yes {a = pos b} {b = pos a} (lt→ltb b a h)
