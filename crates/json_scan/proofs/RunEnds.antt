-- Where a run of bytes ends, block by block.
use Rattle.std.proofs.Common.{◌≡◌, ℕ, zero, suc, ◌+◌, ◌-◌, ◌<◌, ◌≤◌, List, [], length, get_or, sym, subst, arith, inl, inr}
use Rattle.std.proofs.lemmas.Bool.{cases_lt}
use Rattle.json_grammar.specs.Given.{piece}
use Rattle.json_grammar.proofs.Moves.{piece_none}
use Rattle.json_scan.specs.Runs.{CountedIn, EndsAt, RunEndsAt}

-- the bytes from i up to j are of a class
abbrev pub Each : (ℕ → Type 0) → List ℕ → ℕ → ℕ → Type 0
Each class b i j = (k : ℕ) → i ≤ k → k < j → class (get_or b k 0)

pub each_more : (class : ℕ → Type 0) (b : List ℕ) (i j n c : ℕ) → Each class b i j → CountedIn class b j n c → Each class b i (j + c)
each_more class b i j n c h m k l r = elim (cases_lt k j) [ inl e ↦ h k l e | inr e ↦ m.each k e r ]

-- the run ends within a block
pub ends_within : (class : ℕ → Type 0) (b : List ℕ) (i j n c : ℕ) → i ≤ j → j + n ≤ length b → Each class b i j → CountedIn class b j n c → c < n → EndsAt class b i (j + c)
ends_within class b i j n c l m h d s = record {
  order = omega arith;
  within = omega arith;
  each = each_more class b i j n c h d;
  stop = λ _. d.stop s;
}

-- the run ends after a piece of it
pub ends_after : (class : ℕ → Type 0) (b : List ℕ) (i j e : ℕ) → i ≤ j → Each class b i j → EndsAt class b j e → EndsAt class b i e
ends_after class b i j e l h d = record {
  order = omega (arith, d.order);
  within = d.within;
  each = λ k m r. elim (cases_lt k j) [ inl e ↦ h k m e | inr e ↦ d.each k e r ];
  stop = d.stop;
}

pub each_none : (class : ℕ → Type 0) (b : List ℕ) (i : ℕ) → Each class b i i
each_none class b i k l m = absurd (omega arith)

-- a class of lists that go on by bytes of a class has the piece up to where the run ends
pub run_to : (P : List ℕ → Type 0) (class : ℕ → Type 0) (b : List ℕ) (i n : ℕ) → P []
    → ((j : ℕ) → P (piece b i j) → i ≤ j → j < length b → class (get_or b j 0) → P (piece b i (j + 1)))
    → i + n ≤ length b → Each class b i (i + n) → P (piece b i (i + n))
run_to P class b i zero none more l h = let e : i ≡ i + 0 = omega arith in subst (λ k. P (piece b i k)) e (subst P (sym (piece_none b i)) none)
run_to P class b i (suc n) none more l h =
    let e : i + n + 1 ≡ i + suc n = omega arith in
    subst (λ k. P (piece b i k)) e (more (i + n) (run_to P class b i n none more (omega (arith, l)) (λ k u v. h k u (omega (arith, v)))) (omega arith) (omega (arith, l)) (h (i + n) (omega arith) (omega arith)))

pub run_ends : (P : List ℕ → Type 0) (class : ℕ → Type 0) (b : List ℕ) (i e : ℕ) → P []
    → ((j : ℕ) → P (piece b i j) → i ≤ j → j < length b → class (get_or b j 0) → P (piece b i (j + 1)))
    → EndsAt class b i e → RunEndsAt class P b i e
run_ends P class b i e none more d =
    let is : i + (e - i) ≡ e = omega (arith, d.order) in record {
      order = d.order;
      within = d.within;
      run = subst (λ k. P (piece b i k)) is (run_to P class b i (e - i) none more (omega (arith, d.order, d.within)) (λ k l m. d.each k l (omega (arith, d.order))));
      stop = d.stop;
    }
