-- Members of an object, one after another.
use Rattle.std.proofs.Common.{◌≡◌, ◌∙◌, ℕ, List, ap}
use Rattle.json_grammar.specs.Tree.{Tree, Pairs, no_pairs, pair_and}
use Rattle.json_model.specs.Datum.{Datum}
use Rattle.json_io.specs.declared.error.ErrorCode.{ErrorCode}
use Rattle.json_data.specs.Members.{reading_then, members_from}
use Rattle.json_data.specs.Reading.{Reading, gives, refuses}
use Rattle.json_data.proofs.Pairs.{join_pairs}

then_join : (a : Reading) (k l : Datum → Reading) (e : Datum) (x : Reading) → reading_then a k ≡ gives e → ((d : Datum) → k d ≡ gives e → l d ≡ x) → reading_then a l ≡ x
then_join (refuses c) k l e x h i = absurd (cc)
then_join (gives d) k l e x h i = i d h

module _ (step : Datum → List ℕ → Tree → Reading) where
  pub members-join : (ps qs : Pairs) (d e : Datum) → members_from step d ps ≡ gives e → members_from step d (join_pairs ps qs) ≡ members_from step e qs
  members-join no_pairs qs d e h = let i : d ≡ e = cc in ap (λ (x : Datum). members_from step x qs) i
  members-join (pair_and k t ps) qs d e h =
      then_join (step d k t) (λ x. members_from step x ps) (λ x. members_from step x (join_pairs ps qs)) e (members_from step e qs) h (λ x i. members-join ps qs x e i)

  pub members-more : (ps : Pairs) (k : List ℕ) (t : Tree) (d e f : Datum) → members_from step d ps ≡ gives e → step e k t ≡ gives f → members_from step d (join_pairs ps (pair_and k t no_pairs)) ≡ gives f
  members-more ps k t d e f h i = members-join ps (pair_and k t no_pairs) d e h ∙ ap (λ (r : Reading). reading_then r (λ x. gives x)) i

  pub members-stop : (ps qs : Pairs) (k : List ℕ) (t : Tree) (d e : Datum) (c : ErrorCode) → members_from step d ps ≡ gives e → step e k t ≡ refuses c → members_from step d (join_pairs ps (pair_and k t qs)) ≡ refuses c
  members-stop ps qs k t d e c h i = members-join ps (pair_and k t qs) d e h ∙ ap (λ (r : Reading). reading_then r (λ x. members_from step x qs)) i
