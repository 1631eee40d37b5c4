use Rattle.std.proofs.Common.{◌≢◌, refl, subst, sym}
use Rattle.std.proofs.lemmas.Bool.{not-true, eqb-false, ne_eqb}
use Rattle.json_text.proofs.Tables.{short_ends}
use Rattle.json_text.proofs.escape.is_short.Goals as goal

pub returns : goal.returns
returns c =
    let e = short_ends c.args.byte in let f = c.short_escape.ensures in (
      λ t. e.there (subst (λ n. n ≢ 0) f (eqb-false c.short_escape.result 0 (not-true _ t))),
      λ d. rw (ne_eqb c.short_escape.result 0 (subst (λ n. n ≢ 0) (sym f) (e.back d))) refl,
    )
