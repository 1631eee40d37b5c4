use Rattle.std.proofs.Common.{◌≡◌, ◌∙◌, ℕ, pos, List, [], ◌∷◌, ◌++◌, sym, ap, subst}
use Rattle.std.proofs.lemmas.List.{map-append}
use Rattle.json_model.specs.Datum.{Datum, integer_datum}
use Rattle.test_samples.specs.Damage.{numbers, read_damage_number, beginning}
use Rattle.json_stream.specs.Streams.{InputState, StreamState, TakesValues, none, more}
use Rattle.test_samples.proofs.damage.numbers_up_to_damage.Goals as goal

pub values-init : goal.values-init
values-init c =
    let b = beginning c.args.text.now in
    let e = c.into_stream-stream.ensures in (
      subst (TakesValues read_damage_number b (numbers c.new-found.result.items)) (sym (ap (λ (s : StreamState). s.input) e ∙ c.from_str.ensures))
          (subst (λ (ns : List ℕ). TakesValues read_damage_number b (numbers ns) b) (sym c.new-found.ensures.items) none),
      ap (λ (s : StreamState). s.ended) e,
    )

pub values-preserved : goal.values-preserved
values-preserved c =
    let b = beginning c.args.text.now in
    let h = rw c.in-Some-Ok.field-0-is at c.in-Some-Ok.ensures.ok in
    let n = c.in-Some-Ok.number in
    let s = c.next.new.self.input in (
      subst (λ (ns : List ℕ). TakesValues read_damage_number b (numbers ns) s) (sym c.in_ok-push-in-Some-Ok.ensures.items)
          (subst (λ (ds : List Datum). TakesValues read_damage_number b ds s) (sym (map-append (λ (k : ℕ). integer_datum (pos k)) c.values.found.items (n ∷ []))) (more c.values.invariant.0 h.0)),
      h.1,
    )
