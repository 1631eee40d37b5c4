use Rattle.std.proofs.Common.{◌≡◌, ℕ, ◌+◌, ◌-◌, ◌<◌, ◌≤◌, ◌^◌, length, ap, sym, ◌∙◌, subst, arith, rules}
use Rattle.json_text.specs.Repaired.{RepairedText, last_shown, origin_of}
use Rattle.json_text.proofs.Origins.{origin_past}
use Rattle.json_text.proofs.repaired.Repaired.origin.Goals as goal

pub overflow_add-result : goal.overflow_add-result
overflow_add-result c =
    let k = c.args.offset in
    let within = subst (λ (v : RepairedText). (k : ℕ) → k ≤ length v.text → origin_of v k < 2 ^ 64) c.self.view_is c.self.invariant.within in
    let bound : origin_of c.args.self.now k < 2 ^ 64 = within k c.requires in
    let past : origin_of c.args.self.now k ≡ c.in-Some.run'.end + (k - c.in-Some.run'.shown - 3) =
    origin_past c.args.self.now.runs c.in-Some.run' k (sym (c.in-Some.ensures.last ∙ ap (λ l. last_shown l k) (c.deref.ensures.value ∙ ap (λ (v : RepairedText). v.runs) c.self.view_is))) c.if-past-lt-REPLACEMENT_LEN.false in
    let fits : c.in-Some.run'.end + (k - c.in-Some.run'.shown - 3) < 2 ^ 64 = omega arith in
    search rules
