use Rattle.std.proofs.Common.{◌∙◌, ap, refl, Ok}
use Rattle.json_explain.proofs.Walking.{no_error, no_end, takes_event, tight_forward}
use Rattle.json_explain.proofs.place.take.Goals as goal

pub returns-in-Err-clause-next : goal.returns-in-Err-clause-next
returns-in-Err-clause-next c = λ limit b t xs ys x w. absurd (no_error c.next.new.self c.in-Err.field-0 c.next.result c.in-Err.is c.next.ensures.err w)

pub returns-in-End-clause-next : goal.returns-in-End-clause-next
returns-in-End-clause-next c = λ limit b t xs ys x w. absurd (no_end c.next.new.self c.next.result (c.in-Ok.is ∙ ap Ok c.in-End.is) c.next.ensures.ok w)

pub returns-in_default : goal.returns-in_default
returns-in_default c = record {
  same = c.next.ensures.same;
  forward = tight_forward _ c.next.new.self c.in-Ok.event c.in_default.not-End c.in-Ok.ensures.tight;
  next = λ limit b t xs ys x w. takes_event c.next.new.self c.in-Ok.event c.next.result _ c.in-Ok.is refl c.next.ensures.same c.next.ensures.ok c.next.ensures.tight w;
}
