-- What a serializer has written.
use Rattle.std.proofs.Common.{◌≡◌, ◌∙◌, sym, ap, subst, refl, false, arith}
use Rattle.json_model.specs.Print.{shown}
use Rattle.json_io.specs.declared.error.Error.{Error}
use Rattle.json_io.specs.Known.{append_known}
use Rattle.json_io.specs.Outside.{SinkState}
use Rattle.json_print.specs.Layouts.{FormatterModel}
use Rattle.json_layout.specs.TextWriting.{Begins, StopCause}
use Rattle.json_print.specs.Printer.{SerializerState, Stops, start}
use Rattle.json_layout.specs.Shown.{shown_as}
use Rattle.json_print.specs.Written.{StopsWriter, Written}
use Rattle.json_print.proofs.Asked.{as_asked, asked}
use Rattle.json_print.proofs.UnchangedFaults.{all_calm}
use Rattle.json_print.proofs.Prefixes.{whole_law, prefix_law, stopped_law}
use Rattle.json_print.proofs.Stopping.{Calm}

-- after calm steps an error was met
stops_writer : {F : Type 0} (old mid s aim : SerializerState F) (w new : SinkState) (e : Error) → old.faults ≡ w.faults → old.loan ≡ w.loan → new.faults ≡ s.faults → new.loan ≡ s.loan → Calm old mid → Stops mid s aim e → StopsWriter w new e
stops_writer old mid s aim w new e f l nf nl c h =
    let from : mid.faults ≡ w.faults = c.0 ∙ f in
    record {
      cause = subst (λ n. StopCause w.faults n e.code e.place) (sym nf) (subst (λ n. StopCause n s.faults e.code e.place) from h.cause);
      reported = λ k. h.reported (omega (arith, from, nf, k));
      same_loan = nl ∙ h.same_loan ∙ c.1 ∙ l;
    }

pub written : {F : Type 0} (m : FormatterModel F) (s : SerializerState F) (new : SinkState) → s.deep ≡ false → new.gained ≡ s.gained → new.faults ≡ s.faults → new.loan ≡ s.loan → Written m s new
written {F = F} m s new d g nf nl =
    record {
      whole = λ f sorts w i t h e. g ∙ ap (λ (x : SerializerState F). x.gained) e ∙ whole_law m f sorts w i h t (sym (ap (λ (x : SerializerState F). x.deep) e) ∙ d) ∙ ap (λ x. append_known w.gained (shown i 0 x)) (asked sorts t);
      prefix = λ f sorts w i t ts more h k e. subst (λ y. Begins y (append_known w.gained (shown_as i sorts t))) (sym g) (subst (λ x. Begins s.gained (append_known w.gained (shown i 0 x))) (asked sorts t)
          (subst (λ (x : SerializerState F). Begins x.gained (append_known w.gained (shown i 0 (as_asked sorts t)))) (sym e) (prefix_law m f sorts w i h t ts more (sym (ap (λ (x : SerializerState F). x.deep) e) ∙ d) k)));
      stopped = λ f sorts w i t ts more x err h k e. subst (λ y. Begins y (append_known w.gained (shown_as i sorts t))) (sym g) (subst (λ y. Begins s.gained (append_known w.gained (shown i 0 y))) (asked sorts t) (stopped_law m f sorts w i h t ts more x s err k e));
      calm = λ f sorts w ts e. let c = all_calm m ts (start f sorts w) in (nf ∙ ap (λ (x : SerializerState F). x.faults) e ∙ c.0, nl ∙ ap (λ (x : SerializerState F). x.loan) e ∙ c.1);
      caused = λ f sorts w ts x err e. stops_writer (start f sorts w) _ s _ w new err refl refl nf nl (all_calm m ts (start f sorts w)) e.1;
    }
