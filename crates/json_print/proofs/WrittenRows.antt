-- The rows of a sorted object, written into its surroundings.
use Rattle.std.proofs.Common.{◌≡◌, ℕ, List, [], ◌∷◌, ◌++◌, ◌∙◌, refl, sym, ap, arith, Bool, true, false, Option, Some, append_assoc}
use Rattle.json_io.specs.declared.error.Error.{Error}
use Rattle.json_io.specs.Errors.{no_memory}
use Rattle.json_print.specs.Calls.{string_call, begin_key, end_key, begin_member, end_member}
use Rattle.json_print.specs.Layouts.{FormatterModel}
use Rattle.json_print.specs.Printer.{SerializerState, MemberText, row_put, rows_put}
use Rattle.json_print.specs.Rows.{row_bytes, row_next, rows_bytes, rows_next, rows_written}
use Rattle.json_print.specs.Steps.{StopsShort}
use Rattle.json_print.proofs.Stopping.{Begins-refl, rows_begin}
use Rattle.json_print.proofs.Texts.{wrote, twice, nothing}

row_wrote : {F : Type 0} (m : FormatterModel F) (s : SerializerState F) (first : Bool) (r : MemberText) → row_put m s first r ≡ wrote s (row_next m s.formatter first r) (row_bytes m s.formatter first r)
row_wrote {F = F} m s first r =
    let f1 = m.next s.formatter (begin_key first) in
    let f2 = m.next f1 (string_call true r.key) in
    let f3 = m.next f2 end_key in
    let f4 = m.next f3 begin_member in
    let f5 = m.next f4 end_member in
    let p1 = m.piece s.formatter (begin_key first) in
    let p2 = m.piece f1 (string_call true r.key) in
    let p3 = m.piece f2 end_key in
    let p4 = m.piece f3 begin_member in
    let p5 = m.piece f4 end_member in
    let e2 : wrote (wrote s f1 p1) f2 p2 ≡ wrote s f2 (p1 ++ p2) = twice s f1 f2 p1 p2 in
    let e3 : wrote (wrote (wrote s f1 p1) f2 p2) f3 p3 ≡ wrote s f3 ((p1 ++ p2) ++ p3) = ap (λ (x : SerializerState F). wrote x f3 p3) e2 ∙ twice s f2 f3 (p1 ++ p2) p3 in
    let e4 : wrote (wrote (wrote (wrote s f1 p1) f2 p2) f3 p3) f4 p4 ≡ wrote s f4 (((p1 ++ p2) ++ p3) ++ p4) = ap (λ (x : SerializerState F). wrote x f4 p4) e3 ∙ twice s f3 f4 ((p1 ++ p2) ++ p3) p4 in
    let e5 : wrote (wrote (wrote (wrote (wrote s f1 p1) f2 p2) f3 p3) f4 p4) f4 r.text ≡ wrote s f4 ((((p1 ++ p2) ++ p3) ++ p4) ++ r.text) = ap (λ (x : SerializerState F). wrote x f4 r.text) e4 ∙ twice s f4 f4 (((p1 ++ p2) ++ p3) ++ p4) r.text in
    ap (λ (x : SerializerState F). wrote x f5 p5) e5 ∙ twice s f4 f5 ((((p1 ++ p2) ++ p3) ++ p4) ++ r.text) p5 ∙ ap (wrote s f5) (regrouped p1 p2 p3 p4 r.text p5)
  where
    regrouped : (a b c d e f : List ℕ) → (((((a ++ b) ++ c) ++ d) ++ e) ++ f) ≡ (a ++ (b ++ c)) ++ (d ++ (e ++ f))
    regrouped a b c d e f = simp append_assoc

rows_wrote : {F : Type 0} (m : FormatterModel F) (rows : List MemberText) (s : SerializerState F) (first : Bool) → rows_put m s first rows ≡ wrote s (rows_next m s.formatter first rows) (rows_bytes m s.formatter first rows)
rows_wrote m [] s first = sym (nothing s)
rows_wrote {F = F} m (r ∷ rows) s first =
    let g = row_next m s.formatter first r in
    let p = row_bytes m s.formatter first r in
    ap (λ (x : SerializerState F). rows_put m x false rows) (row_wrote m s first r) ∙ rows_wrote m rows (wrote s g p) false ∙ twice s g (rows_next m g false rows) p (rows_bytes m g false rows)

pub put_is_written : {F : Type 0} (m : FormatterModel F) (rows : List MemberText) (s : SerializerState F) → rows_written m s rows ≡ rows_put m s true rows
put_is_written m rows s = sym (rows_wrote m rows s true)

-- no memory before anything was written
pub stopped_before : {F : Type 0} (m : FormatterModel F) (rows : List MemberText) (s : SerializerState F) (failed : Option Error) (e : Error) → failed ≡ Some e → e ≡ no_memory → StopsShort s s (rows_put m s true rows) failed
stopped_before m rows s failed e k n =
    record {
      error = e;
      kept = k;
      stops = rw n (record { had = Begins-refl s.gained; less = rows_begin m rows s true; cause = tt; reported = λ l. absurd (omega (arith, l)); later = omega arith; same_loan = refl });
    }
