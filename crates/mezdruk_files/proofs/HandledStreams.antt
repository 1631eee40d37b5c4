-- What is done with the values of a document, one after another.
use Rattle.std.proofs.Common.{◌≡◌, ◌⊎◌, inl, inr, ℕ, ◌+◌, ◌-◌, ◌≤◌, Bool, true, false, List, [], ◌∷◌, ◌++◌, length, take, drop, get_or, ◌<◌, length-drop, arith, None, Some, Ok, Err, refl, sym, ap, ap₂, ◌∙◌, subst, append-nil, append_assoc, IsUtf8}
use Rattle.std.proofs.lemmas.List.{take_rest, get_or-drop}
use Rattle.json_grammar.specs.Given.{piece}
use Rattle.json_grammar.specs.Grammar.{IsWhitespace, ws}
use Rattle.json_grammar.specs.Tree.{Tree}
use Rattle.json_io.specs.Errors.{no_memory}
use Rattle.json_text.specs.Faults.{ValueFaultFrom}
use Rattle.json_io.specs.Outside.{SinkState}
use Rattle.json_io.specs.declared.error.Error.{Error}
use Rattle.json_command.specs.Input.{max_bytes}
use Rattle.json_command.specs.Printing.{Prints}
use Rattle.std.specs.Prelude.{Result, OnOk, IfErr}
use Rattle.mezdruk_files.specs.declared.change_error.ChangeError.{ChangeError}
use Rattle.mezdruk_files.specs.declared.document_error.DocumentError.TheVariants.{Input, Change}
use Rattle.mezdruk_files.specs.declared.run.DocumentTally.{DocumentTally}
use Rattle.mezdruk_files.specs.Outcomes.{Task, PartOutcome, Printed, Refused, PartsHave}
use Rattle.mezdruk_files.specs.Parts.{DocumentPart, whole_part, value_part}
use Rattle.mezdruk_files.specs.Running.{PrintsTree, PrintingStops, ReportsError, ReportingFails, Handles, StopsRunning}
use Rattle.mezdruk_files.specs.Streams.{ReadsAt, StreamHas, ends, stops, fails, more, ValuePlace, ValueHas, ValuesHave, OutcomeIsNoText, TextFault}
use Rattle.mezdruk_files.specs.Writing.{WritingFails, SendsBlock}
use Rattle.mezdruk_files.proofs.Blocks.{some_same, HandlesHeld, held_none, held_then, held_stops, held_sent, held_unsent, held_done, held_fails}
use Rattle.mezdruk_files.proofs.FirstLines.{ws_at}
use Rattle.mezdruk_files.proofs.Handled.{stops_none, handles_line, handles_error, Handles-as, StopsRunning-as}
use Rattle.mezdruk_files.proofs.TextWriting.{muted_nil}

-- ---- one value

module _ (task : Task) (p : ValuePlace) where
  -- its line was written
  pub value_printed : (tree : Tree) (j : ℕ) (t : DocumentTally) (s u e : SinkState) → ReadsAt p.text p.offset tree j → PrintsTree task tree s u None → Handles (ValueHas task p (Some j)) t t s u e e
  value_printed tree j t s u e reads (changed, applied, writes) =
      handles_line (ValueHas task p (Some j)) t s u e (task.line changed) (tree, Printed (task.line changed), reads, (changed, applied, refl), refl) writes

  -- the change did not apply
  pub value_refused : (tree : Tree) (j : ℕ) (error : ChangeError) (part : DocumentPart) (t v : DocumentTally) (s u e f : SinkState) → part ≡ value_part p.name p.text p.number → ReadsAt p.text p.offset tree j → PrintsTree task tree s u (Some error) → ReportsError part (Change error) t v e f
      → Handles (ValueHas task p (Some j)) t v s u e f
  value_refused tree j error part t v s u e f is reads (fails_so, same) h =
      let k : ReportsError (value_part p.name p.text p.number) (Change error) t v e f = subst (λ (x : DocumentPart). ReportsError x (Change error) t v e f) is h in
      handles_error (ValueHas task p (Some j)) (value_part p.name p.text p.number) (Change error) t v s u e f k (tree, Refused (Change error) k.report, reads, (fails_so, k.is_report), refl) same

  -- no value can be read
  pub fault_reported : (error : Error) (part : DocumentPart) (t v : DocumentTally) (s e f : SinkState) → part ≡ whole_part p.name p.text → ValueFaultFrom false 254 p.offset p.text error.code error.place → ReportsError part (Input error) t v e f → Handles (ValueHas task p None) t v s s e f
  fault_reported error part t v s e f is fault h =
      let k : ReportsError (whole_part p.name p.text) (Input error) t v e f = subst (λ (x : DocumentPart). ReportsError x (Input error) t v e f) is h in
      handles_error (ValueHas task p None) (whole_part p.name p.text) (Input error) t v s s e f k (error, k.report, fault, k.is_report, refl) refl

  abbrev First : List PartOutcome → Type 0
  First os = StreamHas task p.name p.text false p.offset p.number os

  -- memory ran out, and nothing was written
  pub value_none : (t v : DocumentTally) (s u e f : SinkState) (error : Error) → error ≡ no_memory → u ≡ s → v ≡ t → f ≡ e → StopsRunning (StreamHas task p.name p.text false p.offset p.number) t v s u e f error
  value_none t v s u e f error only same kept silent = stops_none First t v s u e f error (stops refl) only same kept silent

  -- its line was not written
  pub value_stops : (tree : Tree) (j : ℕ) (t : DocumentTally) (s u e : SinkState) (error : Error) → ReadsAt p.text p.offset tree j → PrintingStops task tree s u error → StopsRunning (StreamHas task p.name p.text false p.offset p.number) t t s u e e error
  value_stops tree j t s u e error reads (inl (only, same)) = value_none t t s u e e error only same refl refl
  value_stops tree j t s u e error reads (inr (changed, applied, writes)) =
      record {
        outcomes = Printed (task.line changed) ∷ [];
        have = more j tree (Printed (task.line changed)) [] reads (changed, applied, refl) (stops refl);
        output = subst (λ l. WritingFails s u l error.code error.place) (sym (append-nil (task.line changed))) writes.err;
        reports = muted_nil t.muted e;
      }

-- ---- one value after another

-- with any outcomes of the values that are left, the outcomes so far are outcomes of all values
abbrev pub ValuesLeft : Task → List ℕ → List ℕ → ℕ → ℕ → List PartOutcome → Type 0
ValuesLeft task name b i n os = (whole : Bool) (ps : List PartOutcome) → StreamHas task name b whole i n ps → StreamHas task name b whole 0 0 (os ++ ps)

module _ (task : Task) (name b : List ℕ) where
  pub values_none : ValuesLeft task name b 0 0 []
  values_none whole ps h = h

  pub values_more : (i n j : ℕ) (os qs : List PartOutcome) → ValuesLeft task name b i n os → ValueHas task (record { name = name; text = b; offset = i; number = n }) (Some j) qs → ValuesLeft task name b j (n + 1) (os ++ qs)
  values_more i n j os qs left (tree, outcome, reads, has, is) whole ps k =
      subst (StreamHas task name b whole 0 0) (sym (append_assoc os qs ps)) (left whole (qs ++ ps) (subst (λ xs. StreamHas task name b whole i n (xs ++ ps)) (sym is) (more j tree outcome ps reads has k)))

  pub values_fail : (i n : ℕ) → ¬ (ws (drop i b)) → (os qs : List PartOutcome) → ValuesLeft task name b i n os → ValueHas task (record { name = name; text = b; offset = i; number = n }) None qs → StreamHas task name b true 0 0 (os ++ qs)
  values_fail i n some os qs left (error, report, fault, is_report, is) = left true qs (subst (StreamHas task name b true i n) (sym is) (fails error report some fault is_report))

  pub values_stop : (i n : ℕ) (os qs : List PartOutcome) → ValuesLeft task name b i n os → StreamHas task name b false i n qs → StreamHas task name b false 0 0 (os ++ qs)
  values_stop i n os qs left h = left false qs h

  pub values_now : (i n : ℕ) (os : List PartOutcome) → ValuesLeft task name b i n os → StreamHas task name b false 0 0 os
  values_now i n os left = subst (StreamHas task name b false 0 0) (append-nil os) (left false [] (stops refl))

  pub values_weaker : (i n : ℕ) (os : List PartOutcome) → StreamHas task name b true i n os → StreamHas task name b false i n os
  values_weaker i n os (ends space) = ends space
  values_weaker i n os (stops first) = stops refl
  values_weaker i n os (fails e report some fault is) = fails e report some fault is
  values_weaker i n os (more j tree outcome later reads has rest) = more j tree outcome later reads has (values_weaker j (n + 1) later rest)

  pub values_all : (i n : ℕ) → ws (drop i b) → (os : List PartOutcome) → ValuesLeft task name b i n os → StreamHas task name b true 0 0 os
  values_all i n space os left = subst (StreamHas task name b true 0 0) (append-nil os) (left true [] (ends space))

-- ---- the bytes of a document

module _ (task : Task) (name b : List ℕ) (t v : DocumentTally) (s u e f : SinkState) where
  pub handles_values : (x : List ℕ) → x ≡ b → length b ≤ max_bytes → IsUtf8 b → Handles (StreamHas task name x true 0 0) t v s u e f → Handles (ValuesHave true task name b) t v s u e f
  handles_values x is few utf8 h = Handles-as (StreamHas task name x true 0 0) (ValuesHave true task name b) t v s u e f h (λ os k. inl (few, utf8, subst (λ y. StreamHas task name y true 0 0 os) is k))

  pub values_stops : (x : List ℕ) → x ≡ b → length b ≤ max_bytes → IsUtf8 b → (error : Error) → StopsRunning (StreamHas task name x false 0 0) t v s u e f error → StopsRunning (ValuesHave false task name b) t v s u e f error
  values_stops x is few utf8 error h = StopsRunning-as (StreamHas task name x false 0 0) (ValuesHave false task name b) t v s u e f error h (λ os k. inl (few, utf8, subst (λ y. StreamHas task name y false 0 0 os) is k))

module _ (task : Task) (name b : List ℕ) (t v : DocumentTally) (s e f : SinkState) where
  pub handles_no_text : (error : Error) (part : DocumentPart) → part ≡ whole_part name b → TextFault b error.code error.place → ReportsError part (Input error) t v e f → Handles (ValuesHave true task name b) t v s s e f
  handles_no_text error part is fault h =
      let k : ReportsError (whole_part name b) (Input error) t v e f = subst (λ (x : DocumentPart). ReportsError x (Input error) t v e f) is h in
      handles_error (ValuesHave true task name b) (whole_part name b) (Input error) t v s s e f k (inr ((fault, k.is_report), tt)) refl

  pub no_text_stops : (error : Error) → ReportingFails t v e f error → StopsRunning (ValuesHave false task name b) t v s s e f error
  no_text_stops error k = stops_none (ValuesHave false task name b) t v s s e f error (inr refl) k.only refl k.kept k.silent

-- only whitespace is left
pub space_left : (b x : List ℕ) (i k : ℕ) → x ≡ b → length b ≤ k → k ≤ length x → ws (piece x i k) → ws (drop i b)
space_left b x i k is low high space =
    let whole : k ≡ length b = omega (arith, low, high, ap length is) in
    subst ws (ap₂ (λ n y. take (n - i) (drop i y)) whole is ∙ take_rest b i) space

-- something else is left
pub more_left : (b x : List ℕ) (i k : ℕ) → x ≡ b → i ≤ k → k < length b → (k < length x → ¬ (IsWhitespace (get_or x k 0))) → ¬ (ws (drop i b))
more_left b x i k is order low stop space =
    let within : k < length x = omega (arith, low, ap length is) in
    let at : i + (k - i) ≡ k = omega (arith, order) in
    let in_rest : k - i < length (drop i b) = omega (arith, low, order, length-drop i b) in
    let here : IsWhitespace (get_or (drop i b) (k - i) 0) = ws_at (drop i b) (k - i) space in_rest in
    let there : get_or (drop i b) (k - i) 0 ≡ get_or x k 0 = get_or-drop i b (k - i) 0 ∙ ap (λ n. get_or b n 0) at ∙ ap (λ y. get_or y k 0) (sym is) in
    stop within (subst IsWhitespace there here)

-- ---- values that are written in blocks

-- the values so far were handled, and the block has what is not written yet
pub record StreamSoFar (task : Task) (name b : List ℕ) (i n : ℕ) (t u : DocumentTally) (s s' block e e' : SinkState) : Type 0 where
  pub printed : List ℕ
  pub has : block.gained ≡ Some printed
  pub held : HandlesHeld (ValuesLeft task name b i n) t u s s' printed e e'

module _ (task : Task) (name b : List ℕ) (t : DocumentTally) (s e : SinkState) where
  pub stream_none : (block : SinkState) → block.gained ≡ Some [] → StreamSoFar task name b 0 0 t t s s block e e
  stream_none block has = record { printed = []; has = has; held = held_none (ValuesLeft task name b 0 0) t s e (values_none task name b) }

  module _ (i n : ℕ) (u v : DocumentTally) (s' s'' block block' e' e'' : SinkState) (printed : List ℕ) (so_far : StreamSoFar task name b i n t u s s' block e e') (has : block'.gained ≡ Some printed) where
    -- one value more
    held_next : (j : ℕ) → Handles (ValueHas task (record { name = name; text = b; offset = i; number = n }) (Some j)) u v block block' e' e'' → HandlesHeld (ValuesLeft task name b j (n + 1)) t v s s' printed e e''
    held_next j h =
        held_then (ValuesLeft task name b i n) t u s s' e e' so_far.printed so_far.held (ValueHas task (record { name = name; text = b; offset = i; number = n }) (Some j)) (ValuesLeft task name b j (n + 1)) v block block' e'' so_far.has (values_more task name b i n j) printed has h

    pub stream_next : (j : ℕ) (left : SinkState) → Handles (ValueHas task (record { name = name; text = b; offset = i; number = n }) (Some j)) u v block block' e' e'' → SendsBlock s' s'' block' left → StreamSoFar task name b j (n + 1) t v s s'' left e e''
    stream_next j left h (inl (same, kept)) =
        subst (λ (x : SinkState). StreamSoFar task name b j (n + 1) t v s x left e e'') (sym same)
        (subst (λ (x : SinkState). StreamSoFar task name b j (n + 1) t v s s' x e e'') (sym kept) (record { printed = printed; has = has; held = held_next j h }))
    stream_next j left h (inr (text, is, prints, none, calm)) =
        record {
          printed = [];
          has = none;
          held = held_sent (ValuesLeft task name b j (n + 1)) t v s s' e e'' printed (held_next j h) s'' (subst (λ x. Prints s' s'' x (Ok tt)) (some_same text printed (sym is ∙ has)) prints);
        }

    -- the block was not written
    pub stream_unsent : (j : ℕ) (text : List ℕ) (error : Error) → Handles (ValueHas task (record { name = name; text = b; offset = i; number = n }) (Some j)) u v block block' e' e'' → block'.gained ≡ Some text → Prints s' s'' text (Err error)
        → StopsRunning (StreamHas task name b false 0 0) t v s s'' e e'' error
    stream_unsent j text error h is prints =
        held_unsent (ValuesLeft task name b j (n + 1)) t v s s' e e'' printed (held_next j h) (StreamHas task name b false 0 0) s'' error (values_now task name b j (n + 1))
        (subst (λ x. Prints s' s'' x (Err error)) (some_same text printed (sym is ∙ has)) prints)

    -- memory ran out
    pub stream_stops : (error : Error) → block'.faults ≡ 0 → StopsRunning (StreamHas task name b false i n) u v block block' e' e'' error → StopsRunning (StreamHas task name b false 0 0) t v s s' e e'' error
    stream_stops error calm h =
        held_stops (ValuesLeft task name b i n) t u s s' e e' so_far.printed so_far.held (StreamHas task name b false i n) (StreamHas task name b false 0 0) v block block' e'' so_far.has (values_stop task name b i n) error calm h

    -- no value can be read
    held_last : ¬ (ws (drop i b)) → Handles (ValueHas task (record { name = name; text = b; offset = i; number = n }) None) u v block block' e' e'' → HandlesHeld (StreamHas task name b true 0 0) t v s s' printed e e''
    held_last some h =
        held_then (ValuesLeft task name b i n) t u s s' e e' so_far.printed so_far.held (ValueHas task (record { name = name; text = b; offset = i; number = n }) None) (StreamHas task name b true 0 0) v block block' e'' so_far.has (values_fail task name b i n some) printed has h

    pub stream_fails : (r : Result (Unit {0}) Error) → ¬ (ws (drop i b)) → Handles (ValueHas task (record { name = name; text = b; offset = i; number = n }) None) u v block block' e' e'' → Prints s' s'' printed r → OnOk r (Handles (StreamHas task name b true 0 0) t v s s'' e e'')
    stream_fails r some h prints = held_done (StreamHas task name b true 0 0) t v s s' e e'' printed (held_last some h) (StreamHas task name b true 0 0) s'' r (λ os k. k) prints

    pub stream_fails_unsent : (r : Result (Unit {0}) Error) → ¬ (ws (drop i b)) → Handles (ValueHas task (record { name = name; text = b; offset = i; number = n }) None) u v block block' e' e'' → Prints s' s'' printed r → IfErr r (StopsRunning (StreamHas task name b false 0 0) t v s s'' e e'')
    stream_fails_unsent r some h prints = held_fails (StreamHas task name b true 0 0) t v s s' e e'' printed (held_last some h) (StreamHas task name b false 0 0) s'' r (values_weaker task name b 0 0) prints

  module _ (i n : ℕ) (u : DocumentTally) (s' s'' block e' : SinkState) (printed : List ℕ) (so_far : StreamSoFar task name b i n t u s s' block e e') (has : block.gained ≡ Some printed) (space : ws (drop i b)) where
    last_text : (r : Result (Unit {0}) Error) → Prints s' s'' printed r → Prints s' s'' so_far.printed r
    last_text r prints = subst (λ x. Prints s' s'' x r) (some_same printed so_far.printed (sym has ∙ so_far.has)) prints

    pub stream_ends : (r : Result (Unit {0}) Error) → Prints s' s'' printed r → OnOk r (Handles (StreamHas task name b true 0 0) t u s s'' e e')
    stream_ends r prints = held_done (ValuesLeft task name b i n) t u s s' e e' so_far.printed so_far.held (StreamHas task name b true 0 0) s'' r (values_all task name b i n space) (last_text r prints)

    pub stream_ends_unsent : (r : Result (Unit {0}) Error) → Prints s' s'' printed r → IfErr r (StopsRunning (StreamHas task name b false 0 0) t u s s'' e e')
    stream_ends_unsent r prints =
        held_fails (ValuesLeft task name b i n) t u s s' e e' so_far.printed so_far.held (StreamHas task name b false 0 0) s'' r (λ os k. values_weaker task name b 0 0 os (values_all task name b i n space os k)) (last_text r prints)
