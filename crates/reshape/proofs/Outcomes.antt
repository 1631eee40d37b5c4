-- What the words and the known bytes lead to.
use Rattle.std.proofs.Common.{◌≡◌, ◌⊎◌, inl, inr, ℕ, ◌≤◌, List, [], ◌∷◌, Result, Ok, Err, OnOk, IfErr, refl, sym, subst, ap, ◌∙◌}
use Rattle.json_model.specs.Edit.{Edit, EditRefusal, not_found, type_unmatched}
use Rattle.json_grammar.specs.Rules.{Rules}
use Rattle.json_io.specs.declared.error.Error.{Error}
use Rattle.json_io.specs.declared.error.ErrorCode.{ErrorCode}
use Rattle.json_io.specs.declared.error.ErrorCode.TheVariants.{NoMemory, Io, NotFound, TypeUnmatched, BadWords}
use Rattle.json_io.specs.declared.error.Place.{Place}
use Rattle.json_io.specs.declared.error.Place.TheVariants.{None as nowhere, Writing}
use Rattle.json_io.specs.Errors.{no_memory, bad_words}
use Rattle.json_io.specs.Outside.{SourceState, SinkState}
use Rattle.json_io.specs.FaultText.{text_of}
use Rattle.json_command.specs.Input.{InputFault}
use Rattle.reshape.specs.Options.{Command, Asks, AsksMade, IsAsked, IsMaking}
use Rattle.reshape.specs.Asked.{asked_command, AsksFor}
use Rattle.reshape.specs.Made.{GainsSummary, SummaryFails}
use Rattle.reshape.specs.declared.edits.Edits.{Edits}
use Rattle.reshape.specs.declared.asked_style.AskedStyle.{AskedStyle}
use Rattle.reshape.specs.declared.command.Asked.{Asked}
use Rattle.reshape.specs.declared.command.Asked.TheVariants.{Reshape, Made}
use Rattle.reshape.specs.Reshape.{TextLayout, RunsOut, Reshapes, ReshapingRefuses}
use Rattle.json_command.specs.Statuses.{status_of}
use Rattle.json_command.specs.Reporting.{Reports}
use Rattle.reshape.specs.Run.{WithCommand, RunRefuses, WritesRequested, Fails, IsGood, IsBad, IsUnfit}
use Rattle.reshape.specs.Known.{edit_refused}
use Rattle.json_command.proofs.Inputs.{no_want, no_io, no_words, no_not_found, no_type_unmatched}
use Rattle.json_command.specs.Printing.{PrintingFails}
use Rattle.reshape.proofs.Wording.{one_asked}
use Rattle.reshape.proofs.Alone.{apart}
use Rattle.reshape.proofs.Numerals.{made_few}
use Rattle.reshape.proofs.KnownEdits.{fit_refused, fault_refused, fault_not_done, unfit_refused, unfit_not_done}

-- what holds of the command that the words ask for holds of each that they ask for
so_of : (words : List (List ℕ)) (c : Command) (P : Command → Type 0) → Asks words c → WithCommand words P → P c
so_of words c P asked h = subst P (one_asked words h.command c h.asked asked) h.so

-- why it was refused, of the command that the words ask for
run_cause : (words : List (List ℕ)) (c : Command) (source source' : SourceState) (sink sink' : SinkState) (code : ErrorCode) (place : Place) → Asks words c → RunRefuses words source source' sink sink' code place
    → ReshapingRefuses c.rules c.es c.layout source source' sink sink' code place
run_cause words c source source' sink sink' NoMemory nowhere asked (inl same) = inl same
run_cause words c source source' sink sink' NoMemory nowhere asked (inr h) = inr (so_of words c (λ c. RunsOut c.rules c.es c.layout source source' sink sink') asked h)
run_cause words c source source' sink sink' BadWords nowhere asked h = absurd (h.0 (inl (c, asked)))
run_cause words c source source' sink sink' code place asked h = so_of words c (λ c. ReshapingRefuses c.rules c.es c.layout source source' sink sink' code place) asked h

-- the same of all that the words may ask for
cause_of : (words : List (List ℕ)) (c : Command) (source source' : SourceState) (sink sink' : SinkState) (code : ErrorCode) (place : Place) → Asks words c → Fails words source source' sink sink' code place
    → ReshapingRefuses c.rules c.es c.layout source source' sink sink' code place
cause_of words c source source' sink sink' code place asked (inl h) = run_cause words c source source' sink sink' code place asked h
cause_of words c source source' sink sink' code place asked (inr m) = absurd (apart words m.number c m.asked asked)

abbrev error : ErrorCode → Place → Error
error code place = record { code = code; place = place }

-- valid input is not refused, where nothing fails and memory suffices
pub good_status : (words : List (List ℕ)) (source source' : SourceState) (sink sink' : SinkState) (code : ErrorCode) (place : Place) → Fails words source source' sink sink' code place
    → IsGood words source source' sink sink' → (status_of code place ≡ 0) ⊎ (status_of code place ≡ 6)
good_status words source source' sink sink' code place cause good =
    let c = good.command in
    inr (ap (λ e. status_of e.code e.place) (fit_refused c.rules c.es c.layout source source' sink sink' code place (cause_of words c source source' sink sink' code place good.asked cause) good.so))

abbrev Exact : ℕ → Error → SinkState → SinkState → ℕ → Type 0
Exact answer e errs errs' status = ((status ≡ answer) × Reports (text_of e) errs errs') ⊎ (status ≡ 6)

-- the status and the text are those of the refusal
exact_of : (answer : ℕ) (e told : Error) (errs errs' : SinkState) → status_of e.code e.place ≡ answer → Reports (text_of told) errs errs' → (told ≡ e) ⊎ (told ≡ no_memory)
    → Exact answer e errs errs' (status_of told.code told.place)
exact_of answer e told errs errs' is tells (inl same) = inl (ap (λ e. status_of e.code e.place) same ∙ is, subst (λ e. Reports (text_of e) errs errs') same tells)
exact_of answer e told errs errs' is tells (inr same) = inr (ap (λ e. status_of e.code e.place) same)

fault_status : (rules : Rules) (b : List ℕ) (code : ErrorCode) (place : Place) → InputFault rules b code place → status_of code place ≡ 1
fault_status rules b NoMemory place h = absurd (no_want rules b place h)
fault_status rules b Io place h = absurd (no_io rules b place h)
fault_status rules b BadWords place h = absurd (no_words rules b place h)
fault_status rules b NotFound place h = absurd (no_not_found rules b place h)
fault_status rules b TypeUnmatched place h = absurd (no_type_unmatched rules b place h)
fault_status rules b code place h = refl

-- input with a fault is refused for it, where no read fails and memory suffices
pub bad_status : (words : List (List ℕ)) (source source' : SourceState) (sink sink' errs errs' : SinkState) (code code' : ErrorCode) (place place' : Place) → Fails words source source' sink sink' code' place'
    → Reports (text_of (error code' place')) errs errs' → IsBad words source source' code place → Exact 1 (error code place) errs errs' (status_of code' place')
bad_status words source source' sink sink' errs errs' code code' place place' cause tells bad =
    let c = bad.command in
    exact_of 1 (error code place) (error code' place') errs errs' (fault_status c.rules bad.so.bytes code place bad.so.fault) tells
    (fault_refused c.rules c.es c.layout source source' sink sink' code code' place place' (cause_of words c source source' sink sink' code' place' bad.asked cause) bad.so)

-- what was done for the command that the words ask for
done_for : (words : List (List ℕ)) (c : Command) (source source' : SourceState) (sink sink' : SinkState) → Asks words c → WritesRequested words source source' sink sink' → Reshapes c.rules c.es c.layout source source' sink sink'
done_for words c source source' sink sink' asked (inl h) = so_of words c (λ c. Reshapes c.rules c.es c.layout source source' sink sink') asked h
done_for words c source source' sink sink' asked (inr m) = absurd (apart words m.number c m.asked asked)

pub bad_done : (words : List (List ℕ)) (source source' : SourceState) (sink sink' : SinkState) (code : ErrorCode) (place : Place) → WritesRequested words source source' sink sink' → IsBad words source source' code place → ⊥
bad_done words source source' sink sink' code place did bad =
    let d = bad.command in fault_not_done d.rules d.es d.layout source source' sink sink' code place (done_for words d source source' sink sink' bad.asked did) bad.so

unfit_number : (n : ℕ) (why : EditRefusal) → let e = edit_refused n why in status_of e.code e.place ≡ 3
unfit_number n not_found = refl
unfit_number n type_unmatched = refl

-- an edit that does not apply is refused by its number, where no read fails and memory suffices
pub unfit_status : (words : List (List ℕ)) (source source' : SourceState) (sink sink' errs errs' : SinkState) (n : ℕ) (why : EditRefusal) (code : ErrorCode) (place : Place) → Fails words source source' sink sink' code place
    → Reports (text_of (error code place)) errs errs' → IsUnfit words source source' n why → Exact 3 (edit_refused n why) errs errs' (status_of code place)
unfit_status words source source' sink sink' errs errs' n why code place cause tells unfit =
    let c = unfit.command in
    exact_of 3 (edit_refused n why) (error code place) errs errs' (unfit_number n why) tells
    (unfit_refused c.rules c.es c.layout source source' sink sink' n why code place (cause_of words c source source' sink sink' code place unfit.asked cause) unfit.so)

pub unfit_done : (words : List (List ℕ)) (source source' : SourceState) (sink sink' : SinkState) (n : ℕ) (why : EditRefusal) → WritesRequested words source source' sink sink' → IsUnfit words source source' n why → ⊥
unfit_done words source source' sink sink' n why did unfit =
    let d = unfit.command in unfit_not_done d.rules d.es d.layout source source' sink sink' n why (done_for words d source source' sink sink' unfit.asked did) unfit.so

-- ---- words of another form

refused_words : (words : List (List ℕ)) (source source' : SourceState) (sink sink' : SinkState) (code : ErrorCode) (place : Place) → RunRefuses words source source' sink sink' code place → ¬ (IsAsked words) → (status_of code place ≡ 2) ⊎ (status_of code place ≡ 6)
refused_words words source source' sink sink' NoMemory place cause not = inr refl
refused_words words source source' sink sink' BadWords place cause not = inl refl
refused_words words source source' sink sink' code place cause not = absurd (not (inl (cause.command, cause.asked)))

pub words_status : (words : List (List ℕ)) (source source' : SourceState) (sink sink' : SinkState) (code : ErrorCode) (place : Place) → Fails words source source' sink sink' code place → ¬ (IsAsked words) → (status_of code place ≡ 2) ⊎ (status_of code place ≡ 6)
words_status words source source' sink sink' code place (inl cause) not = refused_words words source source' sink sink' code place cause not
words_status words source source' sink sink' code place (inr m) not = absurd (not (inr (m.number, m.asked)))

-- ---- made input

abbrev MadeStatus : ErrorCode → Place → Type 0
MadeStatus code place = (status_of code place ≡ 0) ⊎ (status_of code place ≡ 5) ⊎ (status_of code place ≡ 6)

printing_status : (sink sink' : SinkState) (text : List ℕ) (code : ErrorCode) (place : Place) → PrintingFails sink sink' text code place → MadeStatus code place
printing_status sink sink' text NoMemory nowhere h = inr (inr refl)
printing_status sink sink' text Io Writing h = inr (inl refl)
printing_status sink sink' text code place h = absurd h

-- where the words ask for it, only memory can run out before
before_made : (words : List (List ℕ)) (source source' : SourceState) (sink sink' : SinkState) (code : ErrorCode) (place : Place) → RunRefuses words source source' sink sink' code place → IsMaking words → MadeStatus code place
before_made words source source' sink sink' NoMemory place cause making = inr (inr refl)
before_made words source source' sink sink' BadWords nowhere cause making = absurd (cause.0 (inr making))
before_made words source source' sink sink' code place cause making = absurd (apart words making.0 cause.command making.1 cause.asked)

pub made_status : (words : List (List ℕ)) (source source' : SourceState) (sink sink' : SinkState) (code : ErrorCode) (place : Place) → Fails words source source' sink sink' code place → IsMaking words → MadeStatus code place
made_status words source source' sink sink' code place (inl cause) making = before_made words source source' sink sink' code place cause making
made_status words source source' sink sink' code place (inr m) making = printing_status sink sink' m.so.1.text code place m.so.1.fails

-- the causes of the engine, for the command that the words ask for
pub run_refuses : (words : List (List ℕ)) (c : Command) (source source' : SourceState) (sink sink' : SinkState) (code : ErrorCode) (place : Place) → Asks words c → ReshapingRefuses c.rules c.es c.layout source source' sink sink' code place → RunRefuses words source source' sink sink' code place
run_refuses words c source source' sink sink' NoMemory nowhere asked (inl same) = inl same
run_refuses words c source source' sink sink' NoMemory nowhere asked (inr gains) = inr (record { command = c; asked = asked; so = gains })
run_refuses words c source source' sink sink' BadWords nowhere asked h = absurd (no_words c.rules h.0.bytes nowhere h.0.fault)
run_refuses words c source source' sink sink' code place asked h = record { command = c; asked = asked; so = h }

-- so of a result, where these are the rules, the edits and the layout of that command
pub run_refused : (r : Result (Unit {0}) Error) (words : List (List ℕ)) (c : Command) (rules : Rules) (es : List Edit) (l : TextLayout) (source source' : SourceState) (sink sink' : SinkState) → Asks words c → rules ≡ c.rules → es ≡ c.es → l ≡ c.layout
    → IfErr r (λ e. ReshapingRefuses rules es l source source' sink sink' e.code e.place) → IfErr r (λ e. Fails words source source' sink sink' e.code e.place)
run_refused (Ok x) words c rules es l source source' sink sink' asked u f g h = tt
run_refused (Err e) words c rules es l source source' sink sink' asked u f g h =
    inl (run_refuses words c source source' sink sink' e.code e.place asked
    (subst (λ rules. ReshapingRefuses rules c.es c.layout source source' sink sink' e.code e.place) u
    (subst (λ es. ReshapingRefuses rules es c.layout source source' sink sink' e.code e.place) f (subst (λ l. ReshapingRefuses rules es l source source' sink sink' e.code e.place) g h))))

-- ---- what is done for the words

-- the engine did it for these rules, these edits and this layout
pub run_did : (r : Result (Unit {0}) Error) (words : List (List ℕ)) (c : Command) (rules : Rules) (es : List Edit) (l : TextLayout) (source source' : SourceState) (sink sink' : SinkState) → Asks words c → rules ≡ c.rules → es ≡ c.es → l ≡ c.layout
    → OnOk r (Reshapes rules es l source source' sink sink') → OnOk r (WritesRequested words source source' sink sink')
run_did (Err e) words c rules es l source source' sink sink' asked u f g h = tt
run_did (Ok x) words c rules es l source source' sink sink' asked u f g h =
    inl (record { command = c; asked = asked; so = subst (λ rules. Reshapes rules c.es c.layout source source' sink sink') u (subst (λ es. Reshapes rules es c.layout source source' sink sink') f (subst (λ l. Reshapes rules es l source source' sink sink') g h)) })

-- what is asked for is a command
pub asks_command : (words : List (List ℕ)) (a : Asked) (e : Edits) (style : AskedStyle) → a ≡ Reshape e style → AsksFor words a → Asks words (asked_command a)
asks_command words a e style is h = subst (λ a. Asks words (asked_command a)) (sym is) (subst (AsksFor words) is h)

-- what is asked for is made input
pub asks_made : (words : List (List ℕ)) (a : Asked) (n : ℕ) → a ≡ Made n → AsksFor words a → AsksMade words n
asks_made words a n is h = subst (AsksFor words) is h

pub few_made : (words : List (List ℕ)) (n : ℕ) → AsksMade words n → n ≤ 100000
few_made [] n h = absurd h
few_made (w ∷ []) n h = made_few w n h
few_made (w ∷ v ∷ ws) n h = absurd h

-- its summary was written, and nothing was read
pub made_did : (r : Result (Unit {0}) Error) (words : List (List ℕ)) (n : ℕ) (source : SourceState) (sink sink' : SinkState) → AsksMade words n → OnOk r (GainsSummary n sink sink') → OnOk r (WritesRequested words source source sink sink')
made_did (Err e) words n source sink sink' asked h = tt
made_did (Ok x) words n source sink sink' asked h = inr (record { number = n; asked = asked; so = (refl, h) })

pub made_fails : (r : Result (Unit {0}) Error) (words : List (List ℕ)) (n : ℕ) (source : SourceState) (sink sink' : SinkState) → AsksMade words n → IfErr r (λ e. SummaryFails n sink sink' e.code e.place) → IfErr r (λ e. Fails words source source sink sink' e.code e.place)
made_fails (Ok x) words n source sink sink' asked h = tt
made_fails (Err e) words n source sink sink' asked h = inr (record { number = n; asked = asked; so = (refl, h) })

-- the words were refused, or memory ran out before
pub words_fail : (r : Result (Unit {0}) Error) (words : List (List ℕ)) (source : SourceState) (sink : SinkState) → IfErr r (λ e. (e ≡ no_memory) ⊎ ((e ≡ bad_words) × ¬ (IsAsked words))) → IfErr r (λ e. Fails words source source sink sink e.code e.place)
words_fail (Ok x) words source sink h = tt
words_fail (Err e) words source sink (inl lacks) = subst (λ e. Fails words source source sink sink e.code e.place) (sym lacks) (inl (inl refl))
words_fail (Err e) words source sink (inr bad) = subst (λ e. Fails words source source sink sink e.code e.place) (sym bad.0) (inl (bad.1, refl, refl))

-- what was done was asked for
pub did_asked : (words : List (List ℕ)) (source source' : SourceState) (sink sink' : SinkState) → WritesRequested words source source' sink sink' → ¬ (IsAsked words) → ⊥
did_asked words source source' sink sink' (inl h) not = not (inl (h.command, h.asked))
did_asked words source source' sink sink' (inr m) not = not (inr (m.number, m.asked))
