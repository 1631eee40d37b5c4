-- What the words and the replay lead to.
use Rattle.std.proofs.Common.{◌≡◌, ◌⊎◌, inl, inr, List, ℕ, Result, Ok, Err, OnOk, IfErr, refl, sym, subst}
use Rattle.json_io.specs.Errors.{no_memory, bad_words}
use Rattle.json_text.specs.Ruled.{usual_rules}
use Rattle.json_io.specs.declared.error.Error.{Error}
use Rattle.json_io.specs.declared.error.ErrorCode.{ErrorCode}
use Rattle.json_io.specs.declared.error.ErrorCode.TheVariants.{NoMemory, BadWords}
use Rattle.json_io.specs.declared.error.Place.{Place}
use Rattle.json_io.specs.declared.error.Place.TheVariants.{None as nowhere}
use Rattle.json_io.specs.Outside.{SourceState, SinkState}
use Rattle.json_command.proofs.Inputs.{no_words}
use Rattle.json_history.specs.History.{TreeCall}
use Rattle.json_history.specs.Spelling.{AsksForCalls}
use Rattle.json_history.specs.Replay.{Replays, ReplayFails}
use Rattle.json_history.specs.Run.{WithCalls, RunFails}

run_fails : (arguments : List (List ℕ)) (cs : List TreeCall) (source source' : SourceState) (sink sink' : SinkState) (code : ErrorCode) (place : Place) → AsksForCalls arguments cs → ReplayFails cs source source' sink sink' code place → RunFails arguments source source' sink sink' code place
run_fails arguments cs source source' sink sink' NoMemory nowhere asked (inl same) = inl same
run_fails arguments cs source source' sink sink' NoMemory nowhere asked (inr g) = inr (record { calls = cs; asked = asked; so = g })
run_fails arguments cs source source' sink sink' BadWords nowhere asked h = absurd (no_words usual_rules h.0.bytes nowhere h.0.fault)
run_fails arguments cs source source' sink sink' code place asked h = record { calls = cs; asked = asked; so = h }

-- the replay failed
pub run_fails_by_replay : (r : Result (Unit {0}) Error) (arguments : List (List ℕ)) (cs : List TreeCall) (source source' : SourceState) (sink sink' : SinkState) → AsksForCalls arguments cs
    → IfErr r (λ e. ReplayFails cs source source' sink sink' e.code e.place) → IfErr r (λ e. RunFails arguments source source' sink sink' e.code e.place)
run_fails_by_replay (Ok x) arguments cs source source' sink sink' asked h = tt
run_fails_by_replay (Err e) arguments cs source source' sink sink' asked h = run_fails arguments cs source source' sink sink' e.code e.place asked h

-- it succeeded
pub run_succeeds : (r : Result (Unit {0}) Error) (arguments : List (List ℕ)) (cs : List TreeCall) (source source' : SourceState) (sink sink' : SinkState) → AsksForCalls arguments cs
    → OnOk r (Replays cs source source' sink sink') → OnOk r (WithCalls arguments (λ cs. Replays cs source source' sink sink'))
run_succeeds (Err e) arguments cs source source' sink sink' asked h = tt
run_succeeds (Ok x) arguments cs source source' sink sink' asked h = record { calls = cs; asked = asked; so = h }

-- the words ask for nothing, or memory ran out
pub run_fails_by_words : (r : Result (Unit {0}) Error) (arguments : List (List ℕ)) (source : SourceState) (sink : SinkState) → IfErr r (λ e. (e ≡ no_memory) ⊎ ((e ≡ bad_words) × ((cs : List TreeCall) → ¬ (AsksForCalls arguments cs)))) → IfErr r (λ e. RunFails arguments source source sink sink e.code e.place)
run_fails_by_words (Ok x) arguments source sink h = tt
run_fails_by_words (Err e) arguments source sink (inl lacks) = subst (λ e. RunFails arguments source source sink sink e.code e.place) (sym lacks) (inl refl)
run_fails_by_words (Err e) arguments source sink (inr bad) = subst (λ e. RunFails arguments source source sink sink e.code e.place) (sym bad.0) (bad.1, refl, refl)
