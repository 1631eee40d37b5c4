-- Where only whitespace is left no value follows, and its fault is that the input ends.
use Rattle.std.proofs.Common.{◌≡◌, inl, ◌∙◌, ℕ, zero, suc, ◌-◌, List, [], ◌∷◌, ◌++◌, Bool, length, take, drop, IsUtf8, Result, Ok, Err, IfOk, sym, ap, subst, arith, take_all, length-drop}
use Rattle.std.proofs.lemmas.List.{append-nil}
use Rattle.std.specs.Result.{IfErr, IsErrAnd}
use Rattle.json_grammar.specs.declared.ExpectedPart.TheVariants.{Value as at_value, Done as done}
use Rattle.json_grammar.specs.Fault.{reads, value_fault, eof_while_parsing, opens}
use Rattle.json_grammar.specs.Grammar.{ws, value, ◌then◌}
use Rattle.json_grammar.specs.Place.{place, reading, start, read_value, takes_at_value}
use Rattle.json_grammar.specs.Tree.{Tree, tokens}
use Rattle.json_grammar.proofs.Opens.{opens_reading}
use Rattle.json_grammar.proofs.Reading.{one_place}
use Rattle.json_grammar.proofs.ValueFaults.{value_short, one_value_fault}
use Rattle.json_io.specs.declared.error.Error.{Error}
use Rattle.json_io.specs.declared.error.ErrorCode.{ErrorCode}
use Rattle.json_io.specs.declared.error.ErrorCode.TheVariants as code
use Rattle.json_io.specs.declared.error.Place.{Place}
use Rattle.json_io.specs.declared.error.Place.TheVariants as at
use Rattle.json_text.specs.Ends.{NothingLeft}
use Rattle.json_text.specs.Faults.{IsValueFault}
use Rattle.json_text.proofs.OneFaultAt.{code_of, is_there}
use Rattle.json_data.specs.Reading.{Reading}
use Rattle.json_stream.specs.Streams.{InputState, parser_at, reported_place, TakesNextValue, NextValueFails, TellsEnd}

front : (n : ℕ) (b : List ℕ) → ws b → ws (take n b)
front zero b h = tt
front (suc n) [] h = tt
front (suc n) (x ∷ b) h = (h.0, front n b h.1)

module _ (lossy : Bool) where
  not_done : (p : List ℕ) → ws p → ¬ (place lossy p [] done)
  not_done p h (ts, r) = let e = (one_place lossy (start h) r).1 in cc

  pub no_value : (b : List ℕ) (t : Tree) (n : ℕ) → ws b → ¬ (reads lossy b t n)
  no_value b t n h r = go r.spells
    where
      go : ¬ ((ws then value lossy t) (take n b))
      go (p, q, e, u, v) = not_done (p ++ q) (subst ws e (front n b h)) (tokens t, read_value t (start u) takes_at_value (q, [], sym (append-nil q), v, tt))

  pub end_is_fault : (limit : ℕ) (b : List ℕ) → ws b → value_fault lossy limit b eof_while_parsing (length b)
  end_is_fault limit b h =
      let s : reading lossy b [] at_value [] = start h in
      let o : opens b ≡ 0 = opens_reading lossy s in
      value_short lossy limit b (inl ([], at_value, ([], s))) (not_done b h) (omega arith)

-- so that is the error
pub end_is_reported : (lossy : Bool) (limit : ℕ) (b : List ℕ) (c : ErrorCode) (k : ℕ) → ws b → IsValueFault lossy limit b c k → (c ≡ code.EofWhileParsing) × (k ≡ length b)
end_is_reported lossy limit b c k h i =
    let s = is_there (λ row. value_fault lossy limit b row k) c i in
    let o = one_value_fault lossy limit b s.row eof_while_parsing k (length b) s.holds (end_is_fault lossy limit b h) in
    (s.same ∙ ap code_of o.0, o.1)

space_left : (s : InputState) → NothingLeft (parser_at s) → ws (drop s.index s.text)
space_left s n = let o = n.order in subst ws (take_all (length s.text - s.index) (drop s.index s.text) (omega (arith, length-drop s.index s.text))) n.space

pub none_taken : {A : Type 0} (f : Tree → Reading) (old : InputState) (r : Reading) (new : InputState) → NothingLeft (parser_at old) → TakesNextValue f old r new → A
none_taken f old r new n t = absurd (no_value old.lossy (drop old.index old.text) t.tree t.size (space_left old n) t.value)

pub end_fails : (f : Tree → Reading) (old : InputState) (c : ErrorCode) (p : Place) (new : InputState) → IsUtf8 old.text → NothingLeft (parser_at old) → NextValueFails f old c p new → TellsEnd old c p
end_fails f old code.NoMemory at.None new u n h = tt
end_fails f old code.InvalidUTF8 p new u n h = let v = h.0.1 in absurd (v.longest (length old.text) v.short (subst IsUtf8 (sym (take_all (length old.text) old.text (omega arith))) u))
end_fails f old code.TypeUnmatched p new u n h = none_taken f old _ new n h.takes
end_fails f old code.NumberOutOfRange p new u n h = none_taken f old _ new n h.takes
end_fails f old code.ExpectedNumericKey p new u n h = none_taken f old _ new n h.takes
end_fails f old code.EofWhileParsing p new u n h =
    let o = n.order in
    let k = h.1.0 in
    let q : k ≡ length (drop old.index old.text) = (end_is_reported old.lossy 254 (drop old.index old.text) code.EofWhileParsing k (space_left old n) h.1.2).1 in
    h.1.1 ∙ ap (reported_place old) (omega (arith, length-drop old.index old.text))
end_fails f old c p new u n h = absurd (let q = (end_is_reported old.lossy 254 (drop old.index old.text) c h.1.0 (space_left old n) h.1.2).0 in cc)

pub clean_end : {X : Type 0} (f : Tree → Reading) (old new : InputState) (r : Result X Error) (g : X → Reading) → IfOk r (λ v. TakesNextValue f old (g v) new) → IfErr r (λ e. NextValueFails f old e.code e.place new)
    → IsUtf8 old.text → NothingLeft (parser_at old) → IsErrAnd r (λ e. TellsEnd old e.code e.place)
clean_end f old new (Ok v) g h i u n = none_taken f old (g v) new n h
clean_end f old new (Err e) g h i u n = end_fails f old e.code e.place new u n i
