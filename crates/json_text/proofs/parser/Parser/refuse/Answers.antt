use Rattle.std.proofs.Common.{◌≡◌, ℕ, List, ◌+◌, ◌≤◌, length, sym, subst, arith, length-drop}
use Rattle.std.proofs.lemmas.Grind.{common_steps}
use Rattle.json_io.specs.declared.error.ErrorCode.{ErrorCode}
use Rattle.json_text.specs.Faults.{IsFault}
use Rattle.json_text.specs.Parsing.{ParserState, IsSound, input}
use Rattle.json_text.proofs.DueTokens.{fault_within}
use Rattle.json_text.proofs.parser.Parser.refuse.Goals as goal

-- the offset of a fault is within what is left of the text
within_text : (rest : List ℕ) (p s : ParserState) (code : ErrorCode) (k : ℕ) → IsSound rest p → p ≡ s → IsFault s.lossy s.limit (input s) code k → p.start + k ≤ length p.text
within_text rest p s code k sound same fault =
    omega (arith, fault_within _ _ _ _ _ (subst (λ (q : ParserState). IsFault q.lossy q.limit (input q) code k) (sym same) fault), length-drop p.start p.text)

pub overflow_add-self-inside : goal.overflow_add-self-inside
overflow_add-self-inside c = omega (arith, within_text _ _ _ _ _ c.self.invariant c.self.view_is c.requires.fault)

pub place_of-requires : goal.place_of-requires
place_of-requires c = omega (arith, within_text _ _ _ _ _ c.self.invariant c.self.view_is c.requires.fault)

pub invariant_of-self : goal.invariant_of-self
invariant_of-self c = grind (arith, common_steps)
