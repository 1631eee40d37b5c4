use Rattle.std.proofs.Common.{◌-◌, ◌↔◌, List, ℕ}
use Rattle.std.specs.List.{Contains}
use Rattle.json_grammar.specs.Tree.{Pairs}
use Rattle.json_grammar.specs.Repeated.{names}
use Rattle.json_doc.specs.OpenObject.{MembersAt, MembersThenKey}
use Rattle.json_doc.proofs.document_visitor.DocumentVisitor.has_key.Given as goal

abbrev pub invariant-loop-at : goal.invariant-loop-at
invariant-loop-at l =
    (ps : Pairs) (s : List ℕ) → MembersThenKey l.self.cells.items l.self.text.items l.first ps l.last s
    → (rest : Pairs) × MembersAt l.self.cells.items l.self.text.items l.at rest l.last × (Contains (names ps) s ↔ Contains (names rest) s)

abbrev pub decreases-loop-at : goal.decreases-loop-at
decreases-loop-at l = l.last - l.at
