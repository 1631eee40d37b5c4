use Rattle.std.proofs.Common.{◌≡◌, ◌-◌, ◌↔◌, ◌+◌, sym, subst, List, ℕ, length}
use Rattle.std.specs.Prelude.{IsTrue}
use Rattle.std.specs.List.{Contains}
use Rattle.json_doc.specs.OpenObject.{MembersThenKey}
use Rattle.json_doc.proofs.OpenObject.{open_key}
use Rattle.json_doc.proofs.document_visitor.DocumentVisitor.key_repeats.Goals as goal

pub has_key-requires : goal.has_key-requires
has_key-requires c =
    let o = open_key _ _ _ _ c.requires.0 c.requires.1 c.requires.2 in
    let last : length c.args.self.now.cells.items - 1 ≡ c.len.result - 1 = cc in
    (o.members, c.requires.1, subst (λ (n : ℕ). MembersThenKey c.args.self.now.cells.items c.args.self.now.text.items (c.args.self.now.parent + 1) o.members n c.requires.1) last o.is_there)

pub returns : goal.returns
returns c ts s h =
    let o = open_key _ _ _ _ ts s h in
    let last : length c.args.self.now.cells.items - 1 ≡ c.len.result - 1 = cc in
    let told = c.has_key.ensures o.members s (subst (λ (n : ℕ). MembersThenKey c.args.self.now.cells.items c.args.self.now.text.items (c.args.self.now.parent + 1) o.members n s) last o.is_there) in
    subst (λ (x : List (List ℕ)). IsTrue c.has_key.result ↔ Contains x s) (sym o.keys) told
