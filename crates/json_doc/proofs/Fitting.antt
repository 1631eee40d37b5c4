-- There is room for each event of a text.
use Rattle.std.proofs.Common.{◌≡◌, Bool, false, ℕ, ℤ, Option, Some, None, ◌+◌, ◌/◌, ◌≤◌, List, [], ◌∷◌, ◌++◌, length, ap, arith, length-append}
use Rattle.json_grammar.specs.declared.Kind.{Kind}
use Rattle.json_grammar.specs.declared.ExpectedPart.{ExpectedPart}
use Rattle.json_grammar.specs.Tree.{Tree, Token, null_token, boolean_token, num_token, text_token, begin, end, key_token, tokens}
use Rattle.json_grammar.specs.Grammar.{is_text}
use Rattle.json_grammar.specs.Place.{reading}
use Rattle.json_grammar.specs.Sizes.{nodes, token_nodes, token_bytes, nodes_of, bytes_of}
use Rattle.json_grammar.proofs.Sizes.{nodes_append, nodes_tree, read_fits, text_fits}
use Rattle.json_number.specs.Integers.{integer_in}
use Rattle.json_doc.specs.ByValue.{raw_part}
use Rattle.json_doc.specs.Texts.{token_text, tokens_text}
use Rattle.json_doc.specs.State.{Fits}
use Rattle.json_doc.specs.Recorded.{visitor_state, Holds}
use Rattle.json_doc.specs.declared.document_visitor.DocumentVisitor.{DocumentVisitor}

length-kept : (o : Option ℤ) (l : List ℕ) → length (raw_part o l) ≤ length l
length-kept (Some z) l = omega arith
length-kept None l = omega arith

length-token_text-le : (x : Token) → length (token_text x) ≤ token_bytes x
length-token_text-le null_token = omega arith
length-token_text-le (boolean_token b) = omega arith
length-token_text-le (num_token l) = length-kept (integer_in l) l
length-token_text-le (text_token s) = omega arith
length-token_text-le (begin k) = omega arith
length-token_text-le (end k) = omega arith
length-token_text-le (key_token s) = omega arith

length-tokens_text-le : (ts : List Token) → length (tokens_text ts) ≤ bytes_of ts
length-tokens_text-le [] = omega arith
length-tokens_text-le (x ∷ ts) = let e = length-tokens_text-le ts in let f = length-token_text-le x in omega (arith, length-append (token_text x) (tokens_text ts))

-- no more bytes are recorded than the tokens have
pub recorded_bytes : (v : DocumentVisitor) (ts : List Token) → Holds v ts → (visitor_state v).bytes ≤ bytes_of ts
recorded_bytes v ts h = omega (arith, ap length h.texts, length-tokens_text-le ts)

pub event_fits : (lossy : Bool) (v : DocumentVisitor) (p r : List ℕ) (c : List Kind) (w : ExpectedPart) (ts more : List Token) (x : Token) (t : Tree) (m : ℕ)
    → (visitor_state v).full ≡ false → (length (p ++ r) + 1) / 2 ≤ (visitor_state v).cell_room → length (p ++ r) ≤ (visitor_state v).text_room
    → Holds v ts → reading lossy p c w ts → is_text lossy t (p ++ r) → tokens t ≡ ts ++ x ∷ more → m ≤ length r → Fits (visitor_state v) (token_nodes x) m
event_fits lossy v p r c w ts more x t m full cells bytes held read is begins within =
    let all = (text_fits lossy t (p ++ r) is).0 in
    let count : nodes t ≡ nodes_of ts + (token_nodes x + nodes_of more) = nodes_tree_so in
    let counted = held.counted in
    let taken = (read_fits lossy read).1 in
    let so_far = recorded_bytes v ts held in
    (full, omega arith, omega (arith, length-append p r))
  where
    nodes_tree_so : nodes t ≡ nodes_of ts + (token_nodes x + nodes_of more)
    nodes_tree_so = let e = nodes_tree t in let f = ap nodes_of begins in let g = nodes_append ts (x ∷ more) in omega arith
