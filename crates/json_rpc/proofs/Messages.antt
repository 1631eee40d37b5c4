-- The message that a line is, and that it is only one.
use Rattle.std.proofs.Common.{◌≡◌, ◌≢◌, ◌∙◌, ◌⊎◌, inl, inr, ◌↔◌, ℕ, ◌<◌, ◌≤◌, Bool, true, false, List, [], ◌∷◌, length, IsUtf8, refl, sym, ap, arith}
use Rattle.std.specs.Prelude.{IsTrue}
use Rattle.std.proofs.lemmas.Bool.{cases_lt, false≢true}
use Rattle.json_grammar.specs.Tree.{Tree, depth}
use Rattle.json_grammar.specs.Grammar.{ws, is_text}
use Rattle.json_grammar.specs.Fault.{fault}
use Rattle.json_grammar.specs.declared.ExpectedPart.TheVariants as expected
use Rattle.json_grammar.proofs.Moves.{give_start, cut_off}
use Rattle.json_grammar.proofs.OneFault.{text_no_fault}
use Rattle.json_grammar.proofs.TextUtf8.{text_utf8}
use Rattle.json_grammar.proofs.Values.{one_tree}
use Rattle.json_io.specs.declared.error.ErrorCode.{ErrorCode}
use Rattle.json_io.specs.declared.error.ErrorCode.TheVariants as code
use Rattle.json_io.specs.declared.error.Place.{Place}
use Rattle.json_text.specs.Faults.{FaultAt}
use Rattle.json_io.specs.Positions.{place_at}
use Rattle.json_io.specs.Utf8.{IsUtf8Fault, Utf8Cause}
use Rattle.json_scan.proofs.Masks.{space_test, space_decided}
use Rattle.json_text.proofs.OneFaultAt.{is_there, some_fault_at}
use Rattle.json_io.proofs.Utf8Faults.{some_fault}
use Rattle.json_doc.specs.Reading.{ReadingFails}
use Rattle.json_command.proofs.Inputs.{utf8_no_fault}
use Rattle.json_command.specs.Input.{BlankTest}
use Rattle.json_rpc.specs.Laws.{OneMessage, SomeMessage}
use Rattle.json_lines.specs.declared.line_reader.Line.{Line}
use Rattle.json_lines.specs.declared.line_reader.Line.TheVariants.{Whole, TooLong}
use Rattle.json_rpc.specs.Serving.{Message, blank, unreadable, readable, IsMessage, IsNoText, LineIsMessage, OnlyReads, message_only_reads, max_line_bytes, max_levels}

-- ---- whitespace

pub blank_or_not : (b : List ℕ) (t : Bool) → BlankTest b t → IsTrue t ↔ ws b
blank_or_not b true h = (λ e. h, λ w. refl)
blank_or_not b false h = (λ e. absurd (false≢true e), λ w. absurd (h w))

ws_or_not : (b : List ℕ) → ws b ⊎ ¬ (ws b)
ws_or_not [] = inl tt
ws_or_not (x ∷ b) = by (space_test x) refl (ws_or_not b)
  where
    by : (s : Bool) → space_test x ≡ s → ws b ⊎ ¬ (ws b) → ws (x ∷ b) ⊎ ¬ (ws (x ∷ b))
    by true e (inl h) = inl (space_decided.sound x e, h)
    by true e (inr n) = inr (λ h. n h.1)
    by false e o = inr (λ h. let f = space_decided.whole x h.0 in cc)

value_done : expected.Value ≡ expected.Done → ⊥
value_done e = cc

-- whitespace is no text
blank_no_text : (b : List ℕ) (u : Tree) → ws b → is_text false u b → ⊥
blank_no_text b u h t = cut_off false b 0 [] expected.Value [] (give_start false b) h (λ d. value_done d.0) u t

-- ---- what is no text

too_deep : (u : Tree) → ¬ (depth u ≤ max_levels) → max_levels < depth u
too_deep u h = elim (cases_lt max_levels (depth u)) [ inl k ↦ k | inr k ↦ absurd (h k) ]

pub fault_no_text : (b : List ℕ) (c : ErrorCode) (p : Place) → FaultAt false 254 b c p → IsNoText b
fault_no_text b c p (k, e, h) u t =
    let s = is_there (λ row. fault false 254 b row k) c h in too_deep u (λ l. text_no_fault false 254 b u s.row k t l s.holds)

pub fails_no_text : (b : List ℕ) (c : ErrorCode) (p : Place) → c ≢ code.NoMemory → ReadingFails b c p → IsNoText b
fails_no_text b code.NoMemory p n h = absurd (n refl)
fails_no_text b c p n h = fault_no_text b c p h

pub utf8_no_text : (b : List ℕ) (c : ErrorCode) (p : Place) → Utf8Cause b c p → IsNoText b
utf8_no_text b code.InvalidUTF8 p h u t = absurd (utf8_no_fault b h.0 h.1 (text_utf8 false u b t))
utf8_no_text b c p h u t = absurd h

-- ---- one message, and some message

pub one_message : OneMessage
one_message b blank blank h k = refl
one_message b blank unreadable h (inl k) = absurd (omega (arith, h.0, k))
one_message b blank unreadable h (inr k) = absurd (k.0 h.1)
one_message b blank (readable u) h k = absurd (blank_no_text b u h.1 k.1)
one_message b unreadable blank (inl h) k = absurd (omega (arith, k.0, h))
one_message b unreadable blank (inr h) k = absurd (h.0 k.1)
one_message b unreadable unreadable h k = refl
one_message b unreadable (readable u) (inl h) k = absurd (omega (arith, k.0, h))
one_message b unreadable (readable u) (inr h) k = let d = h.1 u k.1 in absurd (omega (arith, d, k.2))
one_message b (readable u) blank h k = absurd (blank_no_text b u k.1 h.1)
one_message b (readable u) unreadable h (inl k) = absurd (omega (arith, h.0, k))
one_message b (readable u) unreadable h (inr k) = let d = k.1 u h.1 in absurd (omega (arith, d, h.2))
one_message b (readable u) (readable v) h k = ap readable (one_tree false u v b h.1 k.1)

one_line_message : (line : Line) (m n : Message) → LineIsMessage line m → LineIsMessage line n → m ≡ n
one_line_message (Whole b) m n h k = one_message b.now m n h k
one_line_message TooLong m n h k = h ∙ sym k

-- a line that only reads is no message that edits
pub message_reads : (line : Line) (m : Message) → LineIsMessage line m → OnlyReads line → message_only_reads m ≡ true
message_reads line m h o = ap message_only_reads (one_line_message line m o.message h o.is) ∙ o.reads

-- whether a line only reads, by its message
pub tells_reads : (line : Line) (m : Message) (b : Bool) → LineIsMessage line m → b ≡ message_only_reads m → IsTrue b ↔ OnlyReads line
tells_reads line m b h e = (λ t. record { message = m; is = h; reads = sym e ∙ t }, λ o. e ∙ message_reads line m h o)

pub some_message : SomeMessage
some_message b = elim (cases_lt max_line_bytes (length b)) [ inl l ↦ (unreadable, inl l) | inr s ↦ by s (ws_or_not b) (some_fault b) ]
  where
    read : length b ≤ max_line_bytes → ¬ (ws b) → ((t : Tree) × is_text false t b × (depth t ≤ 254)) ⊎ ((c : ErrorCode) × (p : Place) × FaultAt false 254 b c p) → (m : Message) × IsMessage b m
    read s n (inl h) = (readable h.0, (s, h.1, h.2))
    read s n (inr h) = (unreadable, inr (n, fault_no_text b h.0 h.1 h.2))

    by : length b ≤ max_line_bytes → ws b ⊎ ¬ (ws b) → IsUtf8 b ⊎ ((k : ℕ) × IsUtf8Fault b k) → (m : Message) × IsMessage b m
    by s (inl h) o = (blank, (s, h))
    by s (inr n) (inl u) = read s n (some_fault_at false 254 b u)
    by s (inr n) (inr w) = (unreadable, inr (n, utf8_no_text b code.InvalidUTF8 (place_at b w.0) (w.0, w.1, refl)))
