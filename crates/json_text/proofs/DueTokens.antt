-- The tokens before the one that needs the byte of an error are those that were returned.
use Rattle.std.proofs.Common.{◌≡◌, ℕ, ◌≤◌, List, [], ◌∷◌, ◌++◌, length, take, sym, ap, ◌∙◌, subst, arith, append_assoc, length-append, take_all, Bool}
use Rattle.std.proofs.Math.Seq.{take-append_seam}
use Rattle.json_grammar.specs.declared.Kind.{Kind}
use Rattle.json_grammar.specs.declared.ExpectedPart.{ExpectedPart}
use Rattle.json_grammar.specs.Tree.{Tree, Token, key_token}
use Rattle.json_grammar.specs.Grammar.{ws, string, is_text}
use Rattle.json_grammar.specs.Place.{TakesKey, reading, viable_prefix}
use Rattle.json_grammar.specs.Fault.{FaultCode, fault}
use Rattle.json_grammar.specs.Given.{piece, NamesReturned}
use Rattle.json_grammar.specs.Needs.{IsGap}
use Rattle.json_grammar.proofs.Faults.{shorter_viable}
use Rattle.json_grammar.proofs.Gaps.{gap_has_no_token}
use Rattle.json_grammar.proofs.Lists.{ws-append}
use Rattle.json_grammar.proofs.Moves.{take_on}
use Rattle.json_grammar.proofs.NeedsNames.{names_before, name_after_gap}
use Rattle.json_grammar.proofs.OneFault.{Told, deep, short, other, told}
use Rattle.json_io.specs.declared.error.Error.{Error}
use Rattle.json_io.specs.declared.error.ErrorCode.{ErrorCode}
use Rattle.json_io.specs.declared.error.ErrorCode.TheVariants as code
use Rattle.json_text.specs.Faults.{IsFault}
use Rattle.json_text.specs.Parsing.{ParserState, input, consumed, HasGiven, IsDue}
use Rattle.json_text.specs.Readers.{ReaderAt}
use Rattle.json_text.proofs.OneFaultAt.{is_there}
use Rattle.json_text.proofs.ReaderSteps.{stood_at}
use Rattle.json_io.proofs.Pieces.{piece_append}

front : (b p r : List ℕ) (k : ℕ) → b ≡ p ++ r → length p ≡ k → p ≡ take k b
front b p r k e l = sym (ap (take k) e ∙ ap (λ n. take n (p ++ r)) (sym l) ∙ take-append_seam p r)

-- what precedes a refused byte begins some text
reported_viable : {lossy : Bool} {limit k : ℕ} {b : List ℕ} {code : FaultCode} → Told lossy (viable_prefix lossy) ((t : Tree) × is_text lossy t b) limit b k code → viable_prefix lossy (take k b)
reported_viable {lossy = lossy} {k = k} {b = b} (deep (p, x, r, e, l, v, o, m)) = subst (viable_prefix lossy) (front b p (x ∷ r) k e l) (shorter_viable lossy p (x ∷ []) v)
reported_viable {lossy = lossy} {k = k} {b = b} (short (e, v, o, m)) = subst (viable_prefix lossy) (sym (ap (λ n. take n b) e ∙ take_all (length b) b (omega arith))) v
reported_viable {lossy = lossy} {k = k} {b = b} (other r) = subst (viable_prefix lossy) (front b r.p (r.x ∷ r.long.rest) k r.long.bytes r.offset) r.long.is_viable

fault_viable : (lossy : Bool) (limit : ℕ) (b : List ℕ) (c : ErrorCode) (k : ℕ) → IsFault lossy limit b c k → viable_prefix lossy (take k b)
fault_viable lossy limit b c k h = let s = is_there (λ row. fault lossy limit b row k) c h in reported_viable (told lossy (viable_prefix lossy) ((t : Tree) × is_text lossy t b) limit b s.row k s.holds)

reported_within : {lossy : Bool} {limit k : ℕ} {b : List ℕ} {code : FaultCode} → Told lossy (viable_prefix lossy) ((t : Tree) × is_text lossy t b) limit b k code → k ≤ length b
reported_within (deep (p, x, r, e, l, v, o, m)) = omega (arith, l, ap length e ∙ length-append p (x ∷ r))
reported_within (short (e, v, o, m)) = omega (arith, e)
reported_within (other r) = omega (arith, r.offset, ap length r.long.bytes ∙ length-append r.p (r.x ∷ r.long.rest))

pub fault_within : (lossy : Bool) (limit : ℕ) (b : List ℕ) (c : ErrorCode) (k : ℕ) → IsFault lossy limit b c k → k ≤ length b
fault_within lossy limit b c k h = let s = is_there (λ row. fault lossy limit b row k) c h in reported_within (told lossy (viable_prefix lossy) ((t : Tree) × is_text lossy t b) limit b s.row k s.holds)

-- whitespace before a gap
gap_after : (z g : List ℕ) → ws z → IsGap g → IsGap (z ++ g)
gap_after z g h i = record {
  before = z ++ i.before;
  mark = i.mark;
  after = i.after;
  row = ap (λ y. z ++ y) i.row ∙ sym (append_assoc z i.before (i.mark ++ i.after));
  space_before = ws-append z i.before h i.space_before;
  is_mark = i.is_mark;
  space_behind = i.space_behind;
}

pub due_after_tokens : (old : ParserState) (e : Error) (ts : List Token) (due : IsDue old e) → HasGiven old ts → (c : List Kind) × (w : ExpectedPart) × reading old.lossy (take due.needs.at (input old)) c w ts
due_after_tokens old e ts due h =
    let b = input old in let i = consumed old in let n = due.needs in
    let o = n.order in let l = h.order in
    let v = fault_viable old.lossy old.limit b e.code due.offset due.fault in
    gap_has_no_token old.lossy b h.base n.at old.open_kinds old.expected ts h.given (omega arith)
    (subst IsGap (sym (piece_append b h.base i n.at h.order o.0)) (gap_after (piece b h.base i) (piece b i n.at) h.space n.gap))
    (shorter_viable old.lossy (take n.at b) (piece b n.at due.offset) (subst (viable_prefix old.lossy) (take_on b n.at due.offset o.1) v))

-- a reader that took a name had the same tokens before its opening quotation mark
pub name_reported : (lossy : Bool) (limit limit' : ℕ) (b : List ℕ) (i j n : ℕ) (c c' : List Kind) (w w' : ExpectedPart) (ts : List Token) (s : List ℕ)
    → ReaderAt lossy limit b i c w ts
    → i ≤ j
    → j ≤ n
    → n ≤ length b
    → IsGap (piece b i j)
    → string lossy s (piece b j n)
    → ReaderAt lossy limit' b n c' w' (ts ++ key_token s ∷ [])
    → (d : List Kind) × (v : ExpectedPart) × reading lossy (take j b) d v ts × TakesKey v
name_reported lossy limit limit' b i j n c c' w w' ts s h l m within g str h' =
    let o = h.order in
    name_after_gap lossy b h.base j n c c' w w' ts s h.given (omega arith) m within
    (subst IsGap (sym (piece_append b h.base i j o l)) (gap_after (piece b h.base i) (piece b i j) h.space g)) str
    (stood_at lossy limit' b n c' w' (ts ++ key_token s ∷ []) h')

pub names_before_due : (old : ParserState) (e : Error) (ts : List Token) (due : IsDue old e) → HasGiven old ts → NamesReturned old.lossy (input old) (consumed old) due.offset
names_before_due old e ts due h j n c w us s jn nk nb r t x =
    let b = input old in let i = consumed old in let d = due.needs in
    let o = d.order in let l = h.order in
    let v = fault_viable old.lossy old.limit b e.code due.offset due.fault in
    let g = subst IsGap (sym (piece_append b h.base i d.at h.order o.0)) (gap_after (piece b h.base i) (piece b i d.at) h.space d.gap) in
    let m : n ≤ h.base =
    names_before old.lossy (e.code ≡ code.InvalidNumber) b h.base due.offset old.open_kinds old.expected ts h.given (fault_within old.lossy old.limit b e.code due.offset due.fault) v (record { at = d.at; order = (omega arith, o.1); gap = g; begun = d.begun }) j n c w us s jn nk nb r t x
    in
    omega arith
