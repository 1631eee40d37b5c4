use Rattle.std.proofs.Common.{◌≡◌, ◌∙◌, ◌≤◌, [], ◌∷◌, ◌++◌, Option, None, IfSome, refl, sym, ap, subst, arith, rules}
use Rattle.std.proofs.lemmas.Bool.{both_ways}
use Rattle.json_grammar.specs.declared.ExpectedPart.TheVariants.{Colon as spot_behind}
use Rattle.json_grammar.specs.Given.{piece}
use Rattle.json_grammar.specs.Grammar.{chars}
use Rattle.json_grammar.specs.Needs.{IsGap}
use Rattle.json_grammar.specs.Place.{TakesKey}
use Rattle.json_grammar.specs.Tree.{key_token}
use Rattle.json_grammar.proofs.Reading.{takes_key_not_done}
use Rattle.json_io.specs.declared.error.Error.{Error}
use Rattle.json_text.specs.declared.event.Event.TheVariants as event
use Rattle.json_text.specs.Faults.{IsInValue}
use Rattle.json_text.specs.Parsing.{ParserState}
use Rattle.json_scan.specs.Runs.{ByteAt}
use Rattle.json_text.specs.Readers.{ReaderAt}
use Rattle.json_text.proofs.ValueEnds.{event_reads}
use Rattle.json_text.proofs.Going.{to_rest, from_rest, within_text, takes_token}
use Rattle.json_text.proofs.Tokens.{stood_key, tight_quoted}
use Rattle.json_text.proofs.NextParts.{next_rest, rest_next}
use Rattle.json_text.proofs.NoString.{stops_no_string, moved_string}
use Rattle.json_text.proofs.parser.Parser.next_key.Goals as goal
use Rattle.json_text.proofs.parser.Parser.next_key.Goals.{then-not-takes_key-via-then-not-takes_key, then-not-takes_key-via-else-not-takes_key+then-not-byte_is}

pub string_at-requires : goal.string_at-requires
string_at-requires c = subst (λ b. ByteAt b c.in-Ok.part_start.at 34) c.as_bytes-bytes.ensures.value (c.byte_is.ensures.0 (search rules))

pub invariant_of-self : goal.invariant_of-self
invariant_of-self c =
    let s = c.self.inside in let v = c.self.invariant in let i = v.given in let g = c.as_bytes-bytes.ensures.value in let st = c.in-Ok.part_start in let b = s.rest.now in
    let e = c.in-Ok-string_at.quote.end in
    let q = c.in-Ok-string_at.ensures.ok in
    let r = c.in-Ok.ensures.ok s.lossy s.limit i.0 (to_rest s.lossy s.limit s.start s.at s.text.now c.as_bytes-bytes.result.now s.kinds s.expected i.0 (g ∙ v.rest_is) i.1) in
    let t : TakesKey st.expected = c.takes_key.ensures.0 (search rules) in
    let x = stood_key s.lossy s.limit b c.in-Ok-string_at.quote.span.raw.now st.at e s.kinds st.expected i.0 (subst (λ b. ReaderAt s.lossy s.limit b st.at s.kinds st.expected i.0) g r) t q in
    let o = v.order in
    let w = v.within in
    let none : s.failure ≡ None = ap (λ (p : ParserState). p.failure) c.self.view_is ∙ c.requires.fresh in
    record {
      rest_is = v.rest_is;
      given = (i.0 ++ key_token q.text ∷ [], from_rest s.lossy s.limit s.start e s.text.now b s.kinds spot_behind (i.0 ++ key_token q.text ∷ []) v.rest_is x);
      failed = v.failed;
      inside = λ n. subst (λ (f : Option Error). IfSome f (λ e. IsInValue e.code)) (sym none) tt;
      order = omega arith;
      within = within_text s.text.now b s.start e v.rest_is q.within (omega arith);
      most = v.most;
    }

pub returns-clause-ok : goal.returns-clause-ok
returns-clause-ok c =
    let s = c.self.inside in let v = c.self.invariant in let g = c.as_bytes-bytes.ensures.value in let st = c.in-Ok.part_start in let b = s.rest.now in
    let e = c.in-Ok-string_at.quote.end in
    let q = c.in-Ok-string_at.ensures.ok in
    let t : TakesKey st.expected = c.takes_key.ensures.0 (search rules) in
    rw (← c.self.view_is)
    (λ ts h.
    let r = c.in-Ok.ensures.ok s.lossy s.limit ts (to_rest s.lossy s.limit s.start s.at s.text.now c.as_bytes-bytes.result.now s.kinds s.expected ts (g ∙ v.rest_is) h) in
    let x = stood_key s.lossy s.limit b c.in-Ok-string_at.quote.span.raw.now st.at e s.kinds st.expected ts (subst (λ b. ReaderAt s.lossy s.limit b st.at s.kinds st.expected ts) g r) t q in (
      key_token q.text,
      (q.text, subst (λ y. chars y q.text c.in-Ok-string_at.quote.span.raw.now) (sym c.in-Ok-string_at.ensures.mode) q.spells, refl),
      from_rest s.lossy s.limit s.start e s.text.now b s.kinds spot_behind (ts ++ key_token q.text ∷ []) v.rest_is x,
    ))

pub returns-clause-tight : goal.returns-clause-tight
returns-clause-tight c =
    let s = c.self.inside in let g = c.as_bytes-bytes.ensures.value in let st = c.in-Ok.part_start in let b = s.rest.now in
    let e = c.in-Ok-string_at.quote.end in
    let p = c.in-Ok-string_at.quote.span in
    rw (← c.self.view_is)
    (takes_token _ _ (event.Key p) b s.at st.at e c.self.invariant.rest_is refl refl refl c.in-Ok.ensures.within.0 (subst (λ b. IsGap (piece b s.at st.at)) g c.in-Ok.ensures.gap)
    (tight_quoted s.lossy b p.raw.now st.at e (event.Key p) refl refl c.in-Ok-string_at.ensures.ok c.in-Ok-string_at.ensures.mode))

pub returns-clause-reads : goal.returns-clause-reads
returns-clause-reads c = λ w.
    let order : c.args.self.now.start ≤ c.args.self.now.index = subst (λ (p : ParserState). p.start ≤ p.index) c.self.view_is c.self.invariant.order in
    let same : c.self.inside.start ≡ c.args.self.now.start = ap (λ (p : ParserState). p.start) c.self.view_is in
    event_reads _ _ (event.Key c.in-Ok-string_at.quote.span) (returns-clause-tight c) (λ is. absurd (cc)) (omega arith) w

pub returns-in-Err-string_at-clause-none : goal.returns-in-Err-string_at-clause-none
returns-in-Err-string_at-clause-none c = λ _. rw (← c.self.view_is) (λ h.
    let s = c.self.inside in let e = c.self.invariant.rest_is in let g = c.as_bytes-bytes.ensures.value in let at = c.in-Ok.part_start.at in
    let o = c.in-Ok.ensures.only h.at h.expected (next_rest s.text.now c.as_bytes-bytes.result.now s.start s.at h.at s.kinds s.expected h.expected (g ∙ e) h.next) in
    let f = c.in-Err-string_at.field-0 in
    let q = subst (λ b. ByteAt b at 34) g (c.byte_is.ensures.0 (search rules)) in
    stops_no_string s.lossy s.rest.now h.raw at f.offset h.to f.code q c.in-Err-string_at.ensures.err (moved_string s.lossy s.rest.now _ h.raw at h.at h.to e o.0 h.string))

pub returns-clause-some : goal.returns-clause-some
returns-clause-some c =
    let s = c.self.inside in let b = s.rest.now in let e = c.self.invariant.rest_is in let g = c.as_bytes-bytes.ensures.value in let st = c.in-Ok.part_start in let q = c.in-Ok-string_at.quote in
    let t : TakesKey st.expected = c.takes_key.ensures.0 (search rules) in
    rw (← c.self.view_is)
    (record {
      at = st.at;
      expected = st.expected;
      next = rest_next s.text.now c.as_bytes-bytes.result.now s.start s.at st.at s.kinds s.expected st.expected (g ∙ e) (c.in-Ok.ensures.next (takes_key_not_done t));
      takes = t;
      raw = q.span.raw.now;
      to = q.end;
      string = moved_string s.lossy _ b q.span.raw.now st.at st.at q.end (sym e) refl c.in-Ok-string_at.ensures.ok;
    })

pub returns-in-Err-clause-none : goal.returns-in-Err-clause-none
returns-in-Err-clause-none c = λ _. rw (← c.self.view_is) (λ h.
    let s = c.self.inside in let e = c.as_bytes-bytes.ensures.value ∙ c.self.invariant.rest_is in
    c.in-Err.ensures.only h.at h.expected (next_rest s.text.now c.as_bytes-bytes.result.now s.start s.at h.at s.kinds s.expected h.expected e h.next))

pub returns-then-not-takes_key-clause-none : goal.returns-then-not-takes_key-clause-none
returns-then-not-takes_key-clause-none c = λ _. rw (← c.self.view_is) (λ h.
    let s = c.self.inside in let b = c.as_bytes-bytes.result.now in let e = c.as_bytes-bytes.ensures.value ∙ c.self.invariant.rest_is in
    let o = c.in-Ok.ensures.only h.at h.expected (next_rest s.text.now b s.start s.at h.at s.kinds s.expected h.expected e h.next) in
    let q = subst (λ y. ByteAt y h.at 34) (sym e) h.string.opens in
    elim c.then-not-takes_key.branch [
      | then-not-takes_key-via-then-not-takes_key w ↦ both_ways _ w.if-not-takes_key.true (c.takes_key.ensures.1 (subst TakesKey (sym o.1) h.takes))
      | then-not-takes_key-via-else-not-takes_key+then-not-byte_is w ↦ both_ways _ w.if-not-byte_is.true (w.byte_is.ensures.1 (subst (λ k. ByteAt b k 34) (sym o.0) q))
    ])
