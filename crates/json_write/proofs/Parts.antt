-- The parts of data, given in turn.
use Rattle.std.proofs.Common.{◌≡◌, List, [], ◌∷◌, ◌++◌, Bool, true, false, Option, Some, None, Ok, Err, Result, IfSome, refl, sym, ap, subst, ◌∙◌, append_assoc, cond}
use Rattle.json_io.specs.declared.error.Error.{Error}
use Rattle.json_io.specs.Errors.{key_has_no_text}
use Rattle.json_print.specs.Data.{before_gap, keys_have_texts}
use Rattle.json_print.specs.Given.{TokenOrInteger, token_of}
use Rattle.json_print.specs.Taking.{after_all, Takes}
use Rattle.json_print.proofs.Data.{before_append, whole_append, gap_append}
use Rattle.json_write.specs.Writing.{WritesDatumTokens, IsTokenProper, AreTokensProper}
use Rattle.json_buffer.proofs.TextLaws.{after_append}

-- ---- where the gaps are

pub whole_front : (ps qs : List (Option TokenOrInteger)) → keys_have_texts (ps ++ qs) ≡ true → keys_have_texts ps ≡ true
whole_front [] qs w = refl
whole_front (None ∷ ps) qs w = absurd (cc)
whole_front (Some t ∷ ps) qs w = whole_front ps qs w

pub whole_back : (ps qs : List (Option TokenOrInteger)) → keys_have_texts (ps ++ qs) ≡ true → keys_have_texts qs ≡ true
whole_back [] qs w = w
whole_back (None ∷ ps) qs w = absurd (cc)
whole_back (Some t ∷ ps) qs w = whole_back ps qs w

before_gap_append : (ps qs : List (Option TokenOrInteger)) → keys_have_texts ps ≡ false → before_gap (ps ++ qs) ≡ before_gap ps
before_gap_append [] qs w = absurd (cc)
before_gap_append (None ∷ ps) qs w = refl
before_gap_append (Some t ∷ ps) qs w = ap (λ ts. t ∷ ts) (before_gap_append ps qs w)

-- what follows
before_more : (ps qs : List (Option TokenOrInteger)) → (more : List TokenOrInteger) × (before_gap (ps ++ qs) ≡ before_gap ps ++ more)
before_more [] qs = (before_gap qs, refl)
before_more (None ∷ ps) qs = ([], refl)
before_more (Some t ∷ ps) qs = let r = before_more ps qs in (r.0, ap (λ ts. t ∷ ts) r.1)

answer_whole : (b : Bool) (u : Unit {0}) → ◌≡◌ {A = Result (Unit {0}) Error} (Ok u) (cond b (Ok tt) (Err key_has_no_text)) → b ≡ true
answer_whole true u e = refl
answer_whole false u e = absurd (cc)

pub answer_gap : (b : Bool) (x : Error) → ◌≡◌ {A = Result (Unit {0}) Error} (Err x) (cond b (Ok tt) (Err key_has_no_text)) → b ≡ false
answer_gap true x e = absurd (cc)
answer_gap false x e = refl

proper_append : (a b : List TokenOrInteger) → AreTokensProper a → AreTokensProper b → AreTokensProper (a ++ b)
proper_append [] b h k = k
proper_append (t ∷ a) b h k = (h.0, proper_append a b h.1 k)

if_none : (err : Option Error) (P : Error → Type 0) → err ≡ None → IfSome err P
if_none None P f = tt
if_none (Some e) P f = absurd (cc)

-- ---- what Ok tells

pub record Wrote {S : Type 0} (after : S → TokenOrInteger → S) (old new : S) (err err' : Option Error) (ps : List (Option TokenOrInteger)) : Type 0 where
  pub begun : err ≡ None
  pub fresh : err' ≡ None
  pub state : new ≡ after_all after old (before_gap ps)
  pub whole : keys_have_texts ps ≡ true
  pub proper : AreTokensProper (before_gap ps)

pub wrote : {S : Type 0} {after : S → TokenOrInteger → S} {stopped : S → TokenOrInteger → S → Error → Type 0} {old new : S} {err err' : Option Error} {ps : List (Option TokenOrInteger)} {u : Unit {0}} → WritesDatumTokens after stopped old new err err' ps (Ok u) → Wrote after old new err err' ps
wrote {err = None} {err' = None} {ps = ps} {u = u} h = record { begun = refl; fresh = refl; state = h.given refl; whole = answer_whole (keys_have_texts ps) u (h.answer refl); proper = h.proper refl }
wrote {err = Some x} {err' = None} h = let r = h.kept.0 in absurd (cc)
wrote {err' = Some e} h = let r = h.again in absurd (cc)

-- ---- one

pub writes_token : {S : Type 0} {after : S → TokenOrInteger → S} {stopped : S → TokenOrInteger → S → Error → Type 0} {old new : S} {err err' : Option Error} {t : TokenOrInteger} {r : Result (Unit {0}) Error}
    → IsTokenProper (token_of t) → Takes after stopped old new err err' t r → WritesDatumTokens after stopped old new err err' (Some t ∷ []) r
writes_token {r = Ok u} p h = rw h.fresh (record { given = λ _. h.ok; answer = λ _. refl; proper = λ _. (p, tt); again = tt; stops = λ _. tt; kept = h.again })
writes_token {old = old} {t = t} {r = Err e} p h =
    rw h.failed (record { given = λ n. absurd (cc); answer = λ n. absurd (cc); proper = λ n. absurd (cc); again = refl; stops = λ n. record { front = []; at = t; back = []; whole = refl; left = h.stopped n }; kept = h.again })

-- a key that has no text
pub writes_gap : {S : Type 0} {after : S → TokenOrInteger → S} {stopped : S → TokenOrInteger → S → Error → Type 0} {old : S} {err : Option Error} {ps : List (Option TokenOrInteger)}
    → err ≡ None → WritesDatumTokens after stopped old old err err (None ∷ ps) (Err key_has_no_text)
writes_gap n = rw n (record { given = λ _. refl; answer = λ _. refl; proper = λ _. tt; again = tt; stops = λ _. tt; kept = tt })

-- ---- one after another

pub writes_then : {S : Type 0} {after : S → TokenOrInteger → S} {stopped : S → TokenOrInteger → S → Error → Type 0} {old mid new : S} {err err' err'' : Option Error} {ps qs : List (Option TokenOrInteger)} {r : Result (Unit {0}) Error}
    → Wrote after old mid err err' ps → WritesDatumTokens after stopped mid new err' err'' qs r → WritesDatumTokens after stopped old new err err'' (ps ++ qs) r
writes_then {after = after} {old = old} {mid = mid} {err = err} {err'' = None} {ps = ps} {qs = qs} w h =
    record {
      given = λ n. h.given n ∙ ap (λ s. after_all after s (before_gap qs)) w.state ∙ sym (after_append after old (before_gap ps) (before_gap qs)) ∙ ap (after_all after old) (sym (before_append ps qs w.whole));
      answer = λ n. h.answer n ∙ ap (λ b. cond b (Ok tt) (Err key_has_no_text)) (sym (whole_append ps qs w.whole));
      proper = λ n. subst AreTokensProper (sym (before_append ps qs w.whole)) (proper_append (before_gap ps) (before_gap qs) w.proper (h.proper n));
      again = tt;
      stops = λ n. tt;
      kept = if_none err _ w.begun;
    }
writes_then {after = after} {stopped = stopped} {old = old} {new = new} {err = err} {err'' = Some e} {ps = ps} {qs = qs} w h =
    let s = h.stops w.fresh in
    record {
      given = λ n. absurd (cc);
      answer = λ n. absurd (cc);
      proper = λ n. absurd (cc);
      again = h.again;
      stops = λ n. record {
        front = before_gap ps ++ s.front;
        at = s.at;
        back = s.back;
        whole = before_append ps qs w.whole ∙ ap (λ ts. before_gap ps ++ ts) s.whole ∙ sym (append_assoc (before_gap ps) s.front (s.at ∷ s.back));
        left = subst (λ z. stopped z s.at new e) (ap (λ z. after_all after z s.front) w.state ∙ sym (after_append after old (before_gap ps) s.front)) s.left;
      };
      kept = if_none err _ w.begun;
    }

-- what is answered first stays
pub writes_stop : {S : Type 0} {after : S → TokenOrInteger → S} {stopped : S → TokenOrInteger → S → Error → Type 0} {old new : S} {err err' : Option Error} {ps : List (Option TokenOrInteger)} {e : Error}
    → WritesDatumTokens after stopped old new err err' ps (Err e) → (qs : List (Option TokenOrInteger)) → WritesDatumTokens after stopped old new err err' (ps ++ qs) (Err e)
writes_stop {after = after} {old = old} {err' = None} {ps = ps} {e = e} h qs =
    let gap = answer_gap (keys_have_texts ps) e (h.answer refl) in
    record {
      given = λ n. h.given n ∙ ap (after_all after old) (sym (before_gap_append ps qs gap));
      answer = λ n. h.answer n ∙ ap (λ b. cond b (Ok tt) (Err key_has_no_text)) (gap ∙ sym (gap_append ps qs gap));
      proper = λ n. subst AreTokensProper (sym (before_gap_append ps qs gap)) (h.proper n);
      again = tt;
      stops = λ n. tt;
      kept = h.kept;
    }
writes_stop {err' = Some x} {ps = ps} h qs =
    let m = before_more ps qs in
    record {
      given = λ n. absurd (cc);
      answer = λ n. absurd (cc);
      proper = λ n. absurd (cc);
      again = h.again;
      stops = λ n. let s = h.stops n in record { front = s.front; at = s.at; back = s.back ++ m.0; whole = m.1 ∙ ap (λ ts. ts ++ m.0) s.whole ∙ append_assoc s.front (s.at ∷ s.back) m.0; left = s.left };
      kept = h.kept;
    }

pub wrote_then : {S : Type 0} {after : S → TokenOrInteger → S} {old mid new : S} {err err' err'' : Option Error} {ps qs : List (Option TokenOrInteger)} → Wrote after old mid err err' ps → Wrote after mid new err' err'' qs → Wrote after old new err err'' (ps ++ qs)
wrote_then {after = after} {old = old} {ps = ps} {qs = qs} v w =
    record {
      begun = v.begun;
      fresh = w.fresh;
      state = w.state ∙ ap (λ s. after_all after s (before_gap qs)) v.state ∙ sym (after_append after old (before_gap ps) (before_gap qs)) ∙ ap (after_all after old) (sym (before_append ps qs v.whole));
      whole = whole_append ps qs v.whole ∙ w.whole;
      proper = subst AreTokensProper (sym (before_append ps qs v.whole)) (proper_append (before_gap ps) (before_gap qs) v.proper w.proper);
    }

-- the same of equal parts
pub writes_same : {S : Type 0} {after : S → TokenOrInteger → S} {stopped : S → TokenOrInteger → S → Error → Type 0} {old new : S} {err err' : Option Error} {ps qs : List (Option TokenOrInteger)} {r : Result (Unit {0}) Error}
    → WritesDatumTokens after stopped old new err err' ps r → ps ≡ qs → WritesDatumTokens after stopped old new err err' qs r
writes_same {after = after} {stopped = stopped} {old = old} {new = new} {err = err} {err' = err'} {r = r} h e = subst (λ x. WritesDatumTokens after stopped old new err err' x r) e h

pub wrote_same : {S : Type 0} {after : S → TokenOrInteger → S} {old new : S} {err err' : Option Error} {ps qs : List (Option TokenOrInteger)} → Wrote after old new err err' ps → ps ≡ qs → Wrote after old new err err' qs
wrote_same {after = after} {old = old} {new = new} {err = err} {err' = err'} h e = subst (λ x. Wrote after old new err err' x) e h

-- what `?` answers
pub writes_err : {S : Type 0} {after : S → TokenOrInteger → S} {stopped : S → TokenOrInteger → S → Error → Type 0} {old new : S} {err err' : Option Error} {ps : List (Option TokenOrInteger)} {r : Result (Unit {0}) Error} {e : Error}
    → WritesDatumTokens after stopped old new err err' ps (Err e) → (y : Error) × (r ≡ Err y) × (y ≡ e) → WritesDatumTokens after stopped old new err err' ps r
writes_err {after = after} {stopped = stopped} {old = old} {new = new} {err = err} {err' = err'} {ps = ps} h p = subst (λ x. WritesDatumTokens after stopped old new err err' ps x) (sym (p.1 ∙ ap Err p.2)) h
