-- Tokens, escaped from left to right.
use Rattle.std.proofs.Common.{subst, ◌≡◌, ◌≢◌, ℕ, zero, suc, ◌<◌, List, [], ◌∷◌, ◌++◌, Bool, true, false, cond, length, get_or, refl, sym, ap, ◌∙◌, arith, ◌==◌, append_assoc, append-nil}
use Rattle.json_patch.specs.Pointer.{slash, tilde, escaped_byte, escaped_token, Lacks, AppendsFrontOf}
use Rattle.json_patch.proofs.PointerParsing.{lacks_first, lacks_rest}

pub lacks_before : (c : ℕ) (a b : List ℕ) → Lacks c (a ++ b) → (i : ℕ) → i < length a → get_or a i 0 ≢ c
lacks_before c [] b h i l = absurd (omega arith)
lacks_before c (x ∷ a) b h zero l = h 0 (omega arith)
lacks_before c (x ∷ a) b h (suc i) l = lacks_before c a b (lacks_rest c x (a ++ b) h) i (omega arith)

pub lacks_after : (c : ℕ) (a b : List ℕ) → Lacks c (a ++ b) → Lacks c b
lacks_after c [] b h = h
lacks_after c (x ∷ a) b h = lacks_after c a b (lacks_rest c x (a ++ b) h)

pub escaped_token-append : (a b : List ℕ) → escaped_token (a ++ b) ≡ escaped_token a ++ escaped_token b
escaped_token-append [] b = refl
escaped_token-append (x ∷ a) b = ap (λ s. escaped_byte x ++ s) (escaped_token-append a b) ∙ sym (append_assoc (escaped_byte x) (escaped_token a) (escaped_token b))

-- bytes without a tilde and a slash stay as they are
pub escaped_token-plain : (a : List ℕ) → Lacks 126 a → Lacks 47 a → escaped_token a ≡ a
escaped_token-plain [] t s = refl
escaped_token-plain (x ∷ a) t s = by (x == tilde) (x == slash) (lacks_first 126 x a t) (lacks_first 47 x a s) (escaped_token-plain a (lacks_rest 126 x a t) (lacks_rest 47 x a s))
  where
    by : (b d : Bool) → b ≡ false → d ≡ false → escaped_token a ≡ a → cond b (tilde ∷ 48 ∷ []) (cond d (tilde ∷ 49 ∷ []) (x ∷ [])) ++ escaped_token a ≡ x ∷ a
    by true d e f h = cc
    by false true e f h = cc
    by false false e f h = ap (λ r. x ∷ r) h

-- the text so far, and what is left of the bytes; a part before a slash is escaped
pub slash_escaped : (whole text remaining plain after text' : List ℕ) → whole ≡ text ++ escaped_token remaining → remaining ≡ plain ++ (47 ∷ after) → Lacks 126 remaining → Lacks 47 plain → text' ≡ (text ++ plain) ++ (126 ∷ 49 ∷ [])
    → (whole ≡ text' ++ escaped_token after) × Lacks 126 after
slash_escaped whole text remaining plain after text' h e t s g =
    let here : Lacks 126 (plain ++ (47 ∷ after)) = subst (Lacks 126) e t in
    let same : escaped_token remaining ≡ plain ++ (126 ∷ 49 ∷ escaped_token after)
    = ap escaped_token e ∙ escaped_token-append plain (47 ∷ after) ∙ ap (λ a. a ++ (126 ∷ 49 ∷ escaped_token after)) (escaped_token-plain plain (lacks_before 126 plain (47 ∷ after) here) s) in (
      h ∙ ap (λ r. text ++ r) same ∙ sym (append_assoc text plain (126 ∷ 49 ∷ escaped_token after)) ∙ sym (append_assoc (text ++ plain) (126 ∷ 49 ∷ []) (escaped_token after)) ∙ ap (λ a. a ++ escaped_token after) (sym g),
      lacks_rest 126 47 after (lacks_after 126 plain (47 ∷ after) here),
    )

-- the last part is escaped
pub end_escaped : (whole text remaining text' : List ℕ) → whole ≡ text ++ escaped_token remaining → Lacks 126 remaining → Lacks 47 remaining → text' ≡ text ++ remaining → text' ≡ whole
end_escaped whole text remaining text' h t s g = g ∙ ap (λ a. text ++ a) (sym (escaped_token-plain remaining t s)) ∙ sym h

-- a part before a tilde is escaped, and then the tilde
pub tilde_escaped : (whole text remaining plain after text' : List ℕ) → whole ≡ text ++ escaped_token remaining → remaining ≡ plain ++ (126 ∷ after) → text' ≡ (text ++ escaped_token plain) ++ (126 ∷ 48 ∷ []) → whole ≡ text' ++ escaped_token after
tilde_escaped whole text remaining plain after text' h e g =
    h ∙ ap (λ r. text ++ escaped_token r) e ∙ ap (λ r. text ++ r) (escaped_token-append plain (126 ∷ after)) ∙ sym (append_assoc text (escaped_token plain) (126 ∷ 48 ∷ escaped_token after))
    ∙ sym (append_assoc (text ++ escaped_token plain) (126 ∷ 48 ∷ []) (escaped_token after)) ∙ ap (λ a. a ++ escaped_token after) (sym g)

-- ---- fronts

-- a front of the bytes was appended to the old text, and this is left of them
pub record FrontWritten (old text bytes rest : List ℕ) : Type 0 where
  pub front : List ℕ
  pub appended : text ≡ old ++ front
  pub parted : bytes ≡ front ++ rest

front_more : (old text bytes rest text' more rest' : List ℕ) → FrontWritten old text bytes rest → text' ≡ text ++ more → rest ≡ more ++ rest' → FrontWritten old text' bytes rest'
front_more old text bytes rest text' more rest' h e f = record {
  front = h.front ++ more;
  appended = e ∙ ap (λ a. a ++ more) h.appended ∙ append_assoc old h.front more;
  parted = h.parted ∙ ap (λ r. h.front ++ r) f ∙ sym (append_assoc h.front more rest');
}

pub front_stays : (old text bytes rest text' : List ℕ) → FrontWritten old text bytes rest → text' ≡ text → AppendsFrontOf old text' bytes
front_stays old text bytes rest text' h e = record { front = h.front; back = rest; whole = h.parted; appended = e ∙ h.appended }

-- a front of the next piece was appended
pub front_of_piece : (old text bytes piece rest' text' : List ℕ) → FrontWritten old text bytes (piece ++ rest') → AppendsFrontOf text text' piece → AppendsFrontOf old text' bytes
front_of_piece old text bytes piece rest' text' h g =
    let more = front_more old text bytes (piece ++ rest') text' g.front (g.back ++ rest') h g.appended (ap (λ a. a ++ rest') g.whole ∙ append_assoc g.front g.back rest') in
    front_stays old text' bytes (g.back ++ rest') text' more refl

module _ (old text bytes remaining plain after : List ℕ) (h : FrontWritten old text bytes (escaped_token remaining)) where
  module _ (e : remaining ≡ plain ++ (47 ∷ after)) (t : Lacks 126 remaining) (s : Lacks 47 plain) where
    -- the part before a slash was appended
    pub plain_front : FrontWritten old (text ++ plain) bytes (126 ∷ 49 ∷ escaped_token after)
    plain_front =
        let here : Lacks 126 (plain ++ (47 ∷ after)) = subst (Lacks 126) e t in
        let same : escaped_token remaining ≡ plain ++ (126 ∷ 49 ∷ escaped_token after)
        = ap escaped_token e ∙ escaped_token-append plain (47 ∷ after) ∙ ap (λ a. a ++ (126 ∷ 49 ∷ escaped_token after)) (escaped_token-plain plain (lacks_before 126 plain (47 ∷ after) here) s) in
        front_more old text bytes (escaped_token remaining) (text ++ plain) plain (126 ∷ 49 ∷ escaped_token after) h refl same

    pub slash_front : (text' : List ℕ) → text' ≡ (text ++ plain) ++ (126 ∷ 49 ∷ []) → FrontWritten old text' bytes (escaped_token after)
    slash_front text' g = front_more old (text ++ plain) bytes (126 ∷ 49 ∷ escaped_token after) text' (126 ∷ 49 ∷ []) (escaped_token after) plain_front g refl

  module _ (e : remaining ≡ plain ++ (126 ∷ after)) where
    -- the part before a tilde is next
    pub piece_next : FrontWritten old text bytes (escaped_token plain ++ (126 ∷ 48 ∷ escaped_token after))
    piece_next = let same : escaped_token remaining ≡ escaped_token plain ++ (126 ∷ 48 ∷ escaped_token after) = ap escaped_token e ∙ escaped_token-append plain (126 ∷ after) in subst (FrontWritten old text bytes) same h

    pub piece_front : FrontWritten old (text ++ escaped_token plain) bytes (126 ∷ 48 ∷ escaped_token after)
    piece_front = front_more old text bytes (escaped_token plain ++ (126 ∷ 48 ∷ escaped_token after)) (text ++ escaped_token plain) (escaped_token plain) (126 ∷ 48 ∷ escaped_token after) piece_next refl refl

    pub tilde_front : (text' : List ℕ) → text' ≡ (text ++ escaped_token plain) ++ (126 ∷ 48 ∷ []) → FrontWritten old text' bytes (escaped_token after)
    tilde_front text' g = front_more old (text ++ escaped_token plain) bytes (126 ∷ 48 ∷ escaped_token after) text' (126 ∷ 48 ∷ []) (escaped_token after) piece_front g refl

-- the last piece
pub last_piece : (old text bytes piece text' : List ℕ) → FrontWritten old text bytes piece → AppendsFrontOf text text' piece → AppendsFrontOf old text' bytes
last_piece old text bytes piece text' h g = front_of_piece old text bytes piece [] text' (subst (FrontWritten old text bytes) (sym (append-nil piece)) h) g

-- nothing was appended
pub front_none : (old bytes : List ℕ) → FrontWritten old old bytes bytes
front_none old bytes = record { front = []; appended = sym (append-nil old); parted = refl }
