-- A text that is written by a serializer, and what a sink has gained of it.
use Rattle.std.proofs.Common.{◌≡◌, ℕ, List, [], ◌∷◌, ◌++◌, length, drop, Bool, false, Option, None, Some, Ok, Err, refl, sym, ap, ap₂, subst, ◌∙◌, arith, append_assoc}
use Rattle.std.specs.Borrow.{GName}
use Rattle.std.proofs.lemmas.List.{take-append-drop, append_cancel_left}
use Rattle.json_grammar.specs.Tree.{Tree, tokens}
use Rattle.json_io.specs.declared.error.Error.{Error}
use Rattle.json_io.specs.Known.{Grows, append_known}
use Rattle.json_io.specs.Lending.{lent_as, ComesBack}
use Rattle.json_io.specs.Outside.{SinkState, Loan}
use Rattle.json_io.specs.Transfer.{AppendsFront}
use Rattle.json_print.specs.Given.{TokenOrInteger, token_of, given_tokens}
use Rattle.json_print.specs.Layouts.{FormatterModel, LaidOut}
use Rattle.json_print.specs.Printer.{SerializerState, StopsAtToken, StopsTaking, after, took, start}
use Rattle.json_layout.specs.Shown.{shown_as}
use Rattle.json_print.specs.Taking.{after_all, StopsAmong}
use Rattle.json_layout.specs.TextWriting.{WritesText}
use Rattle.json_print.specs.Written.{Written}
use Rattle.json_print.proofs.Taking.{took_all, tokens_append}

-- ---- what has the tokens of a tree, given to a serializer

pub all_written : {F : Type 0} {m : FormatterModel F} {f : F} {sorts : Bool} {w new : SinkState} {first now : SerializerState F} {i : Option (List ℕ)} (t : Tree) (gs : List TokenOrInteger) (u : Unit {0})
    → LaidOut m f i 0 false → first ≡ start f sorts w → given_tokens gs ≡ tokens t → now ≡ after_all (took m) first gs → Written m now new → WritesText w new (shown_as i sorts t) (Ok u)
all_written {m = m} {f = f} {sorts = sorts} {w = w} {first = first} {i = i} t gs u laid s z h k =
    let all = h ∙ took_all m first gs ∙ ap₂ (λ a b. after_all (after m) a b) s z in
    let c = k.calm f sorts w (tokens t) all in
    record { ok = k.whole f sorts w i t laid all; calm = c.0; prefix = tt; cause = tt; reported = λ l. absurd (omega (arith, l, c.0)); same_loan = c.1 }

pub stopped_written : {F : Type 0} {m : FormatterModel F} {f : F} {sorts : Bool} {w new : SinkState} {first now : SerializerState F} {gs : List TokenOrInteger} {i : Option (List ℕ)} {e : Error} (t : Tree)
    → LaidOut m f i 0 false → first ≡ start f sorts w → given_tokens gs ≡ tokens t → StopsAmong (took m) (StopsTaking m) first now gs e → Written m now new → WritesText w new (shown_as i sorts t) (Err e)
stopped_written {F = F} {m = m} {f = f} {sorts = sorts} {w = w} {first = first} {now = now} {i = i} {e = e} t laid s z met k =
    let at = token_of met.at in let front = given_tokens met.front in
    let stop = subst (λ (o : SerializerState F). StopsAtToken m o at now e) (took_all m first met.front ∙ ap (λ o. after_all (after m) o front) s) met.left in
    let c = k.caused f sorts w front at e stop in
    record {
      ok = tt;
      calm = tt;
      prefix = k.stopped f sorts w i t front (given_tokens met.back) at e laid (sym z ∙ ap given_tokens met.whole ∙ tokens_append met.front (met.at ∷ met.back)) stop;
      cause = c.cause;
      reported = λ l. ap Err (c.reported l);
      same_loan = c.same_loan;
    }

-- ---- what a sink has gained

some_same : {A : Type 0} {x y : A} → Some x ≡ Some y → x ≡ y
some_same e = cc

-- what is a prefix of the old bytes and the text, and has the old bytes, is those and a front of the text
pub front_gained : (a b : Option (List ℕ)) (text rest : List ℕ) → append_known a text ≡ append_known b rest → Grows a b → AppendsFront a b text
front_gained None None text rest e g = record { front = []; back = text; whole = refl; gains = refl }
front_gained None (Some y) text rest e g = absurd (cc)
front_gained (Some x) None text rest e g = absurd (cc)
front_gained (Some x) (Some y) text rest e g =
    let n = length x in
    let here : y ≡ x ++ drop n y = sym (take-append-drop n y) ∙ ap (λ l. l ++ drop n y) (some_same g) in
    let both : x ++ text ≡ x ++ (drop n y ++ rest) = some_same e ∙ ap (λ l. l ++ rest) here ∙ append_assoc x (drop n y) rest in
    record { front = drop n y; back = rest; whole = append_cancel_left x _ _ both; gains = ap Some here }

-- ---- the borrowed sink that is returned

-- it is the loan that was begun
pub same_loan : (old now sent began : SinkState) (name name' : GName) → began ≡ lent_as old name old.gained → sent.loan ≡ began.loan → (back : ComesBack sent now name')
    → ◌≡◌ {A = Loan} (record { name = name'; began = back.began }) (record { name = name; began = old.gained })
same_loan old now sent began name name' b h back = some_same (ap (λ (x : SinkState). x.loan) (sym back.as_lent) ∙ h ∙ ap (λ (x : SinkState). x.loan) b)

pub same_name : (old now sent began : SinkState) (name name' : GName) → began ≡ lent_as old name old.gained → sent.loan ≡ began.loan → ComesBack sent now name' → name' ≡ name
same_name old now sent began name name' b h back = ap (λ (l : Loan). l.name) (same_loan old now sent began name name' b h back)

-- since then it only gained more
pub grown : (old now sent began : SinkState) (name name' : GName) → began ≡ lent_as old name old.gained → sent.loan ≡ began.loan → ComesBack sent now name' → Grows old.gained now.gained
grown old now sent began name name' b h back = subst (λ x. Grows x now.gained) (ap (λ (l : Loan). l.began) (same_loan old now sent began name name' b h back)) back.grew

-- ... and is what was sent, but for the loan
pub sent_back : (old now sent began : SinkState) (name name' : GName) → began ≡ lent_as old name old.gained → sent.loan ≡ began.loan → ComesBack sent now name' → sent ≡ lent_as now name old.gained
sent_back old now sent began name name' b h back =
    let loan = same_loan old now sent began name name' b h back in
    back.as_lent ∙ ap (λ n. lent_as now n back.began) (ap (λ (l : Loan). l.name) loan) ∙ ap (lent_as now name) (ap (λ (l : Loan). l.began) loan)
