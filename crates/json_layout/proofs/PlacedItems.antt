-- Short strings stored after other bytes.
use Rattle.std.proofs.Common.{◌≡◌, ℕ, ◌+◌, ◌≤◌, List, [], ◌∷◌, ◌++◌, length, take, Bool, true, false, refl, sym, ap, ◌∙◌, arith, append_assoc}
use Rattle.std.proofs.lemmas.List.{take-take, take_at, length-take-le}
use Rattle.json_model.specs.Print.{quoted}
use Rattle.json_scan.specs.Runs.{plain}
use Rattle.json_layout.specs.Pieces.{comma}
use Rattle.json_layout.proofs.Escapes.{plain_all}

-- what was stored after them leaves the first
pub front_stays : (old new x : List ℕ) (end at : ℕ) → end ≤ at → end ≤ length old → take at new ≡ take end old ++ x → take end new ≡ take end old
front_stays old new x end at l m h = sym (take-take end at new l) ∙ ap (take end) h ∙ take_at (take end old) x end (length-take-le end old m)

-- ... also what was stored after that
pub front_stays_on : (old new x : List ℕ) (end at : ℕ) (mid : List ℕ) → end ≤ at → end ≤ length old → take at mid ≡ take end old ++ x → take at new ≡ take at mid → take end new ≡ take end old
front_stays_on old new x end at mid l m h k = front_stays old new x end at l m (k ∙ h)

pub lead_placed : (old mid new : List ℕ) (end n : ℕ) (first : Bool) → end ≤ length old → (first ≡ true → n ≡ 0) → (first ≡ false → n ≡ 1) → take (end + 1) mid ≡ take end old ++ 44 ∷ [] → take (end + n + 1) new ≡ take (end + n) mid ++ 34 ∷ []
    → take (end + n + 1) new ≡ take end old ++ (comma first ++ 34 ∷ [])
lead_placed old mid new end n true m z o h k =
    let e : end + n ≡ end = omega (arith, z refl) in
    k ∙ ap (λ i. take i mid ++ 34 ∷ []) e ∙ ap (λ x. x ++ 34 ∷ []) (front_stays old mid (44 ∷ []) end (end + 1) (omega arith) m h)
lead_placed old mid new end n false m z o h k =
    let e : end + n ≡ end + 1 = omega (arith, o refl) in
    k ∙ ap (λ i. take i mid ++ 34 ∷ []) e ∙ ap (λ x. x ++ 34 ∷ []) h ∙ append_assoc (take end old) (44 ∷ []) (34 ∷ [])

pub item_placed : (old mid more new text : List ℕ) (end at : ℕ) (first : Bool) → plain text → take at mid ≡ take end old ++ (comma first ++ 34 ∷ []) → take (at + length text) more ≡ take at mid ++ text
    → take (at + length text + 1) new ≡ take (at + length text) more ++ 34 ∷ [] → take (at + length text + 1) new ≡ take end old ++ (comma first ++ quoted text)
item_placed old mid more new text end at first p h k l =
    let front = take end old in let lead = comma first ++ 34 ∷ [] in
    l ∙ ap (λ x. x ++ 34 ∷ []) (k ∙ ap (λ x. x ++ text) h) ∙ append_assoc (front ++ lead) text (34 ∷ []) ∙ append_assoc front lead (text ++ 34 ∷ [])
    ∙ ap (λ x. front ++ x) (append_assoc (comma first) (34 ∷ []) (text ++ 34 ∷ []) ∙ ap (λ x. comma first ++ 34 ∷ (x ++ 34 ∷ [])) (sym (plain_all text p)))
