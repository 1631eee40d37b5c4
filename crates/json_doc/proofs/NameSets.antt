-- What is known of the names of open containers, event by event.
use Rattle.std.proofs.Common.{◌≡◌, ◌⊎◌, inl, inr, ◌↔◌, Bool, true, false, cond, ◌||◌, ℕ, ◌<◌, List, [], ◌∷◌, ◌++◌, length, take, drop, refl, sym, ap, ◌∙◌, subst, arith, length-append, length-take}
use Rattle.std.specs.Prelude.{IsTrue, bytes_eq, not}
use Rattle.std.specs.List.{Contains, list_any}
use Rattle.std.specs.Borrow.{Bor}
use Rattle.std.specs.BTreeSet.{Updates}
use Rattle.std.specs.Cmp.Lexicographic.{slice_cmp}
use Rattle.std.specs.Cow.{cow_str_bytes}
use Rattle.std.specs.declared.borrow.CowStr.{CowStr}
use Rattle.std.specs.Cmp.{nat_cmp_total, tied_itself}
use Rattle.std.specs.Ordering.{nat_cmp, ordering_then, is_eq}
use Rattle.std.specs.declared.cmp.Ordering.{Ordering}
use Rattle.std.specs.declared.cmp.Ordering.TheVariants.{Less, Equal, Greater}
use Rattle.std.specs.declared.alloc.Global.{Global}
use Rattle.std.specs.declared.borrow.CowStr.TheVariants.{Borrowed}
use Rattle.std.proofs.lemmas.Map.Text.{is_eq-slice_cmp}
use Rattle.std.proofs.lemmas.List.{same_from_push, take-append-drop, take-append-le, drop-append-le, take_all, drop_all}
use Rattle.std.proofs.lemmas.List.Elements.{Contains-append_left, Contains-push, Contains-push_cases}
use Rattle.std.proofs.lemmas.List.Folds.{list_any-append}
use Rattle.std.proofs.lemmas.Slice.Eq.{bytes_eq-Decides}
use Rattle.json_grammar.specs.Repeated.{Keys, innermost_keys, outer_keys, with_key}
use Rattle.json_grammar.proofs.Lists.{cons_nil, none_behind}
use Rattle.json_doc.specs.OpenNames.{NameList, NameSet, front_of, row_has, set_has, names_have, AreNames, Around, nothing, around, OpenNamesHeld}
use Rattle.json_doc.specs.declared.open_keys.OuterKeys.{OuterKeys}

-- ---- the names of one container

same_bytes : (s t : List ℕ) → bytes_eq s t ≡ true → s ≡ t
same_bytes s t e = (bytes_eq-Decides s t).0 e

bytes_same : (s t : List ℕ) → s ≡ t → bytes_eq s t ≡ true
bytes_same s t e = (bytes_eq-Decides s t).1 e

row_there : (a b c : Bool) → ((a || (b || false)) || c) ≡ true → ((a || c) ≡ true) ⊎ (b ≡ true)
row_there true b c h = inl refl
row_there false true c h = inr refl
row_there false false c h = inl h

row_here : (a b c : Bool) → ((a || c) ≡ true) ⊎ (b ≡ true) → ((a || (b || false)) || c) ≡ true
row_here true b c h = refl
row_here false true c h = refl
row_here false false c (inl h) = h
row_here false false c (inr h) = absurd (cc)

set_there : (a b c : Bool) → (a || cond b true c) ≡ true → ((a || c) ≡ true) ⊎ (b ≡ true)
set_there true b c h = inl refl
set_there false true c h = inr refl
set_there false false c h = inl h

set_here : (a b c : Bool) → ((a || c) ≡ true) ⊎ (b ≡ true) → (a || cond b true c) ≡ true
set_here true b c h = refl
set_here false true c h = refl
set_here false false c (inl h) = h
set_here false false c (inr h) = absurd (cc)

-- the names ks and one more
more_names : (ks : Keys) (t s : List ℕ) (old new : Bool) → old ≡ true ↔ Contains ks s → (new ≡ true → (old ≡ true) ⊎ (bytes_eq t s ≡ true)) → ((old ≡ true) ⊎ (bytes_eq t s ≡ true) → new ≡ true)
    → new ≡ true ↔ Contains (ks ++ t ∷ []) s
more_names ks t s old new a there here = (λ h. forth (there h), λ c. here (back (Contains-push_cases ks t s c)))
  where
    forth : (old ≡ true) ⊎ (bytes_eq t s ≡ true) → Contains (ks ++ t ∷ []) s
    forth (inl e) = Contains-append_left ks (t ∷ []) s (a.0 e)
    forth (inr e) = subst (λ u. Contains (ks ++ t ∷ []) u) (same_bytes t s e) (Contains-push ks t)

    back : Contains ks s ⊎ (t ≡ s) → (old ≡ true) ⊎ (bytes_eq t s ≡ true)
    back (inl c) = inl (a.1 c)
    back (inr e) = inr (bytes_same t s e)

no_names : (m : NameSet) → m.keys ≡ [] → AreNames [] m []
no_names m e s = (λ h. absurd (by h), λ c. let l = c.1 in absurd (omega arith))
  where
    by : set_has m s ≡ true → ⊥
    by h = let f : false ≡ true = rw e at h in absurd (cc)

plain_added : (few : NameList) (m : NameSet) (ks : Keys) (n : Bor (List ℕ)) → AreNames few m ks → AreNames (few ++ n ∷ []) m (ks ++ n.now ∷ [])
plain_added few m ks n a s =
    let row : list_any (λ y. bytes_eq y.now s) (few ++ n ∷ []) ≡ (list_any (λ y. bytes_eq y.now s) few || (bytes_eq n.now s || false)) = list_any-append (λ y. bytes_eq y.now s) few (n ∷ []) in
    more_names ks n.now s (names_have few m s) (names_have (few ++ n ∷ []) m s) (a s)
    (λ h. row_there (row_has few s) (bytes_eq n.now s) (set_has m s) (subst (λ v. (v || set_has m s) ≡ true) row h))
    (λ h. subst (λ v. (v || set_has m s) ≡ true) (sym row) (row_here (row_has few s) (bytes_eq n.now s) (set_has m s) h))

set_added : (few : NameList) (m n : NameSet) (ks : Keys) (t : List ℕ) → AreNames few m ks → ((s : List ℕ) → set_has n s ≡ cond (bytes_eq t s) true (set_has m s)) → AreNames few n (ks ++ t ∷ [])
set_added few m n ks t a e s =
    more_names ks t s (names_have few m s) (names_have few n s) (a s)
    (λ h. set_there (row_has few s) (bytes_eq t s) (set_has m s) (subst (λ v. (row_has few s || v) ≡ true) (e s) h))
    (λ h. subst (λ v. (row_has few s || v) ≡ true) (sym (e s)) (set_here (row_has few s) (bytes_eq t s) (set_has m s) h))

-- by number and by text as by text
then_is : (a b : Ordering) (c : Bool) → is_eq b ≡ c → (c ≡ true → a ≡ Equal) → is_eq (ordering_then a b) ≡ c
then_is Equal b c e h = e
then_is Less b true e h = let f = h refl in absurd (cc)
then_is Less b false e h = refl
then_is Greater b true e h = let f = h refl in absurd (cc)
then_is Greater b false e h = refl

named : (t s : List ℕ) → is_eq (ordering_then (nat_cmp (front_of t) (front_of s)) (slice_cmp nat_cmp t s)) ≡ bytes_eq t s
named t s = then_is (nat_cmp (front_of t) (front_of s)) (slice_cmp nat_cmp t s) (bytes_eq t s) (is_eq-slice_cmp t s)
    (λ e. subst (λ u. nat_cmp (front_of t) (front_of u) ≡ Equal) (same_bytes t s e) (tied_itself nat_cmp_total (front_of t)))

abbrev pub by_front : ℕ × CowStr Global → ℕ × CowStr Global → Ordering
by_front x y = ordering_then (nat_cmp x.0 y.0) (slice_cmp nat_cmp (cow_str_bytes x.1) (cow_str_bytes y.1))

-- after the insertion of a name
pub set_updated : (m n : NameSet) (f : ℕ) (t : CowStr Global) → f ≡ front_of (cow_str_bytes t) → Updates by_front m n (f, t) true
    → (s : List ℕ) → set_has n s ≡ cond (bytes_eq (cow_str_bytes t) s) true (set_has m s)
set_updated m n f t e h s =
    let k : Updates by_front m n (front_of (cow_str_bytes t), t) true = subst (λ g. Updates by_front m n (g, t) true) e h in
    k.0 (front_of s, Borrowed (record { ref_ptr = (0, 0); now = s })) ∙ ap (λ b. cond b true (set_has m s)) (named (cow_str_bytes t) s)

-- ---- the containers around the innermost

record Left (few : NameList) (outer : List OuterKeys) (o : OuterKeys) (all : List Keys) : Type 0 where
  ks : Keys
  rest : List Keys
  front : NameList
  row : NameList
  all_is : all ≡ ks ∷ rest
  few_is : few ≡ front ++ row
  outside : Around front outer rest
  starts : o.start ≡ length front
  names : AreNames row o.many (innermost_keys rest)

left : (few : NameList) (os outer : List OuterKeys) (o : OuterKeys) (all : List Keys) → Around few os all → os ≡ outer ++ o ∷ [] → Left few outer o all
left _ _ outer o _ nothing e = absurd (cons_nil o [] (none_behind outer (o ∷ []) (sym e)))
left _ _ outer o _ (around {few = front} {outer = os} {all = rest} row q ks a l n) e =
    let same = same_from_push os outer q o e in
    record {
      ks = ks;
      rest = rest;
      front = front;
      row = row;
      all_is = refl;
      few_is = refl;
      outside = subst (λ z. Around front z rest) same.0 a;
      starts = subst (λ z. z.start ≡ length front) same.1 l;
      names = subst (λ z. AreNames row z.many (innermost_keys rest)) same.1 n;
    }

-- another name of the innermost leaves those around it
around_same : (few : NameList) (outer : List OuterKeys) (all : List Keys) (s : List ℕ) → Around few outer all → Around few outer (with_key all s)
around_same _ _ _ s nothing = nothing
around_same _ _ _ s (around row o ks a l n) = around row o (ks ++ s ∷ []) a l n

nothing_around : (few : NameList) (outer : List OuterKeys) (all : List Keys) → Around few outer all → outer ≡ [] → all ≡ []
nothing_around _ _ _ nothing e = refl
nothing_around _ _ _ (around {outer = os} row o ks a l n) e = absurd (cons_nil o [] (none_behind os (o ∷ []) e))

some_around : (few : NameList) (outer : List OuterKeys) (all : List Keys) → Around few outer all → 0 < length outer → (ks : Keys) × (rest : List Keys) × (all ≡ ks ∷ rest)
some_around _ _ _ nothing l = absurd (omega arith)
some_around _ _ _ (around {all = rest} row o ks a n m) l = (ks, rest, refl)

-- ---- event by event

pub state_start : (few : NameList) (m : NameSet) (outer : List OuterKeys) → few ≡ [] → m.keys ≡ [] → outer ≡ [] → OpenNamesHeld few 0 m outer []
state_start few m outer f e g = rw (f, g) (record { within = omega arith; here = no_names m e; outside = nothing })

pub state_began : (few : NameList) (start len : ℕ) (many none : NameSet) (outer : List OuterKeys) (o : OuterKeys) (all : List Keys)
    → OpenNamesHeld few start many outer all → none.keys ≡ [] → o.start ≡ start → o.many ≡ many → len ≡ length few
    → OpenNamesHeld few len none (outer ++ o ∷ []) ([] ∷ all)
state_began few start len many none outer o all h e a b l = record {
  within = omega arith;
  here = subst (λ r. AreNames r none []) (sym (drop_all len few (omega arith))) (no_names none e);
  outside = subst (λ r. Around r (outer ++ o ∷ []) ([] ∷ all)) (take-append-drop start few ∙ sym (take_all len few (omega arith)))
      (around (drop start few) o [] h.outside (let w = h.within in omega (arith, length-take start few)) (subst (λ m. AreNames (drop start few) m (innermost_keys all)) (sym b) h.here));
}

pub state_ended : (few : NameList) (start : ℕ) (many : NameSet) (os outer : List OuterKeys) (o : OuterKeys) (all : List Keys)
    → OpenNamesHeld few start many os all → os ≡ outer ++ o ∷ [] → OpenNamesHeld (take start few) o.start o.many outer (outer_keys all)
state_ended few start many os outer o all h e = by (left (take start few) os outer o all h.outside e)
  where
    by : Left (take start few) outer o all → OpenNamesHeld (take start few) o.start o.many outer (outer_keys all)
    by l = rw (l.all_is, l.few_is) (record {
      within = let s = l.starts in omega (arith, length-append l.front l.row);
      here = subst (λ r. AreNames r o.many (innermost_keys l.rest)) (sym (ap (λ n. drop n (l.front ++ l.row)) l.starts ∙ drop_front l.front l.row)) l.names;
      outside = subst (λ r. Around r outer l.rest) (sym (ap (λ n. take n (l.front ++ l.row)) l.starts ∙ take_front l.front l.row)) l.outside;
    })
      where
        drop_front : (a b : NameList) → drop (length a) (a ++ b) ≡ b
        drop_front [] b = refl
        drop_front (x ∷ a) b = drop_front a b

        take_front : (a b : NameList) → take (length a) (a ++ b) ≡ a
        take_front [] b = refl
        take_front (x ∷ a) b = ap (λ z. x ∷ z) (take_front a b)

-- with nothing open nothing ends
pub state_none : (few : NameList) (start : ℕ) (many : NameSet) (outer outer' : List OuterKeys) (all : List Keys) → OpenNamesHeld few start many outer all → outer ≡ [] → outer' ≡ [] → OpenNamesHeld few start many outer' (outer_keys all)
state_none few start many outer outer' all h e f =
    let a = nothing_around (take start few) outer all h.outside e in
    subst (λ z. OpenNamesHeld few start many z (outer_keys all)) (e ∙ sym f) (subst (λ z. OpenNamesHeld few start many outer z) (a ∙ sym (ap outer_keys a)) h)

-- and no name repeats
pub state_outside : (few : NameList) (start : ℕ) (many : NameSet) (outer : List OuterKeys) (all : List Keys) (t : List ℕ) → OpenNamesHeld few start many outer all → outer ≡ []
    → (IsTrue false ↔ Contains (innermost_keys all) t) × (false ≡ false → OpenNamesHeld few start many outer (with_key all t))
state_outside few start many outer all t h e =
    subst (λ z. OpenNamesHeld few start many outer z → (IsTrue false ↔ Contains (innermost_keys z) t) × (false ≡ false → OpenNamesHeld few start many outer (with_key z t)))
    (sym (nothing_around (take start few) outer all h.outside e))
    (λ k. ((λ g. absurd (cc), λ c. let l = c.1 in absurd (omega arith)), λ g. k)) h

pub absent : (few : NameList) (many : NameSet) (ks : Keys) (s : List ℕ) (r : Bool) → AreNames few many ks → r ≡ names_have few many s → r ≡ false → IsTrue false ↔ Contains ks s
absent few many ks s r a e f = (λ g. absurd (cc), λ c. sym f ∙ e ∙ (a s).1 c)

twice : (b a : Bool) → a ≡ not b → not a ≡ b
twice true a e = ap not e
twice false a e = ap not e

-- a name that is not in the row is there exactly where the set has it
pub reported_by_set : (few : NameList) (many : NameSet) (ks : Keys) (s : List ℕ) (row added : Bool) → AreNames few many ks → row ≡ row_has few s → row ≡ false → added ≡ not (set_has many s) → IsTrue (not added) ↔ Contains ks s
reported_by_set few many ks s row added a r f e = subst (λ b. IsTrue b ↔ Contains ks s) (ap (λ b. b || set_has many s) (sym r ∙ f) ∙ sym (twice (set_has many s) added e)) (a s)

pub nothing_there : {X : Type 0} (xs : List X) → length xs ≡ 0 → xs ≡ []
nothing_there [] e = refl
nothing_there (x ∷ xs) e = absurd (omega arith)

pub state_plain : (few : NameList) (start : ℕ) (many : NameSet) (outer : List OuterKeys) (all : List Keys) (n : Bor (List ℕ))
    → OpenNamesHeld few start many outer all → 0 < length outer → OpenNamesHeld (few ++ n ∷ []) start many outer (with_key all n.now)
state_plain few start many outer all n h l =
    let some = some_around (take start few) outer all h.outside l in
    let w = h.within in
    record {
      within = omega (arith, length-append few (n ∷ []));
      here = rw (some.2, drop-append-le start few (n ∷ []) w) (plain_added (drop start few) many some.0 n (rw some.2 at h.here));
      outside = subst (λ r. Around r outer (with_key all n.now)) (sym (take-append-le start few (n ∷ []) w)) (around_same (take start few) outer all n.now h.outside);
    }

pub state_set : (few : NameList) (start : ℕ) (many more : NameSet) (outer : List OuterKeys) (all : List Keys) (t : List ℕ)
    → OpenNamesHeld few start many outer all → 0 < length outer → ((s : List ℕ) → set_has more s ≡ cond (bytes_eq t s) true (set_has many s))
    → OpenNamesHeld few start more outer (with_key all t)
state_set few start many more outer all t h l e =
    let some = some_around (take start few) outer all h.outside l in
    record {
      within = h.within;
      here = rw some.2 (set_added (drop start few) many more some.0 t (rw some.2 at h.here) e);
      outside = around_same (take start few) outer all t h.outside;
    }
