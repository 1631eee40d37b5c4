-- What arguments in a row ask for, and that arguments that may follow one another can be continued.
use Rattle.std.proofs.Common.{◌≡◌, ℕ, zero, suc, ◌+◌, ◌<◌, ◌≤◌, List, [], ◌∷◌, ◌++◌, length, take, Bool, true, false, not, cond, ◌&&◌, ◌==◌, Option, Some, None, is_some, option_map, slice_get, refl, sym, subst, ap, ◌∙◌, arith, length-append, codes}
use Rattle.std.proofs.Math.Dec.{eqb-suc-zero}
use Rattle.std.proofs.lemmas.List.{take_more}
use Rattle.std.proofs.lemmas.Option.{slice_get_within, get_or_from_slice_get}
use Rattle.mezdruk_arguments.specs.declared.verb.Verb.{Verb}
use Rattle.mezdruk_arguments.specs.declared.verb.Verb.TheVariants as verb
use Rattle.mezdruk_arguments.specs.declared.operand.OperandKind.{OperandKind}
use Rattle.mezdruk_arguments.specs.declared.line.ArgumentRole.{ArgumentRole}
use Rattle.mezdruk_arguments.specs.declared.line.ArgumentRole.TheVariants as role
use Rattle.mezdruk_arguments.specs.Arguments.{operands_of, kind_read}
use Rattle.mezdruk_arguments.specs.CommandLine.{ParsedArguments, nothing_asked, operands_asked, missing_operand, argument_role, command_role, role_in, add_argument, with_argument, MayTake, MayFollow, MayFollowAll, with_arguments, is_complete, BeginsCommandLine}
use Rattle.mezdruk_arguments.proofs.Operands.{example, example_formed, example_is_operand}

-- ---- arguments in a row

pub follow_split : (s : ParsedArguments) (xs ys : List (List ℕ)) → MayFollowAll s (xs ++ ys) → MayFollowAll s xs × MayFollowAll (with_arguments s xs) ys
follow_split s [] ys h = (tt, h)
follow_split s (x ∷ xs) ys h = let r = follow_split (with_argument s x) xs ys h.1 in ((h.0, r.0), r.1)

pub follow_join : (s : ParsedArguments) (xs ys : List (List ℕ)) → MayFollowAll s xs → MayFollowAll (with_arguments s xs) ys → MayFollowAll s (xs ++ ys)
follow_join s [] ys h k = k
follow_join s (x ∷ xs) ys h k = (h.0, follow_join (with_argument s x) xs ys h.1 k)

pub after_join : (s : ParsedArguments) (xs ys : List (List ℕ)) → with_arguments s (xs ++ ys) ≡ with_arguments (with_arguments s xs) ys
after_join s [] ys = refl
after_join s (x ∷ xs) ys = after_join (with_argument s x) xs ys

-- ---- they can be continued

-- what can follow
pub record Ends (s : ParsedArguments) : Type 0 where
  pub more : List (List ℕ)
  pub follow : MayFollowAll s more
  pub complete : is_complete (with_arguments s more) ≡ true

ends_after : (s : ParsedArguments) (w : List ℕ) → MayFollow s w → Ends (with_argument s w) → Ends s
ends_after s w h e = record { more = w ∷ e.more; follow = (h, e.follow); complete = e.complete }

within : (o : Option (List ℕ)) (f : OperandKind → OperandKind) (ks : List OperandKind) (m : ℕ) (k : OperandKind) → option_map f (cond (is_some o) None (slice_get ks m)) ≡ Some k → m < length ks
within (Some x) f ks m k e = absurd (cc)
within None f ks m k e = by (slice_get ks m) refl e
  where
    by : (o : Option OperandKind) → slice_get ks m ≡ o → option_map f o ≡ Some k → m < length ks
    by None g h = absurd (cc)
    by (Some j) g h = slice_get_within ks m j g

module _ (v : Verb) where
  role_after : (s : ParsedArguments) (w : List ℕ) → s.verb ≡ Some v → s.awaits_width ≡ false → role_in s w ≡ argument_role v s.ended (missing_operand s) w
  role_after s w e n = by s.verb (missing_operand s) s.awaits_width e n
    where
      by : (o : Option Verb) (m : Option OperandKind) (b : Bool) → o ≡ Some v → b ≡ false → elim o as (λ (x : Option Verb). ArgumentRole) [ Some v ↦ cond b role.Width (argument_role v s.ended m w) | None ↦ command_role w ] ≡ argument_role v s.ended m w
      by o m b e n = rw (e, n) refl

  file_role : (ended : Bool) (missing : Option OperandKind) → missing ≡ None → argument_role v ended missing (97 ∷ []) ≡ role.File
  file_role ended missing e = rw e refl

  not_empty : (xs : List (List ℕ)) (b : Bool) → not (length (xs ++ (97 ∷ []) ∷ []) == 0 && b) ≡ true
  not_empty [] b = refl
  not_empty (x ∷ xs) b = rw (eqb-suc-zero (length (xs ++ (97 ∷ []) ∷ []))) refl

  end_by_file : (s : ParsedArguments) → s.verb ≡ Some v → s.awaits_width ≡ false → missing_operand s ≡ None → Ends s
  end_by_file s e n m =
      let w : List ℕ = 97 ∷ [] in
      let r : role_in s w ≡ role.File = role_after s w e n ∙ file_role s.ended (missing_operand s) m in
      record {
        more = w ∷ [];
        follow = (subst (MayTake s w) (sym r) (record { allowed = refl; operand = tt }), tt);
        complete = subst (λ q. is_complete (add_argument s w q) ≡ true) (sym r) (by s.verb (missing_operand s) s.awaits_width e m n);
      }
    where
      by : (o : Option Verb) (p : Option OperandKind) (b : Bool) → o ≡ Some v → p ≡ None → b ≡ false → (is_some o && not (is_some p) && not b && not (length (s.files ++ (97 ∷ []) ∷ []) == 0 && s.settings.in_place)) ≡ true
      by o p b e m n = rw (e, m, n) (not_empty s.files s.settings.in_place)

  -- an operand that is missing, where the others can follow it
  end_by_operand : (s : ParsedArguments) (k : OperandKind) → s.verb ≡ Some v → s.awaits_width ≡ false → missing_operand s ≡ Some k
      → ((s' : ParsedArguments) → s'.verb ≡ s.verb → s'.awaits_width ≡ s.awaits_width → length s'.operands ≡ length s.operands + 1 → Ends s') → Ends s
  end_by_operand s k e n m others =
      let w = example k in
      let r : role_in s w ≡ role.Operand k = role_after s w e n ∙ example_is_operand v s.ended k (missing_operand s) m in
      ends_after s w (subst (MayTake s w) (sym r) (record { allowed = refl; operand = example_formed k }))
      (subst (λ q. Ends (add_argument s w q)) (sym r) (others (add_argument s w (role.Operand k)) refl refl (length-append s.operands ((k, w) ∷ []))))

  end_by_operands : (n : ℕ) (s : ParsedArguments) → s.verb ≡ Some v → s.awaits_width ≡ false → length (operands_asked s) ≤ n + length s.operands → Ends s
  end_by_operands zero s e a l = by (missing_operand s) refl
    where
      by : (o : Option OperandKind) → missing_operand s ≡ o → Ends s
      by None m = end_by_file s e a m
      by (Some k) m = absurd (omega (arith, within s.source (kind_read s.settings) (operands_asked s) (length s.operands) k m))
  end_by_operands (suc n) s e a l =
      by (missing_operand s) refl (λ s' e' a' l'. end_by_operands n s' (e' ∙ e) (a' ∙ a) (omega (arith, ap (λ (o : Option Verb). length (elim o as (λ (x : Option Verb). List OperandKind) [ Some v ↦ operands_of v | None ↦ [] ])) e')))
    where
      by : (o : Option OperandKind) → missing_operand s ≡ o → ((s' : ParsedArguments) → s'.verb ≡ s.verb → s'.awaits_width ≡ s.awaits_width → length s'.operands ≡ length s.operands + 1 → Ends s') → Ends s
      by None m others = end_by_file s e a m
      by (Some k) m others = end_by_operand s k e a m others

  awaited : (o : Option Verb) (b : Bool) (m : Option OperandKind) (w : List ℕ) (ended : Bool) → o ≡ Some v → b ≡ true → elim o as (λ (x : Option Verb). ArgumentRole) [ Some v ↦ cond b role.Width (argument_role v ended m w) | None ↦ command_role w ] ≡ role.Width
  awaited o b m w ended e a = rw (e, a) refl

  -- the number of an indent is named first, where it is missing
  end_awaited : (s : ParsedArguments) → s.verb ≡ Some v → Ends s
  end_awaited s e = by s.awaits_width refl
    where
      by : (b : Bool) → s.awaits_width ≡ b → Ends s
      by false a = end_by_operands (length (operands_asked s)) s e a (omega arith)
      by true a =
          let w : List ℕ = 50 ∷ [] in
          let r : role_in s w ≡ role.Width = awaited s.verb s.awaits_width (missing_operand s) w s.ended e a in
          let s' : ParsedArguments = add_argument s w role.Width in
          ends_after s w (subst (MayTake s w) (sym r) (record { allowed = refl; operand = tt }))
          (subst (λ q. Ends (add_argument s w q)) (sym r) (end_by_operands (length (operands_asked s')) s' e refl (omega arith)))

pub can_end : (s : ParsedArguments) → Ends s
can_end s = by s.verb refl
  where
    by : (o : Option Verb) → s.verb ≡ o → Ends s
    by (Some v) e = end_awaited v s e
    by None e =
        let w : List ℕ = codes "check" in
        let r : role_in s w ≡ role.Command verb.Check = rw e refl in
        ends_after s w (subst (MayTake s w) (sym r) (record { allowed = refl; operand = tt }))
        (subst (λ q. Ends (add_argument s w q)) (sym r) (end_awaited verb.Check (add_argument s w (role.Command verb.Check)) refl))

-- ---- the arguments of a command

pub begins : (ws : List (List ℕ)) → MayFollowAll nothing_asked ws → BeginsCommandLine ws
begins ws h =
    let e = can_end (with_arguments nothing_asked ws) in
    (e.more, record { follow = follow_join nothing_asked ws e.more h e.follow; complete = ap is_complete (after_join nothing_asked ws e.more) ∙ e.complete })

pub begins_none : (ws : List (List ℕ)) (w : List ℕ) → ¬ (MayFollow (with_arguments nothing_asked ws) w) → ¬ (BeginsCommandLine (ws ++ w ∷ []))
begins_none ws w n (more, line) = n (follow_split nothing_asked ws (w ∷ []) (follow_split nothing_asked (ws ++ w ∷ []) more line.follow).0).1.0

pub word_added : (words : List (List ℕ)) (i : ℕ) (w : List ℕ) → slice_get words i ≡ Some w → take i words ++ w ∷ [] ≡ take (i + 1) words
word_added words i w e = ap (λ v. take i words ++ v ∷ []) (sym (get_or_from_slice_get words i w w e)) ∙ sym (take_more words i w (slice_get_within words i w e))
