-- What the reader of one value among others keeps from event to event.
use Rattle.std.proofs.Common.{◌≡◌, ◌≢◌, ◌∙◌, ℕ, ◌+◌, ◌-◌, ◌<◌, ◌≤◌, List, [], ◌∷◌, ◌++◌, length, take, Bool, true, false, Some, None, refl, sym, ap, ap₂, subst, append_assoc, arith}
use Rattle.std.proofs.lemmas.List.{nil_from_length}
use Rattle.json_grammar.specs.declared.Kind.{Kind}
use Rattle.json_grammar.specs.Tree.{Tree, Token, null_token, boolean_token, num_token, text_token, begin, end, key_token, tokens}
use Rattle.json_grammar.specs.Sizes.{token_nodes, nodes_of}
use Rattle.json_grammar.proofs.Sizes.{nodes_append}
use Rattle.json_grammar.proofs.StringsUnique.{chars_same}
use Rattle.json_io.specs.declared.error.Error.{Error}
use Rattle.json_text.specs.declared.event.Event.{Event}
use Rattle.json_text.specs.declared.event.Event.TheVariants as event
use Rattle.json_text.specs.Events.{Means, raw_size}
use Rattle.json_text.specs.Faults.{IsInValue}
use Rattle.json_text.specs.Parsing.{ParserState, input, HasGiven, SameInput, IsWhole, HasRead, AdvancesTo, IsTight, IsDue}
use Rattle.json_grammar.specs.TokenStates.{TokenState, Expected, nothing, initial_state, state_in, after_tokens, Accepts, BeginsTree}
use Rattle.json_doc.specs.Recorded.{visitor_state, Holds, SameRoom}
use Rattle.json_doc.specs.Reading.{EventIsNumber, HasRoomFor, Follows}
use Rattle.json_doc.specs.OneValue.{TokenBeginsValue, open_levels_after, ReadsValue, RefusesValue}
use Rattle.json_doc.specs.declared.document_visitor.DocumentVisitor.{DocumentVisitor}
use Rattle.json_grammar.proofs.TokenStates.{after_append, Agrees, agrees}
use Rattle.json_grammar.proofs.TokenPrefixes.{begins_accepted, whole_tree}
use Rattle.json_doc.proofs.Keeping.{goes_on, tight_on, given_begins}
use Rattle.json_doc.proofs.Numeric.{event_number}
use Rattle.json_doc.proofs.Subtrees.{Starts, IsUnfinished, levels_step, begins_on, not_whole}

-- an event is of one token
pub means_one : (e : Event) (x y : Token) → Means e x → Means e y → x ≡ y
means_one event.Null x y m n = m ∙ sym n
means_one (event.Bool b) x y m n = m ∙ sym n
means_one (event.Number l) x y m n = m ∙ sym n
means_one (event.Str s) x y m n = m.2 ∙ ap text_token (chars_same s.lossy [] [] m.1 n.1 refl).0 ∙ sym n.2
means_one (event.Key s) x y m n = m.2 ∙ ap key_token (chars_same s.lossy [] [] m.1 n.1 refl).0 ∙ sym n.2
means_one event.BeginArray x y m n = m ∙ sym n
means_one event.EndArray x y m n = m ∙ sym n
means_one event.BeginObject x y m n = m ∙ sym n
means_one event.EndObject x y m n = m ∙ sym n
means_one event.End x y m n = absurd m

-- the events before this one were recorded, from the first on, and n containers of the value are
-- open
pub record Records (old p : ParserState) (first here : Event) (v : DocumentVisitor) (levels : ℕ) : Type 0 where
  pub same : SameInput old p
  pub order : old.index ≤ p.index
  pub unfailed : p.failure ≡ None
  pub first_token : Token
  pub first_means : Means first first_token
  pub first_begins : TokenBeginsValue first_token
  pub us : List Token
  pub token : Token
  pub means : Means here token
  pub rest : List Token
  pub starts : us ++ token ∷ [] ≡ first_token ∷ rest
  pub held : Holds v us
  pub admits : (visitor_state v).full ≡ false
  pub unfinished : IsUnfinished us
  pub open_levels : length (after_tokens initial_state us).opened ≡ levels
  pub few : levels ≤ (visitor_state v).nodes
  pub before : List Token
  pub given : HasGiven p (before ++ (us ++ token ∷ []))
  pub goes : (ts : List Token) → HasGiven old (ts ++ first_token ∷ []) → HasGiven p (ts ++ (us ++ token ∷ []))
  pub read : (IsWhole old → HasRead old) → IsWhole p → HasRead p

module _ {old p : ParserState} {first here : Event} {v : DocumentVisitor} {levels : ℕ} (k : Records old p first here v levels) where
  pub starting : Starts (k.us ++ k.token ∷ [])
  starting = (k.first_token, k.rest, k.starts, k.first_begins)

  pub begins_here : BeginsTree (k.us ++ k.token ∷ [])
  begins_here = begins_on k.before k.us k.token starting k.unfinished (given_begins p (k.before ++ (k.us ++ k.token ∷ [])) k.given)

  pub number_here : EventIsNumber here
  number_here =
      let h : HasGiven p ((k.before ++ k.us) ++ k.token ∷ []) = subst (HasGiven p) (sym (append_assoc k.before k.us (k.token ∷ []))) k.given in
      event_number here k.token (take h.base (input p)) p.open_kinds p.expected (k.before ++ k.us) k.means h.given.at

  -- after its token
  abbrev state_here : TokenState
  state_here = after_tokens initial_state (k.us ++ k.token ∷ [])

  pub levels_here : length state_here.opened ≡ open_levels_after k.token levels
  levels_here =
      ap (λ (s : TokenState). length s.opened) (after_append initial_state k.us (k.token ∷ [])) ∙ levels_step k.token (after_tokens initial_state k.us) ∙ ap (open_levels_after k.token) k.open_levels

  pub agrees_here : Agrees state_here
  agrees_here =
      let same = sym k.starts in
      subst (λ (ts : List Token). Agrees (after_tokens initial_state ts)) same (agrees k.first_token k.rest (subst (λ (ts : List Token). Accepts initial_state ts) k.starts (begins_accepted (k.us ++ k.token ∷ []) begins_here)))

not_full : (b : Bool) → (b ≡ true → ⊥) → b ≡ false
not_full true h = absurd (h refl)
not_full false h = refl

one_node : (x : Token) → token_nodes x ≤ 1
one_node null_token = omega arith
one_node (boolean_token b) = omega arith
one_node (num_token l) = omega arith
one_node (text_token s) = omega arith
one_node (begin k) = omega arith
one_node (end k) = omega arith
one_node (key_token s) = omega arith

-- where there is room for it the token was recorded
pub recorded : (v w : DocumentVisitor) (us : List Token) (x : Token) → Holds v us → (visitor_state v).nodes + 1 ≤ (visitor_state v).cell_room → SameRoom v w → Follows w (us ++ x ∷ [])
    → ((visitor_state w).full ≡ false) × Holds w (us ++ x ∷ []) × ((visitor_state w).nodes ≡ (visitor_state v).nodes + token_nodes x)
recorded v w us x held room same f =
    let count : nodes_of (us ++ x ∷ []) ≡ nodes_of us + token_nodes x = let a = nodes_append us (x ∷ []) in omega arith in
    let full : (visitor_state w).full ≡ false = not_full w.full (λ e. let o = f.over e in let c = held.counted in let r = same.0 in let n = one_node x in omega arith) in
    let h = f.held full in
    (full, h, h.counted ∙ count ∙ ap (λ n. n + token_nodes x) (sym held.counted))

levels_few : (x : Token) (n m : ℕ) → n ≤ m → open_levels_after x n ≤ m + token_nodes x
levels_few null_token n m h = omega arith
levels_few (boolean_token b) n m h = omega arith
levels_few (num_token l) n m h = omega arith
levels_few (text_token s) n m h = omega arith
levels_few (begin k) n m h = omega arith
levels_few (end k) n m h = omega arith
levels_few (key_token s) n m h = omega arith

whole_state : (s : TokenState) → s.opened ≡ [] → s.expected ≡ nothing → s ≡ state_in []
whole_state s e f = ap₂ (λ (o : List Kind) (x : Expected). let r : TokenState = record { opened = o; expected = x } in r) e f

module _ {old p : ParserState} {first here : Event} {v : DocumentVisitor} {levels more : ℕ} (k : Records old p first here v levels) (behind : more ≡ open_levels_after k.token levels) where
  pub records_end : (w : DocumentVisitor) → Holds w (k.us ++ k.token ∷ []) → more ≡ 0 → (t : Tree) × ReadsValue old first t p × Holds w (tokens t)
  records_end w held z =
      let e = nil_from_length (state_here k).opened (levels_here k ∙ sym behind ∙ z) in
      let t = whole_tree (k.us ++ k.token ∷ []) (begins_accepted (k.us ++ k.token ∷ []) (begins_here k)) (whole_state (state_here k) e ((agrees_here k).1 e)) in (
        t.0,
        record {
          token = k.first_token;
          means = k.first_means;
          rest = k.rest;
          begins = t.1 ∙ k.starts;
          goes = λ ts h. subst (λ us. HasGiven p (ts ++ us)) (sym t.1) (k.goes ts h);
          unfailed = k.unfailed;
        },
        subst (Holds w) (sym t.1) held,
      )

  -- a value that is not whole
  unfinished_here : (more ≡ 0 → ⊥) → IsUnfinished (k.us ++ k.token ∷ [])
  unfinished_here z = (begins_accepted (k.us ++ k.token ∷ []) (begins_here k), λ e. z (behind ∙ sym (levels_here k) ∙ ap length ((agrees_here k).0 e)))

  pub still_open : (more ≡ 0 → ⊥) → ¬ (IsWhole p)
  still_open z = not_whole p k.before (k.us ++ k.token ∷ []) k.given (starting k) (unfinished_here z)

  pub goes_forward : (q : ParserState) (e : Event) → (more ≡ 0 → ⊥) → (e ≡ event.End → IsWhole p) → IsTight p e q → SameInput p q → length q.text - q.index < length p.text - p.index
  goes_forward q e z whole tight same = let t = tight_on p q e (λ f. still_open z (whole f)) tight in let a = t.forward in let b = t.within in omega (arith, ap length same.text)

  -- another event was handed out
  pub records_on : (w : DocumentVisitor) → Holds w (k.us ++ k.token ∷ []) → (visitor_state w).full ≡ false → more ≤ (visitor_state w).nodes
      → (q : ParserState) (e : Event) → (more ≡ 0 → ⊥) → (e ≡ event.End → IsWhole p) → AdvancesTo p e q → IsTight p e q → SameInput p q → q.failure ≡ None → (¬ (IsWhole p) → IsWhole q → HasRead q) → Records old q first e w more
  records_on w held full few q e z whole goes tight same unfailed read =
      let other : e ≢ event.End = λ f. still_open z (whole f) in
      let us = k.us ++ k.token ∷ [] in
      let y = goes_on p q e other goes (k.before ++ us) k.given in
      record {
        same = record { text = same.text ∙ k.same.text; start = same.start ∙ k.same.start; limit = same.limit ∙ k.same.limit; lossy = same.lossy ∙ k.same.lossy };
        order = let o = k.order in let f = (tight_on p q e other tight).forward in omega arith;
        unfailed = unfailed;
        first_token = k.first_token;
        first_means = k.first_means;
        first_begins = k.first_begins;
        us = us;
        token = y.0;
        means = y.1;
        rest = k.rest ++ y.0 ∷ [];
        starts = ap (λ l. l ++ y.0 ∷ []) k.starts;
        held = held;
        admits = full;
        unfinished = unfinished_here z;
        open_levels = levels_here k ∙ sym behind;
        few = few;
        before = k.before;
        given = subst (HasGiven q) (append_assoc k.before us (y.0 ∷ [])) y.2;
        goes = λ ts h.
            let x = goes_on p q e other goes (ts ++ us) (k.goes ts h) in
            subst (HasGiven q) (append_assoc ts us (y.0 ∷ [])) (subst (λ u. HasGiven q ((ts ++ us) ++ u ∷ [])) (means_one e x.0 y.0 x.1 y.1) x.2);
        read = λ r. read (still_open z);
      }

few_open : (x : Token) (n m l : ℕ) → n ≤ m → l ≡ m + token_nodes x → open_levels_after x n ≤ l
few_open x n m l h e = let f = levels_few x n m h in omega arith

-- the event was recorded where room was made for it
pub here_recorded : {old p : ParserState} {first here : Event} {v : DocumentVisitor} {levels : ℕ} (k : Records old p first here v levels) (roomy w : DocumentVisitor) (bytes : ℕ)
    → ((ts : List Token) → Holds v ts → Holds roomy ts) → roomy.full ≡ v.full → (visitor_state roomy).nodes + 1 ≤ (visitor_state roomy).cell_room
    → bytes ≡ raw_size here → (visitor_state roomy).bytes + bytes ≤ (visitor_state roomy).text_room → SameRoom roomy w
    → ((x : Token) (ts : List Token) → Means here x → Follows roomy ts → BeginsTree (ts ++ x ∷ []) → HasRoomFor roomy (raw_size here) → Follows w (ts ++ x ∷ []))
    → Holds w (k.us ++ k.token ∷ []) × ((visitor_state w).full ≡ false) × (open_levels_after k.token levels ≤ (visitor_state w).nodes)
here_recorded {here = here} {levels = levels} k roomy w bytes holds full nodes size room same follows =
    let held = holds k.us k.held in
    let open_still : (visitor_state roomy).full ≡ false = full ∙ k.admits in
    let now : Follows roomy k.us = record { held = λ e. held; over = λ e. absurd (both (visitor_state roomy).full open_still e) } in
    let fits : HasRoomFor roomy (raw_size here) = λ e. subst (λ n. (visitor_state roomy).bytes + n ≤ (visitor_state roomy).text_room) size room in
    let r = recorded roomy w k.us k.token held nodes same (follows k.token k.us k.means now (begins_here k) fits) in
    let few = k.few in
    let a = k.held.counted in
    let b = held.counted in
    (r.1, r.0, few_open k.token levels (visitor_state roomy).nodes (visitor_state w).nodes (omega arith) r.2)
  where
    both : (x : Bool) → x ≡ false → x ≡ true → ⊥
    both x e f = let g : false ≡ true = sym e ∙ f in absurd (cc)

-- what it refused is kept
pub refuses_value : (p q : ParserState) (e : Error) → q ≡ record p { failure = Some e } → IsDue p e → IsInValue e.code → RefusesValue q e
refuses_value p q e kept due inside =
    subst (λ s. RefusesValue s e) (sym kept)
    (record { kept = refl; due = record { offset = due.offset; place = due.place; fault = due.fault; needs = due.needs }; in_value = inside })
