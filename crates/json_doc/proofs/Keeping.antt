-- What the reader of a text keeps.
use Rattle.std.specs.Prelude.{◌↔◌, IsTrue}
use Rattle.std.proofs.Common.{◌≡◌, ◌≢◌, ◌⊎◌, inl, inr, None, ◌-◌, Bool, true, false, ℕ, ◌+◌, ◌<◌, ◌≤◌, ◌/◌, List, [], ◌∷◌, ◌++◌, length, take, drop, length-append, refl, sym, ap, subst, ◌∙◌, arith}
use Rattle.std.proofs.lemmas.List.{length-take}
use Rattle.json_grammar.specs.Tree.{Tree, Token, key_token, tokens}
use Rattle.json_grammar.specs.Grammar.{chars, string, is_text}
use Rattle.json_grammar.specs.Sizes.{nodes, nodes_of, bytes_of}
use Rattle.json_grammar.proofs.Sizes.{nodes_tree, read_fits, text_fits}
use Rattle.json_grammar.proofs.OpenKeys.{keys_append, repeat_one, repeats_tree}
use Rattle.json_grammar.proofs.Pieces.{piece_length}
use Rattle.json_grammar.proofs.RulesReader.{key_refused, fault_stands}
use Rattle.json_grammar.specs.declared.Kind.{Kind}
use Rattle.json_grammar.specs.declared.ExpectedPart.{ExpectedPart}
use Rattle.json_grammar.specs.Place.{TakesKey, reading}
use Rattle.json_grammar.specs.Given.{piece, NamesReturned}
use Rattle.json_grammar.specs.Needs.{IsGap}
use Rattle.json_grammar.specs.Fault.{duplicate_key, fault}
use Rattle.json_grammar.specs.Repeated.{keys_from, RepeatsAt, TokensRepeat}
use Rattle.json_grammar.specs.Rules.{Rules, fits, fault_with}
use Rattle.json_text.proofs.DueTokens.{names_before_due, name_reported}
use Rattle.json_text.proofs.OneFaultAt.{is_there, reader_at}
use Rattle.json_text.proofs.ReaderSteps.{stood_at}
use Rattle.json_text.specs.Readers.{ReaderAt}
use Rattle.json_io.specs.declared.error.Error.{Error}
use Rattle.json_io.specs.declared.error.ErrorCode.{ErrorCode}
use Rattle.json_io.specs.declared.error.ErrorCode.TheVariants as code
use Rattle.json_io.specs.declared.error.Place.{Place}
use Rattle.json_io.specs.declared.error.Place.TheVariants as place
use Rattle.json_text.specs.declared.event.Event.{Event}
use Rattle.json_text.specs.declared.event.Event.TheVariants as event
use Rattle.json_io.specs.Positions.{place_at}
use Rattle.json_text.specs.Events.{Means, raw_size, event_bytes}
use Rattle.json_text.specs.Faults.{IsFault, IsFaultWith, FaultWithAt}
use Rattle.json_text.specs.Parsing.{ParserState, input, HasGiven, SameInput, AdvancesTo, TakesToken, IsTight, IsDue}
use Rattle.json_grammar.specs.TokenStates.{BeginsTree}
use Rattle.json_doc.specs.State.{VisitorState}
use Rattle.json_doc.specs.Recorded.{visitor_state, Holds, SameRoom}
use Rattle.json_doc.specs.Reading.{ReadingFailsWith, RefusesName, EventIsNumber, Follows}
use Rattle.json_doc.specs.OpenNames.{HasNames, TakesIn, Differ}
use Rattle.json_doc.specs.Progress.{AreInStep}
use Rattle.json_doc.specs.declared.open_keys.OpenKeys.{OpenKeys}
use Rattle.json_doc.specs.declared.document_visitor.DocumentVisitor.{DocumentVisitor}
use Rattle.json_grammar.proofs.TokenPrefixes.{reading_begins}
use Rattle.json_doc.proofs.Fitting.{recorded_bytes}
use Rattle.json_doc.proofs.Numeric.{event_number}

pub keeps_start : (limit : ℕ) (p : ParserState) (v : DocumentVisitor) (b : List ℕ) → p.text ≡ b → p.start ≡ 0 → p.limit ≡ limit → p.lossy ≡ false → HasGiven p [] → p.failure ≡ None
    → visitor_state v ≡ record { cell_room = (length b + 1) / 2; text_room = length b; nodes = 0; bytes = 0; full = false } → Holds v [] → AreInStep limit p v b []
keeps_start most p v b reads start limit strict gave unfailed fresh held =
    let full : v.full ≡ false = ap (λ (s : VisitorState). s.full) fresh in
    record {
      reads = reads;
      start = start;
      limit = limit;
      strict = strict;
      unfailed = unfailed;
      gave = gave;
      follows = record { held = λ e. held; over = λ e. absurd (both v.full full e) };
      room = ap (λ (s : VisitorState). s.cell_room) fresh;
      text_room = ap (λ (s : VisitorState). s.text_room) fresh;
    }
  where
    both : (x : Bool) → x ≡ false → x ≡ true → ⊥
    both x e f = let g : false ≡ true = sym e ∙ f in absurd (cc)

-- ---- an event

pub goes_on : (p q : ParserState) (e : Event) → e ≢ event.End → AdvancesTo p e q → (ts : List Token) → HasGiven p ts → (x : Token) × Means e x × HasGiven q (ts ++ x ∷ [])
goes_on p q event.Null n g = g
goes_on p q (event.Bool v) n g = g
goes_on p q (event.Number l) n g = g
goes_on p q (event.Str s) n g = g
goes_on p q (event.Key s) n g = g
goes_on p q event.BeginArray n g = g
goes_on p q event.EndArray n g = g
goes_on p q event.BeginObject n g = g
goes_on p q event.EndObject n g = g
goes_on p q event.End n g = absurd (n refl)

pub tight_on : (p q : ParserState) (e : Event) → e ≢ event.End → IsTight p e q → TakesToken p e q
tight_on p q event.Null n g = g
tight_on p q (event.Bool v) n g = g
tight_on p q (event.Number l) n g = g
tight_on p q (event.Str s) n g = g
tight_on p q (event.Key s) n g = g
tight_on p q event.BeginArray n g = g
tight_on p q event.EndArray n g = g
tight_on p q event.BeginObject n g = g
tight_on p q event.EndObject n g = g
tight_on p q event.End n g = absurd (n refl)

pub given_begins : (p : ParserState) (ts : List Token) → HasGiven p ts → BeginsTree ts
given_begins p ts h = reading_begins h.given.at

-- what was recorded is no longer than what was taken
recorded_within : (p : ParserState) (v : DocumentVisitor) (ts : List Token) → HasGiven p ts → Holds v ts → (visitor_state v).bytes ≤ p.index
recorded_within p v ts h held =
    let bytes : (visitor_state v).bytes ≤ bytes_of ts = recorded_bytes v ts held in
    let fits = (read_fits p.lossy h.given.at).1 in
    let order = h.order in
    omega (arith, length-take h.base (input p))

module _ {limit : ℕ} {p q : ParserState} {v : DocumentVisitor} {b : List ℕ} {ts : List Token} {e : Event} (k : AreInStep limit p v b ts) (other : e ≢ event.End) (goes : AdvancesTo p e q) (tight : IsTight p e q) (same : SameInput p q) where
  pub next_token : (x : Token) × Means e x × HasGiven q (ts ++ x ∷ [])
  next_token = goes_on p q e other goes ts k.gave

  pub next_number : EventIsNumber e
  next_number =
      let h = next_token.2.given.at in
      event_number e next_token.0 (take next_token.2.base (input q)) q.open_kinds q.expected ts next_token.1 h

  pub next_begins : BeginsTree (ts ++ next_token.0 ∷ [])
  next_begins = given_begins q (ts ++ next_token.0 ∷ []) next_token.2

  pub goes_forward : (p.index < q.index) × (q.index ≤ length b)
  goes_forward =
      let t = tight_on p q e other tight in
      let whole : q.text ≡ b = same.text ∙ k.reads in
      (t.forward, omega (arith, t.within, ap length whole))

  -- its token ends at the parser's place
  pub next_behind : length (event_bytes e) ≤ q.index
  next_behind =
      let t = tight_on p q e other tight in
      let size = ap length t.bytes in
      omega (arith, length-take (q.index - t.begins) (drop t.begins q.text))

  -- there is room for its bytes
  pub next_fits : (visitor_state v).full ≡ false → (visitor_state v).bytes + raw_size e ≤ (visitor_state v).text_room
  next_fits full =
      let t = tight_on p q e other tight in
      let within = recorded_within p v ts k.gave (k.follows.held full) in
      omega (arith, t.room, goes_forward.1, k.text_room)

  pub keeps_on : (w : DocumentVisitor) → Follows w (ts ++ next_token.0 ∷ []) → SameRoom v w → q.failure ≡ None → AreInStep limit q w b (ts ++ next_token.0 ∷ [])
  keeps_on w f room unfailed = record {
    reads = same.text ∙ k.reads;
    start = same.start ∙ k.start;
    limit = same.limit ∙ k.limit;
    strict = same.lossy ∙ k.strict;
    unfailed = unfailed;
    gave = next_token.2;
    follows = f;
    room = room.0 ∙ k.room;
    text_room = room.1 ∙ k.text_room;
  }

-- ---- the end

not_full : (b : Bool) → (b ≡ true → ⊥) → b ≡ false
not_full true h = absurd (h refl)
not_full false h = refl

-- the builder holds the tree of the text
pub keeps_end : (rules : Rules) (p q : ParserState) (v : DocumentVisitor) (o : OpenKeys) (b : List ℕ) (ts : List Token) → AreInStep rules.limit p v b ts → Differ rules o ts → AdvancesTo p event.End q → (t : Tree) × is_text false t b × fits t rules × Holds v (tokens t)
keeps_end rules p q v o b ts k d g =
    let whole = g.1 ts k.gave in
    let t = whole.0 in
    let here : input p ≡ b = ap (λ (i : ℕ). drop i p.text) k.start ∙ k.reads in
    let is = subst (λ (m : Bool). is_text m t b) k.strict (subst (λ (s : List ℕ). is_text p.lossy t s) here whole.1) in
    let count : nodes_of ts ≡ nodes t = ap nodes_of whole.2 ∙ nodes_tree t in
    let fits = (text_fits false t b is).0 in
    let room = k.room in
    let open_still : (visitor_state v).full ≡ false = not_full v.full (λ full. omega (arith, k.follows.over full)) in
    (t, is, (omega (arith, whole.3, k.limit), λ u r. (d u).0 (subst TokensRepeat (sym whole.2) (repeats_tree t [] r))), subst (λ (us : List Token). Holds v us) whole.2 (k.follows.held open_still))

-- ---- a fault

fault_fails : (rules : Rules) (b : List ℕ) (c : ErrorCode) (at : Place) → FaultWithAt false rules b c at → ReadingFailsWith rules b c at
fault_fails rules b code.NoMemory place.None h = tt
fault_fails rules b c at h = h

-- the parser's place in the whole text
reader_at_in : (p : ParserState) (limit : ℕ) (b : List ℕ) (ts : List Token) → p.text ≡ b → p.start ≡ 0 → p.limit ≡ limit → p.lossy ≡ false → HasGiven p ts → ReaderAt false limit b p.index p.open_kinds p.expected ts
reader_at_in p limit b ts reads start most strict h =
    let index : p.index - p.start ≡ p.index = omega arith in
    let here : drop p.start p.text ≡ b = ap (λ (i : ℕ). drop i p.text) start ∙ reads in
    subst (λ m. ReaderAt m limit b p.index p.open_kinds p.expected ts) strict
    (subst (λ n. ReaderAt p.lossy n b p.index p.open_kinds p.expected ts) most
    (subst (λ y. ReaderAt p.lossy p.limit y p.index p.open_kinds p.expected ts) here (subst (λ i. ReaderAt p.lossy p.limit (drop p.start p.text) i p.open_kinds p.expected ts) index h)))

-- the parser's fault is the one by the rules
pub refused_fails : (rules : Rules) (p : ParserState) (v : DocumentVisitor) (o : OpenKeys) (b : List ℕ) (ts : List Token) (e : Error) → AreInStep rules.limit p v b ts → Differ rules o ts → IsDue p e → ReadingFailsWith rules b e.code e.place
refused_fails rules p v o b ts e k d due =
    let index : p.index - p.start ≡ p.index = let z = k.start in omega arith in
    let here : drop p.start p.text ≡ b = ap (λ (i : ℕ). drop i p.text) k.start ∙ k.reads in
    let zeroth : p.start + due.offset ≡ due.offset = let z = k.start in omega arith in
    let stood_here = reader_at_in p rules.limit b ts k.reads k.start k.limit k.strict k.gave in
    let names : NamesReturned false b p.index due.offset =
    subst (λ m. NamesReturned m b p.index due.offset) k.strict (subst (λ i. NamesReturned p.lossy b i due.offset) index (subst (λ y. NamesReturned p.lossy y (p.index - p.start) due.offset) here (names_before_due p e ts due k.gave))) in
    let fault_here : IsFault false rules.limit b e.code due.offset =
    subst (λ m. IsFault m rules.limit b e.code due.offset) k.strict (subst (λ n. IsFault p.lossy n b e.code due.offset) k.limit (subst (λ y. IsFault p.lossy p.limit y e.code due.offset) here due.fault)) in
    let s = is_there (λ row. fault false rules.limit b row due.offset) e.code fault_here in
    let by_rules = fault_stands false rules b p.index p.open_kinds p.expected ts s.row due.offset (stood_at false rules.limit b p.index p.open_kinds p.expected ts stood_here) (λ u. (d u).0) (λ u. names) s.holds in
    fault_fails rules b e.code e.place (
      due.offset,
      due.place ∙ ap (place_at p.text) zeroth ∙ ap (λ y. place_at y due.offset) k.reads,
      subst (λ c. IsFaultWith false rules b c due.offset) (sym s.same) (reader_at (λ row. fault_with false rules b row due.offset) s.row by_rules),
    )

-- ---- names that differ

pub differ_start : (rules : Rules) (o : OpenKeys) → HasNames o [] → Differ rules o []
differ_start rules o h u = (λ r. r, h)

pub differ_on : (rules : Rules) (old new : OpenKeys) (ts : List Token) (x : Token) → TakesIn false old new x → Differ rules old ts → Differ rules new (ts ++ x ∷ [])
differ_on rules old new ts x t d u =
    let h = d u in
    let a = t (keys_from [] ts) h.1 in (
      λ r. by a.0 (repeat_one ts x r) h.0,
      subst (HasNames new) (sym (keys_append [] ts (x ∷ []))) (a.1 refl),
    )
  where
    by : IsTrue false ↔ RepeatsAt (keys_from [] ts) x → TokensRepeat ts ⊎ RepeatsAt (keys_from [] ts) x → ¬ (TokensRepeat ts) → ⊥
    by f (inl r) n = n r
    by f (inr r) n = let e : false ≡ true = f.1 r in absurd (cc)

-- a name that repeats is refused at its opening quotation mark
pub repeated_fails : (rules : Rules) (p q : ParserState) (v : DocumentVisitor) (o : OpenKeys) (b : List ℕ) (ts : List Token) (e : Event) (error : Error)
    → rules.unique ≡ true → AreInStep rules.limit p v b ts → Differ rules o ts → AdvancesTo p e q → IsTight p e q → SameInput p q
    → RefusesName o e b q.index error → ReadingFailsWith rules b error.code error.place
repeated_fails rules p q v o b ts e error u k d goes tight same (inl is) = subst (λ (x : Error). ReadingFailsWith rules b x.code x.place) (sym is) tt
repeated_fails rules p q v o b ts e error u k d goes tight same (inr (n, is, repeats, told)) =
    subst (λ (x : Error). ReadingFailsWith rules b x.code x.place) (sym told) (q.index - (length n.raw.now + 2), refl, at)
  where
    whole : q.text ≡ b
    whole = same.text ∙ k.reads

    t : TakesToken p (event.Key n) q
    t = tight_on p q (event.Key n) (λ f. absurd (cc)) (subst (λ x. IsTight p x q) is tight)

    next : (x : Token) × Means (event.Key n) x × HasGiven q (ts ++ x ∷ [])
    next = goes_on p q (event.Key n) (λ f. absurd (cc)) (subst (λ x. AdvancesTo p x q) is goes) ts k.gave

    s : List ℕ
    s = next.1.0

    spelled : chars n.lossy s n.raw.now
    spelled = next.1.1

    strictly : chars false s n.raw.now
    strictly = subst (λ m. chars m s n.raw.now) (t.mode ∙ k.strict) spelled

    given : HasGiven q (ts ++ key_token s ∷ [])
    given = subst (λ x. HasGiven q (ts ++ x ∷ [])) next.1.2 next.2

    bytes : piece b t.begins q.index ≡ 34 ∷ (n.raw.now ++ 34 ∷ [])
    bytes = subst (λ y. piece y t.begins q.index ≡ 34 ∷ (n.raw.now ++ 34 ∷ [])) whole t.bytes

    within : q.index ≤ length b
    within = let l = t.within in omega (arith, ap length whole)

    begins : q.index - (length n.raw.now + 2) ≡ t.begins
    begins =
        let l = t.order in
        let len = ap length bytes in
        let size : length (34 ∷ (n.raw.now ++ 34 ∷ [])) ≡ length n.raw.now + 2 = omega (arith, length-append n.raw.now (34 ∷ [])) in
        omega (arith, within, piece_length b t.begins q.index (omega arith) within)

    stood_p : ReaderAt false rules.limit b p.index p.open_kinds p.expected ts
    stood_p = reader_at_in p rules.limit b ts k.reads k.start k.limit k.strict k.gave

    stood_q : ReaderAt false rules.limit b q.index q.open_kinds q.expected (ts ++ key_token s ∷ [])
    stood_q = reader_at_in q rules.limit b (ts ++ key_token s ∷ []) whole (same.start ∙ k.start) (same.limit ∙ k.limit) (same.lossy ∙ k.strict) given

    gap : IsGap (piece b p.index t.begins)
    gap = subst (λ y. IsGap (piece y p.index t.begins)) whole t.gap

    string_at : string false s (piece b t.begins q.index)
    string_at = (n.raw.now, bytes, strictly)

    there : (c : List Kind) × (w : ExpectedPart) × reading false (take t.begins b) c w ts × TakesKey w
    there = let l = t.order in name_reported false rules.limit rules.limit b p.index t.begins q.index p.open_kinds q.open_kinds p.expected q.expected ts s stood_p l.0 (omega arith) within gap string_at stood_q

    refused : fault_with false rules b duplicate_key t.begins
    refused = let l = t.order in key_refused false rules b t.begins q.index there.0 there.1 ts s u there.2 there.3 (omega arith) within string_at stood_p.depth (d u).0 (repeats s (keys_from [] ts) spelled (d u).1)

    at : IsFaultWith false rules b code.DuplicateKey (q.index - (length n.raw.now + 2))
    at = subst (λ j. fault_with false rules b duplicate_key j) (sym begins) refused
