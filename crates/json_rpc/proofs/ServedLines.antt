-- What the loop over the lines keeps.
use Rattle.std.proofs.Common.{◌≡◌, ℕ, ◌+◌, ◌-◌, ◌<◌, ◌⊎◌, inl, inr, List, [], ◌∷◌, ◌++◌, length, Option, None, Some, Result, Ok, Err, IfSome, refl, sym, ap, ◌∙◌, subst, arith, append_assoc, append-nil}
use Rattle.std.specs.Prelude.{option_to_list}
use Rattle.json_grammar.specs.Tree.{Tree}
use Rattle.json_model.specs.Print.{shown}
use Rattle.json_io.specs.Known.{append_known}
use Rattle.json_io.specs.declared.error.Error.{Error}
use Rattle.json_io.specs.Errors.{writing_failed, no_memory}
use Rattle.json_layout.specs.TextWriting.{Begins as BeginsWith, StopCause, WritesText}
use Rattle.json_lines.specs.declared.line_reader.Line.{Line}
use Rattle.json_lines.specs.declared.line_reader.Line.TheVariants.{Whole, TooLong}
use Rattle.json_lines.specs.Lines.{lines}
use Rattle.json_lines.specs.Reading.{IsLineOf, NextLineCall}
use Rattle.json_lines.proofs.HandledLines.{IfSome-map}
use Rattle.json_lines.proofs.ReadingLines.{ReadsLines, ReadsLines-start, ReadsLines-more, ReadsLines-end, ReadsLines-fail, ReadsLines-parted}
use Rattle.json_lines.proofs.TextWriting.{WritesText-nil, WritesText-then, WritesText-is, Begins-part}
use Rattle.json_history.specs.History.{TreeHistory}
use Rattle.json_rpc.specs.Serving.{Message, served, IsMessage, LineIsMessage, max_line_bytes}
use Rattle.json_rpc.specs.Sessions.{AreMessages, session, reply_texts, replies, reply_text, ReplyFails}
use Rattle.json_rpc.specs.Steps.{ServingState, ServesNextLine, ServesNoLine, ServingReadFails, ServingStepFails, IsFreshServing, FinishesServing, StopsServing}
use Rattle.json_rpc.proofs.Messages.{some_message}
use Rattle.json_io.proofs.Known.{known-append}

-- ---- sessions

AreMessages-append : (xs ys : List (List ℕ)) (ms ns : List Message) → AreMessages xs ms → AreMessages ys ns → AreMessages (xs ++ ys) (ms ++ ns)
AreMessages-append [] ys [] ns h k = k
AreMessages-append [] ys (m ∷ ms) ns h k = absurd h
AreMessages-append (a ∷ xs) ys [] ns h k = absurd h
AreMessages-append (a ∷ xs) ys (m ∷ ms) ns h k = (h.0, AreMessages-append xs ys ms ns h.1 k)

-- lines are some messages
some_messages : (xs : List (List ℕ)) → (ms : List Message) × AreMessages xs ms
some_messages [] = ([], tt)
some_messages (a ∷ xs) = let one = some_message a in let more = some_messages xs in (one.0 ∷ more.0, (one.1, more.1))

reply_texts-append : (rs qs : List Tree) → reply_texts (rs ++ qs) ≡ reply_texts rs ++ reply_texts qs
reply_texts-append [] qs = refl
reply_texts-append (r ∷ rs) qs = ap (λ t. (shown None 0 r ++ 10 ∷ []) ++ t) (reply_texts-append rs qs) ∙ sym (append_assoc (shown None 0 r ++ 10 ∷ []) (reply_texts rs) (reply_texts qs))

-- messages after others begin with the history that those left
session-append : (t : TreeHistory) (ms ns : List Message) → let first = session t ms in let later = session first.0 ns in session t (ms ++ ns) ≡ (later.0, first.1 ++ later.1)
session-append t [] ns = refl
session-append t (m ∷ ms) ns =
    let one = served t m in
    let first = session one.0 ms in
    let later = session first.0 ns in
    ap (λ (r : TreeHistory × List Tree). (r.0, option_to_list one.1 ++ r.1)) (session-append one.0 ms ns) ∙ ap (λ xs. (later.0, xs)) (sym (append_assoc (option_to_list one.1) first.1 later.1))

replies-append : (t : TreeHistory) (ms ns : List Message) → replies t (ms ++ ns) ≡ replies t ms ++ replies (session t ms).0 ns
replies-append t ms ns = ap (λ (r : TreeHistory × List Tree). reply_texts r.1) (session-append t ms ns) ∙ reply_texts-append (session t ms).1 (session (session t ms).0 ns).1

-- one message more
history-more : (t u v : TreeHistory) (ms : List Message) (m : Message) (reply : Option Tree) → u ≡ (session t ms).0 → served u m ≡ (v, reply) → v ≡ (session t (ms ++ m ∷ [])).0
history-more t u v ms m reply e h =
    sym (ap (λ (r : TreeHistory × Option Tree). r.0) h) ∙ ap (λ u. (served u m).0) e ∙ sym (ap (λ (r : TreeHistory × List Tree). r.0) (session-append t ms (m ∷ [])))

replies-more : (t u v : TreeHistory) (ms : List Message) (m : Message) (ns : List Message) (reply : Option Tree) → u ≡ (session t ms).0 → served u m ≡ (v, reply) → replies t (ms ++ m ∷ ns) ≡ replies t ms ++ (reply_text reply ++ replies v ns)
replies-more t u v ms m ns reply e h =
    replies-append t ms (m ∷ ns) ∙ ap (λ u. replies t ms ++ replies u (m ∷ ns)) (sym e)
    ∙ ap (λ x. replies t ms ++ x) (reply_texts-append (option_to_list (served u m).1) (session (served u m).0 ns).1)
    ∙ ap (λ (r : TreeHistory × Option Tree). replies t ms ++ (reply_text r.1 ++ replies r.0 ns)) h

-- ---- the loop

-- these lines were read and served
pub record ServedLines (old new : ServingState) : Type 0 where
  pub done : List (List ℕ)
  pub read : ReadsLines old.reader new.reader old.source new.source done
  pub limit : old.reader.limit ≡ max_line_bytes
  pub messages : List Message
  pub are : AreMessages done messages
  pub history : new.history ≡ (session old.history messages).0
  pub writes : WritesText old.out new.out (replies old.history messages) (Ok tt)

pub ServedLines-start : (a : ServingState) → IsFreshServing a → ServedLines a a
ServedLines-start a fresh =
    record {
      done = [];
      read = ReadsLines-start a.reader a.source fresh.held fresh.received fresh.going;
      limit = fresh.limit;
      messages = [];
      are = tt;
      history = refl;
      writes = WritesText-nil a.out;
    }

-- the message that the line is that was read
line_is : (limit : ℕ) (bytes : List ℕ) (line : Line) (m : Message) → limit ≡ max_line_bytes → IsLineOf limit bytes line → LineIsMessage line m → IsMessage bytes m
line_is limit bytes (Whole line) m e is h = subst (λ b. IsMessage b m) is.0 h
line_is limit bytes TooLong m e is h = subst (IsMessage bytes) (sym h) (inl (omega (arith, e, is)))

pub ServedLines-more : (a b c : ServingState) → ServedLines a b → ServesNextLine b c → ServedLines a c
ServedLines-more a b c so_far takes =
    let more = ReadsLines-more a.reader b.reader c.reader a.source b.source c.source so_far.done takes.line so_far.read takes.read in
    let serves = takes.serves.serves in
    let m = serves.message in
    let reply = takes.serves.reply in
    record {
      done = so_far.done ++ more.bytes ∷ [];
      read = more.reads;
      limit = so_far.limit;
      messages = so_far.messages ++ m ∷ [];
      are = AreMessages-append so_far.done (more.bytes ∷ []) so_far.messages (m ∷ []) so_far.are (line_is a.reader.limit more.bytes takes.line m so_far.limit more.is serves.is, tt);
      history = history-more a.history b.history c.history so_far.messages m reply so_far.history serves.served_so;
      writes = WritesText-is a.out c.out _ _ _
          (ap (λ y. replies a.history so_far.messages ++ y) (sym (append-nil (reply_text reply))) ∙ sym (replies-more a.history b.history c.history so_far.messages m [] reply so_far.history serves.served_so))
          (WritesText-then a.out b.out c.out _ _ tt (Ok tt) so_far.writes takes.serves.writes);
    }

-- what is left to do gets smaller
pub ServedLines-smaller : (a b c : ServingState) → ServedLines a b → ServesNextLine b c → 4294967295 - c.reader.received + length c.reader.held < 4294967295 - b.reader.received + length b.reader.held
ServedLines-smaller a b c so_far takes = (ReadsLines-more a.reader b.reader c.reader a.source b.source c.source so_far.done takes.line so_far.read takes.read).smaller

-- ---- the end

pub FinishesServing-from : (a b c : ServingState) → ServedLines a b → ServesNoLine b c → FinishesServing a c
FinishesServing-from a b c so_far none =
    let all = ReadsLines-end a.reader b.reader c.reader a.source b.source c.source so_far.done so_far.read none.read in
    record {
      bytes = all.bytes;
      reads = all.reads;
      all = all.all;
      drained = all.drained;
      no_fault = all.no_fault;
      few = all.few;
      messages = so_far.messages;
      are = IfSome-map a.source.left (λ x. so_far.done ≡ lines x) (λ x. AreMessages (lines x) so_far.messages) (λ x is. subst (λ l. AreMessages l so_far.messages) is so_far.are) all.done_all;
      writes = subst (λ s. WritesText a.out s (replies a.history so_far.messages) (Ok tt)) (sym none.out) so_far.writes;
    }

-- ---- where it fails

-- the messages of all lines that were read
all_are : (o : Option (List ℕ)) (all done later : List (List ℕ)) (ms ns : List Message) → AreMessages done ms → AreMessages later ns → IfSome o (λ _. all ≡ done ++ later) → IfSome o (λ _. AreMessages all (ms ++ ns))
all_are o all done later ms ns h k e = IfSome-map o (λ _. all ≡ done ++ later) (λ _. AreMessages all (ms ++ ns)) (λ _ e. subst (λ l. AreMessages l (ms ++ ns)) (sym e) (AreMessages-append done later ms ns h k)) e

-- the replies so far are a prefix of all replies
first_replies : (t : TreeHistory) (ms ns : List Message) (old new : Option (List ℕ)) → new ≡ append_known old (replies t ms) → BeginsWith new (append_known old (replies t (ms ++ ns)))
first_replies t ms ns old new h = subst (λ x. BeginsWith new (append_known old x)) (sym (replies-append t ms ns)) (Begins-part old new (replies t ms) (replies (session t ms).0 ns) h)

StopsServing-reading : (a b c : ServingState) (e : Error) → ServedLines a b → ServingReadFails b c e → StopsServing a c e
StopsServing-reading a b c e so_far fails =
    let stop = ReadsLines-fail a.reader b.reader c.reader a.source b.source c.source so_far.done e so_far.read fails.read in
    let later = some_messages stop.later in
    let same = fails.out in
    record {
      bytes = stop.bytes;
      reads = stop.reads;
      messages = so_far.messages ++ later.0;
      are = all_are a.source.left (lines stop.bytes) so_far.done stop.later so_far.messages later.0 so_far.are later.1 stop.parted;
      prefix = first_replies a.history so_far.messages later.0 a.out.gained c.out.gained (ap (λ s. s.gained) same ∙ so_far.writes.ok);
      same_loan = ap (λ s. s.loan) same ∙ so_far.writes.same_loan;
      cause = inl stop.cause;
      reading_reported = stop.reported;
      writing_told = λ l. absurd (omega (arith, l, ap (λ s. s.faults) same, so_far.writes.calm));
    }

stops_for_memory : (a b : ℕ) (e : Error) → e ≡ no_memory → StopCause a b e.code e.place
stops_for_memory a b e h = subst (λ e. StopCause a b e.code e.place) (sym h) tt

abbrev failed : Error → Result (Unit {0}) Error
failed e = Err e

err_same : (e f : Error) → failed e ≡ failed f → e ≡ f
err_same e f h = cc

-- a line that was read and not served
StopsServing-unserved : (a b c : ServingState) (e : Error) (line : Line) → ServedLines a b → NextLineCall b.reader c.reader b.source c.source (Ok (Some line)) → c.out ≡ b.out → e ≡ no_memory → StopsServing a c e
StopsServing-unserved a b c e line so_far read same lacks =
    let more = ReadsLines-more a.reader b.reader c.reader a.source b.source c.source so_far.done line so_far.read read in
    let now = more.reads in
    let done = so_far.done ++ more.bytes ∷ [] in
    let rest = some_messages (lines c.reader.held) in
    let later = some_message more.bytes in
    let ms = so_far.messages ++ later.0 ∷ [] in
    let are = AreMessages-append so_far.done (more.bytes ∷ []) so_far.messages (later.0 ∷ []) so_far.are (later.1, tt) in
    record {
      bytes = now.bytes;
      reads = now.reads;
      messages = ms ++ rest.0;
      are = all_are a.source.left (lines now.bytes) done (lines c.reader.held) ms rest.0 are rest.1 (ReadsLines-parted a.reader c.reader a.source c.source done now);
      prefix = subst (λ l. BeginsWith c.out.gained (append_known a.out.gained (replies a.history l))) (sym (append_assoc so_far.messages (later.0 ∷ []) rest.0))
          (first_replies a.history so_far.messages (later.0 ∷ [] ++ rest.0) a.out.gained c.out.gained (ap (λ s. s.gained) same ∙ so_far.writes.ok));
      same_loan = ap (λ s. s.loan) same ∙ so_far.writes.same_loan;
      cause = inr (stops_for_memory a.out.faults c.out.faults e lacks, now.no_fault, now.few);
      reading_reported = λ l. absurd (omega (arith, l, now.no_fault));
      writing_told = λ l. absurd (omega (arith, l, ap (λ s. s.faults) same, so_far.writes.calm));
    }

-- a prefix of a text is one of a longer text
longer_text : (x old : Option (List ℕ)) (p q : List ℕ) → BeginsWith x (append_known old p) → BeginsWith x (append_known old (p ++ q))
longer_text x old p q h = record { back = h.back ++ q; whole = sym (known-append old p q) ∙ ap (λ y. append_known y q) h.whole ∙ known-append x h.back q }

-- a line whose reply was not written
StopsServing-unwritten : (a b c : ServingState) (e : Error) (line : Line) → ServedLines a b → NextLineCall b.reader c.reader b.source c.source (Ok (Some line)) → ReplyFails b.history line c.history b.out c.out e → StopsServing a c e
StopsServing-unwritten a b c e line so_far read fails =
    let more = ReadsLines-more a.reader b.reader c.reader a.source b.source c.source so_far.done line so_far.read read in
    let now = more.reads in
    let done = so_far.done ++ more.bytes ∷ [] in
    let m = fails.serves.message in
    let ms = so_far.messages ++ m ∷ [] in
    let rest = some_messages (lines c.reader.held) in
    let are = AreMessages-append so_far.done (more.bytes ∷ []) so_far.messages (m ∷ []) so_far.are (line_is a.reader.limit more.bytes line m so_far.limit more.is fails.serves.is, tt) in
    let writes = WritesText-then a.out b.out c.out _ _ tt (Err e) so_far.writes fails.writes in
    let text = ap (replies a.history) (append_assoc so_far.messages (m ∷ []) rest.0) ∙ replies-more a.history b.history c.history so_far.messages m rest.0 fails.reply so_far.history fails.serves.served_so
    ∙ sym (append_assoc (replies a.history so_far.messages) (reply_text fails.reply) (replies c.history rest.0)) in
    record {
      bytes = now.bytes;
      reads = now.reads;
      messages = ms ++ rest.0;
      are = all_are a.source.left (lines now.bytes) done (lines c.reader.held) ms rest.0 are rest.1 (ReadsLines-parted a.reader c.reader a.source c.source done now);
      prefix = subst (λ t. BeginsWith c.out.gained (append_known a.out.gained t)) (sym text) (longer_text c.out.gained a.out.gained _ (replies c.history rest.0) writes.prefix);
      same_loan = writes.same_loan;
      cause = inr (writes.cause, now.no_fault, now.few);
      reading_reported = λ l. absurd (omega (arith, l, now.no_fault));
      writing_told = λ l. err_same e writing_failed (writes.reported l);
    }

pub StopsServing-from : (a b c : ServingState) (e : Error) → ServedLines a b → ServingStepFails b c e → StopsServing a c e
StopsServing-from a b c e so_far (inl reading) = StopsServing-reading a b c e so_far reading
StopsServing-from a b c e so_far (inr serving) =
    elim serving.failed [
      | inl lacks ↦ StopsServing-unserved a b c e serving.line so_far serving.read lacks.0 lacks.1
      | inr fails ↦ StopsServing-unwritten a b c e serving.line so_far serving.read fails
    ]
