-- What lines that are served in turn do to a document and its history, and what is written for them.
use Rattle.std.specs.Prelude.{◌≡◌, ◌⊎◌, ℕ, List, [], ◌∷◌, ◌++◌, None, Ok, Err, Option, option_to_list, ⊤}
use Rattle.json_grammar.specs.Tree.{Tree}
use Rattle.json_model.specs.Print.{shown}
use Rattle.json_io.specs.declared.error.Error.{Error}
use Rattle.json_io.specs.Errors.{no_memory}
use Rattle.json_io.specs.Outside.{SinkState}
use Rattle.json_layout.specs.TextWriting.{WritesText}
use Rattle.json_lines.specs.declared.line_reader.Line.{Line}
use Rattle.json_history.specs.History.{TreeHistory}
use Rattle.json_rpc.specs.Serving.{Message, served, IsMessage, Serves}

-- these lines are these messages, one each
abbrev pub AreMessages : List (List ℕ) → List Message → Type 0
AreMessages [] [] = ⊤
AreMessages (line ∷ lines) (m ∷ ms) = IsMessage line m × AreMessages lines ms
AreMessages _ _ = ⊥

-- the history after these messages, and the replies
abbrev pub session : TreeHistory → List Message → TreeHistory × List Tree
session h [] = (h, [])
session h (m ∷ ms) = let one = served h m in let later = session one.0 ms in (later.0, option_to_list one.1 ++ later.1)

-- the compact texts of replies, each with a newline after it
abbrev pub reply_texts : List Tree → List ℕ
reply_texts [] = []
reply_texts (r ∷ rs) = (shown None 0 r ++ 10 ∷ []) ++ reply_texts rs

-- what is written for these messages, where the history was h
abbrev pub replies : TreeHistory → List Message → List ℕ
replies h ms = reply_texts (session h ms).1

-- what is written for one line
abbrev pub reply_text : Option Tree → List ℕ
reply_text reply = reply_texts (option_to_list reply)

-- a line was served, and its reply written
pub record ServesLine (h : TreeHistory) (line : Line) (g : TreeHistory) (old new : SinkState) : Type 0 where
  pub reply : Option Tree
  pub serves : Serves h line g reply
  pub writes : WritesText old new (reply_text reply) (Ok tt)

-- a line was served, and its reply not written
pub record ReplyFails (h : TreeHistory) (line : Line) (g : TreeHistory) (old new : SinkState) (error : Error) : Type 0 where
  pub reply : Option Tree
  pub serves : Serves h line g reply
  pub writes : WritesText old new (reply_text reply) (Err error)

-- a line was not served for want of memory, or its reply was not written
abbrev pub ServingFails : TreeHistory → Line → TreeHistory → SinkState → SinkState → Error → Type 0
ServingFails h line g old new error = ((new ≡ old) × (error ≡ no_memory)) ⊎ ReplyFails h line g old new error
