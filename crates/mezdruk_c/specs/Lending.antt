-- What lending a text leaves.
use Rattle.std.specs.Prelude.{◌≡◌, ℕ, ◌+◌, List, length, Option, Some, None, slice_range}
use denote.RawPtr.{Ptr, ◌+ₚ◌}
use Rattle.json_doc.specs.Docs.{doc_text}
use Rattle.mezdruk_c.specs.declared.parsed.Parsed.{Parsed}
use Rattle.mezdruk_c.specs.declared.payload.Payload.{Payload}
use Rattle.mezdruk_c.specs.declared.payload.Payload.TheVariants.{Document as a_document}

-- the bytes of a text are lent, n of them at an address: that of the document's texts, moved on to where the text is among them
pub record LendsText (p : Parsed) (text : List ℕ) (bytes : Ptr) (n : ℕ) : Type 0 where
  pub start : ℕ
  pub counted : n ≡ length text
  pub among : slice_range (doc_text p.doc.value) start (start + n) ≡ text
  pub at : bytes ≡ p.texts +ₚ start

-- so of the document of a payload
abbrev pub LendsIn : Payload → List ℕ → Ptr → ℕ → Type 0
LendsIn (a_document p) text bytes n = LendsText p text bytes n
LendsIn held text bytes n = ⊥

-- so of the document that is owned
abbrev pub LendsOwned : Option Payload → List ℕ → Ptr → ℕ → Type 0
LendsOwned (Some held) text bytes n = LendsIn held text bytes n
LendsOwned None text bytes n = ⊥
