-- The literal of an event that was read is a number.
use Rattle.std.proofs.Common.{◌≡◌, Bool, ℕ, List, [], ◌∷◌, ◌++◌, subst}
use Rattle.json_grammar.specs.declared.Kind.{Kind}
use Rattle.json_grammar.specs.declared.ExpectedPart.{ExpectedPart}
use Rattle.json_grammar.specs.Tree.{Token}
use Rattle.json_grammar.specs.Place.{reading}
use Rattle.json_grammar.proofs.Numeric.{last_number}
use Rattle.json_text.specs.declared.event.Event.{Event}
use Rattle.json_text.specs.declared.event.Event.TheVariants as event
use Rattle.json_text.specs.Events.{Means}
use Rattle.json_doc.specs.Reading.{EventIsNumber}

-- the last event that was read
pub event_number : {lossy : Bool} (e : Event) (x : Token) (p : List ℕ) (c : List Kind) (w : ExpectedPart) (ts : List Token) → Means e x → reading lossy p c w (ts ++ x ∷ []) → EventIsNumber e
event_number {lossy = lossy} (event.Number l) x p c w ts m h = last_number ts l.now (subst (λ (y : Token). reading lossy p c w (ts ++ y ∷ [])) m h)
event_number event.Null x p c w ts m h = tt
event_number (event.Bool v) x p c w ts m h = tt
event_number (event.Str s) x p c w ts m h = tt
event_number (event.Key s) x p c w ts m h = tt
event_number event.BeginArray x p c w ts m h = tt
event_number event.EndArray x p c w ts m h = tt
event_number event.BeginObject x p c w ts m h = tt
event_number event.EndObject x p c w ts m h = tt
event_number event.End x p c w ts m h = tt

pub same_event_number : (e e' : Event) → e ≡ e' → EventIsNumber e → EventIsNumber e'
same_event_number e e' is h = subst EventIsNumber is h
