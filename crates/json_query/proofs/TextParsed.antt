-- What the result of parsing a query means.
use Rattle.std.proofs.Common.{◌≡◌, inl, inr, ℕ, List, length, refl, sym, subst}
use Rattle.std.specs.Prelude.{IsUtf8}
use Rattle.json_query.specs.Errors.{HasCause, ParsingFails, offset_after, offset_of}
use Rattle.json_query.specs.Query.{Query}
use Rattle.json_query.specs.Reading.{Stops}
use Rattle.json_query.specs.Text.{IsQuery}
use Rattle.json_query.specs.TextStates.{before_root, is_query, is_refused, query_outcome}
use Rattle.json_query.specs.declared.error.Fault.{Fault}
use Rattle.json_query.specs.declared.error.QueryCode.{QueryCode}
use Rattle.json_query.specs.declared.error.QueryCode.TheVariants.{NoMemory}
use Rattle.json_query.proofs.TextAccepted.{text_accepted}
use Rattle.json_query.proofs.TextStops.{refused_breaks}

pub query_parsed : (q : Query) (b : List ℕ) → IsUtf8 b → query_outcome b ≡ is_query q → IsQuery q b
query_parsed q b u e = record { utf8 = u; well_formed = text_accepted q b e }

fails : (b : List ℕ) (c : QueryCode) (left : ℕ) → IsUtf8 b → query_outcome b ≡ is_refused c left → ParsingFails b c (offset_after c left (length b))
fails b NoMemory left u e = refl
fails b c left u e = refused_breaks b c left u e

cause : (b : List ℕ) (c : QueryCode) (left : ℕ) → query_outcome b ≡ is_refused c left → HasCause b c (offset_after c left (length b))
cause b NoMemory left e = tt
cause b c left e = (left, e, refl)

pub parsing_fails : (b : List ℕ) (f : Fault) → IsUtf8 b → Stops before_root b f → ParsingFails b f.code (offset_of f (length b))
parsing_fails b f u (inl e) = subst (λ f. ParsingFails b f.code (offset_of f (length b))) (sym e) refl
parsing_fails b f u (inr e) = fails b f.code f.left u e

pub parsing_cause : (b : List ℕ) (f : Fault) → Stops before_root b f → HasCause b f.code (offset_of f (length b))
parsing_cause b f (inl e) = subst (λ f. HasCause b f.code (offset_of f (length b))) (sym e) tt
parsing_cause b f (inr e) = cause b f.code f.left e
