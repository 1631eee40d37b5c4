use Rattle.std.proofs.Common.{◌≡◌, Some, IsUtf8, string_bytes, refl, sym, ap, subst, ◌∙◌}
use Rattle.std.specs.Prelude.{IfSome}
use Rattle.json_io.specs.Sinks.{vec_sink_state}
use Rattle.json_value.proofs.PrintedTexts.{flush_failed, flushed_out}
use Rattle.json_value.proofs.texts.text_written.Goals as goal

pub returns-in-Err-clause-only : goal.returns-in-Err-clause-only
returns-in-Err-clause-only c = flush_failed _ _ _ refl refl c.in-Err.ensures

pub from_utf8_unchecked-requires : goal.from_utf8_unchecked-requires
from_utf8_unchecked-requires c =
    subst (λ g. IfSome g IsUtf8) (flushed_out _ _ (vec_sink_state c.into_inner.result) c.into_inner.ensures.0 _ c.in-Ok.ensures.keeps c.in-Ok.ensures.ok c.into_inner.ensures.1 c.into_vec-bytes.ensures) c.requires

pub returns-clause-ok : goal.returns-clause-ok
returns-clause-ok c =
    let bytes : string_bytes c.from_utf8_unchecked.result ≡ c.into_vec-bytes.result.items = cc in
    flushed_out _ _ (vec_sink_state c.into_inner.result) c.into_inner.ensures.0 _ c.in-Ok.ensures.keeps c.in-Ok.ensures.ok c.into_inner.ensures.1 c.into_vec-bytes.ensures ∙ ap Some (sym bytes)
