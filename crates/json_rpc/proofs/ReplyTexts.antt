-- The text of a response, put together from the parts in which it is written.
use Rattle.std.proofs.Common.{◌≡◌, ◌∙◌, ℕ, List, [], ◌∷◌, ◌++◌, None, refl, sym, ap, ap₂, append_assoc, append-nil, drop, codes}
use Rattle.json_grammar.specs.Tree.{Tree}
use Rattle.json_model.specs.Print.{shown, shown_byte}
use Rattle.json_value.proofs.CompactTexts.{element_shown}
use Rattle.json_rpc.specs.ReplyTexts.{result_start, error_start, reply_end}
use Rattle.json_rpc.specs.Responses.{error_object, result_response, error_response}
use Rattle.json_rpc.specs.declared.error.RpcError.{RpcError}

-- a compact text is the same within a container
within : (t : Tree) → shown None 1 t ≡ shown None 0 t
within t = sym (append-nil (shown None 1 t)) ∙ sym (ap (drop 1) (element_shown (t ∷ []) 0 [] t refl refl))

-- the id after what is before it
abbrev before_id : List ℕ → List ℕ
before_id l = codes ",\"id\":" ++ l

abbrev whole : List ℕ → List ℕ → List ℕ
whole s i = (((s ++ before_id (i ++ [])) ++ []) ++ 125 ∷ []) ++ 10 ∷ []

parted : (s i : List ℕ) → whole s i ≡ s ++ before_id (i ++ 125 ∷ 10 ∷ [])
parted s i =
    ap (λ l. (l ++ 125 ∷ []) ++ 10 ∷ []) (append-nil (s ++ before_id (i ++ []))) ∙ append_assoc (s ++ before_id (i ++ [])) (125 ∷ []) (10 ∷ []) ∙ append_assoc s (before_id (i ++ [])) (125 ∷ 10 ∷ [])
    ∙ ap (λ l. s ++ before_id l) (append_assoc i [] (125 ∷ 10 ∷ []))

parts : (t id : Tree) → shown None 0 t ++ reply_end id ≡ whole (shown None 1 t) (shown None 1 id)
parts t id = sym (ap₂ whole (within t) (within id) ∙ parted (shown None 0 t) (shown None 0 id))

pub done_text : (t id : Tree) → result_start t ++ reply_end id ≡ shown None 0 (result_response t id) ++ 10 ∷ []
unfolding shown_byte
done_text t id = ap (λ l. codes "{\"jsonrpc\":\"2.0\",\"result\":" ++ l) (parts t id)

pub failed_text : (f : RpcError) (id : Tree) → error_start f ++ reply_end id ≡ shown None 0 (error_response f id) ++ 10 ∷ []
unfolding shown_byte
failed_text f id = ap (λ l. codes "{\"jsonrpc\":\"2.0\",\"error\":" ++ l) (parts (error_object f) id)
