-- The members of a batch that were served so far.
use Rattle.std.proofs.Common.{◌≡◌, ◌∙◌, List, [], ◌∷◌, ◌++◌, Bool, true, append_assoc, sym, ap}
use Rattle.std.specs.Prelude.{Option, option_to_list}
use Rattle.std.specs.List.{list_all}
use Rattle.std.proofs.lemmas.Bool.{and_parts}
use Rattle.json_grammar.specs.Tree.{Tree}
use Rattle.json_history.specs.History.{TreeHistory}
use Rattle.json_rpc.specs.Serving.{batch_served, member_served, member_only_reads}

-- responses before others
abbrev before : List Tree → TreeHistory × List Tree → TreeHistory × List Tree
before got r = (r.0, got ++ r.1)

-- the members before the rest were served, with this history and these responses
pub record Underway (t : TreeHistory) (us rest : List Tree) (now : TreeHistory) (got : List Tree) : Type 0 where
  pub whole : batch_served t us ≡ before got (batch_served now rest)

pub underway_next : (t : TreeHistory) (us more rest : List Tree) (u : Tree) (now next : TreeHistory) (o : Option Tree) (got got' : List Tree) → Underway t us more now got → more ≡ u ∷ rest → member_served now u ≡ (next, o) → got' ≡ got ++ option_to_list o → Underway t us rest next got'
underway_next t us more rest u now next o got got' h e s g =
    let later = batch_served next rest in
    record {
      whole = h.whole ∙ ap (λ ws. before got (batch_served now ws)) e ∙ ap (λ (p : TreeHistory × Option Tree). let l = batch_served p.0 rest in before got (l.0, option_to_list p.1 ++ l.1)) s
          ∙ ap (λ ws. (later.0, ws)) (sym (append_assoc got (option_to_list o) later.1) ∙ ap (λ ws. ws ++ later.1) (sym g));
    }

-- ---- members that only read

abbrev AllRead : List Tree → Type 0
AllRead us = list_all member_only_reads us ≡ true

-- the members before the rest left the history as it was, if all members only read
pub record LeavesHistory {V : Type 0} (us rest : List Tree) (old now : V) : Type 0 where
  pub so : AllRead us → (now ≡ old) × AllRead rest

pub leaves_next : {V : Type 0} (us more rest : List Tree) (u : Tree) (old now next : V) → LeavesHistory us more old now → more ≡ u ∷ rest → (member_only_reads u ≡ true → next ≡ now) → LeavesHistory us rest old next
leaves_next us more rest u old now next h e step =
    record {
      so = λ all.
          let k = h.so all in
          let parts = and_parts (member_only_reads u) (list_all member_only_reads rest) (ap (list_all member_only_reads) (sym e) ∙ k.1) in
          (step parts.0 ∙ k.0, parts.1);
    }

-- all members only read, if the rest does
pub record ReadSoFar (us rest : List Tree) : Type 0 where
  pub same : list_all member_only_reads us ≡ list_all member_only_reads rest
