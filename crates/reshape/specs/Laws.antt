-- Laws of the words of the command line.
use Rattle.std.specs.Prelude.{◌≡◌, ℕ, List}
use Rattle.reshape.specs.Options.{Command, Asks, IsReshaping, AsksMade}

-- words ask for one command at most: for the same edits in the same layout by the same rules
abbrev pub OneCommand : Type 0
OneCommand = (words : List (List ℕ)) (c c' : Command) → Asks words c → Asks words c' → (c.es ≡ c'.es) × (c.layout ≡ c'.layout) × (c.rules ≡ c'.rules)

-- words that ask for made input ask for one number of records, and for no command
abbrev pub MadeAlone : Type 0
MadeAlone = (words : List (List ℕ)) (n : ℕ) → AsksMade words n → ((m : ℕ) → AsksMade words m → m ≡ n) × ¬ (IsReshaping words)
