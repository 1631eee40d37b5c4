use Rattle.std.proofs.Common.{◌∙◌, ap, ap₂, length, take, arith}
use Rattle.json_model.specs.Print.{shown_byte}
use Rattle.json_layout.proofs.ShownBytes.{first_stored, tables_shown, lengths_few}
use Rattle.json_layout.proofs.shown.store_shown.Goals as goal

pub returns-clause-few : goal.returns-clause-few
returns-clause-few c = let few = lengths_few c.from-index.result (omega (arith, c.from-index.ensures)) in omega (arith, c.from.ensures, few)

pub returns-clause-stored : goal.returns-clause-stored
returns-clause-stored c =
    let few = lengths_few c.from-index.result (omega (arith, c.from-index.ensures)) in
    first_stored c.args.room.now c.to_le_bytes-shown.result c.args.at c.from.result c.args.byte c.requires (ap length c.to_le_bytes-shown.ensures) (omega (arith, c.from.ensures, few))
    (ap₂ (λ n q. take n q) c.from.ensures c.to_le_bytes-shown.ensures ∙ tables_shown c.from-index.result (omega (arith, c.from-index.ensures)) ∙ ap shown_byte c.from-index.ensures)
