pub mod Fields
pub use Rattle.json_model.specs.Datum
