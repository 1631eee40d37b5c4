-- The numbers and the texts of the errors that lines may have and JSON texts may not.
use Rattle.std.specs.Prelude.{ℕ, List, codes}
use Rattle.json_lines.specs.declared.line_error.LineError.{LineError}
use Rattle.json_lines.specs.declared.line_error.LineError.TheVariants.{LineTooLong}

abbrev pub line_error_number : LineError → ℕ
line_error_number LineTooLong = 28

abbrev pub line_error_text : LineError → List ℕ
line_error_text LineTooLong = codes "LineTooLong\n"
