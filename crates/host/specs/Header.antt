-- What reading a header says, as a host has it.
use Rattle.std.specs.Prelude.{ℕ, Result, Ok, Err}
use Rattle.eblock.specs.declared.header.Header.{Header}
use Rattle.eblock.specs.declared.header.Header.TheVariants.{Data, Eodc}
use Rattle.host.specs.declared.header.Fields.{Fields}

abbrev pub fields_of : Result Header ℕ → Fields
fields_of (Ok (Data d n offset)) = record { length = n; third = offset; descriptor = d; is_eodc = 0; refused = 0 }
fields_of (Ok (Eodc d n)) = record { length = 0; third = n; descriptor = d; is_eodc = 1; refused = 0 }
fields_of (Err k) = record { length = 0; third = 0; descriptor = 0; is_eodc = 0; refused = k }
