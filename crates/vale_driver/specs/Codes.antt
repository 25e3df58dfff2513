-- The program's exit status.
use Rattle.std.specs.Prelude.{ℕ}
use Rattle.vale_driver.specs.declared.status.Status.{Status}
use Rattle.vale_driver.specs.declared.status.Status.TheVariants.{Done, Refused, Usage, ReadFault, WriteFault, NoMemory}

abbrev pub status_code : Status → ℕ
status_code Done = 0
status_code (Refused r) = 1
status_code Usage = 2
status_code ReadFault = 3
status_code WriteFault = 4
status_code NoMemory = 5
