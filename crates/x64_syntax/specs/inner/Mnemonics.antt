-- The instructions by their mnemonics in GAS syntax.
use Rattle.std.specs.Prelude.{ℕ, List, Option}
use Rattle.x64_syntax.specs.declared.operations.Operation.{Operation}
use Rattle.x64_syntax.specs.Names.{first_of_name}
use Rattle.x64_syntax.specs.Operations.{operations, gas_mnemonic}

-- the first of this mnemonic
abbrev pub gas_operation_of : List ℕ → Option Operation
gas_operation_of mnemonic = first_of_name gas_mnemonic operations mnemonic
