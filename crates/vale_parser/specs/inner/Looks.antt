-- What looking ahead gives, for the proofs of this crate to compute with.
unfoldable pub use Rattle.vale_syntax.specs.Statements.{sort_at}
unfoldable pub use Rattle.vale_syntax.specs.Declarations.{kind_at, abi_at}
