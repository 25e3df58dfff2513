-- What looking ahead gives, for the proofs of this crate to compute with.
unfoldable pub use Rattle.vale_syntax.specs.Expressions.{leaf, minus_number}
unfoldable pub use Rattle.vale_syntax.specs.inner.Parse.{others, arguments, atom, indices, unary, chain, rank_parse, parse, whole_parse}
