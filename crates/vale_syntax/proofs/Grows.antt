-- What is spelled takes tokens in their order, and its depth is at least that of each part.
use Rattle.std.proofs.Common.{ℕ, ◌≤◌, List, length, drop, length-drop, arith}
use Rattle.vale_syntax.specs.declared.token.Token.{Token}
use Rattle.vale_syntax.specs.declared.spot.Spot.{Spot}
use Rattle.vale_syntax.specs.Trees.{Ex, Exs}
use Rattle.vale_syntax.specs.Expressions.{Spells, not_, negative, minus, postfix, operations, Chain, chain_end, operation, Indices, index_end, index, Atom, token, call, brackets, Arguments, no_arguments, some_arguments, Others, others_end, others_more}

pub chain_grows : {r : ℕ} {s : Spot} {d : ℕ} {x : Ex} {ts : List Token} {e : ℕ} {y : Ex} {rest : List Token} → Chain r s d x ts e y rest → d ≤ e
chain_grows chain_end = omega arith
chain_grows (operation o p q h t) = let g = chain_grows t in omega (arith, g)

pub indexed_grows : {s : Spot} {d : ℕ} {x : Ex} {ts : List Token} {e : ℕ} {y : Ex} {rest : List Token} → Indices s d x ts e y rest → d ≤ e
indexed_grows index_end = omega arith
indexed_grows (index p h q t) = let g = indexed_grows t in omega (arith, g)

pub others_grow : {d : ℕ} {xs : Exs} {ts : List Token} {e : ℕ} {ys : Exs} {rest : List Token} → Others d xs ts e ys rest → d ≤ e
others_grow (others_end p) = omega arith
others_grow (others_more p h t) = let g = others_grow t in omega (arith, g)

mutual
  pub spells_deep : {r d : ℕ} {ts : List Token} {x : Ex} {rest : List Token} → Spells r d ts x rest → 1 ≤ d
  spells_deep (not_ p h) = omega arith
  spells_deep (negative p q) = omega arith
  spells_deep (minus p q h) = omega arith
  spells_deep (postfix a i) = let g = indexed_grows i in let f = atom_deep a in omega (arith, f, g)
  spells_deep (operations h t) = let g = chain_grows t in let f = spells_deep h in omega (arith, f, g)

  pub atom_deep : {d : ℕ} {ts : List Token} {x : Ex} {rest : List Token} → Atom d ts x rest → 1 ≤ d
  atom_deep (token h) = omega arith
  atom_deep (call p q h) = omega arith
  atom_deep (brackets p h q) = omega arith

-- behind the first token there is no more than before
drop_short : (n : ℕ) (ts rest : List Token) → length rest ≤ length (drop n ts) → length rest ≤ length ts
drop_short n ts rest h = let e = length-drop n ts in omega (arith, h, e)

mutual
  pub spells_short : {r d : ℕ} {ts : List Token} {x : Ex} {rest : List Token} → Spells r d ts x rest → length rest ≤ length ts
  spells_short (not_ {ts = ts} {rest = rest} p h) = drop_short 1 ts rest (spells_short h)
  spells_short (negative {ts = ts} p q) = drop_short 2 ts (drop 2 ts) (omega arith)
  spells_short (minus {ts = ts} {rest = rest} p q h) = drop_short 1 ts rest (spells_short h)
  spells_short (postfix a i) = let f = atom_short a in let g = indexed_short i in omega (arith, f, g)
  spells_short (operations h t) = let f = spells_short h in let g = chain_short t in omega (arith, f, g)

  pub chain_short : {r : ℕ} {s : Spot} {d : ℕ} {x : Ex} {ts : List Token} {e : ℕ} {y : Ex} {rest : List Token} → Chain r s d x ts e y rest → length rest ≤ length ts
  chain_short chain_end = omega arith
  chain_short (operation {ts = ts} {rest = rest} o p q h t) = let f = spells_short h in let g = chain_short t in drop_short 1 ts rest (omega (arith, f, g))

  pub indexed_short : {s : Spot} {d : ℕ} {x : Ex} {ts : List Token} {e : ℕ} {y : Ex} {rest : List Token} → Indices s d x ts e y rest → length rest ≤ length ts
  indexed_short index_end = omega arith
  indexed_short (index {ts = ts} {mid = mid} {rest = rest} p h q t) =
      let f = spells_short h in
      let g = drop_short 1 mid rest (indexed_short t) in
      drop_short 1 ts rest (omega (arith, f, g))

  pub atom_short : {d : ℕ} {ts : List Token} {x : Ex} {rest : List Token} → Atom d ts x rest → length rest ≤ length ts
  atom_short (token {ts = ts} h) = drop_short 1 ts (drop 1 ts) (omega arith)
  atom_short (call {ts = ts} {rest = rest} p q h) = drop_short 2 ts rest (arguments_short h)
  atom_short (brackets {ts = ts} {mid = mid} p h q) =
      let f = spells_short h in
      let g = drop_short 1 mid (drop 1 mid) (omega arith) in
      drop_short 1 ts (drop 1 mid) (omega (arith, f, g))

  pub arguments_short : {d : ℕ} {ts : List Token} {xs : Exs} {rest : List Token} → Arguments d ts xs rest → length rest ≤ length ts
  arguments_short (no_arguments {ts = ts} p) = drop_short 1 ts (drop 1 ts) (omega arith)
  arguments_short (some_arguments h t) = let f = spells_short h in let g = others_short t in omega (arith, f, g)

  pub others_short : {d : ℕ} {xs : Exs} {ts : List Token} {e : ℕ} {ys : Exs} {rest : List Token} → Others d xs ts e ys rest → length rest ≤ length ts
  others_short (others_end {ts = ts} p) = drop_short 1 ts (drop 1 ts) (omega arith)
  others_short (others_more {ts = ts} {rest = rest} p h t) = let f = spells_short h in let g = others_short t in drop_short 1 ts rest (omega (arith, f, g))
