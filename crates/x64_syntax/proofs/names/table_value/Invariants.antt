use Rattle.std.proofs.Common.{◌≡◌, drop}
use Rattle.std.specs.Prelude.{map}
use Rattle.x64_syntax.specs.Names.{table_value}
use Rattle.x64_syntax.proofs.names.table_value.Given as goal

-- the rest gives what the whole gives
abbrev pub invariant-loop-word : goal.invariant-loop-word
invariant-loop-word g l = table_value (map (λ r. (r.0.now, r.1)) (drop l.word-index l.rows)) l.name ≡ table_value (map (λ r. (r.0.now, r.1)) l.rows) l.name
