use Rattle.std.proofs.Common.{◌≡◌, ◌-◌, length}
use Rattle.vale_driver.specs.inner.CertificateFront.{more_at, with_pairs}
use Rattle.vale_driver.proofs.certificate.more_pairs.Given as goal

-- what is read so far, in front of what is still to be read, is what all of it gives
abbrev pub invariant-loop : goal.invariant-loop
invariant-loop l = with_pairs l.pairs.items (more_at (length l.fn.bytes - l.counter) l.rest) ≡ with_pairs l.fn.first.items (more_at (length l.fn.bytes) l.fn.bytes)
