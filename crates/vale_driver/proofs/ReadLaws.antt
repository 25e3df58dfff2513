-- What an exact reading says of the texts that are of the form.
use Rattle.std.proofs.Common.{◌≡◌, ℕ, ◌≤◌, List, length, Some, None, Result, Ok, Err, sym, ap, ◌∙◌}
use Rattle.std.specs.Prelude.{IfOk, Vec}
use Rattle.std.specs.declared.alloc.Global.{Global}
use Rattle.vale_driver.specs.declared.certificate.CertificateFault.{CertificateFault}
use Rattle.vale_driver.specs.declared.certificate.CertificateFault.TheVariants.{NotOfForm, NoMemory}
use Rattle.vale_driver.specs.Certificate.{Pair, Proves}
use Rattle.vale_driver.specs.Limits.{certificate_limit}
use Rattle.vale_driver.specs.inner.CertificateFront.{certificate_at, Reads}
use Rattle.vale_driver.proofs.CertificateLaws.{certificate_is, certificate_takes}

pub certificate_found : (name bytes : List ℕ) (r : Result (Vec Pair Global) CertificateFault) → Reads (λ v. v.items) (certificate_at name bytes) r → IfOk r (λ v. length bytes ≤ certificate_limit → Proves bytes name v.items)
certificate_found name bytes (Ok v) h = λ short. let s = certificate_is name bytes v.items h in record { fits = s.0; short = short; newline = s.1.0; text_is = s.1.1 }
certificate_found name bytes (Err e) h = tt

no_certificate : (name bytes : List ℕ) (ps : List Pair) → certificate_at name bytes ≡ None → Proves bytes name ps → ⊥
no_certificate name bytes ps h s = let some : None ≡ Some ps = sym h ∙ ap (certificate_at name) s.text_is ∙ certificate_takes name ps s.newline s.fits in absurd cc

pub certificate_refused : (name bytes : List ℕ) (r : Result (Vec Pair Global) CertificateFault) → Reads (λ v. v.items) (certificate_at name bytes) r → r ≡ Err NotOfForm → (ps : List Pair) → Proves bytes name ps → ⊥
certificate_refused name bytes (Err NotOfForm) h e ps s = no_certificate name bytes ps h s
certificate_refused name bytes (Err NoMemory) h e ps s = absurd cc
certificate_refused name bytes (Ok v) h e ps s = absurd cc
