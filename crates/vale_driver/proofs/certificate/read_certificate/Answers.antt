use Rattle.vale_driver.proofs.ReadLaws.{certificate_found, certificate_refused}
use Rattle.vale_driver.proofs.certificate.read_certificate.Goals as goal

pub returns-clause-found : goal.returns-clause-found
returns-clause-found c = certificate_found _ _ _ c.pairs_of.ensures

pub returns-clause-refused : goal.returns-clause-refused
returns-clause-refused c = certificate_refused _ _ _ c.pairs_of.ensures
