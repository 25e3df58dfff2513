use Rattle.term_value.proofs.Soundness.{evaluation_worth}
use Rattle.term_value.proofs.laws.evaluation_is_value.Goals as goal

pub returns : goal.returns
returns c fs es a p t v obeys sorted free agrees h = evaluation_worth fs es a p t v obeys sorted free agrees h
