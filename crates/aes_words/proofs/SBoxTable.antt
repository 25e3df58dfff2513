-- The table of the code is the S-box.
use Rattle.std.proofs.Common.{◌≡◌, ℕ, ◌<◌, get_or, sym, refl, ap, ◌∙◌}
use Rattle.aes_words.specs.Rounds.{affine, sub}
use Rattle.aes_words.specs.declared.s_box.TheConstants.{S_BOX}
use Rattle.aes_words.proofs.InverseTable.{inv}
use Rattle.aes_words.proofs.UniqueInverses.{inverse_is}
use Rattle.aes_words.proofs.SameBelow.{same_below}

transformed : (y : ℕ) → y < 256 → get_or S_BOX y 0 ≡ affine (inv y)
unfolding affine
transformed = same_below 0 (λ y. get_or S_BOX y 0) (λ y. affine (inv y)) 256 refl

pub s_box_at : (y : ℕ) → y < 256 → get_or S_BOX y 0 ≡ sub y
s_box_at y h = transformed y h ∙ sym (ap affine (inverse_is y h))
