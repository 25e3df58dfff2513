use Rattle.std.proofs.Common.{◌≡◌, ◌++◌, drop}
use Rattle.vale_driver.specs.Texts.{listing_text}
use Rattle.vale_driver.proofs.read.listing.Given as goal

-- what was pushed, and the listing of the rest, are the whole listing
abbrev pub invariant-loop-item : goal.invariant-loop-item
invariant-loop-item l = l.out.items ++ listing_text (drop l.item-index l.items) ≡ listing_text l.items
