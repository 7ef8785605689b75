-- P1 to P12 of document 01 are as the calls' definitions have it, checked by computation. Assumes nothing.
use mathlib.Core.Path.{◌≡◌, refl}
use Rattle.words.specs.Search.{first_from, all}
use Rattle.words.specs.Bits.{bit, pack}
use Rattle.words.specs.Sizes.{words, cap, level_of}
use Rattle.words.specs.Tree.{child, row, node, leaf?, free?}
use Rattle.change.specs.Renew.{replaced, marked, renew}
use Rattle.change.specs.Change.{low, high, change}
use Rattle.words.specs.Take.{lowest}
use Rattle.change.specs.GiveBack.{give_back}
use Rattle.bitmap.specs.Calls.{answer, after}
use Rattle.laws.specs.Examples.{examples, all_redone}

-- each of them: what the calls say, and the words that they leave, are those shown
pub examples-hold : all_redone examples ≡ examples
unfolding first_from all bit pack words cap child row node replaced marked renew leaf? free? low high change lowest give_back level_of answer after
examples-hold = refl
