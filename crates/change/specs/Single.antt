-- A single take or give-back: the bit of one position changed, and above it no word but where the word below turned. Definitions only.
use Rattle.std.specs.Prelude.{ℕ, zero, suc, ◌+◌, ◌/◌, ◌%◌, Bool, cond, ◌&&◌, List, [], ◌∷◌, eqb, Option, Some, None}
use Rattle.words.specs.declared.kind.Change.{Change}
use Rattle.words.specs.declared.kind.Change.TheVariants.{Insert}
use Rattle.words.specs.declared.turn.Turn.{Turn}
use Rattle.words.specs.Bits.{change_word}
use Rattle.words.specs.Turn.{turn, goes}
use Rattle.words.specs.Sizes.{cap}
use Rattle.words.specs.Tree.{own, child, leaf?}
use Rattle.change.specs.Renew.{renew}

-- child i, each child having n positions, has the position p
abbrev pub holds : ℕ → ℕ → ℕ → Bool
holds n p i = eqb i (p / n)

-- the own word turned of a map with the words x before and y after
abbrev pub turns : List ℕ → List ℕ → Bool
turns x y = goes (turn (own x) (own y))

-- the map s with the position p changed, and the summary bit of its child recomputed where that child's own word turned
unfoldable pub single : Change → ℕ → List ℕ → ℕ → List ℕ
single c zero s p = change_word c (own s) p (p + 1) ∷ []
single c (suc k) s p =
    renew k (holds (cap k) p) (λ i. holds (cap k) p i && turns (child k s i) (single c k (child k s i) (p % cap k)))
    (λ i. single c k (child k s i) (p % cap k))
    s

-- what a give-back of the position p finds: nothing where it was free already, and otherwise how the own word turned
unfoldable pub gives : ℕ → List ℕ → ℕ → Option Turn
gives k s p = cond (leaf? k s p) None (Some (turn (own s) (own (single Insert k s p))))
