-- `image::reading::Image::read_to` meets its contract. The loops' invariants: the words of the depths before d, and those of depth d before j,
-- are in their places; the inner loop says it of any target that the outer loop filled so far. The measures are what is left of the
-- words of the depth and of the depths. Assumes nothing.
use mathlib.Core.List.{List}
use Prim.Native.Nat.{ℕ, suc, ◌-◌, ◌≤◌}
use Rattle.words.specs.Place.{count}
use Rattle.image.specs.Reading.{word_in}
use Rattle.image.proofs.Filling.{Filled}
use Rattle.image.proofs.reading.Image.read_to.Given as goal

abbrev pub invariant-loop-j : goal.invariant-loop-j
invariant-loop-j l = (l.j ≤ count l.d) × ((t : List ℕ) → Filled (word_in l.self.bytes.now) l.self.level t l.initial.target l.d 0 → Filled (word_in l.self.bytes.now) l.self.level t l.target l.d l.j)

abbrev pub decreases-loop-j : goal.decreases-loop-j
decreases-loop-j l = count l.d - l.j

abbrev pub invariant-loop-d : goal.invariant-loop-d
invariant-loop-d l = (l.d ≤ suc l.self.level) × Filled (word_in l.self.bytes.now) l.self.level l.initial.target l.target l.d 0

abbrev pub decreases-loop-d : goal.decreases-loop-d
decreases-loop-d l = suc l.self.level - l.d
