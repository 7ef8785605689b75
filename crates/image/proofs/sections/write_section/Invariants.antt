-- `image::sections::write_section` meets its contract. The loop's invariant: the first j words stand after the count. Its measure is what is
-- left of the words. Assumes nothing.
use mathlib.Core.Path.{◌≡◌}
use Prim.Native.Nat.{◌+◌, ◌-◌, ◌≤◌}
use lib.ListN.{length, take}
use Rattle.image.specs.Bytes.{word_bytes, written}
use Rattle.image.specs.Depths.{depth_words}
use Rattle.image.proofs.sections.write_section.Given as goal

abbrev pub invariant-loop-j : goal.invariant-loop-j
invariant-loop-j l = (l.j ≤ l.n) × (length l.target ≡ length l.initial.target) × (l.target ≡ written (l.from + 4) (word_bytes (take l.j (depth_words l.k l.d l.s))) l.initial.target)

abbrev pub decreases-loop-j : goal.decreases-loop-j
decreases-loop-j l = l.n - l.j
