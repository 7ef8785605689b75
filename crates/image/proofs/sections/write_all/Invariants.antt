-- `image::sections::write_all` meets its contract. The loop's invariant: the sections before d are written. Its measure is what is left of the
-- sections. Assumes nothing.
use mathlib.Core.Path.{◌≡◌}
use Prim.Native.Nat.{suc, ◌-◌, ◌≤◌}
use lib.ListN.{length}
use Rattle.image.specs.Bytes.{written}
use Rattle.image.proofs.ImageParts.{begun}
use Rattle.image.proofs.sections.write_all.Given as goal

abbrev pub invariant-loop-d : goal.invariant-loop-d
invariant-loop-d l = (l.d ≤ suc l.k) × (length l.target ≡ length l.initial.target) × (l.target ≡ written 0 (begun l.k l.s l.d) l.initial.target)

abbrev pub decreases-loop-d : goal.decreases-loop-d
decreases-loop-d l = suc l.k - l.d
