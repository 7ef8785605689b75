-- `lines::read::number` meets its contract. What is left to read, after the value so far, says what the whole text says. Assumes nothing.
use mathlib.Core.Path.{◌≡◌}
use Prim.Native.Nat.{◌<◌}
use lib.ListN.{drop}
use Rattle.lines.specs.Number.{digits?, value}
use Rattle.lines.proofs.Numbers.{tens}
use Rattle.lines.proofs.read.number.Given as goal

abbrev pub invariant-loop-b : goal.invariant-loop-b
invariant-loop-b l = (digits? (drop l.b-index l.s) ≡ digits? l.s) × (value l.v (drop l.b-index l.s) ≡ value 0 l.s) × (l.v < tens l.b-index)
