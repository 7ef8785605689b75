-- What is said of where the lowest set bits lead. Assumes nothing.
use mathlib.Core.Path.{◌≡◌}
use mathlib.Core.List.{List}
use Prim.Native.Nat.{ℕ, ◌<◌}
use native.Mathlib.Omega.{arith}
use borrow.Author.Tests.{lt-ltb, le-ltb}
use Rattle.std.specs.Prelude.{Some, None}
use Rattle.words.specs.Sizes.{cap}
use Rattle.words.specs.Place.{leaf_place}
use Rattle.words.specs.Take.{lowest}
use Rattle.look.specs.Leads.{leads}

-- the position p of the map, and where its leaf word stands
abbrev pub Led : ℕ → List ℕ → ℕ → ℕ → Type 0
Led k s p leaf = (p < cap k) × (lowest k s ≡ p) × (leaf ≡ leaf_place k p)

module _ (k : ℕ) (s : List ℕ) where
  pub leads-to : {p leaf : ℕ} → Led k s p leaf → Some (p, leaf) ≡ leads k s
  leads-to {p} h = rw (h.1, lt-ltb p (cap k) h.0, h.2)

  pub leads-nowhere : lowest k s ≡ cap k → None ≡ leads k s
  leads-nowhere is = rw (is, le-ltb (cap k) (cap k) (omega arith))
