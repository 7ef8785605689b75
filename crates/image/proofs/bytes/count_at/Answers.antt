-- `image::bytes::count_at` meets its contract. Assumes nothing.
use Rattle.image.proofs.Numbers.{number-four}
use native.Mathlib.Omega.{arith}
use Rattle.image.proofs.bytes.count_at.Goals as goal

pub returns : goal.returns
returns c = let a = c.args in
    omega (arith, number-four a.bytes.now a.at c.requires, c.from_le_bytes.ensures)
