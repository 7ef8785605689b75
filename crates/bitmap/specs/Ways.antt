-- The two run give-backs as one with a way, for the contracts of what they share. Definitions only.
use Rattle.std.specs.Prelude.{ℕ, cond, List, ltb}
use Rattle.words.specs.declared.kind.Change.TheVariants.{Insert}
use Rattle.change.specs.Change.{change}
use Rattle.change.specs.GiveBack.{first_leaf, give_back}
use Rattle.bitmap.specs.declared.way.Way.{Way}
use Rattle.bitmap.specs.declared.way.Way.TheVariants.{Whole, Old}
use Rattle.bitmap.specs.Calls.{give_run_after, give_run_old_after}

-- the map s after a give-back of the positions from a up to b: all or nothing it is insert's change, or s where one of them is free
abbrev pub given_back : Way → ℕ → List ℕ → ℕ → ℕ → List ℕ
given_back Whole k s a b = cond (ltb (first_leaf k s a b) b) s (change Insert k s a b)
given_back Old k s a b = give_back k s a b

-- the map after the call
abbrev pub given_after : Way → ℕ → ℕ → ℕ → List ℕ → List ℕ
given_after Whole = give_run_after
given_after Old = give_run_old_after
