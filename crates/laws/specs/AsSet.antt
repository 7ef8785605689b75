-- What demand 2 asks of a call: on a true map it is the call on the plain set F of free positions; and the lowest of a set, with its
-- quantifiers. Definitions only.
use Rattle.std.specs.Prelude.{ℕ, ◌≤◌, ◌<◌, ◌≡◌, true, false, List, length}
use Rattle.words.specs.Sizes.{cap}
use Rattle.words.specs.Tree.{free?}
use Rattle.bitmap.specs.Calls.{answer, after}
use Rattle.bitmap.specs.Maps.{TrueMap, TrueStore, free_in, positions}
use Rattle.laws.specs.Call.{Call, call_says, call_after}
use Rattle.laws.specs.Sets.{Positions, set_says, set_after}

-- the call c on the map s of k levels below its own word is the call on F
pub record AsSet (c : Call) (k : ℕ) (s : List ℕ) : Type 0 where
  -- the answer is the one of the set
  pub says : call_says c k s ≡ set_says c (free? k s) (cap k)
  -- F afterwards is the set afterwards
  pub leaves : (p : ℕ) → p < cap k → free? k (call_after c k s) p ≡ set_after c (free? k s) (cap k) p
  -- the map is true again
  pub again : TrueMap k (call_after c k s)

-- the call c on the lent store s is the call on its F
pub record StoreAsSet (c : Call) (s : List ℕ) : Type 0 where
  -- the answer is the one of the set
  pub says : answer (call_says c) s ≡ set_says c (free_in s) (positions s)
  -- F afterwards is the set afterwards
  pub leaves : (p : ℕ) → p < positions s → free_in (after (call_after c) s) p ≡ set_after c (free_in s) (positions s) p
  -- the store is a true map again, of as many words
  pub again : TrueStore (after (call_after c) s)
  pub size : length (after (call_after c) s) ≡ length s

-- p is the lowest of the positions 0 to n - 1 that is key or more and in the set f
pub record LowestFrom (f : Positions) (n key p : ℕ) : Type 0 where
  pub from : key ≤ p
  pub upto : p < n
  pub here : f p ≡ true
  pub lower : (q : ℕ) → key ≤ q → q < p → f q ≡ false

-- none of the positions 0 to n - 1 that is key or more is in the set f
abbrev pub NoneFrom : Positions → ℕ → ℕ → Type 0
NoneFrom f n key = (q : ℕ) → key ≤ q → q < n → f q ≡ false
