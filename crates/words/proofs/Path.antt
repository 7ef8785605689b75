-- The way into a child of a map of level k, which has the level j below k: its part of the words, and a position in it.
-- Assumes nothing.
use mathlib.Core.Path.{◌≡◌, ap, ◌∙◌}
use mathlib.Core.List.{List}
use Prim.Native.Nat.{ℕ, suc, ◌+◌, ◌-◌, ◌*◌, ◌/◌, ◌%◌, ◌<◌, ◌≤◌}
use native.Mathlib.Nat.{div-lt_iff_lt-mul}
use native.Mathlib.Omega.{arith}
use lib.Arith.{digits_lt, digits_div, digits_mod}
use lib.ListN.{length}
use Rattle.words.specs.Sizes.{words, cap}
use Rattle.words.specs.Tree.{child, leaf?}
use Rattle.words.proofs.Levels.{words-node, cap-node, cap-pos, words-small}
use Rattle.words.proofs.Rows.{part-within, length-child}
use Rattle.words.proofs.Parts.{lent, lent-child}

-- the level below
pub level-below : {k : ℕ} → (k ≡ 0 → ⊥) → suc (k - 1) ≡ k
level-below ne = omega arith

-- ---- a child's part

-- child i of the words s, where each child has n words
pub record Entered (j : ℕ) (s : List ℕ) (i n : ℕ) : Type 0 where
  pub size : n ≡ words j
  pub len : length s ≡ words (suc j)
  pub at : i < 16
  pub ends : 1 + i * n + n ≤ length s
  pub small : length s ≤ 17895697

pub enter : {k j : ℕ} {s : List ℕ} {i n : ℕ} → suc j ≡ k → k ≤ 6 → length s ≡ words k → n ≡ words j → i < 16 → Entered j s i n
enter {k} {j} {s} {i} {n} up le ls size at =
    record {
      size = size;
      len = rw up ls;
      at = at;
      ends = omega (arith, words-node j, ap words up, part-within i n at);
      small = omega (arith, words-small k le);
    }

module _ {j : ℕ} {s : List ℕ} {i n : ℕ} (h : Entered j s i n) where
  -- what is lent is the child
  pub entered-part : lent n s i ≡ child j s i
  entered-part = lent-child j s i n h.size

  pub entered-length : length (lent n s i) ≡ words j
  entered-length = ap length entered-part ∙ length-child j s h.len i h.at

-- ---- a position

-- it is in one of the 16 children
pub position-child : {k j : ℕ} (p : ℕ) → suc j ≡ k → p < cap k → p / cap j < 16
position-child {k} {j} p up l = (div-lt_iff_lt-mul (cap-pos j)).1 (omega (arith, cap-node j, ap cap up))

-- its leaf bit is that in the child
pub leaf-child : {k j : ℕ} (s : List ℕ) (p : ℕ) → suc j ≡ k → leaf? k s p ≡ leaf? j (child j s (p / cap j)) (p % cap j)
unfolding leaf?
leaf-child s p up = rw (← up)

-- position q of child i is one of the map
pub child-position : (k i q : ℕ) → i < 16 → q < cap k → i * cap k + q < cap (suc k)
child-position k i q l m = rw cap-node (digits_lt l m)

-- and has the leaf bit that it has in the child
pub leaf-in : (k : ℕ) (s : List ℕ) (i q : ℕ) → q < cap k → leaf? (suc k) s (i * cap k + q) ≡ leaf? k (child k s i) q
unfolding leaf?
leaf-in k s i q l = rw (digits_div i l, digits_mod i l)
