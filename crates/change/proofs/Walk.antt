-- A loop over the children that the positions from a up to b of a map stand in: its start, its numbers at each turn, and its end.
-- Assumes nothing.
use mathlib.Core.Path.{◌≡◌, refl, sym, ap, ap₂, ◌∙◌}
use mathlib.Core.List.{List}
use Prim.Native.Nat.{ℕ, suc, ◌+◌, ◌-◌, ◌*◌, ◌/◌, ◌^◌, ◌<◌, ◌≤◌}
use native.Mathlib.Omega.{arith}
use lib.ListN.{length, set}
use Rattle.words.specs.Bits.{within}
use Rattle.words.specs.Sizes.{words, cap}
use Rattle.words.specs.Tree.{own}
use Rattle.change.specs.Renew.{renew}
use Rattle.change.specs.Change.{low, high, visits}
use Rattle.words.proofs.Levels.{words-node, cap-node, cap-pos}
use Rattle.change.proofs.Spans.{last-below, first-last, visited-in, visited-start, visited, high-le}
use Rattle.change.proofs.Renewed.{renew-ext}
use Rattle.words.proofs.Parts.{lent}
use Rattle.change.proofs.Turn.{Upto, start, finish}
use Rattle.words.proofs.Path.{Entered, enter, entered-length}

-- the map has level k, and the children have level j; the loop goes from child i₀ up to `end` and is at child i
pub record Walk (k a b j end i₀ i : ℕ) : Type 0 where
  pub level : suc j ≡ k
  pub levels : k ≤ 6
  pub some : a < b
  pub ends : b ≤ cap (suc j)
  pub first : i₀ ≡ a / cap j
  pub stop : end ≡ (b - 1) / cap j + 1
  pub from : i₀ ≤ i
  pub upto : i ≤ end

-- before the first turn
pub walk-start : {k a b j i₀ m : ℕ} → suc j ≡ k → k ≤ 6 → a < b → b ≤ cap k → i₀ ≡ a / cap j → m ≡ (b - 1) / cap j
    → Walk k a b j (m + 1) i₀ i₀
walk-start {a = a} {b} {j} level levels some ends f l = record {
  level = level;
  levels = levels;
  some = some;
  ends = rw (← level) at ends;
  first = f;
  stop = ap (λ (n : ℕ). n + 1) l;
  from = omega arith;
  upto = omega (arith, first-last (cap j) (cap-pos j) a b some);
}

-- the same, with the map's words s, n of them to a child, and what each child is to become
pub walk-turns : {k a b j i₀ m n : ℕ} {s : List ℕ} → suc j ≡ k → k ≤ 6 → length s ≡ words k → a < b → b ≤ cap k → own s < 2 ^ 16
    → n ≡ words j → m ≡ (b - 1) / cap j → i₀ ≡ a / cap j
    → (kids : ℕ → List ℕ) → (length s ≡ words (suc j) → (i : ℕ) → i < 16 → length (kids i) ≡ words j)
    → Walk k a b j (m + 1) i₀ i₀ × Upto j n s kids i₀ i₀ s (own s)
walk-turns {j = j} {i₀} {n = n} {s} level levels len some ends fits size l f kids sized =
    let len' : length s ≡ words (suc j) = len ∙ ap words (sym level) in
    (walk-start level levels some ends f l, start j n s kids i₀ size len' fits (sized len'))

-- after the last turn the children passed are those that have some of the positions
pub walk-finish : {k a b j end i₀ i n w : ℕ} {s₀ s : List ℕ} {kids : ℕ → List ℕ} → Walk k a b j end i₀ i → Upto j n s₀ kids i₀ i s w → end ≤ i
    → set s 0 w ≡ renew j (visits (cap j) a b) (visits (cap j) a b) kids s₀
walk-finish {a = a} {b} {j} {i₀ = i₀} {i} {s₀ = s₀} {kids = kids} h u l = finish u ∙ renew-ext j _ _ _ _ kids kids s₀ passed passed (λ n m t. refl)
  where
    last : i ≡ (b - 1) / cap j + 1
    last = omega arith

    passed : (n : ℕ) → n < 16 → within i₀ i n ≡ visits (cap j) a b n
    passed n m = ap₂ (λ (x y : ℕ). within x y n) h.first last ∙ visited (cap j) (cap-pos j) a b h.some n

module _ {k a b j end i₀ i : ℕ} (h : Walk k a b j end i₀ i) (l : i < end) where
  -- the child is one of 16
  pub walk-child : i < 16
  walk-child = omega (arith, last-below (cap j) (cap-pos j) b (rw cap-node at h.ends) (omega arith))

  -- it has some of the positions
  pub walk-some : low (cap j) a i < high (cap j) b i
  walk-some = visited-in (cap j) (cap-pos j) a b h.some i (omega arith) (omega arith)

  -- it starts before their end
  pub walk-before : i * cap j < b
  walk-before = visited-start (cap j) (cap-pos j) a b i walk-some

  -- its part of the words s, where a child has n
  pub walk-enter : {n : ℕ} {s : List ℕ} → n ≡ words j → length s ≡ words (suc j) → Entered j s i n
  walk-enter e f = enter h.level h.levels (rw h.level at f) (omega (arith, words-node j)) walk-child

  -- what is asked of a call for the child, with the positions that it has
  pub walk-call : {n lo hi : ℕ} {s : List ℕ} → Entered j s i n → lo ≡ low (cap j) a i → hi ≡ high (cap j) b i
      → (j ≤ 6) × (length (lent n s i) ≡ words j) × (lo < hi) × (hi ≤ cap j)
  walk-call e el eh = (omega arith, entered-length e, rw (el, eh) walk-some, rw eh (high-le (cap j) b i))

  -- after a turn
  pub walk-next : Walk k a b j end i₀ (i + 1)
  walk-next = record {
    level = h.level;
    levels = h.levels;
    some = h.some;
    ends = h.ends;
    first = h.first;
    stop = h.stop;
    from = omega arith;
    upto = omega arith;
  }
