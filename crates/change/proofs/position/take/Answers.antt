-- `change::position::take` meets its contract. The loop climbs from the leaf word (`Taking`); it ends at the map's own word, or where the word
-- stored last did not become empty, since then no word above changes. Assumes nothing.
use mathlib.Core.Path.{◌≡◌, sym, ap, ◌∙◌}
use mathlib.Core.Bool.{false, cond}
use mathlib.Core.List.{List}
use Prim.Native.Nat.{ℕ, ◌/◌, ◌%◌, ◌^◌, ◌<◌, ◌≤◌}
use native.Mathlib.Omega.{arith}
use lib.Dec.{eqb}
use lib.ListN.{length, set, get_or}
use lib.Seq.{get_or-set_same}
use borrow.Author.Rules.{rules}
use Rattle.words.specs.declared.kind.Change.TheVariants.{Remove}
use Rattle.words.specs.declared.turn.Turned.{Turned}
use Rattle.words.specs.Bits.{bit, word_of, lowest_bit}
use Rattle.words.specs.Turn.{turned}
use Rattle.words.specs.Place.{leaf_place}
use Rattle.words.specs.Sizes.{words, cap}
use Rattle.words.specs.Take.{lowest}
use Rattle.words.proofs.Turns.{word-told}
use Rattle.words.proofs.Levels.{words-small}
use Rattle.words.proofs.OnWay.{leaf-place-lt, leaf-word}
use Rattle.change.proofs.Climb.{climb-leaf, climb-end, rise-start}
use Rattle.change.proofs.TakenWay.{low-pos, low-leaf, left, left-told, Taking, take-end, take-fits, take-low, take-turn}
use Rattle.change.proofs.position.take.Goals as goal

-- the leaf word, where a take begins
module _ (k : ℕ) (s : List ℕ) (leaf p : ℕ) (q : (k ≤ 6) × (length s ≡ words k) × (p < cap k) × (lowest k s ≡ p) × (leaf ≡ leaf_place k p)) where
  leaf-lt : leaf < length s
  leaf-lt = omega (arith, leaf-place-lt k p q.2)

  -- its place in memory is none past the map's
  leaf-small : leaf ≤ 17895697
  leaf-small = omega (arith, leaf-lt, words-small k q.0)

  leaf-low : lowest_bit (get_or s leaf 0) ≡ p % 16
  leaf-low = ap (λ (m : ℕ). lowest_bit (get_or s m 0)) q.4 ∙ ap lowest_bit (leaf-word k s p) ∙ low-leaf k s p q.1 q.2 q.3

  -- the loop climbs from there
  module _ {r : Turned} (e : r ≡ turned (get_or s leaf 0) (word_of (λ m. cond (eqb m (lowest_bit (get_or s leaf 0))) false (bit (get_or s leaf 0) m)))) where
    begun : Taking k s p leaf 0 (p / 2 ^ 4) 1 r.turn (set s leaf r.word)
    begun = record {
      rising = rise-start p;
      turned = left-told _ _ e leaf-low (omega arith) ∙ ap left (sym (get_or-set_same s leaf r.word 0 leaf-lt));
      climbed = climb-leaf Remove s q.0 q.1 q.2 q.4 leaf-low (word-told _ _ e);
    }

pub offset_bounds-s-leaf : goal.offset_bounds-s-leaf
offset_bounds-s-leaf c = omega (arith, leaf-small _ _ _ _ c.requires)

pub bounds-s-leaf : goal.bounds-s-leaf
bounds-s-leaf c = leaf-lt _ _ _ _ c.requires

pub take-new-requires : goal.take-new-requires
take-new-requires c = low-pos _ (leaf-low _ _ _ _ c.requires) (omega arith)

pub offset_bounds-s-leaf-2 : goal.offset_bounds-s-leaf-2
offset_bounds-s-leaf-2 c = omega (arith, leaf-small _ _ _ _ c.requires)

pub bounds-s-leaf-2 : goal.bounds-s-leaf-2
bounds-s-leaf-2 c = leaf-lt _ _ _ _ c.requires

pub loop-init : goal.loop-init
loop-init c = begun _ _ _ _ c.requires c.take-new.ensures

-- the word stored last did not become empty
pub returns-in_default : goal.returns-in_default
returns-in_default c = take-end c.loop.invariant c.requires.3 (λ i. search rules) c.in_default.not-BecameEmpty

pub overflow_sub-at : goal.overflow_sub-at
overflow_sub-at c = omega (arith, take-fits c.loop.invariant c.loop-test.true)

pub overflow_mul-at : goal.overflow_mul-at
overflow_mul-at c = omega (arith, take-fits c.loop.invariant c.loop-test.true)

pub overflow_sub-at-in-loop : goal.overflow_sub-at-in-loop
overflow_sub-at-in-loop c = omega (arith, take-fits c.loop.invariant c.loop-test.true)

pub offset_bounds-s-at : goal.offset_bounds-s-at
offset_bounds-s-at c = omega (arith, take-fits c.loop.invariant c.loop-test.true)

pub bounds-s-at : goal.bounds-s-at
bounds-s-at c = (take-fits c.loop.invariant c.loop-test.true).1

pub take-new-requires-in-loop : goal.take-new-requires-in-loop
take-new-requires-in-loop c = low-pos _ (take-low c.loop.invariant c.loop-test.true c.requires.3) (omega arith)

pub offset_bounds-s-at-in-loop : goal.offset_bounds-s-at-in-loop
offset_bounds-s-at-in-loop c = omega (arith, take-fits c.loop.invariant c.loop-test.true)

pub bounds-s-at-in-loop : goal.bounds-s-at-in-loop
bounds-s-at-in-loop c = (take-fits c.loop.invariant c.loop-test.true).1

pub overflow_mul-size : goal.overflow_mul-size
overflow_mul-size c = omega (arith, take-fits c.loop.invariant c.loop-test.true)

pub overflow_add-size : goal.overflow_add-size
overflow_add-size c = omega (arith, take-fits c.loop.invariant c.loop-test.true)

pub loop-preserved : goal.loop-preserved
loop-preserved c = take-turn c.loop.invariant c.loop-test.true c.requires.3 c.in-BecameEmpty.is c.take-new-in-loop.ensures

pub returns : goal.returns
returns c = climb-end c.loop.invariant.climbed c.loop-test.false
