-- `words::word::next` meets its contract. What it keeps is the word without its bits below key, whose lowest is the first from key on.
-- Assumes nothing.
use mathlib.Core.Path.{◌≡◌, sym, ap, ◌∙◌}
use mathlib.Core.Bool.{false, cond, ◌&&◌, and-true, and-false}
use Prim.Native.Nat.{ℕ, ◌+◌, ◌-◌, ◌*◌, ◌%◌, ◌^◌, ◌<◌}
use native.Mathlib.Nat.{lt_of_le_of_lt}
use native.Mathlib.Decide.{dec_le}
use native.Mathlib.Omega.{arith}
use lib.Pow.{pow-lt, pow-add}
use lib.Bits.{bit_and, and_le_l}
use Rattle.words.specs.declared.kind.Change.TheVariants.{Remove}
use Rattle.words.specs.Bits.{bit, within, change_word, lowest_bit}
use Rattle.words.proofs.Search.{first-end}
use Rattle.words.proofs.Bits.{is-pack, mask-bit, and-bit}
use Rattle.words.proofs.Within.{within-yes, within-no}
use Rattle.words.proofs.Words.{lowest-from}
use Rattle.words.proofs.word.next.Goals as goal

module _ (w key : ℕ) (l : key < 16) where
  -- the bits from key on stay
  stays : (i : ℕ) → i < 16 → (bit w i && within key (16 + key) i) ≡ cond (within 0 key i) false (bit w i)
  stays i u = elim (dec_le key i) [
    | yes h ↦ rw (within-yes key (16 + key) i h (omega arith), within-no 0 key i (omega arith)) (and-true (bit w i))
    | no h ↦ rw (within-no key (16 + key) i (omega arith), within-yes 0 key i (omega arith) (omega arith)) (and-false (bit w i))
  ]

  -- `w & (65535 << key)`
  cleared : w < 2 ^ 16 → bit_and w (65535 * 2 ^ key % 2 ^ 64) ≡ change_word Remove w 0 key
  cleared h = is-pack 16 _ _ (lt_of_le_of_lt (and_le_l w _) h) (λ i u. and-bit w _ i ∙ rw (mask, mask-bit key (16 + key) i) (stays i u))
    where
      mask : 65535 * 2 ^ key % 2 ^ 64 ≡ 2 ^ (16 + key) - 2 ^ key
      mask = omega (arith, pow-add 2 16 key, pow-lt l)

pub returns-then-key-ge16 : goal.returns-then-key-ge16
returns-then-key-ge16 c = let a = c.args in sym (first-end (bit a.w) a.key 16 c.if-key-ge16.true)

pub returns : goal.returns
returns c = let a = c.args in
    rw c.lowest.ensures
    (ap lowest_bit (cleared a.w a.key (omega arith) c.ranges.w.fits) ∙ lowest-from a.w a.key (omega arith))
