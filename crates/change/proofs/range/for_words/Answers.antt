-- `change::range::for_words` meets its contract: the laws of `Borders` where a child is a leaf word. Assumes nothing.
use mathlib.Core.Path.{◌≡◌, refl}
use mathlib.Core.List.{List}
use Prim.Native.Nat.{ℕ, ◌+◌, ◌-◌, ◌*◌, ◌%◌, ◌^◌, ◌<◌}
use native.Mathlib.Omega.{arith}
use lib.ListN.{length, set, get_or, replicate}
use borrow.Author.Rules.{rules}
use borrow.Rule.Slice.PartMut.{mid_of, put_mid}
use Rattle.words.specs.declared.kind.Change.{Change}
use Rattle.words.specs.Bits.{change_word}
use Rattle.words.specs.Sizes.{words, cap}
use Rattle.words.specs.Tree.{own}
use Rattle.change.specs.Change.{low, high}
use Rattle.change.proofs.Borders.{Borders, Reached, borders, reach-first, reach-word, reach-last, store-one, store-both}
use Rattle.change.proofs.Fills.{whole}
use Rattle.change.proofs.range.for_words.Goals as goal

-- the two border words are known; the first one's part of the range starts at lo, and the last word's positions at `start`
module _ (c : Change) {s : List ℕ} {a b first last lo start v : ℕ} (h : Borders 0 a b first last) (len : length s ≡ words 1) (fits : own s < 2 ^ 16)
    (lower : lo ≡ a % cap 0) (starts : start ≡ last * cap 0) where
  -- the one word is changed
  at-end : first ≡ last → v ≡ change_word c (get_or s (1 + first) 0) lo (b - start) → Reached c 0 1 s a b first (first + 1) (set s (1 + first) v)
  unfolding cap words low high
  at-end one e = reach-word c h (reach-first c h refl len fits) (omega (arith, h)) e (omega (arith, h)) (omega (arith, h))

  -- the first word of two is changed
  module _ (two : first < last) (e : v ≡ change_word c (get_or s (1 + first) 0) lo 16) where
    at_second : Reached c 0 1 s a b first (first + 1) (set s (1 + first) v)
    unfolding cap words low high
    at_second = reach-word c h (reach-first c h refl len fits) (omega (arith, h)) e (omega (arith, h)) (omega (arith, h))

    -- the words between are filled, and the last word is changed
    at-both-ends : {f w : ℕ} {ys : List ℕ} → f ≡ whole c → ys ≡ replicate (length (mid_of (1 + first + 1) (1 + last - (1 + first + 1)) (set s (1 + first) v))) f
        → let filled = put_mid (1 + first + 1) (1 + last - (1 + first + 1)) (set s (1 + first) v) ys in
        w ≡ change_word c (get_or filled (1 + last) 0) 0 (b - start) → Reached c 0 1 s a b first (last + 1) (set filled (1 + last) w)
    unfolding cap low high
    at-both-ends ef ey ew =
        reach-word c h (reach-last c h (1 + first + 1) (1 + last) two at_second (omega arith) (omega arith) ef ey) h.below ew
        (omega (arith, h)) (omega (arith, h))

pub returns-then-first-last : goal.returns-then-first-last
returns-then-first-last c =
    let h = borders refl c.requires.1 c.requires.2 c.child_of-first.ensures c.child_of-last.ensures in
    let fits : own c.args.s.now < 2 ^ 16 = search rules in
    let end = at-end c.args.c h c.requires.0 fits c.rest_of-low.ensures c.start_of.ensures.0 c.if-first-last.true c.change.ensures in
    store-one c.args.c h refl end c.if-first-last.true (omega arith) c.with_bit.ensures

pub returns : goal.returns
returns c =
    let h = borders refl c.requires.1 c.requires.2 c.child_of-first.ensures c.child_of-last.ensures in
    let fits : own c.args.s.now < 2 ^ 16 = search rules in
    let two : c.child_of-first.result < c.child_of-last.result = omega (arith, h) in
    let end = at-both-ends c.args.c h c.requires.0 fits c.rest_of-low.ensures c.start_of.ensures.0 two c.change-2.ensures c.change-3.ensures (c.fill.ensures.after (λ y e. e)) c.change-4.ensures in
    store-both c.args.c h refl end two (omega arith) (omega arith) c.change_borders.ensures
