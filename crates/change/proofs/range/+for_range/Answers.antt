-- The proof of the cycle of calls {range::for_range}. The measure is the level. A change is that of one child, or of the two border
-- children with a fill between them, by the laws of `Borders`. Assumes nothing.
use mathlib.Core.Path.{◌≡◌, refl, sym, ap, ◌∙◌}
use mathlib.Core.List.{List}
use Prim.Native.Nat.{ℕ, suc, ◌+◌, ◌-◌, ◌*◌, ◌/◌, ◌^◌, ◌<◌, ◌≤◌}
use native.Mathlib.Nat.{one-mul}
use native.Mathlib.Omega.{arith}
use lib.ListN.{length, replicate}
use borrow.Rule.Slice.PartMut.{mid_of, put_mid}
use borrow.Author.Rules.{rules}
use Rattle.words.specs.declared.kind.Change.{Change}
use Rattle.words.specs.Sizes.{words, cap}
use Rattle.words.specs.Tree.{own}
use Rattle.change.specs.Change.{change}
use Rattle.words.proofs.Levels.{words-pos, leaf-cap, child-words}
use Rattle.words.proofs.Rows.{part-before}
use Rattle.change.proofs.Changes.{change-word}
use Rattle.change.proofs.Fills.{whole}
use Rattle.words.proofs.Parts.{lent, back}
use Rattle.words.proofs.Path.{Entered, enter, entered-length}
use Rattle.change.proofs.Turn.{kept}
use Rattle.change.proofs.Borders.{Borders, Reached, borders, ends-one, low-first, high-one, high-first, low-last, high-last, reach-first, reach-child, reach-last, store-one, store-both}
use Rattle.change.proofs.range.+for_range.Goals as goal
use Rattle.change.proofs.range.+for_range.Goals.{After-child_of-last, After-for_range, After-for_range-2, After-fill, After-for_range-3}

-- the two border children are known
record Split (k : ℕ) (s : List ℕ) (a b size first last : ℕ) : Type 0 where
  pub up : suc (k - 1) ≡ k
  pub levels : k ≤ 6
  pub way : Borders (k - 1) a b first last
  pub low_part : Entered (k - 1) s first size
  pub high_part : Entered (k - 1) s last size

-- they are, once both are named
split : {t : ℕ} (c : After-child_of-last t) → Split c.args.k c.args.s.now c.args.a c.args.b c.child_words-size.result c.child_of-first.result c.child_of-last.result
split c =
    let k = c.args.k in
    let q = c.requires in
    let up : suc (k - 1) ≡ k = omega arith in
    let way = borders up q.2 q.3 c.child_of-first.ensures c.child_of-last.ensures in
    let sized : c.child_words-size.result ≡ words (k - 1) =
    c.child_words-size.ensures ∙ ap (λ (n : ℕ). n / 16) (q.1 ∙ ap words (sym up)) ∙ child-words (k - 1) in
    record {
      up = up;
      levels = q.0;
      way = way;
      low_part = enter up q.0 q.1 sized (omega (arith, way));
      high_part = enter up q.0 q.1 sized way.below;
    }

module _ (c : Change) {k : ℕ} {s : List ℕ} {a b size first last : ℕ} (h : Split k s a b size first last) (fits : own s < 2 ^ 16)
    {start : ℕ} {ys : List ℕ} (starts : start ≡ first * cap (k - 1)) where
  -- the part of the one child is back
  at-end : first ≡ last → ys ≡ change c (k - 1) (lent size s first) (a - start) (b - start)
      → Reached c (k - 1) size s a b first (first + 1) (back size s first ys)
  at-end one e =
      reach-child c h.way (reach-first c h.way h.low_part.size h.low_part.len fits) h.low_part.at e
      (omega (arith, low-first h.way)) (omega (arith, high-one h.way one))

  -- the part of the first child of two is back
  module _ {end : ℕ} (two : first < last) (ends : end ≡ 1 * cap (k - 1)) (e : ys ≡ change c (k - 1) (lent size s first) (a - start) end) where
    at_second : Reached c (k - 1) size s a b first (first + 1) (back size s first ys)
    at_second =
        reach-child c h.way (reach-first c h.way h.low_part.size h.low_part.len fits) h.low_part.at e
        (omega (arith, low-first h.way)) (ends ∙ one-mul _ ∙ sym (high-first h.way two))

    -- the words between are filled
    module _ {f : ℕ} {zs : List ℕ} (ef : f ≡ whole c)
        (ez : zs ≡ replicate (length (mid_of (1 + first * size + size) (1 + last * size - (1 + first * size + size)) (back size s first ys))) f) where
      abbrev filled : List ℕ
      filled = put_mid (1 + first * size + size) (1 + last * size - (1 + first * size + size)) (back size s first ys) zs

      at_last : Reached c (k - 1) size s a b first last filled
      at_last = reach-last c h.way _ _ two at_second refl refl ef ez

      filled-part : Entered (k - 1) filled last size
      filled-part = enter refl (omega (arith, h.up, h.levels)) (kept at_last) h.low_part.size h.way.below

      -- the part of the last child is back
      at-both-ends : {final : ℕ} {xs : List ℕ} → final ≡ last * cap (k - 1) → xs ≡ change c (k - 1) (lent size filled last) 0 (b - final)
          → Reached c (k - 1) size s a b first (last + 1) (back size filled last xs)
      at-both-ends e2 ex = reach-child c h.way at_last h.way.below ex (sym (low-last h.way two)) (omega (arith, high-last h.way))

-- the part of the one child is back
one : {t : ℕ} (c : After-for_range t) → let n = c.child_words-size.result in let i = c.child_of-first.result in
    Split c.args.k c.args.s.now c.args.a c.args.b n i c.child_of-last.result
    → Reached c.args.c (c.args.k - 1) n c.args.s.now c.args.a c.args.b i (i + 1) (back n c.args.s.now i c.for_range.new.s)
one c h = at-end c.args.c h (search rules) c.start_of-start.ensures.0 c.if-first-last.true c.for_range.ensures

-- the words between two children are filled
last-part : {t : ℕ} (c : After-fill t) → let n = c.child_words-size.result in let i = c.child_of-first.result in let l = c.child_of-last.result in
    Split c.args.k c.args.s.now c.args.a c.args.b n i l
    → let from = 1 + i * n + n in Entered (c.args.k - 1) (put_mid from (1 + l * n - from) (back n c.args.s.now i c.for_range-2.new.s) c.fill.new.self) l n
last-part c h =
    filled-part c.args.c h (search rules) c.start_of-start.ensures.0 (omega (arith, h.way)) c.start_of.ensures.0 c.for_range-2.ensures c.change-2.ensures
    (c.fill.ensures.after (λ y e. e))

-- the part of the last child is back
both : {t : ℕ} (c : After-for_range-3 t) → let n = c.child_words-size.result in let i = c.child_of-first.result in let l = c.child_of-last.result in
    Split c.args.k c.args.s.now c.args.a c.args.b n i l
    → let from = 1 + i * n + n in let filled = put_mid from (1 + l * n - from) (back n c.args.s.now i c.for_range-2.new.s) c.fill.new.self in
    Reached c.args.c (c.args.k - 1) n c.args.s.now c.args.a c.args.b i (l + 1) (back n filled l c.for_range-3.new.s)
both c h =
    at-both-ends c.args.c h (search rules) c.start_of-start.ensures.0 (omega (arith, h.way)) c.start_of.ensures.0 c.for_range-2.ensures c.change-2.ensures
    (c.fill.ensures.after (λ y e. e)) c.start_of-2.ensures.0 c.for_range-3.ensures

pub bounds-s-0 : goal.bounds-s-0
bounds-s-0 t c = omega (arith, words-pos c.args.k)

pub change-requires : goal.change-requires
change-requires t c = omega (arith, leaf-cap c.if-k-eq0.true)

pub bounds-s-0-then-k-eq0 : goal.bounds-s-0-then-k-eq0
bounds-s-0-then-k-eq0 t c = omega (arith, words-pos c.args.k)

pub returns-then-k-eq0 : goal.returns-then-k-eq0
returns-then-k-eq0 t c = change-word c.args.c c.args.s.now c.args.a c.args.b _ c.if-k-eq0.true c.requires.1 c.change.ensures

pub overflow_mul-from : goal.overflow_mul-from
overflow_mul-from t c = omega (arith, (split c).low_part)

pub overflow_add-from : goal.overflow_add-from
overflow_add-from t c = omega (arith, (split c).low_part)

pub overflow_add-to : goal.overflow_add-to
overflow_add-to t c = omega (arith, (split c).low_part)

pub start_of-start-requires : goal.start_of-start-requires
start_of-start-requires t c = omega (arith, (split c).low_part)

pub offset_bounds-s-from : goal.offset_bounds-s-from
offset_bounds-s-from t c = omega (arith, (split (goal.at.offset_bounds-s-from t c).After-child_of-last).low_part)

pub slice_bounds-for_range-end : goal.slice_bounds-for_range-end
slice_bounds-for_range-end t c = (split (goal.at.slice_bounds-for_range-end t c).After-child_of-last).low_part.ends

pub for_range-requires : goal.for_range-requires
for_range-requires t c =
    let h = split (goal.at.for_range-requires t c).After-child_of-last in
    let w = h.way in
    (omega arith, (omega arith, entered-length h.low_part, omega arith, omega (arith, ends-one w c.if-first-last.true)))

pub bounds-s-0-then-first-last : goal.bounds-s-0-then-first-last
bounds-s-0-then-first-last t c =
    let h = split (goal.at.bounds-s-0-then-first-last t c).After-child_of-last in
    let end = one (goal.at.bounds-s-0-then-first-last t c).After-for_range h in
    rw (kept end) (words-pos _)

pub bounds-s-from : goal.bounds-s-from
bounds-s-from t c =
    let h = split (goal.at.bounds-s-from t c).After-child_of-last in
    let end = one (goal.at.bounds-s-from t c).After-for_range h in
    omega (arith, kept end, h.low_part, words-pos (c.args.k - 1))

pub with_bit-requires : goal.with_bit-requires
with_bit-requires t c = (split (goal.at.with_bit-requires t c).After-child_of-last).low_part.at

pub bounds-s-0-then-first-last-2 : goal.bounds-s-0-then-first-last-2
bounds-s-0-then-first-last-2 t c =
    let h = split (goal.at.bounds-s-0-then-first-last-2 t c).After-child_of-last in
    let end = one (goal.at.bounds-s-0-then-first-last-2 t c).After-for_range h in
    rw (kept end) (words-pos _)

pub returns-then-first-last : goal.returns-then-first-last
returns-then-first-last t c =
    let h = split (goal.at.returns-then-first-last t c).After-child_of-last in
    let end = one (goal.at.returns-then-first-last t c).After-for_range h in
    store-one c.args.c h.way h.up end c.if-first-last.true refl c.with_bit.ensures

pub overflow_mul-from2 : goal.overflow_mul-from2
overflow_mul-from2 t c = omega (arith, (split (goal.at.overflow_mul-from2 t c).After-child_of-last).high_part)

pub overflow_add-from2 : goal.overflow_add-from2
overflow_add-from2 t c = omega (arith, (split (goal.at.overflow_add-from2 t c).After-child_of-last).high_part)

pub overflow_add-to2 : goal.overflow_add-to2
overflow_add-to2 t c = omega (arith, (split (goal.at.overflow_add-to2 t c).After-child_of-last).high_part)

pub offset_bounds-s-from-2 : goal.offset_bounds-s-from-2
offset_bounds-s-from-2 t c = omega (arith, (split (goal.at.offset_bounds-s-from-2 t c).After-child_of-last).low_part)

pub slice_bounds-for_range-end-2 : goal.slice_bounds-for_range-end-2
slice_bounds-for_range-end-2 t c = (split (goal.at.slice_bounds-for_range-end-2 t c).After-child_of-last).low_part.ends

pub for_range-requires-2 : goal.for_range-requires-2
for_range-requires-2 t c =
    let h = split (goal.at.for_range-requires-2 t c).After-child_of-last in
    let w = h.way in
    (omega arith, (omega arith, entered-length h.low_part, omega arith, omega arith))

pub slice_bounds-fill-count : goal.slice_bounds-fill-count
slice_bounds-fill-count t c =
    let h = split (goal.at.slice_bounds-fill-count t c).After-child_of-last in
    omega (arith, part-before c.child_of-first.result c.child_of-last.result c.child_words-size.result (omega (arith, h.way)))

pub slice_bounds-fill-start : goal.slice_bounds-fill-start
slice_bounds-fill-start t c =
    let h = split (goal.at.slice_bounds-fill-start t c).After-child_of-last in
    omega (arith, part-before c.child_of-first.result c.child_of-last.result c.child_words-size.result (omega (arith, h.way)))

pub slice_bounds-fill-end : goal.slice_bounds-fill-end
slice_bounds-fill-end t c =
    let h = split (goal.at.slice_bounds-fill-end t c).After-child_of-last in
    let two : c.child_of-first.result < c.child_of-last.result = omega (arith, h.way) in
    omega (arith, kept (at_second c.args.c h (search rules) c.start_of-start.ensures.0 two c.start_of.ensures.0 c.for_range-2.ensures), h)

pub slice_bounds-for_range-end-3 : goal.slice_bounds-for_range-end-3
slice_bounds-for_range-end-3 t c =
    let h = split (goal.at.slice_bounds-for_range-end-3 t c).After-child_of-last in
    (last-part (goal.at.slice_bounds-for_range-end-3 t c).After-fill h).ends

pub start_of-requires-2 : goal.start_of-requires-2
start_of-requires-2 t c = omega (arith, (split (goal.at.start_of-requires-2 t c).After-child_of-last).high_part)

pub for_range-requires-3 : goal.for_range-requires-3
for_range-requires-3 t c =
    let h = split (goal.at.for_range-requires-3 t c).After-child_of-last in
    let w = h.way in
    (omega arith, (omega arith, entered-length (last-part (goal.at.for_range-requires-3 t c).After-fill h), omega arith, omega arith))

pub bounds-s-0-2 : goal.bounds-s-0-2
bounds-s-0-2 t c = rw (kept (both (goal.at.bounds-s-0-2 t c).After-for_range-3 (split (goal.at.bounds-s-0-2 t c).After-child_of-last))) (words-pos _)

pub bounds-s-from-2 : goal.bounds-s-from-2
bounds-s-from-2 t c =
    let h = split (goal.at.bounds-s-from-2 t c).After-child_of-last in
    omega (arith, kept (both (goal.at.bounds-s-from-2 t c).After-for_range-3 h), h.low_part, words-pos (c.args.k - 1))

pub bounds-s-from2 : goal.bounds-s-from2
bounds-s-from2 t c =
    let h = split (goal.at.bounds-s-from2 t c).After-child_of-last in
    omega (arith, kept (both (goal.at.bounds-s-from2 t c).After-for_range-3 h), h.high_part, words-pos (c.args.k - 1))

pub change_borders-requires : goal.change_borders-requires
change_borders-requires t c = omega (arith, (split (goal.at.change_borders-requires t c).After-child_of-last).way)

pub bounds-s-0-3 : goal.bounds-s-0-3
bounds-s-0-3 t c = rw (kept (both (goal.at.bounds-s-0-3 t c).After-for_range-3 (split (goal.at.bounds-s-0-3 t c).After-child_of-last))) (words-pos _)

pub returns : goal.returns
returns t c =
    let h = split (goal.at.returns t c).After-child_of-last in
    let two : c.child_of-first.result < c.child_of-last.result = omega (arith, h.way) in
    let end = both (goal.at.returns t c).After-for_range-3 h in
    store-both c.args.c h.way h.up end two refl refl c.change_borders.ensures
