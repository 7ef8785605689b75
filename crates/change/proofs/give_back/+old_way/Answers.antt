-- The proof of the cycle of calls {give_back::dealloc_contiguous_old, give_back::dealloc_contiguous_old_below}. The measure is 2 k for a
-- map of level k, and 2 k + 1 for the table. The loop is the one of `Walk` and `Turn`, each of the children becoming what a give-back
-- leaves of it; `ok` is `taken?`. Assumes nothing.
use mathlib.Core.Path.{◌≡◌, refl, sym, ◌∙◌}
use mathlib.Core.Bool.{Bool, true, false, cond}
use mathlib.Core.List.{List}
use Prim.Native.Nat.{ℕ, ◌+◌, ◌-◌, ◌*◌, ◌^◌, ◌<◌}
use native.Mathlib.Omega.{arith}
use lib.Dec.{eqb, leb}
use lib.ListN.{get_or}
use borrow.Author.Rules.{rules}
use Rattle.words.specs.declared.kind.Change.TheVariants.{Insert}
use Rattle.words.specs.Bits.{bit, word_of, some}
use Rattle.words.specs.Sizes.{cap}
use Rattle.words.specs.Tree.{own}
use Rattle.change.specs.Change.{low, high}
use Rattle.change.specs.GiveBack.{first_leaf, give_back}
use Rattle.words.proofs.Levels.{words-pos, leaf-cap}
use Rattle.words.proofs.Parts.{lent, back}
use Rattle.words.proofs.Path.{Entered, level-below}
use Rattle.change.proofs.Turn.{Upto, kept, lent-now, turn, turn-kept}
use Rattle.change.proofs.Changes.{change-word}
use Rattle.change.proofs.Walk.{Walk, walk-turns, walk-some, walk-call, walk-before, walk-enter, walk-next, walk-finish}
use Rattle.change.proofs.GiveBacks.{given_kids, sized-given, given-kid, passed-kid, give-kids, stay-word, free-word, taken?, taken-none, taken-all, taken-true, taken-false, taken-more, taken-less}
use Rattle.change.proofs.give_back.+old_way.Goals as goal
use Rattle.change.proofs.give_back.+old_way.Goals.{dealloc_contiguous_old-In-loop-i, dealloc_contiguous_old-then-ok, dealloc_contiguous_old-else-ok}

-- a turn of the loop, at child i
module _ {k a b j end i₀ i n w v : ℕ} {s₀ s new : List ℕ} {ok ok_new : Bool} (h : Walk k a b j end i₀ i) (u : Upto j n s₀ (given_kids j s₀ a b) i₀ i s w)
    (so_far : ok ≡ taken? j s₀ a b i) (l : i < end) (at : i < 16) (marked : v ≡ word_of (λ m. cond (eqb m i) (some (get_or new (1 + i * n) 0)) (bit w m))) where
  -- it is gone into
  gone-into : {lo hi : ℕ} {ys : List ℕ} → ok ≡ true → lo ≡ low (cap j) a i → hi ≡ high (cap j) b i → ok_new ≡ leb hi (first_leaf j (lent n s i) lo hi)
      → ys ≡ give_back j (lent n s i) lo hi → new ≡ back n s i ys
      → Walk k a b j end i₀ (i + 1) × Upto j n s₀ (given_kids j s₀ a b) i₀ (i + 1) new v × (ok_new ≡ taken? j s₀ a b (i + 1))
  gone-into taken el eh found is e =
      let m = taken-true h s₀ l (sym so_far ∙ taken) in
      let kid = given-kid j s₀ a b i (walk-some h l) m is (lent-now u at) el eh in
      (walk-next h l, rw e (turn u at _ v kid (rw e at marked)), found ∙ taken-more h s₀ l m (lent-now u at) el eh)

  -- or passed over
  passed-over : ok ≡ false → new ≡ s → ok_new ≡ ok
      → Walk k a b j end i₀ (i + 1) × Upto j n s₀ (given_kids j s₀ a b) i₀ (i + 1) new v × (ok_new ≡ taken? j s₀ a b (i + 1))
  passed-over free e same =
      let m = taken-false h s₀ l (sym so_far ∙ free) in
      (walk-next h l, rw e (turn-kept u at v (passed-kid j s₀ a b i m) (rw e at marked)), same ∙ free ∙ sym (taken-less h s₀ l m))

-- the child of a turn is entered
entered : {t : ℕ} (c : dealloc_contiguous_old-In-loop-i t) → Entered (c.args.k - 1) c.loop-i.s c.loop-i.i c.words_of-size.result
entered c = let i = c.loop-i.invariant in walk-enter i.0 c.loop-i-test.true i.1.size (kept i.1)

pub dealloc_contiguous_old-bounds-s-0 : goal.dealloc_contiguous_old-bounds-s-0
dealloc_contiguous_old-bounds-s-0 t c = omega (arith, words-pos c.args.k)

pub dealloc_contiguous_old-clear-requires : goal.dealloc_contiguous_old-clear-requires
dealloc_contiguous_old-clear-requires t c = omega (arith, leaf-cap c.if-k-eq0.true)

pub dealloc_contiguous_old-returns-then-not-clear : goal.dealloc_contiguous_old-returns-then-not-clear
dealloc_contiguous_old-returns-then-not-clear t c =
    let h = stay-word c.args.s.now c.args.a c.args.b c.if-k-eq0.true c.clear.ensures c.if-not-clear.true in
    record { value = h.0; s_after = h.1 }

pub dealloc_contiguous_old-change-requires : goal.dealloc_contiguous_old-change-requires
dealloc_contiguous_old-change-requires t c = omega (arith, leaf-cap c.if-k-eq0.true)

pub dealloc_contiguous_old-bounds-s-0-then-k-eq0 : goal.dealloc_contiguous_old-bounds-s-0-then-k-eq0
dealloc_contiguous_old-bounds-s-0-then-k-eq0 t c = omega (arith, words-pos c.args.k)

pub dealloc_contiguous_old-returns-then-k-eq0 : goal.dealloc_contiguous_old-returns-then-k-eq0
dealloc_contiguous_old-returns-then-k-eq0 t c =
    let x = c.args in
    let h = free-word x.s.now x.a x.b c.if-k-eq0.true c.clear.ensures c.if-not-clear.false in
    record { value = h.0; s_after = change-word Insert x.s.now x.a x.b _ c.if-k-eq0.true c.requires.1 c.change.ensures ∙ h.1 }

pub dealloc_contiguous_old-bounds-s-0-2 : goal.dealloc_contiguous_old-bounds-s-0-2
dealloc_contiguous_old-bounds-s-0-2 t c = omega (arith, words-pos c.args.k)

pub dealloc_contiguous_old-loop-i-init : goal.dealloc_contiguous_old-loop-i-init
dealloc_contiguous_old-loop-i-init t c =
    let x = c.args in
    let q = c.requires in
    let fits : own x.s.now < 2 ^ 16 = search rules in
    let h = walk-turns (level-below c.if-k-eq0.false) q.0 q.1 q.2 q.3 fits c.words_of-size.ensures c.child_of-end.ensures c.child_of-i.ensures
    _ (sized-given (x.k - 1) x.s.now x.a x.b) in
    (h.0, h.1, sym (taken-none h.0 x.s.now refl))

pub dealloc_contiguous_old-overflow_mul-from : goal.dealloc_contiguous_old-overflow_mul-from
dealloc_contiguous_old-overflow_mul-from t c = omega (arith, entered c)

pub dealloc_contiguous_old-overflow_add-from : goal.dealloc_contiguous_old-overflow_add-from
dealloc_contiguous_old-overflow_add-from t c = omega (arith, entered c)

pub dealloc_contiguous_old-overflow_add-to : goal.dealloc_contiguous_old-overflow_add-to
dealloc_contiguous_old-overflow_add-to t c = omega (arith, entered c)

pub dealloc_contiguous_old-offset_bounds-s-from : goal.dealloc_contiguous_old-offset_bounds-s-from
dealloc_contiguous_old-offset_bounds-s-from t c = omega (arith, entered (goal.at.dealloc_contiguous_old-offset_bounds-s-from t c).In-loop-i)

pub dealloc_contiguous_old-slice_bounds-dealloc_contiguous_old_below-end : goal.dealloc_contiguous_old-slice_bounds-dealloc_contiguous_old_below-end
dealloc_contiguous_old-slice_bounds-dealloc_contiguous_old_below-end t c =
    (entered (goal.at.dealloc_contiguous_old-slice_bounds-dealloc_contiguous_old_below-end t c).In-loop-i).ends

pub dealloc_contiguous_old-low_of-requires : goal.dealloc_contiguous_old-low_of-requires
dealloc_contiguous_old-low_of-requires t c = omega (arith, entered (goal.at.dealloc_contiguous_old-low_of-requires t c).In-loop-i)

pub dealloc_contiguous_old-high_of-requires : goal.dealloc_contiguous_old-high_of-requires
dealloc_contiguous_old-high_of-requires t c =
    let i = c.loop-i.invariant in
    let part = entered (goal.at.dealloc_contiguous_old-high_of-requires t c).In-loop-i in
    omega (arith, part, walk-before i.0 c.loop-i-test.true)

pub dealloc_contiguous_old-dealloc_contiguous_old_below-ok-requires : goal.dealloc_contiguous_old-dealloc_contiguous_old_below-ok-requires
dealloc_contiguous_old-dealloc_contiguous_old_below-ok-requires t c =
    let i = c.loop-i.invariant in
    let part = entered (goal.at.dealloc_contiguous_old-dealloc_contiguous_old_below-ok-requires t c).In-loop-i in
    let call = walk-call i.0 c.loop-i-test.true part c.low_of.ensures c.high_of.ensures in
    (omega arith, (omega arith, call.1, call.2, call.3))

pub dealloc_contiguous_old-offset_bounds-s-from-in-loop-i : goal.dealloc_contiguous_old-offset_bounds-s-from-in-loop-i
dealloc_contiguous_old-offset_bounds-s-from-in-loop-i t c = omega (arith, entered (goal.at.dealloc_contiguous_old-offset_bounds-s-from-in-loop-i t c).In-loop-i)

pub dealloc_contiguous_old-bounds-s-from : goal.dealloc_contiguous_old-bounds-s-from
dealloc_contiguous_old-bounds-s-from t c =
    let i = c.loop-i.invariant in
    let part = entered (goal.at.dealloc_contiguous_old-bounds-s-from t c).In-loop-i in
    omega (arith, kept i.1, part, words-pos (c.args.k - 1))

pub dealloc_contiguous_old-with_bit-w-requires : goal.dealloc_contiguous_old-with_bit-w-requires
dealloc_contiguous_old-with_bit-w-requires t c = (entered (goal.at.dealloc_contiguous_old-with_bit-w-requires t c).In-loop-i).at

pub dealloc_contiguous_old-loop-i-preserved : goal.dealloc_contiguous_old-loop-i-preserved
dealloc_contiguous_old-loop-i-preserved t c =
    let i = c.loop-i.invariant in
    let part = entered (goal.at.dealloc_contiguous_old-loop-i-preserved t c).In-loop-i in
    let l = c.loop-i-test.true in
    elim c.if-ok.branch [
      | dealloc_contiguous_old-then-ok w ↦
          let r = w.dealloc_contiguous_old_below-ok in
          gone-into i.0 i.1 i.2 l part.at c.with_bit-w.ensures w.if-ok.true w.low_of.ensures w.high_of.ensures (w.ok-is ∙ r.ensures.value) r.ensures.s_after w.s-is
      | dealloc_contiguous_old-else-ok w ↦ passed-over i.0 i.1 i.2 l part.at c.with_bit-w.ensures w.if-ok.false w.s-is w.ok-is
    ]

pub dealloc_contiguous_old-bounds-s-0-3 : goal.dealloc_contiguous_old-bounds-s-0-3
dealloc_contiguous_old-bounds-s-0-3 t c = rw (kept c.loop-i.invariant.1) (words-pos _)

pub dealloc_contiguous_old-returns : goal.dealloc_contiguous_old-returns
dealloc_contiguous_old-returns t c =
    let x = c.args in
    let i = c.loop-i.invariant in
    let l = c.loop-i-test.false in
    record { value = i.2 ∙ taken-all i.0 x.s.now l; s_after = walk-finish i.0 i.1 l ∙ give-kids (x.k - 1) x.s.now x.a x.b i.0.level }
