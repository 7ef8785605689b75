-- Demand 3: of two true maps, where the second has every free position of the first, it answers no higher. Assumes nothing.
use mathlib.Core.Path.{◌≡◌, refl, sym, ap, ap₂, ◌∙◌, subst₂}
use mathlib.Core.List.{List, [], ◌∷◌}
use Prim.Native.Nat.{ℕ, ◌≤◌, ◌<◌}
use native.Mathlib.Omega.{arith}
use lib.ListN.{length}
use Rattle.std.specs.Prelude.{Option}
use Rattle.words.specs.Sizes.{cap, level_of}
use Rattle.words.specs.Tree.{free?}
use Rattle.bitmap.specs.Calls.{answer, after}
use Rattle.words.proofs.Levels.{level-at}
use Rattle.bitmap.proofs.Stores.{answer-at, after-at}
use Rattle.laws.specs.Call.{Call, alloc_contiguous, call_says, call_after}
use Rattle.bitmap.specs.Maps.{TrueMap, TrueStore}
use Rattle.laws.specs.Order.{Op, call, map_says, map_after, store_says, store_after, NoHigher, Rule, Rules, none, place, Ordered, RunInOrder, StoresOrdered, StoresInOrder}
use Rattle.laws.proofs.AsSets.{as-set, map-of}
use Rattle.laws.proofs.SetOrder.{says-order, run-order, after-inside}

-- ---- two maps of one level

module _ (k : ℕ) (s t : List ℕ) (h : Ordered k s t) where
  -- one operation: the rule of its answers
  place-order : (o : Op) → Rule o (call_says (call o) k s) (call_says (call o) k t)
  place-order o =
      subst₂ (Rule o) (sym (as-set (call o) k s h.first).says) (sym (as-set (call o) k t h.second).says)
      (says-order (cap k) (free? k s) (free? k t) h.inside o)

  -- and the maps after it
  after-order : (o : Op) → Ordered k (call_after (call o) k s) (call_after (call o) k t)
  after-order o =
      let a = as-set (call o) k s h.first in
      let b = as-set (call o) k t h.second in
      record {
        first = a.again;
        second = b.again;
        inside = λ p l e. b.leaves p l ∙ after-inside (cap k) (free? k s) (free? k t) h.inside o p l (sym (a.leaves p l) ∙ e);
      }

  -- a request for an aligned run
  request-order : (base : Option ℕ) (size align : ℕ)
      → NoHigher (call_says (alloc_contiguous base size align) k s) (call_says (alloc_contiguous base size align) k t)
  request-order base size align =
      let c = alloc_contiguous base size align in
      subst₂ NoHigher (sym (as-set c k s h.first).says) (sym (as-set c k t h.second).says)
      (run-order (cap k) (free? k s) (free? k t) h.inside base size align)

-- Demand 3. For every level k, any two true maps of it with F of the first within F of the second, and any list of operations: at each
-- place where the first answers a take or a look-up with a position, the second answers a position that is no higher; at the end both
-- maps are true, and F of the first is within F of the second; and one request for an aligned run put to both then keeps the same rule.
pub in-order : (k : ℕ) (ops : List Op) (s t : List ℕ) → Ordered k s t → RunInOrder k ops s t
in-order k [] s t h = record { places = none; end = h; request = request-order k s t h }
in-order k (o ∷ ops) s t h =
    let r = in-order k ops (call_after (call o) k s) (call_after (call o) k t) (after-order k s t h o) in
    record { places = place (place-order k s t h o) r.places; end = r.end; request = r.request }

-- ---- the same of lent stores

module _ (k : ℕ) (small : k < 7) where
  -- a true map of one of the seven levels, as a store
  module _ (s : List ℕ) (h : TrueMap k s) where
    -- its word count says its level
    level-is : k ≡ level_of (length s)
    level-is = level-at k h.sized small

    -- a call of the store is the call of the map
    says-at : (c : Call) → answer (call_says c) s ≡ call_says c k s
    says-at c = sym (answer-at s k level-is small (call_says c))

    after-is : (c : Call) → after (call_after c) s ≡ call_after c k s
    after-is c = sym (after-at s k level-is small (call_after c))

    -- it is a true store
    store-of : TrueStore s
    store-of = record {
      level = rw (← level-is) small;
      fits = h.fits;
      truth = rw (← level-is) h.truth;
    }

  -- a run on the store is the one on the map
  run-says : (ops : List Op) (s : List ℕ) → TrueMap k s → store_says ops s ≡ map_says k ops s
  run-says [] s h = refl
  run-says (o ∷ ops) s h =
      ap₂ ◌∷◌ (says-at s h (call o))
      (ap (store_says ops) (after-is s h (call o)) ∙ run-says ops (call_after (call o) k s) (as-set (call o) k s h).again)

  run-after : (ops : List Op) (s : List ℕ) → TrueMap k s → store_after ops s ≡ map_after k ops s
  run-after [] s h = refl
  run-after (o ∷ ops) s h = ap (store_after ops) (after-is s h (call o)) ∙ run-after ops (call_after (call o) k s) (as-set (call o) k s h).again

  -- two maps of one level, as stores
  stores-of : (s t : List ℕ) → Ordered k s t → StoresOrdered s t
  stores-of s t h = record {
    first = store-of s h.first;
    second = store-of t h.second;
    size = h.first.sized ∙ sym h.second.sized;
    inside = rw (← level-is s h.first, ← level-is t h.second) h.inside;
  }

-- two stores, as maps of one level
maps-of : (s t : List ℕ) → StoresOrdered s t → Ordered (level_of (length s)) s t
maps-of s t h = record {
  first = map-of s h.first;
  second = rw h.size (map-of t h.second);
  inside = λ p l e. ap (λ (n : ℕ). free? (level_of n) t p) h.size ∙ h.inside p l e;
}

-- Demand 3 of whole stores. For any two lent stores of one of the seven sizes that are true maps, with F of the first within F of the
-- second, and any list of operations, the same holds.
pub stores-in-order : (ops : List Op) (s t : List ℕ) → StoresOrdered s t → StoresInOrder ops s t
stores-in-order ops s t h =
    let k = level_of (length s) in
    let small = h.first.level in
    let m = maps-of s t h in
    let r = in-order k ops s t m in
    let e = run-after k small ops s m.first in
    let d = run-after k small ops t m.second in
    record {
      places = subst₂ (Rules ops) (sym (run-says k small ops s m.first)) (sym (run-says k small ops t m.second)) r.places;
      end = subst₂ StoresOrdered (sym e) (sym d) (stores-of k small _ _ r.end);
      kept = ap length e ∙ r.end.first.sized ∙ sym m.first.sized;
      request = λ base size align.
          let c = alloc_contiguous base size align in
          subst₂ NoHigher (sym (ap (answer (call_says c)) e ∙ says-at k small _ r.end.first c))
          (sym (ap (answer (call_says c)) d ∙ says-at k small _ r.end.second c))
          (r.request base size align);
    }
