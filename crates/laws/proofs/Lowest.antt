-- "The lowest of F" with its quantifiers: what `alloc` and `next` give on a true store is the lowest free position, of all or from the
-- key on, and they are refused with 5 exactly where there is none. Assumes nothing.
use mathlib.Core.Path.{◌≡◌, refl, sym, ap, ◌∙◌}
use mathlib.Core.Bool.{true≢false}
use mathlib.Core.Logic.{◌↔◌, ◌⊎◌, inl, inr, ⊎_elim}
use mathlib.Core.List.{List}
use Prim.Native.Nat.{ℕ, ◌+◌, ◌-◌, ◌<◌}
use native.Mathlib.Omega.{arith}
use lib.Dec.{leb}
use borrow.Author.Tests.{leb-true, leb-false}
use Rattle.std.proofs.lemmas.Bool.{cases_Bool}
use Rattle.words.proofs.Search.{first-is}
use Rattle.bitmap.specs.Answer.{given, refused}
use Rattle.bitmap.specs.Calls.{answer}
use Rattle.bitmap.specs.Maps.{TrueStore, free_in, positions}
use Rattle.bitmap.proofs.Numbered.{apart}
use Rattle.laws.specs.Call.{alloc, next, call_says}
use Rattle.laws.specs.Sets.{Positions, found, lowest_from}
use Rattle.laws.specs.AsSet.{LowestFrom, NoneFrom}
use Rattle.laws.proofs.AsSets.{store-as-set}

-- ---- of a set

module _ (f : Positions) (n key : ℕ) where
  -- what is looked for is the lowest, or there is none
  either : ((found n (lowest_from f n key) ≡ refused 5) × NoneFrom f n key) ⊎ ((p : ℕ) × (found n (lowest_from f n key) ≡ given p) × LowestFrom f n key p)
  either =
      let p = lowest_from f n key in
      ⊎_elim
      (λ t. let s = first-is f key (n - key) (key + (n - key)) refl in
      inl (rw t, λ q a b. s.before q a (omega (arith, leb-true n p t))))
      (λ t. let l = leb-false n p t in
      let s = first-is f key (n - key) (key + (n - key)) refl in
      let m : key < n = omega (arith, s.from) in
      inr (p, rw t, record { from = s.from; upto = l; here = s.here (omega arith); lower = s.before }))
      (cases_Bool (leb n p))

  -- two lowest are one
  one-lowest : (p q : ℕ) → LowestFrom f n key p → LowestFrom f n key q → p ≡ q
  one-lowest p q a b =
      let up : ¬ (p < q) = λ m. true≢false (sym a.here ∙ b.lower p a.from m) in
      let down : ¬ (q < p) = λ m. true≢false (sym b.here ∙ a.lower q b.from m) in
      omega arith

  pub found-given : (p : ℕ) → (found n (lowest_from f n key) ≡ given p) ↔ LowestFrom f n key p
  found-given p = (
    λ h. ⊎_elim (λ c. absurd (apart p 5 (sym h ∙ c.0))) (λ c. let e : c.0 ≡ p = cc c.1 in rw (← e) c.2) either,
    λ l. ⊎_elim (λ c. absurd (true≢false (sym l.here ∙ c.1 p l.from l.upto))) (λ c. c.1 ∙ ap given (one-lowest c.0 p c.2 l)) either,
  )

  pub found-none : (found n (lowest_from f n key) ≡ refused 5) ↔ NoneFrom f n key
  found-none = (
    λ h. ⊎_elim (λ c. c.1) (λ c. absurd (apart c.0 5 (sym c.1 ∙ h))) either,
    λ none. ⊎_elim (λ c. c.0) (λ c. let l = c.2 in absurd (true≢false (sym l.here ∙ none c.0 l.from l.upto))) either,
  )

-- ---- of the calls on a lent store that is a true map

module _ (s : List ℕ) (h : TrueStore s) where
  -- A take gives p exactly when p is free and no lower position is.
  pub take-given : (p : ℕ) → (answer (call_says alloc) s ≡ given p) ↔ LowestFrom (free_in s) (positions s) 0 p
  take-given p = rw (store-as-set alloc s h).says (found-given (free_in s) (positions s) 0 p)

  -- It is refused with 5 exactly when no position is free.
  pub take-none : (answer (call_says alloc) s ≡ refused 5) ↔ NoneFrom (free_in s) (positions s) 0
  take-none = rw (store-as-set alloc s h).says (found-none (free_in s) (positions s) 0)

  -- `next` from key gives p exactly when p is free, key or more, and no lower one of those is free.
  pub next-given : (key p : ℕ) → (answer (call_says (next key)) s ≡ given p) ↔ LowestFrom (free_in s) (positions s) key p
  next-given key p = rw (store-as-set (next key) s h).says (found-given (free_in s) (positions s) key p)

  -- It is refused with 5 exactly when no position from key on is free.
  pub next-none : (key : ℕ) → (answer (call_says (next key)) s ≡ refused 5) ↔ NoneFrom (free_in s) (positions s) key
  next-none key = rw (store-as-set (next key) s h).says (found-none (free_in s) (positions s) key)
