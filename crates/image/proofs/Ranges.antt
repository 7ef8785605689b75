-- What `all` answers over the numbers below n: whether the test holds at each of them. Assumes nothing.
use mathlib.Core.Bool.{true≢false}
use mathlib.Core.Logic.{⊎_elim}
use Rattle.std.specs.Prelude.{Bool, true, false, Option}
use Rattle.std.specs.declared.ops.Range.{Range}
use Rattle.std.proofs.Common.{◌≡◌, sym, ap, ◌∙◌, ℕ, ◌+◌, ◌<◌, List, length, arith, zero-add}
use Rattle.std.proofs.iter.Yields.{nat_range_steps}
use Rattle.std.specs.Bool.{MatchBool}
use Rattle.std.specs.Fn.{Called}
use Rattle.std.specs.Iterator.{YieldsThen}
use Rattle.std.specs.List.{range_with_len, FoldsTo, AllWithin, HoldsAt}
use Rattle.std.specs.Option.{MatchOption}
use Rattle.std.proofs.lemmas.Iterator.{cases_from_all, YieldsList-from_range}
use Rattle.std.proofs.lemmas.List.FromFn.{length-range_with_len, get_or-range_with_len}
use denote.Param.Members.{Mut}
use Rattle.words.specs.Search.{all}
use Rattle.words.proofs.Search.{all-at, all-is}
use Rattle.std.proofs.lemmas.Bool.{cases_Bool}

module _ (f : ℕ → Bool) (n : ℕ) where
  -- of a list of those numbers
  of-list : (r : Bool) → let ns = range_with_len 0 n in
      MatchBool r (AllWithin (λ d. f d ≡ true) ns 0 (length ns)) ((k : ℕ) × (k < length ns) × HoldsAt (λ d. f d ≡ false) ns k) → r ≡ all f 0 n
  of-list true h = sym (all-is f 0 n (λ q _ l.
      let here : f (0 + q) ≡ true = ap f (sym (get_or-range_with_len 0 n q 0 (omega arith))) ∙ h q 0 (omega arith) (omega (arith, length-range_with_len 0 n)) in
      rw (zero-add q) at here))
  of-list false h =
      let l : h.0 < n = omega (arith, h.1, length-range_with_len 0 n) in
      let wrong : f (0 + h.0) ≡ false = ap f (sym (get_or-range_with_len 0 n h.0 0 l)) ∙ h.2 0 in
      ⊎_elim (λ e. absurd (true≢false (sym (all-at f 0 n e (0 + h.0) (omega arith) (omega arith)) ∙ wrong))) sym (cases_Bool (all f 0 n))

  -- of the range, by what the closure answers
  pub all-range : {F : Type 0} {g : Mut F (ℕ × Unit {0}) Bool} {s u : Range ℕ} {c : F} {r : Bool} {e : ℕ}
      → (xs : List ℕ) × (o : Option ℕ) × (j : F) × YieldsThen nat_range_steps s xs o u × FoldsTo (λ p x q. Called g p (x, tt) true q) c xs j
      × MatchOption o (r ≡ true) (λ x. (r ≡ false) × ((h : F) × Called g j (x, tt) false h))
      → s ≡ record { start = 0; end = e }
      → e ≡ n
      → ((x : ℕ) (q : F) → Called g c (x, tt) true q → (q ≡ c) × (f x ≡ true))
      → ((x : ℕ) (q : F) → Called g c (x, tt) false q → f x ≡ false)
      → r ≡ all f 0 n
  all-range {r = r} {e = e} ran from is yes-at not-at =
      of-list r (cases_from_all _ _ r (λ d. f d ≡ true) (λ d. f d ≡ false) ran (YieldsList-from_range 0 e n from (omega arith)) yes-at not-at)
