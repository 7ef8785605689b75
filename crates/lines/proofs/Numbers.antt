-- The laws of reading and writing a number, digit by digit. Assumes nothing.
use mathlib.Core.Path.{◌≡◌, refl, ap, ◌∙◌}
use mathlib.Core.Bool.{Bool, true, false, cond, ◌&&◌}
use mathlib.Core.Logic.{⊎_elim}
use mathlib.Core.List.{List, [], ◌∷◌, ◌++◌}
use Prim.Native.Nat.{ℕ, zero, suc, ◌+◌, ◌-◌, ◌*◌, ◌/◌, ◌%◌, ◌≤◌, ◌<◌}
use native.Mathlib.Numerals.{add-one}
use native.Mathlib.Omega.{arith}
use lib.Dec.{eqb, leb, ltb}
use lib.ListN.{length, get_or, drop, length-append, drop_of_length-le}
use lib.Seq.{drop-cons}
use borrow.Author.Tests.{leb-true, leb-false, ne_eqb, eqb-false, ltb-true, ltb-false, le-leb, lt-leb, lt-ltb, le-ltb}
use Rattle.std.specs.Prelude.{Some, None}
use Rattle.std.specs.Char.{is_ascii_digit}
use Rattle.words.specs.Below.{below}
use Rattle.lines.specs.Number.{none, digits?, value, number_of, digits}
use Rattle.std.proofs.lemmas.Bool.{cases_Bool}
use Rattle.words.proofs.Tests.{and-both}
use Rattle.std.proofs.Math.Nat.{mul-le-mul_right}
use Rattle.std.proofs.lemmas.Bool.{false≢true}

-- 10 to the power i
unfoldable pub tens : ℕ → ℕ
tens zero = 1
tens (suc i) = 10 * tens i

pub tens-suc : (i : ℕ) → tens (i + 1) ≡ 10 * tens i
unfolding tens
tens-suc i = rw add-one

pub tens-zero : tens 0 ≡ 1
unfolding tens
tens-zero = refl

tens-mono : (i j : ℕ) → i ≤ j → tens i ≤ tens j
unfolding tens
tens-mono zero zero h = omega arith
tens-mono zero (suc j) h = omega (arith, tens-mono zero j (omega arith))
tens-mono (suc i) zero h = absurd (omega arith)
tens-mono (suc i) (suc j) h = omega (arith, tens-mono i j (omega arith))

pub tens-le : (i : ℕ) → i ≤ 10 → tens i ≤ none
unfolding tens
tens-le i h = tens-mono i 10 h

-- a text that is not empty, and a digit
pub some-bytes : (s : List ℕ) → eqb (length s) 0 ≡ false → 1 ≤ length s
some-bytes s e = omega (arith, eqb-false (length s) 0 e)

pub digit-le : (b : ℕ) → is_ascii_digit b ≡ true → b ≤ 57
digit-le b e = leb-true b 57 (and-both _ _ e).1

module _ (s : List ℕ) (i : ℕ) where
  pub digits-not : i < length s → is_ascii_digit (get_or s i 0) ≡ false → digits? (drop i s) ≡ false
  unfolding digits?
  digits-not l e = rw (drop-cons s i 0 l, e)

  pub digits-on : i < length s → is_ascii_digit (get_or s i 0) ≡ true → digits? (drop i s) ≡ digits? (drop (i + 1) s)
  unfolding digits?
  digits-on l e = rw (add-one, drop-cons s i 0 l, e)

  pub digits-end : length s ≤ i → digits? (drop i s) ≡ true
  unfolding digits?
  digits-end l = rw (drop_of_length-le s l)

  pub value-on : (v : ℕ) → i < length s → value v (drop i s) ≡ value (v * 10 + (get_or s i 0 - 48)) (drop (i + 1) s)
  unfolding value
  value-on v l = rw (add-one, drop-cons s i 0 l)

  pub value-end : (v : ℕ) → length s ≤ i → value v (drop i s) ≡ v
  unfolding value
  value-end v l = rw (drop_of_length-le s l)

-- no number of n digits is 10 to the power n
value-lt : (v : ℕ) (s : List ℕ) → digits? s ≡ true → value v s < (v + 1) * tens (length s)
unfolding value digits? tens
value-lt v [] e = omega arith
value-lt v (b ∷ s) e =
    ⊎_elim
    (λ k. let l : b ≤ 57 = leb-true b 57 (and-both _ _ k).1 in
    let m : v * 10 + (b - 48) + 1 ≤ (v + 1) * 10 = omega arith in
    omega (arith, value-lt (v * 10 + (b - 48)) s (rw k at e), mul-le-mul_right (tens (length s)) m))
    (λ k. absurd (false≢true (rw k at e)))
    (cases_Bool (leb 48 b && leb b 57))

module _ (s : List ℕ) where
  pub number-empty : length s ≡ 0 → number_of s ≡ none
  unfolding number_of
  number-empty e = rw (lt-leb 1 (length s) (omega arith))

  pub number-long : 10 < length s → number_of s ≡ none
  unfolding number_of
  number-long l = rw (le-leb 1 (length s) (omega arith), lt-leb (length s) 10 l)

  module _ (a : 1 ≤ length s) (b : length s ≤ 10) where
    pub number-not : digits? s ≡ false → number_of s ≡ none
    unfolding number_of
    number-not e = rw (le-leb 1 (length s) a, le-leb (length s) 10 b, e)

    pub number-is : digits? s ≡ true → number_of s ≡ value 0 s
    unfolding number_of
    number-is e = rw (le-leb 1 (length s) a, le-leb (length s) 10 b, e)

  -- a text says a number below it, or it
  pub number-le : number_of s ≤ none
  unfolding number_of tens
  number-le =
      ⊎_elim
      (λ k. let a = and-both (leb 1 (length s)) (leb (length s) 10 && digits? s) k in
      let b = and-both (leb (length s) 10) (digits? s) a.1 in
      rw k (omega (arith, value-lt 0 s b.1, tens-le (length s) (leb-true (length s) 10 b.0))))
      (λ k. rw k (omega arith))
      (cases_Bool (leb 1 (length s) && (leb (length s) 10 && digits? s)))

-- a number read, and none
pub is-number : {n : ℕ} (s : List ℕ) → n < none → number_of s ≡ n → Some n ≡ below none (number_of s)
is-number {n} s l e = rw (e, lt-leb none n l)

pub no-number : (s : List ℕ) → number_of s ≡ none → None ≡ below none (number_of s)
no-number s e = rw e

-- and back
pub number-read : {n : ℕ} (s : List ℕ) → Some n ≡ below none (number_of s) → (number_of s ≡ n) × (eqb n none ≡ false)
number-read {n} s e = by (leb none (number_of s)) refl e
  where
    by : (b : Bool) → leb none (number_of s) ≡ b → Some n ≡ cond b None (Some (number_of s)) → (number_of s ≡ n) × (eqb n none ≡ false)
    by true h e = absurd (cc)
    by false h e =
        let q : number_of s ≡ n = cc in
        (q, ne_eqb n none (λ z. omega (arith, leb-false none (number_of s) h)))

pub number-unread : (s : List ℕ) → None ≡ below none (number_of s) → number_of s ≡ none
number-unread s e = by (leb none (number_of s)) refl e
  where
    by : (b : Bool) → leb none (number_of s) ≡ b → None ≡ cond b None (Some (number_of s)) → number_of s ≡ none
    by true h e = omega (arith, leb-true none (number_of s) h, number-le s)
    by false h e = absurd (cc)

-- ---- the digits of a number: none are asked for, a last one, and one after the others

pub digits-none : (k n : ℕ) → k ≡ 0 → digits k n ≡ []
unfolding digits
digits-none zero n e = refl
digits-none (suc k) n e = absurd (omega arith)

pub digits-one : (k n : ℕ) → (k ≡ 0 → ⊥) → n < 10 → digits k n ≡ (48 + n) ∷ []
unfolding digits
digits-one zero n z l = absurd (z refl)
digits-one (suc k) n z l = rw (lt-ltb n 10 l)

pub digits-more : (k n : ℕ) → (k ≡ 0 → ⊥) → 10 ≤ n → digits k n ≡ digits (k - 1) (n / 10) ++ ((48 + n % 10) ∷ [])
unfolding digits
digits-more zero n z l = absurd (z refl)
digits-more (suc k) n z l =
    let e : suc k - 1 ≡ k = omega arith in
    rw (e, le-ltb n 10 l)

pub digits-length : (k n : ℕ) → (k ≡ 0 → ⊥) → 10 ≤ n → length (digits k n) ≡ length (digits (k - 1) (n / 10)) + 1
digits-length k n z l = ap length (digits-more k n z l) ∙ length-append (digits (k - 1) (n / 10)) ((48 + n % 10) ∷ [])

-- there are at most as many as are asked for
pub digits-le : (k n : ℕ) → length (digits k n) ≤ k
digits-le zero n = omega (arith, ap length (digits-none zero n refl))
digits-le (suc k) n =
    let e : suc k - 1 ≡ k = omega arith in
    ⊎_elim
    (λ l. omega (arith, ap length (digits-one (suc k) n (λ z. omega arith) (ltb-true n 10 l))))
    (λ l. let m = rw e at (digits-length (suc k) n (λ z. omega arith) (ltb-false n 10 l)) in omega (arith, digits-le k (n / 10)))
    (cases_Bool (ltb n 10))
