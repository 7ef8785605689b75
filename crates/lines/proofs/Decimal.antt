-- What is printed of a number below 100,000 reads back as that number. Assumes nothing.
use mathlib.Core.Path.{◌≡◌, refl, ap, ◌∙◌}
use mathlib.Core.Bool.{Bool, true, false, ◌&&◌}
use mathlib.Core.Logic.{⊎_elim}
use mathlib.Core.List.{List, [], ◌∷◌, ◌++◌}
use Prim.Native.Nat.{ℕ, zero, suc, ◌+◌, ◌-◌, ◌*◌, ◌/◌, ◌%◌, ◌≤◌, ◌<◌}
use native.Mathlib.Nat.{mod-lt, div-add-mod', div-lt_iff_lt-mul}
use native.Mathlib.Omega.{arith}
use lib.Dec.{leb, ltb}
use lib.ListN.{length}
use borrow.Author.Tests.{ltb-true, ltb-false, le-leb}
use Rattle.lines.specs.Number.{digits?, value, number_of, digits, decimal}
use Rattle.std.proofs.lemmas.Bool.{cases_Bool}
use Rattle.lines.proofs.Numbers.{tens, digits-none, digits-one, digits-more, digits-length, digits-le, number-is}

value-append : (v : ℕ) (s t : List ℕ) → value v (s ++ t) ≡ value (value v s) t
unfolding value
value-append v [] t = refl
value-append v (b ∷ s) t = value-append (v * 10 + (b - 48)) s t

and-assoc : (a b c : Bool) → (a && (b && c)) ≡ ((a && b) && c)
and-assoc true b c = refl
and-assoc false b c = refl

digits-append : (s t : List ℕ) → digits? (s ++ t) ≡ (digits? s && digits? t)
unfolding digits?
digits-append [] t = refl
digits-append (b ∷ s) t = rw (digits-append s t) (and-assoc (leb 48 b && leb b 57) (digits? s) (digits? t))

one-digit : (d : ℕ) → d < 10 → digits? ((48 + d) ∷ []) ≡ true
unfolding digits?
one-digit d h = rw (le-leb 48 (48 + d) (omega arith), le-leb (48 + d) 57 (omega arith))

one-value : (v d : ℕ) → value v ((48 + d) ∷ []) ≡ v * 10 + d
unfolding value
one-value v d = omega arith

tenth : (n m : ℕ) → n < 10 * m → n / 10 < m
tenth n m h = (div-lt_iff_lt-mul {k = 10} {x = n} {y = m} (omega arith)).1 (omega arith)

more-digits : (k n : ℕ) → 10 ≤ n → digits (suc k) n ≡ digits k (n / 10) ++ ((48 + n % 10) ∷ [])
more-digits k n h =
    let e : suc k - 1 ≡ k = omega arith in
    digits-more (suc k) n (λ z. omega arith) h ∙ ap (λ (j : ℕ). digits j (n / 10) ++ ((48 + n % 10) ∷ [])) e

-- one digit more
grown : (k n : ℕ) → (value 0 (digits k (n / 10)) ≡ n / 10) × (digits? (digits k (n / 10)) ≡ true)
    → digits (suc k) n ≡ digits k (n / 10) ++ ((48 + n % 10) ∷ [])
    → (value 0 (digits (suc k) n) ≡ n) × (digits? (digits (suc k) n) ≡ true)
grown k n w e = (
  ap (value 0) e ∙ value-append 0 (digits k (n / 10)) ((48 + n % 10) ∷ []) ∙ ap (λ (v : ℕ). value v ((48 + n % 10) ∷ [])) w.0 ∙ one-value (n / 10) (n % 10) ∙ div-add-mod' n 10,
  ap digits? e ∙ digits-append (digits k (n / 10)) ((48 + n % 10) ∷ []) ∙ rw w.1 (one-digit (n % 10) (mod-lt n (omega arith))),
)

-- the digits read as the number
written : (k n : ℕ) → n < tens k → (value 0 (digits k n) ≡ n) × (digits? (digits k n) ≡ true)
unfolding tens value digits?
written zero n h = rw (digits-none zero n refl) (omega arith, refl)
written (suc k) n h = ⊎_elim
    (λ l. let e = digits-one (suc k) n (λ z. omega arith) (ltb-true n 10 l) in
    rw e (one-value 0 n ∙ omega arith, one-digit n (ltb-true n 10 l)))
    (λ l. grown k n (written k (n / 10) (tenth n (tens k) (omega arith))) (more-digits k n (ltb-false n 10 l)))
    (cases_Bool (ltb n 10))

some : (n : ℕ) → 1 ≤ length (decimal n)
some n = ⊎_elim
    (λ l. omega (arith, ap length (digits-one 5 n (λ z. omega arith) (ltb-true n 10 l))))
    (λ l. omega (arith, digits-length 5 n (λ z. omega arith) (ltb-false n 10 l)))
    (cases_Bool (ltb n 10))

-- what is printed reads back
pub decimal-reads : (n : ℕ) → n < 100000 → number_of (decimal n) ≡ n
unfolding tens
decimal-reads n h =
    let w = written 5 n h in
    let l : length (decimal n) ≤ 5 = digits-le 5 n in
    number-is (decimal n) (some n) (omega arith) w.1 ∙ w.0
