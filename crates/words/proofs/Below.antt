-- A number that may be there: where it is, and what it is then. Assumes nothing.
use Rattle.std.specs.Prelude.{Some, None}
use Rattle.std.proofs.Common.{◌≡◌, refl, ℕ, ◌<◌, ◌≤◌, arith}
use borrow.Author.Tests.{le-leb, lt-leb}
use native.Mathlib.Decide.{dec_lt}
use Rattle.words.specs.Below.{below}

pub below-some : {bound n : ℕ} → n < bound → Some n ≡ below bound n
below-some {bound = b} {n = n} l = rw (lt-leb b n l) refl

pub below-none : {bound n : ℕ} → bound ≤ n → None ≡ below bound n
below-none {bound = b} {n = n} l = rw (le-leb b n l) refl

pub below-found : {bound n m : ℕ} → Some m ≡ below bound n → (m ≡ n) × (m < bound)
below-found {bound = b} {n = n} {m = m} e = elim (dec_lt n b) [
  | yes l ↦ let is : Some m ≡ Some n = rw (lt-leb b n l) at e in let same : m ≡ n = cc in (same, omega arith)
  | no l ↦ let is : Some m ≡ None = rw (le-leb b n (omega arith)) at e in absurd (cc)
]

pub below-missing : {bound n : ℕ} → None ≡ below bound n → bound ≤ n
below-missing {bound = b} {n = n} e = elim (dec_lt n b) [
  | yes l ↦ let is : None ≡ Some n = rw (lt-leb b n l) at e in absurd (cc)
  | no l ↦ omega arith
]
