-- What an answer says tells it apart from every other, and so one answer is left where an equation says what it says. Assumes nothing.
use mathlib.Core.Path.{◌≡◌, refl, sym, ap, ◌∙◌}
use mathlib.Core.List.{List}
use Prim.Native.Nat.{ℕ}
use native.Mathlib.Omega.{arith}
use Rattle.std.specs.Prelude.{Result, Ok, Err, Bool, true, false}
use Rattle.bitmap.specs.declared.refusal.Refusal.{Refusal}
use Rattle.words.specs.Bits.{digit}
use Rattle.bitmap.specs.Answer.{number, said, taken, changed, told}
use Rattle.bitmap.proofs.Numbered.{number-one, apart}

-- where no two values count as the same
said-one : {A : Type 0} (f : A → ℕ) → ((a b : A) → f a ≡ f b → a ≡ b) → (r q : Result A Refusal) → said f r ≡ said f q → r ≡ q
said-one f one (Ok a) (Ok b) e = ap Ok (one a b cc)
said-one f one (Ok a) (Err n) e = absurd (apart (f a) (number n) e)
said-one f one (Err n) (Ok b) e = absurd (apart (f b) (number n) (sym e))
said-one f one (Err n) (Err m) e = ap Err (number-one n m e)

pub taken-one : (r q : Result ℕ Refusal) → taken r ≡ taken q → r ≡ q
taken-one = said-one (λ p. p) (λ a b e. e)

pub changed-one : (r q : Result Unit Refusal) → changed r ≡ changed q → r ≡ q
changed-one = said-one (λ _. 0) (λ a b e. refl)

digit-one : (a b : Bool) → digit a ≡ digit b → a ≡ b
digit-one true true e = refl
digit-one true false e = absurd (omega arith)
digit-one false true e = absurd (omega arith)
digit-one false false e = refl

pub told-one : (r q : Result Bool Refusal) → told r ≡ told q → r ≡ q
told-one = said-one digit digit-one

-- one answer, of which `say` tells everything, and one last value, which stands in the last values as `last` says
pub once : {A B C : Type 0} (say : A → B) → ((r q : A) → say r ≡ say q → r ≡ q) → {r₁ r₂ : A} {x : B} {l₁ l₂ l : List ℕ} (last : List ℕ → C)
    → (say r₁ ≡ x) × (l₁ ≡ l)
    → (say r₂ ≡ x) × (l₂ ≡ l)
    → (r₁ ≡ r₂) × (last l₁ ≡ last l₂)
once say tell last p q = (tell _ _ (p.0 ∙ sym q.0), ap last (p.1 ∙ sym q.1))

-- the same where nothing is lent to be written
pub once-read : {A B C : Type 0} (say : A → B) → ((r q : A) → say r ≡ say q → r ≡ q) → {r₁ r₂ : A} {x : B} {w : C}
    → say r₁ ≡ x
    → say r₂ ≡ x
    → (r₁ ≡ r₂) × (w ≡ w)
once-read say tell p q = (tell _ _ (p ∙ sym q), refl)
