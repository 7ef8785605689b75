-- Tests: what two together say. Assumes nothing.
use mathlib.Core.Path.{◌≡◌, refl, sym}
use mathlib.Core.Bool.{Bool, true, false, cond, ◌&&◌, ◌||◌, beq, true≢false}
use Rattle.words.specs.Tree.{same}

-- two tests that imply each other
pub both-ways : (a b : Bool) → (a ≡ true → b ≡ true) → (b ≡ true → a ≡ true) → a ≡ b
both-ways true b f g = sym (f refl)
both-ways false true f g = g refl
both-ways false false f g = refl

-- ---- both of two tests

pub and-both : (a b : Bool) → a && b ≡ true → (a ≡ true) × (b ≡ true)
and-both true b h = (refl, h)
and-both false b h = absurd (true≢false (sym h))

-- ---- either of two tests, and neither

pub or-right : (a b : Bool) → a ≡ false → b ≡ true → (a || b) ≡ true
or-right a b e h = rw (e, h)

pub neither : (a b : Bool) → a ≡ false → b ≡ false → (a || b) ≡ false
neither a b e h = rw (e, h)

pub none-of : (a b : Bool) → (a || b) ≡ false → (a ≡ false) × (b ≡ false)
none-of false b e = (refl, e)
none-of true b e = absurd (true≢false e)

-- ---- two tests that say the same

pub same-is : (a b : Bool) → same a b ≡ true → a ≡ b
same-is true b h = sym h
same-is false true h = absurd (true≢false (sym h))
same-is false false h = refl

pub same-self : (b : Bool) → same b b ≡ true
same-self true = refl
same-self false = refl

-- `a == b`
pub beq-same : (a b : Bool) → beq a b ≡ same a b
beq-same true true = refl
beq-same true false = refl
beq-same false true = refl
beq-same false false = refl

-- ---- a choice of two whose first is looked at only where the test holds

pub cond-ext : {A : Type 0} {b b' : Bool} {x x' y y' : A} → b ≡ b' → (b ≡ true → x ≡ x') → y ≡ y' → cond b x y ≡ cond b' x' y'
cond-ext {b = true} e h g = rw (← e) (h refl)
cond-ext {b = false} e h g = rw (← e) g
