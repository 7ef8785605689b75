-- The numbers tell the refusals apart, and a value from a refusal. Assumes nothing.
use mathlib.Core.Path.{◌≡◌, refl, sym, ap, ◌∙◌}
use mathlib.Core.List.{[], ◌∷◌}
use Prim.Native.Nat.{ℕ}
use native.Mathlib.Omega.{arith}
use lib.ListN.{get_or}
use Rattle.bitmap.specs.declared.refusal.Refusal.{Refusal}
use Rattle.bitmap.specs.declared.refusal.Refusal.TheVariants.{WordCount, PastEnd, NoSize, Alignment, NoneFree, AlreadyFree, Untrue, BadImage, TooShort, BadLine, NoAllowance, BookFull, NoLease, BadBook, NoHolder, BadRun, Overlap, BlockSize}
use Rattle.bitmap.specs.Answer.{given, refused, number}

-- the refusal of a number
unfoldable refusal_of : ℕ → Refusal
refusal_of n = get_or (WordCount ∷ WordCount ∷ PastEnd ∷ NoSize ∷ Alignment ∷ NoneFree ∷ AlreadyFree ∷ Untrue ∷ BadImage ∷ TooShort ∷ BadLine ∷ NoAllowance ∷ BookFull ∷ NoLease ∷ BadBook ∷ NoHolder ∷ BadRun ∷ Overlap ∷ BlockSize ∷ []) n WordCount

back : (r : Refusal) → refusal_of (number r) ≡ r
unfolding refusal_of
back WordCount = refl
back PastEnd = refl
back NoSize = refl
back Alignment = refl
back NoneFree = refl
back AlreadyFree = refl
back Untrue = refl
back BadImage = refl
back TooShort = refl
back BadLine = refl
back NoAllowance = refl
back BookFull = refl
back NoLease = refl
back BadBook = refl
back NoHolder = refl
back BadRun = refl
back Overlap = refl
back BlockSize = refl

pub number-one : (r q : Refusal) → refused (number r) ≡ refused (number q) → r ≡ q
number-one r q e = let n : number r ≡ number q = cc in sym (back r) ∙ ap refusal_of n ∙ back q

pub apart : (v n : ℕ) → given v ≡ refused n → ⊥
apart v n e = let z : ◌≡◌ {A = ℕ} 0 1 = cc in omega arith
