-- An answer by the tests that lead to it: at each refusal the test holds, or it does not and the rest is the answer. Assumes nothing.
use mathlib.Core.Path.{◌≡◌, refl, sym, subst, ◌∙◌}
use mathlib.Core.Bool.{Bool, true, false}
use mathlib.Core.List.{List}
use Prim.Native.Nat.{ℕ}
use native.Mathlib.Omega.{arith}
use Rattle.bitmap.specs.Answer.{Said, given, refused, refuse, among}
use Rattle.bitmap.specs.Calls.{settle}
use Rattle.bitmap.proofs.Numbered.{apart}

pub refuses : (n : ℕ) (b : Bool) (rest : Said) → b ≡ true → refused n ≡ refuse n b rest
refuses n b rest e = sym (rw e)

pub passes : {x : Said} (n : ℕ) (b : Bool) (rest : Said) → b ≡ false → x ≡ rest → x ≡ refuse n b rest
passes n b rest e h = h ∙ sym (rw e)

-- the words after an answer that is known
pub settle-no : (x : Said) (n : ℕ) (s : List ℕ) (f : ℕ → List ℕ) → refused n ≡ x → s ≡ settle x s f
settle-no x n s f e = sym (rw (← e))

pub settle-on : (x : Said) (v : ℕ) (s : List ℕ) (f : ℕ → List ℕ) → given v ≡ x → f v ≡ settle x s f
settle-on x v s f e = sym (rw (← e))

-- a value was given: the test did not hold, and the rest gave it
pub given-on : (v n : ℕ) (b : Bool) (rest : Said) → given v ≡ refuse n b rest → (b ≡ false) × (given v ≡ rest)
given-on v n true rest e = let z : ◌≡◌ {A = ℕ} 0 1 = cc in absurd (omega arith)
given-on v n false rest e = (refl, e)

-- a refusal is one of some numbers where the first of two refusals is, and the rest's is
pub refused-among : (n : ℕ) (ns : List ℕ) (m : ℕ) (b : Bool) (rest : Said) → among m ns ≡ true → (rest ≡ refused n → among n ns ≡ true)
    → refuse m b rest ≡ refused n → among n ns ≡ true
refused-among n ns m true rest i h e = let same : m ≡ n = cc in subst (λ (x : ℕ). among x ns ≡ true) same i
refused-among n ns m false rest i h e = h e

-- what is given is no refusal
pub given-among : (n : ℕ) (ns : List ℕ) (v : ℕ) → given v ≡ refused n → among n ns ≡ true
given-among n ns v e = absurd (apart v n e)
