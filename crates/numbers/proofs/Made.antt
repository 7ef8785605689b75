-- An array made by a closure that answers a function of the index and stays as it is: at each index it has the function's value.
use denote.Param.Members.{Mut, Called}
use Rattle.std.proofs.Common.{◌≡◌, ◌∙◌, subst, ℕ, zero, suc, ◌+◌, ◌<◌, ◌≤◌, inl, inr, List, slice_index, arith}
use Rattle.std.proofs.Math.Nat.{eq-or-lt_of_le}
use Rattle.std.specs.Array.{IsFromFnResultFrom}

pub made : {F : Type 0} (g : Mut F (ℕ × Unit {0}) ℕ) (h : ℕ → ℕ) (f : F) → ((k y : ℕ) (q : F) → Called g f (k, tt) y q → (q ≡ f) × (y ≡ h k))
    → (ys : List ℕ) (i n : ℕ) → IsFromFnResultFrom g f ys i n → (k : ℕ) → i ≤ k → k < i + n → slice_index ys k ≡ h k
made g h f computes ys i zero e k low high = absurd (omega arith)
made {F} g h f computes ys i (suc n) e k low high =
    let here = computes i e.1 e.0 e.3 in
    let on : IsFromFnResultFrom g f ys (i + 1) n = subst (λ (q : F). IsFromFnResultFrom g q ys (i + 1) n) here.0 e.4 in
    elim (eq-or-lt_of_le low) [
      | inl same ↦ subst (λ (j : ℕ). slice_index ys j ≡ h j) same (e.2.1 0 ∙ here.1)
      | inr past ↦ made g h f computes ys (i + 1) n on k (omega arith) (omega arith)
    ]
