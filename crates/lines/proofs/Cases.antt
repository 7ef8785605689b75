-- The law of the table of cases: a case that opens a map comes where there is none. Assumes nothing.
use mathlib.Core.Path.{◌≡◌, refl}
use mathlib.Core.Bool.{Bool, true, false, cond}
use mathlib.Core.Logic.{⊎_elim}
use mathlib.Core.List.{List, [], ◌∷◌}
use Prim.Native.Nat.{ℕ, zero, suc, ◌≤◌}
use native.Mathlib.Omega.{arith}
use borrow.Author.Tests.{eqb-true, leb-false}
use lib.Dec.{eqb, leb}
use lib.ListN.{length, get_or, drop}
use Rattle.bitmap.specs.Answer.{Said, given, refused}
use Rattle.words.specs.Sizes.{words}
use Rattle.bitmap.specs.Calls.{answer, after, alloc_says, alloc_after, run_says, run_after, next_says, give_says, give_after, give_run_says, give_run_after, give_run_old_after, range_says, insert_after, remove_after, empty_says, test_says}
use Rattle.std.specs.Prelude.{Some, None}
use Rattle.lines.specs.Reply.{Reply, Yes, Not, No, place, done, yes, replies, afters, allowed}
use Rattle.std.proofs.lemmas.Bool.{cases_Bool}
use Rattle.lines.proofs.Replies.{Fine}

-- ---- no command opens a map

place-fine : (x : Said) (t s : List ℕ) → Fine (place x) t s
place-fine (given p) t s = tt
place-fine (refused n) t s = tt

done-fine : (x : Said) (t s : List ℕ) → Fine (done x) t s
done-fine (given v) t s = tt
done-fine (refused n) t s = tt

yes-fine : (x : Said) (t s : List ℕ) → Fine (yes x) t s
yes-fine (given v) t s = either (eqb v 0)
  where
    either : (b : Bool) → Fine (cond b Not Yes) t s
    either true = tt
    either false = tt
yes-fine (refused n) t s = tt

-- two columns of the table, row by row
unfoldable Fines : List Reply → List (List ℕ) → List ℕ → Type 0
Fines [] [] s = Unit
Fines [] (t ∷ ts) s = ⊥
Fines (r ∷ rs) [] s = ⊥
Fines (r ∷ rs) (t ∷ ts) s = Fine r t s × Fines rs ts s

fine-at : (rs : List Reply) (ts : List (List ℕ)) (s : List ℕ) → Fines rs ts s → (n : ℕ) → Fine (get_or rs n (No 10)) (get_or ts n s) s
unfolding Fines
fine-at [] [] s f n = tt
fine-at [] (t ∷ ts) s f n = absurd f
fine-at (r ∷ rs) [] s f n = absurd f
fine-at (r ∷ rs) (t ∷ ts) s f zero = f.0
fine-at (r ∷ rs) (t ∷ ts) s f (suc n) = fine-at rs ts s f.1 n

module _ (a b c : ℕ) (s : List ℕ) where
  -- the eleven commands
  commands-fine : Fines (drop 5 (replies a b c s)) (drop 5 (afters a b c s)) s
  unfolding replies afters Fines
  commands-fine = (
    place-fine (answer alloc_says s) (after alloc_after s) s,
    (
      place-fine (answer (run_says None a b) s) (after (run_after None a b) s) s,
      (
        place-fine (answer (run_says (Some a) b c) s) (after (run_after (Some a) b c) s) s,
        (
          done-fine (answer (give_says a) s) (after (give_after a) s) s,
          (
            done-fine (answer (give_run_says a b) s) (after (give_run_after a b) s) s,
            (
              done-fine (answer (give_run_says a b) s) (after (give_run_old_after a b) s) s,
              (
                done-fine (answer (range_says a b) s) (after (insert_after a b) s) s,
                (
                  done-fine (answer (range_says a b) s) (after (remove_after a b) s) s,
                  (
                    place-fine (answer (next_says a) s) s s,
                    (
                      yes-fine (answer (test_says a) s) s s,
                      (yes-fine (answer empty_says s) s s, tt),
                    ),
                  ),
                ),
              ),
            ),
          ),
        ),
      ),
    ),
  )

  -- where there is no map
  all-fine : length s ≡ 0 → Fines (replies a b c s) (afters a b c s) s
  unfolding replies afters words Fines
  all-fine z =
      (tt, ((refl, omega arith, z), ((refl, omega arith, z), ((refl, omega arith, z), ((refl, omega arith, z), commands-fine)))))

  -- where there is one: no size is allowed
  later-fine : (n : ℕ) → 5 ≤ n → Fine (get_or (replies a b c s) n (No 10)) (get_or (afters a b c s) n s) s
  unfolding replies afters Fines
  later-fine zero h = absurd (omega arith)
  later-fine (suc zero) h = absurd (omega arith)
  later-fine (suc (suc zero)) h = absurd (omega arith)
  later-fine (suc (suc (suc zero))) h = absurd (omega arith)
  later-fine (suc (suc (suc (suc zero)))) h = absurd (omega arith)
  later-fine (suc (suc (suc (suc (suc n))))) h = fine-at (drop 5 (replies a b c s)) (drop 5 (afters a b c s)) s commands-fine n

  none-fine : Fine (get_or (replies a b c s) 0 (No 10)) (get_or (afters a b c s) 0 s) s
  unfolding replies afters
  none-fine = tt

  -- a case that opens a map comes where there is none, and leaves its words
  pub table-fine : (k : ℕ) → Fine (get_or (replies a b c s) (allowed (length s) k) (No 10)) (get_or (afters a b c s) (allowed (length s) k) s) s
  unfolding allowed
  table-fine k =
      ⊎_elim
      (λ e. fine-at (replies a b c s) (afters a b c s) s (all-fine (eqb-true (length s) 0 e)) (allowed (length s) k))
      (λ e. rw e (⊎_elim (λ h. rw h none-fine) (λ h. rw h (later-fine k (leb-false k 4 h))) (cases_Bool (leb k 4))))
      (cases_Bool (eqb (length s) 0))
