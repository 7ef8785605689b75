-- An aligned run is refused with 5 exactly when none stands in F; otherwise the lowest is taken, or the one at the base. These hold of
-- every map, true or not. `Run f n size align b` of words/specs/Run.antt says that a run stands at b: b is a multiple of 2^align,
-- b + size is at most n, and each of b to b + size - 1 is in f. Assumes nothing.
use mathlib.Core.Path.{◌≡◌, refl, sym, ap, ◌∙◌}
use mathlib.Core.Bool.{false, not, true≢false}
use mathlib.Core.Logic.{◌↔◌, ◌⊎◌, inl, inr, ⊎_elim}
use mathlib.Core.List.{List}
use Prim.Native.Nat.{ℕ, ◌+◌, ◌%◌, ◌^◌, ◌≤◌, ◌<◌}
use native.Mathlib.Nat.{zero-add, eq-or-lt_of_le}
use native.Mathlib.Omega.{arith}
use lib.Dec.{leb, ltb}
use lib.ListN.{length}
use borrow.Author.Tests.{eq-eqb, lt-leb, le-ltb}
use Rattle.words.specs.declared.kind.Change.TheVariants.{Remove}
use Rattle.std.specs.Prelude.{Option, Some, None}
use Rattle.words.specs.Sizes.{cap, level_of}
use Rattle.words.specs.Tree.{free?}
use Rattle.change.specs.Change.{change}
use Rattle.words.specs.Run.{Run, misfit, aligned, run?, run_in}
use Rattle.bitmap.specs.Answer.{given, refused}
use Rattle.bitmap.specs.Calls.{answer, after, misplaced, run_says, run_after}
use Rattle.std.proofs.lemmas.Bool.{cases_Bool}
use Rattle.words.proofs.Tests.{neither}
use Rattle.words.proofs.Search.{first-is}
use Rattle.bitmap.proofs.Refusals.{settle-on}
use Rattle.bitmap.proofs.Numbered.{apart}
use Rattle.look.proofs.Runs.{run-is, is-run, run-found, run-none}
use Rattle.bitmap.proofs.RunCases.{run-some, any-none, any-found, at-held, at-found}
use Rattle.laws.specs.Call.{alloc_contiguous, call_says, call_after}
use Rattle.bitmap.specs.Maps.{free_in, positions}
use Rattle.laws.proofs.AsSets.{answer-level, after-level}

-- arguments that are not refused with 4
fits : (n align : ℕ) → align < 64 → 2 ^ align ≤ n → misfit n align ≡ false
fits n align a l = neither (leb 64 align) (ltb n (2 ^ align)) (lt-leb 64 align a) (le-ltb n (2 ^ align) l)

-- ---- the theorems, of every map, true or not

-- Without a base, where the arguments are not refused with 4 or 3: the answer is refusal 5 and the run stands nowhere, or it is the
-- lowest b at which the run stands.
pub run-or-none : (k : ℕ) (s : List ℕ) (size align : ℕ) → align < 64 → 2 ^ align ≤ cap k → 0 < size
    → ((run_says None size align k s ≡ refused 5) × ((b : ℕ) → Run (free? k s) (cap k) size align b → ⊥))
    ⊎ ((b : ℕ) × (run_says None size align k s ≡ given b) × Run (free? k s) (cap k) size align b
    × ((q : ℕ) → q < b → Run (free? k s) (cap k) size align q → ⊥))
run-or-none k s size align a l some =
    let f = free? k s in
    let n = cap k in
    let r = run_in f n size align in
    let ok = fits n align a l in
    ⊎_elim
    (λ (e : r ≡ n). inl (sym (run-some None size align k s ok (omega arith) (any-none size align k s (omega arith))), run-none f n size align some (omega arith)))
    (λ (m : r < n).
    let t = run-found f n size align r refl m in
    inr (r, sym (run-some None size align k s ok (omega arith) (any-found size align k s r refl m)), t.0, t.1))
    (eq-or-lt_of_le (first-is (run? f n size align) 0 n n (zero-add n)).upto)

-- Without a base, not refused with 4 or 3: the answer is refusal 5 exactly when there is no b at which the run stands.
pub run-refused : (k : ℕ) (s : List ℕ) (size align : ℕ) → align < 64 → 2 ^ align ≤ cap k → 0 < size
    → (run_says None size align k s ≡ refused 5) ↔ ((b : ℕ) → Run (free? k s) (cap k) size align b → ⊥)
run-refused k s size align a l some =
    let either = run-or-none k s size align a l some in (
      λ h. ⊎_elim (λ c. c.1) (λ c. absurd (apart c.0 5 (sym c.1 ∙ h))) either,
      λ none. ⊎_elim (λ c. c.0) (λ c. absurd (none c.0 c.2)) either,
    )

-- Without a base, not refused with 4 or 3: the answer is b exactly when b is the lowest at which the run stands.
pub run-given : (k : ℕ) (s : List ℕ) (size align : ℕ) → align < 64 → 2 ^ align ≤ cap k → 0 < size
    → (b : ℕ) → (run_says None size align k s ≡ given b)
    ↔ (Run (free? k s) (cap k) size align b × ((q : ℕ) → q < b → Run (free? k s) (cap k) size align q → ⊥))
run-given k s size align a l some b =
    let either = run-or-none k s size align a l some in (
      λ h. ⊎_elim
          (λ c. absurd (apart b 5 (sym h ∙ c.0)))
          (λ c. let e : c.0 ≡ b = cc c.1 in rw (← e) (c.2, c.3))
          either,
      λ t. ⊎_elim
          (λ c. absurd (c.1 b t.0))
          (λ c.
          let up : ¬ (b < c.0) = λ m. c.3 b m t.0 in
          let down : ¬ (c.0 < b) = λ m. t.1 c.0 m c.2 in
          let e : c.0 ≡ b = omega arith in
          c.1 ∙ ap given e)
          either,
    )

-- At the base b, where the arguments are not refused with 4, 3 or 2: the answer is refusal 5 and the run does not stand at b, or it is b
-- and it does.
pub base-or-none : (k : ℕ) (s : List ℕ) (size align b : ℕ)
    → align < 64 → 2 ^ align ≤ cap k → b % 2 ^ align ≡ 0 → 0 < size → b + size ≤ cap k
    → ((run_says (Some b) size align k s ≡ refused 5) × (Run (free? k s) (cap k) size align b → ⊥))
    ⊎ ((run_says (Some b) size align k s ≡ given b) × Run (free? k s) (cap k) size align b)
base-or-none k s size align b a l m some u =
    let f = free? k s in
    let n = cap k in
    let ok : misplaced (Some b) align n ≡ false = neither (misfit n align) (not (aligned align b)) (fits n align a l) (ap not (eq-eqb (b % 2 ^ align) 0 m)) in
    ⊎_elim
    (λ t. inr (sym (run-some (Some b) size align k s ok (omega arith) (at-found size align k s b u t)), run-is f n size align b t))
    (λ t. inl (sym (run-some (Some b) size align k s ok (omega arith) (at-held size align k s b u t)), λ r. true≢false (sym (is-run f n size align b r) ∙ t)))
    (cases_Bool (run? f n size align b))

-- At the base b, not refused with 4, 3 or 2: the answer is refusal 5 exactly when the run does not stand at b.
pub base-refused : (k : ℕ) (s : List ℕ) (size align b : ℕ)
    → align < 64 → 2 ^ align ≤ cap k → b % 2 ^ align ≡ 0 → 0 < size → b + size ≤ cap k
    → (run_says (Some b) size align k s ≡ refused 5) ↔ (Run (free? k s) (cap k) size align b → ⊥)
base-refused k s size align b a l m some u =
    let either = base-or-none k s size align b a l m some u in (
      λ h. ⊎_elim (λ c. c.1) (λ c. absurd (apart b 5 (sym c.0 ∙ h))) either,
      λ none. ⊎_elim (λ c. c.0) (λ c. absurd (none c.1)) either,
    )

-- At the base b, not refused with 4, 3 or 2: the answer is v exactly when the run stands at b and v is b.
pub base-given : (k : ℕ) (s : List ℕ) (size align b : ℕ)
    → align < 64 → 2 ^ align ≤ cap k → b % 2 ^ align ≡ 0 → 0 < size → b + size ≤ cap k
    → (v : ℕ) → (run_says (Some b) size align k s ≡ given v) ↔ (Run (free? k s) (cap k) size align b × (v ≡ b))
base-given k s size align b a l m some u v =
    let either = base-or-none k s size align b a l m some u in (
      λ h. ⊎_elim (λ c. absurd (apart v 5 (sym h ∙ c.0))) (λ c. (c.1, cc c.0)) either,
      λ t. ⊎_elim (λ c. absurd (c.1 t.0)) (λ c. c.0 ∙ ap given (sym t.1)) either,
    )

-- A run that is given b, without a base or at it, is taken there: its positions are removed.
pub run-taken : (base : Option ℕ) (size align k : ℕ) (s : List ℕ) (b : ℕ) → run_says base size align k s ≡ given b
    → run_after base size align k s ≡ change Remove k s b (b + size)
run-taken base size align k s b e = sym (settle-on (run_says base size align k s) b s (λ v. change Remove k s v (v + size)) (sym e))

-- ---- the same of the call on every lent store whose word count is one of the seven

-- Without a base: refusal 5 exactly when there is no b at which the run stands in F.
pub store-run-refused : (s : List ℕ) (size align : ℕ) → level_of (length s) < 7 → align < 64 → 2 ^ align ≤ positions s → 0 < size
    → (answer (call_says (alloc_contiguous None size align)) s ≡ refused 5) ↔ ((b : ℕ) → Run (free_in s) (positions s) size align b → ⊥)
store-run-refused s size align h a l some = rw (answer-level s h (run_says None size align)) (run-refused (level_of (length s)) s size align a l some)

-- Without a base: given b exactly when b is the lowest at which the run stands in F.
pub store-run-given : (s : List ℕ) (size align : ℕ) → level_of (length s) < 7 → align < 64 → 2 ^ align ≤ positions s → 0 < size
    → (b : ℕ) → (answer (call_says (alloc_contiguous None size align)) s ≡ given b)
    ↔ (Run (free_in s) (positions s) size align b × ((q : ℕ) → q < b → Run (free_in s) (positions s) size align q → ⊥))
store-run-given s size align h a l some b = rw (answer-level s h (run_says None size align)) (run-given (level_of (length s)) s size align a l some b)

-- At the base b: refusal 5 exactly when the run does not stand there.
pub store-base-refused : (s : List ℕ) (size align b : ℕ) → level_of (length s) < 7
    → align < 64 → 2 ^ align ≤ positions s → b % 2 ^ align ≡ 0 → 0 < size → b + size ≤ positions s
    → (answer (call_says (alloc_contiguous (Some b) size align)) s ≡ refused 5) ↔ (Run (free_in s) (positions s) size align b → ⊥)
store-base-refused s size align b h a l m some u =
    rw (answer-level s h (run_says (Some b) size align)) (base-refused (level_of (length s)) s size align b a l m some u)

-- At the base b: given v exactly when the run stands there and v is b.
pub store-base-given : (s : List ℕ) (size align b : ℕ) → level_of (length s) < 7
    → align < 64 → 2 ^ align ≤ positions s → b % 2 ^ align ≡ 0 → 0 < size → b + size ≤ positions s
    → (v : ℕ) → (answer (call_says (alloc_contiguous (Some b) size align)) s ≡ given v) ↔ (Run (free_in s) (positions s) size align b × (v ≡ b))
store-base-given s size align b h a l m some u v =
    rw (answer-level s h (run_says (Some b) size align)) (base-given (level_of (length s)) s size align b a l m some u v)

-- A run that is given b, without a base or at it, is taken there: its positions are removed.
pub store-run-taken : (base : Option ℕ) (size align : ℕ) (s : List ℕ) (b : ℕ) → level_of (length s) < 7
    → answer (call_says (alloc_contiguous base size align)) s ≡ given b
    → after (call_after (alloc_contiguous base size align)) s ≡ change Remove (level_of (length s)) s b (b + size)
store-run-taken base size align s b h e =
    after-level s h (run_after base size align)
    ∙ run-taken base size align (level_of (length s)) s b (sym (answer-level s h (run_says base size align)) ∙ e)
