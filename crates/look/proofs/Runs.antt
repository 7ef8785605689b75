-- Aligned runs: the multiples of a number, what it is that a run stands at a place, what the search for the lowest run finds, and how
-- that search may go on from place to place. Assumes nothing.
use mathlib.Core.Path.{◌≡◌, sym, ◌∙◌}
use mathlib.Core.Bool.{Bool, true, false, not, ◌&&◌, true≢false}
use mathlib.Core.Logic.{⊎_elim}
use Prim.Native.Nat.{ℕ, suc, ◌+◌, ◌-◌, ◌*◌, ◌/◌, ◌%◌, ◌^◌, ◌≤◌, ◌<◌}
use native.Mathlib.Nat.{suc-mul, zero-add, mod-lt, div-add-mod', mul-mod_left, div-lt_iff_lt-mul, mul-le-mul_right}
use native.Mathlib.Decide.{dec_le}
use native.Mathlib.Omega.{arith}
use lib.Pow.{pow_pos, pow-lt, pow-add}
use lib.Dec.{leb, ltb}
use borrow.Author.Tests.{leb-true, leb-false, ltb-false, le-leb, eqb-true, eq-eqb, not-true, not-false}
use Rattle.words.specs.Search.{first_from, all}
use Rattle.words.specs.Sizes.{cap}
use Rattle.words.specs.Run.{Run, next_in, misfit, aligned, run?, run_in}
use Rattle.words.proofs.Search.{First, first-is, first-skip, first-at, first-end, all-at, all-is}
use Rattle.std.proofs.lemmas.Bool.{cases_Bool}
use Rattle.words.proofs.Tests.{and-both, none-of}
use Rattle.words.proofs.Levels.{cap-pow}

-- ---- multiples

-- the lowest multiple of m from x on
abbrev align_up : ℕ → ℕ → ℕ
align_up m x = (x + (m - 1)) / m * m

module _ (m x : ℕ) (pos : 0 < m) where
  up-from : x ≤ align_up m x
  up-from = omega (arith, div-add-mod' (x + (m - 1)) m, mod-lt (x + (m - 1)) pos)

  pub up-multiple : align_up m x % m ≡ 0
  up-multiple = mul-mod_left ((x + (m - 1)) / m) m

  up-least : (q : ℕ) → x ≤ q → q % m ≡ 0 → align_up m x ≤ q
  up-least q l e =
      let whole : q / m * m ≡ q = omega (arith, div-add-mod' q m) in
      let below : (x + (m - 1)) / m < suc (q / m) = (div-lt_iff_lt-mul pos).1 (rw suc-mul (omega arith)) in
      let le : (x + (m - 1)) / m ≤ q / m = omega arith in
      rw whole at (mul-le-mul_right m le)

-- the positions of a map are a multiple of each power of 2 that is no more than they are
pub cap-multiple : (k align : ℕ) → 2 ^ align ≤ cap k → cap k % 2 ^ align ≡ 0
cap-multiple k align h =
    let le : align ≤ 4 * k + 4 = elim (dec_le align (4 * k + 4)) [
      | yes l ↦ l
      | no l ↦ let up : 4 * k + 4 < align = omega arith in absurd (omega (arith, pow-lt up, cap-pow k))
    ] in
    let cut : 4 * k + 4 ≡ 4 * k + 4 - align + align = omega arith in
    rw (cap-pow k, cut, pow-add) (mul-mod_left (2 ^ (4 * k + 4 - align)) (2 ^ align))

-- an alignment that fits
pub fits-align : (n align : ℕ) → misfit n align ≡ false → (align < 64) × (2 ^ align ≤ n)
fits-align n align e =
    let p = none-of (leb 64 align) (ltb n (2 ^ align)) e in
    (leb-false 64 align p.0, ltb-false n (2 ^ align) p.1)

-- ---- a run

module _ (f : ℕ → Bool) (n size align : ℕ) where
  pub run-is : (b : ℕ) → run? f n size align b ≡ true → Run f n size align b
  run-is b e =
      let p = and-both (aligned align b) (leb (b + size) n && all f b size) e in
      let q = and-both (leb (b + size) n) (all f b size) p.1 in
      record { multiple = eqb-true (b % 2 ^ align) 0 p.0; fits = leb-true (b + size) n q.0; free = all-at f b size q.1 }

  pub is-run : (b : ℕ) → Run f n size align b → run? f n size align b ≡ true
  is-run b r = rw (eq-eqb (b % 2 ^ align) 0 r.multiple, le-leb (b + size) n r.fits) (all-is f b size r.free)

  no-run : (b : ℕ) → (Run f n size align b → ⊥) → run? f n size align b ≡ false
  no-run b h = ⊎_elim (λ e. absurd (h (run-is b e))) (λ e. e) (cases_Bool (run? f n size align b))

  -- what is found is a run, and no run stands lower
  pub run-found : (b : ℕ) → run_in f n size align ≡ b → b < n → Run f n size align b × ((q : ℕ) → q < b → Run f n size align q → ⊥)
  run-found b e l =
      let t = rw e at (first-is (run? f n size align) 0 n n (zero-add n)) in
      (run-is b (t.here l), λ q m r. true≢false (sym (is-run q r) ∙ t.before q (omega arith) m))

  -- where none is found there is none
  pub run-none : 0 < size → n ≤ run_in f n size align → (b : ℕ) → Run f n size align b → ⊥
  run-none some h b r =
      let t = first-is (run? f n size align) 0 n n (zero-add n) in
      true≢false (sym (is-run b r) ∙ t.before b (omega arith) (omega (arith, r.fits)))

-- ---- whether a run stands at b, by the first of its positions at which f does not hold

module _ (f : ℕ → Bool) (b size end : ℕ) (e : end ≡ first_from (λ p. not (f p)) b (b + size - b)) where
  abbrev first-held : First (λ p. not (f p)) b (b + size) end
  first-held = rw e (first-is (λ p. not (f p)) b (b + size - b) (b + size) (omega arith))

  end-held : (end ≡ b + size → ⊥) → (b ≤ end) × (end < b + size) × (f end ≡ false)
  end-held ne =
      let l : end < b + size = omega (arith, first-held.upto) in
      (first-held.from, l, not-true (f end) (first-held.here l))

  module _ (n align : ℕ) where
    -- there is none
    pub run-whole : b % 2 ^ align ≡ 0 → b + size ≤ n → end ≡ b + size → run? f n size align b ≡ true
    run-whole m room w =
        is-run f n size align b (record { multiple = m; fits = room; free = λ q l u. not-false (f q) (first-held.before q l (omega arith)) })

    -- there is one
    pub run-cut : (end ≡ b + size → ⊥) → run? f n size align b ≡ false
    run-cut ne =
        let h = end-held ne in
        no-run f n size align b (λ r. true≢false (sym (r.free end h.0 h.1) ∙ h.2))

-- ---- the search, step by step

-- no run stands below x
pub record Sought (f : ℕ → Bool) (n size align x : ℕ) : Type 0 where
  pub upto : x ≤ n
  pub same : run_in f n size align ≡ first_from (run? f n size align) x (n - x)

module _ {f : ℕ → Bool} {n size align x : ℕ} (h : Sought f n size align x) where
  -- on to y, where none stands between
  past : (y : ℕ) → x ≤ y → y ≤ n → ((q : ℕ) → x ≤ q → q < y → Run f n size align q → ⊥) → (x ≤ y) × Sought f n size align y
  past y l m none = (
    l,
    record {
      upto = m;
      same = h.same ∙ first-skip (run? f n size align) x y n l m (λ q u v. no-run f n size align q (none q u v));
    },
  )

  -- a run starts where f holds
  pub sought-free : (y : ℕ) → 0 < size → y ≡ next_in f n x → (x ≤ y) × Sought f n size align y
  sought-free y some e =
      let t = rw (← e) at (first-is f x (n - x) n (omega (arith, h.upto))) in
      past y t.from t.upto (λ q u v r. true≢false (sym (r.free q (omega arith) (omega arith)) ∙ t.before q u v))

  -- and at a multiple
  pub sought-multiple : (y : ℕ) → n % 2 ^ align ≡ 0 → y ≡ align_up (2 ^ align) x → (x ≤ y) × Sought f n size align y
  sought-multiple y e ey =
      past y (rw ey (up-from (2 ^ align) x (pow_pos align))) (rw ey (up-least (2 ^ align) x (pow_pos align) n h.upto e))
      (λ q u v r. omega (arith, up-least (2 ^ align) x (pow_pos align) q u r.multiple))

  -- and ends before the next place where it does not hold
  pub sought-next : (end : ℕ) → x + size ≤ n → end ≡ first_from (λ p. not (f p)) x (x + size - x) → (end ≡ x + size → ⊥) → (x ≤ end) × Sought f n size align (end + 1)
  sought-next end room e ne =
      let t = end-held f x size end e ne in
      (t.0, (past (end + 1) (omega arith) (omega arith) (λ q u v r. true≢false (sym (r.free end (omega arith) (omega arith)) ∙ t.2))).1)

  -- one stands here
  pub sought-here : (end : ℕ) → 0 < size → x % 2 ^ align ≡ 0 → x + size ≤ n → end ≡ first_from (λ p. not (f p)) x (x + size - x) → end ≡ x + size → run_in f n size align ≡ x
  sought-here end some e room ee w =
      h.same ∙ first-at (run? f n size align) x n (omega arith) (run-whole f x size end ee n align e room w)

  -- there is no room for one
  pub sought-short : n - x < size → run_in f n size align ≡ n
  sought-short l =
      let e = past n h.upto (omega arith) (λ q u v r. omega (arith, r.fits)) in
      e.1.same ∙ first-end (run? f n size align) n n (omega arith)
