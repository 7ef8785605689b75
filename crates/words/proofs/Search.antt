-- The laws of a search: what it finds, how it is cut in two, and how it goes by the places that it looks at. Assumes nothing.
use mathlib.Core.Path.{◌≡◌, refl, sym, ap, ap₂, ◌∙◌, subst}
use mathlib.Core.Bool.{Bool, true, false, ◌&&◌, true≢false}
use mathlib.Core.Logic.{◌⊎◌, inl, inr, ⊎_elim}
use Prim.Native.Nat.{ℕ, zero, suc, ◌+◌, ◌-◌, min, ◌≤◌, ◌<◌}
use native.Mathlib.Nat.{eq-or-lt_of_le}
use native.Mathlib.Decide.{dec_le}
use native.Mathlib.Numerals.{add-one}
use native.Mathlib.Omega.{arith}
use lib.Dec.{leb}
use borrow.Author.Tests.{le-leb, lt-leb, leb-true, leb-false}
use Rattle.words.specs.Search.{first_from, none, all}
use Rattle.std.proofs.lemmas.Bool.{cases_Bool}
use Rattle.words.proofs.Tests.{and-both}

-- ---- what a search finds, and that only it is found

-- p is the first place from a up to e at which f holds, or e
pub record First (f : ℕ → Bool) (a e p : ℕ) : Type 0 where
  pub from : a ≤ p
  pub upto : p ≤ e
  pub here : p < e → f p ≡ true
  pub before : (q : ℕ) → a ≤ q → q < p → f q ≡ false

later : {f : ℕ → Bool} {a e p : ℕ} → f a ≡ false → First f (suc a) e p → First f a e p
later {f} h t = record {
  from = omega arith;
  upto = t.upto;
  here = t.here;
  before = λ q l u. ⊎_elim (λ e. ap f (sym e) ∙ h) (λ m. t.before q m u) (eq-or-lt_of_le l);
}

found : (f : ℕ → Bool) (a n : ℕ) → First f a (a + n) (first_from f a n)
unfolding first_from
found f a zero = record { from = omega arith; upto = omega arith; here = λ l. absurd (omega arith); before = λ q l u. absurd (omega arith) }
found f a (suc n) =
    ⊎_elim
    (λ e. rw e (record { from = omega arith; upto = omega arith; here = λ _. e; before = λ q l u. absurd (omega arith) }))
    (λ e. rw e (later e (rw up at (found f (suc a) n))))
    (cases_Bool (f a))
  where
    up : suc a + n ≡ a + suc n
    up = omega arith

-- what stands at the end of a search, however its end is written
pub first-is : (f : ℕ → Bool) (a n e : ℕ) → a + n ≡ e → First f a e (first_from f a n)
first-is f a n e h = subst (λ (x : ℕ). First f a x (first_from f a n)) h (found f a n)

pub first-one : {f : ℕ → Bool} {a e p q : ℕ} → First f a e p → First f a e q → p ≡ q
first-one {f} {a} {e} {p} {q} h g =
    let up : ¬ (p < q) = λ l. true≢false (sym (h.here (omega (arith, g.upto))) ∙ g.before p h.from l) in
    let down : ¬ (q < p) = λ l. true≢false (sym (g.here (omega (arith, h.upto))) ∙ h.before q g.from l) in
    omega arith

-- a place that is the first is what the search answers
pub is-first : (f : ℕ → Bool) (a n e p : ℕ) → a + n ≡ e → First f a e p → first_from f a n ≡ p
is-first f a n e p h t = first-one (first-is f a n e h) t

-- ---- a search goes by the places that it looks at, and passes those at which there is nothing

module _ (f g : ℕ → Bool) (a n : ℕ) where
  -- f and g agree where the search looks
  pub first-ext : ((q : ℕ) → a ≤ q → q < a + n → f q ≡ g q) → first_from f a n ≡ first_from g a n
  first-ext h =
      let t = first-is g a n (a + n) refl in
      is-first f a n (a + n) (first_from g a n) refl (record {
        from = t.from;
        upto = t.upto;
        here = λ l. h _ t.from l ∙ t.here l;
        before = λ q l u. h q l (omega (arith, t.upto)) ∙ t.before q l u;
      })

  -- where g holds whenever f does, g is found no later
  pub first-mono : ((q : ℕ) → a ≤ q → q < a + n → f q ≡ true → g q ≡ true) → first_from g a n ≤ first_from f a n
  first-mono h =
      let s = first-is f a n (a + n) refl in
      let t = first-is g a n (a + n) refl in
      let no-sooner : ¬ (first_from f a n < first_from g a n) = λ l.
      let e : first_from f a n < a + n = omega (arith, t.upto) in
      true≢false (sym (h _ s.from e (s.here e)) ∙ t.before _ s.from l) in
      omega arith

module _ (f : ℕ → Bool) (a b e : ℕ) (le : a ≤ b) (end : b ≤ e) where
  -- nothing from a up to b
  pub first-skip : ((q : ℕ) → a ≤ q → q < b → f q ≡ false) → first_from f a (e - a) ≡ first_from f b (e - b)
  first-skip h =
      let t = first-is f b (e - b) e (omega arith) in
      is-first f a (e - a) e _ (omega arith) (record {
        from = omega (arith, t.from);
        upto = t.upto;
        here = t.here;
        before = λ q l u. ⊎_elim (λ (m : b ≤ q). t.before q m u) (λ (m : q < b). h q l m) (le-or-lt b q);
      })
    where
      le-or-lt : (x y : ℕ) → (x ≤ y) ⊎ (y < x)
      le-or-lt x y = elim (dec_le x y) [ yes l ↦ inl l | no l ↦ inr (omega arith) ]

  -- found before b, or not
  pub first-cut : first_from f a (b - a) < b → first_from f a (e - a) ≡ first_from f a (b - a)
  first-cut l =
      let t = first-is f a (b - a) b (omega arith) in
      is-first f a (e - a) e _ (omega arith) (record { from = t.from; upto = omega arith; here = λ _. t.here l; before = t.before })

  pub first-rest : b ≤ first_from f a (b - a) → first_from f a (e - a) ≡ first_from f b (e - b)
  first-rest l = let t = first-is f a (b - a) b (omega arith) in first-skip (λ q m u. t.before q m (omega arith))

  -- a search that ends sooner
  pub first-min : first_from f a (b - a) ≡ min b (first_from f a (e - a))
  first-min =
      let t = first-is f a (e - a) e (omega arith) in
      is-first f a (b - a) b _ (omega arith) (record {
        from = omega (arith, t.from);
        upto = omega arith;
        here = λ l.
            let same : min b (first_from f a (e - a)) ≡ first_from f a (e - a) = omega arith in
            ap f same ∙ t.here (omega arith);
        before = λ q m u. t.before q m (omega arith);
      })

-- the search of a part that stands d further on
pub first-shift : (f : ℕ → Bool) (d a n : ℕ) → first_from f (d + a) n ≡ d + first_from (λ q. f (d + q)) a n
first-shift f d a n =
    let t = first-is (λ q. f (d + q)) a n (a + n) refl in
    is-first f (d + a) n (d + (a + n)) _ (omega arith) (record {
      from = omega (arith, t.from);
      upto = omega (arith, t.upto);
      here = λ l. t.here (omega arith);
      before = λ q l u. ap f (back q l) ∙ t.before (q - d) (omega arith) (omega arith);
    })
  where
    back : (q : ℕ) → d + a ≤ q → q ≡ d + (q - d)
    back q l = omega arith

-- ---- a test that holds at none of some places

module _ (f : ℕ → Bool) (a b e : ℕ) (le : a ≤ b) (end : b ≤ e) where
  -- it holds at one of the first of them
  pub none-no : none f a b ≡ false → none f a e ≡ false
  none-no h =
      let l = leb-false b (first_from f a (b - a)) h in
      lt-leb e (first_from f a (e - a)) (omega (arith, first-cut f a b e le end l))

  -- or at none of them
  pub none-on : none f a b ≡ true → none f a e ≡ none f b e
  none-on h = ap (leb e) (first-rest f a b e le end (leb-true b (first_from f a (b - a)) h))

-- there are none
pub none-end : (f : ℕ → Bool) (a b : ℕ) → b ≤ a → none f a b ≡ true
none-end f a b le = le-leb b (first_from f a (b - a)) (omega (arith, (first-is f a (b - a) (a + (b - a)) refl).from))

leb-shift : (d a b : ℕ) → leb (d + a) (d + b) ≡ leb a b
leb-shift d a b = elim (dec_le a b) [
  | yes l ↦ le-leb (d + a) (d + b) (omega arith) ∙ sym (le-leb a b l)
  | no l ↦ lt-leb (d + a) (d + b) (omega arith) ∙ sym (lt-leb a b (omega arith))
]

-- places that stand d further on
pub none-shift : (f g : ℕ → Bool) (d a b : ℕ) → a ≤ b → ((q : ℕ) → a ≤ q → q < b → f (d + q) ≡ g q) → none f (d + a) (d + b) ≡ none g a b
none-shift f g d a b le h =
    let n : d + b - (d + a) ≡ b - a = omega arith in
    ap (λ (m : ℕ). leb (d + b) (first_from f (d + a) m)) n
    ∙ ap (leb (d + b)) (first-shift f d a (b - a) ∙ ap (λ (x : ℕ). d + x) (first-ext (λ q. f (d + q)) g a (b - a) (λ q l u. h q l (omega arith))))
    ∙ leb-shift d b (first_from g a (b - a))

-- ---- a search of the places from k up to n, one step at a time

module _ (f : ℕ → Bool) (k n : ℕ) where
  pub first-at : k < n → f k ≡ true → first_from f k (n - k) ≡ k
  first-at l h = is-first f k (n - k) n k (omega arith) (record { from = omega arith; upto = omega arith; here = λ _. h; before = λ q m u. absurd (omega arith) })

  pub first-end : n ≤ k → first_from f k (n - k) ≡ k
  unfolding first_from
  first-end h = let z : n - k ≡ 0 = omega arith in ap (first_from f k) z

-- ---- a test that holds at all of some places

pub all-at : (f : ℕ → Bool) (a n : ℕ) → all f a n ≡ true → (q : ℕ) → a ≤ q → q < a + n → f q ≡ true
unfolding all
all-at f a zero h q l u = absurd (omega arith)
all-at f a (suc n) h q l u =
    let p = and-both (f a) (all f (suc a) n) h in
    ⊎_elim (λ e. ap f (sym e) ∙ p.0) (λ m. all-at f (suc a) n p.1 q m (omega arith)) (eq-or-lt_of_le l)

pub all-is : (f : ℕ → Bool) (a n : ℕ) → ((q : ℕ) → a ≤ q → q < a + n → f q ≡ true) → all f a n ≡ true
unfolding all
all-is f a zero h = refl
all-is f a (suc n) h = rw (h a (omega arith) (omega arith)) (all-is f (suc a) n (λ q l u. h q (omega arith) (omega arith)))

-- one place at which it does not hold
all-not : (f : ℕ → Bool) (a n q : ℕ) → a ≤ q → q < a + n → f q ≡ false → all f a n ≡ false
all-not f a n q l u h = ⊎_elim (λ e. absurd (true≢false (sym (all-at f a n e q l u) ∙ h))) (λ e. e) (cases_Bool (all f a n))

-- tests that agree
all-ext : (f g : ℕ → Bool) (a n : ℕ) → ((q : ℕ) → a ≤ q → q < a + n → f q ≡ g q) → all f a n ≡ all g a n
unfolding all
all-ext f g a zero h = refl
all-ext f g a (suc n) h =
    ap₂ ◌&&◌ (h a (omega arith) (omega arith)) (all-ext f g (suc a) n (λ q l u. h q (omega arith) (omega arith)))

-- ---- such a test of the places from k up to n, one step at a time

module _ (f : ℕ → Bool) (k n : ℕ) where
  pub all-stop : k < n → f k ≡ false → all f k (n - k) ≡ false
  all-stop l h = all-not f k (n - k) k (omega arith) (omega arith) h

  pub all-on : k < n → f k ≡ true → all f k (n - k) ≡ all f (k + 1) (n - (k + 1))
  unfolding all
  all-on l h = let up : n - k ≡ suc (n - (k + 1)) = omega arith in rw (up, h, add-one)

  pub all-end : n ≤ k → all f k (n - k) ≡ true
  unfolding all
  all-end h = let z : n - k ≡ 0 = omega arith in rw z
