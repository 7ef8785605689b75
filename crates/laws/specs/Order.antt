-- Two maps under the same operations: the operations as data, their run, and the rule between the answers of the two. Definitions only.
use Rattle.std.specs.Prelude.{ℕ, ◌≤◌, ◌<◌, ◌≡◌, true, List, [], ◌∷◌, length, Option}
use Rattle.words.specs.Sizes.{cap}
use Rattle.words.specs.Tree.{free?}
use Rattle.bitmap.specs.Answer.{Said, given}
use Rattle.bitmap.specs.Calls.{answer, after}
use Rattle.laws.specs.Call as C
use Rattle.laws.specs.Call.{Call, call_says, call_after}
use Rattle.laws.specs.Sets.{Positions}
use Rattle.bitmap.specs.Maps.{TrueMap, TrueStore, free_in, positions}

-- an operation with its numbers, whatever they are: one that is refused is an operation too
pub data Op : Type 0 where
  take : Op
  give_back : ℕ → Op
  insert : ℕ → ℕ → Op
  remove : ℕ → ℕ → Op
  look_up : ℕ → Op

-- the public call that it is
abbrev pub call : Op → Call
call take = C.alloc
call (give_back key) = C.dealloc key
call (insert a b) = C.insert a b
call (remove a b) = C.remove a b
call (look_up key) = C.next key

-- ---- a run of operations, each on the words that the one before it left: its answers, and the words at the end

-- on a map of k levels below its own word
abbrev pub map_says : ℕ → List Op → List ℕ → List Said
map_says k [] s = []
map_says k (o ∷ ops) s = call_says (call o) k s ∷ map_says k ops (call_after (call o) k s)

abbrev pub map_after : ℕ → List Op → List ℕ → List ℕ
map_after k [] s = s
map_after k (o ∷ ops) s = map_after k ops (call_after (call o) k s)

-- on a lent store
abbrev pub store_says : List Op → List ℕ → List Said
store_says [] s = []
store_says (o ∷ ops) s = answer (call_says (call o)) s ∷ store_says ops (after (call_after (call o)) s)

abbrev pub store_after : List Op → List ℕ → List ℕ
store_after [] s = s
store_after (o ∷ ops) s = store_after ops (after (call_after (call o)) s)

-- ---- the order of two maps

-- each of the positions 0 to n - 1 that is in f is in g
abbrev pub Inside : ℕ → Positions → Positions → Type 0
Inside n f g = (p : ℕ) → p < n → f p ≡ true → g p ≡ true

-- where the first answer is a position, the second is a position that is no higher
abbrev pub NoHigher : Said → Said → Type 0
NoHigher x y = (p : ℕ) → x ≡ given p → (q : ℕ) × (y ≡ given q) × (q ≤ p)

-- the rule of a single operation's two answers: it binds a take and a look-up, which answer with positions
abbrev pub Rule : Op → Said → Said → Type 0
Rule take x y = NoHigher x y
Rule (give_back key) x y = Unit {0}
Rule (insert a b) x y = Unit {0}
Rule (remove a b) x y = Unit {0}
Rule (look_up key) x y = NoHigher x y

-- the rule at each place of a run
pub data Rules : List Op → List Said → List Said → Type 0 where
  none : Rules [] [] []
  place : {o : Op} {x y : Said} {ops : List Op} {xs ys : List Said} → Rule o x y → Rules ops xs ys → Rules (o ∷ ops) (x ∷ xs) (y ∷ ys)

-- ---- of two maps of k levels below their own words

-- both are true, and F of the first is within F of the second
pub record Ordered (k : ℕ) (s t : List ℕ) : Type 0 where
  pub first : TrueMap k s
  pub second : TrueMap k t
  pub inside : Inside (cap k) (free? k s) (free? k t)

-- what holds of a run of the same operations on both
pub record RunInOrder (k : ℕ) (ops : List Op) (s t : List ℕ) : Type 0 where
  -- at each place where the first answers a take or a look-up with a position, the second answers a position that is no higher
  pub places : Rules ops (map_says k ops s) (map_says k ops t)
  -- at the end both are true, and F of the first is within F of the second
  pub end : Ordered k (map_after k ops s) (map_after k ops t)
  -- one request for an aligned run put to both then, with or without a base, keeps the same rule
  pub request : (base : Option ℕ) (size align : ℕ)
      → NoHigher (call_says (C.alloc_contiguous base size align) k (map_after k ops s))
      (call_says (C.alloc_contiguous base size align) k (map_after k ops t))

-- ---- of two lent stores

-- both are true maps, of one size, and F of the first is within F of the second
pub record StoresOrdered (s t : List ℕ) : Type 0 where
  pub first : TrueStore s
  pub second : TrueStore t
  pub size : length s ≡ length t
  pub inside : Inside (positions s) (free_in s) (free_in t)

-- what holds of a run of the same operations on both
pub record StoresInOrder (ops : List Op) (s t : List ℕ) : Type 0 where
  -- at each place where the first answers a take or a look-up with a position, the second answers a position that is no higher
  pub places : Rules ops (store_says ops s) (store_says ops t)
  -- at the end both are true maps, of the same size as before, and F of the first is within F of the second
  pub end : StoresOrdered (store_after ops s) (store_after ops t)
  pub kept : length (store_after ops s) ≡ length s
  -- one request for an aligned run put to both then, with or without a base, keeps the same rule
  pub request : (base : Option ℕ) (size align : ℕ)
      → NoHigher (answer (call_says (C.alloc_contiguous base size align)) (store_after ops s))
      (answer (call_says (C.alloc_contiguous base size align)) (store_after ops t))
