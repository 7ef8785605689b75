-- What documents 01 and 02 say of each case of each answer: its numbers and values. Definitions only.
use Rattle.std.specs.Prelude.{ℕ, Bool, true, false, ◌||◌, List, [], ◌∷◌, eqb, Result, Ok, Err}
use Rattle.bitmap.specs.declared.refusal.Refusal.{Refusal}
use Rattle.bitmap.specs.declared.refusal.Refusal.TheVariants.{WordCount, PastEnd, NoSize, Alignment, NoneFree, AlreadyFree, Untrue, BadImage, TooShort, BadLine, NoAllowance, BookFull, NoLease, BadBook, NoHolder, BadRun, Overlap, BlockSize}
pub use Rattle.words.specs.Bits.{digit}

-- what a call says: a value, or a refusal's number
pub data Said : Type 0 where
  given : ℕ → Said
  refused : ℕ → Said

-- the number of each refusal
abbrev pub number : Refusal → ℕ
number WordCount = 1
number PastEnd = 2
number NoSize = 3
number Alignment = 4
number NoneFree = 5
number AlreadyFree = 6
number Untrue = 7
number BadImage = 8
number TooShort = 9
number BadLine = 10
number NoAllowance = 11
number BookFull = 12
number NoLease = 13
number BadBook = 14
number NoHolder = 15
number BadRun = 16
number Overlap = 17
number BlockSize = 18

-- an answer: what a value counts as, or the number of the refusal
abbrev pub said : {A : Type 0} → (A → ℕ) → Result A Refusal → Said
said f (Ok v) = given (f v)
said f (Err r) = refused (number r)

-- a take or a look-up gives a position
abbrev pub taken : Result ℕ Refusal → Said
taken = said (λ p. p)

-- a change gives nothing, which is 0
abbrev pub changed : Result Unit Refusal → Said
changed = said (λ _. 0)

-- a test gives 1 for yes and 0 for not
abbrev pub told : Result Bool Refusal → Said
told = said digit

-- refusal n where the test holds, and the rest where it does not
abbrev pub refuse : ℕ → Bool → Said → Said
refuse n true rest = refused n
refuse n false rest = rest

-- n is one of the numbers
abbrev pub among : ℕ → List ℕ → Bool
among n [] = false
among n (m ∷ ms) = eqb n m || among n ms
