-- What the two calls say of a map of a level: a store that has one, and what is written and read where nothing refuses. Assumes nothing.
use Rattle.std.specs.Prelude.{Option, Ok, Bool, true, ok_or}
use Rattle.std.proofs.Common.{◌≡◌, refl, sym, ap, ◌∙◌, ℕ, suc, ◌≤◌, ◌<◌, List, length, arith}
use borrow.Author.Tests.{lt-leb, le-ltb}
use Rattle.words.specs.Below.{below}
use Rattle.words.proofs.Levels.{level-at}
use Rattle.words.specs.Sizes.{words, level_of}
use Rattle.words.specs.Tree.{true?}
use Rattle.bitmap.specs.declared.refusal.Refusal.TheVariants.{WordCount}
use Rattle.words.specs.Bits.{digit}
use Rattle.bitmap.specs.Answer.{given, refused}
use Rattle.bitmap.proofs.Numbered.{apart}
use Rattle.bitmap.specs.Calls.{answer, check_says}
use Rattle.bitmap.proofs.OneSaid.{told-one}
use Rattle.bitmap.proofs.Stores.{leveled, map-answer, map-fits}
use Rattle.image.specs.Bytes.{written}
use Rattle.image.specs.Image.{image, image_length, image_level}
use Rattle.image.specs.Reading.{counted, map_of}
use Rattle.image.specs.Calls.{write_map, write_says, write_after, read_says, read_after}

-- a store of level k, for a target t: it is written as a map of that level, and its check tells whether that is true
pub record Stored (s t : List ℕ) (k : ℕ) : Type 0 where
  pub sized : (k ≤ 6) × (length s ≡ words k)
  pub level : k ≡ level_of (length s)
  pub says : write_map t k s ≡ write_says s t
  pub checked : (b : Bool) → given (digit b) ≡ answer check_says s → b ≡ true? k s
  pub told-all : {n : ℕ} → refused n ≡ answer check_says s → ⊥

pub stored : (s t : List ℕ) (k : ℕ) {r : Option ℕ} → Ok k ≡ ok_or r WordCount → r ≡ below 7 (level_of (length s)) → Stored s t k
stored s t k e h =
    let is : Ok k ≡ leveled s = e ∙ ap (λ (o : Option ℕ). ok_or o WordCount) h in
    let fits = map-fits s k is in
    let check = map-answer s k is check_says in
    record {
      sized = fits;
      level = level-at k fits.1 (omega arith);
      says = map-answer s k is (write_map t);
      checked = λ b p. cc (told-one (Ok b) (Ok (true? k s)) (p ∙ sym check));
      told-all = λ {n} p. apart (digit (true? k s)) n (check ∙ sym p);
    }

pub write-done : (s t : List ℕ) (k : ℕ) → k ≡ level_of (length s) → k < 7 → true? k s ≡ true → image_length k ≤ length t
    → (write_says s t ≡ given (image_length k)) × (write_after s t ≡ written 0 (image k s) t)
unfolding answer
write-done s t k at lt truth room =
    let level = lt-leb 7 k lt in
    let long = le-ltb (length t) (image_length k) room in
    rw (← at, level, truth, long) (refl, refl)

pub read-done : (bytes t : List ℕ) (k : ℕ) → k ≡ image_level (length bytes) → k < 7 → counted k bytes ≡ true → words k ≤ length t
    → true? k (map_of k bytes) ≡ true → (read_says bytes t ≡ given (suc k)) × (read_after bytes t ≡ written 0 (map_of k bytes) t)
read-done bytes t k at lt counts room truth =
    let level = lt-leb 7 k lt in
    let long = le-ltb (length t) (words k) room in
    rw (← at, level, counts, long, truth) (refl, refl)
