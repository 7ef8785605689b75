-- The laws of the public calls: a part of an input, and a whole one. Assumes nothing.
use mathlib.Core.Path.{◌≡◌, refl, sym, ap, ap₂, ◌∙◌}
use mathlib.Core.Bool.{Bool, true, false, cond}
use mathlib.Core.Logic.{⊎_elim}
use mathlib.Core.List.{List}
use Prim.Native.Nat.{ℕ, ◌*◌, min, ◌≤◌}
use native.Mathlib.Omega.{arith}
use borrow.Author.Tests.{leb-true, leb-false, le-ltb}
use lib.Dec.{leb}
use lib.ListN.{length, take, drop, length-append}
use lib.Seq.{take_all, take-length}
use Rattle.std.specs.Prelude.{Ok, Err}
use Rattle.bitmap.specs.declared.refusal.Refusal.TheVariants.{TooShort}
use Rattle.words.specs.Sizes.{words}
use Rattle.std.proofs.lemmas.Bool.{cases_Bool}
use Rattle.words.proofs.Tests.{neither}
use Rattle.bitmap.specs.Answer.{Said, given, refuse, said}
use Rattle.bitmap.proofs.Refusals.{given-on}
use Rattle.lines.specs.Session.{Went, most_words, renewed, Ended, short_on, printed_on, map_on, went_on, words_on, output_on, cut, printed, lines_says}
use Rattle.lines.proofs.Puts.{put-front}

-- ---- a part of an input

module _ (input store : List ℕ) (n : ℕ) (output : List ℕ) where
  -- what the call answers and leaves
  abbrev Done : Went → List ℕ → List ℕ → Type 0
  Done went store' output' =
      (went ≡ went_on input store n output) × ((store' ≡ words_on input store n output) × (output' ≡ output_on input store n output))

  pub went : most_words ≤ length store → n ≤ length store → 6 * length input ≤ length output
      → {n' at : ℕ} {store' output' : List ℕ} → Ended input store n output store' output' n' at → Done (Ok (at, n')) store' output'
  unfolding went_on words_on output_on words
  went enough fits room {n'} {at} e =
      let long : short_on input store n output ≡ false =
      neither _ _ (le-ltb (length store) most_words enough) (neither _ _ (le-ltb (length store) n fits) (le-ltb (length output) (6 * length input) room)) in (
        ap₂ (λ (x y : ℕ). Ok (x, y)) e.counted e.mapped ∙ sym (rw long),
        (e.stored ∙ sym (rw long), e.all_shown ∙ put-front output (printed_on input store n) (omega (arith, e.counted, e.within)) ∙ sym (rw long)),
      )

-- ---- a whole input

-- the first bytes of a text that may have fewer
pub take-min : (k : ℕ) (s : List ℕ) → take (min k (length s)) s ≡ take k s
take-min k s =
    ⊎_elim
    (λ e. let h = leb-true k (length s) e in let m : min k (length s) ≡ k = omega arith in ap (λ (n : ℕ). take n s) m)
    (λ e. let h = leb-false k (length s) e in let m : min k (length s) ≡ length s = omega arith in
    ap (λ (n : ℕ). take n s) m ∙ take-length s ∙ sym (take_all k s (omega arith)))
    (cases_Bool (leb k (length s)))

-- an answer of a part, as the whole input's
abbrev pub counts : Went → Said
counts = said (λ p. p.0)

module _ (input store output : List ℕ) where
  counts-cut : counts (went_on (cut input) store 0 output) ≡ lines_says input store output
  unfolding went_on lines_says
  counts-cut = by (short_on (cut input) store 0 output)
    where
      by : (b : Bool) → counts (cond {A = Went} b (Err TooShort) (Ok (length (printed input), length (map_on (cut input) store 0)))) ≡ refuse 9 b (given (length (printed input)))
      by true = refl
      by false = refl

  -- the part that is read answers for the whole
  pub whole : (n : ℕ) → n ≡ min 65536 (length input) → {w : Went} {store' output' : List ℕ}
      → (w ≡ went_on (take n input) store 0 output) × ((store' ≡ words_on (take n input) store 0 output) × (output' ≡ output_on (take n input) store 0 output))
      → (counts w ≡ lines_says input store output) × ((store' ≡ words_on (cut input) store 0 output) × (output' ≡ output_on (cut input) store 0 output))
  whole n is p =
      let read : take n input ≡ cut input = ap (λ (k : ℕ). take k input) is ∙ take-min 65536 input in (
        ap counts (p.0 ∙ ap (λ (x : List ℕ). went_on x store 0 output) read) ∙ counts-cut,
        (p.1.0 ∙ ap (λ (x : List ℕ). words_on x store 0 output) read, p.1.1 ∙ ap (λ (x : List ℕ). output_on x store 0 output) read),
      )

-- ---- for a caller: the bytes printed are bytes of the output, and the map's words are words

renewed-le : (new old : List ℕ) → length new ≤ length (renewed new old)
renewed-le new old = omega (arith, length-append new (drop (length new) old))

-- a part that is not refused
gone-on : (b : Bool) (at m at' m' : ℕ) → ◌≡◌ {A = Went} (Ok (at, m)) (cond b (Err TooShort) (Ok (at', m'))) → (b ≡ false) × ((at ≡ at') × (m ≡ m'))
gone-on true at m at' m' e = absurd (cc)
gone-on false at m at' m' e =
    let p : ◌≡◌ {A = ℕ × ℕ} (at, m) (at', m') = cc in
    (refl, (ap (λ (q : ℕ × ℕ). q.0) p, ap (λ (q : ℕ × ℕ). q.1) p))

module _ (input store : List ℕ) (n : ℕ) (output : List ℕ) (at m : ℕ) (e : ◌≡◌ {A = Went} (Ok (at, m)) (went_on input store n output)) where
  on : (short_on input store n output ≡ false) × ((at ≡ length (printed_on input store n)) × (m ≡ length (map_on input store n)))
  unfolding went_on
  on = gone-on (short_on input store n output) at m _ _ e

  pub on-le : {output' : List ℕ} → output' ≡ output_on input store n output → at ≤ length output'
  unfolding output_on
  on-le {output'} o =
      let w : output' ≡ renewed (printed_on input store n) output = o ∙ rw on.0 in
      omega (arith, on.1.0, ap length w, renewed-le (printed_on input store n) output)

  pub map-le : {store' : List ℕ} → store' ≡ words_on input store n output → m ≤ length store'
  unfolding words_on
  map-le {store'} o =
      let w : store' ≡ renewed (map_on input store n) store = o ∙ rw on.0 in
      omega (arith, on.1.1, ap length w, renewed-le (map_on input store n) store)

pub count-le : (input store output : List ℕ) {output' : List ℕ} (n : ℕ) → given n ≡ lines_says input store output
    → output' ≡ output_on (cut input) store 0 output → n ≤ length output'
unfolding lines_says output_on
count-le input store output {output'} n e o =
    let is = given-on n 9 (short_on (cut input) store 0 output) (given (length (printed input))) e in
    let c : n ≡ length (printed input) = cc is.1 in
    let w : output' ≡ renewed (printed input) output = o ∙ rw is.0 in
    omega (arith, ap length w, renewed-le (printed input) output)
