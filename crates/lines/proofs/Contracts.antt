-- The laws of `lines` and `go_on` are about the code: the generated contracts say that the answer, the words and the output at exit are
-- those of specs/Session.antt; and a refusal leaves both as lent. Assumes nothing.
use mathlib.Core.Path.{◌≡◌, refl}
use mathlib.Core.Bool.{Bool, true, false, cond}
use mathlib.Core.List.{List}
use Prim.Native.Nat.{ℕ}
use lib.ListN.{length}
use Rattle.bitmap.specs.declared.refusal.Refusal.{Refusal}
use Rattle.bitmap.specs.declared.refusal.Refusal.TheVariants.{TooShort}
use Rattle.bitmap.specs.Answer.{given, refused, refuse}
use Rattle.bitmap.specs.Contract.{Means}
use Rattle.bitmap.proofs.Numbered.{apart}
use Rattle.std.specs.Prelude.{Ok, Err}
use Rattle.lines.specs.Session.{Went, renewed, short_on, printed_on, map_on, went_on, words_on, output_on, cut, printed, says, lines_says, words_after, output_after}
use Rattle.lines.specs.contracts.go_on as go_on
use Rattle.lines.proofs.go_on.Reads as go-on-reads
use Rattle.lines.specs.contracts.lines as lines
use Rattle.lines.proofs.lines.Reads as lines-reads

pub lines-does : Means lines.ended lines-reads.Post (λ κs a r e.
    let input = a.0.now in
    let store = a.1.0.now in
    let output = a.1.1.0.now in
    (says r ≡ lines_says input store output) × (e.1.0.now ≡ words_after input store output) × (e.1.1.0.now ≡ output_after input store output))
lines-does κs a r e p = (p.0, p.1.0, p.1.1)

pub go-on-does : Means go_on.ended go-on-reads.Post (λ κs a r e.
    let input = a.0.now in
    let store = a.1.0.now in
    let n = a.1.1.0 in
    let output = a.1.1.1.0.now in
    (r ≡ went_on input store n output) × (e.1.0.now ≡ words_on input store n output) × (e.1.1.1.0.now ≡ output_on input store n output))
go-on-does κs a r e p = (p.0, p.1.0, p.1.1)

-- `go_on` is refused with 9 or not at all, and a refusal leaves the words and the output as lent.
pub go-on-refused : (input store : List ℕ) (n : ℕ) (output : List ℕ) (m : Refusal) → went_on input store n output ≡ Err m
    → (m ≡ TooShort) × (words_on input store n output ≡ store) × (output_on input store n output ≡ output)
unfolding went_on words_on output_on
go-on-refused input store n output m = by (short_on input store n output)
  where
    by : (b : Bool) → cond {A = Went} b (Err TooShort) (Ok (length (printed_on input store n), length (map_on input store n))) ≡ Err m
        → (m ≡ TooShort)
        × (cond b store (renewed (map_on input store n) store) ≡ store)
        × (cond b output (renewed (printed_on input store n) output) ≡ output)
    by true e = (cc, refl, refl)
    by false e = absurd (cc)

-- `lines` is refused with 9 or not at all, and a refusal leaves the words and the output as lent.
pub lines-refused : (input store output : List ℕ) (n : ℕ) → lines_says input store output ≡ refused n
    → (n ≡ 9) × (words_after input store output ≡ store) × (output_after input store output ≡ output)
unfolding lines_says words_on output_on
lines-refused input store output n = by (short_on (cut input) store 0 output)
  where
    by : (b : Bool) → refuse 9 b (given (length (printed input))) ≡ refused n
        → (n ≡ 9)
        × (cond b store (renewed (map_on (cut input) store 0) store) ≡ store)
        × (cond b output (renewed (printed_on (cut input) store 0) output) ≡ output)
    by true e = (cc, refl, refl)
    by false e = absurd (apart (length (printed input)) n e)
