-- One answer: two answers and two exits of `lines`, and of `go_on`, that both meet its generated contract for the same arguments are equal.
-- Assumes nothing.
use mathlib.Core.Path.{◌≡◌, sym, ap, ap₂, ◌∙◌}
use mathlib.Core.List.{List}
use Prim.Native.Nat.{ℕ}
use Rattle.bitmap.specs.Answer.{number}
use Rattle.bitmap.specs.Contract.{OneAnswer}
use Rattle.bitmap.proofs.Numbered.{number-one, apart}
use Rattle.std.specs.Prelude.{Result, Ok, Err}
use Rattle.bitmap.specs.declared.refusal.Refusal.{Refusal}
use Rattle.lines.specs.Session.{says}
use Rattle.lines.specs.contracts.go_on as go_on
use Rattle.lines.proofs.go_on.Reads as go-on-reads
use Rattle.lines.specs.contracts.lines as lines
use Rattle.lines.proofs.lines.Reads as lines-reads

-- document 01's numbers tell the answers apart
says-one : (r q : Result ℕ Refusal) → says r ≡ says q → r ≡ q
says-one (Ok n) (Ok m) e = cc
says-one (Ok n) (Err r) e = absurd (apart n (number r) e)
says-one (Err r) (Ok n) e = absurd (apart n (number r) (sym e))
says-one (Err r) (Err q) e = ap Err (number-one r q e)

pub lines-once : OneAnswer lines.ended lines-reads.Post
lines-once κs a r₁ r₂ w₁ w₂ p q = (
  says-one r₁ r₂ (p.0 ∙ sym q.0),
  ap₂ (λ (s o : List ℕ). (w₁.0, (s, (o, w₁.1.1.1)))) (p.1.0 ∙ sym q.1.0) (p.1.1 ∙ sym q.1.1),
)

pub go-on-once : OneAnswer go_on.ended go-on-reads.Post
go-on-once κs a r₁ r₂ w₁ w₂ p q = (
  p.0 ∙ sym q.0,
  ap₂ (λ (s o : List ℕ). (w₁.0, (s, (w₁.1.1.0, (o, w₁.1.1.1.1))))) (p.1.0 ∙ sym q.1.0) (p.1.1 ∙ sym q.1.1),
)
