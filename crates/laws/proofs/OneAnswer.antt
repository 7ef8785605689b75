-- One answer: of each public call, two answers and two exits that both meet the generated contract for the same arguments are equal.
-- Assumes nothing.
use mathlib.Core.Path.{refl, sym, ◌∙◌}
use Rattle.bitmap.specs.Answer.{taken, changed, told}
use Rattle.bitmap.specs.Contract.{OneAnswer}
use Rattle.bitmap.proofs.OneSaid.{taken-one, changed-one, told-one, once, once-read}
use Rattle.bitmap.specs.contracts.number as number
use Rattle.bitmap.proofs.number.Reads as number-reads
use Rattle.bitmap.specs.contracts.alloc as alloc
use Rattle.bitmap.proofs.alloc.Reads as alloc-reads
use Rattle.bitmap.specs.contracts.alloc_contiguous as alloc-contiguous
use Rattle.bitmap.proofs.alloc_contiguous.Reads as alloc-contiguous-reads
use Rattle.bitmap.specs.contracts.next as next
use Rattle.bitmap.proofs.next.Reads as next-reads
use Rattle.bitmap.specs.contracts.dealloc as dealloc
use Rattle.bitmap.proofs.dealloc.Reads as dealloc-reads
use Rattle.bitmap.specs.contracts.dealloc_contiguous as dealloc-contiguous
use Rattle.bitmap.proofs.dealloc_contiguous.Reads as dealloc-contiguous-reads
use Rattle.bitmap.specs.contracts.dealloc_contiguous_old as dealloc-contiguous-old
use Rattle.bitmap.proofs.dealloc_contiguous_old.Reads as dealloc-contiguous-old-reads
use Rattle.bitmap.specs.contracts.insert as insert
use Rattle.bitmap.proofs.insert.Reads as insert-reads
use Rattle.bitmap.specs.contracts.remove as remove
use Rattle.bitmap.proofs.remove.Reads as remove-reads
use Rattle.bitmap.specs.contracts.is_empty as is-empty
use Rattle.bitmap.proofs.is_empty.Reads as is-empty-reads
use Rattle.bitmap.specs.contracts.test as test
use Rattle.bitmap.proofs.test.Reads as test-reads
use Rattle.bitmap.specs.contracts.check as check
use Rattle.bitmap.proofs.check.Reads as check-reads

pub alloc-once : OneAnswer alloc.ended alloc-reads.Post
alloc-once κs a r₁ r₂ w₁ w₂ p q = once taken taken-one (λ l. (l, w₁.1)) p q

pub alloc-contiguous-once : OneAnswer alloc-contiguous.ended alloc-contiguous-reads.Post
alloc-contiguous-once κs a r₁ r₂ w₁ w₂ p q = once taken taken-one (λ l. (l, w₁.1)) p q

pub next-once : OneAnswer next.ended next-reads.Post
next-once κs a r₁ r₂ w₁ w₂ p q = once-read taken taken-one p q

pub dealloc-once : OneAnswer dealloc.ended dealloc-reads.Post
dealloc-once κs a r₁ r₂ w₁ w₂ p q = once changed changed-one (λ l. (l, w₁.1)) p q

pub dealloc-contiguous-once : OneAnswer dealloc-contiguous.ended dealloc-contiguous-reads.Post
dealloc-contiguous-once κs a r₁ r₂ w₁ w₂ p q = once changed changed-one (λ l. (l, w₁.1)) p q

pub dealloc-contiguous-old-once : OneAnswer dealloc-contiguous-old.ended dealloc-contiguous-old-reads.Post
dealloc-contiguous-old-once κs a r₁ r₂ w₁ w₂ p q = once changed changed-one (λ l. (l, w₁.1)) p q

pub insert-once : OneAnswer insert.ended insert-reads.Post
insert-once κs a r₁ r₂ w₁ w₂ p q = once changed changed-one (λ l. (l, w₁.1)) p q

pub remove-once : OneAnswer remove.ended remove-reads.Post
remove-once κs a r₁ r₂ w₁ w₂ p q = once changed changed-one (λ l. (l, w₁.1)) p q

pub is-empty-once : OneAnswer is-empty.ended is-empty-reads.Post
is-empty-once κs a r₁ r₂ w₁ w₂ p q = once-read told told-one p q

pub test-once : OneAnswer test.ended test-reads.Post
test-once κs a r₁ r₂ w₁ w₂ p q = once-read told told-one p q

pub check-once : OneAnswer check.ended check-reads.Post
check-once κs a r₁ r₂ w₁ w₂ p q = once-read told told-one p q

-- and of the number of a refusal
pub number-once : OneAnswer number.ended number-reads.Post
number-once κs a r₁ r₂ w₁ w₂ p q = (p ∙ sym q, refl)
