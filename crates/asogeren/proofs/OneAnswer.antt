-- One answer: of each call as C has it, two answers and two exits that both meet the generated contract for the same arguments are the
-- same. crates/asogeren_c has the theorems of the exports. Assumes nothing.
use mathlib.Core.Path.{◌≡◌, refl, sym, ap, ◌∙◌}
use mathlib.Core.List.{List}
use Prim.Native.Nat.{ℕ}
use Rattle.bitmap.specs.Contract.{OneAnswer}
use Rattle.asogeren.specs.contracts.asogeren_alloc as alloc
use Rattle.asogeren.proofs.asogeren_alloc.Reads as alloc-reads
use Rattle.asogeren.specs.contracts.asogeren_alloc_contiguous as alloc-contiguous
use Rattle.asogeren.proofs.asogeren_alloc_contiguous.Reads as alloc-contiguous-reads
use Rattle.asogeren.specs.contracts.asogeren_alloc_contiguous_at as alloc-contiguous-at
use Rattle.asogeren.proofs.asogeren_alloc_contiguous_at.Reads as alloc-contiguous-at-reads
use Rattle.asogeren.specs.contracts.asogeren_next as next
use Rattle.asogeren.proofs.asogeren_next.Reads as next-reads
use Rattle.asogeren.specs.contracts.asogeren_dealloc as dealloc
use Rattle.asogeren.proofs.asogeren_dealloc.Reads as dealloc-reads
use Rattle.asogeren.specs.contracts.asogeren_dealloc_contiguous as dealloc-contiguous
use Rattle.asogeren.proofs.asogeren_dealloc_contiguous.Reads as dealloc-contiguous-reads
use Rattle.asogeren.specs.contracts.asogeren_dealloc_contiguous_old as dealloc-contiguous-old
use Rattle.asogeren.proofs.asogeren_dealloc_contiguous_old.Reads as dealloc-contiguous-old-reads
use Rattle.asogeren.specs.contracts.asogeren_insert as insert
use Rattle.asogeren.proofs.asogeren_insert.Reads as insert-reads
use Rattle.asogeren.specs.contracts.asogeren_remove as remove
use Rattle.asogeren.proofs.asogeren_remove.Reads as remove-reads
use Rattle.asogeren.specs.contracts.asogeren_is_empty as is-empty
use Rattle.asogeren.proofs.asogeren_is_empty.Reads as is-empty-reads
use Rattle.asogeren.specs.contracts.asogeren_test as test
use Rattle.asogeren.proofs.asogeren_test.Reads as test-reads
use Rattle.asogeren.specs.contracts.asogeren_check as check
use Rattle.asogeren.proofs.asogeren_check.Reads as check-reads
use Rattle.asogeren.specs.contracts.asogeren_image_write as image-write
use Rattle.asogeren.proofs.asogeren_image_write.Reads as image-write-reads
use Rattle.asogeren.specs.contracts.asogeren_image_read as image-read
use Rattle.asogeren.proofs.asogeren_image_read.Reads as image-read-reads

-- one of each where equations give the result and what one slice holds, which stands in the last values as `last` says
once : {A C : Type 0} {r₁ r₂ r : A} {l₁ l₂ l : List ℕ} (last : List ℕ → C)
    → (r₁ ≡ r) × (l₁ ≡ l)
    → (r₂ ≡ r) × (l₂ ≡ l)
    → (r₁ ≡ r₂) × (last l₁ ≡ last l₂)
once last p q = (p.0 ∙ sym q.0, ap last (p.1 ∙ sym q.1))

pub alloc-once : OneAnswer alloc.ended alloc-reads.Post
alloc-once κs a r₁ r₂ w₁ w₂ p q = once (λ l. (l, w₁.1)) p q

pub alloc-contiguous-once : OneAnswer alloc-contiguous.ended alloc-contiguous-reads.Post
alloc-contiguous-once κs a r₁ r₂ w₁ w₂ p q = once (λ l. (l, w₁.1)) p q

pub alloc-contiguous-at-once : OneAnswer alloc-contiguous-at.ended alloc-contiguous-at-reads.Post
alloc-contiguous-at-once κs a r₁ r₂ w₁ w₂ p q = once (λ l. (l, w₁.1)) p q

pub next-once : OneAnswer next.ended next-reads.Post
next-once κs a r₁ r₂ w₁ w₂ p q = (p ∙ sym q, refl)

pub dealloc-once : OneAnswer dealloc.ended dealloc-reads.Post
dealloc-once κs a r₁ r₂ w₁ w₂ p q = once (λ l. (l, w₁.1)) p q

pub dealloc-contiguous-once : OneAnswer dealloc-contiguous.ended dealloc-contiguous-reads.Post
dealloc-contiguous-once κs a r₁ r₂ w₁ w₂ p q = once (λ l. (l, w₁.1)) p q

pub dealloc-contiguous-old-once : OneAnswer dealloc-contiguous-old.ended dealloc-contiguous-old-reads.Post
dealloc-contiguous-old-once κs a r₁ r₂ w₁ w₂ p q = once (λ l. (l, w₁.1)) p q

pub insert-once : OneAnswer insert.ended insert-reads.Post
insert-once κs a r₁ r₂ w₁ w₂ p q = once (λ l. (l, w₁.1)) p q

pub remove-once : OneAnswer remove.ended remove-reads.Post
remove-once κs a r₁ r₂ w₁ w₂ p q = once (λ l. (l, w₁.1)) p q

pub is-empty-once : OneAnswer is-empty.ended is-empty-reads.Post
is-empty-once κs a r₁ r₂ w₁ w₂ p q = (p ∙ sym q, refl)

pub test-once : OneAnswer test.ended test-reads.Post
test-once κs a r₁ r₂ w₁ w₂ p q = (p ∙ sym q, refl)

pub check-once : OneAnswer check.ended check-reads.Post
check-once κs a r₁ r₂ w₁ w₂ p q = (p ∙ sym q, refl)

pub image-write-once : OneAnswer image-write.ended image-write-reads.Post
image-write-once κs a r₁ r₂ w₁ w₂ p q = once (λ l. (w₁.0, (l, w₁.1.1))) p q

pub image-read-once : OneAnswer image-read.ended image-read-reads.Post
image-read-once κs a r₁ r₂ w₁ w₂ p q = once (λ l. (w₁.0, (l, w₁.1.1))) p q
