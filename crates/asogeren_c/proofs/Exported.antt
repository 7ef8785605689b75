-- The theorems are about the exported calls: each answers what `call_says` has, as two numbers, and leaves what `call_after` makes; and
-- refusal 0 means exactly that a value is given. The contract is that of the function of crates/asogeren, of which crates/laws proves it.
-- Assumes nothing.
use Rattle.std.proofs.Common.{◌≡◌}
use Rattle.std.specs.Prelude.{Some, None}
use Rattle.bitmap.specs.Contract.{Means}
use Rattle.image.specs.Calls.{write_says, write_after, read_says, read_after}
use Rattle.laws.specs.Call as C
use Rattle.laws.specs.Does.{Crosses, Exported}
use Rattle.laws.proofs.Exported as library
use Rattle.asogeren_c.specs.contracts.asogeren_alloc as alloc
use Rattle.asogeren_c.proofs.asogeren_alloc.Reads as alloc-reads
use Rattle.asogeren_c.specs.contracts.asogeren_alloc_contiguous as alloc-contiguous
use Rattle.asogeren_c.proofs.asogeren_alloc_contiguous.Reads as alloc-contiguous-reads
use Rattle.asogeren_c.specs.contracts.asogeren_alloc_contiguous_at as alloc-contiguous-at
use Rattle.asogeren_c.proofs.asogeren_alloc_contiguous_at.Reads as alloc-contiguous-at-reads
use Rattle.asogeren_c.specs.contracts.asogeren_next as next
use Rattle.asogeren_c.proofs.asogeren_next.Reads as next-reads
use Rattle.asogeren_c.specs.contracts.asogeren_dealloc as dealloc
use Rattle.asogeren_c.proofs.asogeren_dealloc.Reads as dealloc-reads
use Rattle.asogeren_c.specs.contracts.asogeren_dealloc_contiguous as dealloc-contiguous
use Rattle.asogeren_c.proofs.asogeren_dealloc_contiguous.Reads as dealloc-contiguous-reads
use Rattle.asogeren_c.specs.contracts.asogeren_dealloc_contiguous_old as dealloc-contiguous-old
use Rattle.asogeren_c.proofs.asogeren_dealloc_contiguous_old.Reads as dealloc-contiguous-old-reads
use Rattle.asogeren_c.specs.contracts.asogeren_insert as insert
use Rattle.asogeren_c.proofs.asogeren_insert.Reads as insert-reads
use Rattle.asogeren_c.specs.contracts.asogeren_remove as remove
use Rattle.asogeren_c.proofs.asogeren_remove.Reads as remove-reads
use Rattle.asogeren_c.specs.contracts.asogeren_is_empty as is-empty
use Rattle.asogeren_c.proofs.asogeren_is_empty.Reads as is-empty-reads
use Rattle.asogeren_c.specs.contracts.asogeren_test as test
use Rattle.asogeren_c.proofs.asogeren_test.Reads as test-reads
use Rattle.asogeren_c.specs.contracts.asogeren_check as check
use Rattle.asogeren_c.proofs.asogeren_check.Reads as check-reads
use Rattle.asogeren_c.specs.contracts.asogeren_image_write as image-write
use Rattle.asogeren_c.proofs.asogeren_image_write.Reads as image-write-reads
use Rattle.asogeren_c.specs.contracts.asogeren_image_read as image-read
use Rattle.asogeren_c.proofs.asogeren_image_read.Reads as image-read-reads

pub alloc-exported : Means alloc.ended alloc-reads.Post (λ κs a r e. Exported C.alloc r a.0.now e.0.now)
alloc-exported = library.alloc-exported

pub alloc-contiguous-exported : Means alloc-contiguous.ended alloc-contiguous-reads.Post (λ κs a r e. Exported (C.alloc_contiguous None a.1.0 a.1.1.0) r a.0.now e.0.now)
alloc-contiguous-exported = library.alloc-contiguous-exported

pub alloc-contiguous-at-exported : Means alloc-contiguous-at.ended alloc-contiguous-at-reads.Post (λ κs a r e. Exported (C.alloc_contiguous (Some a.1.0) a.1.1.0 a.1.1.1.0) r a.0.now e.0.now)
alloc-contiguous-at-exported = library.alloc-contiguous-at-exported

pub next-exported : Means next.ended next-reads.Post (λ κs a r e. Exported (C.next a.1.0) r a.0.now a.0.now)
next-exported = library.next-exported

pub dealloc-exported : Means dealloc.ended dealloc-reads.Post (λ κs a r e. Exported (C.dealloc a.1.0) r a.0.now e.0.now)
dealloc-exported = library.dealloc-exported

pub dealloc-contiguous-exported : Means dealloc-contiguous.ended dealloc-contiguous-reads.Post (λ κs a r e. Exported (C.dealloc_contiguous a.1.0 a.1.1.0) r a.0.now e.0.now)
dealloc-contiguous-exported = library.dealloc-contiguous-exported

pub dealloc-contiguous-old-exported : Means dealloc-contiguous-old.ended dealloc-contiguous-old-reads.Post (λ κs a r e. Exported (C.dealloc_contiguous_old a.1.0 a.1.1.0) r a.0.now e.0.now)
dealloc-contiguous-old-exported = library.dealloc-contiguous-old-exported

pub insert-exported : Means insert.ended insert-reads.Post (λ κs a r e. Exported (C.insert a.1.0 a.1.1.0) r a.0.now e.0.now)
insert-exported = library.insert-exported

pub remove-exported : Means remove.ended remove-reads.Post (λ κs a r e. Exported (C.remove a.1.0 a.1.1.0) r a.0.now e.0.now)
remove-exported = library.remove-exported

pub is-empty-exported : Means is-empty.ended is-empty-reads.Post (λ κs a r e. Exported C.is_empty r a.0.now a.0.now)
is-empty-exported = library.is-empty-exported

pub test-exported : Means test.ended test-reads.Post (λ κs a r e. Exported (C.test a.1.0) r a.0.now a.0.now)
test-exported = library.test-exported

pub check-exported : Means check.ended check-reads.Post (λ κs a r e. Exported C.check r a.0.now a.0.now)
check-exported = library.check-exported

pub image-write-exported : Means image-write.ended image-write-reads.Post (λ κs a r e.
    let s = a.0.now in
    let t = a.1.0.now in
    Crosses (write_says s t) r × (e.1.0.now ≡ write_after s t))
image-write-exported = library.image-write-exported

pub image-read-exported : Means image-read.ended image-read-reads.Post (λ κs a r e.
    let bytes = a.0.now in
    let t = a.1.0.now in
    Crosses (read_says bytes t) r × (e.1.0.now ≡ read_after bytes t))
image-read-exported = library.image-read-exported
